use Rattle.std.proofs.Common.{◌≡◌, ◌<◌, sym, subst, ◌∙◌, arith, Contains, get_or, length}
use Rattle.repl_data.specs.Order.{zero_csn}
use Rattle.pending_core.proofs.Rising.{remove_without, IsRising-remove}
use Rattle.pending_core.proofs.pending.take_out.Goals as goal

pub remove-requires : goal.remove-requires
remove-requires c =
    let h = c.place_of-at.ensures.found (subst (λ xs. Contains xs c.args.csn) (sym c.as_slice.ensures.value) c.requires.held) in
    let n = c.as_slice.ensures.len in omega (arith, h.0)

pub returns-clause-value : goal.returns-clause-value
returns-clause-value c =
    let h = c.place_of-at.ensures.found (subst (λ xs. Contains xs c.args.csn) (sym c.as_slice.ensures.value) c.requires.held) in
    let l = subst (λ xs. c.place_of-at.result < length xs) c.as_slice.ensures.value h.0 in
    let e = subst (λ xs. get_or xs c.place_of-at.result zero_csn ≡ c.args.csn) c.as_slice.ensures.value h.1 in
    c.remove.ensures.items ∙ remove_without c.args.held.now.items c.args.csn c.place_of-at.result c.requires.rising l e

pub returns-clause-rising : goal.returns-clause-rising
returns-clause-rising c =
    let h = c.place_of-at.ensures.found (subst (λ xs. Contains xs c.args.csn) (sym c.as_slice.ensures.value) c.requires.held) in
    let l = subst (λ xs. c.place_of-at.result < length xs) c.as_slice.ensures.value h.0 in
    rw c.remove.ensures.items (IsRising-remove c.args.held.now.items c.place_of-at.result c.requires.rising l)
