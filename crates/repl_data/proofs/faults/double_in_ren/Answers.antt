use Rattle.std.proofs.Common.{◌≡◌, length, sym, ◌∙◌, arith}
use Rattle.repl_data.specs.declared.change.Ava.{Ava}
use Rattle.repl_data.specs.Places.{first_of}
use Rattle.repl_data.specs.Check.{part_falls}
use Rattle.repl_data.proofs.CheckLaws.{position_from-append, bounded, length-falls}
use Rattle.repl_data.proofs.faults.double_in_ren.Goals as goal

pub first-requires : goal.first-requires
first-requires c =
    let l : length (part_falls c.args.dropped.now) ≡ length c.args.dropped.now = length-falls (λ (a : Ava). a.attr.name) c.args.dropped.now in
    bounded (λ b. b) (part_falls c.args.dropped.now) (length c.args.parts.now) c.first_fall-among_dropped.result c.first_fall-among_dropped.ensures (omega arith)

pub returns : goal.returns
returns c =
    let count = sym (length-falls (λ (a : Ava). a.attr.name) c.args.parts.now) in
    c.first.ensures ∙ (λ i. first_of (c.first_fall.ensures i) (count i) (c.first_fall-among_dropped.ensures i))
    ∙ sym (position_from-append (λ b. b) (part_falls c.args.parts.now) (part_falls c.args.dropped.now))
