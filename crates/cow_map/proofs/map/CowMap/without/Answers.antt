use Rattle.std.proofs.Common.{rules, ◌≡◌, sym, ap, ◌∙◌, subst}
use Rattle.std.specs.BTreeMap.{is_at}
use Rattle.std.specs.Map.{remove_entry}
use Rattle.cow_map.specs.Rows.{IsRising, all_rows, value_at}
use Rattle.cow_map.proofs.Entries.{rising_remove}
use Rattle.cow_map.proofs.Values.{value_at-remove_entry}
use Rattle.cow_map.proofs.map.CowMap.without.Goals as goal

pub invariant_of-result : goal.invariant_of-result
invariant_of-result g c =
    let whole : all_rows c.in_ok-of-in-Some.field-0 ≡ remove_entry (is_at (g.K.Ord.cmp c.args.key.now)) c.args.self.now = search rules in
    let rising : IsRising g.K.Ord.cmp c.args.self.now = subst (λ z. IsRising g.K.Ord.cmp z) c.self.view_is c.self.invariant in
    subst (λ z. IsRising g.K.Ord.cmp z) (sym whole) (rising_remove g.K.Ord.cmp c.args.key.now c.args.self.now rising)

pub returns-in_ok-of-in-Some-clause-values : goal.returns-in_ok-of-in-Some-clause-values
returns-in_ok-of-in-Some-clause-values g c = λ q.
    let whole : all_rows c.in_ok-of-in-Some.field-0 ≡ remove_entry (is_at (g.K.Ord.cmp c.args.key.now)) c.args.self.now = search rules in
    let rising : IsRising g.K.Ord.cmp c.args.self.now = subst (λ z. IsRising g.K.Ord.cmp z) c.self.view_is c.self.invariant in
    ap (λ z. value_at g.K.Ord.cmp z q) whole ∙ value_at-remove_entry g.met.K.Ord.total c.args.self.now c.args.key.now q rising

pub returns-in_ok-of-in-Some-clause-rising : goal.returns-in_ok-of-in-Some-clause-rising
returns-in_ok-of-in-Some-clause-rising g c =
    let whole : all_rows c.in_ok-of-in-Some.field-0 ≡ remove_entry (is_at (g.K.Ord.cmp c.args.key.now)) c.args.self.now = search rules in
    let rising : IsRising g.K.Ord.cmp c.args.self.now = subst (λ z. IsRising g.K.Ord.cmp z) c.self.view_is c.self.invariant in
    subst (λ z. IsRising g.K.Ord.cmp z) (sym whole) (rising_remove g.K.Ord.cmp c.args.key.now c.args.self.now rising)

pub returns-in_ok-share-in-None-clause-values : goal.returns-in_ok-share-in-None-clause-values
returns-in_ok-share-in-None-clause-values g c = λ q.
    let whole : all_rows c.in_ok-share-in-None.field-0 ≡ remove_entry (is_at (g.K.Ord.cmp c.args.key.now)) c.args.self.now = search rules in
    let rising : IsRising g.K.Ord.cmp c.args.self.now = subst (λ z. IsRising g.K.Ord.cmp z) c.self.view_is c.self.invariant in
    ap (λ z. value_at g.K.Ord.cmp z q) whole ∙ value_at-remove_entry g.met.K.Ord.total c.args.self.now c.args.key.now q rising
