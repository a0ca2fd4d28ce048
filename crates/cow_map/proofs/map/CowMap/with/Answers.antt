use Rattle.std.proofs.Common.{rules, ◌≡◌, sym, ap, ◌∙◌, subst}
use Rattle.std.specs.BTreeMap.{insert_entry}
use Rattle.cow_map.specs.Rows.{IsRising, all_rows, value_at}
use Rattle.cow_map.proofs.Entries.{rising_insert}
use Rattle.cow_map.proofs.Values.{value_at-insert_entry}
use Rattle.cow_map.proofs.map.CowMap.with.Goals as goal

pub invariant_of-result : goal.invariant_of-result
invariant_of-result g c =
    let whole : all_rows c.in_ok-of.field-0 ≡ insert_entry g.K.Ord.cmp c.args.self.now c.args.key c.args.value = search rules in
    let rising : IsRising g.K.Ord.cmp c.args.self.now = subst (λ z. IsRising g.K.Ord.cmp z) c.self.view_is c.self.invariant in
    subst (λ z. IsRising g.K.Ord.cmp z) (sym whole) (rising_insert g.K.Ord.cmp c.args.key g.met.K.Ord.total c.args.value c.args.self.now rising)

pub returns-clause-values : goal.returns-clause-values
returns-clause-values g c = λ q.
    let whole : all_rows c.in_ok-of.field-0 ≡ insert_entry g.K.Ord.cmp c.args.self.now c.args.key c.args.value = search rules in
    ap (λ z. value_at g.K.Ord.cmp z q) whole ∙ value_at-insert_entry g.met.K.Ord.total c.args.self.now c.args.key c.args.value q

pub returns-clause-rising : goal.returns-clause-rising
returns-clause-rising g c =
    let whole : all_rows c.in_ok-of.field-0 ≡ insert_entry g.K.Ord.cmp c.args.self.now c.args.key c.args.value = search rules in
    let rising : IsRising g.K.Ord.cmp c.args.self.now = subst (λ z. IsRising g.K.Ord.cmp z) c.self.view_is c.self.invariant in
    subst (λ z. IsRising g.K.Ord.cmp z) (sym whole) (rising_insert g.K.Ord.cmp c.args.key g.met.K.Ord.total c.args.value c.args.self.now rising)
