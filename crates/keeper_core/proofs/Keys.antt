-- Keys of rows are in a total order that tells them apart.
use Rattle.std.proofs.Common.{◌≡◌, ℕ, true, false, refl, sym, ap, ◌∙◌, List}
use Rattle.std.proofs.lemmas.Cmp.{nat_cmp_total, on_total, then_total, tied_itself}
use Rattle.std.proofs.lemmas.Map.Lookups.{exact_unsigned, exact_pairs}
use Rattle.std.specs.Cmp.{IsTotalOrder}
use Rattle.std.specs.declared.cmp.Ordering.{Ordering}
use Rattle.std.specs.declared.cmp.Ordering.TheVariants.{Less, Equal, Greater}
use Rattle.std.specs.Ordering.{nat_cmp, ordering_reverse, is_lt, is_eq}
use Rattle.repl_data.specs.Order.{bytes_cmp}
use Rattle.repl_data.proofs.Orders.{bytes_total, bytes_exact}
use Rattle.repl_data.proofs.InOrder.{is_equal}
use Rattle.repl_data.proofs.KeyPlaces.{is_less}
use Rattle.keeper_core.specs.declared.row.RowKey.{RowKey}
use Rattle.keeper_core.specs.Rows.{key_cmp, key_eq}

pub key_total : IsTotalOrder key_cmp
key_total = then_total (on_total (λ (k : RowKey). k.kind) nat_cmp_total) (on_total (λ (k : RowKey). k.key) bytes_total)

pub key_exact : (a b : RowKey) → key_cmp a b ≡ Equal → a ≡ b
key_exact a b h =
    ap (λ (p : ℕ × List ℕ). record { kind = p.0; key = p.1 })
    (exact_pairs nat_cmp bytes_cmp exact_unsigned bytes_exact (a.kind, a.key) (b.kind, b.key) h)

less_from : (o : Ordering) → is_lt (ordering_reverse o) ≡ false → is_eq o ≡ false → o ≡ Less
less_from Less e f = refl
less_from Equal e f = absurd cc
less_from Greater e f = absurd cc

turned : (a b : RowKey) (o : Ordering) → key_cmp a b ≡ o → key_cmp b a ≡ ordering_reverse o
turned a b o h = key_total.antisymm b a ∙ ap ordering_reverse h

pub equal_is : (a b : RowKey) → key_eq a b ≡ true → key_cmp a b ≡ Equal
equal_is a b h = is_equal (key_cmp a b) h

pub same_key : (a b : RowKey) → key_eq a b ≡ true → a ≡ b
same_key a b h = key_exact a b (equal_is a b h)

pub key_eq-self : (a : RowKey) → key_eq a a ≡ true
key_eq-self a = ap is_eq (tied_itself key_total a)

pub below_is : (a b : RowKey) → is_lt (key_cmp a b) ≡ true → key_cmp b a ≡ Greater
below_is a b h = turned a b Less (is_less (key_cmp a b) h)

pub above_is : (a b : RowKey) → is_lt (key_cmp a b) ≡ false → key_eq b a ≡ false → key_cmp b a ≡ Less
above_is a b h n = less_from (key_cmp b a) (ap is_lt (sym (key_total.antisymm a b)) ∙ h) n
