-- Names with the same keys, and names below others.
use Rattle.std.proofs.Common.{◌≡◌, ℕ, zero, suc, ◌+◌, ◌-◌, ◌≤◌, Bool, true, false, cond, ◌&&◌, List, length, drop, refl, sym, ap, ◌∙◌, arith, Option, Some, None, IfSome, nat_le, nat_eq}
use Rattle.std.proofs.lemmas.Bool.Decides.{nat_tests}
use Rattle.std.proofs.lemmas.Cmp.{tied_itself, lists_total}
use Rattle.std.specs.Ordering.{is_eq}
use Rattle.std.specs.FinMap.{slice_cmp-IsAntisymmetric}
use Rattle.std.specs.Cmp.Lexicographic.{slice_cmp}
use Rattle.std.proofs.lemmas.List.{length-map}
use Rattle.repl_data.specs.declared.change.Rdn.{Rdn}
use Rattle.repl_data.specs.Order.{rdn_key_cmp}
use Rattle.repl_data.proofs.Orders.{rdn_key_exact, rdn_key_total}
use Rattle.repl_data.proofs.InOrder.{is_equal}
use Rattle.repl_data.proofs.Bools.{and-left, and-right, and-both}
use Rattle.dn_text.specs.declared.name.Dn.{Dn}
use Rattle.dn_text.specs.Below.{keys_of, StandsAbove}
use Rattle.dn_text.specs.Names.{same_keys, count_above}

keys_same : (a b : List Rdn) → same_keys a b ≡ true → keys_of a ≡ keys_of b
keys_same a b h = slice_cmp-IsAntisymmetric rdn_key_exact (keys_of a) (keys_of b) (is_equal (slice_cmp rdn_key_cmp (keys_of a) (keys_of b)) h)

pub same_from_keys : (a b : List Rdn) → keys_of a ≡ keys_of b → true ≡ same_keys a b
same_from_keys a b h =
    sym (ap (λ k. is_eq (slice_cmp rdn_key_cmp k (keys_of b))) h ∙ ap is_eq (tied_itself (lists_total rdn_key_total) (keys_of b)))

le_true : (m n : ℕ) → m ≤ n → nat_le m n ≡ true
le_true m n h = grind (arith, nat_tests)

le_from : (m n : ℕ) → nat_le m n ≡ true → m ≤ n
le_from m n h = grind (arith, nat_tests)

counted : (name suffix : Dn) (count : ℕ) → StandsAbove name suffix count → Some count ≡ count_above name suffix
counted name suffix count h =
    let l : count + length suffix.rdns ≡ length name.rdns = h.lengths in
    let e : length name.rdns - length suffix.rdns ≡ count = omega arith in
    let le : nat_le (length suffix.rdns) (length name.rdns) ≡ true = le_true _ _ (omega arith) in
    let s : same_keys (drop count name.rdns) suffix.rdns ≡ true = sym (same_from_keys (drop count name.rdns) suffix.rdns h.same) in
    sym (ap (λ (n : ℕ). cond (nat_le (length suffix.rdns) (length name.rdns) && same_keys (drop n name.rdns) suffix.rdns) (Some n) None) e
    ∙ ap (λ (b : Bool). cond b (Some count) None) (and-both _ _ le s))

not_counted : (name suffix : Dn) → ((count : ℕ) → StandsAbove name suffix count → ⊥) → None ≡ count_above name suffix
not_counted name suffix h =
    by (nat_le (length suffix.rdns) (length name.rdns) && same_keys (drop (length name.rdns - length suffix.rdns) name.rdns) suffix.rdns)
    (λ t. h (length name.rdns - length suffix.rdns) (record {
      lengths = let l : length suffix.rdns ≤ length name.rdns = le_from _ _ (and-left _ _ t) in omega arith;
      same = keys_same _ _ (and-right _ _ t);
    }))
  where
    by : (b : Bool) → (b ≡ true → ⊥) → None ≡ cond b (Some (length name.rdns - length suffix.rdns)) None
    by true f = absurd (f refl)
    by false f = refl

pub counted_as : (name suffix : Dn) (r : Option ℕ) → IfSome r (StandsAbove name suffix) → (r ≡ None → (count : ℕ) → StandsAbove name suffix count → ⊥) → r ≡ count_above name suffix
counted_as name suffix (Some count) h g = counted name suffix count h
counted_as name suffix None h g = not_counted name suffix (g refl)

pub differ : (a b : List Rdn) → (keys_of a ≡ keys_of b → ⊥) → false ≡ same_keys a b
differ a b f = by (same_keys a b) (λ h. f (keys_same a b h))
  where
    by : (t : Bool) → (t ≡ true → ⊥) → false ≡ t
    by true g = absurd (g refl)
    by false g = refl

pub as_long : (a b : List Rdn) → keys_of a ≡ keys_of b → length a ≡ length b
as_long a b h = sym (length-map a _) ∙ ap length h ∙ length-map b _

pub zero_count : (a b : Dn) (count : ℕ) → StandsAbove a b count → nat_eq count 0 ≡ same_keys a.rdns b.rdns
zero_count a b zero h = same_from_keys a.rdns b.rdns h.same
zero_count a b (suc n) h =
    let f : nat_eq (suc n) 0 ≡ false = grind (arith, nat_tests) in
    let l : suc n + length b.rdns ≡ length a.rdns = h.lengths in
    f ∙ differ a.rdns b.rdns (λ e. let m : length a.rdns ≡ length b.rdns = as_long a.rdns b.rdns e in absurd (omega arith))

pub no_count : (a b : Dn) → ((count : ℕ) → StandsAbove a b count → ⊥) → false ≡ same_keys a.rdns b.rdns
no_count a b h = differ a.rdns b.rdns (λ e. let l : length a.rdns ≡ length b.rdns = as_long a.rdns b.rdns e in h 0 (record { lengths = omega arith; same = e }))
