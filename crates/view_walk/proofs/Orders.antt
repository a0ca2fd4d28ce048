-- The order of a listing: a base is before all below it, and all within one child before all within a later one.
use Rattle.std.proofs.Common.{◌≡◌, ℕ, List, [], ◌∷◌, ◌++◌, refl, sym, ap, ◌∙◌}
use Rattle.std.specs.Prelude.{true}
use Rattle.std.specs.Cmp.{IsTotalOrder}
use Rattle.std.specs.Cmp.Lexicographic.{slice_cmp}
use Rattle.std.specs.declared.cmp.Ordering.{Ordering}
use Rattle.std.specs.declared.cmp.Ordering.TheVariants.{Less, Equal, Greater}
use Rattle.std.specs.Ordering.{ordering_then}
use Rattle.std.proofs.lemmas.Cmp.{tied_itself, then_total, on_total, lists_total}
use Rattle.repl_data.specs.declared.csn.Uid.{Uid}
use Rattle.repl_data.specs.Order.{uid_cmp, rdn_key, rdn_key_cmp}
use Rattle.repl_data.specs.View.{DirectoryView, PresentEntry, path_key_cmp, shown_key_cmp}
use Rattle.repl_data.proofs.Orders.{uid_total, rdn_key_total}
use Rattle.view_walk.specs.Tree.{IsNamedTree}
use Rattle.view_walk.specs.Walk.{is_within}
use Rattle.view_walk.proofs.Within.{is_under, IsChild}
use Rattle.view_walk.proofs.Keys.{Keys, keys, under_keys, child_keys}

pub path_total : IsTotalOrder path_key_cmp
path_total = then_total (on_total (λ (k : Keys × Uid). k.0) (lists_total rdn_key_total)) (on_total (λ (k : Keys × Uid). k.1) uid_total)

pub shown_total : IsTotalOrder shown_key_cmp
shown_total = then_total (on_total (λ (k : List (List ℕ × List ℕ) × Uid). k.0) rdn_key_total) (on_total (λ (k : List (List ℕ × List ℕ) × Uid). k.1) uid_total)

pub last_equal : (a b : Ordering) → ordering_then a b ≡ Equal → b ≡ Equal
last_equal Less b h = let e : Less ≡ Equal = h in cc
last_equal Equal b h = h
last_equal Greater b h = let e : Greater ≡ Equal = h in cc

-- of two ids, by their paths and then by themselves
abbrev pub IsBefore : DirectoryView → Uid → Uid → Type 0
IsBefore v a b = path_key_cmp (keys v a, a) (keys v b, b) ≡ Less

pub before_none : (v : DirectoryView) (u : Uid) → IsBefore v u u → ⊥
before_none v u h = let e : Equal ≡ Less = sym (tied_itself path_total (keys v u, u)) ∙ h in cc

pub before_trans : (v : DirectoryView) (a b c : Uid) → IsBefore v a b → IsBefore v b c → IsBefore v a c
before_trans v a b c h k = path_total.trans (keys v a, a) (keys v b, b) (keys v c, c) h k

-- ---- lists of keys with a common front
front_less : (ks : Keys) (k : List (List ℕ × List ℕ)) (rest : Keys) → slice_cmp rdn_key_cmp ks (ks ++ k ∷ rest) ≡ Less
front_less [] k rest = refl
front_less (j ∷ ks) k rest = ap (λ o. ordering_then o (slice_cmp rdn_key_cmp ks (ks ++ k ∷ rest))) (tied_itself rdn_key_total j) ∙ front_less ks k rest

parted_less : (ks : Keys) (j k : List (List ℕ × List ℕ)) (r s : Keys) → rdn_key_cmp j k ≡ Less → slice_cmp rdn_key_cmp (ks ++ j ∷ r) (ks ++ k ∷ s) ≡ Less
parted_less [] j k r s h = ap (λ o. ordering_then o (slice_cmp rdn_key_cmp r s)) h
parted_less (i ∷ ks) j k r s h = ap (λ o. ordering_then o (slice_cmp rdn_key_cmp (ks ++ j ∷ r) (ks ++ k ∷ s))) (tied_itself rdn_key_total i) ∙ parted_less ks j k r s h

module _ (v : DirectoryView) (t : IsNamedTree v) where
  -- A BASE COMES BEFORE ALL BELOW IT
  pub base_first : (base u : Uid) → is_under v base u ≡ true → IsBefore v base u
  base_first base u h =
      let k = under_keys v t base u h in
      ap (λ o. ordering_then o (uid_cmp base u)) (ap (slice_cmp rdn_key_cmp (keys v base)) k.is ∙ front_less (keys v base) k.next k.rest)

  -- ALL WITHIN ONE CHILD COME BEFORE ALL WITHIN A LATER ONE
  pub child_first : (base : Uid) (c d : PresentEntry) → IsChild v t base c → IsChild v t base d → rdn_key_cmp (rdn_key c.shown) (rdn_key d.shown) ≡ Less
      → (a b : Uid) → is_within v c.id a ≡ true → is_within v d.id b ≡ true → IsBefore v a b
  child_first base c d of_c of_d less a b in_c in_d =
      let j = child_keys v t base c of_c a in_c in
      let k = child_keys v t base d of_d b in_d in
      ap (λ o. ordering_then o (uid_cmp a b))
      ((λ i. slice_cmp rdn_key_cmp (j.1 i) (k.1 i)) ∙ parted_less (keys v base) (rdn_key c.shown) (rdn_key d.shown) j.0 k.0 less)
