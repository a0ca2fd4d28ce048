-- Names with equal keys are not told apart.
use Rattle.std.proofs.Common.{◌≡◌, ℕ, zero, suc, ◌-◌, ◌&&◌, List, [], ◌∷◌, length, take, drop, refl, sym, ap, ◌∙◌, Result, Ok, Err, Option, Some, None}
use Rattle.std.specs.Prelude.{filter, find, nat_le, option_map, if◌then◌else◌}
use Rattle.std.specs.Ordering.{eq_by_cmp}
use Rattle.std.specs.Cmp.Lexicographic.{slice_cmp}
use Rattle.std.proofs.lemmas.List.{length-map}
use Rattle.repl_data.specs.declared.csn.Uid.{Uid}
use Rattle.repl_data.specs.declared.change.Rdn.{Rdn}
use Rattle.repl_data.specs.Order.{rdn_key, rdn_key_cmp}
use Rattle.repl_data.specs.Facts.{EntryFacts}
use Rattle.repl_data.specs.Presence.{is_child}
use Rattle.repl_data.specs.View.{DirectoryView, PresentEntry, child_of, children_entries}
use Rattle.dn_text.specs.declared.name.Dn.{Dn}
use Rattle.dn_text.specs.declared.fault.DnFault.{DnFault}
use Rattle.dn_text.specs.Below.{keys_of}
use Rattle.dn_text.specs.Reading.{dn_in}
use Rattle.dn_text.specs.declared.place.Place.{Place}
use Rattle.dn_text.specs.declared.place.Place.TheVariants.{There, Nearest}
use Rattle.dn_text.specs.Names.{count_above, rdns_above, below, place_of}
use Rattle.ldap_rules.specs.SameNames.{place_of_name, contenders_for}

pub same_contenders : (present : List EntryFacts) (parent : Uid) (a b : Rdn) → rdn_key a ≡ rdn_key b → contenders_for present parent a ≡ contenders_for present parent b
same_contenders present parent a b h = ap (λ k. filter (λ (e : EntryFacts). is_child parent e && eq_by_cmp rdn_key_cmp (rdn_key e.rdn) k) present) h

pub same_child : (v : DirectoryView) (parent : Uid) (a b : Rdn) → rdn_key a ≡ rdn_key b → child_of v parent a ≡ child_of v parent b
same_child v parent a b h = ap (λ k. option_map (λ (e : PresentEntry). e.id) (find (λ (e : PresentEntry). eq_by_cmp rdn_key_cmp (rdn_key e.shown) k) (children_entries v parent))) h

same_below : (v : DirectoryView) (a b : Rdn) (p : Place) → rdn_key a ≡ rdn_key b → below v a p ≡ below v b p
same_below v a b (There u) h = ap (λ (o : Option Uid). elim o [ None ↦ Nearest u | Some child ↦ There child ]) (same_child v u a b h)
same_below v a b (Nearest u) h = refl

same_place : (v : DirectoryView) (as_ bs : List Rdn) → keys_of as_ ≡ keys_of bs → place_of v as_ ≡ place_of v bs
unfolding place_of
same_place v [] [] h = refl
same_place v [] (b ∷ bs) h = let n : ⊥ = cc in absurd n
same_place v (a ∷ as_) [] h = let n : ⊥ = cc in absurd n
same_place v (a ∷ as_) (b ∷ bs) h =
    let first : rdn_key a ≡ rdn_key b = cc in
    let rest : keys_of as_ ≡ keys_of bs = cc in
    ap (below v a) (same_place v as_ bs rest) ∙ same_below v a b (place_of v bs) first

keys_dropped : (n : ℕ) (as_ bs : List Rdn) → keys_of as_ ≡ keys_of bs → keys_of (drop n as_) ≡ keys_of (drop n bs)
keys_dropped zero as_ bs h = h
keys_dropped (suc n) [] [] h = refl
keys_dropped (suc n) [] (b ∷ bs) h = let m : ⊥ = cc in absurd m
keys_dropped (suc n) (a ∷ as_) [] h = let m : ⊥ = cc in absurd m
keys_dropped (suc n) (a ∷ as_) (b ∷ bs) h = let rest : keys_of as_ ≡ keys_of bs = cc in keys_dropped n as_ bs rest

keys_taken : (n : ℕ) (as_ bs : List Rdn) → keys_of as_ ≡ keys_of bs → keys_of (take n as_) ≡ keys_of (take n bs)
keys_taken zero as_ bs h = refl
keys_taken (suc n) [] [] h = refl
keys_taken (suc n) [] (b ∷ bs) h = let m : ⊥ = cc in absurd m
keys_taken (suc n) (a ∷ as_) [] h = let m : ⊥ = cc in absurd m
keys_taken (suc n) (a ∷ as_) (b ∷ bs) h =
    let first : rdn_key a ≡ rdn_key b = cc in
    let rest : keys_of as_ ≡ keys_of bs = cc in
    λ i. first i ∷ keys_taken n as_ bs rest i

same_count : (x y suffix : Dn) → keys_of x.rdns ≡ keys_of y.rdns → count_above x suffix ≡ count_above y suffix
same_count x y suffix h =
    let l : length x.rdns ≡ length y.rdns = sym (length-map x.rdns rdn_key) ∙ ap length h ∙ length-map y.rdns rdn_key in
    let d : (n : ℕ) → keys_of (drop n x.rdns) ≡ keys_of (drop n y.rdns) = λ n. keys_dropped n x.rdns y.rdns h in
    λ i. counted (l i) (λ n. d n i)
  where
    counted : ℕ → (ℕ → List (List (List ℕ × List ℕ))) → Option ℕ
    counted len keys =
        let count = len - length suffix.rdns in
        if nat_le (length suffix.rdns) len && eq_by_cmp (slice_cmp rdn_key_cmp) (keys count) (keys_of suffix.rdns) then Some count else None

pub same_leads : (v : DirectoryView) (x y : Dn) → keys_of x.rdns ≡ keys_of y.rdns → place_of_name v x ≡ place_of_name v y
same_leads v x y h = by (dn_in v.suffix)
  where
    at : (o : Option ℕ) → option_map (place_of v) (option_map (λ count. take count x.rdns) o) ≡ option_map (place_of v) (option_map (λ count. take count y.rdns) o)
    at None = refl
    at (Some count) = ap Some (same_place v (take count x.rdns) (take count y.rdns) (keys_taken count x.rdns y.rdns h))

    by : (s : Result Dn DnFault) → option_map (place_of v) (rdns_above s x) ≡ option_map (place_of v) (rdns_above s y)
    by (Err e) = refl
    by (Ok suffix) = at (count_above x suffix) ∙ ap (λ (o : Option ℕ). option_map (place_of v) (option_map (λ count. take count y.rdns) o)) (same_count x y suffix h)
