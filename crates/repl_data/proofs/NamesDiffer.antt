-- No two present entries with one parent show the same RDN.
use Rattle.std.proofs.Common.{◌≡◌, ℕ, List, [], ◌∷◌, refl, sym, ap, subst, ◌∙◌, inl, inr}
use Rattle.std.specs.Prelude.{Bool, true, false, cond, not, ◌&&◌, ◌||◌, map, codes, find, Option, Some, unwrap_or, if◌then◌else◌}
use Rattle.std.specs.List.{list_any}
use Rattle.std.specs.declared.cmp.Ordering.{Ordering}
use Rattle.std.specs.declared.cmp.Ordering.TheVariants.{Less, Equal, Greater}
use Rattle.std.specs.Ordering.{is_eq, is_lt, ordering_reverse}
use Rattle.repl_data.specs.declared.csn.Uid.{Uid}
use Rattle.repl_data.specs.declared.change.Ava.{Ava}
use Rattle.repl_data.specs.Order.{csn_cmp, csn_lt, bytes_cmp, rdn_key, rdn_key_cmp, same_rdn, put_by, by_order}
use Rattle.repl_data.specs.Text.{uid_text, IsInRange}
use Rattle.repl_data.specs.Facts.{EntryFacts}
use Rattle.repl_data.specs.Presence.{is_live, is_child, StandsIn}
use Rattle.repl_data.specs.Names.{is_id_part, has_id, contends_with, is_before, has_name, id_ava, with_id, shown_rdn}
use Rattle.repl_data.proofs.Orders.{split, csn_total, csn_exact, uid_exact, rdn_key_total}
use Rattle.repl_data.proofs.InOrder.{is_equal}
use Rattle.std.proofs.lemmas.Cmp.{tied_itself}
use Rattle.repl_data.proofs.Sound.{not_both, both_true, not_true, neither}
use Rattle.repl_data.proofs.Bytes.{uid_text-exact}
use Rattle.repl_data.proofs.Bools.{or_true}

abbrev part : Ava → List ℕ × List ℕ
part a = (a.attr.name, a.val.key)

pub with_id-any : (u : Uid) (avas : List Ava) → list_any is_id_part (map part (put_by (λ (a : Ava). a.attr.name) bytes_cmp (id_ava u) avas)) ≡ true
with_id-any u [] = refl
with_id-any u (a ∷ avas) = by (bytes_cmp (codes "nsuniqueid") a.attr.name) (with_id-any u avas)
  where
    by : (o : Ordering) → list_any is_id_part (map part (put_by (λ (a : Ava). a.attr.name) bytes_cmp (id_ava u) avas)) ≡ true → list_any is_id_part (map part (by_order o (id_ava u ∷ a ∷ avas) (id_ava u ∷ avas) (a ∷ put_by (λ (a : Ava). a.attr.name) bytes_cmp (id_ava u) avas))) ≡ true
    by Less g = refl
    by Equal g = refl
    by Greater g = ap (λ b. is_id_part (part a) || b) g ∙ or_true (is_id_part (part a))

-- a name with an id shows that id
with_id-find : (u : Uid) (avas : List Ava) → list_any is_id_part (map part avas) ≡ false → find is_id_part (map part (put_by (λ (a : Ava). a.attr.name) bytes_cmp (id_ava u) avas)) ≡ Some (codes "nsuniqueid", uid_text u)
with_id-find u [] h = refl
with_id-find u (a ∷ avas) h = let h' = neither _ _ h in by (bytes_cmp (codes "nsuniqueid") a.attr.name) h'.0 (with_id-find u avas h'.1)
  where
    by : (o : Ordering) → is_id_part (part a) ≡ false → find is_id_part (map part (put_by (λ (a : Ava). a.attr.name) bytes_cmp (id_ava u) avas)) ≡ Some (codes "nsuniqueid", uid_text u) → find is_id_part (map part (by_order o (id_ava u ∷ a ∷ avas) (id_ava u ∷ avas) (a ∷ put_by (λ (a : Ava). a.attr.name) bytes_cmp (id_ava u) avas))) ≡ Some (codes "nsuniqueid", uid_text u)
    by Less n g = refl
    by Equal n g = refl
    by Greater n g = ap (λ b. cond b (Some (part a)) (find is_id_part (map part (put_by (λ (a : Ava). a.attr.name) bytes_cmp (id_ava u) avas)))) n ∙ g

stands_any : (q : EntryFacts → Bool) (e : EntryFacts) (es : List EntryFacts) → StandsIn e es → list_any q es ≡ false → q e ≡ false
stands_any q e [] m h = elim m [ ]
stands_any q e (f ∷ es) (inl p) h = ap q p ∙ (neither _ _ h).0
stands_any q e (f ∷ es) (inr m) h = stands_any q e es m (neither _ _ h).1

-- of two entries with different names' CSNs one is before the other
either_before : (a b : EntryFacts) → is_before a b ≡ false → is_before b a ≡ false → a.named ≡ b.named
either_before a b h g = by (is_live a) (is_live b) h g
  where
    level : csn_lt a.named b.named ≡ false → csn_lt b.named a.named ≡ false → a.named ≡ b.named
    level h g =
        split (csn_cmp a.named b.named)
        (λ e. absurd (not_both _ (ap is_lt e) h))
        (λ e. csn_exact a.named b.named e)
        (λ e. absurd (not_both _ (ap is_lt (csn_total.antisymm b.named a.named ∙ ap ordering_reverse e)) g))

    by : (s t : Bool) → ((s && not t) || ((s || not t) && csn_lt a.named b.named)) ≡ false → ((t && not s) || ((t || not s) && csn_lt b.named a.named)) ≡ false → a.named ≡ b.named
    by true true h g = level h g
    by true false h g = absurd (not_both true refl h)
    by false true h g = absurd (not_both true refl g)
    by false false h g = level h g

-- among the present entries, one that has its name has no contender before it
none_before : (present : List EntryFacts) (e f : EntryFacts) → StandsIn f present → has_name present e ≡ true → contends_with e f ≡ true → is_before f e ≡ false
none_before present e f m h c = by (contends_with e f) c (stands_any (λ x. contends_with e x && is_before x e) f present m (not_true _ h))
  where
    by : (b : Bool) → b ≡ true → (b && is_before f e) ≡ false → is_before f e ≡ false
    by true d k = k
    by false d k = absurd (not_both false d refl)

module _ (p : Uid) (e f : EntryFacts) (of_e : is_child p e ≡ true) (of_f : is_child p f ≡ true) where
  contending : rdn_key e.rdn ≡ rdn_key f.rdn → contends_with e f ≡ true
  contending k =
      let parent : e.parent ≡ p = uid_exact e.parent p (is_equal _ (both_true _ _ of_e).0) in
      let child : is_child e.parent f ≡ true = subst (λ w. is_child w f ≡ true) (sym parent) of_f in
      let rdn : same_rdn e.rdn f.rdn ≡ true = subst (λ w. is_eq (rdn_key_cmp (rdn_key e.rdn) w) ≡ true) k (ap is_eq (tied_itself rdn_key_total (rdn_key e.rdn))) in
      λ i. both_is (child i) (rdn i)
    where
      both_is : Bool → Bool → Bool
      both_is a b = a && b

-- NO TWO CHILDREN OF ONE ENTRY SHOW THE SAME RDN
pub shown_differ : (present : List EntryFacts) (p : Uid) (e f : EntryFacts) → StandsIn e present → StandsIn f present
    → is_child p e ≡ true → is_child p f ≡ true → has_id e.rdn ≡ false → has_id f.rdn ≡ false
    → IsInRange e.id.csn → IsInRange f.id.csn → (e.named ≡ f.named → e.id ≡ f.id)
    → rdn_key (shown_rdn present e) ≡ rdn_key (shown_rdn present f) → e.id ≡ f.id
shown_differ present p e f in_e in_f of_e of_f no_e no_f range_e range_f named same = by (has_name present e) (has_name present f) refl refl same
  where
    by : (s t : Bool) → has_name present e ≡ s → has_name present f ≡ t → rdn_key (if s then e.rdn else with_id e.id e.rdn) ≡ rdn_key (if t then f.rdn else with_id f.id f.rdn) → e.id ≡ f.id
    by true true h g k =
        named (either_before e f
        (none_before present f e in_e g (contending p f e of_f of_e (sym k)))
        (none_before present e f in_f h (contending p e f of_e of_f k)))
    by true false h g k = absurd (not_both _ (with_id-any f.id f.rdn.avas) (sym (ap (list_any is_id_part) k) ∙ no_e))
    by false true h g k = absurd (not_both _ (with_id-any e.id e.rdn.avas) (ap (list_any is_id_part) k ∙ no_f))
    by false false h g k =
        let found : Some (codes "nsuniqueid", uid_text e.id) ≡ Some (codes "nsuniqueid", uid_text f.id) =
        sym (with_id-find e.id e.rdn.avas no_e) ∙ ap (find is_id_part) k ∙ with_id-find f.id f.rdn.avas no_f in
        uid_text-exact e.id f.id range_e range_f (ap (λ (o : Option (List ℕ × List ℕ)). (unwrap_or o ([], [])).1) found)
