-- A name that was read can be told from its text.
use Rattle.std.proofs.Common.{◌≡◌, ◌≢◌, ℕ, ◌+◌, Bool, true, false, cond, List, [], ◌∷◌, insert, bytes_eq, Ok, refl, sym, ap, subst, ◌∙◌, add-one}
use Rattle.std.specs.Prelude.{◌||◌}
use Rattle.std.proofs.lemmas.Bool.{false≢true}
use Rattle.std.proofs.lemmas.Cmp.{nat_list_cmp_total}
use Rattle.std.proofs.lemmas.Map.Text.{is_eq-slice_cmp}
use Rattle.std.specs.declared.cmp.Ordering.{Ordering}
use Rattle.std.specs.declared.cmp.Ordering.TheVariants.{Less, Equal, Greater}
use Rattle.std.specs.Ordering.{nat_cmp, is_lt, is_eq, ordering_reverse}
use Rattle.std.specs.Cmp.Lexicographic.{slice_cmp}
use Rattle.repl_data.specs.declared.change.Ava.{Ava}
use Rattle.repl_data.specs.declared.change.Rdn.{Rdn}
use Rattle.repl_data.proofs.Bools.{cases, or-left, or-right}
use Rattle.attr_keys.specs.Name.{bad_name}
use Rattle.attr_keys.specs.Table.{key_of}
use Rattle.attr_keys.proofs.NameKeys.{key_of-good}
use Rattle.attr_keys.proofs.NamesAgain.{key_of-again}
use Rattle.dn_text.specs.declared.name.Dn.{Dn}
use Rattle.dn_text.specs.Split.{Span, is_bare, escapes_next, put_front, pieces_from}
use Rattle.dn_text.specs.Reading.{comes_before, place_among, put_part, has_attr, dn_in}
use Rattle.dn_text.specs.Print.{dn_text}
use Rattle.dn_text.specs.Spelling.{SpellsPart, SpellsParts, no_part, one_more, cut_at, SpellsRdns, SpellsName}
use Rattle.dn_text.specs.Laws.{IsReadablePart, IsBelowAll, AreReadableParts, AreReadable, IsReadable}
use Rattle.dn_text.proofs.Pieces.{span}
use Rattle.dn_text.proofs.Spelled.{texts_of, pick-true, pick-false}
use Rattle.dn_text.proofs.Found.{name-found}
use Rattle.dn_text.proofs.Rising.{below-trans}
use Rattle.dn_text.proofs.RoundTrip.{printed-read}

-- ---- a part is put among parts in order

put-first : (a b : Ava) (bs : List Ava) → comes_before a b ≡ true → put_part a (b ∷ bs) ≡ a ∷ b ∷ bs
put-first a b bs h = ap (λ (i : ℕ). insert (b ∷ bs) i a) (pick-true (comes_before a b) 0 (place_among a bs + 1) h)

put-later : (a b : Ava) (bs : List Ava) → comes_before a b ≡ false → put_part a (b ∷ bs) ≡ b ∷ put_part a bs
put-later a b bs h = ap (λ (i : ℕ). insert (b ∷ bs) i a) (pick-false (comes_before a b) 0 (place_among a bs + 1) h ∙ add-one (place_among a bs))

put-below : (d a : Ava) (bs : List Ava) → comes_before d a ≡ true → IsBelowAll d bs → IsBelowAll d (put_part a bs)
put-below d a [] h k = (h, tt)
put-below d a (b ∷ bs) h k =
    cases (comes_before a b)
    (λ t. let all : IsBelowAll d (a ∷ b ∷ bs) = (h, k) in subst (λ (xs : List Ava). IsBelowAll d xs) (sym (put-first a b bs t)) all)
    (λ f. let all : IsBelowAll d (b ∷ put_part a bs) = (k.0, put-below d a bs h k.1) in subst (λ (xs : List Ava). IsBelowAll d xs) (sym (put-later a b bs f)) all)

-- two attributes that differ stand in one of two orders
before-from : (a b : Ava) → comes_before a b ≡ false → bytes_eq b.attr.name a.attr.name ≡ false → comes_before b a ≡ true
before-from a b h k =
    flip (slice_cmp nat_cmp a.attr.name b.attr.name) (slice_cmp nat_cmp b.attr.name a.attr.name) (nat_list_cmp_total.antisymm b.attr.name a.attr.name) h (is_eq-slice_cmp b.attr.name a.attr.name ∙ k)
  where
    flip : (o p : Ordering) → p ≡ ordering_reverse o → is_lt o ≡ false → is_eq p ≡ false → is_lt p ≡ true
    flip Less p e h k = absurd (false≢true (sym h))
    flip Equal p e h k = absurd (false≢true (sym k ∙ ap is_eq e))
    flip Greater p e h k = ap is_lt e

put-readable : (a : Ava) (bs : List Ava) → IsReadablePart a → AreReadableParts bs → has_attr a.attr.name bs ≡ false → AreReadableParts (put_part a bs)
put-readable a [] r h k = (r, tt, tt)
put-readable a (b ∷ bs) r h k =
    cases (comes_before a b)
    (λ t. let all : AreReadableParts (a ∷ b ∷ bs) = (r, (t, below-trans a b bs t h.1), h) in subst (λ (xs : List Ava). AreReadableParts xs) (sym (put-first a b bs t)) all)
    (λ f.
    let before : comes_before b a ≡ true = before-from a b f (or-left (bytes_eq b.attr.name a.attr.name) (has_attr a.attr.name bs) k) in
    let rest : AreReadableParts (put_part a bs) = put-readable a bs r h.2 (or-right (bytes_eq b.attr.name a.attr.name) (has_attr a.attr.name bs) k) in
    let all : AreReadableParts (b ∷ put_part a bs) = (h.0, put-below b a bs before h.1, rest) in
    subst (λ (xs : List Ava). AreReadableParts xs) (sym (put-later a b bs f)) all)

put-some : (a : Ava) (bs : List Ava) → put_part a bs ≢ []
put-some a [] e = cc
put-some a (b ∷ bs) e =
    cases (comes_before a b)
    (λ t. let same : a ∷ b ∷ bs ≡ [] = sym (put-first a b bs t) ∙ e in cc)
    (λ f. let same : b ∷ put_part a bs ≡ [] = sym (put-later a b bs f) ∙ e in cc)

-- ---- what is spelled can be told from its text

part-readable : (text : List ℕ) (a : Ava) → SpellsPart text a → IsReadablePart a
part-readable text a p = record {
  is_name = ap bad_name p.attr ∙ key_of-good p.name p.is_name;
  attr = ap key_of p.attr ∙ key_of-again p.name ∙ sym p.attr;
  accepted = p.accepted;
  key = p.key;
}

parts-readable : (before all : List Ava) (texts : List (List ℕ)) → SpellsParts before texts all → AreReadableParts before → AreReadableParts all
parts-readable before all texts (no_part avas) h = h
parts-readable before all texts (one_more done last text rest a p new more) h = parts-readable (put_part a done) last rest more (put-readable a done (part-readable text a p) h new)

parts-stay : (before all : List Ava) (texts : List (List ℕ)) → SpellsParts before texts all → before ≢ [] → all ≢ []
parts-stay before all texts (no_part avas) h = h
parts-stay before all texts (one_more done last text rest a p new more) h = parts-stay (put_part a done) last rest more (put-some a done)

parts-some : (before all : List Ava) (texts : List (List ℕ)) → SpellsParts before texts all → texts ≢ [] → all ≢ []
parts-some before all texts (no_part avas) h = absurd (h refl)
parts-some before all texts (one_more done last text rest a p new more) h = parts-stay (put_part a done) last rest more (put-some a done)

front-some : (at c : ℕ) (ss : List Span) → texts_of ss ≢ [] → texts_of (put_front at c ss) ≢ []
front-some at c [] h e = h refl
front-some at c (s ∷ ss) h e = cc

pieces-some : (by : ℕ) (f : Bool) (at : ℕ) (text : List ℕ) → texts_of (pieces_from by f at text) ≢ []
unfolding pieces_from
pieces-some by f at [] e = cc
pieces-some by f at (c ∷ cs) e = here (is_bare f by c) e (pieces-some by (escapes_next f c) (at + 1) cs)
  where
    here : (b : Bool) → texts_of (cond b (span at [] ∷ pieces_from by false (at + 1) cs) (put_front at c (pieces_from by (escapes_next f c) (at + 1) cs))) ≡ [] → texts_of (pieces_from by (escapes_next f c) (at + 1) cs) ≢ [] → ⊥
    here true h never = cc
    here false h never = front-some at c (pieces_from by (escapes_next f c) (at + 1) cs) never h

rdns-readable : (texts : List (List ℕ)) (rdns : List Rdn) → SpellsRdns texts rdns → AreReadable rdns
rdns-readable [] [] h = tt
rdns-readable [] (r ∷ rs) h = absurd h
rdns-readable (t ∷ ts) [] h = absurd h
rdns-readable (t ∷ ts) (r ∷ rs) h =
    (parts-some [] r.avas (cut_at 43 t) h.0 (pieces-some 43 false 0 t), parts-readable [] r.avas (cut_at 43 t) h.0 tt, rdns-readable ts rs h.1)

pub name-readable : (text : List ℕ) (dn : Dn) → SpellsName text dn → IsReadable dn
name-readable [] dn h = let none : AreReadable [] = tt in subst (λ (rs : List Rdn). AreReadable rs) (sym h) none
name-readable (c ∷ cs) dn h = rdns-readable (cut_at 44 (c ∷ cs)) dn.rdns h

-- A NAME READ, PRINTED AND READ AGAIN IS THE SAME NAME
pub read-again : (text : List ℕ) (dn : Dn) → dn_in text ≡ Ok dn → dn_in (dn_text dn) ≡ Ok dn
read-again text dn e = printed-read dn (name-readable text dn (name-found text dn e))
