-- What is printed is read as the name that was printed.
use Rattle.std.proofs.Common.{◌≡◌, ◌≢◌, ℕ, ◌+◌, ◌<◌, true, false, eqb, List, [], ◌∷◌, ◌++◌, length, map, drop, codes, None, Ok, refl, sym, ap, ap₂, subst, ◌∙◌, append_assoc, add-zero, arith}
use Rattle.std.specs.List.{list_all}
use Rattle.std.proofs.lemmas.List.{take_at, drop_at, length-append, append-nil}
use Rattle.repl_data.specs.declared.change.Ava.{Ava}
use Rattle.repl_data.specs.declared.change.Rdn.{Rdn}
use Rattle.repl_data.specs.Text.{escape_always, escaped_value, ava_text, joined, rdn_text}
use Rattle.attr_keys.specs.Name.{bad_name}
use Rattle.attr_keys.proofs.NamePlaces.{is_name_char, bad_name-chars}
use Rattle.dn_text.specs.declared.name.Dn.{Dn}
use Rattle.dn_text.specs.Split.{bare_len, pieces_from}
use Rattle.dn_text.specs.Escape.{hex_digit}
use Rattle.dn_text.specs.Reading.{put_part, dn_in}
use Rattle.dn_text.specs.Print.{each_after, in_order, rdns_text, dn_text}
use Rattle.dn_text.specs.Spelling.{SpellsPart, SpellsParts, no_part, one_more, cut_at, SpellsRdn, SpellsRdns, SpellsName}
use Rattle.dn_text.specs.Laws.{IsReadablePart, AreReadableParts, AreReadable, IsReadable}
use Rattle.dn_text.proofs.Pieces.{span, bare_len-first, pieces-cut, pieces-whole}
use Rattle.dn_text.proofs.Prints.{joined-cons}
use Rattle.dn_text.proofs.Rising.{AreApart, put-last, none-same, apart-push, apart-none, put-rising, rising-from_readable}
use Rattle.repl_data.proofs.Bools.{and-left, and-right}
use Rattle.dn_text.proofs.Spelled.{name-char-not, texts_of, name-read}
use Rattle.dn_text.proofs.Printed.{IsUncut, uncut-nil, uncut-cons, uncut-append, value-spelled, value-uncut}

-- ---- one part

name-uncut : (by : ℕ) (name : List ℕ) → is_name_char by ≡ false → list_all is_name_char name ≡ true → IsUncut by name
name-uncut by [] none h = uncut-nil by
name-uncut by (c ∷ cs) none h =
    let first : is_name_char c ≡ true = and-left (is_name_char c) (list_all is_name_char cs) h in
    uncut-cons by c cs (name-char-not by c none first) (name-char-not 92 c refl first) (name-uncut by cs none (and-right (is_name_char c) (list_all is_name_char cs) h))

part-uncut : (by : ℕ) (a : Ava) → is_name_char by ≡ false → escape_always by ≡ true → hex_digit by ≡ None → eqb 92 by ≡ false → eqb 61 by ≡ false → bad_name a.attr.name ≡ None → IsUncut by (ava_text a)
part-uncut by a none always digit slash equals h =
    uncut-append by (a.attr.name ++ codes "=") (escaped_value a.val.spelled)
    (uncut-append by a.attr.name (codes "=") (name-uncut by a.attr.name none (bad_name-chars a.attr.name h)) (uncut-cons by 61 [] equals refl (uncut-nil by)))
    (value-uncut by always digit slash a.val.spelled)

part-spelled : (a : Ava) → IsReadablePart a → SpellsPart (ava_text a) a
part-spelled a h = record {
  name = a.attr.name;
  value = escaped_value a.val.spelled;
  before_name = 0;
  after_name = 0;
  before_value = 0;
  after_value = 0;
  parts =
      append_assoc a.attr.name (codes "=") (escaped_value a.val.spelled)
      ∙ ap₂ (λ (l r : List ℕ). l ++ 61 ∷ r) (sym (append-nil a.attr.name)) (sym (append-nil (escaped_value a.val.spelled)));
  is_name = h.is_name;
  attr = sym h.attr;
  spelled = value-spelled a.val.spelled;
  accepted = h.accepted;
  key = h.key;
}

-- ---- pieces

-- all texts are uncut
abbrev AreUncut : ℕ → List (List ℕ) → Type 0
AreUncut by [] = Unit {0}
AreUncut by (t ∷ ts) = IsUncut by t × AreUncut by ts

bare_len-nil : (by : ℕ) → bare_len by false [] ≡ 0
unfolding bare_len
bare_len-nil by = refl

uncut-whole : (by : ℕ) (t : List ℕ) → IsUncut by t → bare_len by false t ≡ length t
uncut-whole by t u = ap (bare_len by false) (sym (append-nil t)) ∙ u.len [] ∙ ap (λ (n : ℕ). length t + n) (bare_len-nil by) ∙ add-zero (length t)

eqb-self : (n : ℕ) → eqb n n ≡ true
eqb-self n = grind arith

pieces-first : (by at : ℕ) (t rest : List ℕ) → IsUncut by t → pieces_from by false at (t ++ by ∷ rest) ≡ span at t ∷ pieces_from by false (at + length t + 1) rest
pieces-first by at t rest u =
    let n : bare_len by false (t ++ by ∷ rest) ≡ length t = u.len (by ∷ rest) ∙ ap (λ (i : ℕ). length t + i) (bare_len-first by false by rest (eqb-self by)) ∙ add-zero (length t) in
    let lt : length t < length (t ++ by ∷ rest) = omega (arith, length-append t (by ∷ rest)) in
    let back : drop (length t + 1) (t ++ by ∷ rest) ≡ rest = ap (drop (length t + 1)) (sym (append_assoc t (by ∷ []) rest)) ∙ drop_at (t ++ by ∷ []) rest (length t + 1) (length-append t (by ∷ [])) in
    pieces-cut by false at (t ++ by ∷ rest) (length t) n lt
    ∙ ap₂ (λ (l r : List ℕ). span at l ∷ pieces_from by false (at + length t + 1) r) (take_at t (by ∷ rest) (length t) refl) back

pieces-joined : (by at : ℕ) (t : List ℕ) (ts : List (List ℕ)) → AreUncut by (t ∷ ts) → texts_of (pieces_from by false at (joined (by ∷ []) (t ∷ ts))) ≡ t ∷ ts
pieces-joined by at t [] u = ap texts_of (pieces-whole by false at t (let e : bare_len by false t ≡ length t = uncut-whole by t u.0 in omega arith))
pieces-joined by at t (v ∷ vs) u =
    ap (λ (xs : List ℕ). texts_of (pieces_from by false at xs)) (append_assoc t (by ∷ []) (joined (by ∷ []) (v ∷ vs)))
    ∙ ap texts_of (pieces-first by at t (joined (by ∷ []) (v ∷ vs)) u.0)
    ∙ ap (λ (xs : List (List ℕ)). t ∷ xs) (pieces-joined by (at + length t + 1) v vs u.1)

joined-uncut : (by sep : ℕ) (ts : List (List ℕ)) → eqb sep by ≡ false → eqb sep 92 ≡ false → AreUncut by ts → IsUncut by (joined (sep ∷ []) ts)
joined-uncut by sep [] h k u = uncut-nil by
joined-uncut by sep (t ∷ []) h k u = u.0
joined-uncut by sep (t ∷ v ∷ vs) h k u =
    uncut-append by (t ++ sep ∷ []) (joined (sep ∷ []) (v ∷ vs)) (uncut-append by t (sep ∷ []) u.0 (uncut-cons by sep [] h k (uncut-nil by))) (joined-uncut by sep (v ∷ vs) h k u.1)

-- ---- parts in order

parts-spelled : (done more : List Ava) → AreApart done more → AreReadableParts more → SpellsParts done (map ava_text more) (done ++ more)
parts-spelled done [] h k = subst (λ (xs : List Ava). SpellsParts done [] xs) (sym (append-nil done)) (no_part done)
parts-spelled done (a ∷ more) h k =
    let rest : SpellsParts (done ++ a ∷ []) (map ava_text more) ((done ++ a ∷ []) ++ more) = parts-spelled (done ++ a ∷ []) more (apart-push done more a h.1 k.1) k.2 in
    let put : SpellsParts (put_part a done) (map ava_text more) (done ++ a ∷ more) = subst (λ (xs : List Ava). SpellsParts xs (map ava_text more) (done ++ a ∷ more)) (sym (put-last a done h.0)) (subst (λ (xs : List Ava). SpellsParts (done ++ a ∷ []) (map ava_text more) xs) (append_assoc done (a ∷ []) more) rest) in
    one_more done (done ++ a ∷ more) (ava_text a) (map ava_text more) a (part-spelled a k.0) (none-same a done h.0) put

-- ---- the RDNs and the name

parts-uncut : (by : ℕ) (avas : List Ava) → is_name_char by ≡ false → escape_always by ≡ true → hex_digit by ≡ None → eqb 92 by ≡ false → eqb 61 by ≡ false → AreReadableParts avas → AreUncut by (map ava_text avas)
parts-uncut by [] none always digit slash equals h = tt
parts-uncut by (a ∷ more) none always digit slash equals h = (part-uncut by a none always digit slash equals h.0.is_name, parts-uncut by more none always digit slash equals h.2)

ordered : (rdn : Rdn) → AreReadableParts rdn.avas → rdn_text (in_order rdn) ≡ joined (codes "+") (map ava_text rdn.avas)
ordered rdn h = ap (λ (xs : List Ava). joined (codes "+") (map ava_text xs)) (put-rising [] rdn.avas (apart-none rdn.avas) (rising-from_readable rdn.avas h))

rdn-cut : (avas : List Ava) → avas ≢ [] → AreReadableParts avas → cut_at 43 (joined (codes "+") (map ava_text avas)) ≡ map ava_text avas
rdn-cut [] some h = absurd (some refl)
rdn-cut (a ∷ more) some h = pieces-joined 43 0 (ava_text a) (map ava_text more) (parts-uncut 43 (a ∷ more) refl refl refl refl refl h)

rdn-spelled : (rdn : Rdn) → rdn.avas ≢ [] → AreReadableParts rdn.avas → SpellsRdn (rdn_text (in_order rdn)) rdn
rdn-spelled rdn some h =
    let cut : cut_at 43 (rdn_text (in_order rdn)) ≡ map ava_text rdn.avas = ap (cut_at 43) (ordered rdn h) ∙ rdn-cut rdn.avas some h in
    subst (λ (ts : List (List ℕ)). SpellsParts [] ts rdn.avas) (sym cut) (parts-spelled [] rdn.avas (apart-none rdn.avas) h)

abbrev printed : Rdn → List ℕ
printed rdn = rdn_text (in_order rdn)

rdns-spelled : (rdns : List Rdn) → AreReadable rdns → SpellsRdns (map printed rdns) rdns
rdns-spelled [] h = tt
rdns-spelled (r ∷ rs) h = (rdn-spelled r h.0 h.1, rdns-spelled rs h.2)

rdns-uncut : (rdns : List Rdn) → AreReadable rdns → AreUncut 44 (map printed rdns)
rdns-uncut [] h = tt
rdns-uncut (r ∷ rs) h =
    (subst (λ (t : List ℕ). IsUncut 44 t) (sym (ordered r h.1)) (joined-uncut 44 43 (map ava_text r.avas) refl refl (parts-uncut 44 r.avas refl refl refl refl refl h.1)), rdns-uncut rs h.2)

-- WHAT IS PRINTED SPELLS THE NAME
spelled-some : (text : List ℕ) (dn : Dn) → text ≢ [] → SpellsRdns (cut_at 44 text) dn.rdns → SpellsName text dn
spelled-some [] dn some h = absurd (some refl)
spelled-some (c ∷ cs) dn some h = h

first-some : (sep t : List ℕ) (ts : List (List ℕ)) → 0 < length t → 0 < length (joined sep (t ∷ ts))
first-some sep t ts h =
    let n : length (joined sep (t ∷ ts)) ≡ length t + length (each_after sep ts) = ap length (joined-cons sep t ts) ∙ length-append t (each_after sep ts) in
    omega arith

part-some : (a : Ava) → 0 < length (ava_text a)
part-some a =
    let n : length (ava_text a) ≡ length (a.attr.name ++ codes "=") + length (escaped_value a.val.spelled) = length-append (a.attr.name ++ codes "=") (escaped_value a.val.spelled) in
    let m : length (a.attr.name ++ codes "=") ≡ length a.attr.name + 1 = length-append a.attr.name (codes "=") in
    omega arith

parts-some : (avas : List Ava) → avas ≢ [] → 0 < length (joined (codes "+") (map ava_text avas))
parts-some [] some = absurd (some refl)
parts-some (a ∷ more) some = first-some (codes "+") (ava_text a) (map ava_text more) (part-some a)

name-some : (r : Rdn) (rs : List Rdn) → r.avas ≢ [] → AreReadableParts r.avas → rdns_text (r ∷ rs) ≢ []
name-some r rs some h e =
    let first : 0 < length (printed r) = subst (λ (t : List ℕ). 0 < length t) (sym (ordered r h)) (parts-some r.avas some) in
    let all : 0 < length (rdns_text (r ∷ rs)) = first-some (codes ",") (printed r) (map printed rs) first in
    let none : length (rdns_text (r ∷ rs)) ≡ 0 = ap length e in
    omega arith

pub printed-spells : (dn : Dn) → IsReadable dn → SpellsName (dn_text dn) dn
printed-spells dn h = by_rdns dn.rdns refl h
  where
    by_rdns : (rdns : List Rdn) → dn.rdns ≡ rdns → AreReadable rdns → SpellsName (rdns_text dn.rdns) dn
    by_rdns [] e h = subst (λ (t : List ℕ). SpellsName t dn) (sym (ap rdns_text e)) e
    by_rdns (r ∷ rs) e h =
        let cut : cut_at 44 (rdns_text (r ∷ rs)) ≡ map printed (r ∷ rs) = pieces-joined 44 0 (printed r) (map printed rs) (rdns-uncut (r ∷ rs) h) in
        let all : SpellsRdns (map printed (r ∷ rs)) (r ∷ rs) = rdns-spelled (r ∷ rs) h in
        let spelled : SpellsRdns (cut_at 44 (rdns_text (r ∷ rs))) (r ∷ rs) = subst (λ (ts : List (List ℕ)). SpellsRdns ts (r ∷ rs)) (sym cut) all in
        let same : SpellsRdns (cut_at 44 (rdns_text dn.rdns)) dn.rdns = subst (λ (rs : List Rdn). SpellsRdns (cut_at 44 (rdns_text rs)) rs) (sym e) spelled in
        let some : rdns_text dn.rdns ≢ [] = λ none. name-some r rs h.0 h.1 (ap rdns_text (sym e) ∙ none) in
        spelled-some (rdns_text dn.rdns) dn some same

-- PRINTING AND THEN READING GIVES THE NAME BACK
pub printed-read : (dn : Dn) → IsReadable dn → dn_in (dn_text dn) ≡ Ok dn
printed-read dn h = name-read (dn_text dn) dn (printed-spells dn h)
