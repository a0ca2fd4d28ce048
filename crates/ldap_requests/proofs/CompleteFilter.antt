-- What is spelled is read: filters, by depth.
use Rattle.std.proofs.Common.{◌≡◌, ℕ, zero, suc, true, List, [], ◌∷◌, ◌++◌, Option, Some, None, Result, refl, sym, ap, subst, ◌∙◌, arith}
use Rattle.std.proofs.lemmas.List.{append-nil}
use Rattle.std.specs.Prelude.{slice_get}
use Rattle.ber_core.specs.Element.{IsElement}
use Rattle.ldap_types.specs.declared.request.Filter.{Filter}
use Rattle.ldap_types.specs.declared.request.Filter.TheViews.{out-Filter, roll-Filter, roll-out-Filter}
use Rattle.ldap_types.specs.declared.request.Filter.TheOpen.{Filter-F}
use Rattle.ldap_types.specs.declared.request.Filter.TheVariants as filter
use Rattle.ber_core.specs.Window.{Stop, Window, tag_here, open_here, octets}
use Rattle.ldap_requests.specs.Grammar.{some_piece, pieces, substrings_inside, is_filter_tag, simple_inside, filter_inside, filter_at}
use Rattle.ldap_requests.specs.Spelling.{PieceList, IsEmpty, Substrings, OneFilter, IsFilter}
use Rattle.ber_core.specs.Spelling.{Given, Nothing, Octets}
use Rattle.ldap_requests.proofs.SoundMessage.{PiecesInside, filter_some}
use Rattle.ber_core.proofs.Complete.{Gets, gets, go_on, at_ok, chosen, Is, Holds, cut, Leaves, Full, FullInside, stands, element_full, octets_full, ended_full}
use Rattle.ber_core.proofs.CompleteMany.{many_full, Starts, starts_nothing, starts_each, starts_maybe, optional_full, run_full}
use Rattle.ldap_requests.proofs.CompleteParts.{text_full, assertion_full}

-- ---- the pieces of a substrings filter

some_kept : (start : ℕ) (name : List ℕ) (p : PieceList) → (IsEmpty p → ⊥) → Gets (Is (filter.Substrings name p.0 p.1 p.2)) (some_piece start (filter.Substrings name p.0 p.1 p.2))
some_kept start name (None, [], None) some = absurd (some (refl, refl, refl))
some_kept start name (None, [], Some y) some = gets (filter.Substrings name None [] (Some y)) refl
some_kept start name (None, m ∷ ms, last) some = gets (filter.Substrings name None (m ∷ ms) last) refl
some_kept start name (Some x, ms, last) some = gets (filter.Substrings name (Some x) ms last) refl

same_tag : (a b : ℕ) → (let x : Option ℕ = Some a in x) ≡ Some b → a ≡ b
same_tag a b e = cc

no_tag : (b : ℕ) → (let x : Option ℕ = None in x) ≡ Some b → ⊥
no_tag b e = absurd cc

-- the final piece has another tag than those in the middle
last_differs : (first others : List ℕ) (last : Option (List ℕ)) → Given 0x82 Octets first others last → Nothing others → slice_get (first ++ others) 0 ≡ Some 0x81 → ⊥
last_differs first others (Some y) g over e = (let tag = same_tag 0x82 0x81 (ap (λ (xs : List ℕ). slice_get (xs ++ others) 0) (sym g.1.parts) ∙ e) in absurd (omega arith))
last_differs first others None g over e = no_tag 0x81 (ap (λ (xs : List ℕ). slice_get xs 0) (sym over) ∙ ap (λ (xs : List ℕ). slice_get (xs ++ others) 0) (sym g.0) ∙ e)

pieces_full : (name : List ℕ) → FullInside (pieces name) (PiecesInside name)
unfolding pieces
pieces_full name w body f h s =
    let p = s.0 in
    let t = s.2 in
    let u = t.4 in
    let v = u.4 in
    let last_starts : Starts u.1 = starts_maybe 0x82 Octets p.2 Nothing starts_nothing u.1 v in
    let rest_starts : Starts t.1 = subst Starts (sym u.2) (starts_each (λ front x e. (0x81, e.0, e.1)) u.1 u.3 last_starts) in
    go_on (optional_full 0x80 octets Octets octets_full w t.0 t.1 p.0 rest_starts (cut w body _ h t.2) t.3) (λ a l.
    go_on (run_full 0x81 octets Octets octets_full a.1 u.0 u.1 p.1 (cut a.1 t.1 _ l.1 u.2) last_starts (λ e. last_differs v.0 v.1 p.2 v.3 v.4 (ap (λ (xs : List ℕ). slice_get xs 0) (sym v.2) ∙ e)) u.3) (λ b m.
    go_on (optional_full 0x82 octets Octets octets_full b.1 v.0 v.1 p.2 (starts_nothing v.1 v.4) (cut b.1 u.1 _ m.1 v.2) v.3) (λ c n.
    go_on (ended_full c.1 v.1 n.1 v.4) (λ x y.
    let all : (let q : PieceList = (a.0, b.0, c.0) in q) ≡ p = λ i. (l.0 i, m.0 i, n.0 i) in
    subst (λ (g : Filter). Gets (Is g) (some_piece w.start (filter.Substrings name a.0 b.0 c.0))) (sym s.1)
    (subst (λ (q : PieceList). Gets (Is (filter.Substrings name p.0 p.1 p.2)) (some_piece w.start (filter.Substrings name q.0 q.1 q.2))) (sym all) (some_kept w.start name p s.3))))))

substrings_full : (w : Window) (body : List ℕ) (s : List ℕ × PieceList) → Holds w body → Substrings body s → Gets (Is (filter.Substrings s.0 s.1.0 s.1.1 s.1.2)) (substrings_inside w)
unfolding substrings_inside
substrings_full w body s h t =
    let a = t.0 in
    let u = a.4 in
    let p = s.1 in
    go_on (text_full w a.0 a.1 s.0 (cut w body _ h a.2) a.3) (λ name l.
    go_on (element_full 0x30 (pieces name.0) (PiecesInside name.0) (pieces_full name.0) name.1 u.0 u.1 (filter.Substrings name.0 p.0 p.1 p.2) (cut name.1 a.1 _ l.1 u.2) (u.3.0, u.3.1, (p, refl, u.3.2, t.1))) (λ found m.
    go_on (ended_full found.1 u.1 m.1 u.4) (λ x y. gets found.0 (m.0 ∙ ap (λ (n : List ℕ). filter.Substrings n p.0 p.1 p.2) l.0))))

-- ---- one filter

-- a filter with this tag is read where its content is
by_tag : (depth tag : ℕ) → is_filter_tag tag ≡ true → (w : Window) (front others body : List ℕ) (f : Filter) → Holds w (front ++ others) → IsElement front tag body
    → ((v : Window) → Holds v body → Gets (Is f) (filter_inside (filter_at depth) tag v)) → Gets (Leaves f others) (filter_at (suc depth) w)
unfolding filter_at
by_tag depth tag known w front others body f h el content =
    let k = stands w tag front body others h el in
    let o = k.1.0 in
    at_ok _ (tag_here w) tag k.0 (chosen _ (is_filter_tag tag) known (at_ok _ (open_here w) o k.1.1 (go_on (content o.0 k.1.2.0) (λ g is. gets (g, o.1) (is, k.1.2.1)))))

as_filter : (f g : Filter) (others : List ℕ) (r : Result (Filter × Window) Stop) → f ≡ g → Gets (Leaves g others) r → Gets (Leaves f others) r
as_filter f g others r e x = subst (λ (y : Filter). Gets (Leaves y others) r) (sym e) x

-- one layer is read where the filters inside it are
layer_full : (depth : ℕ) → Full (filter_at depth) (IsFilter depth) → (w : Window) (front others : List ℕ) (layer : Filter-F Filter) → Holds w (front ++ others) → OneFilter (IsFilter depth) front layer
    → Gets (Leaves (roll-Filter layer) others) (filter_at (suc depth) w)
unfolding filter_inside simple_inside
layer_full depth full w front others (Filter-F.And fs) h e =
    as_filter _ (filter.And fs) others _ (filter.rolls-And fs) (by_tag depth 0xa0 refl w front others e.0 (filter.And fs) h e.1
    (λ v g. go_on (many_full (filter_at depth) (IsFilter depth) full (filter_some depth) v e.0 fs g e.2) (λ x is. gets (filter.And x) (ap (λ (y : List Filter). filter.And y) is))))
layer_full depth full w front others (Filter-F.Or fs) h e =
    as_filter _ (filter.Or fs) others _ (filter.rolls-Or fs) (by_tag depth 0xa1 refl w front others e.0 (filter.Or fs) h e.1
    (λ v g. go_on (many_full (filter_at depth) (IsFilter depth) full (filter_some depth) v e.0 fs g e.2) (λ x is. gets (filter.Or x) (ap (λ (y : List Filter). filter.Or y) is))))
layer_full depth full w front others (Filter-F.Not f) h e =
    as_filter _ (filter.Not f) others _ (filter.rolls-Not f) (by_tag depth 0xa2 refl w front others e.0 (filter.Not f) h e.1
    (λ v g. go_on (full v e.0 [] f (cut v e.0 _ g (sym (append-nil e.0))) e.2) (λ p l. go_on (ended_full p.1 [] l.1 refl) (λ x y. gets (filter.Not p.0) (ap (λ (z : Filter). filter.Not z) l.0)))))
layer_full depth full w front others (Filter-F.Equality name value) h e =
    as_filter _ (filter.Equality name value) others _ (filter.rolls-Equality name value) (by_tag depth 0xa3 refl w front others e.0 (filter.Equality name value) h e.1
    (λ v g. go_on (assertion_full v e.0 (name, value) g e.2) (λ a is. gets (filter.Equality a.0 a.1) (λ i. filter.Equality (is i).0 (is i).1))))
layer_full depth full w front others (Filter-F.Substrings name first middle last) h e =
    as_filter _ (filter.Substrings name first middle last) others _ (filter.rolls-Substrings name first middle last) (by_tag depth 0xa4 refl w front others e.0 (filter.Substrings name first middle last) h e.1
    (λ v g. substrings_full v e.0 (name, (first, middle, last)) g e.2))
layer_full depth full w front others (Filter-F.AtLeast name value) h e =
    as_filter _ (filter.AtLeast name value) others _ (filter.rolls-AtLeast name value) (by_tag depth 0xa5 refl w front others e.0 (filter.AtLeast name value) h e.1
    (λ v g. go_on (assertion_full v e.0 (name, value) g e.2) (λ a is. gets (filter.AtLeast a.0 a.1) (λ i. filter.AtLeast (is i).0 (is i).1))))
layer_full depth full w front others (Filter-F.AtMost name value) h e =
    as_filter _ (filter.AtMost name value) others _ (filter.rolls-AtMost name value) (by_tag depth 0xa6 refl w front others e.0 (filter.AtMost name value) h e.1
    (λ v g. go_on (assertion_full v e.0 (name, value) g e.2) (λ a is. gets (filter.AtMost a.0 a.1) (λ i. filter.AtMost (is i).0 (is i).1))))
layer_full depth full w front others (Filter-F.Present name) h e =
    as_filter _ (filter.Present name) others _ (filter.rolls-Present name) (by_tag depth 0x87 refl w front others e.0 (filter.Present name) h e.1
    (λ v g. go_on (octets_full v e.0 name g e.2) (λ x is. gets (filter.Present x) (ap (λ (y : List ℕ). filter.Present y) is))))
layer_full depth full w front others (Filter-F.Approximate name value) h e =
    as_filter _ (filter.Approximate name value) others _ (filter.rolls-Approximate name value) (by_tag depth 0xa8 refl w front others e.0 (filter.Approximate name value) h e.1
    (λ v g. go_on (assertion_full v e.0 (name, value) g e.2) (λ a is. gets (filter.Approximate a.0 a.1) (λ i. filter.Approximate (is i).0 (is i).1))))
layer_full depth full w front others Filter-F.Extensible h e =
    as_filter _ filter.Extensible others _ filter.rolls-Extensible (by_tag depth 0xa9 refl w front others e.0 filter.Extensible h e.1
    (λ v g. go_on (octets_full v e.0 e.0 g refl) (λ x is. gets filter.Extensible refl)))

pub filter_full : (depth : ℕ) → Full (filter_at depth) (IsFilter depth)
filter_full zero w front others f h e = absurd e
filter_full (suc depth) w front others f h e = as_filter f (roll-Filter (out-Filter f)) others _ (sym (roll-out-Filter f)) (layer_full depth (filter_full depth) w front others (out-Filter f) h e)
