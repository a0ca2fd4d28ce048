-- What was found at a place is found there again, whatever bytes follow.
use Rattle.std.proofs.Common.{◌≡◌, ℕ, ◌-◌, ◌+◌, List, ◌++◌, length, drop, Result, Ok, Err, refl, sym, ap, subst, ◌∙◌, arith}
use Rattle.std.proofs.lemmas.List.{drop-drop}
use Rattle.std.specs.Prelude.{Bool, true, false, cond, ◌==◌}
use Rattle.ber_core.specs.declared.fault.BerFault.{BerFault}
use Rattle.ber_core.specs.declared.fault.BerFault.TheVariants as ber
use Rattle.ber_core.specs.declared.read.Header.{Header}
use Rattle.ber_core.specs.Reading.{header_at}
use Rattle.ber_core.specs.Window.{Stop, Window, ◌>>=◌, tag_here, inside, after, both, open_here, open_as, refused}
use Rattle.ber_core.proofs.Stable.{Keeps, kept, more_yet, at_fault, Grows, Equal, BothGrow, StaysInside, drop_append, tag_stays, open_as_stays, octets_stays, int_stays, boolean_stays}
use Rattle.ldap_requests.proofs.StableMessage.{count_stays, message_id_stays}
use Rattle.request_wait.specs.declared.part.Part.{Part}
use Rattle.request_wait.specs.declared.part.Leaf.{Leaf}
use Rattle.request_wait.specs.declared.part.Leaf.TheVariants as leaf
use Rattle.request_wait.specs.declared.place.Place.{Place}
use Rattle.request_wait.specs.Inside.{outcome, of_leaf}
use Rattle.request_wait.specs.Place.{seen, place_at}

-- ---- what is Ok stays Ok

pub same_ok : {A : Type 0} (x z : A) → (let a : Result A Stop = Ok x in a) ≡ Ok z → x ≡ z
same_ok x z e = cc

pub ok_again : {A : Type 0} {R : A → A → Type 0} {r s : Result A Stop} → Keeps R r s → (z : A) → r ≡ Ok z → (y : A) × (s ≡ Ok y) × R z y
ok_again {R = R} (kept x y e) z is = (y, refl, subst (λ (v : _). R v y) (same_ok x z is) e)
ok_again (more_yet s) z is = absurd cc
ok_again (at_fault place w) z is = absurd cc

-- ---- places

-- the same place, with what follows
pub grows : (bytes more : List ℕ) (p : Place) → Grows (seen bytes p) (seen (bytes ++ more) p)
grows bytes more p = (drop (p.at - length bytes) more, rw (drop_append p.at bytes more) refl)

window_is : (start at left : ℕ) (bytes : List ℕ) (v : Window) → v.start ≡ start → v.at ≡ at → v.left ≡ left → v.bytes ≡ bytes → v ≡ record { start = start; at = at; left = left; bytes = bytes }
window_is start at left bytes v a b c d =
    let made = λ (s t l : ℕ) (xs : List ℕ). let w : Window = record { start = s; at = t; left = l; bytes = xs } in w in
    ap (λ (n : ℕ). made n v.at v.left v.bytes) a ∙ ap (λ (n : ℕ). made start n v.left v.bytes) b ∙ ap (λ (n : ℕ). made start at n v.bytes) c ∙ ap (λ (xs : List ℕ). made start at left xs) d

same_left : (at left : ℕ) → left ≡ (at + left) - at
same_left at left = omega arith

pub same_place : (part : Part) (w v : Window) (bytes : List ℕ) → Grows w v → v.bytes ≡ drop v.at bytes → v ≡ seen bytes (place_at part w)
same_place part w v bytes g e =
    let s = ap (λ (x : Window). x.start) g.1 in
    let a = ap (λ (x : Window). x.at) g.1 in
    let l = ap (λ (x : Window). x.left) g.1 in
    window_is w.start w.at ((w.at + w.left) - w.at) (drop w.at bytes) v s a (l ∙ same_left w.at w.left) (e ∙ ap (λ (n : ℕ). drop n bytes) a)

-- ---- an element that was opened

opened_by : (w : Window) (r : Result Header BerFault) (o : Window × Window) → header_at w.left w.bytes ≡ r → both w r ≡ Ok o → (h : Header) × (header_at w.left w.bytes ≡ Ok h) × (o ≡ (inside w h, after w h))
opened_by w (Ok h) o e is = (h, e, sym (same_ok _ _ is))
opened_by w (Err (ber.More n)) o e is = absurd cc
opened_by w (Err (ber.Bad place why)) o e is = absurd cc

pub opened_here : (w : Window) (o : Window × Window) → open_here w ≡ Ok o → (h : Header) × (header_at w.left w.bytes ≡ Ok h) × (o ≡ (inside w h, after w h))
unfolding open_here
opened_here w o is = opened_by w (header_at w.left w.bytes) o refl is

after_tag : (w : Window) (b : Bool) (o : Window × Window) → cond b (open_here w) (refused w) ≡ Ok o → open_here w ≡ Ok o
after_tag w true o is = is
after_tag w false o is = absurd cc

by_tag : (tag : ℕ) (w : Window) (r : Result ℕ Stop) (o : Window × Window) → (r >>= λ t. cond (t == tag) (open_here w) (refused w)) ≡ Ok o → open_here w ≡ Ok o
by_tag tag w (Ok t) o is = after_tag w (t == tag) o is
by_tag tag w (Err e) o is = absurd cc

pub opened : (tag : ℕ) (w : Window) (o : Window × Window) → open_as tag w ≡ Ok o → (h : Header) × (header_at w.left w.bytes ≡ Ok h) × (o ≡ (inside w h, after w h))
unfolding open_as
opened tag w o is = opened_here w o (by_tag tag w (tag_here w) o is)

pub placed_inside : (bytes : List ℕ) (p : Place) (h : Header) → (inside (seen bytes p) h).bytes ≡ drop (inside (seen bytes p) h).at bytes
placed_inside bytes p h = drop-drop h.size p.at bytes

pub placed_after : (bytes : List ℕ) (p : Place) (h : Header) → (after (seen bytes p) h).bytes ≡ drop (after (seen bytes p) h).at bytes
placed_after bytes p h = drop-drop (h.size + h.content) p.at bytes

-- an element that was opened is opened again, at the same places
pub record OpensAgain (tag : ℕ) (bytes more : List ℕ) (p : Place) (part next : Part) (o : Window × Window) : Type 0 where
  pub again : open_as tag (seen (bytes ++ more) p) ≡ Ok (seen (bytes ++ more) (place_at part o.0), seen (bytes ++ more) (place_at next o.1))
  pub inner : Grows o.0 (seen (bytes ++ more) (place_at part o.0))

both_are : (v w x y : Window) → v ≡ x → w ≡ y → (let r : Result (Window × Window) Stop = Ok (v, w) in r) ≡ Ok (x, y)
both_are v w x y e f = ap (λ (u : Window). Ok (u, w)) e ∙ ap (λ (u : Window). Ok (x, u)) f

opened_there : (tag : ℕ) (bytes more : List ℕ) (p : Place) (part next : Part) (o v : Window × Window) → open_as tag (seen (bytes ++ more) p) ≡ Ok v → BothGrow o v → v.0.bytes ≡ drop v.0.at (bytes ++ more) → v.1.bytes ≡ drop v.1.at (bytes ++ more) → OpensAgain tag bytes more p part next o
opened_there tag bytes more p part next o v is g i a =
    let s : v.0 ≡ seen (bytes ++ more) (place_at part o.0) = same_place part o.0 v.0 (bytes ++ more) g.0 i in
    let t : v.1 ≡ seen (bytes ++ more) (place_at next o.1) = same_place next o.1 v.1 (bytes ++ more) g.1 a in
    record { again = is ∙ both_are v.0 v.1 _ _ s t; inner = subst (λ (x : Window). Grows o.0 x) s g.0 }

pub opens_again : (tag : ℕ) (bytes more : List ℕ) (p : Place) (part next : Part) (o : Window × Window) → open_as tag (seen bytes p) ≡ Ok o → OpensAgain tag bytes more p part next o
opens_again tag bytes more p part next o is =
    let k = ok_again (open_as_stays tag (seen bytes p) (seen (bytes ++ more) p) (grows bytes more p)) o is in
    let h = opened tag (seen (bytes ++ more) p) k.0 k.1 in
    opened_there tag bytes more p part next o k.0 k.1 k.2
    (subst (λ (x : Window × Window). x.0.bytes ≡ drop x.0.at (bytes ++ more)) (sym h.2) (placed_inside (bytes ++ more) p h.0))
    (subst (λ (x : Window × Window). x.1.bytes ≡ drop x.1.at (bytes ++ more)) (sym h.2) (placed_after (bytes ++ more) p h.0))

-- ---- leaves

outcome_stays : {A : Type 0} {R : A → A → Type 0} {r s : Result A Stop} → Keeps R r s → Keeps Equal (outcome r) (outcome s)
outcome_stays (kept x y e) = kept tt tt refl
outcome_stays (more_yet s) = more_yet _
outcome_stays (at_fault place w) = at_fault place w

pub leaf_stays : (l : Leaf) → StaysInside (of_leaf l)
leaf_stays leaf.Octets w v g = outcome_stays (octets_stays w v g)
leaf_stays leaf.Int w v g = outcome_stays (int_stays w v g)
leaf_stays leaf.Boolean w v g = outcome_stays (boolean_stays w v g)
leaf_stays leaf.Count w v g = outcome_stays (count_stays w v g)
leaf_stays leaf.MessageId w v g = outcome_stays (message_id_stays w v g)

-- ---- tags

pub tag_again : (bytes more : List ℕ) (p : Place) (t : ℕ) → tag_here (seen bytes p) ≡ Ok t → tag_here (seen (bytes ++ more) p) ≡ Ok t
tag_again bytes more p t is =
    let k = ok_again (tag_stays (seen bytes p) (seen (bytes ++ more) p) (grows bytes more p)) t is in
    k.1 ∙ ap (λ (n : ℕ). Ok n) (sym k.2)
