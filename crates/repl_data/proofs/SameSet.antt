-- Closed lists with the same changes have one view.
use Rattle.std.proofs.Common.{◌≡◌, List, [], ◌∷◌, refl, sym, ap, subst, ◌∙◌, inl, inr}
use Rattle.std.specs.Prelude.{true, false, ◌⊎◌, map}
use Rattle.std.specs.List.{AllByRecursion, list_any, list_all}
use Rattle.std.specs.Ordering.{is_eq}
use Rattle.std.proofs.lemmas.Cmp.{tied_itself}
use Rattle.repl_data.specs.declared.csn.Csn.{Csn}
use Rattle.repl_data.specs.declared.change.Change.{Change}
use Rattle.repl_data.specs.declared.change.Suffix.{Suffix}
use Rattle.repl_data.specs.Order.{csn_eq}
use Rattle.repl_data.specs.Closed.{all_differ, is_sound, IsIn, IsClosed, SameChanges}
use Rattle.repl_data.specs.View.{view_of}
use Rattle.repl_data.proofs.Orders.{csn_total}
use Rattle.repl_data.proofs.Sound.{not_both, both_true, not_true, neither, sound_sub}
use Rattle.repl_data.proofs.Shuffled.{Shuffled, same, keep, exchange, follow}
use Rattle.repl_data.proofs.SameView.{base, AreApart, view_of-shuffled}

-- each change is apart from the later ones
abbrev pub Distinct : List Change → Type 0
Distinct [] = Unit {0}
Distinct (c ∷ cs) = AllByRecursion (λ d. AreApart c d) cs × Distinct cs

base_is : (c : Csn) → c.sub ≡ 0 → base c ≡ c
base_is c e = λ i. record { time = c.time; seq = c.seq; rid = c.rid; sub = sym e i }

apart_of : (c d : Change) → is_sound c ≡ true → is_sound d ≡ true → csn_eq c.csn d.csn ≡ false → AreApart c d
apart_of c d h g n e =
    let p : c.csn ≡ d.csn = sym (base_is c.csn (sound_sub c h)) ∙ e ∙ base_is d.csn (sound_sub d g) in
    not_both (csn_eq c.csn d.csn) (subst (λ w. csn_eq c.csn w ≡ true) p (ap is_eq (tied_itself csn_total c.csn))) n

apart_from_all : (c : Change) (ds : List Change) → is_sound c ≡ true → list_all is_sound ds ≡ true → list_any (csn_eq c.csn) (map (λ (d : Change). d.csn) ds) ≡ false → AllByRecursion (λ d. AreApart c d) ds
apart_from_all c [] h g n = tt
apart_from_all c (d ∷ ds) h g n =
    let g' = both_true _ _ g in
    let n' = neither _ _ n in
    (apart_of c d h g'.0 n'.0, apart_from_all c ds h g'.1 n'.1)

pub distinct : (cs : List Change) → all_differ (map (λ (c : Change). c.csn) cs) ≡ true → list_all is_sound cs ≡ true → Distinct cs
distinct [] h g = tt
distinct (c ∷ cs) h g =
    let h' = both_true _ _ h in
    let g' = both_true _ _ g in
    (apart_from_all c cs g'.0 g'.1 (not_true _ h'.0), distinct cs h'.1 g'.1)

-- a list with one of its changes brought to the front
pub record Fronted (c : Change) (cs : List Change) : Type 0 where
  pub rest : List Change
  pub moved : Shuffled AreApart (c ∷ rest) cs
  pub apart : AllByRecursion (λ d. AreApart c d) rest
  pub differ : Distinct rest
  forth : (d : Change) → IsIn d cs → (d ≡ c) ⊎ IsIn d rest
  back : (d : Change) → IsIn d rest → IsIn d cs

is_in_apart : (c d : Change) (cs : List Change) → AllByRecursion (λ e. AreApart c e) cs → IsIn d cs → AreApart c d
is_in_apart c d [] h m = elim m [ ]
is_in_apart c d (e ∷ cs) h (inl p) = subst (λ w. AreApart c w) (sym p) h.0
is_in_apart c d (e ∷ cs) h (inr m) = is_in_apart c d cs h.1 m

apart_in_rest : (y c : Change) (cs rest : List Change) → ((d : Change) → IsIn d rest → IsIn d cs) → AllByRecursion (λ d. AreApart y d) cs → AllByRecursion (λ d. AreApart y d) rest
apart_in_rest y c cs [] back h = tt
apart_in_rest y c cs (d ∷ rest) back h = (is_in_apart y d cs h (back d (inl refl)), apart_in_rest y c cs rest (λ e m. back e (inr m)) h)

pub fronted : (c : Change) (cs : List Change) → IsIn c cs → Distinct cs → Fronted c cs
fronted c [] m h = elim m [ ]
fronted c (d ∷ cs) (inl p) h = subst (λ w. Fronted w (d ∷ cs)) (sym p) (record {
  rest = cs;
  moved = same;
  apart = h.0;
  differ = h.1;
  forth = λ e m. m;
  back = λ e m. inr m;
})
fronted c (d ∷ cs) (inr m) h =
    let f = fronted c cs m h.1 in
    let n : AreApart d c = is_in_apart d c cs h.0 m in
    let n' : AreApart c d = λ p. n (sym p) in
    record {
      rest = d ∷ f.rest;
      moved = follow (exchange n') (keep f.moved);
      apart = (n', f.apart);
      differ = (apart_in_rest d c cs f.rest f.back h.0, f.differ);
      forth = λ e k. by e f k;
      back = λ e k. again e f k;
    }
  where
    by : (e : Change) (f : Fronted c cs) → IsIn e (d ∷ cs) → (e ≡ c) ⊎ IsIn e (d ∷ f.rest)
    by e f (inl p) = inr (inl p)
    by e f (inr k) = elim (f.forth e k) [ inl p ↦ inl p | inr j ↦ inr (inr j) ]

    again : (e : Change) (f : Fronted c cs) → IsIn e (d ∷ f.rest) → IsIn e (d ∷ cs)
    again e f (inl p) = inl p
    again e f (inr k) = inr (f.back e k)

not_self : (c : Change) (cs : List Change) → AllByRecursion (λ d. AreApart c d) cs → IsIn c cs → ⊥
not_self c cs h m = is_in_apart c c cs h m refl

shuffled_of_same : (xs ys : List Change) → Distinct xs → Distinct ys → SameChanges xs ys → Shuffled AreApart xs ys
shuffled_of_same [] [] h g m = same
shuffled_of_same [] (y ∷ ys) h g m = absurd (m.back y (inl refl))
shuffled_of_same (x ∷ xs) ys h g m =
    let f = fronted x ys (m.forth x (inl refl)) g in
    follow (keep (shuffled_of_same xs f.rest h.1 f.differ (record { forth = forth f; back = back f }))) f.moved
  where
    forth : (f : Fronted x ys) (c : Change) → IsIn c xs → IsIn c f.rest
    forth f c k = elim (f.forth c (m.forth c (inr k))) [ inl p ↦ absurd (not_self x xs h.0 (subst (λ w. IsIn w xs) p k)) | inr j ↦ j ]

    back : (f : Fronted x ys) (c : Change) → IsIn c f.rest → IsIn c xs
    back f c k = elim (m.back c (f.back c k)) [ inl p ↦ absurd (not_self x f.rest f.apart (subst (λ w. IsIn w f.rest) p k)) | inr j ↦ j ]

-- EQUAL SETS OF CHANGES GIVE EQUAL VIEWS
pub view_of-same : (suffix : Suffix) (xs ys : List Change) → IsClosed xs → IsClosed ys → SameChanges xs ys → view_of suffix xs ≡ view_of suffix ys
view_of-same suffix xs ys h g m = view_of-shuffled suffix (shuffled_of_same xs ys (distinct xs h.once h.sound) (distinct ys g.once g.sound) m)
