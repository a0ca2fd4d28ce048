-- Parts in order of attribute.
use Rattle.std.proofs.Common.{◌≡◌, ℕ, ◌+◌, ◌≤◌, Bool, true, false, cond, List, [], ◌∷◌, ◌++◌, length, insert, bytes_eq, refl, sym, ap, ap₂, ◌∙◌, append_assoc, add-one, arith}
use Rattle.std.specs.Prelude.{◌||◌, ◌&&◌}
use Rattle.std.proofs.lemmas.List.{append-nil, take_all, drop_all}
use Rattle.std.proofs.lemmas.Bool.{false≢true}
use Rattle.std.proofs.lemmas.Cmp.{nat_list_cmp_total}
use Rattle.std.proofs.lemmas.Map.Text.{is_eq-slice_cmp}
use Rattle.std.specs.declared.cmp.Ordering.{Ordering}
use Rattle.std.specs.declared.cmp.Ordering.TheVariants.{Less, Equal, Greater}
use Rattle.std.specs.Ordering.{nat_cmp, is_lt, is_eq, ordering_reverse}
use Rattle.std.specs.Cmp.Lexicographic.{slice_cmp}
use Rattle.repl_data.specs.declared.change.Ava.{Ava}
use Rattle.repl_data.proofs.KeyPlaces.{is_less}
use Rattle.repl_data.proofs.Bools.{and-left, and-right}
use Rattle.dn_text.specs.Reading.{comes_before, place_among, put_part, has_attr}
use Rattle.dn_text.specs.Print.{is_rising, put_all}
use Rattle.dn_text.specs.Laws.{IsBelowAll, AreReadableParts}

pub before-other : (a b : Ava) → comes_before a b ≡ true → comes_before b a ≡ false
before-other a b h = flip (slice_cmp nat_cmp a.attr.name b.attr.name) (slice_cmp nat_cmp b.attr.name a.attr.name) (nat_list_cmp_total.antisymm b.attr.name a.attr.name) h
  where
    flip : (o p : Ordering) → p ≡ ordering_reverse o → is_lt o ≡ true → is_lt p ≡ false
    flip Less p e h = ap is_lt e
    flip Equal p e h = absurd (false≢true h)
    flip Greater p e h = absurd (false≢true h)

before-differs : (a b : Ava) → comes_before a b ≡ true → bytes_eq a.attr.name b.attr.name ≡ false
before-differs a b h = sym (is_eq-slice_cmp a.attr.name b.attr.name) ∙ other (slice_cmp nat_cmp a.attr.name b.attr.name) h
  where
    other : (o : Ordering) → is_lt o ≡ true → is_eq o ≡ false
    other Less h = refl
    other Equal h = absurd (false≢true h)
    other Greater h = absurd (false≢true h)

-- the part comes after all of these
abbrev pub IsAboveAll : Ava → List Ava → Type 0
IsAboveAll a [] = Unit {0}
IsAboveAll a (b ∷ bs) = (comes_before b a ≡ true) × IsAboveAll a bs

place-last : (a : Ava) (bs : List Ava) → IsAboveAll a bs → place_among a bs ≡ length bs
place-last a [] h = refl
place-last a (b ∷ bs) h =
    ap (λ (t : Bool). cond t 0 (place_among a bs + 1)) (before-other b a h.0) ∙ ap (λ (n : ℕ). n + 1) (place-last a bs h.1) ∙ add-one (length bs)

pub put-last : (a : Ava) (bs : List Ava) → IsAboveAll a bs → put_part a bs ≡ bs ++ a ∷ []
put-last a bs h =
    let le : length bs ≤ length bs = omega arith in
    ap (λ (i : ℕ). insert bs i a) (place-last a bs h)
    ∙ ap₂ (λ (xs ys : List Ava). xs ++ a ∷ ys) (take_all (length bs) bs le) (drop_all (length bs) bs le)

pub none-same : (a : Ava) (bs : List Ava) → IsAboveAll a bs → has_attr a.attr.name bs ≡ false
none-same a [] h = refl
none-same a (b ∷ bs) h = ap₂ ◌||◌ (before-differs b a h.0) (none-same a bs h.1)

-- all of these come before all of those
abbrev pub AreApart : List Ava → List Ava → Type 0
AreApart bs [] = Unit {0}
AreApart bs (a ∷ more) = IsAboveAll a bs × AreApart bs more

above-push : (a b : Ava) (bs : List Ava) → IsAboveAll a bs → comes_before b a ≡ true → IsAboveAll a (bs ++ b ∷ [])
above-push a b [] h k = (k, tt)
above-push a b (c ∷ cs) h k = (h.0, above-push a b cs h.1 k)

pub apart-push : (bs more : List Ava) (b : Ava) → AreApart bs more → IsBelowAll b more → AreApart (bs ++ b ∷ []) more
apart-push bs [] b h k = tt
apart-push bs (a ∷ more) b h k = (above-push a b bs h.0 k.0, apart-push bs more b h.1 k.1)

pub apart-none : (more : List Ava) → AreApart [] more
apart-none [] = tt
apart-none (a ∷ more) = (tt, apart-none more)

-- parts in strictly rising order
abbrev pub AreRising : List Ava → Type 0
AreRising [] = Unit {0}
AreRising (a ∷ more) = IsBelowAll a more × AreRising more

-- parts in order are put where they stand
pub put-rising : (done more : List Ava) → AreApart done more → AreRising more → put_all done more ≡ done ++ more
unfolding put_all
put-rising done [] h k = sym (append-nil done)
put-rising done (a ∷ more) h k =
    ap (λ (xs : List Ava). put_all xs more) (put-last a done h.0)
    ∙ put-rising (done ++ a ∷ []) more (apart-push done more a h.1 k.0) k.1
    ∙ append_assoc done (a ∷ []) more

pub rising-from_readable : (avas : List Ava) → AreReadableParts avas → AreRising avas
rising-from_readable [] h = tt
rising-from_readable (a ∷ more) h = (h.1, rising-from_readable more h.2)

-- ---- the test

pub before-trans : (a b c : Ava) → comes_before a b ≡ true → comes_before b c ≡ true → comes_before a c ≡ true
before-trans a b c h k =
    ap is_lt (nat_list_cmp_total.trans a.attr.name b.attr.name c.attr.name (is_less (slice_cmp nat_cmp a.attr.name b.attr.name) h) (is_less (slice_cmp nat_cmp b.attr.name c.attr.name) k))

pub below-trans : (a b : Ava) (more : List Ava) → comes_before a b ≡ true → IsBelowAll b more → IsBelowAll a more
below-trans a b [] h k = tt
below-trans a b (c ∷ more) h k = (before-trans a b c h k.0, below-trans a b more h k.1)

rising-from_test : (avas : List Ava) → is_rising avas ≡ true → AreRising avas
rising-from_test [] h = tt
rising-from_test (a ∷ []) h = (tt, tt)
rising-from_test (a ∷ b ∷ more) h =
    let first : comes_before a b ≡ true = and-left (comes_before a b) (is_rising (b ∷ more)) h in
    let rest : AreRising (b ∷ more) = rising-from_test (b ∷ more) (and-right (comes_before a b) (is_rising (b ∷ more)) h) in
    ((first, below-trans a b more first rest.0), rest)

-- parts that pass the test stand in order
pub rising-same : (avas : List Ava) → is_rising avas ≡ true → put_all [] avas ≡ avas
rising-same avas h = put-rising [] avas (apart-none avas) (rising-from_test avas h)
