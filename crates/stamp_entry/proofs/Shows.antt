-- The values that are chosen one by one are those that the definition shows.
use Rattle.std.proofs.Common.{◌≡◌, Bool, true, false, cond, List, [], ◌∷◌, map, refl, ap, sym, ◌∙◌}
use Rattle.std.specs.Prelude.{filter, not, ◌&&◌, ◌||◌, if◌then◌else◌}
use Rattle.std.specs.List.{list_any}
use Rattle.repl_data.specs.declared.csn.Csn.{Csn}
use Rattle.repl_data.specs.declared.change.AttrKey.{AttrKey}
use Rattle.repl_data.specs.declared.change.Rdn.{Rdn}
use Rattle.repl_data.specs.Types.{is_single}
use Rattle.repl_data.specs.Facts.{ValFacts, is_held, shows_before, vals_shown}
use Rattle.repl_data.proofs.Bools.{and_true}
use Rattle.repl_data.proofs.Loops.{map_map}
use Rattle.stamp_entry.specs.Shown.{gives_way, shows_among, val_of}

filter_map : {X Y : Type 0} (p : Y → Bool) (f : X → Y) (xs : List X) → filter p (map f xs) ≡ map f (filter (λ x. p (f x)) xs)
filter_map p f [] = refl
filter_map p f (x ∷ xs) = ap (λ r. cond (p (f x)) (f x ∷ r) r) (filter_map p f xs) ∙ by (p (f x))
  where
    by : (b : Bool) → cond b (f x ∷ map f (filter (λ x. p (f x)) xs)) (map f (filter (λ x. p (f x)) xs)) ≡ map f (cond b (x ∷ filter (λ x. p (f x)) xs) (filter (λ x. p (f x)) xs))
    by true = refl
    by false = refl

filter_filter : {X : Type 0} (q p : X → Bool) (xs : List X) → filter q (filter p xs) ≡ filter (λ x. p x && q x) xs
filter_filter q p [] = refl
filter_filter q p (x ∷ xs) = by (p x) (filter_filter q p xs)
  where
    by : (b : Bool) → filter q (filter p xs) ≡ filter (λ x. p x && q x) xs → filter q (cond b (x ∷ filter p xs) (filter p xs)) ≡ cond (b && q x) (x ∷ filter (λ x. p x && q x) xs) (filter (λ x. p x && q x) xs)
    by true h = ap (λ r. cond (q x) (x ∷ r) r) h
    by false h = h

any_filter_map : {X Y : Type 0} (q p : Y → Bool) (f : X → Y) (xs : List X) → list_any q (filter p (map f xs)) ≡ list_any (λ x. p (f x) && q (f x)) xs
any_filter_map q p f [] = refl
any_filter_map q p f (x ∷ xs) = by (p (f x)) (any_filter_map q p f xs)
  where
    by : (b : Bool) → list_any q (filter p (map f xs)) ≡ list_any (λ x. p (f x) && q (f x)) xs → list_any q (cond b (f x ∷ filter p (map f xs)) (filter p (map f xs))) ≡ ((b && q (f x)) || list_any (λ x. p (f x) && q (f x)) xs)
    by true h = ap (λ r. q (f x) || r) h
    by false h = h

-- of those that are held, each shows or is chosen, by whether only one is to show
pub shown_of : {X : Type 0} (facts : X → ValFacts) (rdn : Rdn) (t : AttrKey) (whole : Csn) (xs : List X)
    → map (λ v. val_of (facts v)) (filter (shows_among facts rdn t (is_single t) xs) xs) ≡ vals_shown rdn (record { attr = t; whole = whole; vals = map facts xs })
unfolding shows_among gives_way
shown_of {X = X} facts rdn t whole xs = by (is_single t)
  where
    held : List ValFacts
    held = filter (is_held rdn t) (map facts xs)

    all : map (λ v. val_of (facts v)) (filter (λ v. is_held rdn t (facts v)) xs) ≡ map val_of held
    all = sym (ap (map val_of) (filter_map (is_held rdn t) facts xs) ∙ map_map val_of facts (filter (λ v. is_held rdn t (facts v)) xs))

    chosen : map (λ v. val_of (facts v)) (filter (λ v. is_held rdn t (facts v) && not (list_any (λ w. is_held rdn t (facts w) && shows_before rdn t (facts w) (facts v)) xs)) xs)
        ≡ map val_of (filter (λ v. not (list_any (λ w. shows_before rdn t w v) held)) held)
    chosen =
        (λ i. map (λ v. val_of (facts v)) (filter (λ v. is_held rdn t (facts v) && not (sym (any_filter_map (λ w. shows_before rdn t w (facts v)) (is_held rdn t) facts xs) i)) xs))
        ∙ sym (ap (λ r. map val_of r)
        (filter_filter (λ v. not (list_any (λ w. shows_before rdn t w v) held)) (is_held rdn t) (map facts xs)
        ∙ filter_map (λ v. is_held rdn t v && not (list_any (λ w. shows_before rdn t w v) held)) facts xs)
        ∙ map_map val_of facts _)

    by : (b : Bool) → map (λ v. val_of (facts v)) (filter (λ v. is_held rdn t (facts v) && (not b || not (list_any (λ w. is_held rdn t (facts w) && shows_before rdn t (facts w) (facts v)) xs))) xs)
        ≡ map val_of (if b then filter (λ v. not (list_any (λ w. shows_before rdn t w v) held)) held else held)
    by true = chosen
    by false = (λ i. map (λ v. val_of (facts v)) (filter (λ v. and_true (is_held rdn t (facts v)) i) xs)) ∙ all
