-- Acts one after the other, as at a step of a loop.
use Rattle.std.proofs.Common.{◌≡◌, ℕ, suc, ◌+◌, ◌<◌, ◌≤◌, true, false, ltb, add-one, arith, List, [], ◌∷◌, ◌++◌, map, length, get_or, take, drop, refl, sym, ap, ◌∙◌}
use Rattle.std.specs.Prelude.{flat_map}
use Rattle.std.proofs.lemmas.List.{take_more, map-append}
use Rattle.std.proofs.lemmas.List.Concat.{flat_map-append}
use Rattle.std.proofs.lemmas.Bool.Decides.{nat_tests}
use Rattle.std.proofs.Math.Seq.{drop-cons}
use Rattle.repl_data.specs.declared.csn.Csn.{Csn}
use Rattle.repl_data.specs.declared.change.Mod.{Mod}
use Rattle.repl_data.specs.declared.change.Body.TheVariants.{Mod as Modify}
use Rattle.repl_data.specs.declared.change.Change.{Change}
use Rattle.repl_data.specs.declared.change.Malformed.TheVariants.{TooMany}
use Rattle.repl_data.specs.Order.{stamp}
use Rattle.repl_data.specs.Check.{has_too_many, faults_of_frame, faults_of_body}
use Rattle.repl_data.specs.Closed.{is_sound}
use Rattle.repl_data.specs.Stamps.{Act, mod_acts, mods_acts}
use Rattle.repl_data.proofs.Sound.{no_fault, no_faults}
use Rattle.repl_data.specs.Facts.{AttrFacts}
use Rattle.stamp_entry.specs.Raised.{raised, raised_by}

pub raised_by_append : (attrs : List AttrFacts) (xs ys : List Act) → raised_by attrs (xs ++ ys) ≡ raised_by (raised_by attrs xs) ys
raised_by_append attrs [] ys = refl
raised_by_append attrs (x ∷ xs) ys = raised_by_append (raised x attrs) xs ys

pub raised_map_more : {X : Type 0} (attrs : List AttrFacts) (f : X → Act) (xs : List X) (i : ℕ) (d : X) → i < length xs → raised_by attrs (map f (take (i + 1) xs)) ≡ raised (f (get_or xs i d)) (raised_by attrs (map f (take i xs)))
raised_map_more attrs f xs i d l =
    ap (λ ys. raised_by attrs (map f ys)) (take_more xs i d l) ∙ ap (raised_by attrs) (map-append f (take i xs) (get_or xs i d ∷ []))
    ∙ raised_by_append attrs (map f (take i xs)) (f (get_or xs i d) ∷ [])

pub raised_flat_map_more : {X : Type 0} (attrs : List AttrFacts) (f : X → List Act) (xs : List X) (i : ℕ) (d : X) → i < length xs → raised_by attrs (flat_map f (take (i + 1) xs)) ≡ raised_by (raised_by attrs (flat_map f (take i xs))) (f (get_or xs i d))
raised_flat_map_more attrs f xs i d l =
    ap (λ ys. raised_by attrs (flat_map f ys)) (take_more xs i d l) ∙ ap (raised_by attrs) (flat_map-append f (take i xs) (get_or xs i d ∷ []) ∙ ap (λ ys. flat_map f (take i xs) ++ ys) (none (f (get_or xs i d))))
    ∙ raised_by_append attrs (flat_map f (take i xs)) (f (get_or xs i d))
  where
    none : (ys : List Act) → ys ++ [] ≡ ys
    none [] = refl
    none (y ∷ ys) = ap (λ r. y ∷ r) (none ys)

pub map_more : {X Y : Type 0} (f : X → Y) (xs : List X) (i : ℕ) (d : X) → i < length xs → map f (take (i + 1) xs) ≡ map f (take i xs) ++ f (get_or xs i d) ∷ []
map_more f xs i d l = ap (map f) (take_more xs i d l) ∙ map-append f (take i xs) (get_or xs i d ∷ [])

-- the next modification
pub mods_step : (attrs after : List AttrFacts) (c : Csn) (mods : List Mod) (i : ℕ) (m : Mod) → i < length mods → m ≡ get_or mods i m → after ≡ raised_by attrs (mod_acts (stamp c (i + 1)) m)
    → raised_by after (mods_acts c (i + 1 + 1) (drop (i + 1) mods)) ≡ raised_by attrs (mods_acts c (i + 1) (drop i mods))
mods_step attrs after c mods i m l is e =
    ap (λ w. raised_by w (mods_acts c (i + 1 + 1) (drop (i + 1) mods))) e
    ∙ sym (raised_by_append attrs (mod_acts (stamp c (i + 1)) m) (mods_acts c (i + 1 + 1) (drop (i + 1) mods)))
    ∙ ap (λ r. raised_by attrs (mods_acts c (i + 1) r)) (sym (drop-cons mods i m l ∙ ap (λ z. z ∷ drop (suc i) mods) (sym is) ∙ ap (λ n. m ∷ drop n mods) (sym (add-one i))))

-- a change that may be taken has at most 1,000 modifications
sound_many : (c : Change) → is_sound c ≡ true → has_too_many c.body ≡ false
sound_many c h = no_fault (has_too_many c.body) TooMany (no_faults (faults_of_frame c ++ faults_of_body c.body) h).1.1.1.1.0

few : (n l : ℕ) → ltb n l ≡ false → l ≤ n
few n l e = grind (arith, nat_tests)

pub few_mods : (c : Change) (mods : List Mod) → is_sound c ≡ true → c.body ≡ Modify mods → length mods ≤ 1000
few_mods c mods h b = few 1000 (length mods) (ap has_too_many (sym b) ∙ sound_many c h)
