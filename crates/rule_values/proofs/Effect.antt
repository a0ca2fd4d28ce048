-- What is written has the effect of the modifications.
use Rattle.std.proofs.Common.{◌≡◌, ℕ, Bool, true, false, cond, ◌||◌, List, [], ◌∷◌, refl, sym, ap, ◌∙◌}
use Rattle.std.specs.Prelude.{fold}
use Rattle.std.specs.List.{list_any}
use Rattle.repl_data.specs.declared.change.AttrKey.{AttrKey}
use Rattle.repl_data.specs.declared.change.Val.{Val}
use Rattle.repl_data.specs.declared.change.Mod.{Mod}
use Rattle.repl_data.specs.Order.{bytes_eq}
use Rattle.repl_data.specs.Plain.{values_after}
use Rattle.repl_data.proofs.KeyPlaces.{is_same, same_turned}
use Rattle.repl_data.proofs.Sound.{neither}
use Rattle.attr_keys.specs.Table.{is_single}
use Rattle.rule_values.specs.Modify.{after}
use Rattle.rule_values.specs.Written.{Values, is_modified, replaced, write_before, written}

-- one modification, looked at from one attribute
abbrev effect : List ℕ → List Val → Mod → List Val
effect name vals m = cond (bytes_eq name m.attr.name) (values_after m.kind m.vals vals) vals

seen_from : (name : List ℕ) (has : Values) (mods : List Mod) → fold after has mods name ≡ fold (effect name) (has name) mods
seen_from name has [] = refl
seen_from name has (m ∷ mods) = seen_from name (after has m) mods

-- a modification of another attribute
passed : (name : List ℕ) (vals : List Val) (m : Mod) (mods : List Mod) → bytes_eq name m.attr.name ≡ false → fold (effect name) vals (m ∷ mods) ≡ fold (effect name) vals mods
passed name vals m mods h = ap (λ b. fold (effect name) (cond b (values_after m.kind m.vals vals) vals) mods) h

-- and one of this attribute
taken : (name : List ℕ) (vals : List Val) (m : Mod) (mods : List Mod) → bytes_eq name m.attr.name ≡ true → fold (effect name) vals (m ∷ mods) ≡ fold (effect name) (values_after m.kind m.vals vals) mods
taken name vals m mods h = ap (λ b. fold (effect name) (cond b (values_after m.kind m.vals vals) vals) mods) h

-- what is written before others of another attribute changes nothing here
write_passed : (last : Values) (name : List ℕ) (vals : List Val) (m : Mod) (later : List Mod) → bytes_eq name m.attr.name ≡ false → fold (effect name) vals (write_before last m later) ≡ fold (effect name) vals later
write_passed last name vals m later h = by (is_single m.attr.name) (is_modified m.attr later)
  where
    by : (s t : Bool) → fold (effect name) vals (cond s (cond t later (replaced last m.attr ∷ later)) (m ∷ later)) ≡ fold (effect name) vals later
    by true true = refl
    by true false = passed name vals (replaced last m.attr) later h
    by false t = passed name vals m later h

-- ---- an attribute with many values: its modifications stay as they are

many_kept : (last : Values) (name : List ℕ) (mods : List Mod) (vals : List Val) → is_single name ≡ false → fold (effect name) vals (written last mods) ≡ fold (effect name) vals mods
many_kept last name [] vals s = refl
many_kept last name (m ∷ mods) vals s = by (bytes_eq name m.attr.name) refl (λ vs. many_kept last name mods vs s)
  where
    by : (b : Bool) → bytes_eq name m.attr.name ≡ b → ((vs : List Val) → fold (effect name) vs (written last mods) ≡ fold (effect name) vs mods) → fold (effect name) vals (write_before last m (written last mods)) ≡ fold (effect name) vals (m ∷ mods)
    by false h more = write_passed last name vals m (written last mods) h ∙ more vals ∙ sym (passed name vals m mods h)
    by true h more =
        let plain : is_single m.attr.name ≡ false = ap is_single (sym (is_same name m.attr.name h)) ∙ s in
        ap (λ t. fold (effect name) vals (cond t (cond (is_modified m.attr (written last mods)) (written last mods) (replaced last m.attr ∷ written last mods)) (m ∷ written last mods))) plain
        ∙ taken name vals m (written last mods) h ∙ more (values_after m.kind m.vals vals) ∙ sym (taken name vals m mods h)

-- ---- an attribute with one value: what is written leaves what the modifications leave

abbrev touches : List ℕ → List Mod → Bool
touches name mods = list_any (λ (m : Mod). bytes_eq name m.attr.name) mods

untouched : (name : List ℕ) (vals : List Val) (mods : List Mod) → touches name mods ≡ false → fold (effect name) vals mods ≡ vals
untouched name vals [] h = refl
untouched name vals (m ∷ mods) h =
    let h' = neither (bytes_eq name m.attr.name) (touches name mods) h in
    passed name vals m mods h'.0 ∙ untouched name vals mods h'.1

-- who is written was asked for
touched_before : (last : Values) (name : List ℕ) (m : Mod) (later : List Mod) → touches name (write_before last m later) ≡ true → (bytes_eq name m.attr.name || touches name later) ≡ true
touched_before last name m later = by (is_single m.attr.name) (is_modified m.attr later)
  where
    behind : (b c : Bool) → c ≡ true → (b || c) ≡ true
    behind true c h = refl
    behind false c h = h

    by : (s t : Bool) → touches name (cond s (cond t later (replaced last m.attr ∷ later)) (m ∷ later)) ≡ true → (bytes_eq name m.attr.name || touches name later) ≡ true
    by true true h = behind (bytes_eq name m.attr.name) (touches name later) h
    by true false h = h
    by false t h = h

touched_first : (last : Values) (name : List ℕ) (mods : List Mod) → touches name (written last mods) ≡ true → touches name mods ≡ true
touched_first last name [] h = h
touched_first last name (m ∷ mods) h = by (bytes_eq name m.attr.name) (touched_before last name m (written last mods) h) (touched_first last name mods)
  where
    by : (b : Bool) → (b || touches name (written last mods)) ≡ true → (touches name (written last mods) ≡ true → touches name mods ≡ true) → (b || touches name mods) ≡ true
    by true g more = refl
    by false g more = more g

modified_turned : (t : AttrKey) (mods : List Mod) → is_modified t mods ≡ touches t.name mods
modified_turned t [] = refl
modified_turned t (m ∷ mods) = ap (λ b. b || is_modified t mods) (same_turned m.attr.name t.name) ∙ ap (λ b. bytes_eq t.name m.attr.name || b) (modified_turned t mods)

one_left : (last : Values) (name : List ℕ) (mods : List Mod) (vals : List Val) → is_single name ≡ true → fold (effect name) vals (written last mods) ≡ cond (touches name mods) (last name) vals
one_left last name [] vals s = refl
one_left last name (m ∷ mods) vals s = by (bytes_eq name m.attr.name) refl (λ vs. one_left last name mods vs s)
  where
    same : (b : Bool) → cond b (last name) (last name) ≡ last name
    same true = refl
    same false = refl

    written_here : (t : Bool) → name ≡ m.attr.name → bytes_eq name m.attr.name ≡ true → is_modified m.attr (written last mods) ≡ t → ((vs : List Val) → fold (effect name) vs (written last mods) ≡ cond (touches name mods) (last name) vs)
        → fold (effect name) vals (cond t (written last mods) (replaced last m.attr ∷ written last mods)) ≡ last name
    written_here true e h g more =
        let there : touches name mods ≡ true = touched_first last name mods (ap (λ n. touches n (written last mods)) e ∙ sym (modified_turned m.attr (written last mods)) ∙ g) in
        more vals ∙ ap (λ b. cond b (last name) vals) there
    written_here false e h g more =
        taken name vals (replaced last m.attr) (written last mods) h ∙ more (last m.attr.name) ∙ ap (λ n. cond (touches name mods) (last name) (last n)) (sym e) ∙ same (touches name mods)

    by : (b : Bool) → bytes_eq name m.attr.name ≡ b → ((vs : List Val) → fold (effect name) vs (written last mods) ≡ cond (touches name mods) (last name) vs)
        → fold (effect name) vals (write_before last m (written last mods)) ≡ cond (b || touches name mods) (last name) vals
    by false h more = write_passed last name vals m (written last mods) h ∙ more vals
    by true h more =
        let one : is_single m.attr.name ≡ true = ap is_single (sym (is_same name m.attr.name h)) ∙ s in
        ap (λ t. fold (effect name) vals (cond t (cond (is_modified m.attr (written last mods)) (written last mods) (replaced last m.attr ∷ written last mods)) (m ∷ written last mods))) one
        ∙ written_here (is_modified m.attr (written last mods)) (is_same name m.attr.name h) h refl more

-- ---- every attribute

pub same_effect : (has : Values) (mods : List Mod) (name : List ℕ) → fold after has (written (fold after has mods) mods) name ≡ fold after has mods name
same_effect has mods name = seen_from name has (written (fold after has mods) mods) ∙ by (is_single name) refl
  where
    settled : (b : Bool) → touches name mods ≡ b → cond b (fold after has mods name) (has name) ≡ fold after has mods name
    settled true h = refl
    settled false h = sym (seen_from name has mods ∙ untouched name (has name) mods h)

    by : (s : Bool) → is_single name ≡ s → fold (effect name) (has name) (written (fold after has mods) mods) ≡ fold after has mods name
    by false e = many_kept (fold after has mods) name mods (has name) e ∙ sym (seen_from name has mods)
    by true e = one_left (fold after has mods) name mods (has name) e ∙ settled (touches name mods) refl
