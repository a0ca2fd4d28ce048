-- What is written of modifications has one replace for each type of one value.
use Rattle.std.proofs.Common.{◌≡◌, ℕ, Bool, true, false, not, ◌||◌, List, [], ◌∷◌, length, refl, sym, ap, subst, ◌∙◌, nat_lt}
use Rattle.std.specs.Prelude.{fold, if◌then◌else◌}
use Rattle.std.specs.List.{AllByRecursion, list_any}
use Rattle.repl_data.specs.declared.change.AttrKey.{AttrKey}
use Rattle.repl_data.specs.declared.change.Mod.{Mod}
use Rattle.repl_data.specs.Order.{bytes_cmp, bytes_eq}
use Rattle.repl_data.specs.Types.{is_single}
use Rattle.repl_data.proofs.InOrder.{is_equal}
use Rattle.repl_data.proofs.Sound.{neither, not_both}
use Rattle.repl_data.proofs.SameView.{same_attr}
use Rattle.rule_values.specs.Written.{Values, is_modified, replaced, write_before, written}
use Rattle.rule_values.specs.Modify.{after, has_second}
use Rattle.ldap_rules.proofs.Modified.{no_second}
use Rattle.plain_effect.proofs.Shown.{turned}
use Rattle.plain_effect.proofs.Runs.{vals_all}
use Rattle.plain_effect.proofs.Whole.{has_mod, IsOnce}

-- ---- which attribute

same : (t : AttrKey) (m : Mod) → bytes_eq t.name m.attr.name ≡ true → t ≡ m.attr
same t m e = same_attr t m.attr (is_equal (bytes_cmp t.name m.attr.name) e)

other_type : (t : AttrKey) (m : Mod) (b c : Bool) → is_single t ≡ b → is_single m.attr ≡ c → (b ≡ c → ⊥) → bytes_eq t.name m.attr.name ≡ false
other_type t m b c p q n = by (bytes_eq t.name m.attr.name) refl
  where
    by : (o : Bool) → bytes_eq t.name m.attr.name ≡ o → bytes_eq t.name m.attr.name ≡ false
    by true e = absurd (n (sym p ∙ ap is_single (same t m e) ∙ q))
    by false e = e

true_false : true ≡ false → ⊥
true_false e = cc

none_of_type : (t u : AttrKey) (mods : List Mod) → bytes_eq t.name u.name ≡ true → is_modified u mods ≡ false → has_mod t mods ≡ false
none_of_type t u [] e h = refl
none_of_type t u (m ∷ mods) e h =
    let k = neither (bytes_eq m.attr.name u.name) (is_modified u mods) h in
    let is : t ≡ u = same_attr t u (is_equal (bytes_cmp t.name u.name) e) in
    ap (λ b. b || has_mod t mods) (subst (λ (x : AttrKey). bytes_eq x.name m.attr.name ≡ false) (sym is) (turned m.attr.name u.name false k.0)) ∙ none_of_type t u mods e k.1

-- ---- once

once_before : (t : AttrKey) (has : Values) (m : Mod) (later : List Mod) → is_single t ≡ true → has_second has m ≡ false → IsOnce t later → IsOnce t (write_before has m later)
once_before t has m later s few once = by (is_single m.attr) refl (is_modified m.attr later) refl
  where
    by : (o : Bool) → is_single m.attr ≡ o → (l : Bool) → is_modified m.attr later ≡ l → IsOnce t (if o then (if l then later else replaced has m.attr ∷ later) else m ∷ later)
    by true p true q = once
    by true p false q = ((λ e. ((refl, no_second has m few p), none_of_type t m.attr later e q)), (λ e. once))
    by false p l q = ((λ e. absurd (not_both (bytes_eq t.name m.attr.name) e (other_type t m true false s p true_false))), (λ e. once))

pub written_once : (t : AttrKey) (has : Values) (mods : List Mod) → is_single t ≡ true → AllByRecursion (λ (m : Mod). has_second has m ≡ false) mods → IsOnce t (written has mods)
written_once t has [] s h = tt
written_once t has (m ∷ mods) s h = once_before t has m (written has mods) s h.0 (written_once t has mods s h.1)

-- what the entry has at the end
pub left_by : (t : AttrKey) (has : Values) (mods : List Mod) → fold after has mods t.name ≡ vals_all t mods (has t.name)
left_by t has [] = refl
left_by t has (m ∷ mods) = left_by t (after has m) mods
