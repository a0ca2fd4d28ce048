-- What the definitions know of attribute types: which are single-valued, and which attributes and
-- classes are derived.
use Rattle.std.specs.Prelude.{ℕ, Bool, ◌&&◌, ◌||◌, ◌==◌, List, [], ◌∷◌, codes}
use Rattle.std.specs.List.{list_any, before_first}
use Rattle.repl_data.specs.declared.change.AttrKey.{AttrKey}
use Rattle.repl_data.specs.declared.change.Val.{Val}
use Rattle.repl_data.specs.declared.change.Ava.{Ava}
use Rattle.repl_data.specs.Order.{bytes_eq}

-- whether one of the texts is this one
abbrev pub is_among : List (List ℕ) → List ℕ → Bool
is_among texts text = list_any (bytes_eq text) texts

-- the name without its options: what stands before the first `;`
abbrev pub base_name : AttrKey → List ℕ
base_name t = before_first (λ b. b == 59) t.name

abbrev pub single_valued : List (List ℕ)
single_valued =
    codes "c" ∷ codes "displayname" ∷ codes "employeenumber" ∷ codes "preferredlanguage" ∷ codes "homedirectory"
    ∷ codes "loginshell" ∷ codes "dc" ∷ codes "gecos" ∷ codes "uidnumber" ∷ codes "gidnumber" ∷ []

abbrev pub is_single : AttrKey → Bool
is_single t = is_among single_valued (base_name t)

abbrev pub derived_attributes : List (List ℕ)
derived_attributes = codes "nsuniqueid" ∷ codes "nsparentuniqueid" ∷ codes "nsds5replconflict" ∷ codes "nsds50ruv" ∷ []

abbrev pub derived_classes : List (List ℕ)
derived_classes = codes "glue" ∷ codes "nstombstone" ∷ []

unfoldable pub is_derived_attribute : AttrKey → Bool
is_derived_attribute t = is_among derived_attributes t.name

-- a class that no entry has of its own
unfoldable pub is_derived_value : AttrKey → Val → Bool
is_derived_value t v = bytes_eq t.name (codes "objectclass") && is_among derived_classes v.key

abbrev pub is_derived_ava : Ava → Bool
is_derived_ava a = is_derived_attribute a.attr || is_derived_value a.attr a.val
