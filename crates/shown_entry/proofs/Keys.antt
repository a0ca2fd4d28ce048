-- The keys of what tells a conflict, which is a directory string, or no text.
use Rattle.std.proofs.Common.{◌≡◌, ℕ, Bool, true, false, List, Some, None, refl, sym, ap, subst, ◌∙◌}
use Rattle.std.specs.Prelude.{codes, if◌then◌else◌}
use Rattle.std.specs.Str.{is_utf8}
use Rattle.repl_data.specs.declared.change.AttrKey.{AttrKey}
use Rattle.repl_data.specs.Key.{text_key, bytes_key}
use Rattle.attr_keys.specs.Table.{kind_of, type_of, types}
use Rattle.attr_keys.specs.Value.{bad_value, bad_text, bad_unless, utf8_fault, has_text, value_key, IsValueFault}
use Rattle.attr_keys.specs.declared.kind.Kind.TheVariants.{Dir}
use Rattle.attr_keys.specs.declared.fault.KeyFault.{KeyFault}
use Rattle.attr_keys.specs.declared.fault.KeyFault.TheVariants.{BadValue}
use Rattle.attr_keys.proofs.Texts.{value_key-text}

-- values of this attribute are directory strings
of_kind : kind_of (codes "nsds5replconflict") ≡ Dir
unfolding kind_of type_of types
of_kind = refl

abbrev conflict : AttrKey
conflict = record { name = codes "nsds5replconflict" }

bad_of : (bytes : List ℕ) → bad_value (kind_of (codes "nsds5replconflict")) bytes ≡ (if is_utf8 bytes then bad_unless (has_text bytes) bytes else Some (utf8_fault bytes))
unfolding bad_value bad_text
bad_of bytes = ap (λ kind. bad_value kind bytes) of_kind

-- bytes with a key are a text
pub key_of_text : (bytes : List ℕ) (attr : AttrKey) → attr ≡ conflict → bad_value (kind_of attr.name) bytes ≡ None → value_key (kind_of attr.name) bytes ≡ bytes_key bytes
key_of_text bytes attr is h =
    ap (λ (t : AttrKey). value_key (kind_of t.name) bytes) is
    ∙ ap (λ kind. value_key kind bytes) of_kind
    ∙ value_key-text bytes
    ∙ by (is_utf8 bytes) (sym (bad_of bytes) ∙ ap (λ (t : AttrKey). bad_value (kind_of t.name) bytes) (sym is) ∙ h)
  where
    by : (b : Bool) → (if b then bad_unless (has_text bytes) bytes else Some (utf8_fault bytes)) ≡ None → text_key bytes ≡ (if b then text_key bytes else bytes)
    by true e = refl
    by false e = absurd cc

-- bytes with no key are none
no_key : (bytes : List ℕ) (attr : AttrKey) (place : ℕ) → has_text bytes ≡ true → attr ≡ conflict → bad_value (kind_of attr.name) bytes ≡ Some place → bytes ≡ bytes_key bytes
no_key bytes attr place t is h =
    by (is_utf8 bytes)
    (sym (ap (λ g. if is_utf8 bytes then bad_unless g bytes else Some (utf8_fault bytes)) t)
    ∙ sym (bad_of bytes) ∙ ap (λ (t : AttrKey). bad_value (kind_of t.name) bytes) (sym is) ∙ h)
  where
    by : (b : Bool) → (if b then bad_unless true bytes else Some (utf8_fault bytes)) ≡ Some place → bytes ≡ (if b then text_key bytes else bytes)
    by true e = absurd cc
    by false e = refl

pub key_of_bytes : (bytes : List ℕ) (attr : AttrKey) (place : ℕ) (fault : KeyFault) → fault ≡ BadValue place → has_text bytes ≡ true → attr ≡ conflict → IsValueFault (bad_value (kind_of attr.name) bytes) fault → bytes ≡ bytes_key bytes
key_of_bytes bytes attr place fault told t is h = no_key bytes attr place t is (subst (IsValueFault (bad_value (kind_of attr.name) bytes)) told h)
