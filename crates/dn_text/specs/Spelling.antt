-- Which name a text spells (RFC 4514, section 3), without regard to how it is read.
use Rattle.std.specs.Prelude.{◌≡◌, ◌≢◌, ℕ, zero, suc, true, false, List, [], ◌∷◌, ◌++◌, length, map, Some, None}
use Rattle.repl_data.specs.declared.change.Ava.{Ava}
use Rattle.repl_data.specs.declared.change.Rdn.{Rdn}
use Rattle.attr_keys.specs.Name.{bad_name}
use Rattle.attr_keys.specs.Table.{key_of, kind_of}
use Rattle.attr_keys.specs.Value.{bad_value, value_key}
use Rattle.dn_text.specs.declared.name.Dn.{Dn}
use Rattle.dn_text.specs.Split.{Span, pieces, space_count, kept_len}
use Rattle.dn_text.specs.Escape.{is_special, is_refused, hex_byte}
use Rattle.dn_text.specs.Reading.{begins_hash, has_attr, put_part}

-- so many spaces
abbrev pub spaces : ℕ → List ℕ
spaces zero = []
spaces (suc n) = 32 ∷ spaces n

-- the bytes of a value: each as it stands, or after a backslash, or as two digits after a backslash
pub data SpellsBytes : List ℕ → List ℕ → Type 0 where
  no_more : SpellsBytes [] []
  plain : (b : ℕ) (text bytes : List ℕ) → is_refused b ≡ false → b ≢ 92 → SpellsBytes text bytes → SpellsBytes (b ∷ text) (b ∷ bytes)
  escaped : (b : ℕ) (text bytes : List ℕ) → is_special b ≡ true → SpellsBytes text bytes → SpellsBytes (92 ∷ b ∷ text) (b ∷ bytes)
  digits : (high low b : ℕ) (text bytes : List ℕ) → hex_byte high low ≡ Some b → SpellsBytes text bytes → SpellsBytes (92 ∷ high ∷ low ∷ text) (b ∷ bytes)

-- the text of a value: no space and no `#` stands at the front, and no unescaped space at the end
pub record SpellsValue (text value : List ℕ) : Type 0 where
  pub bytes : SpellsBytes text value
  pub front : space_count text ≡ 0
  pub no_hash : begins_hash text ≡ false
  pub back : kept_len text ≡ length text

-- an attribute name, `=` and a value, with spaces around both, that is one part
pub record SpellsPart (text : List ℕ) (ava : Ava) : Type 0 where
  pub name : List ℕ
  pub value : List ℕ
  pub before_name : ℕ
  pub after_name : ℕ
  pub before_value : ℕ
  pub after_value : ℕ
  pub parts : text ≡ (spaces before_name ++ (name ++ spaces after_name)) ++ 61 ∷ (spaces before_value ++ (value ++ spaces after_value))
  pub is_name : bad_name name ≡ None
  pub attr : ava.attr.name ≡ key_of name
  pub spelled : SpellsValue value ava.val.spelled
  pub accepted : bad_value (kind_of ava.attr.name) ava.val.spelled ≡ None
  pub key : ava.val.key ≡ value_key (kind_of ava.attr.name) ava.val.spelled

-- each text is a part, no attribute comes twice, and with the parts that stand there in order they make these
pub data SpellsParts : List Ava → List (List ℕ) → List Ava → Type 0 where
  no_part : (avas : List Ava) → SpellsParts avas [] avas
  one_more : (before avas : List Ava) (text : List ℕ) (texts : List (List ℕ)) (a : Ava) → SpellsPart text a → has_attr a.attr.name before ≡ false → SpellsParts (put_part a before) texts avas → SpellsParts before (text ∷ texts) avas

-- the text cut at each unescaped byte that is this one
abbrev pub cut_at : ℕ → List ℕ → List (List ℕ)
cut_at by text = map (λ (s : Span). s.text) (pieces by 0 text)

-- the pieces between plus signs are the parts of the RDN
abbrev pub SpellsRdn : List ℕ → Rdn → Type 0
SpellsRdn text rdn = SpellsParts [] (cut_at 43 text) rdn.avas

-- each text is the RDN at its place
abbrev pub SpellsRdns : List (List ℕ) → List Rdn → Type 0
SpellsRdns [] [] = Unit {0}
SpellsRdns [] (rdn ∷ rdns) = ⊥
SpellsRdns (text ∷ texts) [] = ⊥
SpellsRdns (text ∷ texts) (rdn ∷ rdns) = SpellsRdn text rdn × SpellsRdns texts rdns

-- the pieces between commas are the RDNs of the name; the empty text is the empty name
abbrev pub SpellsName : List ℕ → Dn → Type 0
SpellsName [] dn = dn.rdns ≡ []
SpellsName (c ∷ text) dn = SpellsRdns (cut_at 44 (c ∷ text)) dn.rdns
