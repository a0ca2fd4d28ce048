-- How CSNs, ids and names are written.
use Rattle.std.specs.Prelude.{ℕ, ◌^◌, ◌<◌, Bool, false, ◌||◌, ◌==◌, nat_lt, List, [], ◌∷◌, ◌++◌, map, take, drop, codes, Option, option_map, if◌then◌else◌}
use Rattle.std.specs.List.{list_any}
use Rattle.std.specs.Result.{result_ok}
use Rattle.std.specs.Int.{w16, w32, to_be_bytes, from_be_bytes}
use Rattle.hex.specs.Hex.{encode_lower, decode_sized}
use Rattle.repl_data.specs.declared.csn.Csn.{Csn}
use Rattle.repl_data.specs.declared.csn.Uid.{Uid}
use Rattle.repl_data.specs.declared.change.Rdn.{Rdn}
use Rattle.repl_data.specs.declared.change.Ava.{Ava}

-- the parts of a CSN are 32 and three times 16 bits; a number of these definitions has no bound of its own
pub record IsInRange (c : Csn) : Type 0 where
  pub time : c.time < 2 ^ 32
  pub seq : c.seq < 2 ^ 16
  pub rid : c.rid < 2 ^ 16
  pub sub : c.sub < 2 ^ 16

-- ten bytes, the parts big-endian
abbrev pub csn_bytes : Csn → List ℕ
csn_bytes c = to_be_bytes w32 c.time ++ to_be_bytes w16 c.seq ++ to_be_bytes w16 c.rid ++ to_be_bytes w16 c.sub

-- the CSN of ten bytes
abbrev pub csn_of : List ℕ → Csn
csn_of bytes = record {
  time = from_be_bytes w32 (take 4 bytes);
  seq = from_be_bytes w16 (take 2 (drop 4 bytes));
  rid = from_be_bytes w16 (take 2 (drop 6 bytes));
  sub = from_be_bytes w16 (take 2 (drop 8 bytes));
}

-- 20 hexadecimal digits in lower case
abbrev pub csn_text : Csn → List ℕ
csn_text c = encode_lower (csn_bytes c)

-- what 20 hexadecimal digits of either case spell
abbrev pub read_csn : List ℕ → Option Csn
read_csn text = option_map csn_of (result_ok (decode_sized text 10))

-- the 20 digits and 12 zeros, in four groups of eight
abbrev pub uid_text : Uid → List ℕ
uid_text u =
    encode_lower (to_be_bytes w32 u.csn.time) ++ codes "-" ++ encode_lower (to_be_bytes w16 u.csn.seq ++ to_be_bytes w16 u.csn.rid)
    ++ codes "-" ++ encode_lower (to_be_bytes w16 u.csn.sub) ++ codes "0000-00000000"

-- a byte of a value at the place that it has in a printed name
abbrev pub escape_always : ℕ → Bool
escape_always b = list_any (λ c. b == c) (codes "\"+,;<>\\")

abbrev pub escape_as_hex : ℕ → Bool
escape_as_hex b = nat_lt b 32 || (b == 127)

abbrev pub escaped : Bool → ℕ → List ℕ
escaped edge b =
    if escape_as_hex b then 92 ∷ encode_lower (b ∷ [])
    else (if escape_always b || edge then 92 ∷ b ∷ [] else b ∷ [])

-- the bytes after the first: a space at the end is escaped
abbrev pub escaped_rest : List ℕ → List ℕ
escaped_rest [] = []
escaped_rest (b ∷ []) = escaped (b == 32) b
escaped_rest (b ∷ c ∷ bs) = escaped false b ++ escaped_rest (c ∷ bs)

-- a space or a `#` at the front, a space at the end, and the bytes above
abbrev pub escaped_value : List ℕ → List ℕ
escaped_value [] = []
escaped_value (b ∷ bs) = escaped ((b == 32) || (b == 35)) b ++ escaped_rest bs

abbrev pub ava_text : Ava → List ℕ
ava_text a = a.attr.name ++ codes "=" ++ escaped_value a.val.spelled

-- pieces with a separator between each two
abbrev pub joined : List ℕ → List (List ℕ) → List ℕ
joined sep [] = []
joined sep (p ∷ []) = p
joined sep (p ∷ q ∷ ps) = p ++ sep ++ joined sep (q ∷ ps)

abbrev pub rdn_text : Rdn → List ℕ
rdn_text rdn = joined (codes "+") (map ava_text rdn.avas)
