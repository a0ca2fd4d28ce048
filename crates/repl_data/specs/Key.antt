-- THE KEY OF A DIRECTORY STRING, by which its spellings compare: full case folding, then compatibility
-- composition, then outer spaces dropped and runs of spaces made one. (After RFC 4518, section 2.)
use Rattle.std.specs.Prelude.{ℕ, ◌-◌, Bool, true, ◌==◌, ◌&&◌, List, [], ◌∷◌, length, remove, slice_index, chars, encode_utf8_all, if◌then◌else◌}
use Rattle.std.specs.Str.{is_utf8}
use Rattle.caseless.specs.Caseless.{default_case_fold}
use Rattle.unicode_normalization.specs.Forms.{nfkc}

-- full case folding (RFC 4518, section 2.2, has another table), and then the form NFKC (section 2.3)
unfoldable pub folded : List ℕ → List ℕ
folded bytes = encode_utf8_all (nfkc (default_case_fold (chars bytes)))

-- Runs of spaces made one (section 2.6.1); a space is U+0020. After a space, which the flag tells, no further
-- one is kept.
abbrev pub squeezed : Bool → List ℕ → List ℕ
squeezed after [] = []
squeezed after (b ∷ bs) = if after && b == 32 then squeezed true bs else b ∷ squeezed (b == 32) bs

abbrev pub without_last_space : List ℕ → List ℕ
without_last_space bytes = if slice_index bytes (length bytes - 1) == 32 then remove bytes (length bytes - 1) else bytes

-- Outer spaces dropped and runs of spaces made one: as if a space came before, and a last one left out.
abbrev pub trimmed : List ℕ → List ℕ
trimmed bytes = without_last_space (squeezed true bytes)

-- the key of a text of UTF-8
unfoldable pub text_key : List ℕ → List ℕ
text_key text = trimmed (folded text)

-- the key of bytes: that of their text, and of bytes that are no UTF-8 these bytes
abbrev pub bytes_key : List ℕ → List ℕ
bytes_key bytes = if is_utf8 bytes then text_key bytes else bytes
