-- The keys of texts of ASCII, and of the values that a view derives.
use Rattle.std.proofs.Common.{◌≡◌, ℕ, zero, suc, ◌<◌, List, [], ◌∷◌, ◌++◌, map, encode_utf8_all, IsAscii, refl, ap, ◌∙◌, arith}
use Rattle.std.proofs.Common.{eqb-true, length, remove, slice_index, ◌-◌, ◌/◌, ◌%◌}
use Rattle.std.specs.Prelude.{Bool, true, false, not, nat_lt, ◌==◌, ◌&&◌, codes, if◌then◌else◌}
use Rattle.std.specs.List.{list_all}
use Rattle.std.specs.Int.{w16, w32, to_be_bytes}
use Rattle.hex.specs.Hex.{encode_lower, encode_with, lower_digits}
use Rattle.repl_data.specs.declared.csn.Uid.{Uid}
use Rattle.repl_data.specs.Text.{uid_text}
use Rattle.repl_data.proofs.Sound.{both_true, not_true}
use Rattle.std.proofs.lemmas.Bool.Decides.{nat_tests}
use Rattle.std.proofs.lemmas.Str.{chars-IsAscii, encodes-IsAscii}
use Rattle.std.proofs.lemmas.Str.Ascii.{All-from_ascii}
use Rattle.std.specs.Char.{to_ascii_lowercase}
use Rattle.caseless.specs.Caseless.{default_case_fold}
use Rattle.caseless.proofs.CaselessLemmas.{default_case_fold-ascii}
use Rattle.unicode_normalization.specs.Forms.{nfkc, Nfkc}
use Rattle.unicode_normalization.proofs.FormsLemmas.{normalize-ascii}
use Rattle.repl_data.specs.Key.{folded, squeezed, without_last_space, trimmed, text_key}

lower-ascii : (b : ℕ) → b < 128 → to_ascii_lowercase b < 128
lower-ascii b h = grind (arith, nat_tests)

pub IsAscii-lower : (bs : List ℕ) → IsAscii bs → IsAscii (map to_ascii_lowercase bs)
IsAscii-lower [] h = h
IsAscii-lower (b ∷ bs) h = cons (lower-ascii b (h 0)) (IsAscii-lower bs (λ i. h (suc i)))
  where
    cons : to_ascii_lowercase b < 128 → IsAscii (map to_ascii_lowercase bs) → IsAscii (map to_ascii_lowercase (b ∷ bs))
    cons first rest zero = first
    cons first rest (suc i) = rest i

pub folded-ascii : (bs : List ℕ) → IsAscii bs → folded bs ≡ map to_ascii_lowercase bs
unfolding folded
folded-ascii bs h =
    ap (λ (cs : List ℕ). encode_utf8_all (nfkc (default_case_fold cs))) (chars-IsAscii bs h)
    ∙ ap (λ (cs : List ℕ). encode_utf8_all (nfkc cs)) (default_case_fold-ascii bs (All-from_ascii bs h))
    ∙ ap encode_utf8_all (normalize-ascii Nfkc _ (All-from_ascii _ (IsAscii-lower bs h)))
    ∙ encodes-IsAscii _ (IsAscii-lower bs h)

-- the key of a text of ASCII
pub text_key-ascii : (bs : List ℕ) → IsAscii bs → text_key bs ≡ trimmed (map to_ascii_lowercase bs)
unfolding text_key
text_key-ascii bs h = ap trimmed (folded-ascii bs h)

-- ---- texts that are their own keys

-- a byte that a key keeps: of ASCII, of no upper case, and no space
abbrev is_kept : ℕ → Bool
is_kept b = nat_lt b 128 && ((to_ascii_lowercase b == b) && not (b == 32))

kept_at : (bs : List ℕ) → list_all is_kept bs ≡ true → (k : ℕ) → is_kept (slice_index bs k) ≡ true
kept_at [] h k = refl
kept_at (b ∷ bs) h zero = (both_true _ _ h).0
kept_at (b ∷ bs) h (suc k) = kept_at bs (both_true _ _ h).1 k

below : (b : ℕ) → nat_lt b 128 ≡ true → b < 128
below b h = grind (arith, nat_tests)

ascii_of : (bs : List ℕ) → list_all is_kept bs ≡ true → IsAscii bs
ascii_of bs h k = below (slice_index bs k) (both_true _ _ (kept_at bs h k)).0

not_space : (b : ℕ) → is_kept b ≡ true → (b == 32) ≡ false
not_space b h = not_true _ (both_true _ _ (both_true _ _ h).1).1

lower_kept : (bs : List ℕ) → list_all is_kept bs ≡ true → map to_ascii_lowercase bs ≡ bs
lower_kept [] h = refl
lower_kept (b ∷ bs) h =
    let h' = both_true _ _ h in
    let same : to_ascii_lowercase b ≡ b = eqb-true (to_ascii_lowercase b) b (both_true _ _ (both_true _ _ h'.0).1).0 in
    λ i. same i ∷ lower_kept bs h'.1 i

squeezed_kept : (after : Bool) (bs : List ℕ) → list_all is_kept bs ≡ true → squeezed after bs ≡ bs
squeezed_kept after [] h = refl
squeezed_kept after (b ∷ bs) h =
    let h' = both_true _ _ h in
    let no : (b == 32) ≡ false = not_space b h'.0 in
    ap (λ s. if after && s then squeezed true bs else b ∷ squeezed s bs) no ∙ by after ∙ ap (λ ws. b ∷ ws) (squeezed_kept false bs h'.1)
  where
    by : (a : Bool) → (if a && false then squeezed true bs else b ∷ squeezed false bs) ≡ b ∷ squeezed false bs
    by true = refl
    by false = refl

trimmed_kept : (bs : List ℕ) → list_all is_kept bs ≡ true → trimmed bs ≡ bs
trimmed_kept bs h =
    ap without_last_space (squeezed_kept true bs h)
    ∙ ap (λ s. if s then remove bs (length bs - 1) else bs) (not_space _ (kept_at bs h (length bs - 1)))

pub own_key : (bs : List ℕ) → list_all is_kept bs ≡ true → text_key bs ≡ bs
own_key bs h = text_key-ascii bs (ascii_of bs h) ∙ ap trimmed (lower_kept bs h) ∙ trimmed_kept bs h

-- ---- ids

all_of_both : (xs ys : List ℕ) → list_all is_kept xs ≡ true → list_all is_kept ys ≡ true → list_all is_kept (xs ++ ys) ≡ true
all_of_both [] ys h g = g
all_of_both (x ∷ xs) ys h g =
    let h' = both_true _ _ h in
    (λ i. h'.0 i && list_all is_kept (xs ++ ys)) ∙ all_of_both xs ys h'.1 g

digits_kept : (bs : List ℕ) → list_all is_kept (encode_lower bs) ≡ true
unfolding encode_with
digits_kept [] = refl
digits_kept (b ∷ bs) =
    (λ i. kept_at lower_digits refl (b / 16) i && (kept_at lower_digits refl (b % 16) i && list_all is_kept (encode_lower bs))) ∙ digits_kept bs

uid_kept : (u : Uid) → list_all is_kept (uid_text u) ≡ true
unfolding encode_with
uid_kept u =
    let sub : List ℕ = encode_lower (to_be_bytes w16 u.csn.sub) ++ codes "0000-00000000" in
    let middle : List ℕ = encode_lower (to_be_bytes w16 u.csn.seq ++ to_be_bytes w16 u.csn.rid) in
    let last : list_all is_kept sub ≡ true = all_of_both (encode_lower (to_be_bytes w16 u.csn.sub)) (codes "0000-00000000") (digits_kept (to_be_bytes w16 u.csn.sub)) refl in
    let behind : list_all is_kept (middle ++ codes "-" ++ sub) ≡ true = all_of_both middle (codes "-" ++ sub) (digits_kept (to_be_bytes w16 u.csn.seq ++ to_be_bytes w16 u.csn.rid)) (all_of_both (codes "-") sub refl last) in
    all_of_both (encode_lower (to_be_bytes w32 u.csn.time)) (codes "-" ++ (middle ++ codes "-" ++ sub)) (digits_kept (to_be_bytes w32 u.csn.time)) (all_of_both (codes "-") (middle ++ codes "-" ++ sub) refl behind)

pub uid_key : (u : Uid) → text_key (uid_text u) ≡ uid_text u
uid_key u = own_key (uid_text u) (uid_kept u)

-- ---- the classes and texts that a view derives

pub glue_key : text_key (codes "glue") ≡ codes "glue"
glue_key = own_key (codes "glue") refl

lower_key : (bs : List ℕ) → list_all (λ b. nat_lt b 128) bs ≡ true → list_all is_kept (map to_ascii_lowercase bs) ≡ true → text_key bs ≡ map to_ascii_lowercase bs
lower_key bs h g = text_key-ascii bs (ascii bs h) ∙ trimmed_kept (map to_ascii_lowercase bs) g
  where
    ascii : (cs : List ℕ) → list_all (λ b. nat_lt b 128) cs ≡ true → IsAscii cs
    ascii [] e k = omega arith
    ascii (c ∷ cs) e zero = below c (both_true _ _ e).0
    ascii (c ∷ cs) e (suc k) = ascii cs (both_true _ _ e).1 k

pub tombstone_key : text_key (codes "nsTombstone") ≡ codes "nstombstone"
tombstone_key = lower_key (codes "nsTombstone") refl refl

pub glue_conflict_key : text_key (codes "deletedEntryHasChildren") ≡ codes "deletedentryhaschildren"
glue_conflict_key = lower_key (codes "deletedEntryHasChildren") refl refl
