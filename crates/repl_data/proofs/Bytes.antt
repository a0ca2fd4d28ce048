-- A CSN and its ten bytes.
use Rattle.std.proofs.Common.{◌≡◌, ℕ, zero, suc, ◌<◌, List, [], ◌∷◌, ◌++◌, length, get_or, take, drop, refl, sym, ap, ◌∙◌, arith}
use Rattle.std.specs.Prelude.{Option, Some, Result, Ok, Err, IsSome}
use Rattle.std.specs.Int.{w16, w32, from_be_bytes, to_be_bytes}
use Rattle.std.proofs.lemmas.Nat.{from_be_bytes-to_be_bytes_2, from_be_bytes-to_be_bytes_4, be_bytes_2, be_bytes_4}
use Rattle.std.specs.Prelude.{IfSome, IsOk, ◌↔◌, option_map}
use Rattle.std.specs.Result.{result_ok}
use Rattle.std.specs.List.{AllPass}
use Rattle.std.specs.Prelude.{unwrap_or}
use Rattle.repl_data.specs.declared.csn.Uid.{Uid}
use Rattle.hex.specs.Hex.{encode_lower, encode_with, IsBytes, is_hex_digit, decode_of, decode_sized}
use Rattle.hex.specs.declared.error.FromHexError.{FromHexError}
use Rattle.hex.proofs.HexLemmas.{IsOk-decode_sized, decode_sized-ok, decode_sized-twice, decode_of-ok, decode_sized-encode_lower}
use Rattle.repl_data.specs.declared.csn.Csn.{Csn}
use Rattle.repl_data.specs.Text.{IsInRange, csn_bytes, csn_of, csn_text, read_csn, uid_text}

pub csn_of-csn_bytes : (c : Csn) → IsInRange c → csn_of (csn_bytes c) ≡ c
csn_of-csn_bytes c h =
    let time = from_be_bytes-to_be_bytes_4 c.time h.time in
    let seq = from_be_bytes-to_be_bytes_2 c.seq h.seq in
    let rid = from_be_bytes-to_be_bytes_2 c.rid h.rid in
    let sub = from_be_bytes-to_be_bytes_2 c.sub h.sub in
    (λ i. record { time = time i; seq = seq i; rid = rid i; sub = sub i })

ten : (a b c d e f g h i j : ℕ) → IsBytes (a ∷ b ∷ c ∷ d ∷ e ∷ f ∷ g ∷ h ∷ i ∷ j ∷ [])
    → csn_bytes (csn_of (a ∷ b ∷ c ∷ d ∷ e ∷ f ∷ g ∷ h ∷ i ∷ j ∷ [])) ≡ a ∷ b ∷ c ∷ d ∷ e ∷ f ∷ g ∷ h ∷ i ∷ j ∷ []
ten a b c d e f g h i j fits =
    let time : to_be_bytes w32 (from_be_bytes w32 (a ∷ b ∷ c ∷ d ∷ [])) ≡ a ∷ b ∷ c ∷ d ∷ [] = four a b c d (fits 0) (fits 1) (fits 2) (fits 3) in
    let seq : to_be_bytes w16 (from_be_bytes w16 (e ∷ f ∷ [])) ≡ e ∷ f ∷ [] = two e f (fits 4) (fits 5) in
    let rid : to_be_bytes w16 (from_be_bytes w16 (g ∷ h ∷ [])) ≡ g ∷ h ∷ [] = two g h (fits 6) (fits 7) in
    let sub : to_be_bytes w16 (from_be_bytes w16 (i ∷ j ∷ [])) ≡ i ∷ j ∷ [] = two i j (fits 8) (fits 9) in
    (λ t. time t ++ seq t ++ rid t ++ sub t)
  where
    all_two : (x y : ℕ) → x < 256 → y < 256 → (k : ℕ) → get_or (x ∷ y ∷ []) k 0 < 256
    all_two x y p q zero = p
    all_two x y p q (suc zero) = q
    all_two x y p q (suc (suc k)) = omega arith

    two : (x y : ℕ) → x < 256 → y < 256 → to_be_bytes w16 (from_be_bytes w16 (x ∷ y ∷ [])) ≡ x ∷ y ∷ []
    two x y p q = be_bytes_2 (x ∷ y ∷ []) _ refl (all_two x y p q) refl

    all_four : (x y z w : ℕ) → x < 256 → y < 256 → z < 256 → w < 256 → (k : ℕ) → get_or (x ∷ y ∷ z ∷ w ∷ []) k 0 < 256
    all_four x y z w p q r s zero = p
    all_four x y z w p q r s (suc zero) = q
    all_four x y z w p q r s (suc (suc zero)) = r
    all_four x y z w p q r s (suc (suc (suc zero))) = s
    all_four x y z w p q r s (suc (suc (suc (suc k)))) = omega arith

    four : (x y z w : ℕ) → x < 256 → y < 256 → z < 256 → w < 256 → to_be_bytes w32 (from_be_bytes w32 (x ∷ y ∷ z ∷ w ∷ [])) ≡ x ∷ y ∷ z ∷ w ∷ []
    four x y z w p q r s = be_bytes_4 (x ∷ y ∷ z ∷ w ∷ []) _ refl (all_four x y z w p q r s) refl

-- ten bytes are those of the CSN that they stand for
pub csn_bytes-csn_of : (bytes : List ℕ) → length bytes ≡ 10 → IsBytes bytes → csn_bytes (csn_of bytes) ≡ bytes
csn_bytes-csn_of (a ∷ b ∷ c ∷ d ∷ e ∷ f ∷ g ∷ h ∷ i ∷ j ∷ []) l fits = ten a b c d e f g h i j fits
csn_bytes-csn_of _ l fits = absurd (omega arith)

-- ---- the digits

bytes_of_csn : (c : Csn) → IsInRange c → IsBytes (csn_bytes c)
bytes_of_csn c h zero = omega arith
bytes_of_csn c h (suc zero) = omega arith
bytes_of_csn c h (suc (suc zero)) = omega arith
bytes_of_csn c h (suc (suc (suc zero))) = omega arith
bytes_of_csn c h (suc (suc (suc (suc zero)))) = omega arith
bytes_of_csn c h (suc (suc (suc (suc (suc zero))))) = omega arith
bytes_of_csn c h (suc (suc (suc (suc (suc (suc zero)))))) = omega arith
bytes_of_csn c h (suc (suc (suc (suc (suc (suc (suc zero))))))) = omega arith
bytes_of_csn c h (suc (suc (suc (suc (suc (suc (suc (suc zero)))))))) = omega arith
bytes_of_csn c h (suc (suc (suc (suc (suc (suc (suc (suc (suc zero))))))))) = omega arith
bytes_of_csn c h (suc (suc (suc (suc (suc (suc (suc (suc (suc (suc i)))))))))) = omega arith

some_iff : {X Y E : Type 0} (f : X → Y) (r : Result X E) (P : Type 0) → IsOk r ↔ P → IsSome (option_map f (result_ok r)) ↔ P
some_iff f (Ok x) P h = h
some_iff f (Err e) P h = h

-- exactly 20 digits are read
pub read_csn-exact : (text : List ℕ) → IsSome (read_csn text) ↔ ((length text ≡ 20) × AllPass is_hex_digit text)
read_csn-exact text = some_iff csn_of (decode_sized text 10) _ (IsOk-decode_sized text 10)

-- what is read has the bytes that the digits spell
pub read_csn-found : (text : List ℕ) → IfSome (read_csn text) (λ c. decode_of text ≡ Ok (csn_bytes c))
read_csn-found text = found (decode_sized text 10) refl
  where
    found : (r : Result (List ℕ) FromHexError) → decode_sized text 10 ≡ r → IfSome (option_map csn_of (result_ok r)) (λ c. decode_of text ≡ Ok (csn_bytes c))
    found (Err e) is = tt
    found (Ok bytes) is =
        let twice = decode_sized-ok text 10 bytes is in
        let plain : decode_of text ≡ Ok bytes = sym (decode_sized-twice text 10 twice) ∙ is in
        let parts = decode_of-ok text bytes plain in
        plain ∙ ap Ok (sym (csn_bytes-csn_of bytes (let l = parts.2 in omega arith) parts.3))

-- a text is read back
pub read_csn-csn_text : (c : Csn) → IsInRange c → read_csn (csn_text c) ≡ Some c
read_csn-csn_text c h =
    ap (λ r. option_map csn_of (result_ok r)) (decode_sized-encode_lower (csn_bytes c) 10 refl (bytes_of_csn c h)) ∙ ap Some (csn_of-csn_bytes c h)

-- ---- ids

-- the digits of an id's text stand at fixed places
pub uid_text-time : (u : Uid) → take 8 (uid_text u) ≡ encode_lower (to_be_bytes w32 u.csn.time)
unfolding encode_with
uid_text-time u = refl

pub uid_text-middle : (u : Uid) → take 8 (drop 9 (uid_text u)) ≡ encode_lower (to_be_bytes w16 u.csn.seq ++ to_be_bytes w16 u.csn.rid)
unfolding encode_with
uid_text-middle u = refl

pub uid_text-sub : (u : Uid) → take 4 (drop 18 (uid_text u)) ≡ encode_lower (to_be_bytes w16 u.csn.sub)
unfolding encode_with
uid_text-sub u = refl

pub length-uid_text : (u : Uid) → length (uid_text u) ≡ 35
unfolding encode_with
length-uid_text u = refl

csn_text-parts : (u : Uid) → take 8 (uid_text u) ++ take 8 (drop 9 (uid_text u)) ++ take 4 (drop 18 (uid_text u)) ≡ csn_text u.csn
unfolding encode_with
csn_text-parts u = refl

-- different ids have different texts
pub uid_text-exact : (u v : Uid) → IsInRange u.csn → IsInRange v.csn → uid_text u ≡ uid_text v → u ≡ v
uid_text-exact u v p q e =
    let same : csn_text u.csn ≡ csn_text v.csn = sym (csn_text-parts u) ∙ ap (λ (t : List ℕ). take 8 t ++ take 8 (drop 9 t) ++ take 4 (drop 18 t)) e ∙ csn_text-parts v in
    let both : Some u.csn ≡ Some v.csn = sym (read_csn-csn_text u.csn p) ∙ ap read_csn same ∙ read_csn-csn_text v.csn q in
    ap (λ (o : Option Csn). record { csn = unwrap_or o u.csn }) both

bytes_of_two : (n : ℕ) → IsBytes (to_be_bytes w16 n)
bytes_of_two n zero = omega arith
bytes_of_two n (suc zero) = omega arith
bytes_of_two n (suc (suc i)) = omega arith

bytes_of_both : (m n : ℕ) → IsBytes (to_be_bytes w16 m ++ to_be_bytes w16 n)
bytes_of_both m n zero = omega arith
bytes_of_both m n (suc zero) = omega arith
bytes_of_both m n (suc (suc zero)) = omega arith
bytes_of_both m n (suc (suc (suc zero))) = omega arith
bytes_of_both m n (suc (suc (suc (suc i)))) = omega arith

bytes_of_four : (n : ℕ) → IsBytes (to_be_bytes w32 n)
bytes_of_four n zero = omega arith
bytes_of_four n (suc zero) = omega arith
bytes_of_four n (suc (suc zero)) = omega arith
bytes_of_four n (suc (suc (suc zero))) = omega arith
bytes_of_four n (suc (suc (suc (suc i)))) = omega arith

-- what stands at the places of an id's text is read
pub time_read : (u : Uid) (text : List ℕ) → text ≡ uid_text u → result_ok (decode_sized (take 8 text) 4) ≡ Some (to_be_bytes w32 u.csn.time)
time_read u text is =
    ap (λ (t : List ℕ). result_ok (decode_sized t 4)) (ap (take 8) is ∙ uid_text-time u)
    ∙ ap result_ok (decode_sized-encode_lower (to_be_bytes w32 u.csn.time) 4 refl (bytes_of_four u.csn.time))

pub middle_read : (u : Uid) (text : List ℕ) → text ≡ uid_text u
    → result_ok (decode_sized (take 8 (drop 9 text)) 4) ≡ Some (to_be_bytes w16 u.csn.seq ++ to_be_bytes w16 u.csn.rid)
middle_read u text is =
    ap (λ (t : List ℕ). result_ok (decode_sized t 4)) (ap (λ (t : List ℕ). take 8 (drop 9 t)) is ∙ uid_text-middle u)
    ∙ ap result_ok (decode_sized-encode_lower (to_be_bytes w16 u.csn.seq ++ to_be_bytes w16 u.csn.rid) 4 refl (bytes_of_both u.csn.seq u.csn.rid))

pub sub_read : (u : Uid) (text : List ℕ) → text ≡ uid_text u → result_ok (decode_sized (take 4 (drop 18 text)) 2) ≡ Some (to_be_bytes w16 u.csn.sub)
sub_read u text is =
    ap (λ (t : List ℕ). result_ok (decode_sized t 2)) (ap (λ (t : List ℕ). take 4 (drop 18 t)) is ∙ uid_text-sub u)
    ∙ ap result_ok (decode_sized-encode_lower (to_be_bytes w16 u.csn.sub) 2 refl (bytes_of_two u.csn.sub))

some_bytes : (xs ys : List ℕ) → Some xs ≡ Some ys → xs ≡ ys
some_bytes xs ys e = cc

-- ten bytes by their places
abbrev pub at_places : List ℕ → List ℕ → List ℕ → List ℕ
at_places time middle sub =
    get_or time 0 0 ∷ get_or time 1 0 ∷ get_or time 2 0 ∷ get_or time 3 0 ∷ get_or middle 0 0 ∷ get_or middle 1 0 ∷ get_or middle 2 0 ∷ get_or middle 3 0
    ∷ get_or sub 0 0 ∷ get_or sub 1 0 ∷ []

pub all_read : (u : Uid) (text time middle sub : List ℕ) → IsInRange u.csn → text ≡ uid_text u
    → result_ok (decode_sized (take 8 text) 4) ≡ Some time
    → result_ok (decode_sized (take 8 (drop 9 text)) 4) ≡ Some middle
    → result_ok (decode_sized (take 4 (drop 18 text)) 2) ≡ Some sub
    → csn_of (at_places time middle sub) ≡ u.csn
all_read u text time middle sub h is first second third =
    let a = some_bytes time _ (sym first ∙ time_read u text is) in
    let b = some_bytes middle _ (sym second ∙ middle_read u text is) in
    let d = some_bytes sub _ (sym third ∙ sub_read u text is) in
    (λ i. csn_of (at_places (a i) (b i) (d i))) ∙ csn_of-csn_bytes u.csn h
