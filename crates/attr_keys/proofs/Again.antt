-- The key of a key is that key.
use Rattle.std.proofs.Common.{◌≡◌, ℕ, Bool, true, false, not, cond, List, [], ◌∷◌, map, filter, refl, arith}
use Rattle.std.proofs.lemmas.Bool.Decides.{nat_tests}
use Rattle.std.specs.Char.{to_ascii_lowercase}
use Rattle.attr_keys.specs.declared.kind.Kind.TheVariants.{Int, Tel, Oct}
use Rattle.attr_keys.specs.Value.{is_mark, phone_key, prepared, value_key}

pub lower-again : (b : ℕ) → to_ascii_lowercase (to_ascii_lowercase b) ≡ to_ascii_lowercase b
lower-again b = grind (arith, nat_tests)

lower-mark : (b : ℕ) → is_mark b ≡ false → is_mark (to_ascii_lowercase b) ≡ false
lower-mark b h = grind (arith, nat_tests)

phone-again : (bs : List ℕ) → phone_key (phone_key bs) ≡ phone_key bs
phone-again [] = refl
phone-again (b ∷ bs) = at (is_mark b) refl (phone-again bs)
  where
    kept : (m : Bool) → is_mark (to_ascii_lowercase b) ≡ m → m ≡ false → phone_key (phone_key bs) ≡ phone_key bs → map to_ascii_lowercase (cond (not m) (to_ascii_lowercase b ∷ filter (λ c. not (is_mark c)) (phone_key bs)) (filter (λ c. not (is_mark c)) (phone_key bs))) ≡ to_ascii_lowercase b ∷ phone_key bs
    kept true e f h = cc
    kept false e f h = cc (lower-again b)

    at : (m : Bool) → is_mark b ≡ m → phone_key (phone_key bs) ≡ phone_key bs → phone_key (map to_ascii_lowercase (cond (not m) (b ∷ filter (λ c. not (is_mark c)) bs) (filter (λ c. not (is_mark c)) bs))) ≡ map to_ascii_lowercase (cond (not m) (b ∷ filter (λ c. not (is_mark c)) bs) (filter (λ c. not (is_mark c)) bs))
    at true e h = h
    at false e h = kept (is_mark (to_ascii_lowercase b)) refl (lower-mark b e) h

pub tel-again : (bs : List ℕ) → value_key Tel (value_key Tel bs) ≡ value_key Tel bs
unfolding value_key prepared
tel-again bs = phone-again bs

pub int-again : (bs : List ℕ) → value_key Int (value_key Int bs) ≡ value_key Int bs
unfolding value_key prepared
int-again bs = refl

pub oct-again : (bs : List ℕ) → value_key Oct (value_key Oct bs) ≡ value_key Oct bs
unfolding value_key prepared
oct-again bs = refl
