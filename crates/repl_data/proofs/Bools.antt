-- Small laws of Booleans, for every crate.
use Rattle.std.proofs.Common.{◌≡◌, Bool, true, false, refl, sym, ◌∙◌}
use Rattle.std.specs.Prelude.{◌&&◌, ◌||◌, not}

pub and_true : (a : Bool) → (a && true) ≡ a
and_true true = refl
and_true false = refl

pub and_false : (a : Bool) → (a && false) ≡ false
and_false true = refl
and_false false = refl

pub or_true : (a : Bool) → (a || true) ≡ true
or_true true = refl
or_true false = refl

-- both from one, and one from both
pub and-left : (a b : Bool) → (a && b) ≡ true → a ≡ true
and-left true b h = refl
and-left false b h = h

pub and-right : (a b : Bool) → (a && b) ≡ true → b ≡ true
and-right true b h = h
and-right false b h = cc

pub and-both : (a b : Bool) → a ≡ true → b ≡ true → (a && b) ≡ true
and-both true b e h = h
and-both false b e h = e

pub either_false : (a b : Bool) → a ≡ false → b ≡ false → (a || b) ≡ false
either_false true b h g = cc
either_false false b h g = g

-- ---- one of two

pub or_false : (a : Bool) → (a || false) ≡ a
or_false true = refl
or_false false = refl

pub or-left : (a b : Bool) → (a || b) ≡ false → a ≡ false
or-left true b h = h
or-left false b h = refl

pub or-right : (a b : Bool) → (a || b) ≡ false → b ≡ false
or-right true b h = cc
or-right false b h = h

pub either_first : (a b : Bool) → a ≡ true → (a || b) ≡ true
either_first true b h = refl
either_first false b h = cc

pub either_second : (a b : Bool) → b ≡ true → (a || b) ≡ true
either_second true b h = refl
either_second false b h = h

pub either_true : {G : Type 0} (a b : Bool) → (a || b) ≡ true → (a ≡ true → G) → (b ≡ true → G) → G
either_true true b h p q = p refl
either_true false b h p q = q h

pub either_again : (a b : Bool) → (a || b) ≡ (a || (a || b))
either_again true b = refl
either_again false b = refl

pub either_turned : (a b c : Bool) → (b || (a || c)) ≡ (a || (b || c))
either_turned true true c = refl
either_turned true false c = refl
either_turned false true c = refl
either_turned false false c = refl

-- ---- by cases

pub cases : {G : Type 0} (b : Bool) → (b ≡ true → G) → (b ≡ false → G) → G
cases true f g = f refl
cases false f g = g refl

pub never : {G : Type 0} (b : Bool) → b ≡ true → b ≡ false → G
never b h g = let e : true ≡ false = sym h ∙ g in cc

pub neither_then : {G : Type 0} (a b : Bool) → (a || b) ≡ false → (a ≡ false → b ≡ false → G) → G
neither_then true b h f = cc
neither_then false b h f = f refl h

pub twice : (b : Bool) → not (not b) ≡ b
twice true = refl
twice false = refl
