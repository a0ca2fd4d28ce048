-- What follows where `check` finds no fault.
use Rattle.std.proofs.Common.{◌≡◌, List, [], ◌∷◌, refl, sym, ◌∙◌, eqb-true, eq-eqb, ◌++◌}
use Rattle.std.specs.Prelude.{Bool, true, false, not, ◌&&◌, ◌||◌, ◌==◌, Option, Some, None, is_none}
use Rattle.std.specs.List.{AllByRecursion}
use Rattle.repl_data.specs.declared.change.Change.{Change}
use Rattle.repl_data.specs.declared.change.Malformed.{Malformed}
use Rattle.repl_data.specs.declared.change.Malformed.TheVariants.{Rid, Sub, Order, Root}
use Rattle.repl_data.specs.Check.{fault_if, first_fault, faults_of_frame, faults_of_body, is_out_of_order, is_of_root}
use Rattle.repl_data.specs.Closed.{is_sound}
use Rattle.repl_data.proofs.Bools.{either_first}

pub not_both : (b : Bool) → b ≡ true → b ≡ false → ⊥
not_both b h g = let e : true ≡ false = sym h ∙ g in cc

pub both_true : (a b : Bool) → (a && b) ≡ true → (a ≡ true) × (b ≡ true)
both_true true b h = (refl, h)
both_true false b h = absurd (not_both false h refl)

pub not_true : (a : Bool) → not a ≡ true → a ≡ false
not_true true h = absurd (not_both false h refl)
not_true false h = refl

pub neither : (a b : Bool) → (a || b) ≡ false → (a ≡ false) × (b ≡ false)
neither true b h = absurd (not_both true refl h)
neither false b h = (refl, h)

pub not_false : (a : Bool) → not a ≡ false → a ≡ true
not_false true h = refl
not_false false h = absurd (not_both true refl h)

-- where no fault is the first, there is none
pub no_faults : (faults : List (Option Malformed)) → is_none (first_fault faults) ≡ true → AllByRecursion (λ f. is_none f ≡ true) faults
no_faults [] h = tt
no_faults (None ∷ faults) h = (refl, no_faults faults h)
no_faults (Some f ∷ faults) h = absurd (not_both false h refl)

pub no_fault : (b : Bool) (fault : Malformed) → is_none (fault_if b fault) ≡ true → b ≡ false
no_fault true fault h = absurd (not_both false h refl)
no_fault false fault h = refl

pub sound_sub : (c : Change) → is_sound c ≡ true → c.csn.sub ≡ 0
sound_sub c h = eqb-true c.csn.sub 0 (not_false (c.csn.sub == 0) (no_fault (not (c.csn.sub == 0)) Sub (no_faults (faults_of_frame c ++ faults_of_body c.body) h).1.0))

pub sound_order : (c : Change) → is_sound c ≡ true → is_out_of_order c.csn c.target c.body ≡ false
sound_order c h = no_fault (is_out_of_order c.csn c.target c.body) Order (no_faults (faults_of_frame c ++ faults_of_body c.body) h).1.1.0

pub sound_root : (c : Change) → is_sound c ≡ true → is_of_root c.target c.body ≡ false
sound_root c h = no_fault (is_of_root c.target c.body) Root (no_faults (faults_of_frame c ++ faults_of_body c.body) h).1.1.1.0

-- a sound change's stamps are above zero
pub sound_rid : (c : Change) → is_sound c ≡ true → c.csn.rid ≡ 0 → ⊥
sound_rid c h e = not_both ((c.csn.rid == 0) || (c.csn.rid == 65535)) (either_first (c.csn.rid == 0) (c.csn.rid == 65535) (eq-eqb c.csn.rid 0 e)) (no_fault ((c.csn.rid == 0) || (c.csn.rid == 65535)) Rid (no_faults (faults_of_frame c ++ faults_of_body c.body) h).0)
