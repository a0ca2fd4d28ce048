-- The place moves, and says the same of the message.
use Rattle.std.proofs.Common.{◌≡◌, ℕ, List, [], ◌∷◌, ◌++◌, Result, Ok, Err, refl, sym, ap, subst, ◌∙◌, append_assoc}
use Rattle.std.proofs.lemmas.List.{append-nil}
use Rattle.ber_core.specs.Window.{Stop, More, Window, ◌>>=◌, open_as, outermost}
use Rattle.ldap_requests.specs.Grammar.{request_inside, request_at}
use Rattle.request_wait.specs.declared.part.Part.TheVariants as part
use Rattle.request_wait.specs.declared.place.Place.{Place}
use Rattle.request_wait.specs.declared.waiting.Waiting.{Waiting}
use Rattle.request_wait.specs.Inside.{Outcome, done, outcome, inside}
use Rattle.request_wait.specs.Place.{read_from, read_all}
use Rattle.request_wait.specs.Waiting.{IsPlaceIn, StaysInBytes}
use Rattle.request_wait.proofs.Firsts.{outcome_bind, outcome_value, passes}

then_done : (r : Outcome) → (r >>= λ u. done) ≡ r
then_done (Ok u) = refl
then_done (Err e) = refl

in_turn : (r s t : Outcome) → ((r >>= λ u. s) >>= λ u. t) ≡ (r >>= λ u. s >>= λ v. t)
in_turn (Ok u) s t = refl
in_turn (Err e) s t = refl

read_all-push : (ps : List Place) (q : Place) (bytes : List ℕ) → read_all (ps ++ q ∷ []) bytes ≡ (read_from q bytes >>= λ u. read_all ps bytes)
read_all-push [] q bytes = sym (then_done (read_from q bytes))
read_all-push (p ∷ ps) q bytes =
    ap (λ (r : Outcome). r >>= λ u. read_from p bytes) (read_all-push ps q bytes) ∙ in_turn (read_from q bytes) (read_all ps bytes) (read_from p bytes)

-- ---- steps

pub place_at_start : (w : Waiting) → w.here ≡ record { part = part.Start; start = 0; at = 0; end = 2097152 } → w.around ≡ [] → (bytes : List ℕ) → IsPlaceIn w bytes
unfolding IsPlaceIn inside request_at
place_at_start w here around bytes more =
    let v : Window = record { start = 0; at = 0; left = 2097152; bytes = bytes ++ more } in
    rw (here, around) (passes (outermost (open_as 0x30 v)) _ _ (λ o. outcome_value (request_inside o.0) _) ∙ sym (outcome_bind (outermost (open_as 0x30 v)) (λ o. request_inside o.0)) ∙ sym (then_done _))

is_missing : {A : Type 0} (r : Result A Stop) → outcome r ≡ Err More → r ≡ Err More
is_missing (Ok x) e = absurd cc
is_missing (Err s) e = cc

pub waits : (w : Waiting) (bytes : List ℕ) → IsPlaceIn w bytes → read_from w.here bytes ≡ Err More → request_at 2097152 bytes ≡ Err More
unfolding IsPlaceIn
waits w bytes is more =
    let at_once = subst (λ (xs : List ℕ). outcome (request_at 2097152 xs) ≡ (read_from w.here xs >>= λ u. read_all w.around xs)) (append-nil bytes) (is []) in
    is_missing (request_at 2097152 bytes) (at_once ∙ rw more refl)

pub goes : (w v : Waiting) (bytes : List ℕ) → v.around ≡ w.around → ((more : List ℕ) → read_from w.here (bytes ++ more) ≡ read_from v.here (bytes ++ more)) → IsPlaceIn w bytes → IsPlaceIn v bytes
unfolding IsPlaceIn
goes w v bytes around same is more = is more ∙ rw (around, same more) refl

pub enters : (w v : Waiting) (rest : Place) (bytes : List ℕ) → v.around ≡ w.around ++ rest ∷ [] → ((more : List ℕ) → read_from w.here (bytes ++ more) ≡ (read_from v.here (bytes ++ more) >>= λ u. read_from rest (bytes ++ more)))
    → IsPlaceIn w bytes → IsPlaceIn v bytes
unfolding IsPlaceIn
enters w v rest bytes around same is more =
    is more ∙ rw (around, same more, read_all-push w.around rest (bytes ++ more)) (in_turn (read_from v.here (bytes ++ more)) (read_from rest (bytes ++ more)) (read_all w.around (bytes ++ more)))

pub leaves : (w v : Waiting) (bytes : List ℕ) → w.around ≡ v.around ++ v.here ∷ [] → ((more : List ℕ) → read_from w.here (bytes ++ more) ≡ done) → IsPlaceIn w bytes → IsPlaceIn v bytes
unfolding IsPlaceIn
leaves w v bytes around same is more =
    is more ∙ rw (around, same more) (read_all-push v.around v.here (bytes ++ more))

pub stays_in_bytes : StaysInBytes
unfolding IsPlaceIn
stays_in_bytes w bytes more is others =
    subst (λ (xs : List ℕ). outcome (request_at 2097152 xs) ≡ (read_from w.here xs >>= λ u. read_all w.around xs)) (sym (append_assoc bytes more others)) (is (more ++ others))
