-- On streams: what stands at their front, and how they go on.
use Rattle.std.proofs.Common.{◌≡◌, ℕ, ◌-◌, ◌<◌, ◌≤◌, false, List, [], ◌∷◌, ◌++◌, length, take, drop, Result, Ok, Err, refl, sym, ap, subst, ◌∙◌, arith, length-drop}
use Rattle.std.proofs.lemmas.List.{take-append-drop, length-take-le, drop_all, take_all}
use Rattle.ldap_types.specs.declared.request.Request.{Request}
use Rattle.ber_core.specs.declared.fault.NotLdapWhy.{NotLdapWhy}
use Rattle.ber_core.specs.Window.{Stop, More, Fault, open_as, tag_in}
use Rattle.ldap_requests.specs.Grammar.{request_at}
use Rattle.ber_core.proofs.Sound.{value, element_some}
use Rattle.ldap_requests.proofs.SoundMessage.{request_sound}
use Rattle.ldap_requests.proofs.StableMessage.{request_again, fault_once}
use Rattle.io_edge.specs.declared.machine.Fed.{Fed}
use Rattle.conn_core.specs.declared.first.First.{First}
use Rattle.conn_core.specs.declared.first.First.TheVariants.{Next, Ends}
use Rattle.conn_core.specs.First.{IsFirst}
use Rattle.conn_core.specs.Stream.{first_request, is_unbind, BeginsWith, EndsSo}

-- ---- one request at the front

pub as_first : (bytes : List ℕ) (x : Result (Request × ℕ) Stop) → request_at 2097152 bytes ≡ x → first_request bytes ≡ x
unfolding first_request
as_first bytes x e = e

-- it has a byte at least, and all of its bytes are there
pub size_within : (bytes : List ℕ) (r : Request) (size : ℕ) → first_request bytes ≡ Ok (r, size) → (0 < size) × (size ≤ length bytes)
unfolding first_request
size_within bytes r size e =
    let k = value (request_sound 2097152 bytes) (r, size) e in
    let some = element_some 0x30 k.2.0 (take size bytes) k.2.1 in
    let len = length-take-le size bytes k.0 in
    (omega arith, k.0)

-- it stays there, whatever follows
pub request_stays : (bytes more : List ℕ) (r : Request) (size : ℕ) → first_request bytes ≡ Ok (r, size) → first_request (bytes ++ more) ≡ Ok (r, size)
unfolding first_request
request_stays bytes more r size e = request_again 2097152 size bytes more r e

pub fault_stays : (bytes more : List ℕ) (place : ℕ) (why : NotLdapWhy) → first_request bytes ≡ Err (Fault place why) → first_request (bytes ++ more) ≡ Err (Fault place why)
unfolding first_request
fault_stays bytes more place why e = fault_once 2097152 place bytes more why e

pub none_in_nothing : first_request [] ≡ Err More
unfolding first_request request_at open_as tag_in
none_in_nothing = refl

-- ---- requests one behind the other

pub begins_next : (bytes : List ℕ) (r : Request) (size : ℕ) (rs : List Request) (left : List ℕ) → first_request bytes ≡ Ok (r, size) → is_unbind r.op ≡ false → BeginsWith (drop size bytes) rs left → BeginsWith bytes (r ∷ rs) left
begins_next bytes r size rs left is un rest =
    let len = length-take-le size bytes (size_within bytes r size is).1 in
    (take size bytes, drop size bytes, sym (take-append-drop size bytes), is ∙ ap (λ (n : ℕ). pair_of r n) (sym len), un, rest)
  where
    pair_of : Request → ℕ → Result (Request × ℕ) Stop
    pair_of r n = Ok (r, n)

-- ---- where the reader stops

pub is_next : (at : ℕ) (bytes : List ℕ) (f : First) (r : Request) (size : ℕ) → f ≡ Next r size → IsFirst (take (length bytes - at) (drop at bytes)) f → IsFirst (drop at bytes) (Next r size)
is_next at bytes f r size e h =
    let len = length-drop at bytes in
    let same : take (length bytes - at) (drop at bytes) ≡ drop at bytes = take_all (length bytes - at) (drop at bytes) (omega (arith, len)) in
    subst (λ (x : First). IsFirst (drop at bytes) x) e (subst (λ (b : List ℕ). IsFirst b f) same h)

pub is_last : (at : ℕ) (bytes : List ℕ) (f : First) (fed : Fed) → f ≡ Ends fed → IsFirst (take (length bytes - at) (drop at bytes)) f → EndsSo (drop at bytes) fed
is_last at bytes f fed e h =
    let len = length-drop at bytes in
    let same : take (length bytes - at) (drop at bytes) ≡ drop at bytes = take_all (length bytes - at) (drop at bytes) (omega (arith, len)) in
    subst (λ (x : First). IsFirst (drop at bytes) x) e (subst (λ (b : List ℕ). IsFirst b f) same h)

pub none_behind : (at : ℕ) (bytes : List ℕ) → length bytes ≤ at → first_request (drop at bytes) ≡ Err More
none_behind at bytes le = subst (λ (b : List ℕ). first_request b ≡ Err More) (sym (drop_all at bytes le)) none_in_nothing
