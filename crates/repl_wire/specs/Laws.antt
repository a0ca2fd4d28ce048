-- What messages of a session and their bytes are to one another.
use Rattle.std.specs.Prelude.{◌≡◌, ℕ, ◌≤◌, ◌<◌, List, ◌++◌, length, slice_index_or, Ok, Err, None}
use Rattle.ldap_requests.specs.Grammar.{request_at}
use Rattle.ldap_replies.specs.Grammar.{reply_at}
use Rattle.repl_data.specs.declared.csn.Csn.{Csn}
use Rattle.repl_data.specs.Order.{zero_csn}
use Rattle.repl_data.specs.Text.{IsInRange}
use Rattle.repl_data.specs.Check.{weight, fault_of}
use Rattle.repl_data.specs.declared.change.Body.{Body}
use Rattle.repl_data.specs.declared.change.Body.TheVariants as body
use Rattle.repl_data.specs.declared.change.Update.{Update}
use Rattle.vector_core.specs.declared.answers.Start.{Start}
use Rattle.vector_core.specs.Vector.{IsVector}
use Rattle.ber_core.specs.Window.{More}
use Rattle.repl_wire.specs.declared.session.End.{End}
use Rattle.repl_wire.specs.Form.{start_request, start_bytes, started_reply, started_bytes, end_request, end_bytes}
use Rattle.repl_wire.specs.Reading.{start_of, started_of, end_of}
use Rattle.repl_wire.specs.Keys.{HasKeysOfSpellings}
use Rattle.repl_wire.specs.UpdateForm.{update_request, update_bytes}
use Rattle.repl_wire.specs.Update.{update_of}
use Rattle.repl_wire.specs.Control.{control_at}
use Rattle.repl_wire.specs.Value.{start_at, started_at, end_at}

-- ---- which messages are read back

-- the id of a request, and that of a reply
pub record IsRequestId (id : ℕ) : Type 0 where
  pub from_1 : 1 ≤ id
  pub most : id ≤ 2147483647

-- a vector whose entries are of suppliers, with the parts of CSNs in their ranges
pub record IsSupplied (vector : List Csn) : Type 0 where
  pub is_vector : IsVector vector
  pub in_range : (i : ℕ) → i < length vector → IsInRange (slice_index_or vector i zero_csn)
  pub suppliers : (i : ℕ) → i < length vector → (0 < (slice_index_or vector i zero_csn).rid) × ((slice_index_or vector i zero_csn).rid < 65535)

pub record IsSoundStart (s : Start) : Type 0 where
  pub from_1 : 1 ≤ s.rid
  pub to_65534 : s.rid ≤ 65534
  pub front : IsSupplied s.front

-- ---- what is written is read back

-- by the reader of requests, whatever bytes follow, and then by the reader of starts
pub record StartComesBack (id : ℕ) (s : Start) : Type 0 where
  pub request : (rest : List ℕ) → length (start_bytes id s) ≤ 2097152 → request_at 2097152 (start_bytes id s ++ rest) ≡ Ok (start_request id s, length (start_bytes id s))
  pub start : length (start_bytes id s) ≤ 2097152 → start_of (start_request id s) ≡ Ok s

abbrev pub StartsComeBack : Type 0
StartsComeBack = (id : ℕ) (s : Start) → IsRequestId id → IsSoundStart s → StartComesBack id s

-- a start fits into a message where its suffix has at most a million bytes, whatever vector it has
abbrev pub StartsFit : Type 0
StartsFit = (id : ℕ) (s : Start) → IsRequestId id → IsSoundStart s → length s.suffix ≤ 1000000 → length (start_bytes id s) ≤ 2097152

abbrev pub EndsComeBack : Type 0
EndsComeBack = (id : ℕ) (e : End) (rest : List ℕ) → IsRequestId id → e.rid < 65536
    → (request_at 2097152 (end_bytes id e ++ rest) ≡ Ok (end_request id e, length (end_bytes id e))) × (end_of (end_request id e) ≡ Ok e)

-- an answer of any vector fits into a message
abbrev pub AnswersComeBack : Type 0
AnswersComeBack = (id : ℕ) (vector : List Csn) (rest : List ℕ) → id ≤ 2147483647 → IsSupplied vector
    → (reply_at 2097152 (started_bytes id vector ++ rest) ≡ Ok (started_reply id vector, length (started_bytes id vector))) × (started_of (started_reply id vector) ≡ Ok vector)

-- ---- updates

-- the parts of each CSN are in their ranges, that of the parent where there is one included
abbrev pub HasParentInRange : Body → Type 0
HasParentInRange (body.Add parent rdn attrs) = IsInRange parent.csn
HasParentInRange (body.Mod mods) = Unit {0}
HasParentInRange (body.Ren rdn dropped) = Unit {0}
HasParentInRange body.Del = Unit {0}

pub record HasIdsInRange (u : Update) : Type 0 where
  pub csn : IsInRange u.change.csn
  pub target : IsInRange u.change.target.csn
  pub parent : HasParentInRange u.change.body
  pub prev : IsInRange u.prev

-- an update that passes `check` and carries the keys of its spellings
pub record IsSoundUpdate (u : Update) : Type 0 where
  pub checked : fault_of u.change ≡ None
  pub keyed : HasKeysOfSpellings u
  pub in_range : HasIdsInRange u

-- by the reader of requests, whatever bytes follow, and then by the reader of updates
abbrev pub UpdatesComeBack : Type 0
UpdatesComeBack = (id : ℕ) (u : Update) (rest : List ℕ) → IsRequestId id → IsSoundUpdate u
    → (request_at 2097152 (update_bytes id u ++ rest) ≡ Ok (update_request id u, length (update_bytes id u))) × (update_of (update_request id u) ≡ Ok u)

-- the message of an update has at most as many bytes as its weight, and so it fits
abbrev pub UpdatesFit : Type 0
UpdatesFit = (id : ℕ) (u : Update) → IsRequestId id → IsSoundUpdate u → (length (update_bytes id u) ≤ weight u.change.body) × (length (update_bytes id u) ≤ 2097152)

-- ---- nothing is ever missing of a value

abbrev pub NothingIsMissing : Type 0
NothingIsMissing = (bytes : List ℕ) → (start_at bytes ≡ Err More → ⊥) × (started_at bytes ≡ Err More → ⊥) × (end_at bytes ≡ Err More → ⊥) × (control_at bytes ≡ Err More → ⊥)
