-- THE TABLE OF ANSWERS: the code and the text with which a consumer answers a start or an update.
use Rattle.std.specs.Prelude.{◌≡◌, ℕ, List, [], ◌++◌, codes, Option, Some, None, Result, Ok, Err}
use Rattle.std.specs.Fmt.{decimal}
use Rattle.repl_data.specs.declared.csn.Csn.{Csn}
use Rattle.repl_data.specs.declared.csn.Uid.{Uid}
use Rattle.repl_data.specs.declared.items.NoMemory.{NoMemory}
use Rattle.repl_data.specs.Text.{csn_text, uid_text}
use Rattle.ldap_types.specs.declared.reply.LdapResult.{LdapResult}
use Rattle.ldap_types.specs.declared.reply.ReplyOp.{ReplyOp}
use Rattle.ldap_types.specs.declared.reply.ReplyOp.TheVariants as reply
use Rattle.ldap_types.specs.declared.request.Op.{Op}
use Rattle.ldap_types.specs.declared.request.Op.TheVariants as op
use Rattle.vector_core.specs.declared.answers.Applied.{Applied}
use Rattle.vector_core.specs.declared.answers.ApplyFault.{ApplyFault}
use Rattle.vector_core.specs.declared.answers.ApplyFault.TheVariants as apply
use Rattle.vector_core.specs.declared.answers.AcquireFault.{AcquireFault}
use Rattle.vector_core.specs.declared.answers.AcquireFault.TheVariants as acquire

-- a code with a text, and no name
abbrev pub result_with : ℕ → List ℕ → LdapResult
result_with code text = record { code = record { number = code }; matched = []; text = text }

-- ---- texts

unfoldable pub own_unknown_text : Csn → List ℕ
own_unknown_text csn = codes "own unknown " ++ csn_text csn

unfoldable pub skew_text : Csn → ℕ → List ℕ
skew_text csn now = codes "skew " ++ csn_text csn ++ codes " " ++ decimal now

unfoldable pub gap_text : Csn → Csn → List ℕ
gap_text have prev = codes "gap " ++ csn_text have ++ codes " " ++ csn_text prev

unfoldable pub missing_text : Uid → List ℕ
missing_text id = codes "missing " ++ uid_text id

unfoldable pub busy_text : ℕ → List ℕ
busy_text rid = codes "busy " ++ decimal rid

-- ---- results

-- 0 success
abbrev pub success : LdapResult
success = result_with 0 []

-- a message that can't be read: 2 protocolError
unfoldable pub unreadable : LdapResult
unreadable = result_with 2 (codes "unreadable")

unfoldable pub malformed : LdapResult
malformed = result_with 2 (codes "malformed")

-- 53 unwillingToPerform
unfoldable pub not_holder : LdapResult
not_holder = result_with 53 (codes "not holder")

unfoldable pub wrong_suffix : LdapResult
wrong_suffix = result_with 53 (codes "wrong suffix")

unfoldable pub same_id : LdapResult
same_id = result_with 53 (codes "same id")

-- ---- the table

-- an update: taken or known already, or why not; none where memory ran out
abbrev pub apply_result : Result Applied ApplyFault → Option LdapResult
apply_result (Ok applied) = Some success
apply_result (Err apply.NoMemory) = None
apply_result (Err apply.NotHolder) = Some not_holder
apply_result (Err (apply.Malformed why)) = Some malformed
apply_result (Err (apply.OwnUnknown csn)) = Some (result_with 53 (own_unknown_text csn))
apply_result (Err (apply.Skew csn now)) = Some (result_with 53 (skew_text csn now))
apply_result (Err (apply.Gap have prev)) = Some (result_with 53 (gap_text have prev))
apply_result (Err (apply.Missing id)) = Some (result_with 32 (missing_text id))
apply_result (Err apply.KeeperFault) = Some (result_with 52 [])

-- an update was not taken
abbrev pub IsFault : Result Applied ApplyFault → Type 0
IsFault (Ok applied) = ⊥
IsFault (Err fault) = Unit {0}

-- a start that is not accepted
abbrev pub acquire_result : AcquireFault → Option LdapResult
acquire_result acquire.NoMemory = None
acquire_result acquire.WrongSuffix = Some wrong_suffix
acquire_result acquire.SameId = Some same_id
acquire_result (acquire.Busy rid) = Some (result_with 51 (busy_text rid))
acquire_result (acquire.Skew csn now) = Some (result_with 53 (skew_text csn now))

-- the code told this result, unless memory ran out
abbrev pub IsTold : {A : Type 0} → Option A → Result A NoMemory → Type 0
IsTold told (Ok r) = told ≡ Some r
IsTold told (Err short) = Unit {0}

-- ---- the reply

-- of the kind of the request (RFC 4511, section 4); one that is no write is answered as an extended operation
abbrev pub reply_op : Op → LdapResult → ReplyOp
reply_op (op.Add object attrs) r = reply.Add r
reply_op (op.Modify object mods) r = reply.Modify r
reply_op (op.Rename object rdn delete_old superior) r = reply.Rename r
reply_op (op.Delete object) r = reply.Delete r
reply_op _ r = reply.Extended r None None
