-- THE RULES: what becomes of a write or a compare, first case that fits.
use Rattle.std.specs.Prelude.{◌≡◌, Bool, true, false, ◌&&◌, List, Option, Some, None, Result, Ok, Err}
use Rattle.std.specs.List.{list_any}
use Rattle.repl_data.specs.declared.csn.Uid.{Uid}
use Rattle.repl_data.specs.declared.change.Body.{Body}
use Rattle.repl_data.specs.View.{DirectoryView}
use Rattle.ldap_types.specs.declared.request.Control.{Control}
use Rattle.ldap_types.specs.declared.request.Op.{Op}
use Rattle.ldap_types.specs.declared.request.Op.TheVariants.{Add as AddEntry, Modify, Delete, Rename, Compare}
use Rattle.ldap_types.specs.declared.request.Request.{Request}
use Rattle.ldap_types.specs.declared.reply.Identity.{Identity}
use Rattle.ldap_types.specs.declared.reply.LdapResult.{LdapResult}
use Rattle.dn_text.specs.declared.fault.JudgeFault.{JudgeFault}
use Rattle.dn_text.specs.declared.fault.JudgeFault.TheVariants.{NoMemory, Refused}
use Rattle.ldap_rules.specs.declared.fault.Judged.{Judged}
use Rattle.ldap_rules.specs.declared.fault.Judged.TheVariants.{Write, Answer}
use Rattle.ldap_rules.specs.Case.{refuse}
use Rattle.ldap_rules.specs.Add.{add_verdict}
use Rattle.ldap_rules.specs.Modify.{modify_verdict}
use Rattle.ldap_rules.specs.Delete.{delete_verdict}
use Rattle.ldap_rules.specs.Rename.{rename_verdict}
use Rattle.ldap_rules.specs.Compare.{compare_verdict}
pub use Rattle.ldap_rules.specs.Writes.{is_update_control, is_supplier}

-- what becomes of a request: it is refused, or this change of this entry is to be made (an add makes a new one),
-- or it is answered and changes nothing
pub data Verdict : Type 0 where
  Refuses : LdapResult → Verdict
  Writes : Option Uid → Body → Verdict
  Answers : LdapResult → Verdict

-- an update of another server, which no rule of this module judges
abbrev pub is_update : Request → Identity → Bool
is_update r bound = is_supplier bound && list_any is_update_control r.controls

-- the operations whose rules are written here: those that write
abbrev pub is_change : Op → Bool
is_change (AddEntry object given) = true
is_change (Modify object mods) = true
is_change (Delete object) = true
is_change (Rename object new_rdn delete_old new_superior) = true
is_change _ = false

-- and a compare
abbrev pub is_judged : Op → Bool
is_judged (Compare object name value) = true
is_judged (AddEntry object given) = true
is_judged (Modify object mods) = true
is_judged (Delete object) = true
is_judged (Rename object new_rdn delete_old new_superior) = true
is_judged _ = false

-- ---- the whole

-- a new entry
abbrev pub adds : Result Body LdapResult → Verdict
adds (Ok body) = Writes None body
adds (Err r) = Refuses r

-- a change of an entry that is there
abbrev pub changes : Result (Uid × Body) LdapResult → Verdict
changes (Ok change) = Writes (Some change.0) change.1
changes (Err r) = Refuses r

-- an answer that changes nothing
abbrev pub answers : Result LdapResult LdapResult → Verdict
answers (Ok r) = Answers r
answers (Err r) = Refuses r

-- the verdict by the operation. (No call has an operation that is not judged.)
abbrev pub op_verdict : DirectoryView → List Control → Identity → Op → Verdict
op_verdict v controls bound (AddEntry object given) = adds (add_verdict v controls bound object given)
op_verdict v controls bound (Modify object mods) = changes (modify_verdict v controls bound object mods)
op_verdict v controls bound (Delete object) = changes (delete_verdict v controls bound object)
op_verdict v controls bound (Rename object new_rdn delete_old new_superior) = changes (rename_verdict v controls bound object new_rdn delete_old new_superior)
op_verdict v controls bound (Compare object name value) = answers (compare_verdict v controls object name value)
op_verdict v controls bound _ = adds (refuse 53)

-- THE VERDICT on a request
abbrev pub verdict_of : DirectoryView → Request → Identity → Verdict
verdict_of v request bound = op_verdict v request.controls bound request.op

-- what the code answers is the verdict, unless memory ran out
abbrev pub IsVerdict : Result Judged JudgeFault → Verdict → Type 0
IsVerdict (Ok (Write target body)) v = v ≡ Writes target body
IsVerdict (Ok (Answer r)) v = v ≡ Answers r
IsVerdict (Err NoMemory) v = Unit {0}
IsVerdict (Err (Refused r)) v = v ≡ Refuses r
