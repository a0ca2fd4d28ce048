-- What a line prints when it was carried out, by what happened.
use Rattle.std.specs.Prelude.{ℕ, List, [], ◌++◌, length, if◌then◌else◌, Option, Some, None}
use Rattle.std.specs.List.{flat_map}
use Rattle.ldap_types.specs.declared.reply.LdapResult.{LdapResult}
use Rattle.ldap_types.specs.declared.reply.Reply.{Reply}
use Rattle.ldap_types.specs.declared.reply.ReplyOp.{ReplyOp}
use Rattle.ldap_replies.specs.Form.{reply_bytes}
use Rattle.conn_core.specs.Serving.{response}
use Rattle.view_counts.specs.declared.replica.Audit.{Audit}
use Rattle.world_core.specs.World.{used_up}
use Rattle.world_core.specs.Write.{busy, success}
use Rattle.world_core.specs.declared.event.Happened.{Happened}
use Rattle.world_core.specs.declared.event.Happened.TheVariants as what
use Rattle.script_text.specs.Print.{entry_lines}
use Rattle.script_text.specs.Output.{output_line, reply_line, vector_line}
use Rattle.script_text.specs.declared.output.OutputLine.TheVariants as out
use Rattle.script_text.specs.declared.output.Counts.{Counts}
use Rattle.dir_top.specs.declared.state.Owed.{Owed}
use Rattle.dir_top.specs.declared.state.State.{State}
use Rattle.dir_top.specs.State.{still_waits}

-- ---- replies

-- `out C HEX` for each of the replies, by their bytes
abbrev pub reply_lines : ℕ → List (List ℕ) → List ℕ
reply_lines c replies = flat_map (reply_line c) replies

abbrev pub out_line : ℕ → Reply → List ℕ
out_line c r = reply_line c (reply_bytes r)

-- `closed C`
abbrev pub closed_line : ℕ → List ℕ
closed_line c = output_line (out.Closed c)

-- the reply with this message id, where there is one
abbrev pub answer_line : ℕ → ℕ → Option ReplyOp → List ℕ
answer_line c id None = []
answer_line c id (Some op) = out_line c (record { id = id; op = op })

-- the reply to the one who waits, with this result: the response to the operation that was asked for
abbrev pub owed_line : Owed → LdapResult → List ℕ
owed_line o result = answer_line o.connection o.id (response o.kind result)

-- the reply to the write of a ticket, if its connection is still the same one
abbrev pub reply_owed : State → Option Owed → LdapResult → List ℕ
reply_owed s None result = []
reply_owed s (Some o) result = if still_waits s o then owed_line o result else []

-- ---- tickets

-- `start K ..`, with a reply where no ticket was begun
abbrev pub start_text : Owed → Happened → List ℕ
start_text o (what.Started csn) = output_line (out.Started o.ticket csn)
start_text o what.Full = output_line (out.StartFull o.ticket) ++ owed_line o busy
start_text o (what.Exhausted csn) = output_line (out.StartExhausted o.ticket csn) ++ owed_line o used_up
start_text o _ = []

-- `commit K ..`
abbrev pub commit_text : ℕ → Happened → List ℕ
commit_text k (what.Committed csn) = output_line (out.Committed k csn)
commit_text k (what.Refused result) = output_line (out.CommitRefused k result.code.number)
commit_text k (what.Stale life node_life) = output_line (out.CommitStale k life node_life)
commit_text k (what.Exhausted csn) = output_line (out.CommitExhausted k csn)
commit_text k what.Keeper = output_line (out.CommitKeeper k)
commit_text k _ = []

-- `settle K`, and the reply that is owed
abbrev pub settle_text : State → Option Owed → ℕ → Happened → List ℕ
settle_text s owed k what.Settled = output_line (out.Settled k) ++ reply_owed s owed success
settle_text s owed k _ = []

-- `abort K`, and the reply that is owed where the last commit failed
abbrev pub reply_failed : State → Option Owed → Option LdapResult → List ℕ
reply_failed s owed None = []
reply_failed s owed (Some result) = reply_owed s owed result

abbrev pub abort_text : State → Option Owed → ℕ → Happened → List ℕ
abort_text s owed k (what.Aborted result) = output_line (out.Aborted k) ++ reply_failed s owed result
abort_text s owed k _ = []

-- ---- sessions

-- `acquire A B ..`
abbrev pub acquire_text : ℕ → ℕ → Happened → List ℕ
acquire_text a b what.Acquired = output_line (out.Acquired a b)
acquire_text a b (what.AcquireRefused fault) = output_line (out.AcquireRefused a b fault)
acquire_text a b _ = []

-- `release A B`
abbrev pub release_text : ℕ → ℕ → List ℕ
release_text a b = output_line (out.Released a b)

-- `offer A B ..`
abbrev pub offer_text : ℕ → ℕ → Happened → List ℕ
offer_text a b (what.Offered u csn prev) = output_line (out.Offered a b u csn prev)
offer_text a b what.OfferDone = output_line (out.OfferDone a b)
offer_text a b _ = []

-- `deliver B U ..`
abbrev pub deliver_text : ℕ → ℕ → Happened → List ℕ
deliver_text b u (what.Delivered answer) = output_line (out.Delivered b u answer)
deliver_text b u _ = []

-- ---- what is asked of a node

-- `vector N ..`, in order of replica id
abbrev pub vector_text : ℕ → Happened → List ℕ
vector_text n (what.Front csns) = vector_line n csns
vector_text n _ = []

-- `dump N COUNT`, and the lines of each entry
abbrev pub dump_text : ℕ → Happened → List ℕ
dump_text n (what.Dumped entries) = output_line (out.Dumped n (length entries)) ++ flat_map entry_lines entries
dump_text n _ = []

-- `audit N present P ..`
abbrev pub audit_counts : Audit → Counts
audit_counts a = record { present = a.present; glue = a.glue; conflict = a.conflict; tombstone = a.tombstone; taken = a.taken; pending = a.pending }

abbrev pub audit_text : ℕ → Happened → List ℕ
audit_text n (what.Audited audit) = output_line (out.Audited n (audit_counts audit))
audit_text n _ = []
