-- The lines of the output, each by the words that it is printed with.
use Rattle.std.specs.Prelude.{ℕ, List, [], ◌∷◌, ◌++◌, map, codes, Result, Ok, Err}
use Rattle.std.specs.Fmt.{decimal}
use Rattle.hex.specs.Hex.{encode_lower}
use Rattle.repl_data.specs.declared.csn.Csn.{Csn}
use Rattle.repl_data.specs.Text.{csn_text, uid_text}
use Rattle.vector_core.specs.declared.answers.Applied.{Applied}
use Rattle.vector_core.specs.declared.answers.Applied.TheVariants.{Taken, Duplicate}
use Rattle.vector_core.specs.declared.answers.ApplyFault.{ApplyFault}
use Rattle.vector_core.specs.declared.answers.ApplyFault.TheVariants as apply
use Rattle.vector_core.specs.declared.answers.AcquireFault.{AcquireFault}
use Rattle.vector_core.specs.declared.answers.AcquireFault.TheVariants as acquire
use Rattle.script_text.specs.Print.{words_line}
use Rattle.script_text.specs.declared.output.OutputLine.{OutputLine}
use Rattle.script_text.specs.declared.output.OutputLine.TheVariants as out

-- ---- answers in words

-- why a supplier may not begin a session. The nodes of a script have one suffix, so there is no word for another one.
abbrev pub refused_words : AcquireFault → List (List ℕ)
refused_words acquire.SameId = codes "same" ∷ []
refused_words (acquire.Busy rid) = codes "busy" ∷ decimal rid ∷ []
refused_words (acquire.Skew csn now) = codes "skew" ∷ csn_text csn ∷ decimal now ∷ []
refused_words acquire.WrongSuffix = []
refused_words acquire.NoMemory = []

unfoldable pub not_holder_word : List ℕ
not_holder_word = codes "not-holder"

unfoldable pub own_unknown_word : List ℕ
own_unknown_word = codes "own-unknown"

-- What became of an update. No update that was offered is malformed, so there is no word for that.
abbrev pub answer_words : Result Applied ApplyFault → List (List ℕ)
answer_words (Ok Taken) = codes "ok" ∷ []
answer_words (Ok Duplicate) = codes "duplicate" ∷ []
answer_words (Err apply.NotHolder) = not_holder_word ∷ []
answer_words (Err (apply.OwnUnknown csn)) = own_unknown_word ∷ csn_text csn ∷ []
answer_words (Err (apply.Skew csn now)) = codes "skew" ∷ csn_text csn ∷ decimal now ∷ []
answer_words (Err (apply.Gap have prev)) = codes "gap" ∷ csn_text have ∷ csn_text prev ∷ []
answer_words (Err (apply.Missing id)) = codes "missing" ∷ uid_text id ∷ []
answer_words (Err apply.KeeperFault) = codes "keeper" ∷ []
answer_words (Err (apply.Malformed why)) = []
answer_words (Err apply.NoMemory) = []

-- ---- lines

abbrev pub output_words : OutputLine → List (List ℕ)
output_words (out.Closed c) = codes "closed" ∷ decimal c ∷ []
output_words (out.Started k csn) = codes "start" ∷ decimal k ∷ csn_text csn ∷ []
output_words (out.StartFull k) = codes "start" ∷ decimal k ∷ codes "full" ∷ []
output_words (out.StartExhausted k csn) = codes "start" ∷ decimal k ∷ codes "exhausted" ∷ csn_text csn ∷ []
output_words (out.Committed k csn) = codes "commit" ∷ decimal k ∷ csn_text csn ∷ []
output_words (out.CommitRefused k code) = codes "commit" ∷ decimal k ∷ codes "refused" ∷ decimal code ∷ []
output_words (out.CommitStale k life node_life) = codes "commit" ∷ decimal k ∷ codes "stale" ∷ decimal life ∷ decimal node_life ∷ []
output_words (out.CommitExhausted k csn) = codes "commit" ∷ decimal k ∷ codes "exhausted" ∷ csn_text csn ∷ []
output_words (out.CommitKeeper k) = codes "commit" ∷ decimal k ∷ codes "keeper" ∷ []
output_words (out.Settled k) = codes "settle" ∷ decimal k ∷ []
output_words (out.Aborted k) = codes "abort" ∷ decimal k ∷ []
output_words (out.Acquired a b) = codes "acquire" ∷ decimal a ∷ decimal b ∷ codes "ok" ∷ []
output_words (out.AcquireRefused a b fault) = codes "acquire" ∷ decimal a ∷ decimal b ∷ refused_words fault
output_words (out.Released a b) = codes "release" ∷ decimal a ∷ decimal b ∷ []
output_words (out.Offered a b u csn prev) = codes "offer" ∷ decimal a ∷ decimal b ∷ decimal u ∷ csn_text csn ∷ csn_text prev ∷ []
output_words (out.OfferDone a b) = codes "offer" ∷ decimal a ∷ decimal b ∷ codes "done" ∷ []
output_words (out.Delivered b u answer) = codes "deliver" ∷ decimal b ∷ decimal u ∷ answer_words answer
output_words (out.Pumped a b sent) = codes "pump" ∷ decimal a ∷ decimal b ∷ codes "done" ∷ decimal sent ∷ []
output_words (out.PumpRefused a b fault) = codes "pump" ∷ decimal a ∷ decimal b ∷ refused_words fault
output_words (out.PumpStopped a b fault sent) = codes "pump" ∷ decimal a ∷ decimal b ∷ codes "stopped" ∷ answer_words (Err fault) ++ decimal sent ∷ []
output_words (out.Restarted n) = codes "restart" ∷ decimal n ∷ []
output_words (out.Dumped n count) = codes "dump" ∷ decimal n ∷ decimal count ∷ []
output_words (out.Audited n counts) =
    codes "audit" ∷ decimal n ∷ codes "present" ∷ decimal counts.present ∷ codes "glue" ∷ decimal counts.glue
    ∷ codes "conflict" ∷ decimal counts.conflict ∷ codes "tombstone" ∷ decimal counts.tombstone
    ∷ codes "taken" ∷ decimal counts.taken ∷ codes "pending" ∷ decimal counts.pending ∷ []

abbrev pub output_line : OutputLine → List ℕ
output_line line = words_line (output_words line)

-- `out C HEX`, by the bytes of the reply
abbrev pub reply_line : ℕ → List ℕ → List ℕ
reply_line c bytes = words_line (codes "out" ∷ decimal c ∷ encode_lower bytes ∷ [])

-- `vector N ..`: the CSNs of the vector, or `empty` where it has none
abbrev pub csn_words : List Csn → List (List ℕ)
csn_words [] = codes "empty" ∷ []
csn_words (csn ∷ csns) = map csn_text (csn ∷ csns)

abbrev pub vector_line : ℕ → List Csn → List ℕ
vector_line n csns = words_line (codes "vector" ∷ decimal n ∷ csn_words csns)
