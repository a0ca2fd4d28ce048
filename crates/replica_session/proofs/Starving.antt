-- Where memory ran out.
use Rattle.std.proofs.Common.{◌≡◌, ℕ, Result, Ok, Err, sym, subst}
use Rattle.std.specs.Prelude.{OnErr}
use Rattle.repl_data.specs.declared.change.Update.{Update}
use Rattle.repl_data.specs.declared.items.NoMemory.{NoMemory}
use Rattle.ldap_types.specs.declared.request.Request.{Request}
use Rattle.ldap_types.specs.declared.reply.Reply.{Reply}
use Rattle.vector_core.specs.declared.answers.Start.{Start}
use Rattle.repl_wire.specs.Reading.{start_of}
use Rattle.repl_wire.specs.Update.{update_of}
use Rattle.replica_session.specs.declared.consumer.Consumer.{Consumer}
use Rattle.replica_session.specs.Calls.{Taking}
use Rattle.replica_session.specs.Consumer.{StarvesAtStart, StarvesAtUpdate, Starves}

-- before the node was asked
pub by_none : {T : Type 0} (c : Taking T) (r : Request) (now : ℕ) (old : Consumer) (take : T) (result : Result Reply NoMemory) → OnErr result (Starves c r now old take old take)
by_none c r now old take (Ok reply) = tt
by_none c r now old take (Err short) = Starves.unasked

-- at a start that was read
pub by_start : {T : Type 0} (c : Taking T) (r : Request) (now : ℕ) (old new : Consumer) (take after : T) (s : Start) (result : Result Reply NoMemory)
    → start_of r ≡ Ok s → OnErr result (StarvesAtStart c s now old take new after) → OnErr result (Starves c r now old take new after)
by_start c r now old new take after s (Ok reply) e h = tt
by_start c r now old new take after s (Err short) e h = Starves.start s new after e h

-- at an update that was read
pub by_update : {T : Type 0} (c : Taking T) (r : Request) (now : ℕ) (old new : Consumer) (take after : T) (u : Update) (result : Result Reply NoMemory)
    → update_of r ≡ Ok u → new ≡ old → OnErr result (StarvesAtUpdate c u now old.from take after) → OnErr result (Starves c r now old take new after)
by_update c r now old new take after u (Ok reply) e same h = tt
by_update c r now old new take after u (Err short) e same h = subst (λ (n : Consumer). Starves c r now old take n after) (sym same) (Starves.update u after e h)
