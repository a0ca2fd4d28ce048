-- One node: what it keeps, and its vector.
use Rattle.std.specs.Prelude.{ℕ, Bool, ◌==◌, if◌then◌else◌, nat_lt, List, [], ◌∷◌, filter, Option, None}
use Rattle.repl_data.specs.declared.csn.Csn.{Csn}
use Rattle.repl_data.specs.declared.change.Change.{Change}
use Rattle.repl_data.specs.declared.change.Suffix.{Suffix}
use Rattle.repl_data.specs.declared.change.Update.{Update}
use Rattle.repl_data.specs.Order.{csn_le}
use Rattle.repl_data.specs.View.{view_of}
use Rattle.vector_core.specs.Greatest.{later_of}
use Rattle.vector_core.specs.Vector.{entry_of}
use Rattle.pending_core.specs.declared.generator.Generator.{Generator}
use Rattle.pending_core.specs.Pending.{is_free}
use Rattle.change_log.specs.Log.{csns_of, prev_in}
use Rattle.view_counts.specs.declared.replica.Audit.{Audit}
use Rattle.view_counts.specs.Audit.{audit_of}

pub record Node : Type 0 where
  pub suffix : Suffix
  pub rid : ℕ
  -- the changes that it has taken, in order of arrival
  pub taken : List Change
  -- the CSNs that it has drawn and not settled, in rising order
  pub pending : List Csn
  -- the last time and sequence number that it drew or saw
  pub last : Generator
  -- the supplier that holds it
  pub holder : Option ℕ
  -- how often it was started
  pub life : ℕ

-- a node that has taken nothing
abbrev pub new_node : Suffix → ℕ → Node
new_node suffix rid = record { suffix = suffix; rid = rid; taken = []; pending = []; last = record { time = 0; seq = 0 }; holder = None; life = 1 }

-- the CSNs that count for an originator's entry: of the node's own those with no pending one at or below them
abbrev pub counted : Node → ℕ → List Csn
counted n o = if o == n.rid then filter (is_free n.pending) (csns_of n.taken) else csns_of n.taken

-- The vector's entry for an originator: the greatest CSN of it that is taken, and for the node itself the greatest of those
-- that have no pending CSN at or below them. Zero where there is none.
abbrev pub front : Node → ℕ → Csn
front n o = entry_of (counted n o) o

-- the vector covers a change that is at or below the entry of its originator
abbrev pub is_covered : Node → Csn → Bool
is_covered n csn = csn_le csn (front n csn.rid)

-- a vector, in rising order of replica id, raised by a CSN
abbrev pub raised : Csn → List Csn → List Csn
raised c [] = c ∷ []
raised c (d ∷ ds) =
    if nat_lt d.rid c.rid then d ∷ raised c ds
    else if d.rid == c.rid then later_of c d ∷ ds
    else c ∷ (d ∷ ds)

abbrev pub raised_by : List Csn → List Csn
raised_by [] = []
raised_by (c ∷ cs) = raised c (raised_by cs)

-- the whole vector, in rising order of replica id: raised by each CSN that it covers
abbrev pub vector_of : Node → List Csn
vector_of n = raised_by (filter (is_covered n) (csns_of n.taken))

-- a change as it is sent: with the greatest CSN of its originator that is taken and below it
abbrev pub update_of : Node → Change → Update
update_of n c = record { change = c; prev = prev_in n.taken c.csn }

-- its counts: those of the view of what it has taken, of the changes that it has taken, and of its pending CSNs
abbrev pub audit_at : Node → Audit
audit_at n = audit_of (view_of n.suffix n.taken) n.taken n.pending
