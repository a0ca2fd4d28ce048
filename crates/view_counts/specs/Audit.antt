-- WHAT A REPLICA HAS, counted.
use Rattle.std.specs.Prelude.{List, length}
use Rattle.repl_data.specs.declared.csn.Csn.{Csn}
use Rattle.repl_data.specs.declared.change.Change.{Change}
use Rattle.repl_data.specs.View.{DirectoryView, glue_count, conflict_count}
use Rattle.view_counts.specs.declared.replica.Audit.{Audit}

-- THE COUNTS OF A REPLICA: of its view the present entries, those of them that are glue, those that lost their name, and
-- the tombstones; of the changes that it has taken; and of its pending CSNs
abbrev pub audit_of : DirectoryView → List Change → List Csn → Audit
audit_of v taken pending = record {
  present = length v.present;
  glue = glue_count v;
  conflict = conflict_count v;
  tombstone = length v.gone;
  taken = length taken;
  pending = length pending;
}
