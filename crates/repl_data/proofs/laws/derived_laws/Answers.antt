use Rattle.std.proofs.Common.{sym, ap}
use Rattle.std.specs.Prelude.{if◌then◌else◌}
use Rattle.repl_data.specs.Key.{text_key}
use Rattle.repl_data.specs.View.{naming_conflict}
use Rattle.repl_data.proofs.TextKeys.{glue_key, tombstone_key, glue_conflict_key, uid_key}
use Rattle.repl_data.proofs.laws.derived_laws.Goals as goal

pub returns-clause-glue : goal.returns-clause-glue
returns-clause-glue c = sym glue_key

pub returns-clause-tombstone : goal.returns-clause-tombstone
returns-clause-tombstone c = sym tombstone_key

pub returns-clause-glue_conflict : goal.returns-clause-glue_conflict
returns-clause-glue_conflict c = sym glue_conflict_key

pub returns-clause-naming_conflict : goal.returns-clause-naming_conflict
returns-clause-naming_conflict c = λ dn h. ap (λ b. if b then text_key (naming_conflict dn).spelled else (naming_conflict dn).spelled) h

pub returns-clause-naming_bytes : goal.returns-clause-naming_bytes
returns-clause-naming_bytes c = λ dn h. ap (λ b. if b then text_key (naming_conflict dn).spelled else (naming_conflict dn).spelled) h

pub returns-clause-id : goal.returns-clause-id
returns-clause-id c = λ u. sym (uid_key u)
