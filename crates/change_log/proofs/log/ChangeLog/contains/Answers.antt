use Rattle.std.proofs.Common.{sym, subst, Contains}
use Rattle.change_log.specs.Log.{Log, csns_of}
use Rattle.change_log.proofs.Places.{index_csns}
use Rattle.change_log.proofs.Indexed.{to_changes, to_index}
use Rattle.change_log.proofs.log.ChangeLog.contains.Goals as goal

pub returns : goal.returns
returns c = (
  λ t. subst (λ (l : Log). Contains (csns_of l.changes) c.args.csn) c.self.view_is
      (to_changes c.self.inside.index.items c.self.inside.changes.items c.self.invariant.0 c.args.csn
      (subst (λ xs. Contains (index_csns xs) c.args.csn) c.as_slice.ensures.value (c.contains_in.ensures.0 t))),
  λ h. c.contains_in.ensures.1 (subst (λ xs. Contains (index_csns xs) c.args.csn) (sym c.as_slice.ensures.value)
      (to_index c.self.inside.index.items c.self.inside.changes.items c.self.invariant.0 c.args.csn
      (subst (λ (l : Log). Contains (csns_of l.changes) c.args.csn) (sym c.self.view_is) h))),
)
