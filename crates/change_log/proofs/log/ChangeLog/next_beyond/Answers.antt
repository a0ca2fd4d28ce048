use Rattle.std.proofs.Common.{◌≡◌, sym, ap, ◌∙◌, subst, true, false, Contains}
use Rattle.std.specs.List.{All}
use Rattle.repl_data.specs.declared.change.Change.{Change}
use Rattle.repl_data.specs.Order.{csn_le}
use Rattle.change_log.specs.Log.{Log, is_between}
use Rattle.change_log.specs.Index.{IsLeastPlace, HasNoPlace}
use Rattle.change_log.proofs.Reach.{none_passes, none_lower, place_within, place_csn, stands_in}
use Rattle.change_log.proofs.log.ChangeLog.next_beyond.Goals as goal

pub returns-in_default : goal.returns-in_default
returns-in_default c =
    let h = subst (λ xs. HasNoPlace xs (is_between c.args.beyond.now c.args.limit.now)) c.as_slice.ensures.value c.in_default.ensures in
    record {
      next = subst (λ (l : Log). All (λ (x : Change). is_between c.args.beyond.now c.args.limit.now x.csn ≡ false) l.changes) c.self.view_is
          (none_passes c.self.inside.index.items c.self.inside.changes.items (is_between c.args.beyond.now c.args.limit.now) c.self.invariant.0 h);
    }

pub returns : goal.returns
returns c =
    let h = subst (λ xs. IsLeastPlace xs (is_between c.args.beyond.now c.args.limit.now) c.in-Some.place) c.as_slice.ensures.value c.in-Some.ensures in
    let csn = ap (λ (x : Change). x.csn) c.index.ensures ∙ place_csn c.self.inside.index.items c.self.inside.changes.items (is_between c.args.beyond.now c.args.limit.now) c.in-Some.place c.index.result.now c.self.invariant.0 h in record {
      next = record {
        stands = subst (λ (l : Log). Contains l.changes c.index.result.now) c.self.view_is
            (stands_in c.self.inside.changes.items c.in-Some.place.at c.index.result.now (place_within c.self.inside.index.items c.self.inside.changes.items (is_between c.args.beyond.now c.args.limit.now) c.in-Some.place c.self.invariant.0 h) (sym c.index.ensures));
        between = subst (λ z. is_between c.args.beyond.now c.args.limit.now z ≡ true) (sym csn) h.passes;
        least = subst (λ (l : Log). All (λ (x : Change). is_between c.args.beyond.now c.args.limit.now x.csn ≡ true → csn_le c.index.result.now.csn x.csn ≡ true) l.changes) c.self.view_is
            (subst (λ z. All (λ (x : Change). is_between c.args.beyond.now c.args.limit.now x.csn ≡ true → csn_le z x.csn ≡ true) c.self.inside.changes.items) (sym csn)
            (none_lower c.self.inside.index.items c.self.inside.changes.items (is_between c.args.beyond.now c.args.limit.now) c.in-Some.place c.self.invariant.0 h));
      };
    }
