use Rattle.std.proofs.Common.{◌≡◌, ◌+◌, length, arith}
use Rattle.view_walk.proofs.Steps.{walked, walked_there}
use Rattle.view_walk.proofs.visit.Walk.next.Goals as goal

pub returns-clause-next : goal.returns-clause-next
returns-clause-next g c =
    let long : c.in-Some.last + 1 ≡ length c.self.inside.stack.items = omega (arith, c.in-Some.ensures, c.len.ensures, c.self.inside.stack.ok.0) in
    walked (g.V.View.view c.args.view.now) c.requires.tree c.self.inside.stack.items c.open_last.new.stack.items c.in_ok-children.children c.in-Some.last c.index-id.result.now c.args.self.now
    c.self.view_is long c.index-id.ensures c.in_ok-children.ensures c.in_ok-open_last.ensures.ok c.requires.present

pub returns-clause-present : goal.returns-clause-present
returns-clause-present g c =
    let long : c.in-Some.last + 1 ≡ length c.self.inside.stack.items = omega (arith, c.in-Some.ensures, c.len.ensures, c.self.inside.stack.ok.0) in
    walked_there (g.V.View.view c.args.view.now) c.requires.tree c.self.inside.stack.items c.open_last.new.stack.items c.in_ok-children.children c.in-Some.last c.index-id.result.now c.args.self.now
    c.self.view_is long c.index-id.ensures c.in_ok-children.ensures c.in_ok-open_last.ensures.ok c.requires.present
