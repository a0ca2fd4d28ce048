use Rattle.std.proofs.Common.{◌∙◌, ◌++◌, List, ℕ, ap, sym, refl, drop}
use Rattle.conn_core.specs.Feeding.{session}
use Rattle.conn_core.specs.Stream.{first_request}
use Rattle.conn_core.proofs.Carrying.{part_none, part_on, part_kept, feeds_none, feeds_so, still, still_more}
use Rattle.conn_core.proofs.conn.Conn.take_in.Goals as goal

pub returns-in-Err-clause-part : goal.returns-in-Err-clause-part
returns-in-Err-clause-part g c = part_none _ c.args.now (c.args.self.now.held ++ c.args.piece.now) (session c.args.self.now c.args.node.now)

pub returns-in_default-serve-clause-part : goal.returns-in_default-serve-clause-part
returns-in_default-serve-clause-part g c =
    part_on _ c.args.now (c.args.self.now.held ++ c.args.piece.now) c.as_slice.result.now (session c.args.self.now c.args.node.now) (session c.serve.new.self c.serve.new.node)
    (c.as_slice.ensures ∙ c.waits.ensures.same ∙ c.in_default.ensures.ok ∙ ap (λ (x : List ℕ). x ++ c.args.piece.now) c.replace-stream.ensures.value)
    c.in_default-serve.ensures.cut

pub returns-in-Err-finish-clause-part : goal.returns-in-Err-finish-clause-part
returns-in-Err-finish-clause-part g c =
    part_kept _ c.args.now (c.args.self.now.held ++ c.args.piece.now) c.as_slice.result.now (session c.args.self.now c.args.node.now) (drop c.in-Ok.at c.as_slice.result.now) c.finish.new.self c.serve.new.self c.serve.new.node
    (c.as_slice.ensures ∙ c.waits.ensures.same ∙ c.in_default.ensures.ok ∙ ap (λ (x : List ℕ). x ++ c.args.piece.now) c.replace-stream.ensures.value)
    c.in-Ok.ensures.served.0 c.in-Err-finish.ensures.others c.in-Err-finish.ensures.err.0

pub returns-clause-fed : goal.returns-clause-fed
returns-clause-fed g c =
    feeds_so _ c.args.now c.args.piece.now c.args.self.now c.args.node.now c.in-Ok.fed c.finish.new.self c.serve.new.node c.as_slice.result.now _ c.in-Ok.at c.serve.new.self
    c.as_slice.ensures
    (c.waits.ensures.same ∙ c.in_default.ensures.ok ∙ ap (λ (x : List ℕ). x ++ c.args.piece.now) c.replace-stream.ensures.value)
    c.in-Ok.ensures.served.0 c.in-Ok.ensures.served.1 c.in_default-finish.ensures.others c.in_default-finish.ensures.replies c.in_default-finish.ensures.held c.in_default-finish.ensures.closed

pub returns-in-Err-clause-waiting : goal.returns-in-Err-clause-waiting
returns-in-Err-clause-waiting g c = still c.args.self.now.replies c.args.self.now.replies refl

pub returns-in-Err-finish-clause-waiting : goal.returns-in-Err-finish-clause-waiting
returns-in-Err-finish-clause-waiting g c =
    still_more c.args.self.now.replies c.serve.new.self.replies c.finish.new.self.replies c.in-Ok.ensures.waiting
    (still c.serve.new.self.replies c.finish.new.self.replies c.in-Err-finish.ensures.err.0)

pub returns-then-waits-clause-fed : goal.returns-then-waits-clause-fed
returns-then-waits-clause-fed g c =
    feeds_none _ c.args.now c.args.piece.now c.args.self.now _ c.args.node.now
    (ap (λ (x : List ℕ). first_request x) (sym (c.in_default.ensures.ok ∙ ap (λ (x : List ℕ). x ++ c.args.piece.now) c.replace-stream.ensures.value)) ∙ c.if-waits.ensures.more refl)
    c.requires
    (ap (λ (x : List ℕ). record c.args.self.now { held = x }) (c.waits.ensures.same ∙ c.in_default.ensures.ok ∙ ap (λ (x : List ℕ). x ++ c.args.piece.now) c.replace-stream.ensures.value))
