use Rattle.std.proofs.Common.{◌≡◌, ◌∙◌, sym, ap, subst, true}
use Rattle.world_core.specs.World.{is_node}
use Rattle.dir_top.specs.declared.state.State.{State}
use Rattle.dir_top.specs.Client.{with_bytes, has_built}
use Rattle.dir_top.proofs.Inputs.{input-goes, fed-there}
use Rattle.dir_top.proofs.state.State.input.Goals as goal

pub returns : goal.returns
returns c =
    let s = c.args.self.now in
    let client = c.in-Open.client in
    let bytes = c.args.bytes.now in
    let held : c.hold.new.self ≡ with_bytes client bytes = c.in_ok-hold.ensures ∙ ap (λ bs. with_bytes client bs) c.as_slice.ensures in
    let built : has_built (with_bytes client bytes) ≡ true = ap has_built (sym held) ∙ sym c.in_ok-has_built.ensures.built ∙ c.if-not-branch.false in
    let there : is_node s.world c.in-Open.node ≡ true =
    subst (λ (x : State). is_node x.world c.in-Open.node ≡ true) c.take_connection.ensures.left (sym c.has_node.ensures ∙ c.if-not-has_node.false) in
    input-goes s c.args.c bytes c.in-Open.node c.in-Open.instance client c.in-Open.ensures.taken c.serve.new.self c.in_ok-serve.field-0 built there
    (fed-there s c.take_connection.new.self c.args.c bytes c.in-Open.node c.in-Open.instance client c.has_built.new.self c.serve.new.self c.in_ok-serve.field-0 c.take_connection.ensures.left (c.in_ok-has_built.ensures.same ∙ held) c.in_ok-serve.ensures)
