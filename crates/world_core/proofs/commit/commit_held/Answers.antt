use Rattle.std.proofs.Common.{◌≡◌, ◌∙◌, sym, ap, subst}
use Rattle.std.specs.Prelude.{IfOk, OnErr}
use Rattle.node_core.specs.Sound.{IsOpen}
use Rattle.world_core.specs.World.{Ticket, node_of}
use Rattle.world_core.specs.Held.{stage_life, stage_csn, is_committed}
use Rattle.world_core.specs.declared.held.Stage.{Stage}
use Rattle.world_core.specs.Commits.{CommitsHeld, held_verdict}
use Rattle.world_core.proofs.Failures.{open-untaken, held_open, fault-says, failed-ok, failed-err}
use Rattle.world_core.proofs.commit.commit_held.Goals as goal

pub commit_at-requires-clause-uncommitted : goal.commit_at-requires-clause-uncommitted
commit_at-requires-clause-uncommitted c =
    let h = c.held.inside in
    let same : held_open h.number h.node h.request h.bound h.trouble c.in-Open.ticket ≡ c.args.held =
    ap (λ (s : Stage). record { number = h.number; node = h.node; life = stage_life s; csn = stage_csn s; request = h.request; bound = h.bound; committed = is_committed s; trouble = h.trouble }) (sym c.in-Open.is) ∙ c.held.view_is in
    let ns = c.args.nodes.now.items in
    let opened = subst (λ (t : Ticket). t.life ≡ (node_of ns t.node).life → IsOpen (node_of ns t.node) t.csn) (sym same) c.requires.open in
    λ live taken. open-untaken (node_of ns h.node) c.in-Open.ticket.csn (opened live) taken

pub returns-in-Err-clause-ok : goal.returns-in-Err-clause-ok
returns-in-Err-clause-ok c =
    let h = c.held.inside in
    let ns = c.args.nodes.now.items in
    let ticket = c.in-Open.ticket in
    let t = held_open h.number h.node h.request h.bound h.trouble ticket in
    let same : t ≡ c.args.held =
    ap (λ (s : Stage). record { number = h.number; node = h.node; life = stage_life s; csn = stage_csn s; request = h.request; bound = h.bound; committed = is_committed s; trouble = h.trouble }) (sym c.in-Open.is) ∙ c.held.view_is in
    let rid = sym (c.rid-rid.ensures ∙ ap (λ m. m.rid) c.node_at.ensures ∙ ap (λ xs. (node_of xs h.node).rid) c.as_slice.ensures.value) in
    let says = fault-says (node_of ns h.node) ticket c.in-Err.ticket (held_verdict ns t) c.args.clock c.in-Err.fault _ c.in-Err.ensures.step c.in-Err.ensures.keeper in
    subst (λ (x : Ticket). IfOk c.told-trouble.result.1 (λ happened. CommitsHeld ns c.args.clock x (held_open h.number h.node h.request h.bound c.told-trouble.result.0 c.in-Err.ticket) happened c.commit_at.new.nodes.items)) same
    (failed-ok ns c.commit_at.new.nodes.items c.args.clock h.number h.node h.request h.bound h.trouble ticket c.in-Err.ticket c.in-Err.fault c.failed.result c.told-trouble.result says c.in-Err.ensures.others
    (record { some = c.failed.ensures.ok; trouble = c.failed.ensures.trouble t; happened = c.failed.ensures.happened t (node_of ns h.node) (sym c.life-life.ensures) rid; ok = c.told-trouble.ensures.ok; err = c.told-trouble.ensures.err }))

pub returns-in-Err-clause-err : goal.returns-in-Err-clause-err
returns-in-Err-clause-err c =
    let h = c.held.inside in
    let ns = c.args.nodes.now.items in
    let ticket = c.in-Open.ticket in
    let t = held_open h.number h.node h.request h.bound h.trouble ticket in
    let same : t ≡ c.args.held =
    ap (λ (s : Stage). record { number = h.number; node = h.node; life = stage_life s; csn = stage_csn s; request = h.request; bound = h.bound; committed = is_committed s; trouble = h.trouble }) (sym c.in-Open.is) ∙ c.held.view_is in
    let rid = sym (c.rid-rid.ensures ∙ ap (λ m. m.rid) c.node_at.ensures ∙ ap (λ xs. (node_of xs h.node).rid) c.as_slice.ensures.value) in
    let says = fault-says (node_of ns h.node) ticket c.in-Err.ticket (held_verdict ns t) c.args.clock c.in-Err.fault _ c.in-Err.ensures.step c.in-Err.ensures.keeper in
    subst (λ (x : Ticket). OnErr c.told-trouble.result.1 ((held_open h.number h.node h.request h.bound c.told-trouble.result.0 c.in-Err.ticket ≡ x) × (c.commit_at.new.nodes.items ≡ ns))) same
    (failed-err ns c.commit_at.new.nodes.items c.args.clock h.number h.node h.request h.bound h.trouble ticket c.in-Err.ticket c.in-Err.fault c.failed.result c.told-trouble.result says c.in-Err.ensures.others
    (record { some = c.failed.ensures.ok; trouble = c.failed.ensures.trouble t; happened = c.failed.ensures.happened t (node_of ns h.node) (sym c.life-life.ensures) rid; ok = c.told-trouble.ensures.ok; err = c.told-trouble.ensures.err }))
