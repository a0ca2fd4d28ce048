use Rattle.std.proofs.Common.{◌++◌}
use Rattle.request_wait.specs.Inside.{inside, by_form}
use Rattle.request_wait.specs.Place.{seen}
use Rattle.request_wait.proofs.Forms.{begins}
use Rattle.request_wait.proofs.Steps.{comes_as}
use Rattle.request_wait.proofs.next.look.Goals as goal

pub returns : goal.returns
returns c =
    let p = c.args.place in
    comes_as (by_form c.form.result p.part) (inside p.part) c.look_for.result p c.args.bytes.now
    (rw c.form.ensures (begins p.part (seen c.args.bytes.now p)))
    (λ more. rw c.form.ensures (begins p.part (seen (c.args.bytes.now ++ more) p)))
    c.look_for.ensures
