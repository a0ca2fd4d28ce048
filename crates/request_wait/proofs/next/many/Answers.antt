use Rattle.std.proofs.Common.{◌++◌}
use Rattle.request_wait.specs.Inside.{one, many_of}
use Rattle.request_wait.proofs.Steps.{comes_as, many_ends, many_goes}
use Rattle.request_wait.proofs.next.many.Goals as goal

pub returns-then-place : goal.returns-then-place
returns-then-place c = λ more. many_ends c.args.tag c.args.content c.args.place.part c.args.place (c.args.bytes.now ++ more) c.if-place.true

pub returns : goal.returns
returns c =
    let p = c.args.place in
    comes_as (one c.args.tag c.args.content p.part) (many_of c.args.tag c.args.content p.part) c.one.result p c.args.bytes.now
    (many_goes c.args.tag c.args.content p.part p c.args.bytes.now c.if-place.false)
    (λ more. many_goes c.args.tag c.args.content p.part p (c.args.bytes.now ++ more) c.if-place.false)
    c.one.ensures
