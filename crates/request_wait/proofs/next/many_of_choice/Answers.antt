use Rattle.std.proofs.Common.{◌++◌}
use Rattle.request_wait.specs.Inside.{choice_of, many_of_choice}
use Rattle.request_wait.proofs.Steps.{comes_as, choices_end, choices_go}
use Rattle.request_wait.proofs.next.many_of_choice.Goals as goal

pub returns-then-place : goal.returns-then-place
returns-then-place c = λ more. choices_end c.args.choice c.args.place.part c.args.place (c.args.bytes.now ++ more) c.if-place.true

pub returns : goal.returns
returns c =
    let p = c.args.place in
    comes_as (choice_of c.args.choice p.part p.part) (many_of_choice c.args.choice p.part) c.one_of.result p c.args.bytes.now
    (choices_go c.args.choice p.part p c.args.bytes.now c.if-place.false)
    (λ more. choices_go c.args.choice p.part p (c.args.bytes.now ++ more) c.if-place.false)
    c.one_of.ensures
