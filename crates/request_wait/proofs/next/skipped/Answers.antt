use Rattle.std.proofs.Common.{◌≡◌, ◌++◌, Ok, Err, subst}
use Rattle.ber_core.specs.Window.{More, Window, tag_here}
use Rattle.request_wait.specs.Inside.{one, skip_of}
use Rattle.request_wait.specs.Table.{octets}
use Rattle.request_wait.specs.Place.{seen}
use Rattle.request_wait.proofs.Stays.{tag_again}
use Rattle.request_wait.proofs.Steps.{comes_as, skip_ends, skip_waits, skip_goes}
use Rattle.request_wait.proofs.next.skipped.Goals as goal

pub returns-then-place : goal.returns-then-place
returns-then-place c = λ more. skip_ends c.args.place.part c.args.place (c.args.bytes.now ++ more) c.if-place.true

pub returns-in-Ok : goal.returns-in-Ok
returns-in-Ok c =
    let p = c.args.place in
    let is : tag_here (seen c.args.bytes.now p) ≡ Ok c.in-Ok.tag = subst (λ (w : Window). tag_here w ≡ Ok c.in-Ok.tag) c.cursor.ensures c.in-Ok.ensures in
    comes_as (one c.in-Ok.tag octets p.part) (skip_of p.part) c.one.result p c.args.bytes.now
    (skip_goes p.part p c.args.bytes.now c.in-Ok.tag c.if-place.false is)
    (λ more. skip_goes p.part p (c.args.bytes.now ++ more) c.in-Ok.tag c.if-place.false (tag_again c.args.bytes.now more p c.in-Ok.tag is))
    c.one.ensures

pub returns-in-Err-More : goal.returns-in-Err-More
returns-in-Err-More c =
    let more = subst (λ (w : Window). tag_here w ≡ Err More) c.cursor.ensures (rw c.in-Err-More.field-0-is at c.in-Err-More.ensures) in
    skip_waits c.args.place.part c.args.place c.args.bytes.now c.if-place.false more
