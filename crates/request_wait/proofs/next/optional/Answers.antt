use Rattle.std.proofs.Common.{◌≡◌, ◌++◌, Ok, Err, subst}
use Rattle.ber_core.specs.Window.{More, Window, tag_here}
use Rattle.request_wait.specs.Inside.{one, optional_of}
use Rattle.request_wait.specs.Place.{seen}
use Rattle.request_wait.proofs.Stays.{tag_again}
use Rattle.request_wait.proofs.Steps.{comes_as, optional_ends, optional_waits, optional_found, optional_missing}
use Rattle.request_wait.proofs.next.optional.Goals as goal

pub returns-then-place : goal.returns-then-place
returns-then-place c = λ more. optional_ends c.args.tag c.args.content c.args.found c.args.missing c.args.place (c.args.bytes.now ++ more) c.if-place.true

pub returns-then-first-tag : goal.returns-then-first-tag
returns-then-first-tag c =
    let p = c.args.place in
    let is : tag_here (seen c.args.bytes.now p) ≡ Ok c.in-Ok.first = subst (λ (w : Window). tag_here w ≡ Ok c.in-Ok.first) c.cursor.ensures c.in-Ok.ensures in
    comes_as (one c.args.tag c.args.content c.args.found) (optional_of c.args.tag c.args.content c.args.found c.args.missing) c.one.result p c.args.bytes.now
    (optional_found c.args.tag c.args.content c.args.found c.args.missing p c.args.bytes.now c.in-Ok.first c.if-place.false is c.if-first-tag.true)
    (λ more. optional_found c.args.tag c.args.content c.args.found c.args.missing p (c.args.bytes.now ++ more) c.in-Ok.first c.if-place.false (tag_again c.args.bytes.now more p c.in-Ok.first is) c.if-first-tag.true)
    c.one.ensures

pub returns-else-first-tag : goal.returns-else-first-tag
returns-else-first-tag c =
    let p = c.args.place in
    let is : tag_here (seen c.args.bytes.now p) ≡ Ok c.in-Ok.first = subst (λ (w : Window). tag_here w ≡ Ok c.in-Ok.first) c.cursor.ensures c.in-Ok.ensures in
    λ more. optional_missing c.args.tag c.args.content c.args.found c.args.missing p (c.args.bytes.now ++ more) c.in-Ok.first c.if-place.false (tag_again c.args.bytes.now more p c.in-Ok.first is) c.if-first-tag.false

pub returns-in-Err-More : goal.returns-in-Err-More
returns-in-Err-More c =
    let more = subst (λ (w : Window). tag_here w ≡ Err More) c.cursor.ensures (rw c.in-Err-More.field-0-is at c.in-Err-More.ensures) in
    optional_waits c.args.tag c.args.content c.args.found c.args.missing c.args.place c.args.bytes.now c.if-place.false more
