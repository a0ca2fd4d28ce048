use Rattle.std.proofs.Common.{◌≡◌, ◌++◌, Ok, Err, Some, sym, subst}
use Rattle.ber_core.specs.Window.{More, Window, tag_here}
use Rattle.request_wait.specs.Inside.{one, choice_of}
use Rattle.request_wait.specs.Table.{content_by}
use Rattle.request_wait.specs.Place.{seen}
use Rattle.request_wait.proofs.Stays.{tag_again}
use Rattle.request_wait.proofs.Steps.{comes_as, choice_waits, choice_goes}
use Rattle.request_wait.proofs.next.one_of.Goals as goal

pub returns-in-Some : goal.returns-in-Some
returns-in-Some c =
    let p = c.args.place in
    let is : tag_here (seen c.args.bytes.now p) ≡ Ok c.in-Ok.tag = subst (λ (w : Window). tag_here w ≡ Ok c.in-Ok.tag) c.cursor.ensures c.in-Ok.ensures in
    let by : content_by c.args.choice c.in-Ok.tag ≡ Some c.in-Some.content = sym c.in-Some.ensures in
    comes_as (one c.in-Ok.tag c.in-Some.content c.args.next) (choice_of c.args.choice c.args.next p.part) c.one.result p c.args.bytes.now
    (choice_goes c.args.choice c.args.next p.part (seen c.args.bytes.now p) c.in-Ok.tag c.in-Some.content is by)
    (λ more. choice_goes c.args.choice c.args.next p.part (seen (c.args.bytes.now ++ more) p) c.in-Ok.tag c.in-Some.content (tag_again c.args.bytes.now more p c.in-Ok.tag is) by)
    c.one.ensures

pub returns-in-Err-More : goal.returns-in-Err-More
returns-in-Err-More c =
    let more = subst (λ (w : Window). tag_here w ≡ Err More) c.cursor.ensures (rw c.in-Err-More.field-0-is at c.in-Err-More.ensures) in
    choice_waits c.args.choice c.args.next c.args.place.part (seen c.args.bytes.now c.args.place) more
