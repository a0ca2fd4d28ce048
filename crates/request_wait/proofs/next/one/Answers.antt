use Rattle.std.proofs.Common.{◌≡◌, Ok, sym}
use Rattle.ber_core.specs.Window.{Window, open_as}
use Rattle.ber_core.specs.Cursor.{window}
use Rattle.request_wait.specs.Place.{seen}
use Rattle.request_wait.proofs.Steps.{one_waits, leaf_waits, one_enters, leaf_goes}
use Rattle.request_wait.proofs.next.one.Goals as goal

pub returns-in-Err-More : goal.returns-in-Err-More
returns-in-Err-More c =
    let more = rw c.in-Err-More.field-0-is at c.in-Err-More.ensures in
    rw (sym c.cursor.ensures) (one_waits c.args.tag c.args.content c.args.next (window c.cursor.result) more)

pub returns-in-Inner : goal.returns-in-Inner
returns-in-Inner c =
    let o : Window × Window = (window c.in-Ok.found.0, window c.in-Ok.found.1) in
    let h : open_as c.args.tag (seen c.args.bytes.now c.args.place) ≡ Ok o = rw (sym c.cursor.ensures) c.in-Ok.ensures in
    rw (c.in-Inner.is, c.of-inner.ensures, c.of-rest.ensures) (one_enters c.args.tag c.in-Inner.part c.args.next c.args.bytes.now c.args.place o h)

pub returns-in-Ok-read_leaf : goal.returns-in-Ok-read_leaf
returns-in-Ok-read_leaf c =
    let o : Window × Window = (window c.in-Ok.found.0, window c.in-Ok.found.1) in
    let h : open_as c.args.tag (seen c.args.bytes.now c.args.place) ≡ Ok o = rw (sym c.cursor.ensures) c.in-Ok.ensures in
    rw (c.in-Leaf.is, c.of-rest.ensures) (leaf_goes c.args.tag c.in-Leaf.leaf c.args.next c.args.bytes.now c.args.place o h c.in-Ok-read_leaf.ensures)

pub returns-in-Err-More-read_leaf : goal.returns-in-Err-More-read_leaf
returns-in-Err-More-read_leaf c =
    let o : Window × Window = (window c.in-Ok.found.0, window c.in-Ok.found.1) in
    let h : open_as c.args.tag (seen c.args.bytes.now c.args.place) ≡ Ok o = rw (sym c.cursor.ensures) c.in-Ok.ensures in
    let more = rw c.in-Err-More-read_leaf.field-0-is at c.in-Err-More-read_leaf.ensures in
    rw c.in-Leaf.is (leaf_waits c.args.tag c.in-Leaf.leaf c.args.next (seen c.args.bytes.now c.args.place) o h more)
