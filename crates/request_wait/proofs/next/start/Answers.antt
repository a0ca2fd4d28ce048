use Rattle.std.proofs.Common.{◌≡◌, Ok, sym}
use Rattle.ber_core.specs.Window.{Window, open_as}
use Rattle.ber_core.specs.Cursor.{window}
use Rattle.request_wait.specs.declared.part.Part.TheVariants as part
use Rattle.request_wait.specs.Place.{seen}
use Rattle.request_wait.proofs.Steps.{start_waits, start_goes}
use Rattle.request_wait.proofs.next.start.Goals as goal

pub returns-in-Ok : goal.returns-in-Ok
returns-in-Ok c =
    let o : Window × Window = (window c.in-Ok.inner, window c.in-Ok.field-0-1) in
    let h : open_as 0x30 (seen c.args.bytes.now c.args.place) ≡ Ok o = rw (sym c.cursor.ensures) c.in-Ok.ensures in
    rw c.of-inner.ensures (start_goes part.Request c.args.bytes.now c.args.place o h)

pub returns-in-Err-More : goal.returns-in-Err-More
returns-in-Err-More c =
    let more = rw (c.in-Err-More.field-0-is, c.cursor.ensures) at c.in-Err-More.ensures in
    start_waits part.Request (seen c.args.bytes.now c.args.place) more
