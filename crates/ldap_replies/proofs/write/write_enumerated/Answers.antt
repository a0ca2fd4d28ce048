use Rattle.std.proofs.Common.{◌≡◌, ◌++◌, ap, ◌∙◌, arith, to_z, w64}
use Rattle.std.specs.Prelude.{ℤ, pos}
use Rattle.std.proofs.lemmas.Int.{ints}
use Rattle.ber_core.specs.Element.{element}
use Rattle.ber_core.specs.Number.{shortest_integer}
use Rattle.ldap_replies.proofs.Written.{retagged, some_appended}
use Rattle.ldap_replies.proofs.write.write_enumerated.Goals as goal

pub set-requires : goal.set-requires
set-requires c = rw (c.len-at.ensures, c.in_ok-write_int.ensures.ok) (some_appended c.args.out.now 2 (shortest_integer (to_z w64 c.args.value)))

pub returns : goal.returns
returns c =
    let same : to_z w64 c.args.value ≡ pos c.args.value = omega (arith, ints, c.ranges.value.fits) in
    c.set.ensures ∙ rw (c.len-at.ensures, c.in_ok-write_int.ensures.ok) (retagged c.args.out.now 2 10 (shortest_integer (to_z w64 c.args.value)) ∙ ap (λ (z : ℤ). c.args.out.now ++ element 10 (shortest_integer z)) same)
