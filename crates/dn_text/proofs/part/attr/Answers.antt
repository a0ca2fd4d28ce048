use Rattle.std.proofs.Common.{◌≡◌, Some, ap, arith}
use Rattle.attr_keys.specs.Name.{bad_name}
use Rattle.dn_text.specs.Reading.{attr_in, named}
use Rattle.dn_text.proofs.part.attr.Goals as goal

pub overflow_add-result : goal.overflow_add-result
overflow_add-result c =
    omega (arith, c.attr_key.ensures.within c.in-Err-BadName.place cc)

pub returns-in-Err-BadName : goal.returns-in-Err-BadName
unfolding attr_in
returns-in-Err-BadName c =
    let found : bad_name c.args.name.now ≡ Some c.in-Err-BadName.place = (c.attr_key.ensures.bad c.in-Err-BadName.place).0 (cc) in
    ap (named c.args.name.now c.args.start) found
