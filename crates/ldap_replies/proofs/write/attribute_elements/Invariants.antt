use Rattle.std.proofs.Common.{◌≡◌, take}
use Rattle.std.specs.List.{flat_map}
use Rattle.ldap_replies.specs.Form.{partial_attribute}
use Rattle.ldap_replies.proofs.write.attribute_elements.Given as goal

abbrev pub invariant-loop-attr : goal.invariant-loop-attr
invariant-loop-attr l = l.out ≡ flat_map partial_attribute (take l.attr-index l.attr-items)
