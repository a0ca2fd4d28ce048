use Rattle.std.proofs.Common.{◌≡◌, take}
use Rattle.std.specs.List.{flat_map}
use Rattle.ldap_replies.specs.Form.{octet_string}
use Rattle.ldap_replies.proofs.write.octet_strings.Given as goal

abbrev pub invariant-loop-text : goal.invariant-loop-text
invariant-loop-text l = l.out ≡ flat_map octet_string (take l.text-index l.text-items)
