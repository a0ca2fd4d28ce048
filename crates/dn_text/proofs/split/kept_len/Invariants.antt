use Rattle.std.proofs.Common.{◌≡◌, ◌≤◌, drop}
use Rattle.dn_text.specs.Split.{kept_from, kept_len}
use Rattle.dn_text.proofs.split.kept_len.Given as goal

abbrev pub invariant-loop-at : goal.invariant-loop-at
invariant-loop-at l = record {
  kept : kept_len l.text ≡ kept_from l.escaped l.at l.kept (drop l.at l.text);
  within : l.kept ≤ l.at;
}
