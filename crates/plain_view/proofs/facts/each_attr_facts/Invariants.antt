use Rattle.std.proofs.Common.{◌≡◌, map, take}
use Rattle.repl_data.specs.Facts.{attr_facts}
use Rattle.plain_view.specs.Seen.{act_of}
use Rattle.plain_view.proofs.facts.each_attr_facts.Given as goal

abbrev pub invariant-loop-attr : goal.invariant-loop-attr
invariant-loop-attr l = l.facts ≡ map (attr_facts (map act_of l.acts)) (take l.attr-index l.attrs)
