use Rattle.std.proofs.Common.{sym, ◌∙◌}
use Rattle.repl_data.specs.Order.{part_cmp, part_key}
use Rattle.repl_data.proofs.Loops.{slice_cmp_map}
use Rattle.urp_tree.proofs.named.compare_parts.Goals as goal

pub returns : goal.returns
returns c = c.cmp.ensures ∙ sym (slice_cmp_map part_key part_cmp c.args.a.now c.args.b.now)
