use Rattle.std.proofs.Common.{length, sym, ◌∙◌}
use Rattle.std.specs.Prelude.{map}
use Rattle.repl_data.specs.Types.{is_derived_ava}
use Rattle.repl_data.specs.Places.{first_of}
use Rattle.repl_data.proofs.CheckLaws.{position_from-map, position_from-append, bounded, length-tests}
use Rattle.repl_data.proofs.faults.derived_in_ren.Goals as goal

pub first-requires : goal.first-requires
first-requires c = bounded (is_derived_ava) c.args.dropped.now (length c.args.parts.now) c.derived_part-among_dropped.result c.derived_part-among_dropped.ensures c.requires

pub returns : goal.returns
returns c =
    let parts = c.derived_part.ensures ∙ sym (position_from-map is_derived_ava 0 c.args.parts.now) in
    let others = c.derived_part-among_dropped.ensures ∙ sym (position_from-map (is_derived_ava) 0 c.args.dropped.now) in
    let count = sym (length-tests is_derived_ava c.args.parts.now) in
    c.first.ensures ∙ (λ i. first_of (parts i) (count i) (others i))
    ∙ sym (position_from-append (λ b. b) (map is_derived_ava c.args.parts.now) (map (is_derived_ava) c.args.dropped.now))
