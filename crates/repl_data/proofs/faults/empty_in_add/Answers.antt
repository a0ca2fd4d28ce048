use Rattle.std.proofs.Common.{sym, ◌∙◌, arith}
use Rattle.repl_data.specs.declared.change.Attr.{Attr}
use Rattle.std.specs.Prelude.{map}
use Rattle.repl_data.specs.Places.{first_of}
use Rattle.repl_data.specs.Check.{is_empty, parts_of}
use Rattle.repl_data.proofs.CheckLaws.{position_from-map, position_from-append, first_of-parts, bounded}
use Rattle.repl_data.proofs.faults.empty_in_add.Goals as goal

pub first-requires : goal.first-requires
first-requires c = bounded (λ (a : Attr). is_empty a.vals) c.args.attrs.now c.len.result c.empty_attr.result c.empty_attr.ensures (omega arith)

pub returns : goal.returns
returns c =
    let attrs = c.empty_attr.ensures ∙ sym (position_from-map (λ (a : Attr). is_empty a.vals) 0 c.args.attrs.now) in
    c.first.ensures ∙ (λ i. first_of (c.no_part.ensures i) (c.len.ensures i) (attrs i))
    ∙ first_of-parts c.args.rdn.now _
    ∙ sym (position_from-append (λ b. b) (parts_of c.args.rdn.now) (map (λ (a : Attr). is_empty a.vals) c.args.attrs.now))
