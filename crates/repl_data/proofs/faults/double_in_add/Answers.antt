use Rattle.std.proofs.Common.{length, sym, ◌∙◌}
use Rattle.std.specs.Prelude.{map, not}
use Rattle.repl_data.specs.declared.change.Attr.{Attr}
use Rattle.repl_data.specs.declared.change.Ava.{Ava}
use Rattle.repl_data.specs.Places.{first_of, earlier_of}
use Rattle.repl_data.specs.Check.{vals_rise, falls, part_falls, either_place}
use Rattle.repl_data.proofs.CheckLaws.{position_from-map, position_from-append, position_from-either, bounded_double, length-falls, length-tests}
use Rattle.repl_data.proofs.faults.double_in_add.Goals as goal

pub first-requires : goal.first-requires
first-requires c =
    let among_tests = c.unsorted_attr.ensures ∙ sym (position_from-map (λ (a : Attr). not (vals_rise a.vals)) 0 c.args.attrs.now) in
    let e = c.earlier-among_attrs.ensures ∙ (λ i. earlier_of (c.first_fall.ensures i) (among_tests i))
    ∙ sym (position_from-either 0 (falls (λ (a : Attr). a.attr.name) c.args.attrs.now) (map (λ (a : Attr). not (vals_rise a.vals)) c.args.attrs.now)) in
    bounded_double (falls (λ (a : Attr). a.attr.name) c.args.attrs.now) (map (λ (a : Attr). not (vals_rise a.vals)) c.args.attrs.now) c.args.attrs.now
    (length c.args.parts.now) c.earlier-among_attrs.result e (length-falls (λ (a : Attr). a.attr.name) c.args.attrs.now) (length-tests (λ (a : Attr). not (vals_rise a.vals)) c.args.attrs.now) c.requires

pub returns : goal.returns
returns c =
    let among_tests = c.unsorted_attr.ensures ∙ sym (position_from-map (λ (a : Attr). not (vals_rise a.vals)) 0 c.args.attrs.now) in
    let e = c.earlier-among_attrs.ensures ∙ (λ i. earlier_of (c.first_fall.ensures i) (among_tests i))
    ∙ sym (position_from-either 0 (falls (λ (a : Attr). a.attr.name) c.args.attrs.now) (map (λ (a : Attr). not (vals_rise a.vals)) c.args.attrs.now)) in
    let count = sym (length-falls (λ (a : Ava). a.attr.name) c.args.parts.now) in
    c.first.ensures ∙ (λ i. first_of (c.first_fall-2.ensures i) (count i) (e i))
    ∙ sym (position_from-append (λ b. b) (part_falls c.args.parts.now) (either_place (falls (λ (a : Attr). a.attr.name) c.args.attrs.now) (map (λ (a : Attr). not (vals_rise a.vals)) c.args.attrs.now)))
