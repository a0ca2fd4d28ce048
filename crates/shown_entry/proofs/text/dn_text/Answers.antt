use Rattle.std.proofs.Common.{List, ◌++◌, ap, sym, ◌∙◌}
use Rattle.std.specs.Prelude.{flat_map, codes}
use Rattle.std.proofs.lemmas.List.{take_all}
use Rattle.repl_data.specs.declared.change.Rdn.{Rdn}
use Rattle.repl_data.specs.Text.{rdn_text}
use Rattle.shown_entry.proofs.Texts.{joined_last}
use Rattle.shown_entry.proofs.text.dn_text.Goals as goal

pub returns : goal.returns
returns c =
    c.in_ok-extend_from_slice.ensures.ok ∙ (λ i. c.loop-rdn.invariant i ++ c.args.suffix.now)
    ∙ ap (λ (rs : List Rdn). flat_map (λ (r : Rdn). rdn_text r ++ codes ",") rs ++ c.args.suffix.now) (take_all c.loop-rdn.rdn-index c.args.rdns.now c.loop-rdn-test.false)
    ∙ sym (joined_last (codes ",") rdn_text c.args.rdns.now c.args.suffix.now)
