use Rattle.std.proofs.Common.{◌≡◌, ◌++◌, ◌∷◌, map, ap, sym, ◌∙◌, append_assoc, rules}
use Rattle.std.specs.Prelude.{flat_map, codes}
use Rattle.repl_data.specs.declared.change.Ava.{Ava}
use Rattle.repl_data.specs.Text.{ava_text, joined}
use Rattle.shown_entry.proofs.Texts.{joined_first}
use Rattle.shown_entry.proofs.text.put_rdn.Goals as goal

pub returns-in_ok-put_more_avas-in-Some : goal.returns-in_ok-put_more_avas-in-Some
returns-in_ok-put_more_avas-in-Some c =
    let split : c.args.rdn.now.avas ≡ c.in-Some.first.now ∷ c.in-Some.more.now = search rules in
    c.in_ok-put_more_avas-in-Some.ensures
    ∙ (λ i. c.in_ok-put_ava-in-Some.ensures i ++ flat_map (λ (a : Ava). codes "+" ++ ava_text a) c.in-Some.more.now)
    ∙ append_assoc c.args.out.now (ava_text c.in-Some.first.now) (flat_map (λ (a : Ava). codes "+" ++ ava_text a) c.in-Some.more.now)
    ∙ ap (λ r. c.args.out.now ++ r) (sym (joined_first (codes "+") ava_text c.in-Some.first.now c.in-Some.more.now) ∙ ap (λ ys. joined (codes "+") (map ava_text ys)) (sym split))
