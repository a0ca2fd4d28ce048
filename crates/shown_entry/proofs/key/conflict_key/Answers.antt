use Rattle.std.proofs.Common.{◌≡◌, ℕ, List, IfOk, refl, subst, ◌∙◌}
use Rattle.shown_entry.proofs.Keys.{key_of_text, key_of_bytes}
use Rattle.shown_entry.proofs.key.conflict_key.Goals as goal

pub returns-in-Ok : goal.returns-in-Ok
returns-in-Ok c = c.in-Ok.ensures.key ∙ key_of_text c.args.bytes.now c.in_ok-attr.attr c.in_ok-attr.ensures (c.in-Ok.ensures.ok refl)

pub returns-in-Err-BadValue : goal.returns-in-Err-BadValue
returns-in-Err-BadValue c =
    subst (λ (k : List ℕ). IfOk c.from_slice.result (λ key. key ≡ k))
    (key_of_bytes c.args.bytes.now c.in_ok-attr.attr c.in-Err-BadValue.field-0-0 c.in-Err-BadValue.field-0 c.in-Err-BadValue.field-0-is c.requires c.in_ok-attr.ensures c.in-Err-BadValue.ensures.err)
    c.from_slice.ensures
