use Rattle.std.proofs.Common.{map, ap, ◌∙◌}
use Rattle.repl_data.specs.Presence.{present_of, gone_of}
use Rattle.plain_view.specs.Seen.{present_entry, tombstone}
use Rattle.plain_view.proofs.view.PlainView.of.Goals as goal

pub returns : goal.returns
unfolding present_entry tombstone
returns c =
    let present = c.as_slice-4.ensures ∙ c.in_ok-present.ensures ∙ ap present_of (c.as_slice.ensures ∙ c.in_ok-facts.ensures) in
    let gone = c.as_slice-5.ensures ∙ c.in_ok-gone.ensures ∙ ap gone_of (c.as_slice-2.ensures ∙ c.in_ok-facts.ensures) in
    let shown = c.in_ok-present_entries.ensures ∙ (λ i. map (present_entry (present i)) (present i)) in
    let buried = c.in_ok-tombstones.ensures ∙ ap (map tombstone) gone in
    record { view = λ i. record { suffix = c.in_ok-copied.ensures i; present = shown i; gone = buried i } }
