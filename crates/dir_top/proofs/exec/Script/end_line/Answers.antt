use Rattle.std.proofs.Common.{◌≡◌, ◌≤◌, ◌+◌, List, ℕ, length, ap, sym, subst, ◌∙◌, arith}
use Rattle.dir_top.specs.Running.{content_at}
use Rattle.dir_top.specs.Output.{before_feed, content_of}
use Rattle.dir_top.specs.Script.{line_limit, length_limit}
use Rattle.dir_top.proofs.Runs.{within_limits, stands_on, wrote_front}
use Rattle.dir_top.proofs.exec.Script.end_line.Goals as goal

pub returns-clause-run : goal.returns-clause-run
returns-clause-run g c = λ whole raw after old same text stands.
    let means = rw c.in-GoesOn.is at c.in-Ok.ensures in
    let within : c.args.self.now.lines + 1 ≤ line_limit = omega arith in
    let short : length (before_feed raw) ≤ length_limit = subst (λ (l : List ℕ). length l ≤ length_limit) (sym same) c.requires.length in
    let content : content_of raw ≡ c.content-content.result.now = text ∙ ap (content_at c.args.is_ended) (sym c.as_slice.ensures) ∙ sym c.content-content.ensures in
    stands_on whole raw after c.args.self.now old _ c.carry_text.new.world c.in-GoesOn.printed _ c.clear.new.self stands
    (within_limits c.args.self.now.world (c.args.self.now.lines + 1) raw c.content-content.result.now _ within short content means)
    (rw c.as_slice-2.ensures at c.in-Ok-put.ensures.ok)

pub returns-in_default-put-clause-run : goal.returns-in_default-put-clause-run
returns-in_default-put-clause-run g c = λ whole raw after old same text stands.
    let means = rw c.in-GoesOn.is at c.in-Ok.ensures in
    let within : c.args.self.now.lines + 1 ≤ line_limit = omega arith in
    let short : length (before_feed raw) ≤ length_limit = subst (λ (l : List ℕ). length l ≤ length_limit) (sym same) c.requires.length in
    let content : content_of raw ≡ c.content-content.result.now = text ∙ ap (content_at c.args.is_ended) (sym c.as_slice.ensures) ∙ sym c.content-content.ensures in
    wrote_front whole raw after c.args.self.now old _ c.carry_text.new.world c.in-GoesOn.printed _ stands
    (within_limits c.args.self.now.world (c.args.self.now.lines + 1) raw c.content-content.result.now _ within short content means)
    (rw c.as_slice-2.ensures at c.in_default-put.ensures.err)
