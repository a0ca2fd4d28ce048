use Rattle.std.proofs.Common.{◌≡◌, List, ℕ, chars, encode_utf8_all, ap, ◌∙◌}
use Rattle.std.proofs.lemmas.Result.{IfOk-weaker}
use Rattle.std.proofs.lemmas.Str.{encodes_same, encodes-chars}
use Rattle.caseless.specs.Caseless.{default_case_fold}
use Rattle.unicode_normalization.specs.Forms.{nfkc}
use Rattle.attr_keys.proofs.text.folded_string.Goals as goal

pub returns : goal.returns
returns c =
    let bytes = c.as_str.result.now in
    let same : chars bytes ≡ default_case_fold (chars c.args.text.now) = encodes_same _ _ (encodes-chars bytes c.as_str.utf8 ∙ c.as_str.ensures.value ∙ c.in_ok-folded.ensures) in
    IfOk-weaker c.to_nfkc.result _ _ (λ t e. e ∙ ap (λ (cs : List ℕ). encode_utf8_all (nfkc cs)) same) c.to_nfkc.ensures
