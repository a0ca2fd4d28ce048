use Rattle.std.proofs.Common.{◌++◌, sym, ap, ◌∙◌, append-nil}
use Rattle.std.specs.Option.{option_to_list}
use Rattle.filter_truth.proofs.Names.{no_name}
use Rattle.search_core.proofs.selection.push_key.Goals as goal

pub returns-in-Err-BadName : goal.returns-in-Err-BadName
returns-in-Err-BadName c =
    sym (append-nil c.args.keys.now)
    ∙ ap (λ o. c.args.keys.now ++ option_to_list o) (no_name c.args.name.now c.in-Err-BadName.field-0-0 ((c.attr_key.ensures.bad c.in-Err-BadName.field-0-0).0 (cc)))
