-- Names that can't be read, and filters that are made ready.
use Rattle.std.proofs.Common.{◌≡◌, ℕ, List, Option, Some, None, cond, sym, ap, ◌∙◌}
use Rattle.std.specs.Prelude.{is_none, Result, Ok, Err, IfOk}
use Rattle.repl_data.specs.declared.items.NoMemory.{NoMemory}
use Rattle.ldap_types.specs.declared.request.Filter.{Filter}
use Rattle.attr_keys.specs.Name.{bad_name}
use Rattle.attr_keys.specs.Table.{key_of}
use Rattle.filter_truth.specs.declared.three.Truth.{Truth}
use Rattle.filter_truth.specs.declared.prepared.Prepared.{Prepared}
use Rattle.filter_truth.specs.Truth.{Shows, attr_of, truth_by}
use Rattle.filter_truth.specs.Prepared.{ready_by, StandsFor}

pub no_name : (name : List ℕ) (place : ℕ) → bad_name name ≡ Some place → None ≡ attr_of name
no_name name place h = sym (ap (λ (o : Option ℕ). cond (is_none o) (Some (key_of name)) None) h)

-- what has the truth of a filter stands for it
pub stands_from : (f g : Filter) (truth : Shows → Truth) (r : Result Prepared NoMemory) → f ≡ g → ((shown : Shows) → truth_by shown g ≡ truth shown)
    → IfOk r (λ p. (shown : Shows) → ready_by shown p ≡ truth shown) → IfOk r (λ p. StandsFor p f)
stands_from f g truth (Ok p) e t h = λ shown. h shown ∙ sym (ap (truth_by shown) e ∙ t shown)
stands_from f g truth (Err x) e t h = tt
