-- THREE VALUES, and how they are joined (RFC 4511, section 4.5.1.7).
use Rattle.std.specs.Prelude.{Bool, true, false, List, [], ◌∷◌}
use Rattle.filter_truth.specs.declared.three.Truth.{Truth}
use Rattle.filter_truth.specs.declared.three.Truth.TheVariants.{Yes, No, Undefined}

abbrev pub of_bool : Bool → Truth
of_bool true = Yes
of_bool false = No

-- what is not known stays so
abbrev pub negated : Truth → Truth
negated Yes = No
negated No = Yes
negated Undefined = Undefined

-- both: one No decides, and then one that is not known
abbrev pub both : Truth → Truth → Truth
both Yes b = b
both No b = No
both Undefined No = No
both Undefined _ = Undefined

-- one of the two: one Yes decides, and then one that is not known
abbrev pub either : Truth → Truth → Truth
either Yes b = Yes
either No b = b
either Undefined Yes = Yes
either Undefined _ = Undefined

-- all of them: Yes where there is none (RFC 4526)
abbrev pub all_of : List Truth → Truth
all_of [] = Yes
all_of (t ∷ ts) = both t (all_of ts)

-- one of them: No where there is none
abbrev pub any_of : List Truth → Truth
any_of [] = No
any_of (t ∷ ts) = either t (any_of ts)

abbrev pub is_yes : Truth → Bool
is_yes Yes = true
is_yes No = false
is_yes Undefined = false
