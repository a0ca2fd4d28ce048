-- The suffix that a text names: its printed name, and its first RDN. The empty name is none.
use Rattle.std.specs.Prelude.{ℕ, List, [], ◌∷◌, Result, Ok}
use Rattle.repl_data.specs.declared.change.Rdn.{Rdn}
use Rattle.repl_data.specs.declared.change.Suffix.{Suffix}
use Rattle.dn_text.specs.declared.fault.DnFault.{DnFault}
use Rattle.dn_text.specs.declared.fault.DnWhy.TheVariants.{Empty}
use Rattle.dn_text.specs.Fault.{◌>>=◌, bad}
use Rattle.dn_text.specs.Reading.{dn_in}
use Rattle.dn_text.specs.Print.{rdns_text}

abbrev pub suffix_of : List Rdn → Result Suffix DnFault
suffix_of [] = bad 0 Empty
suffix_of (r ∷ rs) = Ok (record { name = rdns_text (r ∷ rs); rdn = r })

unfoldable pub suffix_in : List ℕ → Result Suffix DnFault
suffix_in text = dn_in text >>= λ dn. suffix_of dn.rdns
