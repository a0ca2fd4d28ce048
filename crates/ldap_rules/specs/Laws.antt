-- The change that a verdict makes at a CSN, and the entries that a view has.
use Rattle.std.specs.Prelude.{◌≡◌, ◌<◌, Bool, true, ◌||◌, is_some, List, Option, Some, None}
use Rattle.std.specs.List.{AllByRecursion}
use Rattle.repl_data.specs.declared.csn.Csn.{Csn}
use Rattle.repl_data.specs.declared.csn.Uid.{Uid}
use Rattle.repl_data.specs.declared.change.Body.{Body}
use Rattle.repl_data.specs.declared.change.Body.TheVariants.{Mod as ModifyEntry}
use Rattle.repl_data.specs.declared.change.Change.{Change}
use Rattle.repl_data.specs.Order.{uid_eq, csn_lt, suffix_id}
use Rattle.repl_data.specs.Closed.{needed}
use Rattle.repl_data.specs.View.{DirectoryView, present_at}
use Rattle.attr_keys.specs.Table.{key_of}
use Rattle.ldap_types.specs.declared.request.RawMod.{RawMod}
use Rattle.rule_values.specs.Written.{is_modified}

-- an add makes an entry whose id is the CSN
abbrev pub target_at : Csn → Option Uid → Uid
target_at c None = record { csn = c }
target_at c (Some u) = u

abbrev pub change_at : Csn → Option Uid → Body → Change
change_at c target body = record { csn = c; target = target_at c target; body = body }

-- the entry that the change needs: the parent of an add, and the target of any other
abbrev pub needed_at : Csn → Option Uid → Body → Uid
needed_at c target body = needed (target_at c target) body

-- a supplier's CSN of a change, above the entry that the change needs
pub record IsDrawnAbove (c : Csn) (needed_id : Uid) : Type 0 where
  pub rid : 0 < c.rid
  pub least : c.rid < 65535
  pub sub : c.sub ≡ 0
  pub later : csn_lt needed_id.csn c ≡ true

-- the suffix entry, or an entry that the view has
abbrev pub has_entry : DirectoryView → Uid → Bool
has_entry v u = uid_eq u suffix_id || is_some (present_at v u)

-- the body has a modification of each attribute that these modifications name
abbrev pub ModifiesEach : List RawMod → Body → Type 0
ModifiesEach given (ModifyEntry mods) = AllByRecursion (λ (m : RawMod). is_modified (record { name = key_of m.name }) mods ≡ true) given
ModifiesEach given _ = ⊥
