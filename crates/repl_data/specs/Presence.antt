-- PRESENCE
use Rattle.std.specs.Prelude.{◌≡◌, ◌⊎◌, Bool, true, not, ◌&&◌, ◌||◌, List, [], ◌∷◌, filter, if◌then◌else◌}
use Rattle.std.specs.List.{list_any}
use Rattle.repl_data.specs.declared.csn.Uid.{Uid}
use Rattle.std.specs.declared.cmp.Ordering.TheVariants.{Less}
use Rattle.repl_data.specs.Order.{csn_eq, uid_cmp, uid_eq, zero_csn, suffix_id}
use Rattle.repl_data.specs.Facts.{EntryFacts}

-- it was added and has no Del
abbrev pub is_live : EntryFacts → Bool
is_live e = csn_eq e.dead zero_csn

-- the suffix entry is no child, though its parent is written as zero
abbrev pub is_child : Uid → EntryFacts → Bool
is_child parent e = uid_eq e.parent parent && not (uid_eq e.id suffix_id)

-- an entry is present if it is live or has a present child. The entries stand in rising order of id and a
-- parent's id is below its child's, so the children of each entry stand behind it
abbrev pub present_of : List EntryFacts → List EntryFacts
present_of [] = []
present_of (e ∷ above) =
    let rest = present_of above in
    if is_live e || list_any (is_child e.id) rest then e ∷ rest else rest

abbrev pub is_among_entries : List EntryFacts → Uid → Bool
is_among_entries es u = list_any (λ (e : EntryFacts). uid_eq e.id u) es

-- added and not present
abbrev pub gone_of : List EntryFacts → List EntryFacts
gone_of es = let present = present_of es in filter (λ (e : EntryFacts). not (is_among_entries present e.id)) es

-- an entry is the suffix entry, or its parent's id is below its own
abbrev pub HasParentBelow : EntryFacts → Type 0
HasParentBelow e = (uid_eq e.id suffix_id ≡ true) ⊎ (uid_cmp e.parent e.id ≡ Less)

-- the rule of presence, for a choice p among the entries: it has the live ones and those with a chosen child
abbrev pub ObeysRule : (EntryFacts → Bool) → List EntryFacts → EntryFacts → Type 0
ObeysRule p es e = p e ≡ (is_live e || list_any (λ f. is_child e.id f && p f) es)

-- whether an entry is present
abbrev pub is_present_in : List EntryFacts → EntryFacts → Bool
is_present_in es e = is_among_entries (present_of es) e.id

-- an entry stands in a list
abbrev pub StandsIn : EntryFacts → List EntryFacts → Type 0
StandsIn e [] = ⊥
StandsIn e (f ∷ fs) = (e ≡ f) ⊎ StandsIn e fs
