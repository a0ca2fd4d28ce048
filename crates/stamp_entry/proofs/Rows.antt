-- The worked cases of one entry's values, computed from the definitions, with the changes in every order.
use Rattle.std.specs.Prelude.{◌≡◌, ℕ, List, [], ◌∷◌, ◌++◌, map, flat_map, fold, codes, refl}
use Rattle.repl_data.specs.declared.csn.Csn.{Csn}
use Rattle.repl_data.specs.declared.csn.Uid.{Uid}
use Rattle.repl_data.specs.declared.change.Val.{Val}
use Rattle.repl_data.specs.declared.change.Ava.{Ava}
use Rattle.repl_data.specs.declared.change.Rdn.{Rdn}
use Rattle.repl_data.specs.declared.change.Attr.{Attr}
use Rattle.repl_data.specs.declared.change.ModKind.{ModKind}
use Rattle.repl_data.specs.declared.change.ModKind.TheVariants.{Add as AddValues, Delete, Replace}
use Rattle.repl_data.specs.declared.change.Body.TheVariants.{Add, Mod as Modify, Ren}
use Rattle.repl_data.specs.declared.change.Change.{Change}
use Rattle.repl_data.specs.declared.change.Suffix.{Suffix}
use Rattle.repl_data.specs.Order.{suffix_id}
use Rattle.repl_data.specs.Stamps.{text_val}
use Rattle.repl_data.specs.Facts.{EntryFacts, own_facts, attrs_shown}
use Rattle.stamp_entry.specs.Raised.{facts_after}

abbrev at : ℕ → ℕ → Csn
at time rid = record { time = time; seq = 0; rid = rid; sub = 0 }

abbrev one : List ℕ → List ℕ → Rdn
one t v = record { avas = record { attr = record { name = t }; val = text_val v } ∷ [] }

abbrev example : Suffix
example = record { name = codes "dc=example"; rdn = one (codes "dc") (codes "example") }

-- the entry `cn=a` with the values `a` and `b` of `cn`, and changes of it
abbrev person : Uid
person = record { csn = at 100 1 }

abbrev add_person : Change
add_person = record { csn = at 100 1; target = person; body = Add suffix_id (one (codes "cn") (codes "a")) (record { attr = record { name = codes "cn" }; vals = map text_val (codes "a" ∷ codes "b" ∷ []) } ∷ []) }

abbrev modify : Uid → Csn → ModKind → List ℕ → List (List ℕ) → Change
modify u c kind t vs = record { csn = c; target = u; body = Modify (record { kind = kind; attr = record { name = t }; vals = map text_val vs } ∷ []) }

abbrev rename : Csn → List ℕ → List Ava → Change
rename c v dropped = record { csn = c; target = person; body = Ren (one (codes "cn") v) dropped }

-- the values that show
abbrev value_lines : Attr → List (List ℕ)
value_lines a = map (λ (v : Val). a.attr.name ++ codes ": " ++ v.spelled) a.vals

abbrev lines : EntryFacts → List (List ℕ)
lines e = flat_map value_lines (attrs_shown e)

-- by all changes together, and by one change after the other on what came first
abbrev shown : Uid → List Change → List (List ℕ)
shown u cs = lines (own_facts example u cs)

abbrev shown_after : EntryFacts → List Change → List (List ℕ)
shown_after e cs = lines (fold (λ f c. facts_after c f) e cs)

abbrev orders : Change → Change → Change → List (List Change)
orders a b c = (a ∷ b ∷ c ∷ []) ∷ (a ∷ c ∷ b ∷ []) ∷ (b ∷ a ∷ c ∷ []) ∷ (b ∷ c ∷ a ∷ []) ∷ (c ∷ a ∷ b ∷ []) ∷ (c ∷ b ∷ a ∷ []) ∷ []

-- what two changes of the entry leave in every order, and one after the other on its Add
abbrev left_by : Change → Change → List (List (List ℕ))
left_by a b =
    map (shown person) (orders add_person a b)
    ++ map (shown_after (own_facts example person (add_person ∷ []))) ((a ∷ b ∷ []) ∷ (b ∷ a ∷ []) ∷ (a ∷ b ∷ a ∷ []) ∷ (b ∷ a ∷ b ∷ []) ∷ [])

abbrev everywhere : List (List ℕ) → List (List (List ℕ))
everywhere ls = ls ∷ ls ∷ ls ∷ ls ∷ ls ∷ ls ∷ ls ∷ ls ∷ ls ∷ ls ∷ []

-- two replaces: the values of the greater stamp alone
two_replaces : left_by (modify person (at 101 1) Replace (codes "description") (codes "x" ∷ [])) (modify person (at 101 2) Replace (codes "description") (codes "y" ∷ [])) ≡ everywhere (codes "cn: a" ∷ codes "cn: b" ∷ codes "description: y" ∷ [])
two_replaces = refl

-- a rename that keeps the old value, and a delete of the value that became the name
rename_and_delete : left_by (rename (at 101 1) (codes "b") []) (modify person (at 101 2) Delete (codes "cn") (codes "b" ∷ [])) ≡ everywhere (codes "cn: a" ∷ codes "cn: b" ∷ [])
rename_and_delete = refl

-- a rename that drops the old value and brings one of its own
rename_brings_its_value : left_by (rename (at 101 1) (codes "c") (one (codes "cn") (codes "a")).avas) (modify person (at 101 2) AddValues (codes "sn") (codes "x" ∷ [])) ≡ everywhere (codes "cn: b" ∷ codes "cn: c" ∷ codes "sn: x" ∷ [])
rename_brings_its_value = refl

-- a value that is added later, by stamp, than it is deleted
late_lower_stamp : left_by (modify person (at 102 1) AddValues (codes "sn") (codes "x" ∷ [])) (modify person (at 101 1) Delete (codes "sn") (codes "x" ∷ [])) ≡ everywhere (codes "cn: a" ∷ codes "cn: b" ∷ codes "sn: x" ∷ [])
late_lower_stamp = refl

-- a delete of a whole attribute takes a value of a lower stamp that it may not have seen
delete_of_a_value_not_seen : left_by (modify person (at 102 1) Delete (codes "sn") []) (modify person (at 101 1) AddValues (codes "sn") (codes "x" ∷ [])) ≡ everywhere (codes "cn: a" ∷ codes "cn: b" ∷ [])
delete_of_a_value_not_seen = refl

-- a replace keeps no old value, but for one in the name
replace_keeps_no_old_value : left_by (modify person (at 101 1) Replace (codes "cn") (codes "c" ∷ [])) (modify person (at 101 2) AddValues (codes "sn") (codes "x" ∷ [])) ≡ everywhere (codes "cn: a" ∷ codes "cn: c" ∷ codes "sn: x" ∷ [])
replace_keeps_no_old_value = refl

-- a single-valued type shows the value of the greater stamp
single_valued : left_by (modify person (at 101 2) AddValues (codes "displayname") (codes "m" ∷ [])) (modify person (at 101 1) AddValues (codes "displayname") (codes "n" ∷ [])) ≡ everywhere (codes "cn: a" ∷ codes "cn: b" ∷ codes "displayname: m" ∷ [])
single_valued = refl

-- the suffix entry, of itself and with changes in both orders
suffix_alone : shown suffix_id [] ≡ codes "dc: example" ∷ codes "objectclass: domain" ∷ codes "objectclass: top" ∷ []
suffix_alone = refl

suffix_changed :
    map (shown_after (own_facts example suffix_id []))
    (orders (modify suffix_id (at 101 1) AddValues (codes "description") (codes "x" ∷ [])) (modify suffix_id (at 101 2) Delete (codes "objectclass") (codes "domain" ∷ [])) (modify suffix_id (at 102 1) Delete (codes "dc") []))
    ≡ (let ls : List (List ℕ) = codes "dc: example" ∷ codes "description: x" ∷ codes "objectclass: top" ∷ [] in ls ∷ ls ∷ ls ∷ ls ∷ ls ∷ ls ∷ [])
suffix_changed = refl
