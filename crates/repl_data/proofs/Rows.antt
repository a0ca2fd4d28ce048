-- The worked cases of the rules, computed from the definitions.
use Rattle.std.specs.Prelude.{◌≡◌, ℕ, List, [], ◌∷◌, ◌++◌, map, flat_map, codes, refl, true, false, length, reverse, Some, ◌+◌, ◌*◌, option_to_list}
use Rattle.repl_data.specs.declared.csn.Csn.{Csn}
use Rattle.repl_data.specs.declared.csn.Uid.{Uid}
use Rattle.repl_data.specs.declared.change.Val.{Val}
use Rattle.repl_data.specs.declared.change.Ava.{Ava}
use Rattle.repl_data.specs.declared.change.Rdn.{Rdn}
use Rattle.repl_data.specs.declared.change.Attr.{Attr}
use Rattle.repl_data.specs.declared.change.Mod.{Mod}
use Rattle.repl_data.specs.declared.change.ModKind.{ModKind}
use Rattle.repl_data.specs.declared.change.ModKind.TheVariants.{Add as AddValues, Delete, Replace}
use Rattle.repl_data.specs.declared.change.Body.TheVariants.{Add, Mod as Modify, Ren, Del}
use Rattle.repl_data.specs.declared.change.Change.{Change}
use Rattle.repl_data.specs.declared.change.Suffix.{Suffix}
use Rattle.repl_data.specs.declared.change.Shown.{Shown}
use Rattle.repl_data.specs.declared.change.ShownEntry.{ShownEntry}
use Rattle.repl_data.specs.Order.{suffix_id}
use Rattle.repl_data.specs.Stamps.{text_val}
use Rattle.repl_data.specs.declared.change.Malformed.TheVariants.{Rid, Root, DoubleKey, Empty, NameValue}
use Rattle.repl_data.specs.Text.{csn_text, uid_text, rdn_text}
use Rattle.hex.specs.Hex.{encode_with}
use Rattle.repl_data.specs.Types.{is_derived_attribute, is_derived_value}
use Rattle.repl_data.specs.Names.{with_id}
use Rattle.repl_data.specs.Check.{fault_of, weight}
use Rattle.repl_data.specs.Closed.{IsClosed, IsArrival}
use Rattle.repl_data.specs.Plain.{plain_effect}
use Rattle.repl_data.specs.View.{PresentEntry, view_of, dump_of, tombstones_of, tombstone_of, glue_count, conflict_count, vals_at}

abbrev pub at : ℕ → ℕ → ℕ → Csn
at t s r = record { time = t; seq = s; rid = r; sub = 0 }

abbrev pub entry : Csn → Uid
entry c = record { csn = c }

abbrev pub one : List ℕ → List ℕ → Rdn
one t v = record { avas = record { attr = record { name = t }; val = text_val v } ∷ [] }

abbrev pub vals : List ℕ → List (List ℕ) → Attr
vals t vs = record { attr = record { name = t }; vals = map text_val vs }

abbrev pub add : Csn → Uid → Rdn → List Attr → Change
add c parent rdn attrs = record { csn = c; target = entry c; body = Add parent rdn attrs }

abbrev pub del : Csn → Uid → Change
del c u = record { csn = c; target = u; body = Del }

abbrev pub example : Suffix
example = record { name = codes "dc=example"; rdn = one (codes "dc") (codes "example") }

-- an add of `ou=a` below the suffix, and of `cn=b` below an entry
abbrev pub add_a : Csn → Change
add_a c = add c suffix_id (one (codes "ou") (codes "a")) (vals (codes "objectclass") (codes "top" ∷ []) ∷ vals (codes "ou") (codes "a" ∷ []) ∷ [])

abbrev pub add_b : Csn → Uid → Change
add_b c parent = add c parent (one (codes "cn") (codes "b")) (vals (codes "cn") (codes "b" ∷ []) ∷ vals (codes "objectclass") (codes "top" ∷ []) ∷ [])

-- a view as lines of text
abbrev pub value_lines : Shown → List (List ℕ)
value_lines s = map (λ (v : Val). codes " " ++ s.attr.name ++ codes ": " ++ v.spelled) s.vals

abbrev pub lines : ShownEntry → List (List ℕ)
lines e = (codes "dn: " ++ e.dn) ∷ flat_map value_lines e.attrs

abbrev pub dump : List Change → List (List ℕ)
dump changes = flat_map lines (dump_of (view_of example changes))

abbrev pub suffix_lines : List (List ℕ)
suffix_lines =
    codes "dn: dc=example" ∷ codes " dc: example" ∷ codes " nsuniqueid: 00000000-00000000-00000000-00000000"
    ∷ codes " objectclass: domain" ∷ codes " objectclass: top" ∷ []

-- nothing was ever added
pub only_suffix : dump [] ≡ suffix_lines
unfolding encode_with
only_suffix = refl

-- one name twice: the earlier name has it
abbrev pub twice : List Change
twice = add_a (at 100 0 1) ∷ add_a (at 100 0 2) ∷ []

pub one_name_twice : dump twice ≡ suffix_lines ++ (
    codes "dn: nsuniqueid=00000064-00000002-00000000-00000000+ou=a,dc=example"
    ∷ codes " nsds5replconflict: namingConflict ou=a,dc=example"
    ∷ codes " nsuniqueid: 00000064-00000002-00000000-00000000"
    ∷ codes " objectclass: top"
    ∷ codes " ou: a"
    ∷ codes "dn: ou=a,dc=example"
    ∷ codes " nsuniqueid: 00000064-00000001-00000000-00000000"
    ∷ codes " objectclass: top"
    ∷ codes " ou: a"
    ∷ [])
unfolding encode_with
one_name_twice = refl

-- the same set in another order
pub twice_turned : view_of example (reverse twice) ≡ view_of example twice
unfolding encode_with
twice_turned = refl

-- then the entry that has the name is deleted: the other one gets it
abbrev pub promoted : List Change
promoted = twice ++ del (at 100 1 1) (entry (at 100 0 1)) ∷ []

pub name_passes_on : dump promoted ≡ suffix_lines ++ (
    codes "dn: ou=a,dc=example"
    ∷ codes " nsuniqueid: 00000064-00000002-00000000-00000000"
    ∷ codes " objectclass: top"
    ∷ codes " ou: a"
    ∷ [])
unfolding encode_with
name_passes_on = refl

-- glue: a parent was deleted and a child added below it
abbrev pub glued : List Change
glued = add_a (at 100 0 1) ∷ del (at 101 0 1) (entry (at 100 0 1)) ∷ add_b (at 101 0 2) (entry (at 100 0 1)) ∷ []

pub glue_shows : dump glued ≡ suffix_lines ++ (
    codes "dn: ou=a,dc=example"
    ∷ codes " nsds5replconflict: deletedEntryHasChildren"
    ∷ codes " nsuniqueid: 00000064-00000001-00000000-00000000"
    ∷ codes " objectclass: glue"
    ∷ codes " objectclass: top"
    ∷ codes " ou: a"
    ∷ codes "dn: cn=b,ou=a,dc=example"
    ∷ codes " cn: b"
    ∷ codes " nsuniqueid: 00000065-00000002-00000000-00000000"
    ∷ codes " objectclass: top"
    ∷ [])
unfolding encode_with
glue_shows = refl

pub glue_turned : view_of example (reverse glued) ≡ view_of example glued
unfolding encode_with
glue_turned = refl

-- then the child is deleted too: both are tombstones
abbrev pub glue_ended : List Change
glue_ended = glued ++ del (at 101 1 1) (entry (at 101 0 2)) ∷ []

pub glue_ends : dump glue_ended ≡ suffix_lines
unfolding encode_with
glue_ends = refl

pub two_tombstones : tombstones_of (view_of example glue_ended) ≡ entry (at 100 0 1) ∷ entry (at 101 0 2) ∷ []
unfolding encode_with
two_tombstones = refl

-- glue loses its name to a live entry
abbrev pub glue_and_live : List Change
glue_and_live =
    add_a (at 100 0 1) ∷ del (at 101 0 1) (entry (at 100 0 1)) ∷ add_a (at 102 0 1)
    ∷ add_b (at 101 0 2) (entry (at 100 0 1)) ∷ []

pub live_before_glue : dump glue_and_live ≡ suffix_lines ++ (
    codes "dn: nsuniqueid=00000064-00000001-00000000-00000000+ou=a,dc=example"
    ∷ codes " nsds5replconflict: deletedEntryHasChildren"
    ∷ codes " nsds5replconflict: namingConflict ou=a,dc=example"
    ∷ codes " nsuniqueid: 00000064-00000001-00000000-00000000"
    ∷ codes " objectclass: glue"
    ∷ codes " objectclass: top"
    ∷ codes " ou: a"
    ∷ codes "dn: cn=b,nsuniqueid=00000064-00000001-00000000-00000000+ou=a,dc=example"
    ∷ codes " cn: b"
    ∷ codes " nsuniqueid: 00000065-00000002-00000000-00000000"
    ∷ codes " objectclass: top"
    ∷ codes "dn: ou=a,dc=example"
    ∷ codes " nsuniqueid: 00000066-00000001-00000000-00000000"
    ∷ codes " objectclass: top"
    ∷ codes " ou: a"
    ∷ [])
unfolding encode_with
live_before_glue = refl

-- two replaces: the greater CSN
abbrev pub describe : Csn → List ℕ → Change
describe c text = record { csn = c; target = entry (at 100 0 1); body = Modify (record { kind = Replace; attr = record { name = codes "description" }; vals = text_val text ∷ [] } ∷ []) }

abbrev pub two_replaces : List Change
two_replaces = add_a (at 100 0 1) ∷ describe (at 101 0 2) (codes "y") ∷ describe (at 101 0 1) (codes "x") ∷ []

pub greater_stamp_shows : dump two_replaces ≡ suffix_lines ++ (
    codes "dn: ou=a,dc=example"
    ∷ codes " description: y"
    ∷ codes " nsuniqueid: 00000064-00000001-00000000-00000000"
    ∷ codes " objectclass: top"
    ∷ codes " ou: a"
    ∷ [])
unfolding encode_with
greater_stamp_shows = refl

-- a rename that keeps the old value, and a delete of the value that became the name
abbrev pub rename_and_delete : List Change
rename_and_delete =
    add (at 100 0 1) suffix_id (one (codes "cn") (codes "a")) (vals (codes "cn") (codes "a" ∷ codes "b" ∷ []) ∷ vals (codes "objectclass") (codes "top" ∷ []) ∷ [])
    ∷ record { csn = at 101 0 1; target = entry (at 100 0 1); body = Ren (one (codes "cn") (codes "b")) [] }
    ∷ record { csn = at 101 0 2; target = entry (at 100 0 1); body = Modify (record { kind = Delete; attr = record { name = codes "cn" }; vals = text_val (codes "b") ∷ [] } ∷ []) }
    ∷ []

pub name_is_held : dump rename_and_delete ≡ suffix_lines ++ (
    codes "dn: cn=b,dc=example"
    ∷ codes " cn: a"
    ∷ codes " cn: b"
    ∷ codes " nsuniqueid: 00000064-00000001-00000000-00000000"
    ∷ codes " objectclass: top"
    ∷ [])
unfolding encode_with
name_is_held = refl

-- texts of CSNs and ids
pub csn_prints : csn_text (at 100 1 1) ≡ codes "00000064000100010000"
unfolding encode_with
csn_prints = refl

pub uid_prints : uid_text (entry (at 100 1 1)) ≡ codes "00000064-00010001-00000000-00000000"
unfolding encode_with
uid_prints = refl

-- the first fault
pub root_fault : fault_of (del (at 1 0 1) suffix_id) ≡ Some Root
unfolding encode_with
root_fault = refl

pub rid_before_root : fault_of (del (at 1 0 0) suffix_id) ≡ Some Rid
unfolding encode_with
rid_before_root = refl

pub second_part_falls : fault_of (record (add_a (at 100 0 1)) { body = Ren (record { avas = record { attr = record { name = codes "ou" }; val = text_val (codes "a") } ∷ record { attr = record { name = codes "cn" }; val = text_val (codes "b") } ∷ [] }) []; target = entry (at 99 0 1) }) ≡ Some (DoubleKey 1)
unfolding is_derived_attribute is_derived_value
second_part_falls = refl

pub empty_attribute : fault_of (add (at 100 0 1) suffix_id (one (codes "ou") (codes "a")) (vals (codes "cn") [] ∷ vals (codes "ou") (codes "a" ∷ []) ∷ [])) ≡ Some (Empty 1)
unfolding is_derived_attribute is_derived_value
empty_attribute = refl

pub no_name_value : fault_of (add (at 100 0 1) suffix_id (one (codes "ou") (codes "a")) (vals (codes "ou") (codes "b" ∷ []) ∷ [])) ≡ Some NameValue
unfolding is_derived_attribute is_derived_value
no_name_value = refl

pub weight_of_a : weight (add_a (at 100 0 1)).body ≡ 512 + 32 + 4 * 3 + (32 + 11 + 32 + 3) + (32 + 2 + 32 + 1)
unfolding encode_with
weight_of_a = refl

-- these sets are closed, and stand in an order of arrival
pub glued_closed : IsClosed glue_and_live
unfolding is_derived_attribute is_derived_value
glued_closed = record { once = refl; sound = refl; rooted = refl }

pub glued_arrives : IsArrival glue_and_live
unfolding is_derived_attribute is_derived_value
glued_arrives = record { once = refl; sound = refl; rooted = refl }

-- the plain effect of the newest change
pub plain_add_shows :
    Some (view_of example (glued ++ add_b (at 103 0 1) suffix_id ∷ []))
    ≡ plain_effect (view_of example glued) (add_b (at 103 0 1) suffix_id)
unfolding encode_with
plain_add_shows = refl

abbrev pub some_mods : List Mod
some_mods =
    record { kind = AddValues; attr = record { name = codes "sn" }; vals = text_val (codes "x") ∷ text_val (codes "z") ∷ [] }
    ∷ record { kind = Replace; attr = record { name = codes "description" }; vals = text_val (codes "w") ∷ [] }
    ∷ record { kind = Delete; attr = record { name = codes "sn" }; vals = text_val (codes "x") ∷ [] }
    ∷ record { kind = Delete; attr = record { name = codes "description" }; vals = [] }
    ∷ []

pub plain_modify_shows :
    Some (view_of example (two_replaces ++ record { csn = at 103 0 1; target = entry (at 100 0 1); body = Modify some_mods } ∷ []))
    ≡ plain_effect (view_of example two_replaces) (record { csn = at 103 0 1; target = entry (at 100 0 1); body = Modify some_mods })
unfolding encode_with
plain_modify_shows = refl

-- a single-valued type shows one value: the greatest `up`, and one in the name before it
abbrev pub add_name : Csn → List ℕ → Change
add_name c text = record { csn = c; target = entry (at 100 0 1); body = Modify (record { kind = AddValues; attr = record { name = codes "displayname" }; vals = text_val text ∷ [] } ∷ []) }

pub single_shows : dump (add_a (at 100 0 1) ∷ add_name (at 101 0 2) (codes "m") ∷ add_name (at 101 0 1) (codes "n") ∷ []) ≡ suffix_lines ++ (
    codes "dn: ou=a,dc=example"
    ∷ codes " displayname: m"
    ∷ codes " nsuniqueid: 00000064-00000001-00000000-00000000"
    ∷ codes " objectclass: top"
    ∷ codes " ou: a"
    ∷ [])
unfolding encode_with
single_shows = refl

-- a tombstone
pub tombstone_lines : map lines (option_to_list (tombstone_of (view_of example glue_ended) (entry (at 101 0 2)))) ≡ (
    codes "dn: nsuniqueid=00000065-00000002-00000000-00000000,dc=example"
    ∷ codes " cn: b"
    ∷ codes " nsparentuniqueid: 00000064-00000001-00000000-00000000"
    ∷ codes " nsuniqueid: 00000065-00000002-00000000-00000000"
    ∷ codes " objectclass: nsTombstone"
    ∷ codes " objectclass: top"
    ∷ []) ∷ []
unfolding encode_with
tombstone_lines = refl

-- escapes in a printed name
pub escapes : rdn_text (one (codes "cn") (codes " #a,b ")) ≡ codes "cn=\\ #a\\,b\\ "
unfolding encode_with
escapes = refl

-- what is counted after the child of glue is deleted, and while glue has lost its name
pub counted : (length (view_of example glue_ended).present ≡ 1) × (length (view_of example glue_ended).gone ≡ 2)
unfolding encode_with
counted = (refl, refl)

pub counted_conflict : (glue_count (view_of example glue_and_live) ≡ 1) × (conflict_count (view_of example glue_and_live) ≡ 1)
unfolding encode_with
counted_conflict = (refl, refl)

-- a chain of glue: a deleted parent of a deleted parent of a live entry
abbrev pub chain : List Change
chain =
    add_a (at 100 0 1) ∷ add_b (at 101 0 1) (entry (at 100 0 1)) ∷ add_b (at 102 0 1) (entry (at 101 0 1))
    ∷ del (at 103 0 1) (entry (at 101 0 1)) ∷ del (at 103 0 2) (entry (at 100 0 1)) ∷ []

pub chain_is_glue : map (λ (e : PresentEntry). e.is_glue) (view_of example chain).present ≡ false ∷ true ∷ true ∷ false ∷ []
unfolding encode_with
chain_is_glue = refl

pub chain_ends : tombstones_of (view_of example (chain ++ del (at 104 0 1) (entry (at 102 0 1)) ∷ [])) ≡ entry (at 100 0 1) ∷ entry (at 101 0 1) ∷ entry (at 102 0 1) ∷ []
unfolding encode_with
chain_ends = refl

-- the suffix entry keeps its name from a child of the same RDN, and takes modifications
pub suffix_keeps_name : map lines (dump_of (view_of example (
    add (at 100 0 1) suffix_id (one (codes "dc") (codes "example")) (vals (codes "dc") (codes "example" ∷ []) ∷ [])
    ∷ record { csn = at 101 0 1; target = suffix_id; body = Modify (record { kind = Delete; attr = record { name = codes "objectclass" }; vals = text_val (codes "domain") ∷ [] } ∷ []) } ∷ [])))
    ≡ (codes "dn: dc=example" ∷ codes " dc: example" ∷ codes " nsuniqueid: 00000000-00000000-00000000-00000000" ∷ codes " objectclass: top" ∷ [])
    ∷ (codes "dn: dc=example,dc=example" ∷ codes " dc: example" ∷ codes " nsuniqueid: 00000064-00000001-00000000-00000000" ∷ []) ∷ []
unfolding encode_with
suffix_keeps_name = refl

-- a value that was deleted before it was added, by stamp, is held; and one deleted after is not, in any order of arrival
abbrev pub modify_sn : Csn → ModKind → Change
modify_sn c kind = record { csn = c; target = entry (at 100 0 1); body = Modify (record { kind = kind; attr = record { name = codes "sn" }; vals = text_val (codes "x") ∷ [] } ∷ []) }

abbrev pub has_values : List ℕ → List Change → List (List ℕ)
has_values t changes = flat_map (λ (e : PresentEntry). map (λ (v : Val). v.spelled) (vals_at t e.attrs)) (view_of example changes).present

abbrev pub has_sn : List Change → List (List ℕ)
has_sn changes = flat_map (λ (e : PresentEntry). map (λ (v : Val). v.spelled) (vals_at (codes "sn") e.attrs)) (view_of example changes).present

pub delete_then_add : has_sn (add_a (at 100 0 1) ∷ modify_sn (at 102 0 1) AddValues ∷ modify_sn (at 101 0 1) Delete ∷ []) ≡ codes "x" ∷ []
unfolding encode_with
delete_then_add = refl

pub add_then_delete : has_sn (add_a (at 100 0 1) ∷ modify_sn (at 102 0 1) Delete ∷ modify_sn (at 101 0 1) AddValues ∷ []) ≡ []
unfolding encode_with
add_then_delete = refl

-- within one change the later modification decides
pub one_change : has_sn (add_a (at 100 0 1) ∷ record { csn = at 101 0 1; target = entry (at 100 0 1); body = Modify (record { kind = Delete; attr = record { name = codes "sn" }; vals = [] } ∷ record { kind = AddValues; attr = record { name = codes "sn" }; vals = text_val (codes "x") ∷ [] } ∷ []) } ∷ []) ≡ codes "x" ∷ []
unfolding encode_with
one_change = refl

-- a rename: the old value is dropped, and the name is the one of the greatest CSN
abbrev pub rename : Csn → List ℕ → List Ava → Change
rename c v dropped = record { csn = c; target = entry (at 100 0 1); body = Ren (one (codes "ou") v) dropped }

pub two_renames : dump (add_a (at 100 0 1) ∷ rename (at 102 0 1) (codes "c") (one (codes "ou") (codes "a")).avas ∷ rename (at 101 0 2) (codes "b") (one (codes "ou") (codes "a")).avas ∷ []) ≡ suffix_lines ++ (
    codes "dn: ou=c,dc=example"
    ∷ codes " nsuniqueid: 00000064-00000001-00000000-00000000"
    ∷ codes " objectclass: top"
    ∷ codes " ou: b"
    ∷ codes " ou: c"
    ∷ [])
unfolding encode_with
two_renames = refl

-- a name with a part before `nsuniqueid` shows its id in order of attribute
pub conflict_in_order : rdn_text (with_id (entry (at 100 0 1)) (one (codes "cn") (codes "b"))) ≡ codes "cn=b+nsuniqueid=00000064-00000001-00000000-00000000"
unfolding encode_with
conflict_in_order = refl

-- the plain effect where a value of the name goes and comes again with another spelling, and where it is among the replacing values
abbrev pub modify : List Mod → Change
modify mods = record { csn = at 103 0 1; target = entry (at 100 0 1); body = Modify mods }

abbrev pub change_values : ModKind → List ℕ → List Val → Mod
change_values kind t vs = record { kind = kind; attr = record { name = t }; vals = vs }

abbrev pub plain_is_view : List Change → List Mod → Type 0
plain_is_view changes mods = Some (view_of example (changes ++ modify mods ∷ [])) ≡ plain_effect (view_of example changes) (modify mods)

pub respelled : plain_is_view (add_a (at 100 0 1) ∷ [])
    (change_values Delete (codes "ou") (text_val (codes "a") ∷ []) ∷ change_values AddValues (codes "ou") (record { key = codes "a"; spelled = codes "A" } ∷ []) ∷ [])
unfolding encode_with
respelled = refl

pub replaced_with_name : plain_is_view (add_a (at 100 0 1) ∷ [])
    (change_values Replace (codes "ou") (text_val (codes "a") ∷ text_val (codes "z") ∷ []) ∷ change_values Replace (codes "sn") [] ∷ [])
unfolding encode_with
replaced_with_name = refl

-- of a single-valued type with two held values a replace leaves one
pub single_replaced : plain_is_view (add_a (at 100 0 1) ∷ add_name (at 101 0 2) (codes "m") ∷ add_name (at 101 0 1) (codes "n") ∷ [])
    (change_values Replace (codes "displayname") (text_val (codes "n") ∷ []) ∷ [])
unfolding encode_with
single_replaced = refl

pub single_removed : plain_is_view (add_a (at 100 0 1) ∷ add_name (at 101 0 2) (codes "m") ∷ add_name (at 101 0 1) (codes "n") ∷ [])
    (change_values Replace (codes "displayname") [] ∷ [])
unfolding encode_with
single_removed = refl

-- a delete of the shown one alone would bring the hidden one up, so a body has a replace there
pub single_deleted : has_values (codes "displayname") (add_a (at 100 0 1) ∷ add_name (at 101 0 2) (codes "m") ∷ add_name (at 101 0 1) (codes "n") ∷ modify (change_values Delete (codes "displayname") (text_val (codes "m") ∷ []) ∷ []) ∷ []) ≡ codes "n" ∷ []
unfolding encode_with
single_deleted = refl
