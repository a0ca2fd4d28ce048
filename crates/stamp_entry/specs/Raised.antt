-- ONE CHANGE MORE: what it makes of what is known of its entry. Each stamp rises, and none falls.
use Rattle.std.specs.Prelude.{ℕ, Bool, true, false, List, [], map, find, fold, unwrap_or, if◌then◌else◌}
use Rattle.repl_data.specs.declared.csn.Csn.{Csn}
use Rattle.repl_data.specs.declared.csn.Uid.{Uid}
use Rattle.repl_data.specs.declared.change.AttrKey.{AttrKey}
use Rattle.repl_data.specs.declared.change.Rdn.{Rdn}
use Rattle.repl_data.specs.declared.change.Body.{Body}
use Rattle.repl_data.specs.declared.change.Body.TheVariants.{Add, Ren, Del}
use Rattle.repl_data.specs.declared.change.Change.{Change}
use Rattle.repl_data.specs.Order.{zero_csn, csn_max, later, bytes_cmp, bytes_eq, put_by}
use Rattle.repl_data.specs.Stamps.{Act, Adds, Deletes, Clears, body_acts}
use Rattle.repl_data.specs.Facts.{ValFacts, AttrFacts, EntryFacts, attr_of}
use Rattle.stamp_entry.specs.Ordered.{val_key, attr_name}

-- a value after an act on its attribute
abbrev pub raised_val : Act → ValFacts → ValFacts
raised_val (Adds s t v) f =
    let added = (if bytes_eq f.key v.key then later (f.up, f.spelled) (s, v.spelled) else (f.up, f.spelled)) in
    record { key = f.key; spelled = added.1; up = added.0; down = f.down }
raised_val (Deletes s t v) f = record { key = f.key; spelled = f.spelled; up = f.up; down = if bytes_eq f.key v.key then csn_max f.down s else f.down }
raised_val (Clears s t) f = record { key = f.key; spelled = f.spelled; up = f.up; down = csn_max f.down s }

-- the value at a key. One that was not named yet was deleted where its whole attribute was
abbrev pub val_at : List ℕ → AttrFacts → ValFacts
val_at key a = unwrap_or (find (λ (f : ValFacts). bytes_eq key f.key) a.vals) (record { key = key; spelled = []; up = zero_csn; down = a.whole })

-- an attribute after an act on it
abbrev pub raised_attr : Act → AttrFacts → AttrFacts
raised_attr (Adds s t v) a = record { attr = a.attr; whole = a.whole; vals = put_by val_key bytes_cmp (raised_val (Adds s t v) (val_at v.key a)) a.vals }
raised_attr (Deletes s t v) a = record { attr = a.attr; whole = a.whole; vals = put_by val_key bytes_cmp (raised_val (Deletes s t v) (val_at v.key a)) a.vals }
raised_attr (Clears s t) a = record { attr = a.attr; whole = csn_max a.whole s; vals = map (raised_val (Clears s t)) a.vals }

-- the attribute of a name. Of one that was not named yet nothing is known
abbrev pub attr_at : AttrKey → List AttrFacts → AttrFacts
attr_at t attrs = unwrap_or (find (λ (a : AttrFacts). bytes_eq t.name a.attr.name) attrs) (record { attr = t; whole = zero_csn; vals = [] })

-- attributes after an act, and after acts one after the other
abbrev pub raised : Act → List AttrFacts → List AttrFacts
raised act attrs = put_by attr_name bytes_cmp (raised_attr act (attr_at (attr_of act) attrs)) attrs

abbrev pub raised_by : List AttrFacts → List Act → List AttrFacts
raised_by = fold (λ attrs a. raised a attrs)

-- name, parent and death after a change
abbrev pub named_after : Csn → Body → Csn × Rdn → Csn × Rdn
named_after c (Add parent rdn attrs) name = later name (c, rdn)
named_after c (Ren rdn dropped) name = later name (c, rdn)
named_after c _ name = name

abbrev pub parent_after : Body → Uid → Uid
parent_after (Add parent rdn attrs) old = parent
parent_after _ old = old

abbrev pub dead_after : Csn → Body → Csn → Csn
dead_after c Del dead = csn_max dead c
dead_after c _ dead = dead

-- an entry after one of its changes
abbrev pub facts_after : Change → EntryFacts → EntryFacts
facts_after c e =
    let name = named_after c.csn c.body (e.named, e.rdn) in
    record {
      id = e.id;
      parent = parent_after c.body e.parent;
      named = name.0;
      dead = dead_after c.csn c.body e.dead;
      rdn = name.1;
      attrs = raised_by e.attrs (body_acts c.csn c.body);
    }

-- whether a change is an Add
abbrev pub is_add : Body → Bool
is_add (Add parent rdn attrs) = true
is_add _ = false
