-- NAMES OF ENTRIES: a sound change gives none with a part for the id, and none to the suffix entry.
use Rattle.std.proofs.Common.{◌≡◌, [], ◌∷◌, ◌++◌, refl, sym, ap, subst, ◌∙◌}
use Rattle.std.specs.Prelude.{Bool, true, false, cond, ◌||◌, map, Option, None}
use Rattle.std.specs.List.{list_any}
use Rattle.std.specs.BTreeMap.{BTreeMap, IsOrdered as HasOrderedKeys}
use Rattle.repl_data.specs.declared.csn.Csn.{Csn}
use Rattle.repl_data.specs.declared.csn.Uid.{Uid}
use Rattle.repl_data.specs.declared.change.Attr.{Attr}
use Rattle.repl_data.specs.declared.change.Rdn.{Rdn}
use Rattle.repl_data.specs.declared.change.Body.{Body}
use Rattle.repl_data.specs.declared.change.Body.TheVariants.{Add, Mod as Modify, Ren, Del}
use Rattle.repl_data.specs.declared.change.Change.{Change}
use Rattle.repl_data.specs.declared.change.Suffix.{Suffix}
use Rattle.repl_data.specs.Order.{csn_lt, uid_cmp, uid_eq, suffix_id}
use Rattle.repl_data.specs.Types.{is_derived_ava}
use Rattle.repl_data.specs.Check.{derived_places, names_derived}
use Rattle.repl_data.specs.Closed.{is_sound, needed}
use Rattle.repl_data.specs.Facts.{EntryFacts, own_facts}
use Rattle.repl_data.specs.Presence.{is_among_entries}
use Rattle.repl_data.specs.Text.{IsInRange}
use Rattle.repl_data.specs.Names.{has_id}
use Rattle.stamp_entry.specs.Raised.{facts_after, is_add, named_after, parent_after}
use Rattle.urp_tree.specs.declared.row.Row.{Row}
use Rattle.urp_tree.specs.Rows.{facts_in}
use Rattle.urp_tree.specs.Known.{entry_after, IsTree, IsPlain}
use Rattle.urp_tree.specs.Climb.{is_modify}
use Rattle.urp_tree.proofs.Levels.{all_at}
use Rattle.urp_tree.proofs.Fits.{no_suffix, fact_new, row_stands, row_id, target_row, next_row_of, not_root}
use Rattle.repl_data.proofs.Bools.{cases, never}
use Rattle.repl_data.proofs.NamesClosed.{no_id, sound_names}

-- A NAME OF A SOUND CHANGE
plain_after : (c : Csn) (b : Body) (named : Csn) (rdn : Rdn) → list_any (λ b. b) (derived_places b) ≡ false → has_id rdn ≡ false → has_id (named_after c b (named, rdn)).1 ≡ false
plain_after c (Add parent rdn attrs) n old h o = by (csn_lt n c)
  where
    by : (b : Bool) → has_id (cond {A = Csn × Rdn} b (c, rdn) (n, old)).1 ≡ false
    by true = no_id rdn.avas (map (λ (a : Attr). names_derived a.attr a.vals) attrs) h
    by false = o
plain_after c (Modify mods) n old h o = o
plain_after c (Ren rdn dropped) n old h o = by (csn_lt n c)
  where
    by : (b : Bool) → has_id (cond {A = Csn × Rdn} b (c, rdn) (n, old)).1 ≡ false
    by true = no_id rdn.avas (map is_derived_ava dropped) h
    by false = o
plain_after c Del n old h o = o

named_kept : (c : Csn) (b : Body) (name : Csn × Rdn) → is_modify b ≡ true → named_after c b name ≡ name
named_kept c (Add parent rdn attrs) name h = let e : false ≡ true = h in cc
named_kept c (Modify mods) name h = refl
named_kept c (Ren rdn dropped) name h = let e : false ≡ true = h in cc
named_kept c Del name h = let e : false ≡ true = h in cc

parent_kept : (b : Body) (p : Uid) → is_modify b ≡ true → parent_after b p ≡ p
parent_kept (Add parent rdn attrs) p h = let e : false ≡ true = h in cc
parent_kept (Modify mods) p h = refl
parent_kept (Ren rdn dropped) p h = let e : false ≡ true = h in cc
parent_kept Del p h = let e : false ≡ true = h in cc

-- one change more
next_plain : (c : Change) (d : EntryFacts) → is_sound c ≡ true → (uid_eq d.id suffix_id ≡ true → is_modify c.body ≡ true) → IsPlain d → IsPlain (facts_after c d)
next_plain c d sound only plain = record {
  root = λ t. (ap (λ (n : Csn × Rdn). n.0) (named_kept c.csn c.body (d.named, d.rdn) (only t)) ∙ (plain.root t).0, parent_kept c.body d.parent (only t) ∙ (plain.root t).1);
  child = λ f. plain_after c.csn c.body d.named d.rdn (sound_names c sound) (plain.child f);
  range = plain.range;
}

module _ (rows : BTreeMap Uid (Option Row)) (tree : IsTree rows None []) (ordered : HasOrderedKeys uid_cmp rows) (c : Change) (sound : is_sound c ≡ true)
    (known : is_among_entries (facts_in rows.entries) (needed c.target c.body) ≡ true) (new : is_add c.body ≡ true → is_among_entries (facts_in rows.entries) c.target ≡ false)
    (e : EntryFacts) (is : (suffix : Suffix) → e ≡ entry_after suffix c (facts_in rows.entries)) (range : IsInRange e.id.csn) where
  abbrev unknown : EntryFacts
  unknown = own_facts no_suffix c.target []

  added : is_add c.body ≡ true → e ≡ facts_after c unknown
  added t = is no_suffix ∙ ap (facts_after c) (fact_new rows tree ordered no_suffix c.target (new t))

  only_modify : uid_eq c.target suffix_id ≡ true → is_modify c.body ≡ true
  only_modify t = cases (is_modify c.body) (λ m. m) (λ f. never (uid_eq c.target suffix_id) t (not_root c sound f))

  pub own_plain : IsPlain e
  own_plain =
      cases (is_add c.body)
      (λ t. subst IsPlain (sym (added t)) (next_plain c unknown sound only_modify (record { root = λ r. (refl, refl); child = λ f. refl; range = subst (λ (x : EntryFacts). IsInRange x.id.csn) (added t) range })))
      (λ f. let r = target_row rows tree ordered c sound known new f in
      subst IsPlain (sym (is no_suffix ∙ next_row_of rows tree ordered c sound known new no_suffix r.0 r.1))
      (next_plain c r.0.entry sound (λ t. only_modify (ap (λ (u : Uid). uid_eq u suffix_id) (sym (row_id rows tree ordered c.target r.0 r.1)) ∙ t))
      (all_at IsPlain c.target r.0.entry (facts_in rows.entries) (row_stands rows tree ordered c.target r.0 r.1) tree.plain)))
