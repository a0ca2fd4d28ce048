-- What is within a base: by an entry's parent, by the base's children, and within the suffix entry.
use Rattle.std.proofs.Common.{◌≡◌, List, [], ◌∷◌, map, refl, sym, ap, subst, ◌∙◌, inl, inr}
use Rattle.std.specs.Prelude.{Bool, true, false, not, ◌&&◌, ◌||◌}
use Rattle.std.specs.List.{list_any}
use Rattle.repl_data.specs.declared.csn.Uid.{Uid}
use Rattle.repl_data.specs.Order.{uid_eq, suffix_id}
use Rattle.repl_data.specs.View.{DirectoryView, PresentEntry, is_shown_below}
use Rattle.repl_data.proofs.Known.{own_id, same_id}
use Rattle.repl_data.proofs.Bools.{either_first, either_second, either_true, cases, never}
use Rattle.view_walk.specs.Tree.{IsAmong, HasParentThere, is_present, IsNamedTree}
use Rattle.view_walk.specs.Walk.{ancestors_of, is_within}
use Rattle.view_walk.proofs.Members.{one_of}
use Rattle.view_walk.proofs.Lineage.{HasEntry, find_entry, lineage, lineage_suffix, lineage_step, climb}

-- strictly below the base
abbrev pub is_under : DirectoryView → Uid → Uid → Bool
is_under v base u = list_any (λ (a : Uid). uid_eq a base) (ancestors_of v u)

module _ (v : DirectoryView) (t : IsNamedTree v) where
  -- an entry is below a base exactly if its parent is within it
  pub under_step : (base : Uid) (e : PresentEntry) → IsAmong e v.present → uid_eq e.id suffix_id ≡ false → is_under v base e.id ≡ is_within v base e.parent
  under_step base e m r = ap (λ (ls : List PresentEntry). list_any (λ (a : Uid). uid_eq a base) (map (λ (e : PresentEntry). e.parent) ls)) (lineage_step v t e m r)

  pub under_none : (base u : Uid) → lineage v t u ≡ [] → is_under v base u ≡ false
  under_none base u h = ap (λ (ls : List PresentEntry). list_any (λ (a : Uid). uid_eq a base) (map (λ (e : PresentEntry). e.parent) ls)) h

  pub within_suffix : (base : Uid) → is_within v base suffix_id ≡ uid_eq suffix_id base
  within_suffix base = ap (λ b. uid_eq suffix_id base || b) (under_none base suffix_id (lineage_suffix v t)) ∙ alone (uid_eq suffix_id base)
    where
      alone : (b : Bool) → (b || false) ≡ b
      alone true = refl
      alone false = refl

  pub within_step : (base : Uid) (e : PresentEntry) → IsAmong e v.present → uid_eq e.id suffix_id ≡ false → is_within v base e.id ≡ (uid_eq e.id base || is_within v base e.parent)
  within_step base e m r = ap (λ b. uid_eq e.id base || b) (under_step base e m r)

  pub within_own : (u : Uid) → is_within v u u ≡ true
  within_own u = either_first (uid_eq u u) (is_under v u u) (own_id u)

  -- a child of the base
  pub record IsChild (base : Uid) (c : PresentEntry) : Type 0 where
    pub among : IsAmong c v.present
    pub below : is_shown_below base c ≡ true

  both : (a b : Bool) → (a && not b) ≡ true → (a ≡ true) × (b ≡ false)
  both true true h = let e : false ≡ true = h in cc
  both true false h = (refl, refl)
  both false b h = let e : false ≡ true = h in cc

  pub child_facts : (base : Uid) (c : PresentEntry) → IsChild base c → (c.parent ≡ base) × (uid_eq c.id suffix_id ≡ false)
  child_facts base c k = let h = both (uid_eq c.parent base) (uid_eq c.id suffix_id) k.below in (same_id c.parent base h.0, h.1)

  pub child_under : (base : Uid) (c : PresentEntry) → IsChild base c → is_under v base c.id ≡ true
  child_under base c k =
      let h = child_facts base c k in
      under_step base c k.among h.1 ∙ either_first (uid_eq c.parent base) (is_under v base c.parent) (subst (λ (w : Uid). uid_eq w base ≡ true) (sym h.0) (own_id base))

  -- WITHIN A CHILD IS BELOW THE BASE
  pub of_child : (base : Uid) (c : PresentEntry) → IsChild base c → (u : Uid) → is_within v c.id u ≡ true → is_under v base u ≡ true
  of_child base c k =
      climb v t (λ (u : Uid). is_within v c.id u ≡ true → is_under v base u ≡ true)
      (λ u none h. either_true (uid_eq u c.id) (is_under v c.id u) h (here u) (λ g. never _ g (under_none c.id u none)))
      (λ e m r again h. either_true (uid_eq e.id c.id) (is_under v c.id e.id) h (here e.id)
      (λ g. under_step base e m r ∙ either_second (uid_eq e.parent base) (is_under v base e.parent) (again (sym (under_step c.id e m r) ∙ g))))
    where
      here : (u : Uid) → uid_eq u c.id ≡ true → is_under v base u ≡ true
      here u g = subst (λ (w : Uid). is_under v base w ≡ true) (sym (same_id u c.id g)) (child_under base c k)

  -- WHAT IS BELOW THE BASE IS WITHIN ONE OF ITS CHILDREN
  pub record HasWay (base u : Uid) : Type 0 where
    pub child : PresentEntry
    pub is_child : IsChild base child
    pub within : is_within v child.id u ≡ true

  pub some_child : (base u : Uid) → is_under v base u ≡ true → HasWay base u
  some_child base =
      climb v t (λ (u : Uid). is_under v base u ≡ true → HasWay base u)
      (λ u none h. never _ h (under_none base u none))
      (λ e m r again h. either_true (uid_eq e.parent base) (is_under v base e.parent) (sym (under_step base e m r) ∙ h)
      (λ g. record { child = e; is_child = record { among = m; below = (λ i. g i && not (r i)) }; within = within_own e.id })
      (λ g. (let w = again g in record { child = w.child; is_child = w.is_child; within = within_step w.child.id e m r ∙ either_second (uid_eq e.id w.child.id) (is_within v w.child.id e.parent) w.within })))

  -- ALL ARE WITHIN THE SUFFIX ENTRY
  pub all_within : (u : Uid) → is_present v u ≡ true → is_within v suffix_id u ≡ true
  all_within =
      climb v t (λ (u : Uid). is_present v u ≡ true → is_within v suffix_id u ≡ true)
      (λ u none h. (let f = find_entry v.present u h in first u none f))
      (λ e m r again h. within_step suffix_id e m r ∙ either_second (uid_eq e.id suffix_id) (is_within v suffix_id e.parent) (again (parent_there e m r (one_of (HasParentThere v) e v.present m t.there))))
    where
      parent_there : (e : PresentEntry) → IsAmong e v.present → uid_eq e.id suffix_id ≡ false → HasParentThere v e → is_present v e.parent ≡ true
      parent_there e m r (inl root) = never _ root r
      parent_there e m r (inr p) = p

      first : (u : Uid) → lineage v t u ≡ [] → HasEntry v.present u → is_within v suffix_id u ≡ true
      first u none f =
          cases (uid_eq u suffix_id)
          (λ r. either_first (uid_eq u suffix_id) (is_under v suffix_id u) r)
          (λ r. (let step : lineage v t f.entry.id ≡ f.entry ∷ lineage v t f.entry.parent = lineage_step v t f.entry f.among (subst (λ (w : Uid). uid_eq w suffix_id ≡ false) (sym f.own) r) in
          let nothing : lineage v t f.entry.id ≡ [] = subst (λ (w : Uid). lineage v t w ≡ []) (sym f.own) none in
          cc))
