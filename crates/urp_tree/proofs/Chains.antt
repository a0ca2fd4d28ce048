-- THE CHAIN OF ANCESTORS, one link after the other.
use Rattle.std.proofs.Common.{◌≡◌, ◌≢◌, ℕ, ◌<◌, ◌≤◌, List, [], ◌∷◌, ◌++◌, reverse, length, Bool, true, false, cond, Option, Some, None, refl, sym, ap, subst, ◌∙◌, inl, inr, arith, append_assoc}
use Rattle.std.specs.Prelude.{◌⊎◌, ◌||◌, filter}
use Rattle.std.specs.BTreeMap.{BTreeMap, IsOrdered as HasOrderedKeys}
use Rattle.std.specs.Ordering.{is_lt}
use Rattle.std.specs.declared.cmp.Ordering.TheVariants.{Less, Equal, Greater}
use Rattle.std.proofs.lemmas.List.{reverse-append}
use Rattle.repl_data.specs.declared.csn.Uid.{Uid}
use Rattle.repl_data.specs.Order.{uid_cmp, uid_eq}
use Rattle.repl_data.specs.Facts.{EntryFacts}
use Rattle.repl_data.specs.Presence.{is_live, is_among_entries, HasParentBelow}
use Rattle.repl_data.proofs.Orders.{uid_total, uid_exact}
use Rattle.repl_data.proofs.InOrder.{is_equal}
use Rattle.urp_tree.specs.declared.child.Child.{Child}
use Rattle.urp_tree.specs.declared.row.Row.{Row}
use Rattle.urp_tree.specs.declared.step.Step.{Step}
use Rattle.urp_tree.specs.declared.step.Step.TheVariants.{Enter, Leave}
use Rattle.urp_tree.specs.Rows.{row_at, facts_in}
use Rattle.urp_tree.specs.Walk.{child_of, children_in}
use Rattle.urp_tree.specs.Known.{IsTree, IsLiveRoot}
use Rattle.urp_tree.specs.Climb.{count_below, IsFound, IsChain, IsWeakAt, IsStrongAt, leaves, enters}
use Rattle.urp_tree.proofs.Levels.{StandsAt, all_at}
use Rattle.urp_tree.proofs.Fits.{row_found, row_stands, row_there, row_id}
use Rattle.repl_data.proofs.Bools.{cases}

-- how many entries have a lower id
abbrev pub lower_count : Uid → List EntryFacts → ℕ
lower_count u es = length (filter (λ (e : EntryFacts). is_lt (uid_cmp e.id u)) es)

is_less : (u v : Uid) → is_lt (uid_cmp u v) ≡ true → uid_cmp u v ≡ Less
is_less u v h = by (uid_cmp u v) h
  where
    by : (o : _) → is_lt o ≡ true → o ≡ Less
    by Less e = refl
    by Equal e = let f : false ≡ true = e in cc
    by Greater e = let f : false ≡ true = e in cc

counted : (b c : Bool) (m n : ℕ) (e : EntryFacts) (es fs : List EntryFacts) → (b ≡ true → c ≡ true) → length es ≤ length fs → length (cond b (e ∷ es) es) ≤ length (cond c (e ∷ fs) fs)
counted true true m n e es fs f h = omega (arith, h)
counted true false m n e es fs f h = let x : false ≡ true = f refl in cc
counted false true m n e es fs f h = omega (arith, h)
counted false false m n e es fs f h = h

lower_le : (p u : Uid) → uid_cmp p u ≡ Less → (es : List EntryFacts) → lower_count p es ≤ lower_count u es
lower_le p u l [] = omega arith
lower_le p u l (e ∷ es) =
    counted (is_lt (uid_cmp e.id p)) (is_lt (uid_cmp e.id u)) 0 0 e _ _ (λ t. ap is_lt (uid_total.trans e.id p u (is_less e.id p t) l)) (lower_le p u l es)

more_counted : (b c : Bool) (e : EntryFacts) (es fs : List EntryFacts) → (b ≡ true → c ≡ true) → length es < length fs → length (cond b (e ∷ es) es) < length (cond c (e ∷ fs) fs)
more_counted true true e es fs f h = omega (arith, h)
more_counted true false e es fs f h = let x : false ≡ true = f refl in cc
more_counted false true e es fs f h = omega (arith, h)
more_counted false false e es fs f h = h

one_counted : (b c : Bool) (e : EntryFacts) (es fs : List EntryFacts) → b ≡ false → c ≡ true → length es ≤ length fs → length (cond b (e ∷ es) es) < length (cond c (e ∷ fs) fs)
one_counted true c e es fs f g h = let x : true ≡ false = f in cc
one_counted false true e es fs f g h = omega (arith, h)
one_counted false false e es fs f g h = let x : false ≡ true = g in cc

pub lower_lt : (p u : Uid) → uid_cmp p u ≡ Less → (es : List EntryFacts) → is_among_entries es p ≡ true → lower_count p es < lower_count u es
lower_lt p u l [] h = let x : false ≡ true = h in cc
lower_lt p u l (e ∷ es) h =
    cases (uid_eq e.id p)
    (λ t. let same : e.id ≡ p = uid_exact e.id p (is_equal _ t) in
    one_counted (is_lt (uid_cmp e.id p)) (is_lt (uid_cmp e.id u)) e _ _ (ap is_lt (is_equal (uid_cmp e.id p) t)) (ap is_lt (ap (λ v. uid_cmp v u) same ∙ l)) (lower_le p u l es))
    (λ n. more_counted (is_lt (uid_cmp e.id p)) (is_lt (uid_cmp e.id u)) e _ _ (λ t. ap is_lt (uid_total.trans e.id p u (is_less e.id p t) l)) (lower_lt p u l es (sym (ap (λ b. b || is_among_entries es p) n) ∙ h)))

module _ (n : ℕ) (rows : BTreeMap Uid (Option Row)) (tree : IsTree rows None []) (ordered : HasOrderedKeys uid_cmp rows) where
  abbrev facts : List EntryFacts
  facts = facts_in rows.entries

  weak_stands : (u : Uid) (e : EntryFacts) → IsWeakAt n rows u e → StandsAt u e facts
  weak_stands u e w = subst (λ x. StandsAt u x facts) w.entry (row_stands rows tree ordered u w.row w.there)

  pub link : (u : Uid) (e : EntryFacts) (c : Child) (rest : List Child) → IsWeakAt n rows u e → c ≡ child_of e → IsChain n facts (children_in rows) c.parent rest → IsChain n facts (children_in rows) u (c ∷ rest)
  link u e c rest w is more = (
    e,
    subst (IsFound facts u) w.entry (row_found rows tree ordered u w.row w.there),
    is,
    w.dead,
    sym (tree.indexed u w.row w.there).count ∙ w.children,
    more,
  )

  pub chain_end : (u : Uid) → IsStrongAt n rows u → is_among_entries facts u ≡ true → IsChain n facts (children_in rows) u []
  chain_end u s h =
      let r = row_there rows tree ordered u h in
      (r.0.entry, row_found rows tree ordered u r.0 r.1, by r.0 r.1 (s r.0 r.1))
    where
      by : (r : Row) → row_at rows u ≡ Some r → (is_live r.entry ≡ true) ⊎ (r.children ≢ n) → (is_live r.entry ≡ true) ⊎ (count_below u (children_in rows) ≢ n)
      by r e (inl h) = inl h
      by r e (inr h) = inr (λ k. h ((tree.indexed u r e).count ∙ k))

  pub parent_there : (u : Uid) (e : EntryFacts) (c : Child) → IsWeakAt n rows u e → c ≡ child_of e → is_among_entries facts c.parent ≡ true
  parent_there u e c w is =
      ap (λ (x : Child). is_among_entries facts x.parent) is
      ∙ all_at (λ (x : EntryFacts). is_among_entries facts x.parent ≡ true) u e facts (weak_stands u e w) tree.rooted

  pub parent_lower : (u : Uid) (e : EntryFacts) (c : Child) → IsWeakAt n rows u e → c ≡ child_of e → lower_count c.parent facts < lower_count u facts
  parent_lower u e c w is =
      let at = weak_stands u e w in
      let id : e.id ≡ u = ap (λ (x : EntryFacts). x.id) (sym w.entry) ∙ row_id rows tree ordered u w.row w.there in
      let below : HasParentBelow e = all_at HasParentBelow u e facts at tree.below in
      let root : IsLiveRoot e = all_at IsLiveRoot u e facts at tree.roots in
      let less : uid_cmp e.parent e.id ≡ Less = (elim below [ inl h ↦ (let x : true ≡ false = sym (root h) ∙ w.dead in cc) | inr h ↦ h ]) in
      lower_lt c.parent u (ap (λ (x : Child). uid_cmp x.parent u) is ∙ ap (uid_cmp e.parent) (sym id) ∙ less) facts (parent_there u e c w is)

-- STEPS of a chain
pub leaves_more : (c : Child) (cs : List Child) → leaves (c ∷ cs) ≡ Leave c ∷ leaves cs
leaves_more c cs = refl

pub enters_last : (cs : List Child) (c : Child) → enters (cs ++ c ∷ []) ≡ Enter c ∷ enters cs
enters_last [] c = refl
enters_last (d ∷ cs) c = ap (λ ss. ss ++ Enter d ∷ []) (enters_last cs c)

-- what was popped comes next
pub enter_next : (ss : List Step) (was rest : List Child) (c : Child) → was ≡ rest ++ c ∷ [] → (ss ++ Enter c ∷ []) ++ enters rest ≡ ss ++ enters was
enter_next ss was rest c h = append_assoc ss (Enter c ∷ []) (enters rest) ∙ ap (λ ts. ss ++ ts) (sym (enters_last rest c) ∙ ap enters (sym h))

pub leave_next : (ss : List Step) (was rest : List Child) (c : Child) → was ≡ rest ++ c ∷ [] → (ss ++ Leave c ∷ []) ++ leaves (reverse rest) ≡ ss ++ leaves (reverse was)
leave_next ss was rest c h =
    append_assoc ss (Leave c ∷ []) (leaves (reverse rest))
    ∙ ap (λ ts. ss ++ leaves ts) (sym (reverse-append rest (c ∷ [])) ∙ ap reverse (sym h))
