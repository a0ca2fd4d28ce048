-- The keys of an entry's path go on from those of each base that it is within.
use Rattle.std.proofs.Common.{◌≡◌, ℕ, List, [], ◌∷◌, ◌++◌, map, sym, ap, ◌∙◌, append_assoc, append-nil}
use Rattle.std.specs.Prelude.{true, false, reverse}
use Rattle.std.proofs.lemmas.Grind.{reverse_onto}
use Rattle.repl_data.specs.declared.csn.Uid.{Uid}
use Rattle.repl_data.specs.declared.change.Rdn.{Rdn}
use Rattle.repl_data.specs.Order.{uid_eq, suffix_id, rdn_key}
use Rattle.repl_data.specs.View.{DirectoryView, PresentEntry, path_of}
use Rattle.repl_data.proofs.Known.{same_id}
use Rattle.repl_data.proofs.Bools.{either_true, never}
use Rattle.view_walk.specs.Tree.{IsAmong, IsNamedTree}
use Rattle.view_walk.specs.Walk.{is_within}
use Rattle.view_walk.proofs.Lineage.{path_lineage, lineage_step, climb}
use Rattle.view_walk.proofs.Within.{is_under, under_step, under_none, IsChild, child_facts}

abbrev pub Keys : Type 0
Keys = List (List (List ℕ × List ℕ))

abbrev pub keys : DirectoryView → Uid → Keys
keys v u = reverse (map rdn_key (path_of v u))

-- one list goes on from another
pub record GoesOn (front whole : Keys) : Type 0 where
  pub rest : Keys
  pub is : whole ≡ front ++ rest

-- and by one key at least
pub record GoesFurther (front whole : Keys) : Type 0 where
  pub next : List (List ℕ × List ℕ)
  pub rest : Keys
  pub is : whole ≡ front ++ next ∷ rest

module _ (v : DirectoryView) (t : IsNamedTree v) where
  path_step : (e : PresentEntry) → IsAmong e v.present → uid_eq e.id suffix_id ≡ false → path_of v e.id ≡ e.shown ∷ path_of v e.parent
  path_step e m r =
      path_lineage (reverse v.present) e.id
      ∙ ap (map (λ (f : PresentEntry). f.shown)) (lineage_step v t e m r)
      ∙ ap (λ p. e.shown ∷ p) (sym (path_lineage (reverse v.present) e.parent))

  pub keys_step : (e : PresentEntry) → IsAmong e v.present → uid_eq e.id suffix_id ≡ false → keys v e.id ≡ keys v e.parent ++ rdn_key e.shown ∷ []
  keys_step e m r =
      ap (λ (p : List Rdn). reverse (map rdn_key p)) (path_step e m r)
      ∙ reverse_onto (map rdn_key (path_of v e.parent)) (rdn_key e.shown) []

  pub under_keys : (base u : Uid) → is_under v base u ≡ true → GoesFurther (keys v base) (keys v u)
  under_keys base =
      climb v t (λ (u : Uid). is_under v base u ≡ true → GoesFurther (keys v base) (keys v u))
      (λ u none h. never _ h (under_none v t base u none))
      (λ e m r again h. either_true (uid_eq e.parent base) (is_under v base e.parent) (sym (under_step v t base e m r) ∙ h)
      (λ g. record { next = rdn_key e.shown; rest = []; is = keys_step e m r ∙ ap (λ (w : Uid). keys v w ++ rdn_key e.shown ∷ []) (same_id e.parent base g) })
      (λ g. longer e m r (again g)))
    where
      longer : (e : PresentEntry) → IsAmong e v.present → uid_eq e.id suffix_id ≡ false → GoesFurther (keys v base) (keys v e.parent) → GoesFurther (keys v base) (keys v e.id)
      longer e m r k = record {
        next = k.next;
        rest = k.rest ++ rdn_key e.shown ∷ [];
        is = keys_step e m r ∙ ap (λ (ks : Keys). ks ++ rdn_key e.shown ∷ []) k.is ∙ append_assoc (keys v base) (k.next ∷ k.rest) (rdn_key e.shown ∷ []);
      }

  pub within_keys : (base u : Uid) → is_within v base u ≡ true → GoesOn (keys v base) (keys v u)
  within_keys base u h =
      either_true (uid_eq u base) (is_under v base u) h
      (λ g. record { rest = []; is = ap (keys v) (same_id u base g) ∙ sym (append-nil (keys v base)) })
      (λ g. (let k = under_keys base u g in record { rest = k.next ∷ k.rest; is = k.is }))

  -- within a child: the keys of the base, the child's, and some more
  pub child_keys : (base : Uid) (c : PresentEntry) → IsChild v t base c → (u : Uid) → is_within v c.id u ≡ true → (rest : Keys) × (keys v u ≡ keys v base ++ rdn_key c.shown ∷ rest)
  child_keys base c k u h =
      let f = child_facts v t base c k in
      let g = within_keys c.id u h in (
        g.rest,
        g.is
            ∙ ap (λ (ks : Keys). ks ++ g.rest) (keys_step c k.among f.1 ∙ ap (λ (w : Uid). keys v w ++ rdn_key c.shown ∷ []) f.0)
            ∙ append_assoc (keys v base) (rdn_key c.shown ∷ []) g.rest,
      )
