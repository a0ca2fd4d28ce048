-- Which ids are known, by the changes that add them.
use Rattle.std.proofs.Common.{◌≡◌, ◌<◌, ◌⊎◌, inl, inr, Bool, true, false, ◌||◌, List, [], ◌∷◌, ◌++◌, refl, sym, ap, subst, ◌∙◌, Contains}
use Rattle.std.specs.List.{list_any}
use Rattle.std.proofs.lemmas.Bool.{or_cases, false≢true, or_left, or_right}
use Rattle.std.proofs.lemmas.List.Folds.{list_any-append}
use Rattle.repl_data.specs.declared.csn.Uid.{Uid}
use Rattle.repl_data.specs.declared.change.Change.{Change}
use Rattle.repl_data.specs.declared.change.Body.{Body}
use Rattle.repl_data.specs.declared.change.Body.TheVariants.{Add, Mod as Modify, Ren, Del}
use Rattle.repl_data.specs.Order.{csn_lt, uid_eq, suffix_id, number_of}
use Rattle.repl_data.specs.Check.{is_out_of_order}
use Rattle.repl_data.specs.Facts.{ids_added, added_ids}
use Rattle.repl_data.specs.Closed.{needed, is_known, is_sound}
use Rattle.repl_data.proofs.Sound.{neither, not_false, sound_order}
use Rattle.repl_data.proofs.Orders.{uid_exact, csn_exact}
use Rattle.repl_data.proofs.InOrder.{is_equal}
use Rattle.vector_core.proofs.Lists.{Contains-nil, Contains-here, Contains-there, Contains-cons_cases}
use Rattle.node_core.specs.Sound.{IsPlain}
use Rattle.node_core.proofs.Orders.{lt_number}

-- a change adds this id
abbrev pub adds : Uid → Change → Bool
adds id c = list_any (uid_eq id) (ids_added c.target c.body)

added-adds : (xs : List Change) (id : Uid) → list_any (uid_eq id) (added_ids xs) ≡ true → (c : Change) × Contains xs c × (adds id c ≡ true)
added-adds [] id e = absurd (false≢true e)
added-adds (x ∷ xs) id e =
    elim (or_cases (adds id x) (list_any (uid_eq id) (added_ids xs)) (sym (list_any-append (uid_eq id) (ids_added x.target x.body) (added_ids xs)) ∙ e)) [
      | inl t ↦ (x, Contains-here x xs, t)
      | inr f ↦ (let r = added-adds xs id f in (r.0, Contains-there x xs r.0 r.1, r.2))
    ]

adds-added : (xs : List Change) (id : Uid) (c : Change) → Contains xs c → adds id c ≡ true → list_any (uid_eq id) (added_ids xs) ≡ true
adds-added [] id c h t = absurd (Contains-nil h)
adds-added (x ∷ xs) id c h t =
    list_any-append (uid_eq id) (ids_added x.target x.body) (added_ids xs)
    ∙ elim (Contains-cons_cases x xs c h) [
      | inl e ↦ or_left (adds id x) (list_any (uid_eq id) (added_ids xs)) (subst (λ z. adds id z ≡ true) (sym e) t)
      | inr q ↦ or_right (adds id x) (list_any (uid_eq id) (added_ids xs)) (adds-added xs id c q t)
    ]

-- what is known is the suffix entry, or a change adds it; and each of these is known
pub known-adds : (xs : List Change) (id : Uid) → is_known xs id ≡ true → (id ≡ suffix_id) ⊎ ((c : Change) × Contains xs c × (adds id c ≡ true))
known-adds xs id e =
    elim (or_cases (uid_eq id suffix_id) (list_any (uid_eq id) (added_ids xs)) e) [
      | inl t ↦ inl (uid_exact id suffix_id (is_equal _ t))
      | inr f ↦ inr (added-adds xs id f)
    ]

pub suffix_known : (xs : List Change) (id : Uid) → id ≡ suffix_id → is_known xs id ≡ true
suffix_known xs id e = subst (λ z. is_known xs z ≡ true) (sym e) (or_left (uid_eq suffix_id suffix_id) (list_any (uid_eq suffix_id) (added_ids xs)) refl)

pub adds-known : (xs : List Change) (id : Uid) (c : Change) → Contains xs c → adds id c ≡ true → is_known xs id ≡ true
adds-known xs id c h t = or_right (uid_eq id suffix_id) (list_any (uid_eq id) (added_ids xs)) (adds-added xs id c h t)

-- the id that a change without fault adds is its CSN
pub adds-csn : (c : Change) (id : Uid) → is_sound c ≡ true → adds id c ≡ true → id.csn ≡ c.csn
adds-csn c id s t = by c.body (sound_order c s) t
  where
    by : (b : Body) → is_out_of_order c.csn c.target b ≡ false → list_any (uid_eq id) (ids_added c.target b) ≡ true → id.csn ≡ c.csn
    by (Add parent rdn attrs) o k =
        elim (or_cases (uid_eq id c.target) false k) [
          | inl q ↦ ap (λ (u : Uid). u.csn) (uid_exact id c.target (is_equal _ q)) ∙ csn_exact c.target.csn c.csn (is_equal _ (not_false _ (neither _ _ o).0))
          | inr f ↦ absurd (false≢true f)
        ]
    by (Modify mods) o k = absurd (false≢true k)
    by (Ren rdn dropped) o k = absurd (false≢true k)
    by Del o k = absurd (false≢true k)

-- what a change without fault needs is below it
pub need-below : (c : Change) → is_sound c ≡ true → IsPlain (needed c.target c.body).csn → IsPlain c.csn → number_of (needed c.target c.body).csn < number_of c.csn
need-below c s p q = lt_number (needed c.target c.body).csn c.csn p q (by c.body (sound_order c s))
  where
    by : (b : Body) → is_out_of_order c.csn c.target b ≡ false → csn_lt (needed c.target b).csn c.csn ≡ true
    by (Add parent rdn attrs) o = not_false _ (neither _ _ o).1
    by (Modify mods) o = not_false _ o
    by (Ren rdn dropped) o = not_false _ o
    by Del o = not_false _ o
