-- THE VIEW AFTER ENTRIES ARE PUT as they are told.
use Rattle.std.proofs.Common.{◌≡◌, ℕ, List, [], ◌∷◌, Bool, true, false, cond, drop, Option, Some, None, refl, sym, ap, subst, ◌∙◌}
use Rattle.std.specs.Prelude.{◌||◌}
use Rattle.std.specs.List.{AllByRecursion}
use Rattle.repl_data.specs.declared.csn.Uid.{Uid}
use Rattle.repl_data.specs.Order.{uid_cmp, uid_eq}
use Rattle.repl_data.specs.View.{DirectoryView, PresentEntry, Tombstone, present_at, gone_at}
use Rattle.urp_tree.specs.declared.changed.Changed.{Changed}
use Rattle.urp_tree.specs.Changes.{is_listed}
use Rattle.cow_map.specs.Rows.{IsRising}
use Rattle.view_snap.specs.Told.{Told, told_of, view_of_rows}
use Rattle.view_snap.specs.Maps.{told_at, told_after}
use Rattle.urp_tree.specs.Moves.{StandsAs, IsViewMove}
use Rattle.view_snap.proofs.Entries.{same_found, present_kept, gone_kept, present_is, gone_is, present_rise, gone_rise}
use Rattle.repl_data.proofs.Bools.{cases}
use Rattle.repl_data.proofs.Known.{same_id}

pub drop_none : (cs : List Changed) → drop 0 cs ≡ cs
drop_none [] = refl
drop_none (c ∷ cs) = refl

-- what is kept of an entry is as the view has it
record Fits (w : DirectoryView) (u : Uid) (o : Option Told) : Type 0 where
  pub present : present_at w u ≡ present_kept u o
  pub gone : gone_at w u ≡ gone_kept u o

fits_after : (w : DirectoryView) (u : Uid) (cs : List Changed) (o : Option Told) → AllByRecursion (StandsAs w) cs → (is_listed u cs ≡ false → Fits w u o) → Fits w u (told_after cs o u)
fits_after w u [] o s h = h refl
fits_after w u (c ∷ cs) o s h =
    fits_after w u cs (cond (uid_eq c.id u) (Some (told_of c)) o) s.1
    (λ n. cases (uid_eq c.id u)
    (λ t. subst (λ b. Fits w u (cond b (Some (told_of c)) o)) (sym t) (subst (λ x. Fits w x (Some (told_of c))) (same_id c.id u t) (record { present = s.0.present; gone = s.0.gone })))
    (λ f. subst (λ b. Fits w u (cond b (Some (told_of c)) o)) (sym f) (h (ap (λ b. b || is_listed u cs) f ∙ n))))

module _ (suffix : List ℕ) (before after : List (Uid × Told)) (rb : IsRising uid_cmp before) (ra : IsRising uid_cmp after) (cs : List Changed) (puts : (u : Uid) → told_at after u ≡ told_after cs (told_at before u) u)
    (w : DirectoryView) (m : IsViewMove (view_of_rows suffix before) w cs) where
  fits : (u : Uid) → Fits w u (told_at after u)
  fits u =
      subst (Fits w u) (sym (puts u))
      (fits_after w u cs (told_at before u) m.told
      (λ n. (let s = m.others u n in record { present = s.present ∙ present_is suffix before rb u; gone = s.gone ∙ gone_is suffix before rb u })))

  present_same : (view_of_rows suffix after).present ≡ w.present
  present_same = same_found (λ (e : PresentEntry). e.id) (view_of_rows suffix after).present w.present (present_rise suffix after ra) m.present (λ u. present_is suffix after ra u ∙ sym (fits u).present)

  gone_same : (view_of_rows suffix after).gone ≡ w.gone
  gone_same = same_found (λ (e : Tombstone). e.id) (view_of_rows suffix after).gone w.gone (gone_rise suffix after ra) m.gone (λ u. gone_is suffix after ra u ∙ sym (fits u).gone)

  pub moved_view : view_of_rows suffix after ≡ w
  moved_view = λ i. record { suffix = sym m.suffix i; present = present_same i; gone = gone_same i }
