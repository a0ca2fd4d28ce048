-- THE COUNTS AFTER A CHANGE, by what the entries that it changes count before and after.
use Rattle.std.proofs.Common.{◌≡◌, ℕ, ◌+◌, ◌≤◌, Bool, true, ◌||◌, not, cond, List, [], ◌∷◌, map, length, Option, Some, None, refl, sym, ap, ◌∙◌, arith}
use Rattle.std.specs.Prelude.{count_by, is_some, is_none, option_map, fold}
use Rattle.std.specs.List.{AllByRecursion}
use Rattle.std.proofs.lemmas.List.Sums.{sum_by-cons}
use Rattle.std.specs.declared.cmp.Ordering.TheVariants.{Less}
use Rattle.repl_data.specs.declared.csn.Uid.{Uid}
use Rattle.repl_data.specs.declared.change.Rdn.{Rdn}
use Rattle.repl_data.specs.declared.view.Standing.{Standing}
use Rattle.repl_data.specs.Order.{uid_cmp, same_rdn}
use Rattle.repl_data.specs.View.{DirectoryView, PresentEntry, Tombstone, present_at, gone_at, lost_name}
use Rattle.repl_data.specs.Lent.{standing}
use Rattle.repl_data.proofs.Known.{eq_turned}
use Rattle.urp_tree.specs.declared.changed.Changed.{Changed}
use Rattle.urp_tree.specs.Changes.{is_listed, HasRisingChanges}
use Rattle.urp_tree.specs.Moves.{HasRisingPresent, HasRisingGone, kept, told_present, told_gone, StandsAs, IsViewMove}
use Rattle.view_counts.specs.declared.counts.ViewCounts.{ViewCounts}
use Rattle.view_counts.specs.Counts.{counts_of, nothing, plus, IsWithin}
use Rattle.view_counts.specs.Tally.{entry_counts, counted_in, told_standing, counted_after, total}
use Rattle.view_counts.proofs.Sums.{sum_over}
use Rattle.view_counts.proofs.Counted.{Up, In, ids, at, tally, moved}

abbrev id_of : PresentEntry → Uid
id_of e = e.id

abbrev gone_id : Tombstone → Uid
gone_id e = e.id

abbrev any : {X : Type 0} → X → Bool
any x = true

-- all count
count_all : {X : Type 0} (xs : List X) → count_by any xs ≡ length xs
count_all [] = refl
count_all {X} (x ∷ xs) = let one = sum_by-cons (λ (e : X). cond true 1 0) x xs in let more = count_all xs in omega arith

-- ---- ids that rise

abbrev listed : List Changed → List Uid
listed cs = map (λ (c : Changed). c.id) cs

above_all : (u : Uid) (cs : List Changed) → AllByRecursion (λ (d : Changed). uid_cmp u d.id ≡ Less) cs → AllByRecursion (λ (v : Uid). uid_cmp u v ≡ Less) (listed cs)
above_all u [] h = tt
above_all u (c ∷ cs) h = (h.0, above_all u cs h.1)

listed_up : (cs : List Changed) → HasRisingChanges cs → Up (listed cs)
listed_up [] h = tt
listed_up (c ∷ cs) h = (above_all c.id cs h.0, listed_up cs h.1)

same_test : (u : Uid) (cs : List Changed) → In (listed cs) u ≡ is_listed u cs
same_test u [] = refl
same_test u (c ∷ cs) = λ i. eq_turned u c.id i || same_test u cs i

present_above : (u : Uid) (es : List PresentEntry) → AllByRecursion (λ (f : PresentEntry). uid_cmp u f.id ≡ Less) es → AllByRecursion (λ (v : Uid). uid_cmp u v ≡ Less) (ids id_of es)
present_above u [] h = tt
present_above u (e ∷ es) h = (h.0, present_above u es h.1)

present_up : (es : List PresentEntry) → HasRisingPresent es → Up (ids id_of es)
present_up [] h = tt
present_up (e ∷ es) h = (present_above e.id es h.0, present_up es h.1)

gone_above : (u : Uid) (es : List Tombstone) → AllByRecursion (λ (f : Tombstone). uid_cmp u f.id ≡ Less) es → AllByRecursion (λ (v : Uid). uid_cmp u v ≡ Less) (ids gone_id es)
gone_above u [] h = tt
gone_above u (e ∷ es) h = (h.0, gone_above u es h.1)

gone_up : (es : List Tombstone) → HasRisingGone es → Up (ids gone_id es)
gone_up [] h = tt
gone_up (e ∷ es) h = (gone_above e.id es h.0, gone_up es h.1)

-- ---- sums of parts

-- a part of the total is the sum of the parts
folded : (part : ViewCounts → ℕ) → ((a b : ViewCounts) → part (plus a b) ≡ part a + part b) → (f : Changed → ViewCounts) (a : ViewCounts) (cs : List Changed) → part (fold (λ n c. plus n (f c)) a cs) ≡ part a + sum_over (λ c. part (f c)) cs
folded part adds f a [] = omega arith
folded part adds f a (c ∷ cs) =
    let more = folded part adds f (plus a (f c)) cs in
    let one = adds a (f c) in
    omega arith

-- ---- how a told entry stands

abbrev present_as : Changed → Rdn → PresentEntry
present_as c shown = record { id = c.id; parent = c.parent; name = c.name; shown = shown; is_glue = c.glue; attrs = map kept c.attrs }

abbrev gone_as : Changed → Tombstone
gone_as c = record { id = c.id; parent = c.parent; name = c.name; attrs = map kept c.attrs }

stands : (c : Changed) → option_map standing (told_present c) ≡ told_standing c
stands c = by c.after
  where
    by : (o : Option Rdn) → option_map standing (option_map (present_as c) o) ≡ option_map (λ (r : Rdn). record { glue = c.glue; lost = not (same_rdn c.name r) }) o
    by None = refl
    by (Some r) = refl

-- ---- the law

-- what the entries that change count before, and after
abbrev pub goes : DirectoryView → List Changed → ViewCounts
goes v cs = total (λ (c : Changed). counted_in v c.id) cs

abbrev pub comes : List Changed → ViewCounts
comes cs = total counted_after cs

-- the counts before with what these entries count after are the counts after with what they counted before
abbrev pub IsEven : (ViewCounts → ℕ) → DirectoryView → DirectoryView → List Changed → Type 0
IsEven part v w cs = part (counts_of v) + part (comes cs) ≡ part (counts_of w) + part (goes v cs)

pub record Law (v w : DirectoryView) (cs : List Changed) : Type 0 where
  pub present : IsEven (λ n. n.present) v w cs
  pub glue : IsEven (λ n. n.glue) v w cs
  pub conflict : IsEven (λ n. n.conflict) v w cs
  pub tombstone : IsEven (λ n. n.tombstone) v w cs

module _ (v w : DirectoryView) (cs : List Changed) (m : IsViewMove v w cs) where
  -- ---- kinds of present entries
  module _ (q : PresentEntry → Bool) (part : ViewCounts → ℕ) (fits : (o : Option PresentEntry) (g : Bool) → part (entry_counts (option_map standing o) g) ≡ tally q o) where
    before : (ds : List Changed) → sum_over (λ u. tally q (at id_of v.present u)) (listed ds) ≡ sum_over (λ c. part (counted_in v c.id)) ds
    before [] = refl
    before (d ∷ ds) =
        let one : part (counted_in v d.id) ≡ tally q (at id_of v.present d.id) = fits (present_at v d.id) (is_some (gone_at v d.id)) in
        let more = before ds in
        omega arith

    told_part : (d : Changed) → tally q (told_present d) ≡ part (counted_after d)
    told_part d = sym (fits (told_present d) (is_none d.after)) ∙ ap (λ (s : Option Standing). part (entry_counts s (is_none d.after))) (stands d)

    after : (ds : List Changed) → AllByRecursion (StandsAs w) ds → sum_over (λ u. tally q (at id_of w.present u)) (listed ds) ≡ sum_over (λ c. part (counted_after c)) ds
    after [] h = refl
    after (d ∷ ds) h =
        let one : tally q (at id_of w.present d.id) ≡ part (counted_after d) = ap (tally q) h.0.present ∙ told_part d in
        let more = after ds h.1 in
        omega arith

    present_moves : HasRisingChanges cs → HasRisingPresent v.present → count_by q v.present + sum_over (λ c. part (counted_after c)) cs ≡ count_by q w.present + sum_over (λ c. part (counted_in v c.id)) cs
    present_moves rises up =
        let all = moved id_of q v.present w.present (listed cs) (present_up v.present up) (present_up w.present m.present) (listed_up cs rises) (λ u h. ap (tally q) (sym (m.others u (sym (same_test u cs) ∙ h)).present)) in
        let one = before cs in
        let two = after cs m.told in
        omega arith

  -- ---- tombstones
  gone_here : (o : Option Tombstone) (s : Option Standing) → (entry_counts s (is_some o)).tombstone ≡ tally any o
  gone_here None None = refl
  gone_here None (Some s) = refl
  gone_here (Some e) None = refl
  gone_here (Some e) (Some s) = refl

  gone_before : (ds : List Changed) → sum_over (λ u. tally any (at gone_id v.gone u)) (listed ds) ≡ sum_over (λ c. (counted_in v c.id).tombstone) ds
  gone_before [] = refl
  gone_before (d ∷ ds) =
      let one : (counted_in v d.id).tombstone ≡ tally any (at gone_id v.gone d.id) = gone_here (gone_at v d.id) (option_map standing (present_at v d.id)) in
      let more = gone_before ds in
      omega arith

  gone_told : (d : Changed) → tally any (told_gone d) ≡ (counted_after d).tombstone
  gone_told d = by d.after
    where
      by : (o : Option Rdn) → tally any (cond (is_some o) None (Some (gone_as d))) ≡ (entry_counts (option_map (λ (r : Rdn). record { glue = d.glue; lost = not (same_rdn d.name r) }) o) (is_none o)).tombstone
      by None = refl
      by (Some r) = refl

  gone_after : (ds : List Changed) → AllByRecursion (StandsAs w) ds → sum_over (λ u. tally any (at gone_id w.gone u)) (listed ds) ≡ sum_over (λ c. (counted_after c).tombstone) ds
  gone_after [] h = refl
  gone_after (d ∷ ds) h =
      let one : tally any (at gone_id w.gone d.id) ≡ (counted_after d).tombstone = ap (tally any) h.0.gone ∙ gone_told d in
      let more = gone_after ds h.1 in
      omega arith

  gone_moves : HasRisingChanges cs → HasRisingGone v.gone → length v.gone + sum_over (λ c. (counted_after c).tombstone) cs ≡ length w.gone + sum_over (λ c. (counted_in v c.id).tombstone) cs
  gone_moves rises up =
      let all = moved gone_id any v.gone w.gone (listed cs) (gone_up v.gone up) (gone_up w.gone m.gone) (listed_up cs rises) (λ u h. ap (tally any) (sym (m.others u (sym (same_test u cs) ∙ h)).gone)) in
      let here = count_all v.gone in
      let there = count_all w.gone in
      let one = gone_before cs in
      let two = gone_after cs m.told in
      omega arith

  -- ---- present entries, glue, and those that lost their name
  any_fits : (o : Option PresentEntry) (g : Bool) → (entry_counts (option_map standing o) g).present ≡ tally any o
  any_fits None g = refl
  any_fits (Some e) g = refl

  glue_fits : (o : Option PresentEntry) (g : Bool) → (entry_counts (option_map standing o) g).glue ≡ tally (λ (e : PresentEntry). e.is_glue) o
  glue_fits None g = refl
  glue_fits (Some e) g = refl

  lost_fits : (o : Option PresentEntry) (g : Bool) → (entry_counts (option_map standing o) g).conflict ≡ tally lost_name o
  lost_fits None g = refl
  lost_fits (Some e) g = refl

  pub law : HasRisingChanges cs → HasRisingPresent v.present → HasRisingGone v.gone → Law v w cs
  law rises present gone = record { present = of_present; glue = of_glue; conflict = of_conflict; tombstone = of_gone }
    where
      of_present : IsEven (λ n. n.present) v w cs
      of_present =
          let all = present_moves any (λ n. n.present) any_fits rises present in
          let here = count_all v.present in
          let there = count_all w.present in
          let one = folded (λ n. n.present) (λ a b. refl) counted_after nothing cs in
          let two = folded (λ n. n.present) (λ a b. refl) (λ c. counted_in v c.id) nothing cs in
          omega arith

      of_glue : IsEven (λ n. n.glue) v w cs
      of_glue =
          let all = present_moves (λ e. e.is_glue) (λ n. n.glue) glue_fits rises present in
          let one = folded (λ n. n.glue) (λ a b. refl) counted_after nothing cs in
          let two = folded (λ n. n.glue) (λ a b. refl) (λ c. counted_in v c.id) nothing cs in
          omega arith

      of_conflict : IsEven (λ n. n.conflict) v w cs
      of_conflict =
          let all = present_moves lost_name (λ n. n.conflict) lost_fits rises present in
          let one = folded (λ n. n.conflict) (λ a b. refl) counted_after nothing cs in
          let two = folded (λ n. n.conflict) (λ a b. refl) (λ c. counted_in v c.id) nothing cs in
          omega arith

      of_gone : IsEven (λ n. n.tombstone) v w cs
      of_gone =
          let all = gone_moves rises gone in
          let one = folded (λ n. n.tombstone) (λ a b. refl) counted_after nothing cs in
          let two = folded (λ n. n.tombstone) (λ a b. refl) (λ c. counted_in v c.id) nothing cs in
          omega arith

-- ---- what is computed by the law: `b` goes, `a` comes, `s` is all of them, and `r` is what is left

same_counts : (a b : ViewCounts) → a.present ≡ b.present → a.glue ≡ b.glue → a.conflict ≡ b.conflict → a.tombstone ≡ b.tombstone → a ≡ b
same_counts a b p g c t = λ i. record { present = p i; glue = g i; conflict = c i; tombstone = t i }

abbrev Adds : (ViewCounts → ℕ) → Type 0
Adds part = (x y : ViewCounts) → part (plus x y) ≡ part x + part y

module _ (v w : DirectoryView) (cs : List Changed) (n b a s : ViewCounts) (counts : n ≡ counts_of v) (eb : b ≡ goes v cs) (ea : a ≡ comes cs) (es : s ≡ plus n a) where
  fits_part : (part : ViewCounts → ℕ) → Adds part → IsEven part v w cs → part b ≤ part s
  fits_part part adds even =
      let one = ap part eb in
      let two = ap part ea in
      let three = ap part es ∙ adds n a in
      let four = ap part counts in
      omega arith

  pub within : Law v w cs → IsWithin b s
  within l = record {
    present = fits_part (λ n. n.present) (λ x y. refl) l.present;
    glue = fits_part (λ n. n.glue) (λ x y. refl) l.glue;
    conflict = fits_part (λ n. n.conflict) (λ x y. refl) l.conflict;
    tombstone = fits_part (λ n. n.tombstone) (λ x y. refl) l.tombstone;
  }

  left_part : (part : ViewCounts → ℕ) → Adds part → IsEven part v w cs → (r : ViewCounts) → plus r b ≡ s → part r ≡ part (counts_of w)
  left_part part adds even r er =
      let one = ap part eb in
      let two = ap part ea in
      let three = ap part es ∙ adds n a in
      let four = ap part counts in
      let five = sym (adds r b) ∙ ap part er in
      omega arith

  pub left : Law v w cs → (r : ViewCounts) → plus r b ≡ s → r ≡ counts_of w
  left l r er =
      same_counts r (counts_of w)
      (left_part (λ n. n.present) (λ x y. refl) l.present r er)
      (left_part (λ n. n.glue) (λ x y. refl) l.glue r er)
      (left_part (λ n. n.conflict) (λ x y. refl) l.conflict r er)
      (left_part (λ n. n.tombstone) (λ x y. refl) l.tombstone r er)
