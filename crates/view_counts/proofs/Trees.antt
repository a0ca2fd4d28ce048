-- THE COUNTS OF A TREE: at first, and under a plan.
use Rattle.std.proofs.Common.{◌≡◌, ◌+◌, Bool, List, [], not, cond, sym, ap, subst}
use Rattle.repl_data.specs.declared.change.Suffix.{Suffix}
use Rattle.repl_data.specs.Facts.{EntryFacts, all_facts}
use Rattle.repl_data.specs.View.{DirectoryView, view_of_facts}
use Rattle.urp_tree.specs.declared.changed.Changed.{Changed}
use Rattle.urp_tree.specs.Known.{Known, known_view, put_fact}
use Rattle.urp_tree.specs.Moves.{IsViewMove}
use Rattle.urp_tree.proofs.Lost.{same_itself}
use Rattle.view_counts.specs.declared.counts.ViewCounts.{ViewCounts}
use Rattle.view_counts.specs.Counts.{counts_of, IsCounted}

-- ---- the suffix entry alone

abbrev pub one_entry : ViewCounts
one_entry = record { present = 1; glue = 0; conflict = 0; tombstone = 0 }

-- it has its name
first_counts : (suffix : Suffix) → one_entry ≡ counts_of (view_of_facts suffix.name (all_facts suffix []))
first_counts suffix = sym (ap (λ (b : Bool). record { present = 1; glue = 0; conflict = 0 + cond (not b) 1 0; tombstone = 0 }) (same_itself suffix.rdn))

pub first_counted : (suffix : Suffix) (k : Known) → k.facts ≡ all_facts suffix [] → k.suffix ≡ suffix.name → IsCounted (known_view k) one_entry
first_counted suffix k facts name =
    subst (λ v. IsCounted v one_entry) (sym (λ i. view_of_facts (name i) (facts i)))
    (record { present = (tt, tt); gone = tt; counts = first_counts suffix })

-- ---- what a plan leaves as it was

module _ (old new : Known) (facts : new.facts ≡ old.facts) (suffix : new.suffix ≡ old.suffix) where
  same_view : known_view new ≡ known_view old
  same_view = λ i. view_of_facts (suffix i) (facts i)

  pub still_counted : (n : ViewCounts) → IsCounted (known_view old) n → IsCounted (known_view new) n
  still_counted n k = subst (λ v. IsCounted v n) (sym same_view) k

  -- the view after, and the move to it
  pub still_moves : (e : EntryFacts) (cs told : List Changed) → told ≡ cs → IsViewMove (known_view old) (view_of_facts old.suffix (put_fact e old.facts)) cs
      → IsViewMove (known_view new) (view_of_facts new.suffix (put_fact e new.facts)) told
  still_moves e cs told same m =
      subst (λ (v : DirectoryView). IsViewMove v (view_of_facts new.suffix (put_fact e new.facts)) told) (sym same_view)
      (subst (λ (w : DirectoryView). IsViewMove (known_view old) w told) (sym (λ i. view_of_facts (suffix i) (put_fact e (facts i))))
      (subst (λ (ds : List Changed). IsViewMove (known_view old) (view_of_facts old.suffix (put_fact e old.facts)) ds) (sym same) m))
