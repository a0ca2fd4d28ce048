-- WHAT A PLAN HAS: the entry as its change leaves it, and the counts after it.
use Rattle.repl_data.specs.Facts.{EntryFacts}
use Rattle.repl_data.specs.View.{view_of_facts}
use Rattle.urp_tree.specs.Known.{Known, IsReadyFor, put_fact}
use Rattle.view_counts.specs.declared.counts.ViewCounts.{ViewCounts}
use Rattle.view_counts.specs.Counts.{IsCounted}

pub record CountedEntry : Type 0 where
  pub entry : EntryFacts
  pub counts : ViewCounts

-- the tree is ready for the entry, and these are the counts of the view after
pub record IsReadyWith (k : Known) (p : CountedEntry) : Type 0 where
  pub ready : IsReadyFor k p.entry
  pub counted : IsCounted (view_of_facts k.suffix (put_fact p.entry k.facts)) p.counts
