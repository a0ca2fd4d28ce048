-- Attributes without one of them stay in order.
use Rattle.std.proofs.Common.{ℕ, List}
use Rattle.std.specs.Prelude.{remove}
use Rattle.repl_data.specs.Facts.{AttrFacts}
use Rattle.repl_data.proofs.KeyPlaces.{Rises-removed, all_removed}
use Rattle.stamp_entry.specs.Ordered.{attr_name, HasRisingVals, AreOrdered}

pub AreOrdered-removed : (attrs : List AttrFacts) (n : ℕ) → AreOrdered attrs → AreOrdered (remove attrs n)
AreOrdered-removed attrs n h = (Rises-removed attr_name attrs n h.0, all_removed HasRisingVals attrs n h.1)
