use Rattle.std.proofs.Common.{◌≡◌, ◌++◌, drop}
use Rattle.std.specs.Option.{option_map}
use Rattle.attr_keys.specs.Table.{kind_of}
use Rattle.filter_truth.specs.Truth.{all_pieces}
use Rattle.filter_truth.proofs.reading.all_pieces.Given as goal

abbrev pub invariant-loop-piece : goal.invariant-loop-piece
invariant-loop-piece l = all_pieces (kind_of l.attr.name) l.pieces ≡ option_map (λ more. l.keys ++ more) (all_pieces (kind_of l.attr.name) (drop l.piece-index l.pieces))
