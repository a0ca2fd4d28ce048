-- The program's table is the one of the definitions.
use Rattle.std.proofs.Common.{◌≡◌, ℕ, Bool, true, false, List, [], ◌∷◌, Option, map, find, cond, Some, refl, ap, ◌∙◌}
use Rattle.std.specs.Option.{option_map}
use Rattle.attr_keys.specs.declared.table.TypeRow.{TypeRow}
use Rattle.attr_keys.specs.Table.{AttrType, is_named, seen, types, type_of}

-- the first of the rows whose image passes has the first image that passes
pub find-map : (p : AttrType → Bool) (rows : List TypeRow) → option_map seen (find (λ r. p (seen r)) rows) ≡ find p (map seen rows)
find-map p [] = refl
find-map p (r ∷ rows) = at (p (seen r)) (find-map p rows)
  where
    at : (b : Bool) → option_map seen (find (λ r. p (seen r)) rows) ≡ find p (map seen rows) → option_map seen (cond b (Some r) (find (λ r. p (seen r)) rows)) ≡ cond b (Some (seen r)) (find p (map seen rows))
    at true h = refl
    at false h = h

pub row-found : (base : List ℕ) (rows : List TypeRow) (found : Option TypeRow) → found ≡ find (λ r. is_named base (seen r)) rows → map seen rows ≡ types → option_map seen found ≡ type_of base
unfolding type_of
row-found base rows found e h = ap (option_map seen) e ∙ find-map (is_named base) rows ∙ ap (λ (ts : List AttrType). find (is_named base) ts) h
