-- What a write of the first bytes of the rest of a piece leaves.
use Rattle.std.proofs.Common.{◌≡◌, ℕ, ◌-◌, List, ◌++◌, Option, length, take, drop, sym, ap, ◌∙◌, append_assoc, take-append-drop}
use Rattle.std.proofs.lemmas.List.{take_rest}
use Rattle.std.proofs.KnownBytes.{Appends-trans}
use Rattle.std.specs.Io.KnownBytes.{Appends}

-- what is gone from the piece was appended, also after n more bytes
pub appends_more : (piece done rest : List ℕ) (n : ℕ) (old mid new : Option (List ℕ)) → piece ≡ done ++ rest → Appends old mid done → Appends mid new (take n rest)
    → (front : List ℕ) × (piece ≡ front ++ take (length rest - n) (drop n rest)) × Appends old new front
appends_more piece done rest n old mid new split before after = (
  done ++ take n rest,
  split ∙ ap (λ l. done ++ l) (sym (take-append-drop n rest)) ∙ sym (append_assoc done (take n rest) (drop n rest)) ∙ ap (λ l. (done ++ take n rest) ++ l) (sym (take_rest rest n)),
  Appends-trans old mid new done (take n rest) before after,
)
