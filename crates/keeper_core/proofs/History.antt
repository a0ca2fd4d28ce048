-- One batch more among those that were accepted.
use Rattle.std.proofs.Common.{◌≡◌, ℕ, ◌+◌, ◌-◌, ◌^◌, List, [], ◌∷◌, ◌++◌, length, refl, sym, ap, ◌∙◌, arith}
use Rattle.std.specs.Prelude.{min}
use Rattle.io_edge.specs.Causes.{next_count}
use Rattle.keeper_core.specs.declared.row.Row.{Row}
use Rattle.keeper_core.specs.declared.row.BatchStep.{BatchStep}
use Rattle.keeper_core.specs.Rows.{after_batch}
use Rattle.keeper_core.specs.Accepted.{after_batches, HasAccepted}
use Rattle.keeper_core.specs.Memory.{MapState}

pub after_batches-more : (rows : List Row) (batches : List (List BatchStep)) (batch : List BatchStep) → after_batches rows (batches ++ batch ∷ []) ≡ after_batch (after_batches rows batches) batch
after_batches-more rows [] batch = refl
after_batches-more rows (b ∷ batches) batch = after_batches-more (after_batch rows b) batches batch

length_more : (batches : List (List BatchStep)) (batch : List BatchStep) → length (batches ++ batch ∷ []) ≡ length batches + 1
length_more [] batch = refl
length_more (b ∷ batches) batch = let e : length (batches ++ batch ∷ []) ≡ length batches + 1 = length_more batches batch in omega arith

counted : (n : ℕ) → next_count (min n (2 ^ 64 - 1)) ≡ min (n + 1) (2 ^ 64 - 1)
counted n = omega arith

pub accepted_more : (s t : MapState) (batches : List (List BatchStep)) (batch : List BatchStep) → t.rows ≡ after_batch s.rows batch → t.kept ≡ next_count s.kept → HasAccepted s batches → HasAccepted t (batches ++ batch ∷ [])
accepted_more s t batches batch rows kept h = record {
  left = rows ∙ ap (λ rs. after_batch rs batch) h.left ∙ sym (after_batches-more [] batches batch);
  count = kept ∙ ap next_count h.count ∙ counted (length batches) ∙ ap (λ n. min n (2 ^ 64 - 1)) (sym (length_more batches batch));
}

pub left_more : (one other : List Row) (batches : List (List BatchStep)) (batch : List BatchStep) → other ≡ after_batch one batch → one ≡ after_batches [] batches → other ≡ after_batches [] (batches ++ batch ∷ [])
left_more one other batches batch rows h = rows ∙ ap (λ rs. after_batch rs batch) h ∙ sym (after_batches-more [] batches batch)
