-- Pieces that are taken each at the first place where it stands are in order wherever any choice of places is.
use Rattle.std.proofs.Common.{◌≡◌, ℕ, zero, suc, Bool, true, false, ◌&&◌, ◌||◌, cond, List, [], ◌∷◌, length, take, drop, Option, Some, None, refl, sym, ap, ◌∙◌, nat_eq, ◌-◌, ◌+◌, ◌<◌, arith, length-drop, get_or}
use Rattle.std.specs.List.{list_any, starts_with, ends_with}
use Rattle.std.proofs.lemmas.List.{drop_more, take_all}
use Rattle.std.specs.Cmp.Lexicographic.{as_long, pointwise}
use Rattle.repl_data.proofs.Bools.{either_second, either_true, and-right, or_false}
use Rattle.filter_truth.specs.Pieces.{tails, begins, in_order}
use Rattle.filter_truth.specs.Behind.{behind, behind_first}

-- what is in order is in order behind one byte more
one_more : (pieces : List (List ℕ)) (last : List ℕ) (x : ℕ) (text : List ℕ) → in_order pieces last text ≡ true → in_order pieces last (x ∷ text) ≡ true
one_more [] last x text h =
    let l : length last ≡ length (drop (length text - length last) text) = as_long nat_eq last (drop (length text - length last) text) h in
    let m : length (drop (length text - length last) text) ≡ length text - (length text - length last) = length-drop (length text - length last) text in
    let e : suc (length text) - length last ≡ suc (length text - length last) = omega arith in
    ap (λ n. pointwise nat_eq last (drop n (x ∷ text))) e ∙ h
one_more (piece ∷ pieces) last x text h =
    either_second (begins (x ∷ text) piece && in_order pieces last (drop (length piece) (x ∷ text))) (in_order (piece ∷ pieces) last text) h

-- and where fewer bytes are dropped
dropped_more : (pieces : List (List ℕ)) (last : List ℕ) (n x : ℕ) (text : List ℕ) → in_order pieces last (drop n text) ≡ true → in_order pieces last (drop n (x ∷ text)) ≡ true
dropped_more pieces last zero x text h = one_more pieces last x text h
dropped_more pieces last (suc zero) x [] h = h
dropped_more pieces last (suc (suc n)) x [] h = h
dropped_more pieces last (suc n) x (y ∷ text) h = dropped_more pieces last n y text h

-- a piece that stands later is no better than one that stands at the front
later : (piece : List ℕ) (pieces : List (List ℕ)) (last : List ℕ) (x : ℕ) (text : List ℕ) → in_order (piece ∷ pieces) last text ≡ true → in_order pieces last (drop (length piece) (x ∷ text)) ≡ true
later piece pieces last x [] h =
    either_true (begins [] piece && in_order pieces last (drop (length piece) [])) false h
    (λ e. dropped_more pieces last (length piece) x [] (and-right (begins [] piece) _ e))
    (λ e. let f : false ≡ true = e in cc)
later piece pieces last x (y ∷ text) h =
    either_true (begins (y ∷ text) piece && in_order pieces last (drop (length piece) (y ∷ text))) (in_order (piece ∷ pieces) last text) h
    (λ e. dropped_more pieces last (length piece) x (y ∷ text) (and-right (begins (y ∷ text) piece) _ e))
    (λ e. dropped_more pieces last (length piece) x (y ∷ text) (later piece pieces last y text e))

abbrev pub or_not : Option (List ℕ) → (List ℕ → Bool) → Bool
or_not None p = false
or_not (Some rest) p = p rest

absorbed : (a b : Bool) → (b ≡ true → a ≡ true) → (a || b) ≡ a
absorbed true b h = refl
absorbed false true h = sym (h refl)
absorbed false false h = refl

both_or_not : (b : Bool) (rest : List ℕ) (p : List ℕ → Bool) → (b && p rest) ≡ or_not (cond b (Some rest) None) p
both_or_not true rest p = refl
both_or_not false rest p = refl

-- the first place decides
pub first_place : (piece : List ℕ) (pieces : List (List ℕ)) (last text : List ℕ) → in_order (piece ∷ pieces) last text ≡ or_not (behind_first text piece) (in_order pieces last)
first_place piece pieces last [] =
    or_false (begins [] piece && in_order pieces last (drop (length piece) []))
    ∙ both_or_not (begins [] piece) (drop (length piece) []) (in_order pieces last)
first_place piece pieces last (x ∷ text) = by (begins (x ∷ text) piece) (first_place piece pieces last text)
  where
    by : (b : Bool) → in_order (piece ∷ pieces) last text ≡ or_not (behind_first text piece) (in_order pieces last)
        → ((b && in_order pieces last (drop (length piece) (x ∷ text))) || in_order (piece ∷ pieces) last text) ≡ or_not (cond b (Some (drop (length piece) (x ∷ text))) (behind_first text piece)) (in_order pieces last)
    by true more = absorbed (in_order pieces last (drop (length piece) (x ∷ text))) (in_order (piece ∷ pieces) last text) (later piece pieces last x text)
    by false more = more

-- ---- loops

here_or_later : (piece text : List ℕ) (at : ℕ) → at < length text → behind_first (drop at text) piece ≡ cond (begins (drop at text) piece) (Some (drop (length piece) (drop at text))) (behind_first (drop (suc at) text) piece)
here_or_later piece [] at h = absurd (omega arith)
here_or_later piece (x ∷ text) zero h = refl
here_or_later piece (x ∷ text) (suc at) h = here_or_later piece text at (omega arith)

pub rest_of : (text : List ℕ) (at : ℕ) → take (length text - at) (drop at text) ≡ drop at text
rest_of text at = let e : length (drop at text) ≡ length text - at = length-drop at text in take_all (length text - at) (drop at text) (omega arith)

-- what does not stand at a place stands later
pub place_next : (piece text : List ℕ) (at : ℕ) → at < length text → None ≡ behind (drop at text) piece → behind_first (drop at text) piece ≡ behind_first (drop (at + 1) text) piece
place_next piece text at h none = here_or_later piece text at h ∙ by (begins (drop at text) piece) none ∙ ap (λ n. behind_first (drop n text) piece) one_on
  where
    one_on : suc at ≡ at + 1
    one_on = omega arith

    by : (b : Bool) → None ≡ cond b (Some (drop (length piece) (drop at text))) None → cond b (Some (drop (length piece) (drop at text))) (behind_first (drop (suc at) text) piece) ≡ behind_first (drop (suc at) text) piece
    by true e = absurd cc
    by false e = refl

module _ (middle : List (List ℕ)) (last text rest : List ℕ) (i : ℕ) (piece : List ℕ) (l : i < length middle)
    (h : in_order middle last text ≡ in_order (drop i middle) last rest) (is : piece ≡ get_or middle i piece) where
  at_piece : (o : Option (List ℕ)) → o ≡ behind_first rest piece → in_order middle last text ≡ or_not o (in_order (drop (i + 1) middle) last)
  at_piece o e =
      h ∙ ap (λ (ps : List (List ℕ)). in_order ps last rest) (drop_more middle i piece l)
      ∙ ap (λ (p : List ℕ). in_order (p ∷ drop (i + 1) middle) last rest) (sym is)
      ∙ first_place piece (drop (i + 1) middle) last rest
      ∙ ap (λ o. or_not o (in_order (drop (i + 1) middle) last)) (sym e)

  pub piece_lacks : None ≡ behind_first rest piece → false ≡ in_order middle last text
  piece_lacks e = sym (at_piece None e)

  pub piece_stands : (more : List ℕ) → Some more ≡ behind_first rest piece → in_order middle last text ≡ in_order (drop (i + 1) middle) last more
  piece_stands more e = at_piece (Some more) e
