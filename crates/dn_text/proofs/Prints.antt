-- Texts with separators between, one further.
use Rattle.std.proofs.Common.{◌≡◌, ℕ, ◌+◌, ◌<◌, ◌≤◌, Bool, false, eqb, List, [], ◌∷◌, ◌++◌, length, map, get_or, drop, sym, ap, ◌∙◌, append_assoc, arith}
use Rattle.std.specs.Prelude.{◌&&◌}
use Rattle.std.proofs.lemmas.List.{at_drop_more, at_drop_all, append-nil, length-drop}
use Rattle.std.proofs.lemmas.Bool.Decides.{nat_tests}
use Rattle.repl_data.specs.declared.change.Ava.{Ava}
use Rattle.repl_data.specs.Text.{escaped, escaped_rest, joined}
use Rattle.dn_text.specs.Reading.{put_part}
use Rattle.dn_text.specs.Print.{each_after, put_all}

-- ---- the bytes after the first

rest-cons : (b : ℕ) (bs : List ℕ) → escaped_rest (b ∷ bs) ≡ escaped (eqb (length bs) 0 && eqb b 32) b ++ escaped_rest bs
rest-cons b [] = sym (append-nil _)
rest-cons b (c ∷ bs) = let more : eqb (length (c ∷ bs)) 0 ≡ false = grind (arith, nat_tests) in ap (λ (e : Bool). escaped (e && eqb b 32) b ++ escaped_rest (c ∷ bs)) (sym more)

same_test : (m n : ℕ) (xs : List ℕ) → length xs + m ≡ n → eqb (length xs) 0 ≡ eqb m n
same_test m n xs h = grind (arith, nat_tests)

pub rest_step : (at : ℕ) (bs : List ℕ) → at < length bs → escaped_rest (drop at bs) ≡ escaped (eqb (at + 1) (length bs) && eqb (get_or bs at 0) 32) (get_or bs at 0) ++ escaped_rest (drop (at + 1) bs)
rest_step at bs h =
    let k : length (drop (at + 1) bs) + (at + 1) ≡ length bs = omega (arith, length-drop (at + 1) bs) in
    at_drop_more escaped_rest bs at 0 h
    ∙ rest-cons (get_or bs at 0) (drop (at + 1) bs)
    ∙ ap (λ (e : Bool). escaped (e && eqb (get_or bs at 0) 32) (get_or bs at 0) ++ escaped_rest (drop (at + 1) bs)) (same_test (at + 1) (length bs) (drop (at + 1) bs) k)

pub rest_end : (at : ℕ) (bs : List ℕ) → length bs ≤ at → escaped_rest (drop at bs) ≡ []
rest_end at bs h = at_drop_all escaped_rest bs at h

-- ---- texts with a separator between

pub joined-cons : (sep p : List ℕ) (ps : List (List ℕ)) → joined sep (p ∷ ps) ≡ p ++ each_after sep ps
joined-cons sep p [] = sym (append-nil p)
joined-cons sep p (q ∷ ps) = ap (λ (r : List ℕ). p ++ sep ++ r) (joined-cons sep q ps) ∙ simp append_assoc

pub each_step : {X : Type 0} (text : X → List ℕ) (sep : List ℕ) (at : ℕ) (xs : List X) (d : X) → at < length xs → each_after sep (map text (drop at xs)) ≡ sep ++ text (get_or xs at d) ++ each_after sep (map text (drop (at + 1) xs))
each_step text sep at xs d h = at_drop_more (λ (ys : List _). each_after sep (map text ys)) xs at d h

pub each_end : {X : Type 0} (text : X → List ℕ) (sep : List ℕ) (at : ℕ) (xs : List X) → length xs ≤ at → each_after sep (map text (drop at xs)) ≡ []
each_end text sep at xs h = at_drop_all (λ (ys : List _). each_after sep (map text ys)) xs at h

-- ---- parts in order

pub all_step : (done : List Ava) (at : ℕ) (xs : List Ava) (d : Ava) → at < length xs → put_all done (drop at xs) ≡ put_all (put_part (get_or xs at d) done) (drop (at + 1) xs)
unfolding put_all
all_step done at xs d h = at_drop_more (put_all done) xs at d h

pub all_end : (done : List Ava) (at : ℕ) (xs : List Ava) → length xs ≤ at → put_all done (drop at xs) ≡ done
unfolding put_all
all_end done at xs h = at_drop_all (put_all done) xs at h

pub joined_first : {X : Type 0} (text : X → List ℕ) (sep : List ℕ) (xs : List X) (d : X) → 0 < length xs → joined sep (map text xs) ≡ text (get_or xs 0 d) ++ each_after sep (map text (drop 1 xs))
joined_first text sep [] d h = absurd (omega arith)
joined_first text sep (x ∷ xs) d h = joined-cons sep (text x) (map text xs)

-- the first text, and then the others, where the others stand as they are cut
pub joined_both : {X : Type 0} (text : X → List ℕ) (sep : List ℕ) (xs : List X) (first : X) (out out1 out2 : List ℕ) (more : List X) → 0 < length xs → first ≡ get_or xs 0 first → more ≡ drop 1 xs → out1 ≡ out ++ text first → out2 ≡ out1 ++ each_after sep (map text more) → out2 ≡ out ++ joined sep (map text xs)
joined_both text sep xs first out out1 out2 more h is cut e1 e2 =
    e2 ∙ ap (λ (o : List ℕ). o ++ each_after sep (map text more)) e1 ∙ append_assoc out (text first) (each_after sep (map text more))
    ∙ ap (λ (ys : List _). out ++ (text first ++ each_after sep (map text ys))) cut
    ∙ ap (λ (x : _). out ++ (text x ++ each_after sep (map text (drop 1 xs)))) is
    ∙ ap (λ (r : List ℕ). out ++ r) (sym (joined_first text sep xs first h))
