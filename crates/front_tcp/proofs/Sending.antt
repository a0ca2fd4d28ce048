-- What is sent of the bytes that wait, piece by piece.
use Rattle.std.proofs.Common.{◌≡◌, ℕ, ◌≤◌, List, [], ◌++◌, Option, length, take, drop, sym, ap, ◌∙◌, subst, take_at, append_assoc, append-nil, length-take-le, take-append-drop}
use Rattle.std.proofs.KnownBytes.{Appends-trans}
use Rattle.std.specs.Io.KnownBytes.{Appends}
use Rattle.io_edge.specs.Edge.{AppendsFront}

-- a front of what waited was appended, and the rest waits
pub record Sent (waiting : List ℕ) (contents : Option (List ℕ)) (rest : List ℕ) (after : Option (List ℕ)) : Type 0 where
  pub done : List ℕ
  pub split : waiting ≡ done ++ rest
  pub appended : Appends contents after done

-- the first bytes of a filled buffer are the first that waited
pub front_of : (rest out filled : List ℕ) (n : ℕ) → n ≤ length rest → filled ≡ take n rest ++ drop n out → take n filled ≡ take n rest
front_of rest out filled n within is = ap (take n) is ∙ take_at (take n rest) (drop n out) n (length-take-le n rest within)

pub sends_more : (waiting rest out filled left : List ℕ) (n : ℕ) (a b c : Option (List ℕ)) → Sent waiting a rest b → n ≤ length rest
    → filled ≡ take n rest ++ drop n out → left ≡ drop n rest → Appends b c (take n filled) → Sent waiting a left c
sends_more waiting rest out filled left n a b c s within is left_is wrote = record {
  done = s.done ++ take n rest;
  split = s.split ∙ ap (λ l. s.done ++ l) (sym (take-append-drop n rest)) ∙ sym (append_assoc s.done (take n rest) (drop n rest)) ∙ ap (λ l. (s.done ++ take n rest) ++ l) (sym left_is);
  appended = Appends-trans a b c s.done (take n rest) s.appended (subst (Appends b c) (front_of rest out filled n within is) wrote);
}

-- a front of what follows is a front of the whole
pub front_more : (bs more : List ℕ) (a b c : Option (List ℕ)) → Appends a b bs → AppendsFront b c more → AppendsFront a c (bs ++ more)
front_more bs more a b c before (front, rest, split, appended) =
    (bs ++ front, rest, ap (λ l. bs ++ l) split ∙ sym (append_assoc bs front rest), Appends-trans a b c bs front before appended)

-- so is a front with more behind it
pub front_of_more : (piece more : List ℕ) (a b : Option (List ℕ)) → AppendsFront a b piece → AppendsFront a b (piece ++ more)
front_of_more piece more a b (front, rest, split, appended) =
    (front, rest ++ more, ap (λ l. l ++ more) split ∙ append_assoc front rest more, appended)

pub sends_front : (waiting rest out filled : List ℕ) (n : ℕ) (a b c : Option (List ℕ)) → Sent waiting a rest b → n ≤ length rest
    → filled ≡ take n rest ++ drop n out → AppendsFront b c (take n filled) → AppendsFront a c waiting
sends_front waiting rest out filled n a b c s within is wrote =
    let piece = subst (AppendsFront b c) (front_of rest out filled n within is) wrote in
    let whole = subst (AppendsFront b c) (take-append-drop n rest) (front_of_more (take n rest) (drop n rest) b c piece) in
    subst (AppendsFront a c) (sym s.split) (front_more s.done rest a b c s.appended whole)

pub sends_all : (waiting rest : List ℕ) (a b : Option (List ℕ)) → Sent waiting a rest b → rest ≡ [] → Appends a b waiting
sends_all waiting rest a b s none = subst (Appends a b) (sym (s.split ∙ ap (λ l. s.done ++ l) none ∙ append-nil s.done)) s.appended
