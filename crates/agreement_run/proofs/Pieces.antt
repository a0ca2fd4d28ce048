-- Pieces of what is held.
use Rattle.std.proofs.Common.{take_at, length-take-le, length-drop, ◌≡◌, ℕ, ◌+◌, ◌-◌, ◌≤◌, List, ◌++◌, Option, length, take, drop, sym, ap, ◌∙◌, arith, take-add, append_assoc, ◌⊎◌, inl, inr, Err, Ok}
use Rattle.std.proofs.KnownBytes.{Consumes-trans}
use Rattle.std.proofs.lemmas.List.{drop-take}
use Rattle.std.specs.Io.KnownBytes.{Consumes, IsAtEnd}
use Rattle.io_edge.specs.Causes.{Rose}
use Rattle.ber_core.specs.Window.{More}
use Rattle.ldap_replies.specs.Grammar.{reply_at}
use Rattle.agreement_run.specs.declared.next.Next.TheVariants as next
use Rattle.agreement_run.specs.Waiting.{Comes, Meets}

-- what came was read behind what was held
pub some_came : (held old new written : List ℕ) (count n : ℕ) (left left_now : Option (List ℕ))
    → held ≡ take count old → take count new ≡ take count old → written ≡ new → Consumes left left_now (take n (drop count new))
    → Comes held left (take (count + n) written) left_now
some_came held old new written count n left left_now is kept same came = record {
  piece = take n (drop count new);
  joined = ap (take (count + n)) same ∙ take-add count n new ∙ ap (λ l. l ++ take n (drop count new)) (kept ∙ sym is);
  taken = came;
}

-- pieces one behind the other
pub came_more : (held now next : List ℕ) (left left_now left_next : Option (List ℕ)) → Comes held left now left_now → Comes now left_now next left_next → Comes held left next left_next
came_more held now next left left_now left_next before after = record {
  piece = before.piece ++ after.piece;
  joined = after.joined ∙ ap (λ l. l ++ after.piece) before.joined ∙ append_assoc held before.piece after.piece;
  taken = Consumes-trans left left_now left_next before.piece after.piece before.taken after.taken;
}

-- the first of what was held is gone, and what was behind it stands in front
pub front_gone : (held old row new : List ℕ) (size count : ℕ) → held ≡ take count old → row ≡ old → size ≤ length held → count ≤ length old
    → new ≡ take 0 row ++ take (count - size) (drop size row) ++ drop (0 + (count - size)) row
    → take (count - size) new ≡ drop size held
front_gone held old row new size count held_is row_is some within is =
    let fits : size ≤ count = omega (arith, some, ap length held_is, length-take-le count old within) in
    let whole : size + (count - size) ≡ count = omega (arith, fits) in
    let long : count - size ≤ length (drop size row) = omega (arith, length-drop size row, ap length row_is, fits, within) in
    ap (take (count - size)) is
    ∙ take_at (take (count - size) (drop size row)) (drop (0 + (count - size)) row) (count - size) (length-take-le (count - size) (drop size row) long)
    ∙ sym (drop-take size (count - size) row)
    ∙ ap (λ (k : ℕ). drop size (take k row)) whole
    ∙ ap (λ (l : List ℕ). drop size (take count l)) row_is
    ∙ ap (drop size) (sym held_is)

-- ---- no reply came

-- the count rose in the last call, so in all
pub rose_since : (before now next : ℕ) → before ≤ now → Rose now next → Rose before next
rose_since before now next later rose = omega (arith, later, rose)

pub since : (first before now : ℕ) (left : Option (List ℕ)) → first ≤ before → Rose before now ⊎ IsAtEnd left → Rose first now ⊎ IsAtEnd left
since first before now left later (inl rose) = inl (rose_since first before now later rose)
since first before now left later (inr end) = inr end

-- the bytes want more, and the read brought none
pub meets_none : (held here there bytes : List ℕ) (left left_here left_there : Option (List ℕ)) (first before now : ℕ) → Comes held left here left_here → Comes here left_here there left_there
    → bytes ≡ here → reply_at 2097152 bytes ≡ Err More → there ≡ here → first ≤ before → Rose before now ⊎ IsAtEnd left_there
    → Meets held left first (Ok next.Unanswered) there left_there now
meets_none held here there bytes left left_here left_there first before now came none same more kept later cause = record {
  all = there;
  comes = came_more held here there left left_here left_there came none;
  meets = (ap (reply_at 2097152) (kept ∙ sym same) ∙ more, since first before now left_there later cause);
}
