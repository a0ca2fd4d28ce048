-- Names by the keys of their RDNs, and parts that are left out one by one.
use Rattle.std.proofs.Common.{◌≡◌, ℕ, ◌+◌, ◌<◌, List, [], ◌∷◌, ◌++◌, length, get_or, take, sym, ap, ◌∙◌, Bool}
use Rattle.std.specs.Prelude.{filter}
use Rattle.std.specs.Ordering.{is_eq}
use Rattle.std.specs.Cmp.Lexicographic.{slice_cmp}
use Rattle.std.proofs.lemmas.List.Elements.{filter_more}
use Rattle.repl_data.specs.declared.change.Ava.{Ava}
use Rattle.repl_data.specs.declared.change.Rdn.{Rdn}
use Rattle.repl_data.specs.Order.{rdn_key, rdn_key_cmp}
use Rattle.repl_data.proofs.Loops.{slice_cmp_map}
use Rattle.dn_text.specs.Names.{same_keys}

pub compared_keys : (a b : List Rdn) → is_eq (slice_cmp (λ (x : Rdn) (y : Rdn). rdn_key_cmp (rdn_key x) (rdn_key y)) a b) ≡ same_keys a b
compared_keys a b = ap is_eq (sym (slice_cmp_map rdn_key rdn_key_cmp a b))

pub one_more : (q : Ava → Bool) (parts before next : List Ava) (i : ℕ) (a : Ava) → i < length parts → a ≡ get_or parts i a → before ≡ filter q (take i parts) → next ≡ before ++ filter q (a ∷ []) → next ≡ filter q (take (i + 1) parts)
one_more q parts before next i a l is so_far h = h ∙ (λ j. so_far j ++ filter q (is j ∷ [])) ∙ sym (filter_more q parts i a l)
