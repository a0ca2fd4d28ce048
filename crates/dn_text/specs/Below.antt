-- Which names are below which.
use Rattle.std.specs.Prelude.{◌≡◌, ℕ, ◌+◌, Bool, true, false, ◌&&◌, List, [], ◌∷◌, length, map, drop, bytes_eq}
use Rattle.repl_data.specs.declared.change.Ava.{Ava}
use Rattle.repl_data.specs.declared.change.Rdn.{Rdn}
use Rattle.repl_data.specs.Order.{rdn_key}
use Rattle.dn_text.specs.declared.name.Dn.{Dn}

-- the keys of a name's RDNs, from the entry's own on
abbrev pub keys_of : List Rdn → List (List (List ℕ × List ℕ))
keys_of rdns = map rdn_key rdns

-- the name is this many RDNs and then those of the suffix, by their keys
pub record StandsAbove (name suffix : Dn) (count : ℕ) : Type 0 where
  pub lengths : count + length suffix.rdns ≡ length name.rdns
  pub same : keys_of (drop count name.rdns) ≡ keys_of suffix.rdns

-- the same parts, by attribute and key
abbrev pub is_same_part : Ava → Ava → Bool
is_same_part a b = bytes_eq a.attr.name b.attr.name && bytes_eq a.val.key b.val.key

unfoldable pub are_same_parts : List Ava → List Ava → Bool
are_same_parts [] [] = true
are_same_parts [] (b ∷ bs) = false
are_same_parts (a ∷ as') [] = false
are_same_parts (a ∷ as') (b ∷ bs) = is_same_part a b && are_same_parts as' bs

unfoldable pub are_same_rdns : List Rdn → List Rdn → Bool
are_same_rdns [] [] = true
are_same_rdns [] (s ∷ ss) = false
are_same_rdns (r ∷ rs) [] = false
are_same_rdns (r ∷ rs) (s ∷ ss) = are_same_parts r.avas s.avas && are_same_rdns rs ss
