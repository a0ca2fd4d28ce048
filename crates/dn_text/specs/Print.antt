-- How a name is printed: the text of its RDNs, each with its parts in order of attribute, with commas
-- between (RFC 4514, section 2). The text of an RDN is that of `repl_data`.
use Rattle.std.specs.Prelude.{ℕ, Bool, true, ◌&&◌, List, [], ◌∷◌, ◌++◌, map, codes}
use Rattle.repl_data.specs.declared.change.Ava.{Ava}
use Rattle.repl_data.specs.declared.change.Rdn.{Rdn}
use Rattle.repl_data.specs.Text.{joined, rdn_text}
use Rattle.dn_text.specs.declared.name.Dn.{Dn}
use Rattle.dn_text.specs.Reading.{comes_before, put_part}

-- a separator before each text
abbrev pub each_after : List ℕ → List (List ℕ) → List ℕ
each_after sep [] = []
each_after sep (p ∷ ps) = sep ++ p ++ each_after sep ps

-- these parts, which are in order, and the others
unfoldable pub put_all : List Ava → List Ava → List Ava
put_all done [] = done
put_all done (a ∷ more) = put_all (put_part a done) more

-- the parts stand in strictly rising order of attribute
abbrev pub is_rising : List Ava → Bool
is_rising [] = true
is_rising (a ∷ []) = true
is_rising (a ∷ b ∷ more) = comes_before a b && is_rising (b ∷ more)

-- the RDN with its parts in order of attribute
abbrev pub in_order : Rdn → Rdn
in_order rdn = record { avas = put_all [] rdn.avas }

abbrev pub rdns_text : List Rdn → List ℕ
rdns_text rdns = joined (codes ",") (map (λ (r : Rdn). rdn_text (in_order r)) rdns)

abbrev pub dn_text : Dn → List ℕ
dn_text dn = rdns_text dn.rdns
