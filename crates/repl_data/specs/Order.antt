-- The orders of stamps, ids and keys, and what is greatest or in order by them.
use Rattle.std.specs.Prelude.{ℕ, ◌+◌, ◌*◌, ◌^◌, Bool, List, [], ◌∷◌, map, if◌then◌else◌}
use Rattle.std.specs.declared.cmp.Ordering.{Ordering}
use Rattle.std.specs.declared.cmp.Ordering.TheVariants.{Less, Equal, Greater}
use Rattle.std.specs.Ordering.{nat_cmp, ordering_then, is_lt, is_le, eq_by_cmp}
use Rattle.std.specs.Cmp.Lexicographic.{slice_cmp}
use Rattle.repl_data.specs.declared.csn.Csn.{Csn}
use Rattle.repl_data.specs.declared.csn.Uid.{Uid}
use Rattle.repl_data.specs.declared.change.Rdn.{Rdn}
use Rattle.repl_data.specs.declared.change.Ava.{Ava}

-- by time, sequence number, replica id and subsequence number, in that sequence
abbrev pub csn_cmp : Csn → Csn → Ordering
csn_cmp a b =
    ordering_then (nat_cmp a.time b.time)
    (ordering_then (nat_cmp a.seq b.seq)
    (ordering_then (nat_cmp a.rid b.rid) (nat_cmp a.sub b.sub)))

abbrev pub csn_lt : Csn → Csn → Bool
csn_lt a b = is_lt (csn_cmp a b)

abbrev pub csn_le : Csn → Csn → Bool
csn_le a b = is_le (csn_cmp a b)

abbrev pub csn_eq : Csn → Csn → Bool
csn_eq = eq_by_cmp csn_cmp

-- the CSN that stands for none, below all others
abbrev pub zero_csn : Csn
zero_csn = record { time = 0; seq = 0; rid = 0; sub = 0 }

-- a CSN as one number of 80 bits: CSNs compare as these numbers do
unfoldable pub number_of : Csn → ℕ
number_of c = ((c.time * 2 ^ 16 + c.seq) * 2 ^ 16 + c.rid) * 2 ^ 16 + c.sub

abbrev pub uid_cmp : Uid → Uid → Ordering
uid_cmp u v = csn_cmp u.csn v.csn

abbrev pub uid_eq : Uid → Uid → Bool
uid_eq = eq_by_cmp uid_cmp

-- the id of the suffix entry
abbrev pub suffix_id : Uid
suffix_id = record { csn = zero_csn }

-- the stamp of the act number k of a change
abbrev pub stamp : Csn → ℕ → Csn
stamp c k = record c { sub = k }

-- bytes, as texts are ordered
abbrev pub bytes_cmp : List ℕ → List ℕ → Ordering
bytes_cmp = slice_cmp nat_cmp

abbrev pub bytes_eq : List ℕ → List ℕ → Bool
bytes_eq = eq_by_cmp bytes_cmp

-- f over the items, from the last on
abbrev pub foldr : {X A : Type 0} → (X → A → A) → A → List X → A
foldr f a [] = a
foldr f a (x ∷ xs) = f x (foldr f a xs)

-- the greatest stamp of a list, and zero where there is none
abbrev pub csn_max : Csn → Csn → Csn
csn_max a b = if csn_lt a b then b else a

abbrev pub greatest : List Csn → Csn
greatest = foldr csn_max zero_csn

-- what stands beside the greatest stamp, with that stamp, and `none` where there is nothing
abbrev pub later : {X : Type 0} → Csn × X → Csn × X → Csn × X
later a b = if csn_lt a.0 b.0 then b else a

abbrev pub latest_or : {X : Type 0} → Csn × X → List (Csn × X) → Csn × X
latest_or = foldr later

-- an RDN's key: its attributes, each with the key of its value
abbrev pub part_key : Ava → List ℕ × List ℕ
part_key a = (a.attr.name, a.val.key)

abbrev pub rdn_key : Rdn → List (List ℕ × List ℕ)
rdn_key rdn = map (λ (a : Ava). (a.attr.name, a.val.key)) rdn.avas

abbrev pub part_cmp : List ℕ × List ℕ → List ℕ × List ℕ → Ordering
part_cmp a b = ordering_then (bytes_cmp a.0 b.0) (bytes_cmp a.1 b.1)

abbrev pub rdn_key_cmp : List (List ℕ × List ℕ) → List (List ℕ × List ℕ) → Ordering
rdn_key_cmp = slice_cmp part_cmp

abbrev pub same_rdn : Rdn → Rdn → Bool
same_rdn a b = eq_by_cmp rdn_key_cmp (rdn_key a) (rdn_key b)

abbrev pub same_part : Ava → Ava → Bool
same_part a b = eq_by_cmp part_cmp (part_key a) (part_key b)

-- one of three, by a comparison
abbrev pub by_order : {X : Type 0} → Ordering → X → X → X → X
by_order Less a b c = a
by_order Equal a b c = b
by_order Greater a b c = c

-- an item in its place by key, instead of one of the same key
abbrev pub put_by : {K X : Type 0} → (X → K) → (K → K → Ordering) → X → List X → List X
put_by key cmp x [] = x ∷ []
put_by key cmp x (y ∷ ys) = by_order (cmp (key x) (key y)) (x ∷ y ∷ ys) (x ∷ ys) (y ∷ put_by key cmp x ys)

-- the items in rising order of key, of each key the first one
abbrev pub in_order_by : {K X : Type 0} → (X → K) → (K → K → Ordering) → List X → List X
in_order_by key cmp = foldr (put_by key cmp) []

-- the same of keys
abbrev pub in_order : {K : Type 0} → (K → K → Ordering) → List K → List K
in_order = in_order_by (λ k. k)
