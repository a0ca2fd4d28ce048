-- One entry more, under a limit, and what a selection chooses of it.
use Rattle.std.proofs.Common.{◌≡◌, ℕ, zero, suc, ◌+◌, ◌<◌, ◌≤◌, Bool, true, false, ◌&&◌, cond, List, [], ◌∷◌, ◌++◌, length, take, map, nat_le, nat_lt, refl, sym, ap, subst, ◌∙◌, arith}
use Rattle.std.proofs.lemmas.Bool.Decides.{nat_tests}
use Rattle.std.proofs.lemmas.List.{length-append, take-append-le, take_all, length-map, length-take-le, map-append}
use Rattle.std.specs.Prelude.{◌||◌, filter}
use Rattle.repl_data.specs.declared.change.Shown.{Shown}
use Rattle.repl_data.specs.declared.change.ShownEntry.{ShownEntry}
use Rattle.ldap_types.specs.declared.request.SearchRequest.{SearchRequest}
use Rattle.search_core.specs.declared.found.Hits.{Hits}
use Rattle.search_core.specs.declared.selection.Selection.{Selection}
use Rattle.search_core.specs.Selection.{has_name, with_values, selected}
use Rattle.search_core.specs.Selected.{Chooses, chosen}
use Rattle.search_core.specs.Hits.{is_over, up_to}
use Rattle.search_core.specs.Search.{told}

lt_true : (m n : ℕ) → m < n → nat_lt m n ≡ true
lt_true m n h = grind (arith, nat_tests)

lt_false : (m n : ℕ) → n ≤ m → nat_lt m n ≡ false
lt_false m n h = grind (arith, nat_tests)

lt_from : (m n : ℕ) → nat_lt m n ≡ true → m < n
lt_from m n h = grind (arith, nat_tests)

le_from : (m n : ℕ) → nat_lt m n ≡ false → n ≤ m
le_from m n h = grind (arith, nat_tests)

below_from : (m n : ℕ) → nat_le m n ≡ false → n < m
below_from m n h = grind (arith, nat_tests)

reach_from : (m n : ℕ) → nat_le m n ≡ true → m ≤ n
reach_from m n h = grind (arith, nat_tests)

module _ {X : Type 0} (limit : ℕ) where
  over_yes : (xs : List X) → 0 < limit → limit < length xs → is_over limit xs ≡ true
  over_yes xs h g = λ i. lt_true 0 limit h i && lt_true limit (length xs) g i

  over_low : (xs : List X) → length xs ≤ limit → is_over limit xs ≡ false
  over_low xs h = by (nat_lt 0 limit)
    where
      by : (b : Bool) → (b && nat_lt limit (length xs)) ≡ false
      by true = lt_false limit (length xs) h
      by false = refl

  over_none : (xs : List X) → nat_lt 0 limit ≡ false → is_over limit xs ≡ false
  over_none xs h = ap (λ b. b && nat_lt limit (length xs)) h

module _ (r : SearchRequest) where
  abbrev of : Bool → List ShownEntry → Hits
  of b all = record { entries = map (selected r.attrs r.types_only) (cond b (take r.size_limit all) all); over = b }

  as_told : (all : List ShownEntry) (b : Bool) → is_over r.size_limit all ≡ b → told r all ≡ of b all
  as_told all b h = ap (λ c. of c all) h

  one_longer : (all : List ShownEntry) (e : ShownEntry) → length (all ++ e ∷ []) ≡ length all + 1
  one_longer all e = length-append all (e ∷ [])

  -- the limit was passed, or is passed now
  passed : (all : List ShownEntry) (e : ShownEntry) → 0 < r.size_limit → r.size_limit ≤ length all → record (told r all) { over = true } ≡ told r (all ++ e ∷ [])
  passed all e some full =
      let longer : r.size_limit < length (all ++ e ∷ []) = subst (λ n. r.size_limit < n) (sym (one_longer all e)) (omega arith) in
      ap (λ (es : List ShownEntry). let h : Hits = record { entries = map (selected r.attrs r.types_only) es; over = true } in h)
      (kept (nat_lt r.size_limit (length all)) refl ∙ sym (take-append-le r.size_limit all (e ∷ []) full))
      ∙ sym (as_told (all ++ e ∷ []) true (over_yes r.size_limit (all ++ e ∷ []) some longer))
    where
      kept : (b : Bool) → nat_lt r.size_limit (length all) ≡ b → up_to r.size_limit all ≡ take r.size_limit all
      kept true h = ap (λ c. cond c (take r.size_limit all) all) (over_yes r.size_limit all some (lt_from r.size_limit (length all) h))
      kept false h =
          ap (λ c. cond c (take r.size_limit all) all) (over_low r.size_limit all (le_from r.size_limit (length all) h))
          ∙ sym (take_all r.size_limit all (le_from r.size_limit (length all) h))

  -- or there is room for it
  fits : (all : List ShownEntry) (e : ShownEntry) → is_over r.size_limit all ≡ false → is_over r.size_limit (all ++ e ∷ []) ≡ false
      → told r (all ++ e ∷ []) ≡ record { entries = (told r all).entries ++ selected r.attrs r.types_only e ∷ []; over = (told r all).over }
  fits all e h g =
      as_told (all ++ e ∷ []) false g
      ∙ ap (λ (es : List ShownEntry). let x : Hits = record { entries = es; over = false } in x) (map-append (selected r.attrs r.types_only) all (e ∷ []))
      ∙ sym (ap (λ (x : Hits). let y : Hits = record { entries = x.entries ++ selected r.attrs r.types_only e ∷ []; over = x.over } in y) (as_told all false h))

  -- ---- as they are told

  pub take_over : (all : List ShownEntry) (e : ShownEntry) → (nat_lt 0 r.size_limit && nat_le r.size_limit (length (told r all).entries)) ≡ true → record (told r all) { over = true } ≡ told r (all ++ e ∷ [])
  take_over all e h =
      let some : 0 < r.size_limit = lt_from 0 r.size_limit (front (nat_lt 0 r.size_limit) (nat_le r.size_limit (length (told r all).entries)) h) in
      passed all e some (reach (nat_lt r.size_limit (length all)) refl (reach_from r.size_limit (length (told r all).entries) (back (nat_lt 0 r.size_limit) (nat_le r.size_limit (length (told r all).entries)) h)))
    where
      front : (a b : Bool) → (a && b) ≡ true → a ≡ true
      front true b k = refl
      front false b k = k

      back : (a b : Bool) → (a && b) ≡ true → b ≡ true
      back true b k = k
      back false b k = let f : false ≡ true = k in cc

      reach : (b : Bool) → nat_lt r.size_limit (length all) ≡ b → r.size_limit ≤ length (told r all).entries → r.size_limit ≤ length all
      reach true k l = let m : r.size_limit < length all = lt_from r.size_limit (length all) k in omega arith
      reach false k l =
          subst (λ n. r.size_limit ≤ n)
          (ap (λ (x : Hits). length x.entries) (as_told all false (over_low r.size_limit all (le_from r.size_limit (length all) k))) ∙ length-map all (selected r.attrs r.types_only)) l

  pub take_one : (all : List ShownEntry) (e : ShownEntry) → (nat_lt 0 r.size_limit && nat_le r.size_limit (length (told r all).entries)) ≡ false
      → told r (all ++ e ∷ []) ≡ record { entries = (told r all).entries ++ selected r.attrs r.types_only e ∷ []; over = (told r all).over }
  take_one all e h = by (nat_lt 0 r.size_limit) refl h
    where
      short : 0 < r.size_limit → nat_le r.size_limit (length (told r all).entries) ≡ false → (b : Bool) → nat_lt r.size_limit (length all) ≡ b → length all < r.size_limit
      short some k true l =
          let m : r.size_limit < length all = lt_from r.size_limit (length all) l in
          let n : length (told r all).entries ≡ r.size_limit =
          ap (λ (x : Hits). length x.entries) (as_told all true (over_yes r.size_limit all some m))
          ∙ length-map (take r.size_limit all) (selected r.attrs r.types_only) ∙ length-take-le r.size_limit all (omega arith) in
          let f : length (told r all).entries < r.size_limit = below_from r.size_limit (length (told r all).entries) k in
          absurd (omega arith)
      short some k false l =
          subst (λ n. n < r.size_limit)
          (ap (λ (x : Hits). length x.entries) (as_told all false (over_low r.size_limit all (le_from r.size_limit (length all) l))) ∙ length-map all (selected r.attrs r.types_only))
          (below_from r.size_limit (length (told r all).entries) k)

      by : (b : Bool) → nat_lt 0 r.size_limit ≡ b → (b && nat_le r.size_limit (length (told r all).entries)) ≡ false
          → told r (all ++ e ∷ []) ≡ record { entries = (told r all).entries ++ selected r.attrs r.types_only e ∷ []; over = (told r all).over }
      by false z k = fits all e (over_none r.size_limit all z) (over_none r.size_limit (all ++ e ∷ []) z)
      by true z k =
          let l : length all < r.size_limit = short (lt_from 0 r.size_limit z) k (nat_lt r.size_limit (length all)) refl in
          fits all e (over_low r.size_limit all (omega arith)) (over_low r.size_limit (all ++ e ∷ []) (subst (λ n. n ≤ r.size_limit) (sym (one_longer all e)) (omega arith)))

  -- once there is more than the limit, what comes later changes nothing
  pub over_stays : (all more : List ShownEntry) → (told r all).over ≡ true → told r all ≡ told r (all ++ more)
  over_stays all more h =
      let n : r.size_limit < length all = lt_from r.size_limit (length all) (back (nat_lt 0 r.size_limit) (nat_lt r.size_limit (length all)) h) in
      as_told all true h
      ∙ ap (λ (es : List ShownEntry). let x : Hits = record { entries = map (selected r.attrs r.types_only) es; over = true } in x) (sym (take-append-le r.size_limit all more (omega arith)))
      ∙ sym (as_told (all ++ more) true (over_yes r.size_limit (all ++ more) some (subst (λ m. r.size_limit < m) (sym (length-append all more)) (omega arith))))
    where
      back : (a b : Bool) → (a && b) ≡ true → b ≡ true
      back true b k = k
      back false b k = let f : false ≡ true = k in cc

      front : (a b : Bool) → (a && b) ≡ true → a ≡ true
      front true b k = refl
      front false b k = k

      some : 0 < r.size_limit
      some = lt_from 0 r.size_limit (front (nat_lt 0 r.size_limit) (nat_lt r.size_limit (length all)) h)

-- ---- a selection

pub chosen_selected : (s : Selection) (names : List (List ℕ)) (types_only : Bool) (e : ShownEntry) → Chooses s names types_only → chosen s e ≡ selected names types_only e
chosen_selected s names types_only e c =
    λ i. record e { attrs = cond (c.nothing i) [] (map (with_values (c.types i)) (filter (λ (x : Shown). cond x.operational (c.operational i) (c.users i) || has_name x.attr.name (c.keys i)) e.attrs)) }
