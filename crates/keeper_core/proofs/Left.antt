-- What a batch leaves under a key, and that rows are told apart by it.
use Rattle.std.proofs.Common.{◌≡◌, ℕ, Bool, true, false, ◌||◌, List, [], ◌∷◌, ◌++◌, refl, sym, ap, subst, ◌∙◌, not, cond, Some, None}
use Rattle.std.specs.List.{AllByRecursion, list_any}
use Rattle.std.specs.declared.cmp.Ordering.{Ordering}
use Rattle.std.specs.declared.cmp.Ordering.TheVariants.{Less, Equal, Greater}
use Rattle.std.specs.Ordering.{is_eq, ordering_reverse}
use Rattle.repl_data.specs.Order.{by_order}
use Rattle.repl_data.proofs.Sound.{neither}
use Rattle.keeper_core.specs.declared.row.RowKey.{RowKey}
use Rattle.keeper_core.specs.declared.row.Row.{Row}
use Rattle.keeper_core.specs.declared.row.BatchStep.{BatchStep}
use Rattle.keeper_core.specs.declared.row.BatchStep.TheVariants.{Put, Remove}
use Rattle.keeper_core.specs.Rows.{key_cmp, key_eq, IsRising, bytes_at, after_step, after_batch, is_on}
use Rattle.keeper_core.proofs.Keys.{key_total, key_exact, same_key, key_eq-self}
use Rattle.keeper_core.proofs.Placed.{put, without, IsRising-put, IsRising-without, below_all}

here : (key : RowKey) (r : Row) (rows : List Row) → key_eq key r.key ≡ true → bytes_at key (r ∷ rows) ≡ Some r.bytes
here key r rows e = ap (λ b. cond b (Some r.bytes) (bytes_at key rows)) e

past : (key : RowKey) (r : Row) (rows : List Row) → key_eq key r.key ≡ false → bytes_at key (r ∷ rows) ≡ bytes_at key rows
past key r rows e = ap (λ b. cond b (Some r.bytes) (bytes_at key rows)) e

-- a row that is put stands under its key
bytes_at-put : (x : Row) (rows : List Row) → bytes_at x.key (put x rows) ≡ Some x.bytes
bytes_at-put x [] = here x.key x [] (key_eq-self x.key)
bytes_at-put x (y ∷ ys) = by (bytes_at-put x ys) (key_cmp x.key y.key) refl
  where
    by : bytes_at x.key (put x ys) ≡ Some x.bytes → (o : Ordering) → key_cmp x.key y.key ≡ o → bytes_at x.key (by_order o (x ∷ y ∷ ys) (x ∷ ys) (y ∷ put x ys)) ≡ Some x.bytes
    by more Less e = here x.key x (y ∷ ys) (key_eq-self x.key)
    by more Equal e = here x.key x ys (key_eq-self x.key)
    by more Greater e = past x.key y (put x ys) (ap is_eq e) ∙ more

-- and under no other
bytes_at-put_other : (key : RowKey) (x : Row) (rows : List Row) → key_eq key x.key ≡ false → bytes_at key (put x rows) ≡ bytes_at key rows
bytes_at-put_other key x [] n = past key x [] n
bytes_at-put_other key x (y ∷ ys) n = by (bytes_at-put_other key x ys n) (key_cmp x.key y.key) refl
  where
    by : bytes_at key (put x ys) ≡ bytes_at key ys → (o : Ordering) → key_cmp x.key y.key ≡ o → bytes_at key (by_order o (x ∷ y ∷ ys) (x ∷ ys) (y ∷ put x ys)) ≡ bytes_at key (y ∷ ys)
    by more Less e = past key x (y ∷ ys) n
    by more Equal e = past key x ys n ∙ sym (past key y ys (subst (λ k. key_eq key k ≡ false) (key_exact x.key y.key e) n))
    by more Greater e = ap (λ o. cond (key_eq key y.key) (Some y.bytes) o) more

bytes_at-without : (key : RowKey) (rows : List Row) → bytes_at key (without key rows) ≡ None
bytes_at-without key [] = refl
bytes_at-without key (y ∷ ys) = by (bytes_at-without key ys) (key_eq key y.key) refl
  where
    by : bytes_at key (without key ys) ≡ None → (b : Bool) → key_eq key y.key ≡ b → bytes_at key (cond (not b) (y ∷ without key ys) (without key ys)) ≡ None
    by more true e = more
    by more false e = past key y (without key ys) e ∙ more

bytes_at-without_other : (key other : RowKey) (rows : List Row) → key_eq key other ≡ false → bytes_at key (without other rows) ≡ bytes_at key rows
bytes_at-without_other key other [] n = refl
bytes_at-without_other key other (y ∷ ys) n = by (bytes_at-without_other key other ys n) (key_eq other y.key) refl
  where
    by : bytes_at key (without other ys) ≡ bytes_at key ys → (b : Bool) → key_eq other y.key ≡ b → bytes_at key (cond (not b) (y ∷ without other ys) (without other ys)) ≡ bytes_at key (y ∷ ys)
    by more true e = more ∙ sym (past key y ys (subst (λ k. key_eq key k ≡ false) (same_key other y.key e) n))
    by more false e = ap (λ o. cond (key_eq key y.key) (Some y.bytes) o) more

-- a step leaves what stands under the keys that it is not on
bytes_at-step : (key : RowKey) (rows : List Row) (step : BatchStep) → is_on key step ≡ false → bytes_at key (after_step rows step) ≡ bytes_at key rows
bytes_at-step key rows (Put k bytes) n = bytes_at-put_other key (record { key = k; bytes = bytes }) rows n
bytes_at-step key rows (Remove k) n = bytes_at-without_other key k rows n

pub bytes_at-others : (rows : List Row) (batch : List BatchStep) (key : RowKey) → list_any (is_on key) batch ≡ false → bytes_at key (after_batch rows batch) ≡ bytes_at key rows
bytes_at-others rows [] key n = refl
bytes_at-others rows (step ∷ steps) key n =
    let h = neither (is_on key step) (list_any (is_on key) steps) n in
    bytes_at-others (after_step rows step) steps key h.1 ∙ bytes_at-step key rows step h.0

pub after_batch-append : (rows : List Row) (before after : List BatchStep) → after_batch rows (before ++ after) ≡ after_batch (after_batch rows before) after
after_batch-append rows [] after = refl
after_batch-append rows (step ∷ steps) after = after_batch-append (after_step rows step) steps after

pub bytes_at-last_put : (rows : List Row) (before after : List BatchStep) (key : RowKey) (bytes : List ℕ) → list_any (is_on key) after ≡ false
    → bytes_at key (after_batch rows (before ++ Put key bytes ∷ after)) ≡ Some bytes
bytes_at-last_put rows before after key bytes n =
    ap (bytes_at key) (after_batch-append rows before (Put key bytes ∷ after))
    ∙ bytes_at-others (after_step (after_batch rows before) (Put key bytes)) after key n
    ∙ bytes_at-put (record { key = key; bytes = bytes }) (after_batch rows before)

pub bytes_at-last_remove : (rows : List Row) (before after : List BatchStep) (key : RowKey) → list_any (is_on key) after ≡ false
    → bytes_at key (after_batch rows (before ++ Remove key ∷ after)) ≡ None
bytes_at-last_remove rows before after key n =
    ap (bytes_at key) (after_batch-append rows before (Remove key ∷ after))
    ∙ bytes_at-others (after_step (after_batch rows before) (Remove key)) after key n
    ∙ bytes_at-without key (after_batch rows before)

pub IsRising-step : (rows : List Row) (step : BatchStep) → IsRising rows → IsRising (after_step rows step)
IsRising-step rows (Put key bytes) h = IsRising-put (record { key = key; bytes = bytes }) rows h
IsRising-step rows (Remove key) h = IsRising-without key rows h

pub IsRising-batch : (rows : List Row) (batch : List BatchStep) → IsRising rows → IsRising (after_batch rows batch)
IsRising-batch rows [] h = h
IsRising-batch rows (step ∷ steps) h = IsRising-batch (after_step rows step) steps (IsRising-step rows step h)

-- nothing stands under a key below all rows
bytes_at-above : (key : RowKey) (rows : List Row) → AllByRecursion (λ (s : Row). key_cmp key s.key ≡ Less) rows → bytes_at key rows ≡ None
bytes_at-above key [] h = refl
bytes_at-above key (y ∷ ys) h = past key y ys (ap is_eq h.0) ∙ bytes_at-above key ys h.1

first_missing : (x y : Row) (xs ys : List Row) → IsRising (y ∷ ys) → key_cmp x.key y.key ≡ Less → bytes_at x.key (x ∷ xs) ≡ bytes_at x.key (y ∷ ys) → ⊥
first_missing x y xs ys r e h =
    let f = sym (here x.key x xs (key_eq-self x.key)) ∙ h ∙ bytes_at-above x.key (y ∷ ys) (e, below_all x.key y.key ys e r.0) in
    cc

some_is : {X : Type 0} (a b : X) → Some a ≡ Some b → a ≡ b
some_is a b e = cc

-- what is below all of both lists stands in neither
pub rows-same : (one other : List Row) → IsRising one → IsRising other → ((key : RowKey) → bytes_at key one ≡ bytes_at key other) → one ≡ other
rows-same [] [] r s h = refl
rows-same [] (y ∷ ys) r s h = let f = h y.key ∙ here y.key y ys (key_eq-self y.key) in absurd cc
rows-same (x ∷ xs) [] r s h = let f = sym (here x.key x xs (key_eq-self x.key)) ∙ h x.key in absurd cc
rows-same (x ∷ xs) (y ∷ ys) r s h = by (rows-same xs ys r.1 s.1) (key_cmp x.key y.key) refl
  where
    head : key_cmp x.key y.key ≡ Equal → x ≡ y
    head e =
        let k : x.key ≡ y.key = key_exact x.key y.key e in
        let f : Some x.bytes ≡ Some y.bytes = sym (here x.key x xs (key_eq-self x.key)) ∙ h x.key ∙ here x.key y ys (ap is_eq e) in
        let b : x.bytes ≡ y.bytes = some_is x.bytes y.bytes f in
        λ i. record { key = k i; bytes = b i }

    rest : key_cmp x.key y.key ≡ Equal → (key : RowKey) → bytes_at key xs ≡ bytes_at key ys
    rest e key = at (key_eq key x.key) refl
      where
        k : x.key ≡ y.key
        k = key_exact x.key y.key e

        at : (b : Bool) → key_eq key x.key ≡ b → bytes_at key xs ≡ bytes_at key ys
        at true t =
            let p : x.key ≡ key = sym (same_key key x.key t) in
            bytes_at-above key xs (subst (λ w. AllByRecursion (λ (s : Row). key_cmp w s.key ≡ Less) xs) p r.0)
            ∙ sym (bytes_at-above key ys (subst (λ w. AllByRecursion (λ (s : Row). key_cmp w s.key ≡ Less) ys) (sym k ∙ p) s.0))
        at false t =
            sym (past key x xs t) ∙ h key ∙ past key y ys (subst (λ w. key_eq key w ≡ false) k t)

    by : (((key : RowKey) → bytes_at key xs ≡ bytes_at key ys) → xs ≡ ys) → (o : Ordering) → key_cmp x.key y.key ≡ o → x ∷ xs ≡ y ∷ ys
    by more Less e = absurd (first_missing x y xs ys s e (h x.key))
    by more Equal e = λ i. head e i ∷ more (rest e) i
    by more Greater e = absurd (first_missing y x ys xs r (key_total.antisymm y.key x.key ∙ ap ordering_reverse e) (sym (h y.key)))
