-- Counting along a list of attributes.
use Rattle.std.proofs.Common.{◌≡◌, ℕ, ◌+◌, ◌^◌, ◌<◌, ◌≤◌, Bool, true, false, cond, not, List, [], ◌∷◌, ◌++◌, length, get_or, drop, map, take, refl, sym, ap, ◌∙◌, arith, Option, Some, None, append-nil, append_assoc, nat_lt}
use Rattle.std.proofs.lemmas.List.{map-append}
use Rattle.std.proofs.lemmas.List.Sums.{sum_by-cons}
use Rattle.std.specs.Prelude.{is_none, count_by}
use Rattle.std.proofs.lemmas.Bool.Decides.{nat_tests}
use Rattle.std.proofs.lemmas.List.{at_drop_more, at_drop_all, take_more}
use Rattle.std.specs.declared.cmp.Ordering.{Ordering}
use Rattle.std.specs.declared.cmp.Ordering.TheVariants.{Less, Equal, Greater}
use Rattle.repl_data.specs.declared.change.Ava.{Ava}
use Rattle.repl_data.specs.declared.change.Rdn.{Rdn}
use Rattle.repl_data.specs.Order.{bytes_cmp, by_order, in_order}
use Rattle.repl_data.proofs.Orders.{bytes_total, bytes_exact}
use Rattle.repl_data.proofs.InOrder.{in_order_by-append}
use Rattle.attr_keys.specs.Name.{bad_name}
use Rattle.attr_keys.specs.Table.{key_of}
use Rattle.ldap_types.specs.declared.request.RawAttr.{RawAttr}
use Rattle.rule_values.specs.Listed.{is_name, named_keys, attribute_count}
use Rattle.rule_values.specs.Counting.{own_key, put_key, counted_on}

pub no_key : (given : RawAttr) (name : List ℕ) (place : ℕ) → name ≡ given.name → bad_name name ≡ Some place → None ≡ cond (is_name given) (Some (key_of given.name)) None
no_key given name place e h =
    sym (ap (λ (o : Option ℕ). cond (is_none o) (Some (key_of given.name)) None) (ap bad_name (sym e) ∙ h))

put_longer : (x : List ℕ) (xs : List (List ℕ)) → length xs ≤ length (put_key x xs)
put_longer x [] = omega arith
put_longer x (y ∷ ys) = by (put_longer x ys) (bytes_cmp x y)
  where
    by : length ys ≤ length (put_key x ys) → (o : Ordering) → length (y ∷ ys) ≤ length (by_order o (x ∷ y ∷ ys) (x ∷ ys) (y ∷ put_key x ys))
    by more Less = omega arith
    by more Equal = omega arith
    by more Greater = omega arith

pub counted_grows : (keys : List (List ℕ)) (unread : ℕ) (given : List RawAttr) → length keys + unread ≤ counted_on keys unread given
unfolding counted_on
counted_grows keys unread [] = omega arith
counted_grows keys unread (a ∷ more) =
    by (is_name a) (counted_grows (put_key (key_of a.name) keys) unread more) (counted_grows keys (unread + 1) more)
  where
    by : (b : Bool) → length (put_key (key_of a.name) keys) + unread ≤ counted_on (put_key (key_of a.name) keys) unread more → length keys + (unread + 1) ≤ counted_on keys (unread + 1) more → length keys + unread ≤ cond b (counted_on (put_key (key_of a.name) keys) unread more) (counted_on keys (unread + 1) more)
    by true p q = let l : length keys ≤ length (put_key (key_of a.name) keys) = put_longer (key_of a.name) keys in omega arith
    by false p q = omega arith

abbrev unread : List RawAttr → ℕ
unread given = count_by (λ (a : RawAttr). not (is_name a)) given

abbrev keys_with : List (List ℕ) → List RawAttr → ℕ
keys_with xs given = length (in_order bytes_cmp (xs ++ named_keys given))

counted_step : (k : List ℕ) (xs nk : List (List ℕ)) (n c d went stayed : ℕ) (b : Bool) → d ≡ cond (not b) 1 0 + c → went ≡ length (in_order bytes_cmp (xs ++ k ∷ nk)) + (n + c) → stayed ≡ length (in_order bytes_cmp (xs ++ nk)) + (n + 1 + c) → cond b went stayed ≡ length (in_order bytes_cmp (xs ++ (cond b (k ∷ []) [] ++ nk))) + (n + d)
counted_step k xs nk n c d went stayed true e p q = omega arith
counted_step k xs nk n c d went stayed false e p q = omega arith

counted_all : (xs : List (List ℕ)) (n : ℕ) (given : List RawAttr) → counted_on (in_order bytes_cmp xs) n given ≡ keys_with xs given + (n + unread given)
unfolding counted_on
counted_all xs n [] =
    let e : length (in_order bytes_cmp (xs ++ [])) ≡ length (in_order bytes_cmp xs) = ap (λ (ys : List (List ℕ)). length (in_order bytes_cmp ys)) (append-nil xs) in
    omega arith
counted_all xs n (a ∷ more) =
    let k : List ℕ = key_of a.name in
    counted_step k xs (named_keys more) n (unread more) (unread (a ∷ more)) (counted_on (put_key k (in_order bytes_cmp xs)) n more) (counted_on (in_order bytes_cmp xs) (n + 1) more) (is_name a)
    (sum_by-cons (λ (x : RawAttr). cond (not (is_name x)) 1 0) a more)
    (ap (λ (ks : List (List ℕ)). counted_on ks n more) (sym (in_order_by-append bytes_cmp bytes_total own_key bytes_exact xs k))
    ∙ counted_all (xs ++ k ∷ []) n more
    ∙ ap (λ (ys : List (List ℕ)). length (in_order bytes_cmp ys) + (n + unread more)) (append_assoc xs (k ∷ []) (named_keys more)))
    (counted_all xs (n + 1) more)

pub counted_from : (rdn : Rdn) (keys : List (List ℕ)) (given : List RawAttr) → keys ≡ in_order bytes_cmp (map (λ (a : Ava). a.attr.name) rdn.avas) → counted_on keys 0 given ≡ attribute_count rdn given
unfolding attribute_count
counted_from rdn keys given h =
    ap (λ (ks : List (List ℕ)). counted_on ks 0 given) h ∙ counted_all (map (λ (a : Ava). a.attr.name) rdn.avas) 0 given
    ∙ (let z : 0 + unread given ≡ unread given = omega arith in ap (λ (m : ℕ). keys_with (map (λ (a : Ava). a.attr.name) rdn.avas) given + m) z)

-- ---- the loops

pub names_more : (keys new : List (List ℕ)) (avas : List Ava) (i : ℕ) (a : Ava) (name : List ℕ) → i < length avas → a ≡ get_or avas i a → name ≡ a.attr.name → keys ≡ in_order bytes_cmp (map (λ (x : Ava). x.attr.name) (take i avas)) → new ≡ put_key name keys → new ≡ in_order bytes_cmp (map (λ (x : Ava). x.attr.name) (take (i + 1) avas))
names_more keys new avas i a name l e n so_far h =
    h ∙ (λ t. put_key (n t) (so_far t))
    ∙ sym (in_order_by-append bytes_cmp bytes_total own_key bytes_exact (map (λ (x : Ava). x.attr.name) (take i avas)) a.attr.name)
    ∙ ap (in_order bytes_cmp) (sym (map-append (λ (x : Ava). x.attr.name) (take i avas) (a ∷ [])))
    ∙ ap (λ (xs : List Ava). in_order bytes_cmp (map (λ (x : Ava). x.attr.name) xs)) (ap (λ (x : Ava). take i avas ++ x ∷ []) e ∙ sym (take_more avas i a l))

pub over_early : (keys : List (List ℕ)) (n total : ℕ) (given : List RawAttr) (b : Bool) → b ≡ nat_lt 500 (length keys + n) → b ≡ true → counted_on keys n given ≡ total → true ≡ nat_lt 500 total
over_early keys n total given b e t so_far =
    let g : length keys + n ≤ counted_on keys n given = counted_grows keys n given in
    let over : nat_lt 500 (length keys + n) ≡ true = sym e ∙ t in
    lt_up (length keys + n) total over (omega arith)
  where
    lt_up : (m k : ℕ) → nat_lt 500 m ≡ true → m ≤ k → true ≡ nat_lt 500 k
    lt_up m k h l = grind (arith, nat_tests)

counted_step_at : (keys : List (List ℕ)) (n : ℕ) (given : List RawAttr) (i : ℕ) (a : RawAttr) → i < length given → a ≡ get_or given i a → counted_on keys n (drop i given) ≡ cond (is_name a) (counted_on (put_key (key_of a.name) keys) n (drop (i + 1) given)) (counted_on keys (n + 1) (drop (i + 1) given))
unfolding counted_on
counted_step_at keys n given i a l e =
    at_drop_more (counted_on keys n) given i a l
    ∙ ap (λ (x : RawAttr). cond (is_name x) (counted_on (put_key (key_of x.name) keys) n (drop (i + 1) given)) (counted_on keys (n + 1) (drop (i + 1) given))) (sym e)

pub counted_more : (keys new : List (List ℕ)) (n m total : ℕ) (given : List RawAttr) (i : ℕ) (a : RawAttr) → i < length given → a ≡ get_or given i a → counted_on keys n (drop i given) ≡ total
    → new ≡ cond (is_name a) (put_key (key_of a.name) keys) keys → m ≡ cond (is_name a) n (n + 1) → counted_on new m (drop (i + 1) given) ≡ total
counted_more keys new n m total given i a l e so_far h g =
    (λ t. counted_on (h t) (g t) (drop (i + 1) given))
    ∙ by (is_name a) ∙ sym (counted_step_at keys n given i a l e) ∙ so_far
  where
    by : (b : Bool) → counted_on (cond b (put_key (key_of a.name) keys) keys) (cond b n (n + 1)) (drop (i + 1) given) ≡ cond b (counted_on (put_key (key_of a.name) keys) n (drop (i + 1) given)) (counted_on keys (n + 1) (drop (i + 1) given))
    by true = refl
    by false = refl

pub counted_end : (keys : List (List ℕ)) (n total : ℕ) (given : List RawAttr) (i : ℕ) → length given ≤ i → counted_on keys n (drop i given) ≡ total → length keys + n ≡ total
unfolding counted_on
counted_end keys n total given i l so_far = sym (at_drop_all (counted_on keys n) given i l) ∙ so_far

pub unread_fits : (a n : ℕ) (b : Bool) → b ≡ nat_lt 500 (a + n) → b ≡ false → n + 1 < 2 ^ 64
unread_fits a n b e f =
    let le : a + n ≤ 500 = not_lt (a + n) (sym e ∙ f) in
    omega arith
  where
    not_lt : (m : ℕ) → nat_lt 500 m ≡ false → m ≤ 500
    not_lt m h = grind (arith, nat_tests)
