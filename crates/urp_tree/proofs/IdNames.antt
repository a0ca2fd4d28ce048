-- NAMES WITH A PART FOR THE ID: which id they spell, and where that part stands.
use Rattle.std.proofs.Common.{◌≡◌, ℕ, zero, suc, ◌+◌, ◌<◌, ◌≤◌, List, [], ◌∷◌, ◌++◌, length, take, drop, get_or, map, Bool, true, false, cond, Option, Some, None, refl, sym, ap, ◌∙◌, arith, add-one, length-append, length-drop, ◌-◌}
use Rattle.std.specs.Prelude.{◌&&◌, ◌||◌, find, codes, option_map, insert}
use Rattle.std.specs.List.{list_any}
use Rattle.std.specs.Ordering.{is_eq, ordering_then}
use Rattle.std.specs.declared.cmp.Ordering.{Ordering}
use Rattle.std.specs.declared.cmp.Ordering.TheVariants.{Less, Equal, Greater}
use Rattle.std.proofs.lemmas.Cmp.{tied_itself}
use Rattle.std.proofs.Math.Seq.{drop-cons}
use Rattle.std.proofs.lemmas.List.{take-append-drop, map-append, take-map, drop-map, length-map, length-take-le}
use Rattle.repl_data.specs.declared.csn.Uid.{Uid}
use Rattle.repl_data.specs.declared.change.Ava.{Ava}
use Rattle.repl_data.specs.declared.change.Rdn.{Rdn}
use Rattle.repl_data.specs.Order.{bytes_cmp, part_key, part_cmp, rdn_key, rdn_key_cmp, same_rdn, put_by, by_order}
use Rattle.repl_data.specs.Text.{uid_text}
use Rattle.repl_data.specs.Names.{is_id_part, has_id, id_ava, with_id}
use Rattle.repl_data.proofs.Orders.{bytes_total, bytes_exact, rdn_key_exact}
use Rattle.repl_data.proofs.InOrder.{is_equal}
use Rattle.repl_data.proofs.Sound.{neither, not_both}

abbrev pub is_id : Ava → Bool
is_id a = is_id_part (part_key a)

-- among the parts of a name and among their keys
pub any_part : (parts : List Ava) → list_any is_id_part (map part_key parts) ≡ list_any is_id parts
any_part [] = refl
any_part (a ∷ parts) = ap (λ b. is_id a || b) (any_part parts)

pub find_part : (parts : List Ava) → find is_id_part (map part_key parts) ≡ option_map part_key (find is_id parts)
find_part [] = refl
find_part (a ∷ parts) = by (is_id a) (find_part parts)
  where
    by : (b : Bool) → find is_id_part (map part_key parts) ≡ option_map part_key (find is_id parts) → cond b (Some (part_key a)) (find is_id_part (map part_key parts)) ≡ option_map part_key (cond b (Some a) (find is_id parts))
    by true h = refl
    by false h = h

pub none_found : (parts : List Ava) → find is_id parts ≡ None → list_any is_id parts ≡ false
none_found [] h = refl
none_found (a ∷ parts) h = by (is_id a) h (none_found parts)
  where
    by : (b : Bool) → cond b (Some a) (find is_id parts) ≡ None → (find is_id parts ≡ None → list_any is_id parts ≡ false) → (b || list_any is_id parts) ≡ false
    by true k more = let f : ◌≡◌ {A = Option Ava} (Some a) None = k in cc
    by false k more = more k

pub some_found : (parts : List Ava) (p : Ava) → find is_id parts ≡ Some p → list_any is_id parts ≡ true
some_found [] p h = let f : ◌≡◌ {A = Option Ava} None (Some p) = h in cc
some_found (a ∷ parts) p h = by (is_id a) h (some_found parts p)
  where
    by : (b : Bool) → cond b (Some a) (find is_id parts) ≡ Some p → (find is_id parts ≡ Some p → list_any is_id parts ≡ true) → (b || list_any is_id parts) ≡ true
    by true k more = refl
    by false k more = more k

-- a name with an id spells it in its first part for one
pub with_id-find : (u : Uid) (parts : List Ava) → list_any is_id_part (map part_key parts) ≡ false → find is_id_part (map part_key (put_by (λ (a : Ava). a.attr.name) bytes_cmp (id_ava u) parts)) ≡ Some (codes "nsuniqueid", uid_text u)
with_id-find u [] h = refl
with_id-find u (a ∷ parts) h = let h' = neither _ _ h in by (bytes_cmp (codes "nsuniqueid") a.attr.name) h'.0 (with_id-find u parts h'.1)
  where
    put : List Ava → List Ava
    put = put_by (λ (a : Ava). a.attr.name) bytes_cmp (id_ava u)

    by : (o : Ordering) → is_id a ≡ false → find is_id_part (map part_key (put parts)) ≡ Some (codes "nsuniqueid", uid_text u) → find is_id_part (map part_key (by_order o (id_ava u ∷ a ∷ parts) (id_ava u ∷ parts) (a ∷ put parts))) ≡ Some (codes "nsuniqueid", uid_text u)
    by Less n g = refl
    by Equal n g = refl
    by Greater n g = ap (λ b. cond b (Some (part_key a)) (find is_id_part (map part_key (put parts)))) n ∙ g

-- a part with the name of an id's is one
pub none_at : (parts : List Ava) (i : ℕ) (d : Ava) → list_any is_id parts ≡ false → i < length parts → is_id (get_or parts i d) ≡ false
none_at [] i d h l = let f : i < 0 = l in absurd (omega (arith, f))
none_at (a ∷ parts) zero d h l = (neither _ _ h).0
none_at (a ∷ parts) (suc i) d h l = none_at parts i d (neither _ _ h).1 (omega (arith, l))

pub tied_is_id : (a : Ava) → bytes_cmp (codes "nsuniqueid") a.attr.name ≡ Equal → is_id a ≡ true
tied_is_id a h = ap (λ n. is_eq (bytes_cmp n (codes "nsuniqueid"))) (sym (bytes_exact (codes "nsuniqueid") a.attr.name h)) ∙ ap is_eq (tied_itself bytes_total (codes "nsuniqueid"))

pub put_end : (x : Ava) (parts : List Ava) (at : ℕ) → at ≡ length parts → put_by (λ (a : Ava). a.attr.name) bytes_cmp x parts ≡ take at parts ++ put_by (λ (a : Ava). a.attr.name) bytes_cmp x (drop at parts)
    → put_by (λ (a : Ava). a.attr.name) bytes_cmp x parts ≡ insert parts (length parts) x
put_end x parts at e so =
    so
    ∙ ap (λ n. take n parts ++ put_by (λ (a : Ava). a.attr.name) bytes_cmp x (drop n parts)) e
    ∙ ap (λ r. take (length parts) parts ++ put_by (λ (a : Ava). a.attr.name) bytes_cmp x r) (drop_all parts)
    ∙ ap (λ r. take (length parts) parts ++ x ∷ r) (sym (drop_all parts))
  where
    drop_all : (xs : List Ava) → drop (length xs) xs ≡ []
    drop_all [] = refl
    drop_all (y ∷ ys) = drop_all ys

-- a slice from a place on
take_all : (xs : List Ava) → take (length xs) xs ≡ xs
take_all [] = refl
take_all (x ∷ xs) = ap (λ r. x ∷ r) (take_all xs)

pub rest_is : (n : ℕ) (xs : List Ava) → take (length xs - n) (drop n xs) ≡ drop n xs
rest_is n xs = ap (λ m. take m (drop n xs)) (sym (length-drop n xs)) ∙ take_all (drop n xs)

-- NAMES IN PIECES
abbrev pub Part : Type 0
Part = List ℕ × List ℕ

both_tied : (o p : Ordering) → is_eq (ordering_then o p) ≡ (is_eq o && is_eq p)
both_tied Less p = refl
both_tied Equal p = refl
both_tied Greater p = refl

and_assoc : (a b c : Bool) → (a && (b && c)) ≡ ((a && b) && c)
and_assoc true b c = refl
and_assoc false b c = refl

pub same_pieces : (xs ys : List Part) (x y : Part) (us vs : List Part) → length xs ≡ length ys → is_eq (rdn_key_cmp (xs ++ x ∷ us) (ys ++ y ∷ vs)) ≡ (is_eq (rdn_key_cmp xs ys) && (is_eq (part_cmp x y) && is_eq (rdn_key_cmp us vs)))
same_pieces [] [] x y us vs h = both_tied (part_cmp x y) (rdn_key_cmp us vs)
same_pieces [] (b ∷ ys) x y us vs h = let e : 0 ≡ suc (length ys) = h in absurd (omega (arith, e))
same_pieces (a ∷ xs) [] x y us vs h = let e : suc (length xs) ≡ 0 = h in absurd (omega (arith, e))
same_pieces (a ∷ xs) (b ∷ ys) x y us vs h =
    both_tied (part_cmp a b) (rdn_key_cmp (xs ++ x ∷ us) (ys ++ y ∷ vs))
    ∙ ap (λ r. is_eq (part_cmp a b) && r) (same_pieces xs ys x y us vs (omega (arith, h)))
    ∙ and_assoc (is_eq (part_cmp a b)) (is_eq (rdn_key_cmp xs ys)) (is_eq (part_cmp x y) && is_eq (rdn_key_cmp us vs))
    ∙ ap (λ r. r && (is_eq (part_cmp x y) && is_eq (rdn_key_cmp us vs))) (sym (both_tied (part_cmp a b) (rdn_key_cmp xs ys)))

-- the parts of a name around one place
in_pieces : (parts : List Ava) (at : ℕ) (d : Ava) → at < length parts → map part_key parts ≡ map part_key (take at parts) ++ part_key (get_or parts at d) ∷ map part_key (drop (at + 1) parts)
in_pieces parts at d l =
    ap (map part_key) (sym (take-append-drop at parts) ∙ ap (λ ds. take at parts ++ ds) (drop-cons parts at d l ∙ ap (λ n. get_or parts at d ∷ drop n parts) (sym (add-one at))))
    ∙ map-append part_key (take at parts) (get_or parts at d ∷ drop (at + 1) parts)

abbrev pub joined : List Ava → ℕ → List ℕ → List Part
joined own at text = take at (map part_key own) ++ (codes "nsuniqueid", text) ∷ drop at (map part_key own)

pub joined_pieces : (own parts : List Ava) (at : ℕ) (text : List ℕ) (d : Ava) → at ≤ length own → at < length parts → is_eq (rdn_key_cmp (joined own at text) (map part_key parts))
    ≡ (is_eq (rdn_key_cmp (map part_key (take at own)) (map part_key (take at parts))) && (is_eq (part_cmp (codes "nsuniqueid", text) (part_key (get_or parts at d))) && is_eq (rdn_key_cmp (map part_key (drop at own)) (map part_key (drop (at + 1) parts)))))
joined_pieces own parts at text d o l =
    (λ i. is_eq (rdn_key_cmp (take-map part_key at own i ++ (codes "nsuniqueid", text) ∷ drop-map part_key at own i) (in_pieces parts at d l i)))
    ∙ same_pieces (map part_key (take at own)) (map part_key (take at parts)) (codes "nsuniqueid", text) (part_key (get_or parts at d)) (map part_key (drop at own)) (map part_key (drop (at + 1) parts))
    (length-map (take at own) part_key ∙ length-take-le at own o ∙ sym (length-take-le at parts (omega (arith, l))) ∙ sym (length-map (take at parts) part_key))

joined_length : (own : List Ava) (at : ℕ) (text : List ℕ) → length (joined own at text) ≡ suc (length own)
joined_length own at text =
    length-append (take at (map part_key own)) ((codes "nsuniqueid", text) ∷ drop at (map part_key own))
    ∙ add_suc (length (take at (map part_key own))) (length (drop at (map part_key own)))
    ∙ ap suc (sym (length-append (take at (map part_key own)) (drop at (map part_key own))) ∙ ap length (take-append-drop at (map part_key own)) ∙ length-map own part_key)
  where
    add_suc : (a b : ℕ) → a + suc b ≡ suc (a + b)
    add_suc a b = omega arith

pub joined_short : (own parts : List Ava) (at : ℕ) (text : List ℕ) → at ≤ length own → length parts ≤ at → is_eq (rdn_key_cmp (joined own at text) (map part_key parts)) ≡ false
joined_short own parts at text o l = by (is_eq (rdn_key_cmp (joined own at text) (map part_key parts))) refl
  where
    by : (b : Bool) → is_eq (rdn_key_cmp (joined own at text) (map part_key parts)) ≡ b → b ≡ false
    by false h = refl
    by true h =
        let same : joined own at text ≡ map part_key parts = rdn_key_exact (joined own at text) (map part_key parts) (is_equal (rdn_key_cmp (joined own at text) (map part_key parts)) h) in
        let long : suc (length own) ≡ length parts = sym (joined_length own at text) ∙ ap length same ∙ length-map parts part_key in
        absurd (omega (arith, long, o, l))

-- a name with the id in its place
pub joined_is : (u : Uid) (own rdn : Rdn) (at : ℕ) (text : List ℕ) → text ≡ uid_text u → put_by (λ (a : Ava). a.attr.name) bytes_cmp (id_ava u) own.avas ≡ insert own.avas at (id_ava u)
    → is_eq (rdn_key_cmp (joined own.avas at text) (rdn_key rdn)) ≡ same_rdn (with_id u own) rdn
joined_is u own rdn at text spelled put =
    ap (λ (k : List Part). is_eq (rdn_key_cmp k (rdn_key rdn)))
    (ap (joined own.avas at) spelled
    ∙ (λ i. take-map part_key at own.avas i ++ (codes "nsuniqueid", uid_text u) ∷ drop-map part_key at own.avas i)
    ∙ sym (map-append part_key (take at own.avas) (id_ava u ∷ drop at own.avas))
    ∙ ap (map part_key) (sym put))
