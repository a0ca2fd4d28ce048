-- The bodies of a delete and of a modify DN pass `check` at a CSN above their entry.
use Rattle.std.proofs.Common.{◌≡◌, ◌≢◌, ℕ, Bool, true, false, cond, not, ◌||◌, List, [], ◌∷◌, ◌++◌, map, refl, sym, ap, subst, ◌∙◌, Result, Ok, Option, Some, None, eq-eqb, nat_lt}
use Rattle.std.specs.Prelude.{filter, is_none, option_map, drop}
use Rattle.std.specs.List.{AllByRecursion, list_any, list_all, position_from}
use Rattle.std.specs.declared.cmp.Ordering.TheVariants.{Less}
use Rattle.std.specs.Ordering.{is_lt}
use Rattle.repl_data.specs.declared.csn.Csn.{Csn}
use Rattle.repl_data.specs.declared.csn.Uid.{Uid}
use Rattle.repl_data.specs.declared.change.Ava.{Ava}
use Rattle.repl_data.specs.declared.change.Rdn.{Rdn}
use Rattle.repl_data.specs.declared.change.Body.{Body}
use Rattle.repl_data.specs.declared.change.Body.TheVariants.{Add, Mod as Modify, Ren, Del}
use Rattle.repl_data.specs.declared.change.Change.{Change}
use Rattle.repl_data.specs.declared.change.Suffix.{Suffix}
use Rattle.repl_data.specs.declared.change.Malformed.{Malformed}
use Rattle.repl_data.specs.declared.change.Malformed.TheVariants.{Rid, Sub, Order, Root, TooHeavy, Empty, DoubleKey, Derived}
use Rattle.repl_data.specs.Order.{bytes_cmp, uid_eq, suffix_id}
use Rattle.repl_data.specs.Types.{is_derived_ava}
use Rattle.repl_data.specs.Check.{fault_if, fault_at, is_empty, falls_after, parts_of, part_falls, weight, faults_of_frame, faults_of_body, fault_of, double_places, derived_places}
use Rattle.repl_data.specs.Closed.{is_sound, needed}
use Rattle.repl_data.specs.Facts.{names_given, is_in_name}
use Rattle.repl_data.specs.View.{DirectoryView, children_of, name_of, view_of}
use Rattle.repl_data.proofs.Orders.{bytes_total}
use Rattle.repl_data.proofs.Sound.{neither, not_true, not_false, both_true, no_faults}
use Rattle.repl_data.proofs.CheckLaws.{any-position}
use Rattle.repl_data.proofs.Known.{any_map}
use Rattle.repl_data.proofs.Loops.{all_filter, all_mono}
use Rattle.dn_text.specs.declared.name.Dn.{Dn}
use Rattle.dn_text.specs.declared.fault.DnFault.{DnFault}
use Rattle.dn_text.specs.Laws.{IsReadable, AreReadable, AreReadableParts, IsReadablePart}
use Rattle.dn_text.specs.Reading.{dn_in}
use Rattle.dn_text.specs.Names.{entry_at}
use Rattle.dn_text.specs.Names.{read_object}
use Rattle.ldap_rules.specs.Ordered.{Rises}
use Rattle.ldap_rules.specs.Laws.{IsDrawnAbove, has_entry}
use Rattle.ldap_rules.specs.Carried.{CarriesKeys, AllCarryKeys}
use Rattle.ldap_rules.specs.Delete.{delete_made}
use Rattle.ldap_rules.specs.Rename.{only, read_new, stays_below, is_taken, parts, dropped_parts, is_second, own_values, rename_made}
use Rattle.ldap_rules.proofs.Places.{is_less}
use Rattle.ldap_rules.proofs.Chains.{by_pass, by_free}
use Rattle.ldap_rules.proofs.Checked.{any_both, nowhere, no_first, none_falls, parts_rise, no_empty_part, ids_of_supplier}
use Rattle.ldap_rules.proofs.There.{entry_there}
use Rattle.ldap_rules.proofs.Entries.{entry_below}
use Rattle.ldap_rules.proofs.OwnNames.{Names, own_name}

abbrev part_name : Ava → List ℕ
part_name a = a.attr.name

abbrev done : Unit {0}
done = tt

-- ---- a good name: its parts rise, and none is derived

record IsGoodName (rdn : Rdn) : Type 0 where
  rises : Rises part_name rdn.avas
  plain : list_any is_derived_ava rdn.avas ≡ false

all_above : (x y : Ava) (zs : List Ava) → bytes_cmp (part_name x) (part_name y) ≡ Less → AllByRecursion (λ z. bytes_cmp (part_name y) (part_name z) ≡ Less) zs → AllByRecursion (λ z. bytes_cmp (part_name x) (part_name z) ≡ Less) zs
all_above x y zs l h = all_mono (λ z. bytes_cmp (part_name y) (part_name z) ≡ Less) (λ z. bytes_cmp (part_name x) (part_name z) ≡ Less) (λ z k. bytes_total.trans (part_name x) (part_name y) (part_name z) l k) zs h

rises_after : (x : Ava) (xs : List Ava) → list_any (λ b. b) (falls_after part_name x xs) ≡ false → Rises part_name (x ∷ xs)
rises_after x [] h = (tt, tt)
rises_after x (y ∷ xs) h =
    let h' = neither (not (is_lt (bytes_cmp (part_name x) (part_name y)))) (list_any (λ b. b) (falls_after part_name y xs)) h in
    let l : bytes_cmp (part_name x) (part_name y) ≡ Less = is_less (bytes_cmp (part_name x) (part_name y)) (not_false (is_lt (bytes_cmp (part_name x) (part_name y))) h'.0) in
    let r : Rises part_name (y ∷ xs) = rises_after y xs h'.1 in
    ((l, all_above x y xs l r.0), r)

rises_from : (xs : List Ava) → list_any (λ b. b) (part_falls xs) ≡ false → Rises part_name xs
rises_from [] h = tt
rises_from (x ∷ xs) h = rises_after x xs h

any_first : (xs ys : List Bool) → list_any (λ b. b) (xs ++ ys) ≡ false → list_any (λ b. b) xs ≡ false
any_first [] ys h = refl
any_first (x ∷ xs) ys h =
    let h' = neither x (list_any (λ b. b) (xs ++ ys)) h in
    ap (λ t. t || list_any (λ b. b) xs) h'.0 ∙ any_first xs ys h'.1

none_at : (fault : ℕ → Malformed) (places : List Bool) → is_none (fault_at fault places) ≡ true → list_any (λ b. b) places ≡ false
none_at fault places h = not_true _ (sym (any-position 0 places) ∙ by (position_from (λ b. b) 0 places) h)
  where
    by : (o : Option ℕ) → is_none (option_map fault o) ≡ true → is_none o ≡ true
    by None e = refl
    by (Some k) e = e

-- a sound change gives good names
sound_names : (c : Change) → is_sound c ≡ true → AllByRecursion (λ (p : Csn × Rdn). IsGoodName p.1) (names_given c.csn c.body)
sound_names c h = by c.body
    (none_at DoubleKey (double_places c.body) (no_faults (faults_of_frame c ++ faults_of_body c.body) h).1.1.1.1.1.1.1.0)
    (none_at Derived (derived_places c.body) (no_faults (faults_of_frame c ++ faults_of_body c.body) h).1.1.1.1.1.1.1.1.0)
  where
    by : (b : Body) → list_any (λ b. b) (double_places b) ≡ false → list_any (λ b. b) (derived_places b) ≡ false → AllByRecursion (λ (p : Csn × Rdn). IsGoodName p.1) (names_given c.csn b)
    by (Add parent rdn attrs) d n = (
      record {
        rises = rises_from rdn.avas (any_first (part_falls rdn.avas) _ d);
        plain = sym (any_map (λ b. b) is_derived_ava rdn.avas) ∙ any_first (map is_derived_ava rdn.avas) _ n;
      },
      tt,
    )
    by (Modify mods) d n = tt
    by (Ren rdn dropped) d n = (
      record {
        rises = rises_from rdn.avas (any_first (part_falls rdn.avas) _ d);
        plain = sym (any_map (λ b. b) is_derived_ava rdn.avas) ∙ any_first (map is_derived_ava rdn.avas) _ n;
      },
      tt,
    )
    by Del d n = tt

all_sound_names : (xs : List Change) → list_all is_sound xs ≡ true → AllByRecursion (Names IsGoodName) xs
all_sound_names [] h = tt
all_sound_names (x ∷ xs) h = let h' = both_true (is_sound x) (list_all is_sound xs) h in (sound_names x h'.0, all_sound_names xs h'.1)

-- a change that carries keys gives names that do
abbrev HasOwnParts : Rdn → Type 0
HasOwnParts rdn = AllByRecursion IsReadablePart rdn.avas

carried_names : (c : Change) → CarriesKeys c.body → AllByRecursion (λ (p : Csn × Rdn). HasOwnParts p.1) (names_given c.csn c.body)
carried_names c h = by c.body h
  where
    by : (b : Body) → CarriesKeys b → AllByRecursion (λ (p : Csn × Rdn). HasOwnParts p.1) (names_given c.csn b)
    by (Add parent rdn attrs) k = (k.0, tt)
    by (Modify mods) k = tt
    by (Ren rdn dropped) k = (k.0, tt)
    by Del k = tt

-- ---- parts that are left out

rises_filtered : (q : Ava → Bool) (xs : List Ava) → Rises part_name xs → Rises part_name (filter q xs)
rises_filtered q [] h = tt
rises_filtered q (x ∷ xs) h = by (q x) (rises_filtered q xs h.1)
  where
    by : (b : Bool) → Rises part_name (filter q xs) → Rises part_name (cond b (x ∷ filter q xs) (filter q xs))
    by true g = (all_filter (λ y. bytes_cmp (part_name x) (part_name y) ≡ Less) q xs h.0, g)
    by false g = g

none_filtered : (p q : Ava → Bool) (xs : List Ava) → list_any p xs ≡ false → list_any p (filter q xs) ≡ false
none_filtered p q [] h = refl
none_filtered p q (x ∷ xs) h = let h' = neither (p x) (list_any p xs) h in by (q x) h'.0 (none_filtered p q xs h'.1)
  where
    by : (b : Bool) → p x ≡ false → list_any p (filter q xs) ≡ false → list_any p (cond b (x ∷ filter q xs) (filter q xs)) ≡ false
    by true n g = ap (λ t. t || list_any p (filter q xs)) n ∙ g
    by false n g = g

-- what holds of all parts of an entry's own name holds of those that go
module _ (P : List Ava → Type 0) (none : P []) (fewer : (q : Ava → Bool) (xs : List Ava) → P xs → P (filter q xs)) where
  parts_such : (o : Option Rdn) → ((rdn : Rdn) → o ≡ Some rdn → P rdn.avas) → P (parts o)
  parts_such None f = none
  parts_such (Some rdn) f = f rdn refl

  dropped_such : (v : DirectoryView) (u : Uid) (old : Bool) (new : Rdn) → ((rdn : Rdn) → name_of v u ≡ Some rdn → P rdn.avas) → P (dropped_parts v u old new)
  dropped_such v u true new f = fewer (λ (a : Ava). not (is_in_name new a.attr a.val.key)) (parts (name_of v u)) (parts_such (name_of v u) f)
  dropped_such v u false new f = none

-- ---- the bodies

delete_sound : (c : Csn) (u : Uid) → uid_eq u suffix_id ≡ false → IsDrawnAbove c u → fault_of (record { csn = c; target = u; body = Del }) ≡ None
delete_sound c u child drawn =
    let change : Change = record { csn = c; target = u; body = Del } in
    no_first (faults_of_frame change ++ faults_of_body Del) (
      ap (λ t. fault_if t Rid) (ids_of_supplier c u drawn),
      (
        ap (λ t. fault_if (not t) Sub) (eq-eqb c.sub 0 drawn.sub),
        (
          ap (λ t. fault_if (not t) Order) drawn.later,
          (
            ap (λ t. fault_if t Root) child,
            (refl, (refl, (refl, (refl, (refl, (refl, done)))))),
          ),
        ),
      ),
    )

renamed_sound : (c : Csn) (u : Uid) (new : Rdn) (dropped : List Ava) → uid_eq u suffix_id ≡ false → new.avas ≢ [] → AreReadableParts new.avas → list_any is_derived_ava new.avas ≡ false
    → Rises part_name dropped → list_any is_derived_ava dropped ≡ false → nat_lt 2097152 (weight (Ren new dropped)) ≡ false → IsDrawnAbove c u
    → fault_of (record { csn = c; target = u; body = Ren new dropped }) ≡ None
renamed_sound c u new dropped child full readable plain rises underived light drawn =
    let body : Body = Ren new dropped in
    let change : Change = record { csn = c; target = u; body = body } in
    let double : List Bool = part_falls new.avas ++ part_falls dropped in
    let derived : List Bool = map is_derived_ava new.avas ++ map is_derived_ava dropped in
    let d : list_any (λ b. b) double ≡ false = any_both (part_falls new.avas) (part_falls dropped) (none_falls part_name new.avas (parts_rise new.avas readable)) (none_falls part_name dropped rises) in
    let v : list_any (λ b. b) derived ≡ false = any_both (map is_derived_ava new.avas) (map is_derived_ava dropped) (any_map (λ b. b) is_derived_ava new.avas ∙ plain) (any_map (λ b. b) is_derived_ava dropped ∙ underived) in
    no_first (faults_of_frame change ++ faults_of_body body) (
      ap (λ t. fault_if t Rid) (ids_of_supplier c u drawn),
      (
        ap (λ t. fault_if (not t) Sub) (eq-eqb c.sub 0 drawn.sub),
        (
          ap (λ t. fault_if (not t) Order) drawn.later,
          (
            ap (λ t. fault_if t Root) child,
            (
              refl,
              (
                ap (λ t. fault_if t TooHeavy) light,
                (
                  ap (option_map Empty) (nowhere 0 (parts_of new) (no_empty_part new full)),
                  (
                    ap (option_map DoubleKey) (nowhere 0 double d),
                    (
                      ap (option_map Derived) (nowhere 0 derived v),
                      (refl, done),
                    ),
                  ),
                ),
              ),
            ),
          ),
        ),
      ),
    )

-- ---- what the rules write

record IsDeleted (v : DirectoryView) (rdns : List Rdn) (change : Uid × Body) : Type 0 where
  below : is_empty rdns ≡ false
  entry : entry_at v rdns ≡ Ok change.0
  body : change.1 ≡ Del

deleted : (v : DirectoryView) (rdns : List Rdn) (change : Uid × Body) → delete_made v rdns ≡ Ok change → IsDeleted v rdns change
unfolding delete_made
deleted v rdns change h =
    by_free (is_empty rdns) 53 _ change h (λ below h1.
    by_pass (entry_at v rdns) _ change h1 (λ u at h2.
    by_free (not (is_empty (children_of v u))) 66 _ change h2 (λ leaf e.
    let is : ◌≡◌ {A = Uid × Body} (u, Del) change = cc in
    record { below = below; entry = at ∙ ap Ok (ap (λ (p : Uid × Body). p.0) is); body = ap (λ (p : Uid × Body). p.1) (sym is) })))

record IsRenamed (v : DirectoryView) (new_rdn : List ℕ) (old : Bool) (rdns : List Rdn) (change : Uid × Body) : Type 0 where
  name : Dn
  new : Rdn
  below : is_empty rdns ≡ false
  entry : entry_at v rdns ≡ Ok change.0
  read : dn_in new_rdn ≡ Ok name
  one : name.rdns ≡ new ∷ []
  plain : list_any is_derived_ava new.avas ≡ false
  body : change.1 ≡ Ren new (dropped_parts v change.0 old new)

pub read_as : (r : Result Dn DnFault) (name : Dn) → read_object r ≡ Ok name → r ≡ Ok name
read_as (Ok dn) name h = let e : dn ≡ name = cc in ap Ok e
read_as (Result.Err e) name h = let n : ⊥ = cc in absurd n

only_one : (rdns : List Rdn) (rdn : Rdn) → only rdns ≡ Ok rdn → rdns ≡ rdn ∷ []
only_one [] rdn h = let n : ⊥ = cc in absurd n
only_one (r ∷ []) rdn h = let e : r ≡ rdn = cc in ap (λ x. x ∷ []) e
only_one (r ∷ next ∷ more) rdn h = let n : ⊥ = cc in absurd n

renamed : (v : DirectoryView) (new_rdn : List ℕ) (old : Bool) (superior : Option (List ℕ)) (rdns : List Rdn) (change : Uid × Body) → rename_made v new_rdn old superior rdns ≡ Ok change → IsRenamed v new_rdn old rdns change
unfolding rename_made
renamed v new_rdn old superior rdns change h =
    by_free (is_empty rdns) 53 _ change h (λ below h1.
    by_pass (entry_at v rdns) _ change h1 (λ u at h2.
    by_pass (read_new new_rdn) _ change h2 (λ new read h3.
    by_pass (stays_below v (drop 1 rdns) superior) _ change h3 (λ _ stays h4.
    by_free (list_any is_derived_ava new.avas) 64 _ change h4 (λ plain h5.
    by_free (is_taken v u new) 68 _ change h5 (λ free h6.
    by_free (list_any (is_second (own_values v u) (dropped_parts v u old new)) new.avas) 19 _ change h6 (λ single e.
    by_pass (read_object (dn_in new_rdn)) _ new read (λ name r o.
    let is : ◌≡◌ {A = Uid × Body} (u, Ren new (dropped_parts v u old new)) change = cc in
    subst (IsRenamed v new_rdn old rdns) is (record {
      name = name;
      new = new;
      below = below;
      entry = at;
      read = read_as (dn_in new_rdn) name r;
      one = only_one name.rdns new o;
      plain = plain;
      body = refl;
    })))))))))

abbrev Reads : Type 0
Reads = (text : List ℕ) (dn : Dn) → dn_in text ≡ Ok dn → IsReadable dn

-- THEY PASS `check`
pub delete_checked : (v : DirectoryView) (rdns : List Rdn) (change : Uid × Body) (c : Csn) → delete_made v rdns ≡ Ok change → IsDrawnAbove c change.0 → fault_of (record { csn = c; target = change.0; body = change.1 }) ≡ None
delete_checked v rdns change c h drawn =
    let d = deleted v rdns change h in
    ap (λ b. fault_of (record { csn = c; target = change.0; body = b })) d.body ∙ delete_sound c change.0 (entry_below v rdns change.0 d.below d.entry) drawn

pub rename_checked : (suffix : Suffix) (xs : List Change) (new_rdn : List ℕ) (old : Bool) (superior : Option (List ℕ)) (rdns : List Rdn) (change : Uid × Body) (c : Csn) → Reads
    → list_all is_sound xs ≡ true → rename_made (view_of suffix xs) new_rdn old superior rdns ≡ Ok change → nat_lt 2097152 (weight change.1) ≡ false → IsDrawnAbove c change.0
    → fault_of (record { csn = c; target = change.0; body = change.1 }) ≡ None
rename_checked suffix xs new_rdn old superior rdns change c law sound h light drawn =
    let v : DirectoryView = view_of suffix xs in
    let r = renamed v new_rdn old superior rdns change h in
    let readable : AreReadable (r.new ∷ []) = subst AreReadable r.one (law new_rdn r.name r.read) in
    let child : uid_eq change.0 suffix_id ≡ false = entry_below v rdns change.0 r.below r.entry in
    let good : (rdn : Rdn) → name_of v change.0 ≡ Some rdn → IsGoodName rdn = λ rdn n. own_name IsGoodName suffix xs change.0 rdn (all_sound_names xs sound) child n in
    ap (λ b. fault_of (record { csn = c; target = change.0; body = b })) r.body
    ∙ renamed_sound c change.0 r.new (dropped_parts v change.0 old r.new) child readable.0 readable.1 r.plain
    (dropped_such (Rises part_name) tt rises_filtered v change.0 old r.new (λ rdn n. (good rdn n).rises))
    (dropped_such (λ avas. list_any is_derived_ava avas ≡ false) refl (none_filtered is_derived_ava) v change.0 old r.new (λ rdn n. (good rdn n).plain))
    (subst (λ b. nat_lt 2097152 (weight b) ≡ false) r.body light) drawn

-- THEIR ENTRY IS THERE
pub delete_there : (v : DirectoryView) (rdns : List Rdn) (change : Uid × Body) → delete_made v rdns ≡ Ok change → has_entry v change.0 ≡ true
delete_there v rdns change h = entry_there v rdns change.0 (deleted v rdns change h).entry

pub rename_there : (v : DirectoryView) (new_rdn : List ℕ) (old : Bool) (superior : Option (List ℕ)) (rdns : List Rdn) (change : Uid × Body) → rename_made v new_rdn old superior rdns ≡ Ok change → has_entry v change.0 ≡ true
rename_there v new_rdn old superior rdns change h = entry_there v rdns change.0 (renamed v new_rdn old superior rdns change h).entry

-- which is what they need
pub delete_needs : (v : DirectoryView) (rdns : List Rdn) (change : Uid × Body) → delete_made v rdns ≡ Ok change → needed change.0 change.1 ≡ change.0
delete_needs v rdns change h = ap (needed change.0) (deleted v rdns change h).body

pub rename_needs : (v : DirectoryView) (new_rdn : List ℕ) (old : Bool) (superior : Option (List ℕ)) (rdns : List Rdn) (change : Uid × Body) → rename_made v new_rdn old superior rdns ≡ Ok change → needed change.0 change.1 ≡ change.0
rename_needs v new_rdn old superior rdns change h = ap (needed change.0) (renamed v new_rdn old superior rdns change h).body

-- THEY CARRY THE KEYS OF THEIR SPELLINGS
pub each_readable : (avas : List Ava) → AreReadableParts avas → AllByRecursion IsReadablePart avas
each_readable [] h = tt
each_readable (a ∷ avas) h = (h.0, each_readable avas h.2)

pub delete_carries : (v : DirectoryView) (rdns : List Rdn) (change : Uid × Body) → delete_made v rdns ≡ Ok change → CarriesKeys change.1
delete_carries v rdns change h = subst CarriesKeys (sym (deleted v rdns change h).body) tt

pub rename_carries : (suffix : Suffix) (xs : List Change) (new_rdn : List ℕ) (old : Bool) (superior : Option (List ℕ)) (rdns : List Rdn) (change : Uid × Body) → Reads
    → AllCarryKeys xs → rename_made (view_of suffix xs) new_rdn old superior rdns ≡ Ok change → CarriesKeys change.1
rename_carries suffix xs new_rdn old superior rdns change law carried h =
    let v : DirectoryView = view_of suffix xs in
    let r = renamed v new_rdn old superior rdns change h in
    let readable : AreReadable (r.new ∷ []) = subst AreReadable r.one (law new_rdn r.name r.read) in
    let child : uid_eq change.0 suffix_id ≡ false = entry_below v rdns change.0 r.below r.entry in
    let names : AllByRecursion (Names HasOwnParts) xs = all_mono (λ (c : Change). CarriesKeys c.body) (Names HasOwnParts) carried_names xs carried in
    subst CarriesKeys (sym r.body) (
      each_readable r.new.avas readable.1,
      dropped_such (AllByRecursion IsReadablePart) tt (all_filter IsReadablePart) v change.0 old r.new (λ rdn n. own_name HasOwnParts suffix xs change.0 rdn names child n),
    )
