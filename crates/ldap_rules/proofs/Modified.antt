-- The body of a modify: it passes `check` at a CSN above its entry, and carries the keys of its spellings.
use Rattle.std.proofs.Common.{◌≡◌, ℕ, suc, ◌+◌, ◌<◌, ◌≤◌, Bool, true, false, cond, not, ◌||◌, List, [], ◌∷◌, ◌++◌, map, length, Result, Ok, Err, refl, sym, ap, subst, ◌∙◌, arith, Option, Some, None, eq-eqb, nat_lt}
use Rattle.std.specs.Prelude.{◌&&◌, ◌==◌, codes, filter, flat_map, fold, option_map, if◌then◌else◌}
use Rattle.std.specs.List.{AllByRecursion, list_any, list_all}
use Rattle.std.proofs.lemmas.Bool.Decides.{nat_tests}
use Rattle.std.proofs.lemmas.Bool.{or_right}
use Rattle.repl_data.specs.declared.csn.Csn.{Csn}
use Rattle.repl_data.specs.declared.csn.Uid.{Uid}
use Rattle.repl_data.specs.declared.change.AttrKey.{AttrKey}
use Rattle.repl_data.specs.declared.change.Val.{Val}
use Rattle.repl_data.specs.declared.change.Ava.{Ava}
use Rattle.repl_data.specs.declared.change.Attr.{Attr}
use Rattle.repl_data.specs.declared.change.Rdn.{Rdn}
use Rattle.repl_data.specs.declared.change.Shown.{Shown}
use Rattle.repl_data.specs.declared.change.Mod.{Mod}
use Rattle.repl_data.specs.declared.change.ModKind.{ModKind}
use Rattle.repl_data.specs.declared.change.ModKind.TheVariants.{Add as AddValues, Delete, Replace}
use Rattle.repl_data.specs.declared.change.Body.{Body}
use Rattle.repl_data.specs.declared.change.Body.TheVariants.{Add, Mod as ModifyEntry, Ren, Del}
use Rattle.repl_data.specs.declared.change.Change.{Change}
use Rattle.repl_data.specs.declared.change.Suffix.{Suffix}
use Rattle.repl_data.specs.declared.change.Malformed.TheVariants.{Rid, Sub, Order, TooMany, TooHeavy, Empty, DoubleKey, Derived}
use Rattle.repl_data.specs.Order.{bytes_cmp, bytes_eq}
use Rattle.repl_data.specs.Types.{is_among, derived_classes, is_derived_attribute, is_derived_value}
use Rattle.repl_data.specs.Check.{fault_if, is_empty, falls, vals_rise, needs_values, adds_nothing, names_derived, weight, faults_of_frame, faults_of_body, fault_of}
use Rattle.repl_data.specs.Closed.{is_sound, needed}
use Rattle.repl_data.specs.Plain.{add_values, without_values, values_after}
use Rattle.repl_data.specs.Stamps.{Act, Adds, Deletes, adds, mod_acts, mods_acts, body_acts, suffix_acts}
use Rattle.repl_data.specs.Order.{stamp, zero_csn}
use Rattle.repl_data.specs.View.{DirectoryView, put_val, view_of}
use Rattle.repl_data.proofs.InOrder.{is_equal}
use Rattle.repl_data.proofs.Sound.{neither, not_both, not_false}
use Rattle.attr_keys.specs.Table.{key_of, is_single}
use Rattle.repl_data.proofs.Known.{any_map}
use Rattle.dn_text.specs.Laws.{IsReadablePart}
use Rattle.ldap_types.specs.declared.request.RawMod.{RawMod}
use Rattle.rule_values.specs.declared.fault.Refusal.{Refusal}
use Rattle.rule_values.specs.declared.fault.Refusal.TheVariants as why
use Rattle.rule_values.specs.Refusing.{◌>>=◌}
use Rattle.rule_values.specs.Listed.{read_name, value_beside, values_beside}
use Rattle.rule_values.specs.Written.{Values, is_modified, replaced, write_before, written}
use Rattle.rule_values.specs.Modify.{shown_values, after, kind_of, read_mod, fits, carried, has_part, has_second, ended, modifications}
use Rattle.ldap_rules.specs.Ordered.{Rises, val_key}
use Rattle.ldap_rules.specs.Case.{coded}
use Rattle.dn_text.specs.Names.{entry_at}
use Rattle.ldap_rules.specs.Carried.{CarriesKeys, AllCarryKeys, IsOwnName, AreOwnVals}
use Rattle.ldap_rules.specs.Rename.{own_values}
use Rattle.ldap_rules.specs.Modify.{own_name, modify_made}
use Rattle.ldap_rules.specs.Laws.{IsDrawnAbove, has_entry, ModifiesEach}
use Rattle.ldap_rules.proofs.Chains.{by_pass, by_fit, by_code, same_ok}
use Rattle.ldap_rules.proofs.Places.{all_put, is_same, equal_key}
use Rattle.ldap_rules.proofs.Goods.{GoodVals, value_good, values_good}
use Rattle.ldap_rules.proofs.Checked.{nowhere, no_first, none_falls, ids_of_supplier}
use Rattle.ldap_rules.proofs.There.{entry_there}
use Rattle.repl_data.proofs.Loops.{all_append, all_filter, all_mono}
use Rattle.repl_data.proofs.SameView.{same_attr}
use Rattle.ldap_rules.proofs.OwnKeys.{IsOwnVal, name_own, values_own}
use Rattle.ldap_rules.proofs.OwnVals.{Gives, ChangeGives, ListsSuch, own_vals}

abbrev done : Unit {0}
done = tt

-- ---- one modification as it is read

pub record IsFine (m : Mod) : Type 0 where
  pub full : adds_nothing m ≡ false
  pub rises : vals_rise m.vals ≡ true
  pub plain : is_derived_attribute m.attr ≡ false
  pub underived : list_any (is_derived_value m.attr) m.vals ≡ false

pub record IsReadMod (given : RawMod) (m : Mod) : Type 0 where
  pub fine : IsFine m
  pub order : Rises val_key m.vals
  pub own : IsOwnName m.attr
  pub vals : AreOwnVals m.attr m.vals
  pub named : m.attr.name ≡ key_of given.name

values_read : (attr : AttrKey) (before vals : List Val) (given : List (List ℕ)) → values_beside attr before given ≡ Ok vals → GoodVals attr before → GoodVals attr vals
unfolding values_beside
values_read attr before vals [] h g = subst (GoodVals attr) (same_ok before vals h) g
values_read attr before vals (s ∷ ss) h g =
    by_pass (value_beside attr before s) _ vals h (λ next r k. values_read attr next vals ss k (value_good attr before next s r g).0)

rising : (vals : List Val) → Rises val_key vals → vals_rise vals ≡ true
rising vals r = ap not (none_falls val_key vals r)

filled : (kind : ModKind) (attr : AttrKey) (vals : List Val) (given : List (List ℕ)) → (needs_values kind && is_empty given) ≡ false → values_beside attr [] given ≡ Ok vals → (needs_values kind && is_empty vals) ≡ false
filled kind attr vals given h r = by (needs_values kind) h
  where
    by : (b : Bool) → (b && is_empty given) ≡ false → (b && is_empty vals) ≡ false
    by true some = (values_good attr [] vals given some r (tt, refl)).1
    by false some = refl

mod_read : (given : RawMod) (m : Mod) → read_mod given ≡ Ok m → IsReadMod given m
unfolding read_mod
mod_read given m h =
    by_pass (kind_of given.kind) _ m h (λ kind k h1.
    by_pass (read_name given.name) _ m h1 (λ attr n h2.
    by_fit (is_derived_attribute attr) why.Derived _ m h2 (λ plain h3.
    by_fit (needs_values kind && is_empty given.vals) why.NoValue _ m h3 (λ some h4.
    by_pass (values_beside attr [] given.vals) _ m h4 (λ vals r e.
    let good : GoodVals attr vals = values_read attr [] vals given.vals r (tt, refl) in
    let name = name_own given.name attr n in
    subst (IsReadMod given) (same_ok (record { kind = kind; attr = attr; vals = vals }) m e) (record {
      fine = record { full = filled kind attr vals given.vals some r; rises = rising vals good.0; plain = plain; underived = good.1 };
      order = good.0;
      own = name.0;
      vals = values_own attr [] vals given.vals name.0 r tt;
      named = name.1;
    }))))))

-- ---- all of them

abbrev pub AreMods : List RawMod → List Mod → Type 0
AreMods [] [] = Unit {0}
AreMods [] (m ∷ mods) = ⊥
AreMods (g ∷ given) [] = ⊥
AreMods (g ∷ given) (m ∷ mods) = IsReadMod g m × AreMods given mods

mods_read : (has : Values) (given : List RawMod) (mods : List Mod) → carried has given ≡ Ok mods → AreMods given mods
unfolding carried
mods_read has [] mods h = subst (AreMods []) (same_ok [] mods h) tt
mods_read has (g ∷ given) mods h =
    by_pass (read_mod g) _ mods h (λ m r h1.
    by_pass (fits m.kind m.vals (has m.attr.name)) _ mods h1 (λ _ f h2.
    by_pass (carried (after has m) given) _ mods h2 (λ rest c h3.
    subst (AreMods (g ∷ given)) (same_ok (m ∷ rest) mods h3) (mod_read g m r, mods_read (after has m) given rest c))))

as_long : (given : List RawMod) (mods : List Mod) → AreMods given mods → length mods ≡ length given
as_long [] [] h = refl
as_long [] (m ∷ mods) h = absurd h
as_long (g ∷ given) [] h = absurd h
as_long (g ∷ given) (m ∷ mods) h = ap suc (as_long given mods h.1)

as_full : (given : List RawMod) (mods : List Mod) → AreMods given mods → is_empty given ≡ false → is_empty mods ≡ false
as_full [] mods h n = absurd (not_both true refl n)
as_full (g ∷ given) [] h n = absurd h
as_full (g ∷ given) (m ∷ mods) h n = refl

pub each_mod : (P : Mod → Type 0) → ((g : RawMod) (m : Mod) → IsReadMod g m → P m) → (given : List RawMod) (mods : List Mod) → AreMods given mods → AllByRecursion P mods
each_mod P f [] [] h = tt
each_mod P f [] (m ∷ mods) h = absurd h
each_mod P f (g ∷ given) [] h = absurd h
each_mod P f (g ∷ given) (m ∷ mods) h = (f g m h.0, each_mod P f given mods h.1)

-- ---- what is written of them

abbrev pub IsWrittenSo : (Mod → Type 0) → Values → Mod → Type 0
IsWrittenSo P has m = P m × (is_single m.attr.name ≡ true → P (replaced has m.attr))

pub all_written : (P : Mod → Type 0) (has : Values) (mods : List Mod) → AllByRecursion (IsWrittenSo P has) mods → AllByRecursion P (written has mods)
all_written P has [] h = tt
all_written P has (m ∷ mods) h = by (is_single m.attr.name) refl (all_written P has mods h.1)
  where
    later : (b : Bool) → P (replaced has m.attr) → AllByRecursion P (written has mods) → AllByRecursion P (if b then written has mods else replaced has m.attr ∷ written has mods)
    later true p g = g
    later false p g = (p, g)

    by : (b : Bool) → is_single m.attr.name ≡ b → AllByRecursion P (written has mods) → AllByRecursion P (if b then (if is_modified m.attr (written has mods) then written has mods else replaced has m.attr ∷ written has mods) else m ∷ written has mods)
    by true s g = later (is_modified m.attr (written has mods)) (h.0.1 s) g
    by false s g = (h.0.0, g)

shorter : (has : Values) (m : Mod) (mods : List Mod) → length (write_before has m mods) ≤ 1 + length mods
shorter has m mods = by (is_single m.attr.name) (is_modified m.attr mods)
  where
    by : (s l : Bool) → length (if s then (if l then mods else replaced has m.attr ∷ mods) else m ∷ mods) ≤ 1 + length mods
    by true true = omega arith
    by true false = omega arith
    by false l = omega arith

written_few : (has : Values) (mods : List Mod) → length (written has mods) ≤ length mods
written_few has [] = omega arith
written_few has (m ∷ mods) = let a = shorter has m (written has mods) in let b = written_few has mods in omega arith

written_full : (has : Values) (m : Mod) (mods : List Mod) → is_empty (written has (m ∷ mods)) ≡ false
written_full has m mods = by (is_single m.attr.name) (written has mods)
  where
    later : (b : Bool) (n : Mod) (ns : List Mod) → is_empty (if b then n ∷ ns else replaced has m.attr ∷ n ∷ ns) ≡ false
    later true n ns = refl
    later false n ns = refl

    by : (s : Bool) (ns : List Mod) → is_empty (if s then (if is_modified m.attr ns then ns else replaced has m.attr ∷ ns) else m ∷ ns) ≡ false
    by true [] = refl
    by true (n ∷ ns) = later (is_modified m.attr (n ∷ ns)) n ns
    by false ns = refl

written_some : (has : Values) (mods : List Mod) → is_empty mods ≡ false → is_empty (written has mods) ≡ false
written_some has [] n = absurd (not_both true refl n)
written_some has (m ∷ mods) n = written_full has m mods

-- each attribute stands in it
still_there : (has : Values) (t : AttrKey) (m : Mod) (mods : List Mod) → is_modified t mods ≡ true → is_modified t (write_before has m mods) ≡ true
still_there has t m mods h = by (is_single m.attr.name) (is_modified m.attr mods)
  where
    by : (s l : Bool) → is_modified t (if s then (if l then mods else replaced has m.attr ∷ mods) else m ∷ mods) ≡ true
    by true true = h
    by true false = or_right (bytes_eq m.attr.name t.name) (is_modified t mods) h
    by false l = or_right (bytes_eq m.attr.name t.name) (is_modified t mods) h

put_there : (has : Values) (m : Mod) (mods : List Mod) → is_modified m.attr (write_before has m mods) ≡ true
put_there has m mods = by (is_single m.attr.name) (is_modified m.attr mods) refl
  where
    own : (bytes_eq m.attr.name m.attr.name || is_modified m.attr mods) ≡ true
    own = ap (λ b. b || is_modified m.attr mods) (equal_key m.attr.name m.attr.name refl)

    by : (s l : Bool) → is_modified m.attr mods ≡ l → is_modified m.attr (if s then (if l then mods else replaced has m.attr ∷ mods) else m ∷ mods) ≡ true
    by true true e = e
    by true false e = own
    by false l e = own

each_there : (has : Values) (given : List RawMod) (mods : List Mod) → AreMods given mods → AllByRecursion (λ (g : RawMod). is_modified (record { name = key_of g.name }) (written has mods) ≡ true) given
each_there has [] mods h = tt
each_there has (g ∷ given) [] h = absurd h
each_there has (g ∷ given) (m ∷ mods) h = (
  subst (λ (n : List ℕ). is_modified (record { name = n }) (written has (m ∷ mods)) ≡ true) h.0.named (put_there has m (written has mods)),
  all_mono (λ (g : RawMod). is_modified (record { name = key_of g.name }) (written has mods) ≡ true) (λ (g : RawMod). is_modified (record { name = key_of g.name }) (written has (m ∷ mods)) ≡ true)
      (λ g k. still_there has (record { name = key_of g.name }) m (written has mods) k) given (each_there has given mods h.1),
)

-- ---- it is fine

-- no class is of a single-valued type
not_a_class : (t : AttrKey) (vals : List Val) → is_single t.name ≡ true → list_any (is_derived_value t) vals ≡ false
unfolding is_derived_value
not_a_class t [] s = refl
not_a_class t (v ∷ vals) s = ap (λ b. (b && is_among derived_classes v.key) || list_any (is_derived_value t) vals) (other (bytes_eq t.name (codes "objectclass")) refl) ∙ not_a_class t vals s
  where
    other : (b : Bool) → bytes_eq t.name (codes "objectclass") ≡ b → bytes_eq t.name (codes "objectclass") ≡ false
    other true e = absurd (not_both (is_single (codes "objectclass")) (subst (λ (n : List ℕ). is_single n ≡ true) (is_same t.name (codes "objectclass") e) s) refl)
    other false e = e

few_rise : (vals : List Val) → nat_lt 1 (length vals) ≡ false → vals_rise vals ≡ true
few_rise [] h = refl
few_rise (v ∷ []) h = refl
few_rise (v ∷ w ∷ vals) h = absurd (not_both (nat_lt 1 (length (v ∷ w ∷ vals))) (many (length (v ∷ w ∷ vals)) (omega arith)) h)
  where
    many : (n : ℕ) → 1 < n → nat_lt 1 n ≡ true
    many n l = grind (arith, nat_tests)

pub none_of : {X : Type 0} (q : X → Bool) (xs : List X) → list_any q xs ≡ false → AllByRecursion (λ x. q x ≡ false) xs
none_of q [] h = tt
none_of q (x ∷ xs) h = let n = neither (q x) (list_any q xs) h in (n.0, none_of q xs n.1)

pub both_all : {X : Type 0} (P Q : X → Type 0) (xs : List X) → AllByRecursion P xs → AllByRecursion Q xs → AllByRecursion (λ x. P x × Q x) xs
both_all P Q [] p q = tt
both_all P Q (x ∷ xs) p q = ((p.0, q.0), both_all P Q xs p.1 q.1)

pub no_second : (has : Values) (m : Mod) → has_second has m ≡ false → is_single m.attr.name ≡ true → nat_lt 1 (length (has m.attr.name)) ≡ false
no_second has m h s = sym (ap (λ b. b && nat_lt 1 (length (has m.attr.name))) s) ∙ h

pub fine_written : (has : Values) (mods : List Mod) → AllByRecursion IsFine mods → list_any (has_second has) mods ≡ false → AllByRecursion IsFine (written has mods)
fine_written has mods h n =
    all_written IsFine has mods
    (all_mono (λ (m : Mod). IsFine m × (has_second has m ≡ false)) (IsWrittenSo IsFine has)
    (λ m p. (p.0, λ s. record { full = refl; rises = few_rise (has m.attr.name) (no_second has m p.1 s); plain = p.0.plain; underived = not_a_class m.attr (has m.attr.name) s }))
    mods (both_all IsFine (λ (m : Mod). has_second has m ≡ false) mods h (none_of (has_second has) mods n)))

none_empty : (mods : List Mod) → AllByRecursion IsFine mods → list_any adds_nothing mods ≡ false
none_empty [] h = refl
none_empty (m ∷ mods) h = ap (λ b. b || list_any adds_nothing mods) h.0.full ∙ none_empty mods h.1

none_unsorted : (mods : List Mod) → AllByRecursion IsFine mods → list_any (λ (m : Mod). not (vals_rise m.vals)) mods ≡ false
none_unsorted [] h = refl
none_unsorted (m ∷ mods) h = ap (λ b. not b || list_any (λ (m : Mod). not (vals_rise m.vals)) mods) h.0.rises ∙ none_unsorted mods h.1

none_derived : (mods : List Mod) → AllByRecursion IsFine mods → list_any (λ (m : Mod). names_derived m.attr m.vals) mods ≡ false
none_derived [] h = refl
none_derived (m ∷ mods) h =
    (λ i. (h.0.plain i || h.0.underived i) || list_any (λ (m : Mod). names_derived m.attr m.vals) mods) ∙ none_derived mods h.1

abbrev empty_mods : List Mod → List Bool
empty_mods mods = if is_empty mods then true ∷ [] else map adds_nothing mods

no_empty_mod : (mods : List Mod) → is_empty mods ≡ false → list_any adds_nothing mods ≡ false → list_any (λ b. b) (empty_mods mods) ≡ false
no_empty_mod mods n h = ap (λ (e : Bool). list_any (λ b. b) (if e then true ∷ [] else map adds_nothing mods)) n ∙ any_map (λ b. b) adds_nothing mods ∙ h

modified_sound : (c : Csn) (u : Uid) (mods : List Mod) → is_empty mods ≡ false → nat_lt 1000 (length mods) ≡ false → AllByRecursion IsFine mods → nat_lt 2097152 (weight (ModifyEntry mods)) ≡ false → IsDrawnAbove c u
    → fault_of (record { csn = c; target = u; body = ModifyEntry mods }) ≡ None
modified_sound c u mods some few fine light drawn =
    let body : Body = ModifyEntry mods in
    let change : Change = record { csn = c; target = u; body = body } in
    no_first (faults_of_frame change ++ faults_of_body body) (
      ap (λ t. fault_if t Rid) (ids_of_supplier c u drawn),
      (
        ap (λ t. fault_if (not t) Sub) (eq-eqb c.sub 0 drawn.sub),
        (
          ap (λ t. fault_if (not t) Order) drawn.later,
          (
            refl,
            (
              ap (λ t. fault_if t TooMany) few,
              (
                ap (λ t. fault_if t TooHeavy) light,
                (
                  ap (option_map Empty) (nowhere 0 (empty_mods mods) (no_empty_mod mods some (none_empty mods fine))),
                  (
                    ap (option_map DoubleKey) (nowhere 0 (map (λ (m : Mod). not (vals_rise m.vals)) mods) (any_map (λ b. b) (λ (m : Mod). not (vals_rise m.vals)) mods ∙ none_unsorted mods fine)),
                    (
                      ap (option_map Derived) (nowhere 0 (map (λ (m : Mod). names_derived m.attr m.vals) mods) (any_map (λ b. b) (λ (m : Mod). names_derived m.attr m.vals) mods ∙ none_derived mods fine)),
                      (refl, done),
                    ),
                  ),
                ),
              ),
            ),
          ),
        ),
      ),
    )

-- ---- what the rules write

abbrev pub last : DirectoryView → Uid → List Mod → Values
last v u mods = fold after (shown_values (own_values v u)) mods

pub record IsModified (v : DirectoryView) (given : List RawMod) (rdns : List Rdn) (change : Uid × Body) : Type 0 where
  pub mods : List Mod
  pub entry : entry_at v rdns ≡ Ok change.0
  pub some : is_empty given ≡ false
  pub count : nat_lt 1000 (length given) ≡ false
  pub read : AreMods given mods
  pub kept : list_all (has_part (last v change.0 mods)) (own_name v change.0).avas ≡ true
  pub single : list_any (has_second (last v change.0 mods)) mods ≡ false
  pub body : change.1 ≡ ModifyEntry (written (last v change.0 mods) mods)

well_ended : (name : Rdn) (has : Values) (mods : List Mod) → ended name has mods ≡ Ok tt → (list_all (has_part has) name.avas ≡ true) × (list_any (has_second has) mods ≡ false)
unfolding ended
well_ended name has mods h =
    by_fit (not (list_all (has_part has) name.avas)) why.NameValueGone _ tt h (λ kept h1.
    by_fit (list_any (has_second has) mods) why.SecondValue _ tt h1 (λ single h2. (not_false (list_all (has_part has) name.avas) kept, single)))

pub modified : (v : DirectoryView) (given : List RawMod) (rdns : List Rdn) (change : Uid × Body) → modify_made v given rdns ≡ Ok change → IsModified v given rdns change
unfolding modify_made modifications
modified v given rdns change h =
    by_pass (entry_at v rdns) _ change h (λ u at h1.
    by_pass (coded (modifications (own_name v u) (own_values v u) given)) _ change h1 (λ ms c e.
    by_code (modifications (own_name v u) (own_values v u) given) ms c (λ made.
    by_fit (is_empty given) why.NoModification _ ms made (λ some m1.
    by_fit (nat_lt 1000 (length given)) why.TooManyModifications _ ms m1 (λ count m2.
    by_pass (carried (shown_values (own_values v u)) given) _ ms m2 (λ mods r m3.
    by_pass (ended (own_name v u) (last v u mods) mods) _ ms m3 (λ _ end m4.
    let is : ◌≡◌ {A = Uid × Body} (u, ModifyEntry ms) change = same_ok (u, ModifyEntry ms) change e in
    subst (IsModified v given rdns) is (record {
      mods = mods;
      entry = at;
      some = some;
      count = count;
      read = mods_read (shown_values (own_values v u)) given mods r;
      kept = (well_ended (own_name v u) (last v u mods) mods end).0;
      single = (well_ended (own_name v u) (last v u mods) mods end).1;
      body = ap ModifyEntry (sym (same_ok (written (last v u mods) mods) ms m4));
    }))))))))

below_limit : (m n : ℕ) → m ≤ n → nat_lt 1000 n ≡ false → nat_lt 1000 m ≡ false
below_limit m n l h = grind (arith, nat_tests)

-- IT PASSES `check`
pub modify_checked : (v : DirectoryView) (given : List RawMod) (rdns : List Rdn) (change : Uid × Body) (c : Csn) → modify_made v given rdns ≡ Ok change → nat_lt 2097152 (weight change.1) ≡ false → IsDrawnAbove c change.0
    → fault_of (record { csn = c; target = change.0; body = change.1 }) ≡ None
modify_checked v given rdns change c h light drawn =
    let m = modified v given rdns change h in
    let has : Values = last v change.0 m.mods in
    let few : length (written has m.mods) ≤ length given = subst (λ n. length (written has m.mods) ≤ n) (as_long given m.mods m.read) (written_few has m.mods) in
    ap (λ b. fault_of (record { csn = c; target = change.0; body = b })) m.body
    ∙ modified_sound c change.0 (written has m.mods)
    (written_some has m.mods (as_full given m.mods m.read m.some))
    (below_limit (length (written has m.mods)) (length given) few m.count)
    (fine_written has m.mods (each_mod IsFine (λ g n r. r.fine) given m.mods m.read) m.single)
    (subst (λ b. nat_lt 2097152 (weight b) ≡ false) m.body light) drawn

-- ITS ENTRY IS THERE
pub modify_there : (v : DirectoryView) (given : List RawMod) (rdns : List Rdn) (change : Uid × Body) → modify_made v given rdns ≡ Ok change → has_entry v change.0 ≡ true
modify_there v given rdns change h = entry_there v rdns change.0 (modified v given rdns change h).entry

-- which is what it needs
pub modify_needs : (v : DirectoryView) (given : List RawMod) (rdns : List Rdn) (change : Uid × Body) → modify_made v given rdns ≡ Ok change → needed change.0 change.1 ≡ change.0
modify_needs v given rdns change h = ap (needed change.0) (modified v given rdns change h).body

-- EACH ATTRIBUTE THAT IS NAMED STANDS IN IT
pub modify_each : (v : DirectoryView) (given : List RawMod) (rdns : List Rdn) (change : Uid × Body) → modify_made v given rdns ≡ Ok change → (is_empty given ≡ false) × ModifiesEach given change.1
modify_each v given rdns change h =
    let m = modified v given rdns change h in
    (m.some, subst (ModifiesEach given) (sym m.body) (each_there (last v change.0 m.mods) given m.mods m.read))

-- ---- the values of single-valued types

-- a value of a single-valued type that is accepted, with the key of its spelling
abbrev IsOwnSingle : AttrKey → Val → Type 0
IsOwnSingle t v = is_single t.name ≡ true → IsOwnVal t v

abbrev HasOwnSingles : Values → Type 0
HasOwnSingles has = (t : AttrKey) → is_single t.name ≡ true → AreOwnVals t (has t.name)

all_added : (P : Val → Type 0) (new vals : List Val) → AllByRecursion P new → AllByRecursion P vals → AllByRecursion P (add_values new vals)
all_added P [] vals h g = g
all_added P (v ∷ new) vals h g = all_added P new (put_val v vals) h.1 (all_put val_key P v vals h.0 g)

abbrev listed_at : List Shown → List ℕ → List Val
listed_at own name = flat_map (λ (s : Shown). if bytes_eq s.attr.name name then s.vals else []) own

given_single : (t : AttrKey) (vals : List Val) → is_single t.name ≡ true → AllByRecursion (IsOwnSingle t) vals → AreOwnVals t vals
given_single t vals s h = all_mono (IsOwnSingle t) (IsOwnVal t) (λ v f. f s) vals h

listed_own : (own : List Shown) (t : AttrKey) → is_single t.name ≡ true → AllByRecursion (ListsSuch IsOwnSingle) own → AreOwnVals t (listed_at own t.name)
listed_own [] t s h = tt
listed_own (x ∷ own) t s h = by (bytes_eq x.attr.name t.name) refl (listed_own own t s h.1)
  where
    by : (b : Bool) → bytes_eq x.attr.name t.name ≡ b → AreOwnVals t (listed_at own t.name) → AreOwnVals t ((if b then x.vals else []) ++ listed_at own t.name)
    by true e g =
        all_append (IsOwnVal t) x.vals (listed_at own t.name)
        (given_single t x.vals s (subst (λ (u : AttrKey). AllByRecursion (IsOwnSingle u) x.vals) (same_attr x.attr t (is_equal (bytes_cmp x.attr.name t.name) e)) h.0)) g
    by false e g = g

shown_own : (own : List Shown) → AllByRecursion (ListsSuch IsOwnSingle) own → HasOwnSingles (shown_values own)
shown_own own h t s = all_added (IsOwnVal t) (listed_at own t.name) [] (listed_own own t s h) tt

after_own : (t : AttrKey) (kind : ModKind) (vals had : List Val) → AreOwnVals t vals → AreOwnVals t had → AreOwnVals t (values_after kind vals had)
after_own t AddValues vals had h g = all_added (IsOwnVal t) vals had h g
after_own t Delete [] had h g = tt
after_own t Delete (v ∷ vals) had h g = all_filter (IsOwnVal t) (λ (w : Val). not (list_any (λ (x : Val). bytes_eq x.key w.key) (v ∷ vals))) had g
after_own t Replace vals had h g = h

step_own : (has : Values) (m : Mod) → AreOwnVals m.attr m.vals → HasOwnSingles has → HasOwnSingles (after has m)
step_own has m h g t s = by (bytes_eq t.name m.attr.name) refl
  where
    by : (b : Bool) → bytes_eq t.name m.attr.name ≡ b → AreOwnVals t (if b then values_after m.kind m.vals (has t.name) else has t.name)
    by true e = after_own t m.kind m.vals (has t.name) (subst (λ (u : AttrKey). AreOwnVals u m.vals) (sym (same_attr t m.attr (is_equal (bytes_cmp t.name m.attr.name) e))) h) (g t s)
    by false e = g t s

last_own : (has : Values) (mods : List Mod) → AllByRecursion (λ (m : Mod). AreOwnVals m.attr m.vals) mods → HasOwnSingles has → HasOwnSingles (fold after has mods)
last_own has [] h g = g
last_own has (m ∷ mods) h g = last_own (after has m) mods h.1 (step_own has m h.0 g)

-- ---- what changes that carry keys add

gives_adds : (s : Csn) (t : AttrKey) (vals : List Val) → AreOwnVals t vals → AllByRecursion (Gives IsOwnSingle) (adds s t vals)
gives_adds s t [] h = tt
gives_adds s t (v ∷ vals) h = ((λ _. h.0), gives_adds s t vals h.1)

gives_deletes : (s : Csn) (t : AttrKey) (vals : List Val) → AllByRecursion (Gives IsOwnSingle) (map (Deletes s t) vals)
gives_deletes s t [] = tt
gives_deletes s t (v ∷ vals) = (tt, gives_deletes s t vals)

gives_mod : (s : Csn) (m : Mod) → AreOwnVals m.attr m.vals → AllByRecursion (Gives IsOwnSingle) (mod_acts s m)
gives_mod s m h = by m.kind m.vals h
  where
    by : (kind : ModKind) (vals : List Val) → AreOwnVals m.attr vals → AllByRecursion (Gives IsOwnSingle) (mod_acts s (record { kind = kind; attr = m.attr; vals = vals }))
    by AddValues vals g = gives_adds s m.attr vals g
    by Delete [] g = (tt, tt)
    by Delete (v ∷ vals) g = gives_deletes s m.attr (v ∷ vals)
    by Replace vals g = (tt, gives_adds s m.attr vals g)

gives_mods : (c : Csn) (k : ℕ) (mods : List Mod) → AllByRecursion (λ (m : Mod). IsOwnName m.attr × AreOwnVals m.attr m.vals) mods → AllByRecursion (Gives IsOwnSingle) (mods_acts c k mods)
gives_mods c k [] h = tt
gives_mods c k (m ∷ mods) h = all_append (Gives IsOwnSingle) (mod_acts (stamp c k) m) (mods_acts c (k + 1) mods) (gives_mod (stamp c k) m h.0.1) (gives_mods c (k + 1) mods h.1)

gives_attrs : (s : Csn) (attrs : List Attr) → AllByRecursion (λ (a : Attr). IsOwnName a.attr × AreOwnVals a.attr a.vals) attrs → AllByRecursion (Gives IsOwnSingle) (flat_map (λ (a : Attr). adds s a.attr a.vals) attrs)
gives_attrs s [] h = tt
gives_attrs s (a ∷ attrs) h = all_append (Gives IsOwnSingle) (adds s a.attr a.vals) _ (gives_adds s a.attr a.vals h.0.1) (gives_attrs s attrs h.1)

gives_parts : (s : Csn) (avas : List Ava) → AllByRecursion IsReadablePart avas → AllByRecursion (Gives IsOwnSingle) (map (λ (a : Ava). Adds s a.attr a.val) avas)
gives_parts s [] h = tt
gives_parts s (a ∷ avas) h = ((λ _. h.0), gives_parts s avas h.1)

gives_dropped : (s : Csn) (avas : List Ava) → AllByRecursion (Gives IsOwnSingle) (map (λ (a : Ava). Deletes s a.attr a.val) avas)
gives_dropped s [] = tt
gives_dropped s (a ∷ avas) = (tt, gives_dropped s avas)

gives_body : (c : Csn) (b : Body) → CarriesKeys b → AllByRecursion (Gives IsOwnSingle) (body_acts c b)
gives_body c (Add parent rdn attrs) h = gives_attrs (stamp c 0) attrs h.1
gives_body c (ModifyEntry mods) h = gives_mods c 1 mods h
gives_body c (Ren rdn dropped) h = all_append (Gives IsOwnSingle) (map (λ (a : Ava). Deletes (stamp c 0) a.attr a.val) dropped) _ (gives_dropped (stamp c 0) dropped) (gives_parts (stamp c 1) rdn.avas h.0)
gives_body c Del h = tt

gives_suffix : (suffix : Suffix) → AllByRecursion IsReadablePart suffix.rdn.avas → AllByRecursion (Gives IsOwnSingle) (suffix_acts suffix)
gives_suffix suffix h =
    all_append (Gives IsOwnSingle) (map (λ (a : Ava). Adds zero_csn a.attr a.val) suffix.rdn.avas) _ (gives_parts zero_csn suffix.rdn.avas h)
    ((λ s. absurd (not_both (is_single (codes "objectclass")) s refl)), ((λ s. absurd (not_both (is_single (codes "objectclass")) s refl)), tt))

-- IT CARRIES THE KEYS OF ITS SPELLINGS
pub modify_carries : (suffix : Suffix) (xs : List Change) (given : List RawMod) (rdns : List Rdn) (change : Uid × Body) → list_all is_sound xs ≡ true → AllCarryKeys xs → AllByRecursion IsReadablePart suffix.rdn.avas
    → modify_made (view_of suffix xs) given rdns ≡ Ok change → CarriesKeys change.1
modify_carries suffix xs given rdns change sound carried root h =
    let v : DirectoryView = view_of suffix xs in
    let m = modified v given rdns change h in
    let shown : AllByRecursion (ListsSuch IsOwnSingle) (own_values v change.0) =
    own_vals IsOwnSingle suffix xs change.0 sound (all_mono (λ (c : Change). CarriesKeys c.body) (ChangeGives IsOwnSingle) (λ c k. gives_body c.csn c.body k) xs carried) (gives_suffix suffix root) in
    let vals : AllByRecursion (λ (n : Mod). AreOwnVals n.attr n.vals) m.mods = each_mod (λ (n : Mod). AreOwnVals n.attr n.vals) (λ g n r. r.vals) given m.mods m.read in
    let has : Values = last v change.0 m.mods in
    let own : HasOwnSingles has = last_own (shown_values (own_values v change.0)) m.mods vals (shown_own (own_values v change.0) shown) in
    subst CarriesKeys (sym m.body)
    (all_written (λ (n : Mod). IsOwnName n.attr × AreOwnVals n.attr n.vals) has m.mods
    (each_mod (IsWrittenSo (λ (n : Mod). IsOwnName n.attr × AreOwnVals n.attr n.vals) has) (λ g n r. ((r.own, r.vals), λ s. (r.own, own n.attr s))) given m.mods m.read))
