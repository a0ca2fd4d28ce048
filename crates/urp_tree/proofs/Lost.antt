-- WHO HAS ITS NAME, told by those who contend for it.
use Rattle.std.proofs.Common.{◌≡◌, ℕ, List, [], ◌∷◌, map, filter, Bool, true, false, cond, not, Some, None, refl, sym, ap, ◌∙◌}
use Rattle.std.specs.Prelude.{◌&&◌, ◌||◌, option_map}
use Rattle.std.specs.List.{list_any}
use Rattle.std.specs.Ordering.{is_eq, is_lt}
use Rattle.std.specs.declared.cmp.Ordering.{Ordering}
use Rattle.std.specs.declared.cmp.Ordering.TheVariants.{Less, Equal, Greater}
use Rattle.std.proofs.lemmas.Cmp.{tied_itself}
use Rattle.repl_data.specs.declared.csn.Csn.{Csn}
use Rattle.repl_data.specs.declared.csn.Uid.{Uid}
use Rattle.repl_data.specs.declared.change.Ava.{Ava}
use Rattle.repl_data.specs.declared.change.Rdn.{Rdn}
use Rattle.repl_data.specs.Order.{csn_cmp, csn_lt, zero_csn, uid_eq, suffix_id, rdn_key, rdn_key_cmp, same_rdn}
use Rattle.repl_data.specs.Facts.{EntryFacts}
use Rattle.repl_data.specs.Presence.{is_live, present_of}
use Rattle.repl_data.specs.Names.{is_before, contends_with, has_name, is_id_part, has_id, with_id, shown_rdn}
use Rattle.repl_data.specs.View.{DirectoryView, view_of_facts, lost_name, lost_dn}
use Rattle.repl_data.specs.declared.view.Standing.{Standing}
use Rattle.repl_data.specs.Lent.{standing, standing_of}
use Rattle.repl_data.proofs.Orders.{rdn_key_total, rdn_key_exact}
use Rattle.repl_data.proofs.InOrder.{is_equal}
use Rattle.repl_data.proofs.ClosedLaws.{no_csn_below}
use Rattle.urp_names.specs.declared.contenders.Contender.{Contender}
use Rattle.urp_names.specs.Contending.{comes_before}
use Rattle.urp_tree.specs.declared.child.Child.{Child}
use Rattle.urp_tree.specs.Index.{contender, wants, wanting}
use Rattle.urp_tree.specs.Walk.{child_of}
use Rattle.urp_tree.specs.Known.{IsPlain, IsLiveRoot}
use Rattle.urp_tree.specs.declared.row.Row.{Row}
use Rattle.urp_tree.specs.Seen.{present_entry, contested_dn, IsPresentRow, IsKept}
use Rattle.repl_data.proofs.Bools.{cases, never, twice}
use Rattle.repl_data.proofs.NamesDiffer.{with_id-any}

-- ENTRIES AND CONTENDERS
before_same : (f e : EntryFacts) → comes_before (contender (child_of f)) (contender (child_of e)) ≡ is_before f e
before_same f e = ap (λ a. (a && not (is_live e)) || ((a || not (is_live e)) && csn_lt f.named e.named)) (twice (is_live f))

abbrev is_beaten : EntryFacts → List EntryFacts → Bool
is_beaten e fs = list_any (λ (f : EntryFacts). contends_with e f && is_before f e) fs

beaten_same : (e : EntryFacts) (fs : List EntryFacts) → list_any (λ (d : Contender). comes_before d (contender (child_of e))) (wanting e.parent e.rdn (map child_of fs)) ≡ is_beaten e fs
beaten_same e [] = refl
beaten_same e (f ∷ fs) = by (contends_with e f) (beaten_same e fs)
  where
    rest : List Child
    rest = filter (wants e.parent e.rdn) (map child_of fs)

    by : (b : Bool) → list_any (λ (d : Contender). comes_before d (contender (child_of e))) (map contender rest) ≡ is_beaten e fs
        → list_any (λ (d : Contender). comes_before d (contender (child_of e))) (map contender (cond b (child_of f ∷ rest) rest)) ≡ ((b && is_before f e) || is_beaten e fs)
    by true h = (λ i. before_same f e i || h i)
    by false h = h

pub lost_same : (e : EntryFacts) (present : List EntryFacts) → list_any (λ (d : Contender). comes_before d (contender (child_of e))) (wanting e.parent e.rdn (map child_of present)) ≡ not (has_name present e)
lost_same e present = beaten_same e present ∙ sym (twice (is_beaten e present))

-- WHAT SHOWS of who lost its name
-- the suffix entry never does
none_before_zero : (a : Bool) (c : Csn) → (((a && not true) || ((a || not true) && csn_lt c zero_csn)) ≡ false)
none_before_zero a c = by a (csn_lt c zero_csn) (not_lower (csn_cmp c zero_csn) refl)
  where
    not_lower : (o : Ordering) → csn_cmp c zero_csn ≡ o → is_lt o ≡ false
    not_lower Less h = absurd (no_csn_below c h)
    not_lower Equal h = refl
    not_lower Greater h = refl

    by : (a b : Bool) → b ≡ false → ((a && false) || ((a || false) && b)) ≡ false
    by true b h = h
    by false b h = refl

root_beaten : (e : EntryFacts) (fs : List EntryFacts) → is_live e ≡ true → e.named ≡ zero_csn → is_beaten e fs ≡ false
root_beaten e [] l n = refl
root_beaten e (f ∷ fs) l n =
    let none : is_before f e ≡ false = (λ i. (is_live f && not (l i)) || ((is_live f || not (l i)) && csn_lt f.named (n i))) ∙ none_before_zero (is_live f) f.named in
    by (contends_with e f) (is_before f e) none (root_beaten e fs l n)
  where
    by : (a b : Bool) → b ≡ false → is_beaten e fs ≡ false → ((a && b) || is_beaten e fs) ≡ false
    by true b h more = ap (λ c. c || is_beaten e fs) h ∙ more
    by false b h more = more

pub root_has : (e : EntryFacts) (present : List EntryFacts) → IsPlain e → IsLiveRoot e → uid_eq e.id suffix_id ≡ true → has_name present e ≡ true
root_has e present plain live t = ap not (root_beaten e present (live t) (plain.root t).0)

-- a name with an id has a part for it
abbrev part : Ava → List ℕ × List ℕ
part a = (a.attr.name, a.val.key)

pub has_with_id : (u : Uid) (rdn : Rdn) → has_id (with_id u rdn) ≡ true
has_with_id u rdn = with_id-any u rdn.avas

-- names with and without an id differ
pub differs : (a b : Rdn) → has_id a ≡ false → has_id b ≡ true → same_rdn a b ≡ false
differs a b n y =
    cases (same_rdn a b)
    (λ t. let k : rdn_key a ≡ rdn_key b = rdn_key_exact (rdn_key a) (rdn_key b) (is_equal (rdn_key_cmp (rdn_key a) (rdn_key b)) t) in
    never (has_id b) y (sym (ap (list_any is_id_part) k) ∙ n))
    (λ f. f)

pub same_itself : (a : Rdn) → same_rdn a a ≡ true
same_itself a = ap is_eq (tied_itself rdn_key_total (rdn_key a))

pub lost_shown : (e : EntryFacts) (present : List EntryFacts) → IsPlain e → IsLiveRoot e → lost_name (present_entry present e) ≡ not (has_name present e)
lost_shown e present plain live = by (has_name present e) refl
  where
    shown : Bool → Rdn
    shown b = cond b e.rdn (with_id e.id e.rdn)

    by : (b : Bool) → has_name present e ≡ b → not (same_rdn e.rdn (shown (has_name present e))) ≡ not (has_name present e)
    by true h = ap (λ b. not (same_rdn e.rdn (shown b))) h ∙ ap not (same_itself e.rdn) ∙ ap not (sym h)
    by false h =
        let child : uid_eq e.id suffix_id ≡ false = cases (uid_eq e.id suffix_id) (λ t. never (has_name present e) (root_has e present plain live t) h) (λ f. f) in
        ap (λ b. not (same_rdn e.rdn (shown b))) h ∙ ap not (differs e.rdn (with_id e.id e.rdn) (plain.child child) (has_with_id e.id e.rdn)) ∙ ap not (sym h)

-- what is said of its standing
pub standing_kept : (es : List EntryFacts) (u : Uid) (r : Row) → IsPresentRow es u (Some r) → IsKept es r → (suffix : List ℕ) (live lost : Bool) → live ≡ is_live r.entry → lost ≡ not (has_name (present_of es) r.entry)
    → Some (record { glue = not live; lost = lost }) ≡ standing_of (view_of_facts suffix es) u
standing_kept es u r h k suffix live lost l is =
    let said : Bool → Bool → Standing = λ a b. record { glue = not a; lost = b } in
    (λ i. Some (said (l i) ((is ∙ sym (lost_shown r.entry (present_of es) k.plain k.root)) i))) ∙ ap (option_map standing) (sym (h suffix))

pub standing_none : (es : List EntryFacts) (u : Uid) → IsPresentRow es u None → (suffix : List ℕ) → None ≡ standing_of (view_of_facts suffix es) u
standing_none es u h suffix = ap (option_map standing) (sym (h suffix))

-- the name that shows
pub shown_lost : (present : List EntryFacts) (e : EntryFacts) → true ≡ not (has_name present e) → with_id e.id e.rdn ≡ shown_rdn present e
shown_lost present e h = by (has_name present e) h
  where
    by : (b : Bool) → true ≡ not b → with_id e.id e.rdn ≡ cond b e.rdn (with_id e.id e.rdn)
    by true k = let f : true ≡ false = k in cc
    by false k = refl

pub shown_kept : (present : List EntryFacts) (e : EntryFacts) → false ≡ not (has_name present e) → e.rdn ≡ shown_rdn present e
shown_kept present e h = by (has_name present e) h
  where
    by : (b : Bool) → false ≡ not b → e.rdn ≡ cond b e.rdn (with_id e.id e.rdn)
    by true k = refl
    by false k = let f : false ≡ true = k in cc

pub lost_printed : (present : List EntryFacts) (e : EntryFacts) (dn : List ℕ) → true ≡ not (has_name present e) → Some dn ≡ cond (has_name present e) None (Some dn)
lost_printed present e dn h = by (has_name present e) h
  where
    by : (b : Bool) → true ≡ not b → Some dn ≡ cond b None (Some dn)
    by true k = let f : true ≡ false = k in cc
    by false k = refl

pub none_printed : (present : List EntryFacts) (e : EntryFacts) (dn : List ℕ) → false ≡ not (has_name present e) → None ≡ cond (has_name present e) None (Some dn)
none_printed present e dn h = by (has_name present e) h
  where
    by : (b : Bool) → false ≡ not b → None ≡ cond b None (Some dn)
    by true k = refl
    by false k = let f : false ≡ true = k in cc

-- the name that it lost, as the view has it
pub lost_dn_is : (v : DirectoryView) (present : List EntryFacts) (e : EntryFacts) → IsPlain e → IsLiveRoot e → cond (has_name present e) None (Some (contested_dn v e)) ≡ lost_dn v (present_entry present e)
lost_dn_is v present e plain live = by (has_name present e) ∙ ap (λ b. cond b (Some (contested_dn v e)) None) (sym (lost_shown e present plain live))
  where
    by : (b : Bool) → cond b None (Some (contested_dn v e)) ≡ cond (not b) (Some (contested_dn v e)) None
    by true = refl
    by false = refl
