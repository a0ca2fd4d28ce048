-- Whether an entry matches, from what a view lends of it.
use Rattle.std.proofs.Common.{◌≡◌, ℕ, Bool, true, false, cond, List, [], ◌∷◌, Option, Some, None, refl, sym, ap, subst, ◌∙◌}
use Rattle.std.specs.Prelude.{find, map, option_map}
use Rattle.std.specs.List.{AllByRecursion}
use Rattle.std.specs.declared.cmp.Ordering.TheVariants.{Less}
use Rattle.repl_data.specs.declared.csn.Uid.{Uid}
use Rattle.repl_data.specs.declared.change.Attr.{Attr}
use Rattle.repl_data.specs.declared.change.Shown.{Shown}
use Rattle.repl_data.specs.declared.change.ShownEntry.{ShownEntry}
use Rattle.repl_data.specs.Order.{uid_eq, bytes_cmp}
use Rattle.repl_data.specs.Ordered.{Rises}
use Rattle.repl_data.specs.View.{DirectoryView, PresentEntry, Tombstone, present_at, gone_at, entry_of, tombstone_of, present_shown, tombstone_shown, user}
use Rattle.repl_data.specs.Lent.{own_of, tombstone_own_of}
use Rattle.repl_data.proofs.Loops.{all_map}
use Rattle.ldap_types.specs.declared.request.Filter.{Filter}
use Rattle.filter_truth.specs.declared.three.Truth.{Truth}
use Rattle.filter_truth.specs.Three.{is_yes}
use Rattle.filter_truth.specs.Truth.{name_of, shows, truth_by}
use Rattle.filter_truth.specs.Lent.{attrs_of, shown_at, gone_shown_at}
use Rattle.filter_truth.proofs.LentShows.{nothing_is}
use Rattle.search_core.specs.Hits.{is_meant, is_match, is_gone_match}
use Rattle.search_core.specs.Tree.{attr_name, HasRisingAttrs, HadRisingAttrs}

abbrev matching : Filter → Option ShownEntry → Bool
matching f o = elim o [ None ↦ false | Some e ↦ is_meant f e ]

pub match_some : (v : DirectoryView) (f : Filter) (u : Uid) (e : ShownEntry) → entry_of v u ≡ Some e → is_meant f e ≡ is_match v f u
match_some v f u e h = sym (ap (matching f) h)

pub match_none : (v : DirectoryView) (f : Filter) (u : Uid) → entry_of v u ≡ None → false ≡ is_match v f u
match_none v f u h = sym (ap (matching f) h)

-- ---- one of all

found_one : {X : Type 0} (P : X → Type 0) (p : X → Bool) (e : X) (es : List X) → AllByRecursion P es → find p es ≡ Some e → P e
found_one {X = X} P p e [] all h = let g : ◌≡◌ {A = Option X} None (Some e) = h in absurd cc
found_one P p e (d ∷ es) all h = by (p d) (found_one P p e es all.1) h
  where
    by : (b : Bool) → (find p es ≡ Some e → P e) → cond b (Some d) (find p es) ≡ Some e → P e
    by true more g = let same : d ≡ e = cc in subst P same all.0
    by false more g = more g

user_rises : (attrs : List Attr) → Rises attr_name attrs → Rises name_of (map user attrs)
user_rises [] r = tt
user_rises (a ∷ attrs) r = (all_map (λ (s : Shown). bytes_cmp a.attr.name s.attr.name ≡ Less) user attrs r.0, user_rises attrs r.1)

-- what is lent of an entry stands in order of name
pub own_rises : (v : DirectoryView) (u : Uid) (own : List Shown) → AllByRecursion HasRisingAttrs v.present → own_of v u ≡ Some own → Rises name_of own
own_rises v u own all h = by (present_at v u) refl h
  where
    by : (o : Option PresentEntry) → present_at v u ≡ o → option_map (λ (e : PresentEntry). map user e.attrs) o ≡ Some own → Rises name_of own
    by None k g = absurd (nothing_is own g)
    by (Some e) k g =
        let same : map user e.attrs ≡ own = cc in
        subst (Rises name_of) same (user_rises e.attrs (found_one HasRisingAttrs (λ (d : PresentEntry). uid_eq d.id u) e v.present all k))

pub own_none : (v : DirectoryView) (u : Uid) → own_of v u ≡ None → entry_of v u ≡ None
own_none v u h = by (present_at v u) h
  where
    by : (o : Option PresentEntry) → option_map (λ (e : PresentEntry). map user e.attrs) o ≡ None → option_map (present_shown v) o ≡ None
    by None g = refl
    by (Some e) g = absurd (nothing_is (map user e.attrs) (sym g))

-- an entry of which something is lent matches by what it shows
pub lent_match : (v : DirectoryView) (f : Filter) (u : Uid) (own : List Shown) (t : Truth) → own_of v u ≡ Some own → t ≡ truth_by (shown_at v u) f → is_yes t ≡ is_match v f u
lent_match v f u own t lent h = ap is_yes h ∙ by (present_at v u) lent
  where
    by : (o : Option PresentEntry) → option_map (λ (e : PresentEntry). map user e.attrs) o ≡ Some own → is_yes (truth_by (shows (attrs_of (option_map (present_shown v) o))) f) ≡ matching f (option_map (present_shown v) o)
    by None k = absurd (nothing_is own k)
    by (Some e) k = refl

-- ---- the same of a tombstone

pub gone_own_rises : (v : DirectoryView) (u : Uid) (own : List Shown) → AllByRecursion HadRisingAttrs v.gone → tombstone_own_of v u ≡ Some own → Rises name_of own
gone_own_rises v u own all h = by (gone_at v u) refl h
  where
    by : (o : Option Tombstone) → gone_at v u ≡ o → option_map (λ (e : Tombstone). map user e.attrs) o ≡ Some own → Rises name_of own
    by None k g = absurd (nothing_is own g)
    by (Some e) k g =
        let same : map user e.attrs ≡ own = cc in
        subst (Rises name_of) same (user_rises e.attrs (found_one HadRisingAttrs (λ (d : Tombstone). uid_eq d.id u) e v.gone all k))

pub gone_match_none : (v : DirectoryView) (f : Filter) (u : Uid) → tombstone_own_of v u ≡ None → false ≡ is_gone_match v f u
gone_match_none v f u h = by (gone_at v u) h
  where
    by : (o : Option Tombstone) → option_map (λ (e : Tombstone). map user e.attrs) o ≡ None → false ≡ matching f (option_map (tombstone_shown v) o)
    by None g = refl
    by (Some e) g = absurd (nothing_is (map user e.attrs) (sym g))

pub gone_match : (v : DirectoryView) (f : Filter) (u : Uid) (own : List Shown) (t : Truth) → tombstone_own_of v u ≡ Some own → t ≡ truth_by (gone_shown_at v u) f → is_yes t ≡ is_gone_match v f u
gone_match v f u own t lent h = ap is_yes h ∙ by (gone_at v u) lent
  where
    by : (o : Option Tombstone) → option_map (λ (e : Tombstone). map user e.attrs) o ≡ Some own → is_yes (truth_by (shows (attrs_of (option_map (tombstone_shown v) o))) f) ≡ matching f (option_map (tombstone_shown v) o)
    by None k = absurd (nothing_is own k)
    by (Some e) k = refl
