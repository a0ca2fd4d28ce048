-- The truth of a filter, and of one that is ready, one equation for each kind of filter.
use Rattle.std.proofs.Common.{◌≡◌, ℕ, Bool, true, List, ◌∷◌, Option, sym, ap, ◌∙◌, map}
use Rattle.std.specs.List.{list_any}
use Rattle.ldap_types.specs.declared.request.Filter.{Filter, fold-Filter, fold-roll-Filter, roll-Filter, map-Filter}
use Rattle.ldap_types.specs.declared.request.Filter.TheVariants as filter
use Rattle.ldap_types.specs.declared.request.Filter.TheVariants.{rolls-And, rolls-Or, rolls-Not, rolls-Equality, rolls-Substrings, rolls-AtLeast, rolls-AtMost, rolls-Present, rolls-Approximate, rolls-Extensible}
use Rattle.ldap_types.specs.declared.request.Filter.TheOpen.{Filter-F}
use Rattle.filter_truth.specs.declared.three.Truth.{Truth}
use Rattle.filter_truth.specs.declared.three.Truth.TheVariants.{No, Undefined}
use Rattle.filter_truth.specs.declared.test.Assertion.{Assertion}
use Rattle.filter_truth.specs.declared.test.Comparison.TheVariants.{Equal, AtLeast, AtMost}
use Rattle.filter_truth.specs.declared.prepared.Prepared.{Prepared, fold-Prepared, fold-roll-Prepared, roll-Prepared, map-Prepared}
use Rattle.filter_truth.specs.declared.prepared.Prepared.TheVariants as ready
use Rattle.filter_truth.specs.declared.prepared.Prepared.TheVariants.{rolls-Asserts, rolls-Unreadable, rolls-Nowhere}
use Rattle.filter_truth.specs.declared.prepared.Prepared.TheVariants.{rolls-And as rolls-ready-And, rolls-Or as rolls-ready-Or, rolls-Not as rolls-ready-Not}
use Rattle.filter_truth.specs.declared.prepared.Prepared.TheOpen.{Prepared-F}
use Rattle.filter_truth.specs.Three.{of_bool, negated, all_of, any_of}
use Rattle.filter_truth.specs.Truth.{Shows, told, asserted, attr_of, compares, with_pieces, is_there, truth_step, truth_by}
use Rattle.filter_truth.specs.Prepared.{passes, ready_step, ready_by}
use Rattle.filter_truth.specs.Lent.{looks_at_names, names_step, asks_names}
use Rattle.repl_data.proofs.Known.{any_map}

-- ---- of a filter

truth-roll : (shown : Shows) (layer : Filter-F Filter) → truth_by shown (roll-Filter layer) ≡ truth_step shown (map-Filter Filter Truth (λ f. truth_by shown f) layer)
unfolding truth_by
truth-roll shown layer = fold-roll-Filter Truth (truth_step shown) layer

pub truth-And : (shown : Shows) (fs : List Filter) → truth_by shown (filter.And fs) ≡ all_of (map (λ f. truth_by shown f) fs)
truth-And shown fs = ap (λ (g : Filter). truth_by shown g) (sym (rolls-And fs)) ∙ truth-roll shown (Filter-F.And fs)

pub truth-Or : (shown : Shows) (fs : List Filter) → truth_by shown (filter.Or fs) ≡ any_of (map (λ f. truth_by shown f) fs)
truth-Or shown fs = ap (λ (g : Filter). truth_by shown g) (sym (rolls-Or fs)) ∙ truth-roll shown (Filter-F.Or fs)

pub truth-Not : (shown : Shows) (f : Filter) → truth_by shown (filter.Not f) ≡ negated (truth_by shown f)
truth-Not shown f = ap (λ (g : Filter). truth_by shown g) (sym (rolls-Not f)) ∙ truth-roll shown (Filter-F.Not f)

pub truth-Equality : (shown : Shows) (name value : List ℕ) → truth_by shown (filter.Equality name value) ≡ told shown (asserted (compares Equal value) (attr_of name))
truth-Equality shown name value = ap (λ (g : Filter). truth_by shown g) (sym (rolls-Equality name value)) ∙ truth-roll shown (Filter-F.Equality name value)

pub truth-AtLeast : (shown : Shows) (name value : List ℕ) → truth_by shown (filter.AtLeast name value) ≡ told shown (asserted (compares AtLeast value) (attr_of name))
truth-AtLeast shown name value = ap (λ (g : Filter). truth_by shown g) (sym (rolls-AtLeast name value)) ∙ truth-roll shown (Filter-F.AtLeast name value)

pub truth-AtMost : (shown : Shows) (name value : List ℕ) → truth_by shown (filter.AtMost name value) ≡ told shown (asserted (compares AtMost value) (attr_of name))
truth-AtMost shown name value = ap (λ (g : Filter). truth_by shown g) (sym (rolls-AtMost name value)) ∙ truth-roll shown (Filter-F.AtMost name value)

pub truth-Approximate : (shown : Shows) (name value : List ℕ) → truth_by shown (filter.Approximate name value) ≡ told shown (asserted (compares Equal value) (attr_of name))
truth-Approximate shown name value = ap (λ (g : Filter). truth_by shown g) (sym (rolls-Approximate name value)) ∙ truth-roll shown (Filter-F.Approximate name value)

pub truth-Substrings : (shown : Shows) (name : List ℕ) (first : Option (List ℕ)) (middle : List (List ℕ)) (last : Option (List ℕ)) → truth_by shown (filter.Substrings name first middle last) ≡ told shown (asserted (with_pieces first middle last) (attr_of name))
truth-Substrings shown name first middle last = ap (λ (g : Filter). truth_by shown g) (sym (rolls-Substrings name first middle last)) ∙ truth-roll shown (Filter-F.Substrings name first middle last)

pub truth-Present : (shown : Shows) (name : List ℕ) → truth_by shown (filter.Present name) ≡ of_bool (is_there shown (attr_of name))
truth-Present shown name = ap (λ (g : Filter). truth_by shown g) (sym (rolls-Present name)) ∙ truth-roll shown (Filter-F.Present name)

pub truth-Extensible : (shown : Shows) → truth_by shown filter.Extensible ≡ Undefined
truth-Extensible shown = ap (λ (g : Filter). truth_by shown g) (sym rolls-Extensible) ∙ truth-roll shown Filter-F.Extensible

-- ---- of one that is ready

ready-roll : (shown : Shows) (layer : Prepared-F Prepared) → ready_by shown (roll-Prepared layer) ≡ ready_step shown (map-Prepared Prepared Truth (λ p. ready_by shown p) layer)
unfolding ready_by
ready-roll shown layer = fold-roll-Prepared Truth (ready_step shown) layer

pub ready-And : (shown : Shows) (ps : List Prepared) → ready_by shown (ready.And ps) ≡ all_of (map (λ p. ready_by shown p) ps)
ready-And shown ps = ap (λ (g : Prepared). ready_by shown g) (sym (rolls-ready-And ps)) ∙ ready-roll shown (Prepared-F.And ps)

pub ready-Or : (shown : Shows) (ps : List Prepared) → ready_by shown (ready.Or ps) ≡ any_of (map (λ p. ready_by shown p) ps)
ready-Or shown ps = ap (λ (g : Prepared). ready_by shown g) (sym (rolls-ready-Or ps)) ∙ ready-roll shown (Prepared-F.Or ps)

pub ready-Not : (shown : Shows) (p : Prepared) → ready_by shown (ready.Not p) ≡ negated (ready_by shown p)
ready-Not shown p = ap (λ (g : Prepared). ready_by shown g) (sym (rolls-ready-Not p)) ∙ ready-roll shown (Prepared-F.Not p)

pub ready-Asserts : (shown : Shows) (a : Assertion) → ready_by shown (ready.Asserts a) ≡ of_bool (shown a.attr.name (passes a.attr.name a.test))
ready-Asserts shown a = ap (λ (g : Prepared). ready_by shown g) (sym (rolls-Asserts a)) ∙ ready-roll shown (Prepared-F.Asserts a)

pub ready-Unreadable : (shown : Shows) → ready_by shown ready.Unreadable ≡ Undefined
ready-Unreadable shown = ap (λ (g : Prepared). ready_by shown g) (sym rolls-Unreadable) ∙ ready-roll shown Prepared-F.Unreadable

pub ready-Nowhere : (shown : Shows) → ready_by shown ready.Nowhere ≡ No
ready-Nowhere shown = ap (λ (g : Prepared). ready_by shown g) (sym rolls-Nowhere) ∙ ready-roll shown Prepared-F.Nowhere

-- ---- whether it looks at the values that tell of lost names

asks-roll : (layer : Prepared-F Prepared) → asks_names (roll-Prepared layer) ≡ names_step (map-Prepared Prepared Bool (λ p. asks_names p) layer)
unfolding asks_names
asks-roll layer = fold-roll-Prepared Bool names_step layer

pub asks-And : (ps : List Prepared) → asks_names (ready.And ps) ≡ list_any asks_names ps
asks-And ps = ap asks_names (sym (rolls-ready-And ps)) ∙ asks-roll (Prepared-F.And ps) ∙ any_map (λ (b : Bool). b) (λ p. asks_names p) ps

pub asks-Or : (ps : List Prepared) → asks_names (ready.Or ps) ≡ list_any asks_names ps
asks-Or ps = ap asks_names (sym (rolls-ready-Or ps)) ∙ asks-roll (Prepared-F.Or ps) ∙ any_map (λ (b : Bool). b) (λ p. asks_names p) ps

pub asks-Not : (p : Prepared) → asks_names (ready.Not p) ≡ asks_names p
asks-Not p = ap asks_names (sym (rolls-ready-Not p)) ∙ asks-roll (Prepared-F.Not p)

pub asks-Asserts : (a : Assertion) → asks_names (ready.Asserts a) ≡ looks_at_names a
asks-Asserts a = ap asks_names (sym (rolls-Asserts a)) ∙ asks-roll (Prepared-F.Asserts a)
