-- What asks for tombstones, one equation for each kind of filter.
use Rattle.std.proofs.Common.{◌≡◌, ℕ, Bool, true, false, List, Option, refl, sym, ap, ◌∙◌, map}
use Rattle.std.specs.Prelude.{Result, Ok, Err, IfOk}
use Rattle.std.specs.List.{list_any}
use Rattle.repl_data.specs.declared.items.NoMemory.{NoMemory}
use Rattle.ldap_types.specs.declared.request.Filter.{Filter, fold-Filter, fold-roll-Filter, map-Filter}
use Rattle.ldap_types.specs.declared.request.Filter.TheViews.{out-Filter, roll-Filter, roll-out-Filter}
use Rattle.ldap_types.specs.declared.request.Filter.TheVariants as filter
use Rattle.ldap_types.specs.declared.request.Filter.TheVariants.{rolls-And, rolls-Equality}
use Rattle.ldap_types.specs.declared.request.Filter.TheOpen.{Filter-F}
use Rattle.search_core.specs.Tombstones.{Asking, asking, asking_step, asks_tombstones, names_class}
use Rattle.search_core.specs.Dead.{is_it}
use Rattle.repl_data.proofs.Known.{any_map}

asking-roll : (layer : Filter-F Filter) → asking (roll-Filter layer) ≡ asking_step (map-Filter Filter Asking (λ f. asking f) layer)
unfolding asking
asking-roll layer = fold-roll-Filter Asking asking_step layer

asking-Equality : (name value : List ℕ) → asking (filter.Equality name value) ≡ record { is_it = names_class name value; asks = names_class name value }
asking-Equality name value = ap asking (sym (rolls-Equality name value)) ∙ asking-roll (Filter-F.Equality name value)

asking-And : (fs : List Filter) → asking (filter.And fs) ≡ record { is_it = false; asks = list_any (λ (a : Asking). a.is_it) (map (λ f. asking f) fs) }
asking-And fs = ap asking (sym (rolls-And fs)) ∙ asking-roll (Filter-F.And fs)

any_it : (fs : List Filter) → list_any (λ (a : Asking). a.is_it) (map (λ f. asking f) fs) ≡ list_any is_it fs
any_it fs = any_map (λ (a : Asking). a.is_it) (λ f. asking f) fs

pub it_is : (name value : List ℕ) → is_it (filter.Equality name value) ≡ names_class name value
it_is name value = ap (λ (a : Asking). a.is_it) (asking-Equality name value)

pub and_asks : (fs : List Filter) → asks_tombstones (filter.And fs) ≡ list_any is_it fs
and_asks fs = ap (λ (a : Asking). a.asks) (asking-And fs) ∙ any_it fs

-- what is no equality is not it
of_layer : (layer : Filter-F Filter) → ((name value : List ℕ) → layer ≡ Filter-F.Equality name value → ⊥) → (asking_step (map-Filter Filter Asking (λ f. asking f) layer)).is_it ≡ false
of_layer (Filter-F.And fs) n = refl
of_layer (Filter-F.Or fs) n = refl
of_layer (Filter-F.Not f) n = refl
of_layer (Filter-F.Equality name value) n = absurd (n name value refl)
of_layer (Filter-F.Substrings name first middle last) n = refl
of_layer (Filter-F.AtLeast name value) n = refl
of_layer (Filter-F.AtMost name value) n = refl
of_layer (Filter-F.Present name) n = refl
of_layer (Filter-F.Approximate name value) n = refl
of_layer Filter-F.Extensible n = refl

pub it_is_not : (f : Filter) → ((name value : List ℕ) → f ≡ filter.Equality name value → ⊥) → is_it f ≡ false
it_is_not f n =
    ap is_it (sym (roll-out-Filter f))
    ∙ ap (λ (a : Asking). a.is_it) (asking-roll (out-Filter f))
    ∙ of_layer (out-Filter f) (λ name value e. n name value (sym (roll-out-Filter f) ∙ ap (λ (l : Filter-F Filter). roll-Filter l) e ∙ rolls-Equality name value))

-- what is no `and` asks for them if it is it
same_layer : (layer : Filter-F Filter) → ((fs : List Filter) → layer ≡ Filter-F.And fs → ⊥)
    → (asking_step (map-Filter Filter Asking (λ f. asking f) layer)).asks ≡ (asking_step (map-Filter Filter Asking (λ f. asking f) layer)).is_it
same_layer (Filter-F.And fs) n = absurd (n fs refl)
same_layer (Filter-F.Or fs) n = refl
same_layer (Filter-F.Not f) n = refl
same_layer (Filter-F.Equality name value) n = refl
same_layer (Filter-F.Substrings name first middle last) n = refl
same_layer (Filter-F.AtLeast name value) n = refl
same_layer (Filter-F.AtMost name value) n = refl
same_layer (Filter-F.Present name) n = refl
same_layer (Filter-F.Approximate name value) n = refl
same_layer Filter-F.Extensible n = refl

pub asks_alone : (f : Filter) → ((fs : List Filter) → f ≡ filter.And fs → ⊥) → asks_tombstones f ≡ is_it f
asks_alone f n =
    ap (λ (g : Filter). (asking g).asks) (sym (roll-out-Filter f))
    ∙ ap (λ (a : Asking). a.asks) (asking-roll (out-Filter f))
    ∙ same_layer (out-Filter f) (λ fs e. n fs (sym (roll-out-Filter f) ∙ ap (λ (l : Filter-F Filter). roll-Filter l) e ∙ rolls-And fs))
    ∙ sym (ap (λ (a : Asking). a.is_it) (asking-roll (out-Filter f)))
    ∙ ap (λ (g : Filter). (asking g).is_it) (roll-out-Filter f)

pub it_told : (r : Result Bool NoMemory) (f : Filter) (name value n m : List ℕ) → f ≡ filter.Equality name value → n ≡ name → m ≡ value → IfOk r (λ is. is ≡ names_class n m) → IfOk r (λ is. is ≡ is_it f)
it_told (Ok is) f name value n m e p q h = h ∙ (λ i. names_class (p i) (q i)) ∙ sym (ap is_it e ∙ it_is name value)
it_told (Err x) f name value n m e p q h = tt

pub and_told : (r : Result Bool NoMemory) (f : Filter) (fs gs : List Filter) → f ≡ filter.And fs → gs ≡ fs → IfOk r (λ is. is ≡ list_any is_it gs) → IfOk r (λ asks. asks ≡ asks_tombstones f)
and_told (Ok is) f fs gs e p h = h ∙ ap (list_any is_it) p ∙ sym (ap asks_tombstones e ∙ and_asks fs)
and_told (Err x) f fs gs e p h = tt

pub alone_told : (r : Result Bool NoMemory) (f : Filter) → ((fs : List Filter) → f ≡ filter.And fs → ⊥) → IfOk r (λ is. is ≡ is_it f) → IfOk r (λ asks. asks ≡ asks_tombstones f)
alone_told (Ok is) f n h = h ∙ sym (asks_alone f n)
alone_told (Err x) f n h = tt
