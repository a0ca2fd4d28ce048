-- Values that are made: their keys, and their order.
use Rattle.std.proofs.Common.{◌≡◌, ℕ, List, Option, Some, None, cond, refl, sym, ap, subst, ◌∙◌}
use Rattle.std.specs.Prelude.{codes, unwrap_or, is_none, map, Result, Ok, Err, IfOk}
use Rattle.repl_data.specs.declared.change.AttrKey.{AttrKey}
use Rattle.repl_data.specs.declared.change.Val.{Val}
use Rattle.repl_data.specs.declared.items.NoMemory.{NoMemory}
use Rattle.attr_keys.specs.declared.kind.Kind.{Kind}
use Rattle.attr_keys.specs.declared.kind.Kind.TheVariants.{Dir}
use Rattle.attr_keys.specs.declared.fault.KeyFault.{KeyFault}
use Rattle.attr_keys.specs.declared.fault.KeyFault.TheVariants.{BadValue}
use Rattle.attr_keys.specs.Table.{kind_of, type_of, types}
use Rattle.attr_keys.specs.Value.{bad_value, value_key, IsValueFault}
use Rattle.filter_truth.specs.Truth.{value_of}
use Rattle.repl_data.specs.Order.{bytes_cmp, in_order}
use Rattle.repl_data.proofs.Loops.{in_order_by_order}
use Rattle.search_core.specs.Made.{directory_val, vector_vals}

ruv_kind : kind_of (codes "nsds50ruv") ≡ Dir
unfolding kind_of type_of types
ruv_kind = refl

pub ruv_named : (r : Result AttrKey NoMemory) → IfOk r (λ t. t ≡ record { name = codes "nsds50ruv" }) → IfOk r (λ (t : AttrKey). kind_of t.name ≡ Dir)
ruv_named (Ok t) h = ap (λ (s : AttrKey). kind_of s.name) h ∙ ruv_kind
ruv_named (Err e) h = tt

abbrev key_or : Option ℕ → List ℕ → List ℕ
key_or o bytes = unwrap_or (cond (is_none o) (Some (value_key Dir bytes)) None) bytes

val_from : (bytes key spelled : List ℕ) → key ≡ unwrap_or (value_of Dir bytes) bytes → spelled ≡ bytes → record { key = key; spelled = spelled } ≡ directory_val bytes
val_from bytes key spelled k s = λ i. record { key = k i; spelled = s i }

-- bytes that are a text
pub made_val : (kind : Kind) (bytes key spelled : List ℕ) → kind ≡ Dir → key ≡ value_key kind bytes → bad_value kind bytes ≡ None → spelled ≡ bytes → record { key = key; spelled = spelled } ≡ directory_val bytes
made_val kind bytes key spelled e k good s =
    val_from bytes key spelled
    (k ∙ ap (λ d. value_key d bytes) e ∙ sym (ap (λ o. key_or o bytes) (ap (λ d. bad_value d bytes) (sym e) ∙ good))) s

-- and bytes that are none
pub bare_val : (kind : Kind) (bytes key spelled : List ℕ) (place : ℕ) (fault : KeyFault) → kind ≡ Dir → fault ≡ BadValue place → IsValueFault (bad_value kind bytes) fault → key ≡ bytes → spelled ≡ bytes → record { key = key; spelled = spelled } ≡ directory_val bytes
bare_val kind bytes key spelled place fault e told bad k s =
    let h : bad_value kind bytes ≡ Some place = subst (IsValueFault (bad_value kind bytes)) told bad in
    val_from bytes key spelled (k ∙ sym (ap (λ o. key_or o bytes) (ap (λ d. bad_value d bytes) (sym e) ∙ h))) s

pub vals_in_order : (r : Result (List Val) NoMemory) (vals : List Val) (vector : List (List ℕ)) → vals ≡ map directory_val vector → IfOk r (λ sorted. sorted ≡ in_order (λ (a b : Val). bytes_cmp a.key b.key) vals) → IfOk r (λ sorted. sorted ≡ vector_vals vector)
vals_in_order (Ok sorted) vals vector e h =
    h ∙ ap (in_order (λ (a b : Val). bytes_cmp a.key b.key)) e ∙ sym (in_order_by_order (λ (v : Val). v.key) bytes_cmp (map directory_val vector))
vals_in_order (Err x) vals vector e h = tt
