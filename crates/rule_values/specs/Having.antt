-- What an entry has while modifications are carried out: the attributes that they touched, and of the others what it
-- shows.
use Rattle.std.specs.Prelude.{ℕ, not, List, find, filter, Result, Ok}
use Rattle.std.specs.List.{list_all}
use Rattle.std.specs.Option.{option_map_or}
use Rattle.repl_data.specs.declared.change.Attr.{Attr}
use Rattle.repl_data.specs.declared.change.Shown.{Shown}
use Rattle.repl_data.specs.Order.{bytes_eq}
use Rattle.repl_data.specs.declared.change.Val.{Val}
use Rattle.rule_values.specs.Written.{Values}
use Rattle.repl_data.specs.declared.change.Mod.{Mod}
use Rattle.ldap_types.specs.declared.request.RawMod.{RawMod}
use Rattle.rule_values.specs.declared.fault.Refusal.{Refusal}
use Rattle.rule_values.specs.declared.fault.Refusal.TheVariants.{HeldAlready, NotHeld}
use Rattle.rule_values.specs.Refusing.{◌>>=◌, refuse_if}
use Rattle.rule_values.specs.Listed.{has_key}
use Rattle.repl_data.specs.declared.change.ModKind.{ModKind}
use Rattle.repl_data.specs.Plain.{values_after, without_values}
use Rattle.repl_data.specs.View.{put_val}
use Rattle.rule_values.specs.Modify.{shown_values, read_mod, fits}

abbrev pub val_key : Val → List ℕ
val_key v = v.key

abbrev pub attr_name : Attr → List ℕ
attr_name a = a.attr.name

abbrev pub held : List Shown → List Attr → Values
held own touched name = option_map_or (λ (a : Attr). a.vals) (find (λ (a : Attr). bytes_eq name a.attr.name) touched) (shown_values own name)

-- one modification of an entry that has these values
unfoldable pub step : Values → RawMod → Result Mod Refusal
step has given =
    read_mod given >>= λ m.
    fits m.kind m.vals (has m.attr.name) >>= λ _.
    Ok m

-- one modification of an attribute that has these values: what it leaves of them, where it fits
unfoldable pub changed : ModKind → List Val → List Val → Result (List Val) Refusal
changed kind vals had = fits kind vals had >>= λ _. Ok (values_after kind vals had)

-- one value more, which may not be held
abbrev pub with_new : Val → List Val → Result (List Val) Refusal
with_new v had = refuse_if (has_key v.key had) HeldAlready >>= λ _. Ok (put_val v had)

-- one value less, which must be held
abbrev pub without_one : Val → List Val → Result (List Val) Refusal
without_one v had = refuse_if (not (has_key v.key had)) NotHeld >>= λ _. Ok (filter (λ (w : Val). not (bytes_eq w.key v.key)) had)

-- what is left without values, each of which must be held
abbrev pub left_of : List Val → List Val → Result (List Val) Refusal
left_of vals had = refuse_if (not (list_all (λ (v : Val). has_key v.key had) vals)) NotHeld >>= λ _. Ok (without_values vals had)
