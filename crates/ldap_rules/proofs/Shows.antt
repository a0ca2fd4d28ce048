-- What a compare is answered where the entry has the attribute.
use Rattle.std.proofs.Common.{◌≡◌, ℕ, List, map, Result, Ok, ap, ◌∙◌, sym, Option, Some}
use Rattle.std.specs.Prelude.{find, option_map}
use Rattle.std.specs.List.{list_any}
use Rattle.repl_data.specs.declared.change.AttrKey.{AttrKey}
use Rattle.repl_data.specs.declared.change.Val.{Val}
use Rattle.repl_data.specs.declared.change.Shown.{Shown}
use Rattle.repl_data.specs.Order.{bytes_eq}
use Rattle.repl_data.proofs.Known.{any_map}
use Rattle.ldap_types.specs.declared.reply.LdapResult.{LdapResult}
use Rattle.rule_values.specs.Listed.{read_name, read_value}
use Rattle.ldap_rules.specs.Case.{◌>>=◌, coded}
use Rattle.ldap_rules.specs.Compare.{keys_in, there, told, compared}

pub any_key : (key : List ℕ) (vals : List Val) → list_any (λ (v : Val). bytes_eq key v.key) vals ≡ list_any (bytes_eq key) (map (λ (v : Val). v.key) vals)
any_key key vals = sym (any_map (bytes_eq key) (λ (v : Val). v.key) vals)

abbrev from_keys : AttrKey → List ℕ → Option (List (List ℕ)) → Result LdapResult LdapResult
from_keys attr value o = there o >>= λ keys. coded (read_value attr value) >>= λ v. Ok (told v.key keys)

pub shown_told : (shown : List Shown) (name value : List ℕ) (attr : AttrKey) (one : Shown) (v : Val) → coded (read_name name) ≡ Ok attr → Some one ≡ find (λ (s : Shown). bytes_eq s.attr.name attr.name) shown → coded (read_value attr value) ≡ Ok v → compared (keys_in shown) name value ≡ Ok (told v.key (map (λ (w : Val). w.key) one.vals))
unfolding compared
shown_told shown name value attr one v n f r =
    ap (λ (x : Result AttrKey LdapResult). x >>= λ t. from_keys t value (keys_in shown t)) n
    ∙ ap (λ (o : Option Shown). from_keys attr value (option_map (λ (s : Shown). map (λ (w : Val). w.key) s.vals) o)) (sym f)
    ∙ ap (λ (x : Result Val LdapResult). x >>= λ w. Ok (told w.key (map (λ (w : Val). w.key) one.vals))) r
