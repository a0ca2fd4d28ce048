-- What stands where the rules write.
use Rattle.std.proofs.Common.{◌≡◌, ℕ, zero, suc, true, false, not, ◌&&◌, List, [], ◌∷◌, take, refl, sym, ap, subst, ◌∙◌, Result, Ok, Err, Option, Some, None, nat_lt}
use Rattle.std.specs.Prelude.{is_some, option_map}
use Rattle.std.specs.List.{AllByRecursion, list_any}
use Rattle.repl_data.specs.declared.csn.Csn.{Csn}
use Rattle.repl_data.specs.declared.csn.Uid.{Uid}
use Rattle.repl_data.specs.declared.change.Attr.{Attr}
use Rattle.repl_data.specs.declared.change.Rdn.{Rdn}
use Rattle.repl_data.specs.declared.change.Body.{Body}
use Rattle.repl_data.specs.declared.change.Body.TheVariants.{Add}
use Rattle.repl_data.specs.Types.{is_derived_ava}
use Rattle.repl_data.specs.Check.{weight, fault_of}
use Rattle.repl_data.specs.View.{DirectoryView, child_of}
use Rattle.dn_text.specs.declared.name.Dn.{Dn}
use Rattle.dn_text.specs.declared.fault.DnFault.{DnFault}
use Rattle.dn_text.specs.Laws.{IsReadable, AreReadable, IsReadablePart}
use Rattle.dn_text.specs.Reading.{dn_in}
use Rattle.ldap_types.specs.declared.request.Control.{Control}
use Rattle.ldap_types.specs.declared.request.RawAttr.{RawAttr}
use Rattle.ldap_types.specs.declared.reply.Identity.{Identity}
use Rattle.ldap_types.specs.declared.reply.LdapResult.{LdapResult}
use Rattle.ldap_rules.specs.Case.{◌>>=◌, coded}
use Rattle.dn_text.specs.Names.{rdns_above, count_above, entry_at, read_object, within}
use Rattle.rule_values.specs.declared.fault.Refusal.TheVariants as why
use Rattle.rule_values.specs.Listed.{named_keys, attribute_count, attributes_beside, with_name, has_too_many_values, is_class, entry_attributes}
use Rattle.ldap_rules.specs.Writes.{is_unknown, is_update_control, is_manager, is_supplier, all_writes, not_too_heavy}
use Rattle.ldap_rules.specs.Add.{add_body, add_verdict}
use Rattle.ldap_rules.specs.Verdict.{Writes, adds}
use Rattle.ldap_rules.specs.Laws.{change_at, needed_at, IsDrawnAbove, has_entry}
use Rattle.ldap_rules.proofs.Chains.{by_pass, by_free, by_fit, by_code, same_ok}
use Rattle.ldap_rules.proofs.Goods.{AreRead, attributes_read}
use Rattle.ldap_rules.proofs.Checked.{add_sound}
use Rattle.ldap_rules.specs.Carried.{CarriesKeys}
use Rattle.ldap_rules.proofs.There.{entry_there}
use Rattle.ldap_rules.proofs.OwnKeys.{HasOwnVals, attributes_own, parts_own}
use Rattle.ldap_rules.proofs.Changed.{each_readable, read_as}

-- an add of this name and these attributes makes this body
pub record IsWritten (v : DirectoryView) (object : List ℕ) (given : List RawAttr) (body : Body) : Type 0 where
  pub name : Dn
  pub rdn : Rdn
  pub rest : List Rdn
  pub above : List Rdn
  pub parent : Uid
  pub attrs : List Attr
  pub read : dn_in object ≡ Ok name
  pub first : name.rdns ≡ rdn ∷ rest
  pub plain : list_any is_derived_ava rdn.avas ≡ false
  pub at : entry_at v above ≡ Ok parent
  pub count : nat_lt 500 (attribute_count rdn given) ≡ false
  pub listed : attributes_beside [] given ≡ Ok attrs
  pub is : body ≡ Add parent rdn (with_name rdn attrs)
  pub light : nat_lt 2097152 (weight body) ≡ false

-- the RDNs above the suffix are the first ones of the name
record IsCut (name : Dn) (rdns : List Rdn) : Type 0 where
  count : ℕ
  taken : take count name.rdns ≡ rdns

cut_at : (suffix : Result Dn DnFault) (name : Dn) (rdns : List Rdn) → within (rdns_above suffix name) ≡ Ok rdns → IsCut name rdns
cut_at (Err e) name rdns h = let n : ⊥ = cc in absurd n
cut_at (Ok suffix) name rdns h = by (count_above name suffix) h
  where
    by : (o : Option ℕ) → within (option_map (λ count. take count name.rdns) o) ≡ Ok rdns → IsCut name rdns
    by None g = let n : ⊥ = cc in absurd n
    by (Some count) g = record { count = count; taken = cc }

record IsFirst (rdns : List Rdn) (rdn : Rdn) : Type 0 where
  rest : List Rdn
  is : rdns ≡ rdn ∷ rest

first_taken : (count : ℕ) (rdns : List Rdn) (rdn : Rdn) (above : List Rdn) → take count rdns ≡ rdn ∷ above → IsFirst rdns rdn
first_taken zero rdns rdn above h = let n : ⊥ = cc in absurd n
first_taken (suc count) [] rdn above h = let n : ⊥ = cc in absurd n
first_taken (suc count) (r ∷ rdns) rdn above h = let e : r ≡ rdn = cc in record { rest = rdns; is = ap (λ x. x ∷ rdns) e }

-- the attributes of an add that are written: as many as there may be, as they are listed, with the values of the name
pub record IsListed (rdn : Rdn) (given : List RawAttr) (made : List Attr) : Type 0 where
  pub attrs : List Attr
  pub count : nat_lt 500 (attribute_count rdn given) ≡ false
  pub listed : attributes_beside [] given ≡ Ok attrs
  pub single : list_any has_too_many_values (with_name rdn attrs) ≡ false
  pub whole : made ≡ with_name rdn attrs

pub listed_as : (rdn : Rdn) (given : List RawAttr) (whole : List Attr) → entry_attributes rdn given ≡ Ok whole → IsListed rdn given whole
unfolding entry_attributes
listed_as rdn given whole h =
    by_fit (nat_lt 500 (attribute_count rdn given)) why.TooManyAttributes _ whole h (λ count h1.
    by_pass (attributes_beside [] given) _ whole h1 (λ attrs listed h2.
    by_fit (list_any has_too_many_values (with_name rdn attrs)) why.SecondValue _ whole h2 (λ single h3.
    by_fit (not (list_any is_class (with_name rdn attrs))) why.NoClass _ whole h3 (λ class h4.
    record { attrs = attrs; count = count; listed = listed; single = single; whole = sym (same_ok (with_name rdn attrs) whole h4) }))))

-- the cases of an add that write
body_written : (v : DirectoryView) (object : List ℕ) (given : List RawAttr) (name : Dn) (rdns : List Rdn) (body : Body) → dn_in object ≡ Ok name → IsCut name rdns → add_body v given rdns ≡ Ok body → nat_lt 2097152 (weight body) ≡ false → IsWritten v object given body
unfolding add_body
body_written v object given name [] body read cut h light = let n : ⊥ = cc in absurd n
body_written v object given name (rdn ∷ above) body read cut h light =
    let first = first_taken cut.count name.rdns rdn above cut.taken in
    by_free (list_any is_derived_ava rdn.avas) 64 _ body h (λ plain h1.
    by_pass (entry_at v above) _ body h1 (λ parent at h2.
    by_free (is_some (child_of v parent rdn)) 68 _ body h2 (λ free h3.
    by_pass (coded (entry_attributes rdn given)) _ body h3 (λ whole coded_as h4.
    by_code (entry_attributes rdn given) whole coded_as (λ made.
    let l = listed_as rdn given whole made in
    record {
      name = name;
      rdn = rdn;
      rest = first.rest;
      above = above;
      parent = parent;
      attrs = l.attrs;
      read = read;
      first = first.is;
      plain = plain;
      at = at;
      count = l.count;
      listed = l.listed;
      is = sym (same_ok (Add parent rdn whole) body h4) ∙ ap (Add parent rdn) l.whole;
      light = light;
    })))))

add_written : (v : DirectoryView) (controls : List Control) (bound : Identity) (object : List ℕ) (given : List RawAttr) (body : Body) → add_verdict v controls bound object given ≡ Ok body → IsWritten v object given body
unfolding all_writes
add_written v controls bound object given body h =
    by_pass (all_writes v.suffix controls bound object >>= add_body v given) not_too_heavy body h (λ made h1 l.
    by_free (nat_lt 2097152 (weight made)) 11 _ body l (λ light e.
    let same : made ≡ body = cc in
    by_pass (all_writes v.suffix controls bound object) (add_body v given) made h1 (λ rdns w b.
    by_free (list_any is_unknown controls) 12 _ rdns w (λ known w1.
    by_free (list_any is_update_control controls && not (is_supplier bound)) 50 _ rdns w1 (λ own w2.
    by_free (not (is_manager bound)) 50 _ rdns w2 (λ manager w3.
    by_pass (read_object (dn_in object)) _ rdns w3 (λ name r c.
    subst (IsWritten v object given) same (body_written v object given name rdns made (read_as (dn_in object) name r) (cut_at (dn_in v.suffix) name rdns c) b light))))))))

-- what a verdict that writes is
pub record IsAdd (v : DirectoryView) (target : Option Uid) (body : Body) : Type 0 where
  pub object : List ℕ
  pub given : List RawAttr
  pub written : IsWritten v object given body
  pub no_target : target ≡ None

from_made : (made : Result Body LdapResult) (target : Option Uid) (body : Body) → adds made ≡ Writes target body → (made ≡ Ok body) × (target ≡ None)
from_made (Ok b) target body h = let e : b ≡ body = cc in let t : ◌≡◌ {A = Option Uid} None target = cc in (ap Ok e, sym t)
from_made (Err r) target body h = let n : ⊥ = cc in absurd n

pub op_added : (v : DirectoryView) (controls : List Control) (bound : Identity) (object : List ℕ) (given : List RawAttr) (target : Option Uid) (body : Body) → adds (add_verdict v controls bound object given) ≡ Writes target body → IsAdd v target body
op_added v controls bound object given target body h =
    let m = from_made (add_verdict v controls bound object given) target body h in
    record { object = object; given = given; written = add_written v controls bound object given body m.0; no_target = m.1 }

first_readable : (rdns : List Rdn) (rdn : Rdn) (rest : List Rdn) → rdns ≡ rdn ∷ rest → AreReadable rdns → AreReadable (rdn ∷ rest)
first_readable rdns rdn rest e r = subst AreReadable e r

pub written_sound : (v : DirectoryView) (target : Option Uid) (body : Body) (c : Csn) → ((text : List ℕ) (dn : Dn) → dn_in text ≡ Ok dn → IsReadable dn) → IsAdd v target body → IsDrawnAbove c (needed_at c target body) → fault_of (change_at c target body) ≡ None
written_sound v target body c law a drawn =
    let w = a.written in
    let r : AreReadable (w.rdn ∷ w.rest) = first_readable w.name.rdns w.rdn w.rest w.first (law a.object w.name w.read) in
    let read : AreRead (named_keys a.given) w.attrs = attributes_read [] [] w.attrs a.given w.listed (record { good = (tt, tt); names_are = refl }) in
    let is : body ≡ Add w.parent w.rdn (with_name w.rdn w.attrs) = w.is in
    let light : nat_lt 2097152 (weight (Add w.parent w.rdn (with_name w.rdn w.attrs))) ≡ false = subst (λ (b : Body). nat_lt 2097152 (weight b) ≡ false) is w.light in
    let d : IsDrawnAbove c w.parent = subst (λ (b : Body). IsDrawnAbove c (needed_at c None b)) is (subst (λ (t : Option Uid). IsDrawnAbove c (needed_at c t body)) a.no_target drawn) in
    let sound : fault_of (change_at c None (Add w.parent w.rdn (with_name w.rdn w.attrs))) ≡ None = add_sound c w.parent w.rdn a.given w.attrs r.0 r.1 w.plain read w.count light d in
    subst (λ (t : Option Uid). fault_of (change_at c t body) ≡ None) (sym a.no_target) (subst (λ (b : Body). fault_of (change_at c None b) ≡ None) (sym is) sound)

pub written_there : (v : DirectoryView) (target : Option Uid) (body : Body) (c : Csn) → IsAdd v target body → has_entry v (needed_at c target body) ≡ true
written_there v target body c a =
    let w = a.written in
    subst (λ (t : Option Uid). has_entry v (needed_at c t body) ≡ true) (sym a.no_target)
    (subst (λ (b : Body). has_entry v (needed_at c None b) ≡ true) (sym w.is) (entry_there v w.above w.parent w.at))

-- whatever its CSN is, it needs its parent
pub written_needs : (v : DirectoryView) (target : Option Uid) (body : Body) (c d : Csn) → IsAdd v target body → needed_at c target body ≡ needed_at d target body
written_needs v target body c d a =
    let w = a.written in
    subst (λ (b : Body). needed_at c target b ≡ needed_at d target b) (sym w.is) refl

-- it carries the keys of its spellings
pub written_carries : (v : DirectoryView) (target : Option Uid) (body : Body) → ((text : List ℕ) (dn : Dn) → dn_in text ≡ Ok dn → IsReadable dn) → IsAdd v target body → CarriesKeys body
unfolding with_name
written_carries v target body law a =
    let w = a.written in
    let r : AreReadable (w.rdn ∷ w.rest) = first_readable w.name.rdns w.rdn w.rest w.first (law a.object w.name w.read) in
    let parts : AllByRecursion IsReadablePart w.rdn.avas = each_readable w.rdn.avas r.1 in
    subst CarriesKeys (sym w.is) (parts, parts_own w.attrs w.rdn.avas parts (attributes_own [] w.attrs a.given w.listed tt))
