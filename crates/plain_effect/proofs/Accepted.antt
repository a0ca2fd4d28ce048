-- What stands where the rules accept an add.
use Rattle.std.proofs.Common.{◌≡◌, ℕ, Bool, false, not, ◌&&◌, List, [], ◌∷◌, ◌++◌, length, refl, sym, ap, subst, ◌∙◌, Ok, Some, None, nat_lt}
use Rattle.std.specs.Prelude.{is_some}
use Rattle.std.specs.List.{AllByRecursion, list_any}
use Rattle.repl_data.specs.declared.csn.Csn.{Csn}
use Rattle.repl_data.specs.declared.csn.Uid.{Uid}
use Rattle.repl_data.specs.declared.change.Attr.{Attr}
use Rattle.repl_data.specs.declared.change.Rdn.{Rdn}
use Rattle.repl_data.specs.declared.change.Body.{Body}
use Rattle.repl_data.specs.declared.change.Body.TheVariants.{Add}
use Rattle.repl_data.specs.declared.change.Change.{Change}
use Rattle.repl_data.specs.declared.change.Suffix.{Suffix}
use Rattle.repl_data.specs.Types.{is_derived_ava}
use Rattle.repl_data.specs.Check.{weight}
use Rattle.repl_data.specs.Closed.{IsClosed}
use Rattle.repl_data.specs.Plain.{plain_effect}
use Rattle.repl_data.specs.View.{DirectoryView, child_of, view_of}
use Rattle.repl_data.proofs.Sound.{neither}
use Rattle.ldap_types.specs.declared.request.Control.{Control}
use Rattle.ldap_types.specs.declared.request.RawAttr.{RawAttr}
use Rattle.ldap_types.specs.declared.reply.Identity.{Identity}
use Rattle.rule_values.specs.Listed.{named_keys, attributes_beside, with_name, has_too_many_values, entry_attributes}
use Rattle.ldap_rules.specs.Case.{◌>>=◌, coded}
use Rattle.dn_text.specs.Names.{entry_at}
use Rattle.ldap_rules.specs.Writes.{all_writes, not_too_heavy}
use Rattle.ldap_rules.specs.Add.{add_body, add_verdict}
use Rattle.ldap_rules.specs.Laws.{change_at, needed_at, IsDrawnAbove}
use Rattle.ldap_rules.proofs.Chains.{by_pass, by_free, by_code, same_ok}
use Rattle.ldap_rules.proofs.Goods.{AreRead, attributes_read}
use Rattle.ldap_rules.proofs.Written.{listed_as}
use Rattle.ldap_rules.proofs.Named.{parts_read}
use Rattle.ldap_rules.proofs.There.{entry_there}
use Rattle.plain_effect.specs.Above.{IsAbove}
use Rattle.plain_effect.proofs.Shown.{HasFew}
use Rattle.plain_effect.proofs.Effect.{add_effect}

record IsAccepted (v : DirectoryView) (given : List RawAttr) (body : Body) : Type 0 where
  rdn : Rdn
  above : List Rdn
  parent : Uid
  attrs : List Attr
  plain : list_any is_derived_ava rdn.avas ≡ false
  at : entry_at v above ≡ Ok parent
  free : is_some (child_of v parent rdn) ≡ false
  listed : attributes_beside [] given ≡ Ok attrs
  single : list_any has_too_many_values (with_name rdn attrs) ≡ false
  is : body ≡ Add parent rdn (with_name rdn attrs)

body_accepted : (v : DirectoryView) (given : List RawAttr) (rdns : List Rdn) (body : Body) → add_body v given rdns ≡ Ok body → IsAccepted v given body
unfolding add_body
body_accepted v given [] body h = let n : ⊥ = cc in absurd n
body_accepted v given (rdn ∷ above) body h =
    by_free (list_any is_derived_ava rdn.avas) 64 _ body h (λ plain h1.
    by_pass (entry_at v above) _ body h1 (λ parent at h2.
    by_free (is_some (child_of v parent rdn)) 68 _ body h2 (λ free h3.
    by_pass (coded (entry_attributes rdn given)) _ body h3 (λ whole coded_as h4.
    by_code (entry_attributes rdn given) whole coded_as (λ made.
    let l = listed_as rdn given whole made in
    record {
      rdn = rdn;
      above = above;
      parent = parent;
      attrs = l.attrs;
      plain = plain;
      at = at;
      free = free;
      listed = l.listed;
      single = l.single;
      is = sym (same_ok (Add parent rdn whole) body h4) ∙ ap (Add parent rdn) l.whole;
    })))))

accepted : (v : DirectoryView) (controls : List Control) (bound : Identity) (object : List ℕ) (given : List RawAttr) (body : Body) → add_verdict v controls bound object given ≡ Ok body → IsAccepted v given body
accepted v controls bound object given body h =
    by_pass (all_writes v.suffix controls bound object >>= add_body v given) not_too_heavy body h (λ made h1 l.
    by_free (nat_lt 2097152 (weight made)) 11 _ body l (λ light e.
    let same : made ≡ body = cc in
    by_pass (all_writes v.suffix controls bound object) (add_body v given) made h1 (λ rdns w b.
    subst (IsAccepted v given) same (body_accepted v given rdns made b))))

all_few : (attrs : List Attr) → list_any has_too_many_values attrs ≡ false → AllByRecursion HasFew attrs
all_few [] h = tt
all_few (a ∷ attrs) h =
    let h' = neither (has_too_many_values a) (list_any has_too_many_values attrs) h in
    ((λ s. sym (ap (λ (b : Bool). b && nat_lt 1 (length a.vals)) s) ∙ h'.0), all_few attrs h'.1)

-- THE EFFECT OF AN ACCEPTED ADD
pub accepted_effect : (suffix : Suffix) (xs : List Change) (controls : List Control) (bound : Identity) (object : List ℕ) (given : List RawAttr) (body : Body) (c : Csn)
    → IsClosed xs → IsAbove c xs → add_verdict (view_of suffix xs) controls bound object given ≡ Ok body → IsDrawnAbove c (needed_at c None body)
    → plain_effect (view_of suffix xs) (change_at c None body) ≡ Some (view_of suffix (xs ++ change_at c None body ∷ []))
unfolding with_name
accepted_effect suffix xs controls bound object given body c closed above h drawn =
    let v : DirectoryView = view_of suffix xs in
    let w = accepted v controls bound object given body h in
    let read : AreRead (named_keys given) w.attrs = attributes_read [] [] w.attrs given w.listed (record { good = (tt, tt); names_are = refl }) in
    let whole = parts_read (named_keys given) w.attrs w.rdn.avas w.plain read in
    subst (λ (b : Body). plain_effect v (change_at c None b) ≡ Some (view_of suffix (xs ++ change_at c None b ∷ []))) (sym w.is)
    (ap Some (add_effect suffix xs c (record { csn = c }) w.parent w.rdn (with_name w.rdn w.attrs) refl drawn.rid closed.sound above
    (entry_there v w.above w.parent w.at) w.free whole.good.0 whole.good.1 (all_few (with_name w.rdn w.attrs) w.single)))
