-- Searches and compares by one search of a node.
use Rattle.std.proofs.Common.{◌≡◌, ℕ, true, false, List, Result, refl, sym, ap, subst, ◌∙◌}
use Rattle.repl_data.specs.declared.items.NoMemory.{NoMemory}
use Rattle.repl_data.specs.Check.{is_empty}
use Rattle.ldap_types.specs.declared.request.Control.{Control}
use Rattle.ldap_types.specs.declared.request.SearchRequest.{SearchRequest}
use Rattle.ldap_types.specs.declared.reply.LdapResult.{LdapResult}
use Rattle.ldap_rules.specs.Case.{result_of}
use Rattle.search_core.specs.declared.found.Found.{Found}
use Rattle.node_core.specs.Node.{Node}
use Rattle.conn_core.specs.Serving.{Reach, only, has_critical, IsSearched, or_other, Searches, search_refused, search_answered, compare_search, IsComparedBy, Compares, compare_refused, compare_nothing, compare_unasked, compare_asked}

pub compared_so : (answer told : Result Found NoMemory) (name value : List ℕ) (result : LdapResult) → answer ≡ told → IsComparedBy told name value result → IsComparedBy answer name value result
compared_so answer told name value result e h = subst (λ (x : Result Found NoMemory). IsComparedBy x name value result) (sym e) h

module _ {N : Type 0} (c : Reach N) where
  -- a search leaves the life of the node
  pub searched_life : (request : SearchRequest) (old new : N) (answer : Result Found NoMemory) → IsSearched c request old new answer → (c.node new).life ≡ (c.node old).life
  searched_life request old new answer s = ap (λ (n : Node). n.life) s.left ∙ s.call.life

  -- ---- searches

  pub by_refusal : (controls : List Control) (request : SearchRequest) (node : N) (result : LdapResult) (answer : Found) → has_critical controls ≡ true → result ≡ result_of 12 → answer ≡ only result → Searches c controls request node node answer
  by_refusal controls request node result answer critical told is =
      subst (λ (x : Found). Searches c controls request node node x) (sym (is ∙ ap (λ (r : LdapResult). only r) told)) (search_refused critical refl)

  pub by_search : (controls : List Control) (request : SearchRequest) (old new : N) (found : Result Found NoMemory) (answer : Found) → has_critical controls ≡ false → IsSearched c request old new found → answer ≡ or_other found → Searches c controls request old new answer
  by_search controls request old new found answer free s is =
      subst (λ (x : Found). Searches c controls request old new x) (sym is) (search_answered found free s)

  -- ---- compares

  pub compares_critical : (controls : List Control) (object name value : List ℕ) (node : N) (result : LdapResult) → has_critical controls ≡ true → result ≡ result_of 12 → Compares c controls object name value node node result
  compares_critical controls object name value node result critical told =
      subst (λ (x : LdapResult). Compares c controls object name value node node x) (sym told) (compare_refused critical refl)

  pub compares_nothing : (controls : List Control) (object name value : List ℕ) (node : N) (result : LdapResult) → has_critical controls ≡ false → is_empty object ≡ true → result ≡ result_of 32 → Compares c controls object name value node node result
  compares_nothing controls object name value node result free none told =
      subst (λ (x : LdapResult). Compares c controls object name value node node x) (sym told) (compare_nothing free none refl)

  pub compares_unasked : (controls : List Control) (object name value : List ℕ) (node : N) (result : LdapResult) → result ≡ result_of 80 → Compares c controls object name value node node result
  compares_unasked controls object name value node result told =
      subst (λ (x : LdapResult). Compares c controls object name value node node x) (sym told) (compare_unasked refl)

  pub compares_by : (controls : List Control) (object name value : List ℕ) (request : SearchRequest) (old new : N) (result : LdapResult) → has_critical controls ≡ false → is_empty object ≡ false → request ≡ compare_search object
      → (answer : Result Found NoMemory) × IsSearched c request old new answer × IsComparedBy answer name value result → Compares c controls object name value old new result
  compares_by controls object name value request old new result free some is s =
      compare_asked s.0 result free some (subst (λ (q : SearchRequest). IsSearched c q old new s.0) is s.1) s.2
