-- What a query takes of what it finds.
use Rattle.std.proofs.Common.{◌≡◌, ℕ, Bool, true, false, ◌&&◌, cond, List, [], ◌∷◌, ◌++◌, length, nat_le, nat_lt, refl, sym, ap, ◌∙◌, append-nil}
use Rattle.repl_data.specs.declared.change.ShownEntry.{ShownEntry}
use Rattle.ldap_types.specs.declared.request.SearchRequest.{SearchRequest}
use Rattle.search_core.specs.declared.found.Hits.{Hits}
use Rattle.search_core.specs.declared.query.Query.{Query}
use Rattle.search_core.specs.Selected.{chosen}
use Rattle.search_core.specs.Hits.{is_meant}
use Rattle.search_core.specs.Search.{told}
use Rattle.search_core.specs.Query.{Asks}
use Rattle.search_core.proofs.Told.{take_over, take_one, chosen_selected}

module _ (q : Query) (r : SearchRequest) (all : List ShownEntry) (e : ShownEntry) (old : Hits) (asks : Asks q r) (was : old ≡ told r all) where
  as_told : (nat_lt 0 q.limit && nat_le q.limit (length old.entries)) ≡ (nat_lt 0 r.size_limit && nat_le r.size_limit (length (told r all).entries))
  as_told = λ i. nat_lt 0 (asks.limit i) && nat_le (asks.limit i) (length (was i).entries)

  pub take_full : (nat_lt 0 q.limit && nat_le q.limit (length old.entries)) ≡ true → record old { over = true } ≡ told r (all ++ e ∷ [])
  take_full full = ap (λ (h : Hits). record h { over = true }) was ∙ take_over r all e (sym as_told ∙ full)

  pub take_room : (nat_lt 0 q.limit && nat_le q.limit (length old.entries)) ≡ false → record old { entries = old.entries ++ chosen q.selection e ∷ [] } ≡ told r (all ++ e ∷ [])
  take_room room =
      (λ i. record (was i) { entries = (was i).entries ++ chosen_selected q.selection r.attrs r.types_only e asks.selection i ∷ [] })
      ∙ sym (take_one r all e (sym as_told ∙ room))

  -- only what is meant is taken
  pub meant_yes : is_meant r.filter e ≡ true → all ++ e ∷ [] ≡ all ++ cond (is_meant r.filter e) (e ∷ []) []
  meant_yes h = ap (λ b. all ++ cond b (e ∷ []) []) (sym h)

  pub meant_no : is_meant r.filter e ≡ false → old ≡ told r (all ++ cond (is_meant r.filter e) (e ∷ []) [])
  meant_no h = was ∙ ap (told r) (sym (append-nil all) ∙ ap (λ b. all ++ cond b (e ∷ []) []) (sym h))
