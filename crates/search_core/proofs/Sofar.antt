-- What is told of what was visited so far, and what is still to be visited.
use Rattle.std.proofs.Common.{◌≡◌, ℕ, ◌+◌, ◌<◌, ◌≤◌, true, List, [], ◌∷◌, ◌++◌, length, take, drop, get_or, refl, sym, ap, subst, ◌∙◌, append_assoc, append-nil}
use Rattle.std.specs.Prelude.{flat_map}
use Rattle.std.proofs.lemmas.List.{drop_more, take-append-drop}
use Rattle.std.proofs.lemmas.Grind.{flat_map-append}
use Rattle.repl_data.proofs.Loops.{flat_map_more}
use Rattle.repl_data.specs.declared.csn.Uid.{Uid}
use Rattle.repl_data.specs.declared.change.ShownEntry.{ShownEntry}
use Rattle.ldap_types.specs.declared.request.SearchRequest.{SearchRequest}
use Rattle.search_core.specs.declared.found.Hits.{Hits}
use Rattle.search_core.specs.Search.{told}
use Rattle.search_core.proofs.Told.{over_stays}

-- of all that is found, what is told so far, with what those that are left give
abbrev pub Sofar : SearchRequest → (Uid → List ShownEntry) → List ShownEntry → List Uid → Hits → Type 0
Sofar r g all left h = (done : List ShownEntry) × ((h ≡ told r done) × (done ++ flat_map g left ≡ all))

module _ (r : SearchRequest) (g : Uid → List ShownEntry) where
  pub sofar_start : (left : List Uid) (h : Hits) → h ≡ told r [] → Sofar r g (flat_map g left) left h
  sofar_start left h e = ([], (e, refl))

  pub sofar_next : (all : List ShownEntry) (id : Uid) (left : List Uid) (h k : Hits) → Sofar r g all (id ∷ left) h → ((done : List ShownEntry) → h ≡ told r done → k ≡ told r (done ++ g id)) → Sofar r g all left k
  sofar_next all id left h k s step = (s.0 ++ g id, (step s.0 s.1.0, append_assoc s.0 (g id) (flat_map g left) ∙ s.1.1))

  pub sofar_end : (all : List ShownEntry) (left : List Uid) (h : Hits) → left ≡ [] → Sofar r g all left h → h ≡ told r all
  sofar_end all left h none s =
      s.1.0 ∙ ap (told r) (sym (append-nil s.0) ∙ ap (λ (us : List Uid). s.0 ++ flat_map g us) (sym none) ∙ s.1.1)

  pub sofar_over : (all : List ShownEntry) (left : List Uid) (h : Hits) → Sofar r g all left h → h.over ≡ true → h ≡ told r all
  sofar_over all left h s o =
      s.1.0 ∙ over_stays r s.0 (flat_map g left) (ap (λ (x : Hits). x.over) (sym s.1.0) ∙ o) ∙ ap (told r) s.1.1

  -- over a list
  pub sofar_drop : (all : List ShownEntry) (ids : List Uid) (i : ℕ) (d : Uid) (h : Hits) → i < length ids → Sofar r g all (drop i ids) h → Sofar r g all (get_or ids i d ∷ drop (i + 1) ids) h
  sofar_drop all ids i d h l s = subst (λ (us : List Uid). Sofar r g all us h) (drop_more ids i d l) s

-- where there is more than the limit, the rest of a list changes nothing
pub over_rest : (r : SearchRequest) (g : Uid → List ShownEntry) (ids : List Uid) (i : ℕ) (d : Uid) (h : Hits) → i < length ids → h ≡ told r (flat_map g (take i ids) ++ g (get_or ids i d)) → h.over ≡ true → h ≡ told r (flat_map g ids)
over_rest r g ids i d h l e o =
    e
    ∙ over_stays r (flat_map g (take i ids) ++ g (get_or ids i d)) (flat_map g (drop (i + 1) ids)) (ap (λ (x : Hits). x.over) (sym e) ∙ o)
    ∙ ap (told r)
    (ap (λ (es : List ShownEntry). es ++ flat_map g (drop (i + 1) ids)) (sym (flat_map_more g ids i d l))
    ∙ sym (flat_map-append g (take (i + 1) ids) (drop (i + 1) ids))
    ∙ ap (flat_map g) (take-append-drop (i + 1) ids))
