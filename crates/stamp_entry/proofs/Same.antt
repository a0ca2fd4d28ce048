-- Acts raise what is known as they do in the laws of changes.
use Rattle.std.proofs.Common.{◌≡◌, List, [], ◌∷◌, map, refl, ap, ◌∙◌}
use Rattle.repl_data.specs.Order.{bytes_cmp, csn_max, put_by}
use Rattle.repl_data.specs.Stamps.{Act, Adds, Deletes, Clears}
use Rattle.repl_data.specs.Facts.{AttrFacts, attr_of}
use Rattle.repl_data.proofs.SameView.{map_both}
use Rattle.repl_data.proofs.Raised as laws
use Rattle.repl_data.proofs.OneChange as more_laws
use Rattle.stamp_entry.specs.Ordered.{attr_name}
use Rattle.stamp_entry.specs.Raised.{raised_val, raised_attr, attr_at, raised, raised_by}

same_attr : (act : Act) (a : AttrFacts) → laws.raised_attr act a ≡ raised_attr act a
same_attr (Adds s t v) a = refl
same_attr (Deletes s t v) a = refl
same_attr (Clears s t) a =
    let vals : map (laws.raised_val (Clears s t)) a.vals ≡ map (raised_val (Clears s t)) a.vals = map_both (laws.raised_val (Clears s t)) (raised_val (Clears s t)) a.vals a.vals (λ f. refl) refl in
    λ i. record { attr = a.attr; whole = csn_max a.whole s; vals = vals i }

pub same_raised : (act : Act) (attrs : List AttrFacts) → laws.raised act attrs ≡ raised act attrs
same_raised act attrs = ap (λ a. put_by attr_name bytes_cmp a attrs) (same_attr act (attr_at (attr_of act) attrs))

pub same_raised_by : (acts : List Act) (attrs : List AttrFacts) → more_laws.raised_by attrs acts ≡ raised_by attrs acts
same_raised_by [] attrs = refl
same_raised_by (a ∷ acts) attrs = ap (λ w. more_laws.raised_by w acts) (same_raised a attrs) ∙ same_raised_by acts (raised a attrs)
