-- What taking an attribute out, and putting it back, does to the attributes.
use Rattle.std.proofs.Common.{◌≡◌, ℕ, List, [], sym, ap, ◌∙◌, subst, Some}
use Rattle.std.specs.Prelude.{unwrap_or, remove, slice_get}
use Rattle.repl_data.specs.declared.change.AttrKey.{AttrKey}
use Rattle.repl_data.specs.Order.{zero_csn, bytes_cmp, put_by}
use Rattle.repl_data.specs.Facts.{AttrFacts, attr_of}
use Rattle.repl_data.specs.Stamps.{Act}
use Rattle.repl_data.specs.Ordered.{IsAt, IsGap}
use Rattle.stamp_entry.specs.Ordered.{attr_name, AreOrdered}
use Rattle.stamp_entry.specs.Raised.{attr_at, raised_attr, raised}
use Rattle.repl_data.proofs.KeyPlaces.{get_at, find_gap, put_removed}
use Rattle.stamp_entry.proofs.Keeps.{raised-ordered}

abbrev blank : AttrKey → AttrFacts
blank t = record { attr = t; whole = zero_csn; vals = [] }

pub taken_at : (t : AttrKey) (attrs : List AttrFacts) (n : ℕ) (x : AttrFacts) → IsAt attr_name t.name attrs n → slice_get attrs n ≡ Some x → x ≡ attr_at t attrs
taken_at t attrs n x h e = ap (λ o. unwrap_or o (blank t)) (sym e ∙ get_at attr_name t.name attrs n h)

pub taken_gap : (t : AttrKey) (attrs : List AttrFacts) (n : ℕ) → AreOrdered attrs → IsGap attr_name t.name attrs n → blank t ≡ attr_at t attrs
taken_gap t attrs n o h = ap (λ w. unwrap_or w (blank t)) (find_gap attr_name t.name attrs n o.0 h)

pub put_rest : (t : AttrKey) (attrs : List AttrFacts) (n : ℕ) → AreOrdered attrs → IsAt attr_name t.name attrs n → (x : AttrFacts) → x.attr.name ≡ t.name → put_by attr_name bytes_cmp x (remove attrs n) ≡ put_by attr_name bytes_cmp x attrs
put_rest t attrs n o h x e = put_removed attr_name x attrs n o.0 (subst (λ k. IsAt attr_name k attrs n) (sym e) h)

-- an act on the attribute that was taken out
pub put_back : (act : Act) (old rest new : List AttrFacts) (taken after : AttrFacts) → taken ≡ attr_at (attr_of act) old → after ≡ raised_attr act taken → after.attr.name ≡ (attr_of act).name
    → ((x : AttrFacts) → x.attr.name ≡ (attr_of act).name → put_by attr_name bytes_cmp x rest ≡ put_by attr_name bytes_cmp x old) → new ≡ put_by attr_name bytes_cmp after rest → new ≡ raised act old
put_back act old rest new taken after t a n r p =
    p ∙ r after n ∙ ap (λ x. put_by attr_name bytes_cmp x old) (a ∙ ap (raised_attr act) t)

pub ordered_back : (act : Act) (old new : List AttrFacts) → AreOrdered old → new ≡ raised act old → AreOrdered new
ordered_back act old new h e = subst AreOrdered (sym e) (raised-ordered act old h)
