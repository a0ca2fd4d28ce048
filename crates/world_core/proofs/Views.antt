-- In honest runs nodes with equal vectors and nothing pending show the same entries.
use Rattle.std.proofs.Common.{◌≡◌, ℕ, ◌<◌, ◌≤◌, inl, inr, List, [], ◌∷◌, refl, sym, ap, subst, ◌∙◌, arith, Contains, length}
use Rattle.repl_data.specs.declared.change.Change.{Change}
use Rattle.repl_data.specs.declared.change.Suffix.{Suffix}
use Rattle.repl_data.specs.Closed.{IsIn}
use Rattle.repl_data.specs.View.{view_of}
use Rattle.repl_data.proofs.SameSet.{view_of-same}
use Rattle.repl_data.proofs.Arrival.{closed_of_arrival}
use Rattle.vector_core.proofs.Lists.{Contains-nil, Contains-here, Contains-there, Contains-cons_cases}
use Rattle.node_core.specs.Node.{Node}
use Rattle.node_core.specs.Steps.{Judge}
use Rattle.world_core.specs.World.{World, Deed, after, after_all, node_of, node_in, new_world}
use Rattle.world_core.specs.Laws.{IsNode, IsLawful, IsHonest, IsRun, ShowTheSame, law_of_views}
use Rattle.world_core.proofs.Events.{after-advances}
use Rattle.world_core.proofs.Kept.{ready, after-lawful}
use Rattle.world_core.proofs.Runs.{lawful_all, all_go_on, agree, prefixes_hold, new_lawful, new-at}
use Rattle.world_core.proofs.ClosedRuns.{AreArrivals, arrivals_all, new_arrivals}

is_in-Contains : (xs : List Change) (c : Change) → IsIn c xs → Contains xs c
is_in-Contains [] c h = elim h [ ]
is_in-Contains (x ∷ xs) c (inl e) = subst (λ z. Contains (x ∷ xs) z) (sym e) (Contains-here x xs)
is_in-Contains (x ∷ xs) c (inr h) = Contains-there x xs c (is_in-Contains xs c h)

Contains-is_in : (xs : List Change) (c : Change) → Contains xs c → IsIn c xs
Contains-is_in [] c h = absurd (Contains-nil h)
Contains-is_in (x ∷ xs) c h =
    elim (Contains-cons_cases x xs c h) [
      | inl e ↦ inl (sym e)
      | inr q ↦ inr (Contains-is_in xs c q)
    ]

-- ---- suffixes

-- each node has this suffix
abbrev pub AreOf : Suffix → List Node → Type 0
AreOf suffix nodes = (r : ℕ) → IsNode nodes r → (node_of nodes r).suffix ≡ suffix

same_length : (judge : Judge) (w : World) (ds : List Deed) → IsRun judge w ds → IsLawful w → length (after_all judge w ds).nodes ≡ length w.nodes
same_length judge w [] r l = refl
same_length judge w (d ∷ ds) r l = same_length judge (after judge w d) ds r.1 (after-lawful judge w d l r.0) ∙ (after-advances judge w d (ready w l) l.tickets r.0).same_length

pub suffixes_all : (judge : Judge) (suffix : Suffix) (n : ℕ) (ds : List Deed) → n < 65535 → IsRun judge (new_world suffix n) ds → AreOf suffix (after_all judge (new_world suffix n) ds).nodes
suffixes_all judge suffix n ds low run r i =
    let l = new_lawful suffix n low in
    let same : length (after_all judge (new_world suffix n) ds).nodes ≡ length (new_world suffix n).nodes = same_length judge (new_world suffix n) ds run l in
    let within : r ≤ length (after_all judge (new_world suffix n) ds).nodes = i.within in
    let j : IsNode (new_world suffix n).nodes r = record { above = i.above; within = omega arith } in
    (all_go_on judge (new_world suffix n) ds run l r j).1.same_suffix ∙ ap (λ (m : Node). m.suffix) (new-at suffix n r j)

-- ---- views

-- in each lawful and honest world whose nodes have one suffix and take what arrives in order
pub show_the_same : (w : World) (suffix : Suffix) → IsLawful w → IsHonest w → AreArrivals w.nodes → AreOf suffix w.nodes → ShowTheSame w
show_the_same w suffix l h c of a b i j none none' same =
    let both = agree w l h a b i j none none' same in
    ap (λ s. view_of s (node_in w a).taken) (of a i ∙ sym (of b j))
    ∙ view_of-same (node_in w b).suffix (node_in w a).taken (node_in w b).taken
    (closed_of_arrival (node_in w a).taken (c a i)) (closed_of_arrival (node_in w b).taken (c b j))
    (record {
      forth = λ d m. Contains-is_in (node_in w b).taken d ((both d).0 (is_in-Contains (node_in w a).taken d m));
      back = λ d m. Contains-is_in (node_in w a).taken d ((both d).1 (is_in-Contains (node_in w b).taken d m));
    })

pub views_hold : law_of_views
views_hold judge sj suffix n low ds run honest =
    show_the_same (after_all judge (new_world suffix n) ds) suffix
    (lawful_all judge (new_world suffix n) ds run (new_lawful suffix n low))
    (prefixes_hold judge suffix n low ds run honest)
    (arrivals_all judge sj (new_world suffix n) ds run (new_lawful suffix n low) (new_arrivals suffix n))
    (suffixes_all judge suffix n ds low run)
