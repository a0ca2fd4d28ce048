-- The parts of an RDN, one after the other.
use Rattle.std.proofs.Common.{◌≡◌, ℕ, ◌+◌, ◌<◌, ◌≤◌, Bool, true, false, cond, List, [], ◌∷◌, ◌++◌, length, get_or, drop, Result, Ok, Err, refl, sym, ap, subst, ◌∙◌, append_assoc}
use Rattle.std.proofs.lemmas.List.{at_drop_more, at_drop_all}
use Rattle.repl_data.specs.declared.change.Ava.{Ava}
use Rattle.repl_data.specs.declared.change.Rdn.{Rdn}
use Rattle.dn_text.specs.declared.fault.DnFault.{DnFault}
use Rattle.dn_text.specs.declared.fault.DnFault.TheVariants.{NoMemory, BadDn}
use Rattle.dn_text.specs.Fault.{◌>>=◌, Fails}
use Rattle.dn_text.specs.Split.{Span}
use Rattle.dn_text.specs.Reading.{comes_before, place_among, put_part, part_in, parts_in, rdn_in, rdns_in}

-- ---- the place of a part

place-drop : (a : Ava) (at : ℕ) (bs : List Ava) (d : Ava) → at < length bs → place_among a (drop at bs) ≡ cond (comes_before a (get_or bs at d)) 0 (place_among a (drop (at + 1) bs) + 1)
place-drop a at bs d h = at_drop_more (place_among a) bs at d h

pub place_here : (a : Ava) (at : ℕ) (bs : List Ava) (d : Ava) → at < length bs → comes_before a (get_or bs at d) ≡ true → place_among a (drop at bs) ≡ 0
place_here a at bs d h e = place-drop a at bs d h ∙ ap (λ (b : Bool). cond b 0 (place_among a (drop (at + 1) bs) + 1)) e

pub place_next : (a : Ava) (at : ℕ) (bs : List Ava) (d : Ava) → at < length bs → comes_before a (get_or bs at d) ≡ false → place_among a (drop at bs) ≡ place_among a (drop (at + 1) bs) + 1
place_next a at bs d h e = place-drop a at bs d h ∙ ap (λ (b : Bool). cond b 0 (place_among a (drop (at + 1) bs) + 1)) e

pub place_end : (a : Ava) (at : ℕ) (bs : List Ava) → length bs ≤ at → place_among a (drop at bs) ≡ 0
place_end a at bs h = at_drop_all (place_among a) bs at h

-- ---- the parts

pub parts_step : (avas : List Ava) (s : Span) (ss : List Span) (a : Ava) → part_in avas s ≡ Ok a → parts_in avas (s ∷ ss) ≡ parts_in (put_part a avas) ss
unfolding parts_in
parts_step avas s ss a e = ap (λ r. r >>= λ (b : Ava). parts_in (put_part b avas) ss) e

pub parts_last : (avas : List Ava) (s : Span) (a : Ava) → part_in avas s ≡ Ok a → parts_in avas (s ∷ []) ≡ Ok (put_part a avas)
unfolding parts_in
parts_last avas s a e = ap (λ r. r >>= λ (b : Ava). parts_in (put_part b avas) []) e

pub parts_fail : (avas : List Ava) (s : Span) (ss : List Span) (e : DnFault) → Fails e (part_in avas s) → Fails e (parts_in avas (s ∷ ss))
unfolding parts_in
parts_fail avas s ss NoMemory f = tt
parts_fail avas s ss (BadDn place why) f = ap (λ r. r >>= λ (b : Ava). parts_in (put_part b avas) ss) f

-- ---- the RDNs

-- these RDNs, and then those of the reading
abbrev pub after_rdns : List Rdn → Result (List Rdn) DnFault → Result (List Rdn) DnFault
after_rdns front (Ok rest) = Ok (front ++ rest)
after_rdns front (Err e) = Err e

after-cons : (front : List Rdn) (r : Rdn) (read : Result (List Rdn) DnFault) → after_rdns front (read >>= λ rs. Ok (r ∷ rs)) ≡ after_rdns (front ++ r ∷ []) read
after-cons front r (Ok rs) = ap Ok (simp append_assoc)
after-cons front r (Err e) = refl

pub rdns_step : (front : List Rdn) (s : Span) (ss : List Span) (r : Rdn) → rdn_in s ≡ Ok r → after_rdns front (rdns_in (s ∷ ss)) ≡ after_rdns (front ++ r ∷ []) (rdns_in ss)
unfolding rdns_in
rdns_step front s ss r e = ap (λ x. after_rdns front (x >>= λ (q : Rdn). rdns_in ss >>= λ rs. Ok (q ∷ rs))) e ∙ after-cons front r (rdns_in ss)

pub rdns_last : (front : List Rdn) (s : Span) (r : Rdn) → rdn_in s ≡ Ok r → after_rdns front (rdns_in (s ∷ [])) ≡ Ok (front ++ r ∷ [])
unfolding rdns_in
rdns_last front s r e = ap (λ x. after_rdns front (x >>= λ (q : Rdn). rdns_in [] >>= λ rs. Ok (q ∷ rs))) e

pub rdns_fail : (front : List Rdn) (s : Span) (ss : List Span) (e : DnFault) → Fails e (rdn_in s) → Fails e (after_rdns front (rdns_in (s ∷ ss)))
unfolding rdns_in
rdns_fail front s ss NoMemory f = tt
rdns_fail front s ss (BadDn place why) f = ap (λ x. after_rdns front (x >>= λ (q : Rdn). rdns_in ss >>= λ rs. Ok (q ∷ rs))) f

-- ---- the loops

pub parts_fails_at : (avas same : List Ava) (e : DnFault) (s : Span) (all ss : List Span) (total : Result (List Ava) DnFault) → same ≡ avas → all ≡ s ∷ ss → parts_in avas all ≡ total → Fails e (part_in same s) → Fails e total
parts_fails_at avas same e s all ss total k p so_far f =
    let g : Fails e (part_in avas s) = subst (λ (xs : List Ava). Fails e (part_in xs s)) k f in
    subst (λ (t : Result (List Ava) DnFault). Fails e t) (ap (parts_in avas) (sym p) ∙ so_far) (parts_fail avas s ss e g)

pub parts_go_at : (avas same new : List Ava) (a : Ava) (s : Span) (all ss : List Span) (total : Result (List Ava) DnFault) → same ≡ avas → all ≡ s ∷ ss → parts_in avas all ≡ total → part_in same s ≡ Ok a → new ≡ put_part a avas → parts_in new ss ≡ total
parts_go_at avas same new a s all ss total k p so_far f n =
    let g : part_in avas s ≡ Ok a = ap (λ (xs : List Ava). part_in xs s) (sym k) ∙ f in
    ap (λ (xs : List Ava). parts_in xs ss) n ∙ sym (parts_step avas s ss a g) ∙ ap (parts_in avas) (sym p) ∙ so_far

pub parts_end_at : (avas same new : List Ava) (a : Ava) (s : Span) (all : List Span) (total : Result (List Ava) DnFault) → same ≡ avas → all ≡ s ∷ [] → parts_in avas all ≡ total → part_in same s ≡ Ok a → new ≡ put_part a avas → total ≡ Ok new
parts_end_at avas same new a s all total k p so_far f n =
    let g : part_in avas s ≡ Ok a = ap (λ (xs : List Ava). part_in xs s) (sym k) ∙ f in
    sym so_far ∙ ap (parts_in avas) p ∙ parts_last avas s a g ∙ ap Ok (sym n)

pub rdns_fails_at : (rdns : List Rdn) (e : DnFault) (s : Span) (all ss : List Span) (total : Result (List Rdn) DnFault) → all ≡ s ∷ ss → after_rdns rdns (rdns_in all) ≡ total → Fails e (rdn_in s) → Fails e total
rdns_fails_at rdns e s all ss total p so_far f =
    subst (λ (t : Result (List Rdn) DnFault). Fails e t) (ap (λ (xs : List Span). after_rdns rdns (rdns_in xs)) (sym p) ∙ so_far) (rdns_fail rdns s ss e f)

pub rdns_go_at : (rdns new : List Rdn) (r : Rdn) (s : Span) (all ss : List Span) (total : Result (List Rdn) DnFault) → all ≡ s ∷ ss → after_rdns rdns (rdns_in all) ≡ total → rdn_in s ≡ Ok r → new ≡ rdns ++ r ∷ [] → after_rdns new (rdns_in ss) ≡ total
rdns_go_at rdns new r s all ss total p so_far f n =
    ap (λ (xs : List Rdn). after_rdns xs (rdns_in ss)) n ∙ sym (rdns_step rdns s ss r f) ∙ ap (λ (xs : List Span). after_rdns rdns (rdns_in xs)) (sym p) ∙ so_far

pub rdns_end_at : (rdns new : List Rdn) (r : Rdn) (s : Span) (all : List Span) (total : Result (List Rdn) DnFault) → all ≡ s ∷ [] → after_rdns rdns (rdns_in all) ≡ total → rdn_in s ≡ Ok r → new ≡ rdns ++ r ∷ [] → total ≡ Ok new
rdns_end_at rdns new r s all total p so_far f n =
    sym so_far ∙ ap (λ (xs : List Span). after_rdns rdns (rdns_in xs)) p ∙ rdns_last rdns s r f ∙ ap Ok (sym n)

-- the first RDN reading into an empty list
pub after_none : (read : Result (List Rdn) DnFault) → after_rdns [] read ≡ read
after_none (Ok rs) = refl
after_none (Err e) = refl
