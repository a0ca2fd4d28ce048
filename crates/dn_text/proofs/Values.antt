-- The bytes of a value, one byte of its text after the other.
use Rattle.std.proofs.Common.{◌≡◌, ℕ, ◌+◌, ◌<◌, ◌≤◌, List, [], ◌++◌, length, get_or, drop, Option, Result, Ok, Err, refl, sym, ap, ◌∙◌, append_assoc, add_assoc}
use Rattle.std.proofs.lemmas.List.{at_drop_more, at_drop_all, append-nil}
use Rattle.std.specs.Option.{option_to_list}
use Rattle.dn_text.specs.declared.fault.DnFault.{DnFault}
use Rattle.dn_text.specs.declared.fault.DnFault.TheVariants.{NoMemory, BadDn}
use Rattle.dn_text.specs.declared.escape.EscapeState.{EscapeState}
use Rattle.dn_text.specs.Fault.{◌>>=◌, Fails}
use Rattle.dn_text.specs.Escape.{next_escape, next_byte, ended, escapes_from, value_from}

pub fails_from : {A : Type 0} (e : DnFault) (r : Result A DnFault) → r ≡ Err e → Fails e r
fails_from NoMemory r h = tt
fails_from (BadDn place why) r h = h

-- ---- each escape

escapes-drop : (s : EscapeState) (place at : ℕ) (text : List ℕ) → at < length text → escapes_from s place (drop at text) ≡ (next_escape s place (get_or text at 0) >>= λ n. escapes_from n.0 (place + 1) (drop (at + 1) text))
unfolding escapes_from
escapes-drop s place at text h = at_drop_more (escapes_from s place) text at 0 h

pub escapes_go_on : (s t : EscapeState) (byte : Option ℕ) (start at : ℕ) (text : List ℕ) → at < length text → next_escape s (start + at) (get_or text at 0) ≡ Ok (t, byte) → escapes_from s (start + at) (drop at text) ≡ escapes_from t (start + (at + 1)) (drop (at + 1) text)
escapes_go_on s t byte start at text h e =
    escapes-drop s (start + at) at text h
    ∙ ap (λ r. r >>= λ n. escapes_from n.0 (start + at + 1) (drop (at + 1) text)) e
    ∙ ap (λ p. escapes_from t p (drop (at + 1) text)) (add_assoc start at 1)

pub escapes_stop : (s : EscapeState) (e : DnFault) (start at : ℕ) (text : List ℕ) → at < length text → next_escape s (start + at) (get_or text at 0) ≡ Err e → escapes_from s (start + at) (drop at text) ≡ Err e
escapes_stop s e start at text h f =
    escapes-drop s (start + at) at text h
    ∙ ap (λ r. r >>= λ n. escapes_from n.0 (start + at + 1) (drop (at + 1) text)) f

pub escapes_end : (s : EscapeState) (place at : ℕ) (text : List ℕ) → length text ≤ at → escapes_from s place (drop at text) ≡ ended s
unfolding escapes_from
escapes_end s place at text h = at_drop_all (escapes_from s place) text at h

-- ---- the bytes

-- these bytes, and then those of the reading
abbrev pub after : List ℕ → Result (List ℕ) DnFault → Result (List ℕ) DnFault
after bs (Ok rest) = Ok (bs ++ rest)
after bs (Err e) = Err e

value-drop : (s : EscapeState) (place at : ℕ) (text : List ℕ) → at < length text → value_from s place (drop at text) ≡ (next_byte s place (get_or text at 0) >>= λ n. value_from n.0 (place + 1) (drop (at + 1) text) >>= λ bs. Ok (option_to_list n.1 ++ bs))
unfolding value_from
value-drop s place at text h = at_drop_more (value_from s place) text at 0 h

after-after : (bs more : List ℕ) (r : Result (List ℕ) DnFault) → after bs (r >>= λ rest. Ok (more ++ rest)) ≡ after (bs ++ more) r
after-after bs more (Ok rest) = ap Ok (sym (append_assoc bs more rest))
after-after bs more (Err e) = refl

pub value_goes_on : (bs : List ℕ) (s t : EscapeState) (byte : Option ℕ) (start at : ℕ) (text : List ℕ) → at < length text → next_byte s (start + at) (get_or text at 0) ≡ Ok (t, byte) → after bs (value_from s (start + at) (drop at text)) ≡ after (bs ++ option_to_list byte) (value_from t (start + (at + 1)) (drop (at + 1) text))
value_goes_on bs s t byte start at text h e =
    ap (after bs)
    (value-drop s (start + at) at text h
    ∙ ap (λ r. r >>= λ n. value_from n.0 (start + at + 1) (drop (at + 1) text) >>= λ rest. Ok (option_to_list n.1 ++ rest)) e)
    ∙ after-after bs (option_to_list byte) (value_from t (start + at + 1) (drop (at + 1) text))
    ∙ ap (λ p. after (bs ++ option_to_list byte) (value_from t p (drop (at + 1) text))) (add_assoc start at 1)

pub value_stops : (bs : List ℕ) (s : EscapeState) (e : DnFault) (start at : ℕ) (text : List ℕ) → at < length text → next_byte s (start + at) (get_or text at 0) ≡ Err e → after bs (value_from s (start + at) (drop at text)) ≡ Err e
value_stops bs s e start at text h f =
    ap (after bs)
    (value-drop s (start + at) at text h
    ∙ ap (λ r. r >>= λ n. value_from n.0 (start + at + 1) (drop (at + 1) text) >>= λ rest. Ok (option_to_list n.1 ++ rest)) f)

pub value_end : (bs : List ℕ) (s : EscapeState) (place at : ℕ) (text : List ℕ) → length text ≤ at → after bs (value_from s place (drop at text)) ≡ after bs (ended s >>= λ u. Ok [])
unfolding value_from
value_end bs s place at text h = ap (after bs) (at_drop_all (value_from s place) text at h)

pub value_ends : (bs : List ℕ) (s : EscapeState) (place at : ℕ) (text : List ℕ) → length text ≤ at → ended s ≡ Ok tt → after bs (value_from s place (drop at text)) ≡ Ok bs
value_ends bs s place at text h e =
    value_end bs s place at text h ∙ ap (λ (r : Result (Unit {0}) DnFault). after bs (r >>= λ u. Ok [])) e ∙ ap Ok (append-nil bs)

pub value_breaks : (bs : List ℕ) (s : EscapeState) (e : DnFault) (place at : ℕ) (text : List ℕ) → length text ≤ at → ended s ≡ Err e → after bs (value_from s place (drop at text)) ≡ Err e
value_breaks bs s e place at text h f =
    value_end bs s place at text h ∙ ap (λ (r : Result (Unit {0}) DnFault). after bs (r >>= λ u. Ok [])) f
