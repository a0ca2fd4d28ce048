-- Reading a text from the front, one byte further.
use Rattle.std.proofs.Common.{◌≡◌, ℕ, ◌+◌, ◌<◌, ◌≤◌, Bool, true, false, cond, List, length, get_or, drop, ap, ◌∙◌}
use Rattle.std.proofs.lemmas.List.{drop_all, at_drop_more}
use Rattle.std.specs.Prelude.{nat_eq}
use Rattle.dn_text.specs.Split.{is_bare, escapes_next, bare_len, space_count, kept_from}

bare_len-drop : (by : ℕ) (f : Bool) (at : ℕ) (text : List ℕ) → at < length text → bare_len by f (drop at text) ≡ cond (is_bare f by (get_or text at 0)) 0 (bare_len by (escapes_next f (get_or text at 0)) (drop (at + 1) text) + 1)
unfolding bare_len
bare_len-drop by f at text h = at_drop_more (bare_len by f) text at 0 h

pub bare_len_here : (by : ℕ) (f : Bool) (at : ℕ) (text : List ℕ) → at < length text → is_bare f by (get_or text at 0) ≡ true → bare_len by f (drop at text) ≡ 0
bare_len_here by f at text h e = bare_len-drop by f at text h ∙ ap (λ (b : Bool). cond b 0 (bare_len by (escapes_next f (get_or text at 0)) (drop (at + 1) text) + 1)) e

pub bare_len_next : (by : ℕ) (f : Bool) (at : ℕ) (text : List ℕ) → at < length text → is_bare f by (get_or text at 0) ≡ false → bare_len by f (drop at text) ≡ bare_len by (escapes_next f (get_or text at 0)) (drop (at + 1) text) + 1
bare_len_next by f at text h e = bare_len-drop by f at text h ∙ ap (λ (b : Bool). cond b 0 (bare_len by (escapes_next f (get_or text at 0)) (drop (at + 1) text) + 1)) e

pub bare_len_end : (by : ℕ) (f : Bool) (at : ℕ) (text : List ℕ) → length text ≤ at → bare_len by f (drop at text) ≡ 0
unfolding bare_len
bare_len_end by f at text h = ap (bare_len by f) (drop_all at text h)

space_count-drop : (at : ℕ) (text : List ℕ) → at < length text → space_count (drop at text) ≡ cond (nat_eq (get_or text at 0) 32) (space_count (drop (at + 1) text) + 1) 0
unfolding space_count
space_count-drop at text h = at_drop_more space_count text at 0 h

pub space_count_here : (at : ℕ) (text : List ℕ) → at < length text → nat_eq (get_or text at 0) 32 ≡ false → space_count (drop at text) ≡ 0
space_count_here at text h e = space_count-drop at text h ∙ ap (λ (b : Bool). cond b (space_count (drop (at + 1) text) + 1) 0) e

pub space_count_next : (at : ℕ) (text : List ℕ) → at < length text → nat_eq (get_or text at 0) 32 ≡ true → space_count (drop at text) ≡ space_count (drop (at + 1) text) + 1
space_count_next at text h e = space_count-drop at text h ∙ ap (λ (b : Bool). cond b (space_count (drop (at + 1) text) + 1) 0) e

pub space_count_end : (at : ℕ) (text : List ℕ) → length text ≤ at → space_count (drop at text) ≡ 0
unfolding space_count
space_count_end at text h = ap space_count (drop_all at text h)

kept_from-drop : (f : Bool) (kept at : ℕ) (text : List ℕ) → at < length text → kept_from f at kept (drop at text) ≡ kept_from (escapes_next f (get_or text at 0)) (at + 1) (cond (is_bare f 32 (get_or text at 0)) kept (at + 1)) (drop (at + 1) text)
unfolding kept_from
kept_from-drop f kept at text h = at_drop_more (kept_from f at kept) text at 0 h

pub kept_from_space : (f : Bool) (kept at : ℕ) (text : List ℕ) → at < length text → is_bare f 32 (get_or text at 0) ≡ true → kept_from f at kept (drop at text) ≡ kept_from (escapes_next f (get_or text at 0)) (at + 1) kept (drop (at + 1) text)
kept_from_space f kept at text h e = kept_from-drop f kept at text h ∙ ap (λ (b : Bool). kept_from (escapes_next f (get_or text at 0)) (at + 1) (cond b kept (at + 1)) (drop (at + 1) text)) e

pub kept_from_other : (f : Bool) (kept at : ℕ) (text : List ℕ) → at < length text → is_bare f 32 (get_or text at 0) ≡ false → kept_from f at kept (drop at text) ≡ kept_from (escapes_next f (get_or text at 0)) (at + 1) (at + 1) (drop (at + 1) text)
kept_from_other f kept at text h e = kept_from-drop f kept at text h ∙ ap (λ (b : Bool). kept_from (escapes_next f (get_or text at 0)) (at + 1) (cond b kept (at + 1)) (drop (at + 1) text)) e

pub kept_from_end : (f : Bool) (kept at : ℕ) (text : List ℕ) → length text ≤ at → kept_from f at kept (drop at text) ≡ kept
unfolding kept_from
kept_from_end f kept at text h = ap (kept_from f at kept) (drop_all at text h)
