-- Reading from the front, one byte further.
use Rattle.std.proofs.Common.{◌≡◌, ℕ, ◌+◌, ◌<◌, ◌≤◌, List, ◌∷◌, length, get_or, drop, Option, Some, None, refl, ap, ◌∙◌, add-one, drop-cons, cond}
use Rattle.std.proofs.lemmas.List.{drop_all}
use Rattle.attr_keys.specs.declared.name.NameState.{NameState}
use Rattle.std.specs.Prelude.{ℤ}
use Rattle.attr_keys.specs.declared.number.NumberState.{NumberState}
use Rattle.attr_keys.specs.Name.{next_state, may_end, bad_from}
use Rattle.attr_keys.specs.Value.{next_number, is_whole, bad_number_from, whole_value, integer_from}

from_next : ℕ → List ℕ → Option NameState → Option ℕ
from_next at cs None = Some at
from_next at cs (Some t) = bad_from t (at + 1) cs

bad_from-cons : (s : NameState) (at b : ℕ) (cs : List ℕ) → bad_from s at (b ∷ cs) ≡ from_next at cs (next_state s b)
unfolding bad_from from_next
bad_from-cons s at b cs = refl

bad_from-drop : (s : NameState) (at : ℕ) (name : List ℕ) → at < length name → bad_from s at (drop at name) ≡ from_next at (drop (at + 1) name) (next_state s (get_or name at 0))
bad_from-drop s at name h = rw (add-one, drop-cons name at 0) (bad_from-cons s at _ _)

pub bad_from-none : (s : NameState) (at : ℕ) (name : List ℕ) → at < length name → next_state s (get_or name at 0) ≡ None → bad_from s at (drop at name) ≡ Some at
unfolding from_next
bad_from-none s at name h e = bad_from-drop s at name h ∙ ap (from_next at (drop (at + 1) name)) e

pub bad_from-some : (s t : NameState) (at : ℕ) (name : List ℕ) → at < length name → next_state s (get_or name at 0) ≡ Some t → bad_from s at (drop at name) ≡ bad_from t (at + 1) (drop (at + 1) name)
unfolding from_next
bad_from-some s t at name h e = bad_from-drop s at name h ∙ ap (from_next at (drop (at + 1) name)) e

pub bad_from-end : (s : NameState) (at : ℕ) (name : List ℕ) → length name ≤ at → bad_from s at (drop at name) ≡ cond (may_end s) None (Some at)
unfolding bad_from
bad_from-end s at name h = ap (bad_from s at) (drop_all at name h)

from_next_number : ℕ → List ℕ → Option NumberState → Option ℕ
from_next_number at cs None = Some at
from_next_number at cs (Some t) = bad_number_from t (at + 1) cs

bad_number_from-cons : (s : NumberState) (at b : ℕ) (cs : List ℕ) → bad_number_from s at (b ∷ cs) ≡ from_next_number at cs (next_number s b)
unfolding bad_number_from from_next_number
bad_number_from-cons s at b cs = refl

bad_number_from-drop : (s : NumberState) (at : ℕ) (name : List ℕ) → at < length name → bad_number_from s at (drop at name) ≡ from_next_number at (drop (at + 1) name) (next_number s (get_or name at 0))
bad_number_from-drop s at name h = rw (add-one, drop-cons name at 0) (bad_number_from-cons s at _ _)

pub bad_number_from-none : (s : NumberState) (at : ℕ) (name : List ℕ) → at < length name → next_number s (get_or name at 0) ≡ None → bad_number_from s at (drop at name) ≡ Some at
unfolding from_next_number
bad_number_from-none s at name h e = bad_number_from-drop s at name h ∙ ap (from_next_number at (drop (at + 1) name)) e

pub bad_number_from-some : (s t : NumberState) (at : ℕ) (name : List ℕ) → at < length name → next_number s (get_or name at 0) ≡ Some t → bad_number_from s at (drop at name) ≡ bad_number_from t (at + 1) (drop (at + 1) name)
unfolding from_next_number
bad_number_from-some s t at name h e = bad_number_from-drop s at name h ∙ ap (from_next_number at (drop (at + 1) name)) e

pub bad_number_from-end : (s : NumberState) (at : ℕ) (name : List ℕ) → length name ≤ at → bad_number_from s at (drop at name) ≡ cond (is_whole s) None (Some at)
unfolding bad_number_from
bad_number_from-end s at name h = ap (bad_number_from s at) (drop_all at name h)

integer_next : List ℕ → Option NumberState → Option ℤ
integer_next cs None = None
integer_next cs (Some t) = integer_from t cs

integer_from-cons : (s : NumberState) (b : ℕ) (cs : List ℕ) → integer_from s (b ∷ cs) ≡ integer_next cs (next_number s b)
unfolding integer_from integer_next
integer_from-cons s b cs = refl

integer_from-drop : (s : NumberState) (at : ℕ) (text : List ℕ) → at < length text → integer_from s (drop at text) ≡ integer_next (drop (at + 1) text) (next_number s (get_or text at 0))
integer_from-drop s at text h = rw (add-one, drop-cons text at 0) (integer_from-cons s _ _)

pub integer_from-none : (s : NumberState) (at : ℕ) (text : List ℕ) → at < length text → next_number s (get_or text at 0) ≡ None → integer_from s (drop at text) ≡ None
unfolding integer_next
integer_from-none s at text h e = integer_from-drop s at text h ∙ ap (integer_next (drop (at + 1) text)) e

pub integer_from-some : (s t : NumberState) (at : ℕ) (text : List ℕ) → at < length text → next_number s (get_or text at 0) ≡ Some t → integer_from s (drop at text) ≡ integer_from t (drop (at + 1) text)
unfolding integer_next
integer_from-some s t at text h e = integer_from-drop s at text h ∙ ap (integer_next (drop (at + 1) text)) e

pub integer_from-end : (s : NumberState) (at : ℕ) (text : List ℕ) → length text ≤ at → integer_from s (drop at text) ≡ whole_value s
unfolding integer_from
integer_from-end s at text h = ap (integer_from s) (drop_all at text h)
