-- Filters, by their tags, and the pieces of substrings.
use Rattle.std.proofs.Common.{◌≡◌, ℕ, zero, suc, Bool, true, false, cond, eqb, List, [], ◌∷◌, Option, Some, None, Result, Ok, Err, refl, sym, ap, subst, ◌∙◌}
use Rattle.std.proofs.lemmas.Bool.{eqb-true, cond_both}
use Rattle.std.specs.Prelude.{◌==◌}
use Rattle.ldap_types.specs.declared.request.Filter.{Filter}
use Rattle.ldap_types.specs.declared.request.Filter.TheVariants as filter
use Rattle.ber_core.specs.declared.fault.NotLdapWhy.TheVariants as why
use Rattle.ber_core.specs.Window.{Stop, Fault, Window, Reading, ◌>>=◌, tag_here, open_here, open_as, octets, element, ended, many, optional, with_first, run, run_from, refused}
use Rattle.ldap_requests.specs.Grammar.{assertion, some_piece, pieces, substrings_inside, is_filter_tag, simple_inside, filter_inside, filter_at}
use Rattle.request_wait.specs.declared.part.Part.{Part}
use Rattle.request_wait.specs.declared.part.Part.TheVariants as part
use Rattle.request_wait.specs.declared.part.Content.{Content}
use Rattle.request_wait.specs.declared.part.Content.TheVariants as content
use Rattle.request_wait.specs.declared.part.Choice.TheVariants as choice
use Rattle.request_wait.specs.Table.{octets as bytes_of, filter_content, simple_content}
use Rattle.request_wait.specs.Inside.{Outcome, done, outcome, inside, of_content, one, optional_of, known, choice_of, many_of_choice, some_of}
use Rattle.request_wait.proofs.Stays.{opened_here}
use Rattle.request_wait.proofs.Steps.{known_tag}
use Rattle.request_wait.proofs.Fuel.{Shrinks, read_opened, left_of, many_is}
use Rattle.request_wait.proofs.Runs.{none_stays, run_is, no_run_stays}
use Rattle.request_wait.proofs.Firsts.{outcome_end, outcome_value, outcome_choice, more_values, passes, same_opened, by_open, element_first, first, optional_first}

-- the reading is that of the element with this tag, if its content is known
abbrev pub IsKnown : Outcome → ℕ → Part → Window → Option Content → Type 0
IsKnown read tag next w content = read ≡ known read tag content next w

-- ---- a filter

abbrev filter_then : ℕ → Part → Window → Outcome
filter_then levels next w = filter_at levels w >>= λ f. inside next f.1

filter_by : (levels t : ℕ) (x : Content) (next : Part) (w : Window) → tag_here w ≡ Ok t → is_filter_tag t ≡ true → ((v : Window) → outcome (filter_inside (filter_at levels) t v) ≡ of_content x v) → filter_then (suc levels) next w ≡ one t x next w
unfolding filter_at one
filter_by levels t x next w is fits same =
    rw (known_tag w t is, is, fits) (by_open (open_here w) (filter_inside (filter_at levels) t) (λ f. inside next f.1) (inside next) (λ f. refl)
    ∙ same_opened (λ v. outcome (filter_inside (filter_at levels) t v)) (of_content x) (inside next) (open_here w) same)

filter_known : (levels t n : ℕ) (x : Content) (next : Part) (w : Window) (others : Option Content) → tag_here w ≡ Ok t → is_filter_tag n ≡ true → ((v : Window) → outcome (filter_inside (filter_at levels) n v) ≡ of_content x v)
    → IsKnown (filter_then (suc levels) next w) t next w others → IsKnown (filter_then (suc levels) next w) t next w (cond (t == n) (Some x) others)
filter_known levels t n x next w others is fits same rest =
    cond_both (t == n) (Some x) others (IsKnown (filter_then (suc levels) next w) t next w)
    (λ e. let q : n ≡ t = sym (eqb-true t n e) in filter_by levels t x next w is (subst (λ (m : ℕ). is_filter_tag m ≡ true) q fits) (subst (λ (m : ℕ). (v : Window) → outcome (filter_inside (filter_at levels) m v) ≡ of_content x v) q same))
    (λ e. rest)

simple_tag : (levels t : ℕ) (next : Part) (w : Window) → tag_here w ≡ Ok t → IsKnown (filter_then (suc levels) next w) t next w (simple_content t)
unfolding simple_content filter_inside simple_inside inside
simple_tag levels t next w is =
    filter_known levels t 0xa3 (content.Inner part.Assertion) next w _ is refl (λ v. outcome_value (assertion v) _)
    (filter_known levels t 0xa4 (content.Inner part.Substrings) next w _ is refl (λ v. refl)
    (filter_known levels t 0xa5 (content.Inner part.Assertion) next w _ is refl (λ v. outcome_value (assertion v) _)
    (filter_known levels t 0xa6 (content.Inner part.Assertion) next w _ is refl (λ v. outcome_value (assertion v) _)
    (filter_known levels t 0x87 bytes_of next w _ is refl (λ v. outcome_value (octets v) _)
    (filter_known levels t 0xa8 (content.Inner part.Assertion) next w _ is refl (λ v. outcome_value (assertion v) _)
    (filter_known levels t 0xa9 bytes_of next w _ is refl (λ v. outcome_value (octets v) _)
    refl))))))

filter_tag : (levels t : ℕ) (next : Part) (w : Window) → tag_here w ≡ Ok t → IsKnown (filter_then levels next w) t next w (filter_content levels t)
unfolding filter_content filter_inside inside
filter_tag zero t next w is = refl
filter_tag (suc levels) t next w is =
    filter_known levels t 0xa0 (content.Inner (part.Filters levels)) next w _ is refl (λ v. outcome_value (many (filter_at levels) v) _)
    (filter_known levels t 0xa1 (content.Inner (part.Filters levels)) next w _ is refl (λ v. outcome_value (many (filter_at levels) v) _)
    (filter_known levels t 0xa2 (content.Inner (part.Not levels)) next w _ is refl (λ v. passes (filter_at levels v) _ _ (λ f. outcome_end (ended f.1) _))
    (simple_tag levels t next w is)))

filter_waits : (levels : ℕ) (next : Part) (w : Window) (e : Stop) → tag_here w ≡ Err e → filter_then levels next w ≡ Err e
unfolding filter_at
filter_waits zero next w e is = rw is refl
filter_waits (suc levels) next w e is = rw is refl

filter_read : (levels : ℕ) (next : Part) (w : Window) (r : Result ℕ Stop) → tag_here w ≡ r → filter_then levels next w ≡ (r >>= λ t. known (filter_then levels next w) t (filter_content levels t) next w)
filter_read levels next w (Ok t) is = filter_tag levels t next w is
filter_read levels next w (Err e) is = filter_waits levels next w e is

pub of_SearchFilter : (w : Window) → inside part.SearchFilter w ≡ choice_of (choice.Filter 50) part.SearchAttributes part.SearchFilter w
unfolding inside choice_of
of_SearchFilter w = filter_read 50 part.SearchAttributes w (tag_here w) refl

pub of_Not : (levels : ℕ) (w : Window) → inside (part.Not levels) w ≡ choice_of (choice.Filter levels) part.End (part.Not levels) w
unfolding inside choice_of
of_Not levels w = filter_read levels part.End w (tag_here w) refl

-- ---- filters one after the other

never_read : (b : Bool) (w : Window) (place : ℕ) (x : Filter × Window) → (let r : Reading Filter = cond b (Err (Fault place why.Depth)) (refused w) in r) ≡ Ok x → ⊥
never_read true w place x is = cc
never_read false w place x is = cc

none_read : (w : Window) (r : Result ℕ Stop) (x : Filter × Window) → (let s : Reading Filter = r >>= λ tag. cond (is_filter_tag tag) (Err (Fault w.at why.Depth)) (refused w) in s) ≡ Ok x → ⊥
none_read w (Ok t) x is = never_read (is_filter_tag t) w w.at x is
none_read w (Err e) x is = cc

fitting : (w : Window) (b : Bool) (r : Reading Filter) (x : Filter × Window) → cond b r (refused w) ≡ Ok x → r ≡ Ok x
fitting w true r x is = is
fitting w false r x is = absurd cc

filter_opened : (levels : ℕ) (w : Window) (r : Result ℕ Stop) (x : Filter × Window) → (r >>= λ tag. cond (is_filter_tag tag) (open_here w >>= λ o. filter_inside (filter_at levels) tag o.0 >>= λ f. Ok (f, o.1)) (refused w)) ≡ Ok x
    → (o : Window × Window) × (open_here w ≡ Ok o) × (o.1 ≡ x.1)
filter_opened levels w (Ok t) x is = read_opened (open_here w) (filter_inside (filter_at levels) t) x (fitting w (is_filter_tag t) _ x is)
filter_opened levels w (Err e) x is = absurd cc

filter_shrinks : (levels : ℕ) → Shrinks (filter_at levels)
unfolding filter_at
filter_shrinks zero w x is = absurd (none_read w (tag_here w) x is)
filter_shrinks (suc levels) w x is =
    let k = filter_opened levels w (tag_here w) x is in
    let h = opened_here w k.0 k.1 in
    left_of w k.0.1 x.1 h.0 (ap (λ (o : Window × Window). o.1) h.2) k.2 h.1

by_itself : (b : Bool) (whole read : Outcome) (knows : Outcome → Outcome) → whole ≡ cond b done read → read ≡ knows read → whole ≡ cond b done (knows whole)
by_itself true whole read knows e k = e
by_itself false whole read knows e k = e ∙ k ∙ ap knows (sym e)

filters_first : (levels : ℕ) (w : Window) → inside (part.Filters levels) w ≡ cond (eqb w.left 0) done (filter_then levels (part.Filters levels) w)
unfolding inside
filters_first levels w =
    ap outcome (many_is (filter_at levels) (filter_shrinks levels) w)
    ∙ outcome_choice (eqb w.left 0) [] _
    ∙ ap (λ (r : Outcome). cond (eqb w.left 0) done r) (passes (filter_at levels w) _ (λ f. outcome (many (filter_at levels) f.1)) (λ f. more_values (many (filter_at levels) f.1) f.0))

pub of_Filters : (levels : ℕ) (w : Window) → inside (part.Filters levels) w ≡ many_of_choice (choice.Filter levels) (part.Filters levels) w
unfolding choice_of many_of_choice
of_Filters levels w =
    by_itself (eqb w.left 0) (inside (part.Filters levels) w) (filter_then levels (part.Filters levels) w) (λ d. tag_here w >>= λ t. known d t (filter_content levels t) (part.Filters levels) w)
    (filters_first levels w) (filter_read levels (part.Filters levels) w (tag_here w) refl)

-- ---- substrings

both_pass : {A B : Type 0} (r : Result A Stop) (k l : A → Result B Stop) → ((x : A) → outcome (k x) ≡ outcome (l x)) → outcome (r >>= k) ≡ outcome (r >>= l)
both_pass (Ok x) k l h = h x
both_pass (Err e) k l h = refl

any_name : (start : ℕ) (name : List ℕ) (initial : Option (List ℕ)) (middle : List (List ℕ)) (last : Option (List ℕ)) → outcome (some_piece start (filter.Substrings name initial middle last)) ≡ outcome (some_piece start (filter.Substrings [] initial middle last))
any_name start name None [] None = refl
any_name start name None [] (Some z) = refl
any_name start name None (y ∷ ys) last = refl
any_name start name (Some x) middle last = refl

same_pieces : (name : List ℕ) (w : Window) → outcome (pieces name w) ≡ outcome (pieces [] w)
unfolding pieces
same_pieces name w =
    both_pass (optional 0x80 octets w) _ _ (λ initial. both_pass (run 0x81 octets initial.1) _ _ (λ middle. both_pass (optional 0x82 octets middle.1) _ _ (λ last. both_pass (ended last.1) _ _ (λ over. any_name w.start name initial.0 middle.0 last.0))))

pub of_Substrings : (w : Window) → inside part.Substrings w ≡ one 0x04 bytes_of part.SubstringsPieces w
unfolding inside one substrings_inside
of_Substrings w =
    first 0x04 octets _ (inside part.SubstringsPieces) w (λ name. passes (element 0x30 (pieces name.0) name.1) _ (λ found. ended found.1) (λ found. outcome_end (ended found.1) _)
    ∙ element_first 0x30 (pieces name.0) (λ found. ended found.1) ended name.1 (λ x. refl)
    ∙ same_opened (λ v. outcome (pieces name.0 v)) (λ v. outcome (pieces [] v)) ended (open_as 0x30 name.1) (same_pieces name.0)
    ∙ sym (element_first 0x30 (pieces []) (λ found. ended found.1) ended name.1 (λ x. refl)))

pub of_SubstringsPieces : (w : Window) → inside part.SubstringsPieces w ≡ one 0x30 (content.Inner part.Pieces) part.End w
unfolding inside one
of_SubstringsPieces w = element_first 0x30 (pieces []) (λ found. ended found.1) ended w (λ x. refl)

no_pieces : (start at : ℕ) (bytes : List ℕ) → outcome (pieces [] (record { start = start; at = at; left = 0; bytes = bytes })) ≡ Err (Fault start why.Shape)
unfolding pieces optional run_from ended
no_pieces start at bytes = refl

passes_at : {A B : Type 0} (r : Result A Stop) (k : A → Result B Stop) (l : A → Outcome) → ((x : A) → r ≡ Ok x → outcome (k x) ≡ l x) → outcome (r >>= k) ≡ (r >>= l)
passes_at (Ok x) k l h = h x refl
passes_at (Err e) k l h = refl

refused_then : {B : Type 0} (w : Window) (r : Result ℕ Stop) (k : Unit {0} → Result B Stop) → outcome ((r >>= λ t. refused w) >>= k) ≡ (r >>= λ t. refused w)
refused_then w (Ok t) k = refl
refused_then w (Err e) k = refl

not_ended : {B : Type 0} (w : Window) (k : Unit {0} → Result B Stop) → eqb w.left 0 ≡ false → outcome (ended w >>= k) ≡ ended w
unfolding ended
not_ended w k some = rw some (refused_then w (tag_here w) k)

three_stay : (w a b c : Window) → a ≡ w → b ≡ a → c ≡ b → eqb w.left 0 ≡ false → eqb c.left 0 ≡ false
three_stay w a b c e f g some = ap (λ (v : Window). eqb v.left 0) (g ∙ f ∙ e) ∙ some

last_piece : (w a b c : Window) (initial : Option (List ℕ)) (middle : List (List ℕ)) (last : Option (List ℕ)) → eqb w.left 0 ≡ false
    → optional 0x80 octets w ≡ Ok (initial, a) → run 0x81 octets a ≡ Ok (middle, b) → optional 0x82 octets b ≡ Ok (last, c)
    → outcome (ended c >>= λ over. some_piece w.start (filter.Substrings [] initial middle last)) ≡ ended c
last_piece w a b c None [] None some e f g = not_ended c _ (three_stay w a b c (none_stays 0x80 octets w a e) (no_run_stays 0x81 octets a b f) (none_stays 0x82 octets b c g) some)
last_piece w a b c None [] (Some z) some e f g = outcome_end (ended c) _
last_piece w a b c None (y ∷ ys) last some e f g = outcome_end (ended c) _
last_piece w a b c (Some x) middle last some e f g = outcome_end (ended c) _

some_pieces : (w : Window) → eqb w.left 0 ≡ false → outcome (pieces [] w) ≡ inside part.InitialPiece w
unfolding pieces inside
some_pieces w some =
    passes_at (optional 0x80 octets w) _ _ (λ initial e. passes_at (run 0x81 octets initial.1) _ _ (λ middle f. passes_at (optional 0x82 octets middle.1) _ _ (λ last g.
    last_piece w initial.1 middle.1 last.1 initial.0 middle.0 last.0 some e f g)))

pieces_by : (w : Window) (b : Bool) → eqb w.left 0 ≡ b → outcome (pieces [] w) ≡ cond b (Err (Fault w.start why.Shape)) (inside part.InitialPiece w)
pieces_by w true none =
    let left : 0 ≡ w.left = sym (eqb-true w.left 0 none) in
    subst (λ (n : ℕ). outcome (pieces [] (record { start = w.start; at = w.at; left = n; bytes = w.bytes })) ≡ Err (Fault w.start why.Shape)) left (no_pieces w.start w.at w.bytes)
pieces_by w false some = some_pieces w some

pub of_Pieces : (w : Window) → inside part.Pieces w ≡ some_of part.InitialPiece w
unfolding inside some_of
of_Pieces w = pieces_by w (eqb w.left 0) refl

abbrev joined : List ℕ → Reading (List (List ℕ)) → Reading (List (List ℕ))
joined x r = r >>= λ xs. Ok (x ∷ xs.0, xs.1)

run_then : (r : Reading (List (List ℕ))) (x : List ℕ) (k : Window → Outcome) → (joined x r >>= λ m. k m.1) ≡ (r >>= λ m. k m.1)
run_then (Ok xs) x k = refl
run_then (Err e) x k = refl

in_turn : (r : Reading (Option (List ℕ))) (others : Window → Reading (List (List ℕ))) (k : Window → Outcome) → ((r >>= with_first others) >>= λ m. k m.1) ≡ (r >>= λ p. with_first others p >>= λ m. k m.1)
in_turn (Ok p) others k = refl
in_turn (Err e) others k = refl

pub of_MiddlePieces : (w : Window) → inside part.MiddlePieces w ≡ optional_of 0x81 bytes_of part.MiddlePieces part.FinalPiece w
unfolding inside optional_of one
of_MiddlePieces w =
    ap (λ (r : Reading (List (List ℕ))). r >>= λ m. inside part.FinalPiece m.1) (run_is 0x81 octets w)
    ∙ in_turn (optional 0x81 octets w) (run 0x81 octets) (inside part.FinalPiece)
    ∙ optional_first 0x81 octets (λ p. with_first (run 0x81 octets) p >>= λ m. inside part.FinalPiece m.1) (inside part.MiddlePieces) (inside part.FinalPiece) w (λ x v. run_then (run 0x81 octets v) x (inside part.FinalPiece)) (λ v. refl)
