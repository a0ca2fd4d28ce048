-- Each part of a message that was answered stays, whatever bytes follow.
use Rattle.std.proofs.Common.{◌≡◌, ℕ, zero, suc, false, List, [], ◌∷◌, ◌++◌, length, Result, Ok, Err, refl, sym, ap, subst, ◌∙◌}
use Rattle.std.specs.Prelude.{◌==◌, unwrap_or}
use Rattle.repl_data.proofs.Loops.{empty_rest}
use Rattle.ber_core.specs.declared.fault.BerWhy.TheVariants as ber_why
use Rattle.ldap_types.specs.declared.request.Request.{Request}
use Rattle.ldap_types.specs.declared.request.Op.TheVariants as op
use Rattle.ldap_types.specs.declared.request.Auth.TheVariants.{Simple, Sasl}
use Rattle.ldap_types.specs.declared.request.Filter.{Filter}
use Rattle.ldap_types.specs.declared.request.Filter.TheVariants as filter
use Rattle.ber_core.specs.declared.fault.NotLdapWhy.{NotLdapWhy}
use Rattle.ber_core.specs.declared.fault.NotLdapWhy.TheVariants as why
use Rattle.ber_core.specs.Window.{Stop, Fault, Window, Reading, ◌>>=◌, octets, int, boolean, many, in_range, ranged, outermost}
use Rattle.ldap_requests.specs.Grammar.{text, count, message_id, attribute_inside, attribute, assertion, sasl, auth, bind_inside, unbind_inside, delete_inside, abandon_inside, add_inside, modification_inside, modification, modify_inside, rename_inside, compare_inside, extended_inside, some_piece, pieces, substrings_inside, is_filter_tag, simple_inside, filter_inside, filter_at, search_inside, is_op_tag, op_inside, operation, control_inside, control, request_inside, request_at}
use Rattle.ldap_requests.specs.Laws.{StaysRead, StaysAtFault, NoneIsPrefix}
use Rattle.ber_core.proofs.Stable.{Keeps, kept, more_yet, at_fault, with_more, Grows, Equal, Stays, StaysInside, self, and_then, choose, tag_stays, open_stays, refused_stays, open_as_stays, elements_stay, element_stays, octets_stays, int_stays, boolean_stays, skip_stays, ended_stays, many_stays, optional_stays, run_stays}

-- a value read by an inner reader, as the answer
only : {A B : Type 0} {r s : Result A Stop} (f : A → B) → Keeps Equal r s → Keeps Equal (r >>= λ x. Ok (f x)) (s >>= λ x. Ok (f x))
only f h = and_then h (λ x y e. kept (f x) (f y) (ap f e))

text_stays : Stays text
text_stays = element_stays 0x04 octets octets_stays

pub count_stays : StaysInside count
unfolding count
count_stays w v g = rw g.1 (and_then (int_stays w (with_more g.0 w) (g.0, refl)) (λ x y e. rw (sym e) (self (ranged why.Shape w.start (in_range 0 x)))))

pub message_id_stays : StaysInside message_id
unfolding message_id
message_id_stays w v g = rw g.1 (and_then (int_stays w (with_more g.0 w) (g.0, refl)) (λ x y e. rw (sym e) (self (ranged why.Id w.start (in_range 1 x)))))

attribute_inside_stays : StaysInside attribute_inside
unfolding attribute_inside
attribute_inside_stays w v g =
    and_then (text_stays w v g) (λ a b e. and_then (element_stays 0x31 (many text) (many_stays text text_stays) a.1 b.1 e.1) (λ c d f. and_then (ended_stays c.1 d.1 f.1) (λ x y u.
    kept (record { name = a.0; vals = c.0 }) (record { name = b.0; vals = d.0 }) (let p = e.0 in let q = f.0 in cc))))

attribute_stays : Stays attribute
attribute_stays = element_stays 0x30 attribute_inside attribute_inside_stays

assertion_stays : StaysInside assertion
unfolding assertion
assertion_stays w v g =
    and_then (text_stays w v g) (λ a b e. and_then (text_stays a.1 b.1 e.1) (λ c d f. and_then (ended_stays c.1 d.1 f.1) (λ x y u. kept (a.0, c.0) (b.0, d.0) (let p = e.0 in let q = f.0 in cc))))

sasl_stays : StaysInside sasl
unfolding sasl
sasl_stays w v g = and_then (text_stays w v g) (λ a b e. and_then (optional_stays 0x04 octets octets_stays a.1 b.1 e.1) (λ c d f. ended_stays c.1 d.1 f.1))

auth_stays : Stays auth
unfolding auth
auth_stays w v g = and_then (tag_stays w v g) (λ t s e. rw (sym e) (choose (t == 0x80)
    (and_then (element_stays 0x80 octets octets_stays w v g) (λ a b f. kept (Simple a.0, a.1) (Simple b.0, b.1) (ap Simple f.0, f.1)))
    (choose (t == 0xa3) (and_then (element_stays 0xa3 sasl sasl_stays w v g) (λ a b f. kept (Sasl, a.1) (Sasl, b.1) (refl, f.1))) (refused_stays w v g))))

bind_stays : StaysInside bind_inside
unfolding bind_inside
bind_stays w v g =
    and_then (element_stays 0x02 int int_stays w v g) (λ a b e. and_then (text_stays a.1 b.1 e.1) (λ c d f. and_then (auth_stays c.1 d.1 f.1) (λ i j h. and_then (skip_stays i.1 j.1 h.1) (λ x y u.
    kept (op.Bind (record { version = a.0; name = c.0; auth = i.0 })) (op.Bind (record { version = b.0; name = d.0; auth = j.0 })) (let p = e.0 in let q = f.0 in let r = h.0 in cc)))))

unbind_stays : StaysInside unbind_inside
unfolding unbind_inside
unbind_stays w v g = rw g.1 (choose (w.left == 0) (kept op.Unbind op.Unbind refl) (at_fault w.start why.Shape))

delete_stays : StaysInside delete_inside
unfolding delete_inside
delete_stays w v g = only op.Delete (octets_stays w v g)

abandon_stays : StaysInside abandon_inside
unfolding abandon_inside
abandon_stays w v g = only op.Abandon (count_stays w v g)

add_stays : StaysInside add_inside
unfolding add_inside
add_stays w v g =
    and_then (text_stays w v g) (λ a b e. and_then (element_stays 0x30 (many attribute) (many_stays attribute attribute_stays) a.1 b.1 e.1) (λ c d f. and_then (skip_stays c.1 d.1 f.1) (λ x y u.
    kept (op.Add a.0 c.0) (op.Add b.0 d.0) (let p = e.0 in let q = f.0 in cc))))

modification_inside_stays : StaysInside modification_inside
unfolding modification_inside
modification_inside_stays w v g =
    and_then (element_stays 0x0a int int_stays w v g) (λ a b e. and_then (attribute_stays a.1 b.1 e.1) (λ c d f. and_then (ended_stays c.1 d.1 f.1) (λ x y u.
    kept (record { kind = a.0; name = c.0.name; vals = c.0.vals }) (record { kind = b.0; name = d.0.name; vals = d.0.vals }) (let p = e.0 in let q = f.0 in cc))))

modification_stays : Stays modification
modification_stays = element_stays 0x30 modification_inside modification_inside_stays

modify_stays : StaysInside modify_inside
unfolding modify_inside
modify_stays w v g =
    and_then (text_stays w v g) (λ a b e. and_then (element_stays 0x30 (many modification) (many_stays modification modification_stays) a.1 b.1 e.1) (λ c d f. and_then (skip_stays c.1 d.1 f.1) (λ x y u.
    kept (op.Modify a.0 c.0) (op.Modify b.0 d.0) (let p = e.0 in let q = f.0 in cc))))

rename_stays : StaysInside rename_inside
unfolding rename_inside
rename_stays w v g =
    and_then (text_stays w v g) (λ a b e. and_then (text_stays a.1 b.1 e.1) (λ c d f. and_then (element_stays 0x01 boolean boolean_stays c.1 d.1 f.1) (λ i j h. and_then (optional_stays 0x80 octets octets_stays i.1 j.1 h.1) (λ m n k. and_then (skip_stays m.1 n.1 k.1) (λ x y u.
    kept (op.Rename a.0 c.0 i.0 m.0) (op.Rename b.0 d.0 j.0 n.0) (let p = e.0 in let q = f.0 in let r = h.0 in let s = k.0 in cc))))))

compare_stays : StaysInside compare_inside
unfolding compare_inside
compare_stays w v g =
    and_then (text_stays w v g) (λ a b e. and_then (element_stays 0x30 assertion assertion_stays a.1 b.1 e.1) (λ c d f. and_then (skip_stays c.1 d.1 f.1) (λ x y u.
    kept (op.Compare a.0 c.0.0 c.0.1) (op.Compare b.0 d.0.0 d.0.1) (let p = e.0 in let q = f.0 in cc))))

extended_stays : StaysInside extended_inside
unfolding extended_inside
extended_stays w v g =
    and_then (element_stays 0x80 octets octets_stays w v g) (λ a b e. and_then (optional_stays 0x81 octets octets_stays a.1 b.1 e.1) (λ c d f. and_then (skip_stays c.1 d.1 f.1) (λ x y u.
    kept (op.Extended a.0 c.0) (op.Extended b.0 d.0) (let p = e.0 in let q = f.0 in cc))))

-- ---- filters

some_piece_stays : (start : ℕ) (f g : Filter) → f ≡ g → Keeps Equal (some_piece start f) (some_piece start g)
some_piece_stays start f g e = subst (λ (x : Filter). Keeps Equal (some_piece start f) (some_piece start x)) e (self (some_piece start f))

pieces_grow : (name : List ℕ) (w : Window) (more : List ℕ) → Keeps Equal (pieces name w) (pieces name (with_more more w))
unfolding pieces
pieces_grow name w more =
    (and_then (optional_stays 0x80 octets octets_stays w (with_more more w) (more, refl)) (λ a b e. and_then (run_stays 0x81 octets octets_stays a.1 b.1 e.1) (λ c d f. and_then (optional_stays 0x82 octets octets_stays c.1 d.1 f.1) (λ i j h. and_then (ended_stays i.1 j.1 h.1) (λ x y u.
    some_piece_stays w.start (filter.Substrings name a.0 c.0 i.0) (filter.Substrings name b.0 d.0 j.0) (let p = e.0 in let q = f.0 in let r = h.0 in cc))))))

pieces_again : (name : List ℕ) → StaysInside (pieces name)
pieces_again name w v g = subst (λ (x : Window). Keeps Equal (pieces name w) (pieces name x)) (sym g.1) (pieces_grow name w g.0)

pieces_stays : (name other : List ℕ) → name ≡ other → (w v : Window) → Grows w v → Keeps Equal (pieces name w) (pieces other v)
pieces_stays name other n w v g = subst (λ (x : List ℕ). Keeps Equal (pieces name w) (pieces x v)) n (pieces_again name w v g)

substrings_stays : StaysInside substrings_inside
unfolding substrings_inside
substrings_stays w v g =
    and_then (text_stays w v g) (λ a b e. and_then (elements_stay 0x30 (pieces a.0) (pieces b.0) (pieces_stays a.0 b.0 e.0) a.1 b.1 e.1) (λ c d f. and_then (ended_stays c.1 d.1 f.1) (λ x y u. kept c.0 d.0 f.0)))

simple_stays : (tag : ℕ) → StaysInside (simple_inside tag)
unfolding simple_inside
simple_stays tag w v g =
    choose (tag == 0xa3) (only (λ a. filter.Equality a.0 a.1) (assertion_stays w v g))
    (choose (tag == 0xa4) (substrings_stays w v g)
    (choose (tag == 0xa5) (only (λ a. filter.AtLeast a.0 a.1) (assertion_stays w v g))
    (choose (tag == 0xa6) (only (λ a. filter.AtMost a.0 a.1) (assertion_stays w v g))
    (choose (tag == 0x87) (only filter.Present (octets_stays w v g))
    (choose (tag == 0xa8) (only (λ a. filter.Approximate a.0 a.1) (assertion_stays w v g))
    (only (λ bytes. filter.Extensible) (octets_stays w v g)))))))

filter_inside_stays : (inner : Window → Reading Filter) → Stays inner → (tag : ℕ) → StaysInside (filter_inside inner tag)
unfolding filter_inside
filter_inside_stays inner h tag w v g =
    choose (tag == 0xa0) (only (λ fs. filter.And fs) (many_stays inner h w v g))
    (choose (tag == 0xa1) (only (λ fs. filter.Or fs) (many_stays inner h w v g))
    (choose (tag == 0xa2) (and_then (h w v g) (λ a b e. and_then (ended_stays a.1 b.1 e.1) (λ x y u. kept (filter.Not a.0) (filter.Not b.0) (ap (λ f. filter.Not f) e.0))))
    (simple_stays tag w v g)))

filter_stays : (levels : ℕ) → Stays (filter_at levels)
unfolding filter_at
filter_stays zero w v g = rw g.1 (and_then (tag_stays w (with_more g.0 w) (g.0, refl)) (λ t s e. rw (sym e) (choose (is_filter_tag t) (at_fault w.at why.Depth) (at_fault w.at why.Shape))))
filter_stays (suc levels) w v g =
    and_then (tag_stays w v g) (λ t s e. rw (sym e) (choose (is_filter_tag t)
    (and_then (open_stays w v g) (λ o p b. and_then (filter_inside_stays (filter_at levels) (filter_stays levels) t o.0 p.0 b.0) (λ x y f. kept (x, o.1) (y, p.1) (f, b.1))))
    (refused_stays w v g)))

search_stays : StaysInside search_inside
unfolding search_inside
search_stays w v g =
    and_then (text_stays w v g) (λ a b e. and_then (element_stays 0x0a int int_stays a.1 b.1 e.1) (λ a1 b1 e1. and_then (element_stays 0x0a int int_stays a1.1 b1.1 e1.1) (λ a2 b2 e2.
    and_then (element_stays 0x02 count count_stays a2.1 b2.1 e2.1) (λ a3 b3 e3. and_then (element_stays 0x02 count count_stays a3.1 b3.1 e3.1) (λ a4 b4 e4. and_then (element_stays 0x01 boolean boolean_stays a4.1 b4.1 e4.1) (λ a5 b5 e5.
    and_then (filter_stays 50 a5.1 b5.1 e5.1) (λ a6 b6 e6. and_then (element_stays 0x30 (many text) (many_stays text text_stays) a6.1 b6.1 e6.1) (λ a7 b7 e7. and_then (skip_stays a7.1 b7.1 e7.1) (λ x y u.
    kept (op.Search (record { base = a.0; scope = a1.0; deref = a2.0; size_limit = a3.0; time_limit = a4.0; types_only = a5.0; filter = a6.0; attrs = a7.0 }))
    (op.Search (record { base = b.0; scope = b1.0; deref = b2.0; size_limit = b3.0; time_limit = b4.0; types_only = b5.0; filter = b6.0; attrs = b7.0 }))
    (let p = e.0 in let p1 = e1.0 in let p2 = e2.0 in let p3 = e3.0 in let p4 = e4.0 in let p5 = e5.0 in let p6 = e6.0 in let p7 = e7.0 in cc))))))))))

-- ---- the message

op_stays : (tag : ℕ) → StaysInside (op_inside tag)
unfolding op_inside
op_stays tag w v g =
    choose (tag == 0x60) (bind_stays w v g)
    (choose (tag == 0x42) (unbind_stays w v g)
    (choose (tag == 0x63) (search_stays w v g)
    (choose (tag == 0x66) (modify_stays w v g)
    (choose (tag == 0x68) (add_stays w v g)
    (choose (tag == 0x4a) (delete_stays w v g)
    (choose (tag == 0x6c) (rename_stays w v g)
    (choose (tag == 0x6e) (compare_stays w v g)
    (choose (tag == 0x50) (abandon_stays w v g)
    (extended_stays w v g)))))))))

operation_stays : Stays operation
unfolding operation
operation_stays w v g =
    rw g.1 (and_then (tag_stays w (with_more g.0 w) (g.0, refl)) (λ t s e. rw (sym e) (and_then (choose (is_op_tag t) (open_stays w (with_more g.0 w) (g.0, refl)) (at_fault w.at why.Op)) (λ o p b. and_then (op_stays t o.0 p.0 b.0) (λ x y f. kept (x, o.1) (y, p.1) (f, b.1))))))

control_inside_stays : StaysInside control_inside
unfolding control_inside
control_inside_stays w v g =
    and_then (text_stays w v g) (λ a b e. and_then (optional_stays 0x01 boolean boolean_stays a.1 b.1 e.1) (λ c d f. and_then (optional_stays 0x04 octets octets_stays c.1 d.1 f.1) (λ i j h. and_then (skip_stays i.1 j.1 h.1) (λ x y u.
    kept (record { oid = a.0; critical = unwrap_or c.0 false; value = i.0 }) (record { oid = b.0; critical = unwrap_or d.0 false; value = j.0 }) (let p = e.0 in let q = f.0 in let r = h.0 in cc)))))

control_stays : Stays control
control_stays = element_stays 0x30 control_inside control_inside_stays

request_inside_stays : StaysInside request_inside
unfolding request_inside
request_inside_stays w v g =
    and_then (element_stays 0x02 message_id message_id_stays w v g) (λ a b e. and_then (operation_stays a.1 b.1 e.1) (λ c d f. and_then (optional_stays 0xa0 (many control) (many_stays control control_stays) c.1 d.1 f.1) (λ i j h. and_then (skip_stays i.1 j.1 h.1) (λ x y u.
    kept (record { id = a.0; op = c.0; controls = unwrap_or i.0 [] }) (record { id = b.0; op = d.0; controls = unwrap_or j.0 [] }) (let p = e.0 in let q = f.0 in let r = h.0 in cc)))))

outermost_stays : {A : Type 0} {R : A → A → Type 0} {r s : Result A Stop} → Keeps R r s → Keeps R (outermost r) (outermost s)
outermost_stays (kept x y e) = kept x y e
outermost_stays (more_yet s) = more_yet _
outermost_stays (at_fault place (why.Ber ber_why.TooLarge)) = at_fault place why.TooLarge
outermost_stays (at_fault place (why.Ber ber_why.LongTag)) = at_fault place (why.Ber ber_why.LongTag)
outermost_stays (at_fault place (why.Ber ber_why.Indefinite)) = at_fault place (why.Ber ber_why.Indefinite)
outermost_stays (at_fault place (why.Ber ber_why.LengthForm)) = at_fault place (why.Ber ber_why.LengthForm)
outermost_stays (at_fault place why.Id) = at_fault place why.Id
outermost_stays (at_fault place why.Op) = at_fault place why.Op
outermost_stays (at_fault place why.Shape) = at_fault place why.Shape
outermost_stays (at_fault place why.TooLarge) = at_fault place why.TooLarge
outermost_stays (at_fault place why.Depth) = at_fault place why.Depth

at_of : (w v : Window) → Grows w v → w.at ≡ v.at
at_of w v g = rw g.1 refl

pub request_stays : (limit : ℕ) (bytes more : List ℕ) → Keeps Equal (request_at limit bytes) (request_at limit (bytes ++ more))
unfolding request_at
request_stays limit bytes more =
    let w : Window = record { start = 0; at = 0; left = limit; bytes = bytes } in
    and_then (outermost_stays (open_as_stays 0x30 w (with_more more w) (more, refl))) (λ o p b. and_then (request_inside_stays o.0 p.0 b.0) (λ x y e.
    kept (x, o.1.at) (y, p.1.at) (let a = at_of o.1 p.1 b.1 in cc)))

fault_again : {r s : Result (Request × ℕ) Stop} → Keeps Equal r s → (place : ℕ) (w : NotLdapWhy) → r ≡ Err (Fault place w) → s ≡ Err (Fault place w)
fault_again (kept x y e) place w is = absurd cc
fault_again (more_yet s) place w is = absurd cc
fault_again (at_fault p u) place w is = is

value_again : {r s : Result (Request × ℕ) Stop} → Keeps Equal r s → (x : Request × ℕ) → r ≡ Ok x → s ≡ Ok x
value_again (kept y z e) x is = ap (λ (q : Request × ℕ). Ok q) (sym e) ∙ is
value_again (more_yet s) x is = absurd cc
value_again (at_fault p u) x is = absurd cc

pub request_again : StaysRead
request_again limit n bytes more r is = value_again (request_stays limit bytes more) (r, n) is

pub fault_once : StaysAtFault
fault_once limit place bytes more w is = fault_again (request_stays limit bytes more) place w is

pub out : (x y : Request × ℕ) → (let a : Result (Request × ℕ) Stop = Ok x in a) ≡ Ok y → x ≡ y
out x y e = cc

pub none_is_prefix : NoneIsPrefix
none_is_prefix limit bytes more r s e f =
    let g = out (r, length bytes) (s, length (bytes ++ more)) (sym (request_again limit (length bytes) bytes more r e) ∙ f) in
    (empty_rest bytes more (ap (λ (p : Request × ℕ). p.1) g), ap (λ (p : Request × ℕ). p.0) g)
