-- The bytes of an update spell its request, so they are read as it.
use Rattle.std.proofs.Common.{◌≡◌, ℕ, ◌≤◌, ◌<◌, ◌^◌, pos, Bool, true, false, List, [], ◌∷◌, ◌++◌, length, map, Some, None, Ok, refl, sym, subst, append_assoc, arith, length-append, append-nil}
use Rattle.std.specs.Prelude.{not}
use Rattle.std.specs.List.{flat_map}
use Rattle.ber_core.specs.Element.{IsTag, element}
use Rattle.ber_core.specs.Number.{integer as integer_value, shortest_integer, integer_of}
use Rattle.ber_core.proofs.Written.{IsElement-element}
use Rattle.ber_core.specs.Spelling.{no_value, Element, Then, ThenMaybe, Each, none, next, Unknown, Octets, Integer, Boolean}
use Rattle.ldap_requests.specs.Grammar.{request_at}
use Rattle.ldap_requests.specs.Spelling.{MessageId, Text, Attribute, Modification, IsOp, IsControl, Spells}
use Rattle.ldap_requests.proofs.CompleteMessage.{spelled_is_read}
use Rattle.repl_data.specs.declared.change.AttrKey.{AttrKey}
use Rattle.repl_data.specs.declared.change.Val.{Val}
use Rattle.repl_data.specs.declared.change.Attr.{Attr}
use Rattle.repl_data.specs.declared.change.Mod.{Mod}
use Rattle.repl_data.specs.declared.change.ModKind.{ModKind}
use Rattle.repl_data.specs.declared.change.ModKind.TheVariants as mod_kind
use Rattle.repl_data.specs.declared.change.Body.{Body}
use Rattle.repl_data.specs.declared.change.Body.TheVariants as body
use Rattle.repl_data.specs.declared.change.Update.{Update}
use Rattle.repl_data.specs.Check.{is_empty}
use Rattle.repl_wire.specs.Form.{octet_string, integer}
use Rattle.repl_wire.specs.Laws.{IsRequestId}
use Rattle.repl_wire.specs.UpdateForm.{update_name, id_name, name_text, kind_number, attribute, control_value, raw_attr, raw_mod, write_of, update_control, update_request, modification, boolean, write_bytes, control_bytes, update_bytes}
use Rattle.repl_wire.proofs.Back.{written, longer, integer_is, integer_small}
use Rattle.repl_wire.proofs.Requests.{nothing_unknown, left_out}

text : (v : List ℕ) → length (octet_string v) < 2 ^ 64 → Text (octet_string v) v
text v small = let more = longer 0x04 v in written Octets 0x04 v v (λ e. absurd cc) (omega arith) refl

values : (vals : List Val) → length (flat_map (λ (v : Val). octet_string v.spelled) vals) < 2 ^ 64 → Each Text (flat_map (λ (v : Val). octet_string v.spelled) vals) (map (λ (v : Val). v.spelled) vals)
values [] small = none
values (v ∷ vals) small =
    let first = octet_string v.spelled in
    let rest = flat_map (λ (w : Val). octet_string w.spelled) vals in
    let len = length-append first rest in
    next first rest v.spelled (map (λ (w : Val). w.spelled) vals) (text v.spelled (omega arith)) (values vals (omega arith))

attribute_is : (attr : AttrKey) (vals : List Val) → length (attribute attr vals) < 2 ^ 64 → Attribute (attribute attr vals) (record { name = attr.name; vals = map (λ (v : Val). v.spelled) vals })
unfolding attribute
attribute_is attr vals small =
    let n = octet_string attr.name in
    let inside = flat_map (λ (v : Val). octet_string v.spelled) vals in
    let set = element 0x31 inside in
    let one = longer 0x30 (n ++ set) in
    let two = longer 0x31 inside in
    let len = length-append n set in (
      n ++ set,
      IsElement-element 0x30 (n ++ set) (λ e. absurd cc) (omega arith),
      (n, set, refl, text attr.name (omega arith), (set, [], sym (append-nil set), (inside, IsElement-element 0x31 inside (λ e. absurd cc) (omega arith), values vals (omega arith)), refl)),
    )

attributes : (attrs : List Attr) → length (flat_map (λ (a : Attr). attribute a.attr a.vals) attrs) < 2 ^ 64 → Each Attribute (flat_map (λ (a : Attr). attribute a.attr a.vals) attrs) (map raw_attr attrs)
attributes [] small = none
attributes (a ∷ attrs) small =
    let first = attribute a.attr a.vals in
    let rest = flat_map (λ (b : Attr). attribute b.attr b.vals) attrs in
    let len = length-append first rest in
    next first rest (raw_attr a) (map raw_attr attrs) (attribute_is a.attr a.vals (omega arith)) (attributes attrs (omega arith))

kind_is : (k : ModKind) → integer_of (kind_number k ∷ []) ≡ Some (pos (kind_number k))
unfolding integer_value
kind_is mod_kind.Add = refl
kind_is mod_kind.Delete = refl
kind_is mod_kind.Replace = refl

modification_is : (m : Mod) → length (modification m) < 2 ^ 64 → Modification (modification m) (raw_mod m)
unfolding modification
modification_is m small =
    let k = element 0x0a (kind_number m.kind ∷ []) in
    let a = attribute m.attr m.vals in
    let one = longer 0x30 (k ++ a) in
    let len = length-append k a in (
      k ++ a,
      IsElement-element 0x30 (k ++ a) (λ e. absurd cc) (omega arith),
      (k, a, refl, written Integer 0x0a (kind_number m.kind ∷ []) (pos (kind_number m.kind)) (λ e. absurd cc) (omega arith) (kind_is m.kind), (a, [], sym (append-nil a), attribute_is m.attr m.vals (omega arith), refl)),
    )

modifications : (mods : List Mod) → length (flat_map modification mods) < 2 ^ 64 → Each Modification (flat_map modification mods) (map raw_mod mods)
modifications [] small = none
modifications (m ∷ mods) small =
    let first = modification m in
    let rest = flat_map modification mods in
    let len = length-append first rest in
    next first rest (raw_mod m) (map raw_mod mods) (modification_is m (omega arith)) (modifications mods (omega arith))

boolean_is : (b : Bool) → Element 0x01 Boolean (boolean b) b
boolean_is true = written Boolean 0x01 (0xff ∷ []) true (λ e. absurd cc) (omega arith) refl
boolean_is false = written Boolean 0x01 (0x00 ∷ []) false (λ e. absurd cc) (omega arith) refl

-- an entry's name and a list, as an add and a modify have them
listed : {A : Type 0} (tag : ℕ) (P : List ℕ → A → Type 0) (object inside : List ℕ) (xs : List A) → IsTag tag → length (element tag (octet_string object ++ element 0x30 inside)) < 2 ^ 64 → Each P inside xs
    → Element {A = Unit {0}} tag (λ body u. Then Text object (Then (Element 0x30 (Each P)) xs Unknown) body) (element tag (octet_string object ++ element 0x30 inside)) no_value
listed tag P object inside xs t small each =
    let o = octet_string object in
    let l = element 0x30 inside in
    let one = longer tag (o ++ l) in
    let two = longer 0x30 inside in
    let len = length-append o l in (
      o ++ l,
      IsElement-element tag (o ++ l) t (omega arith),
      (o, l, refl, text object (omega arith), (l, [], sym (append-nil l), written (Each P) 0x30 inside xs (λ e. absurd cc) (omega arith) each, nothing_unknown)),
    )

inside_small : (tag : ℕ) (object inside : List ℕ) → length (element tag (octet_string object ++ element 0x30 inside)) < 2 ^ 64 → length inside < 2 ^ 64
inside_small tag object inside small =
    let one = longer tag (octet_string object ++ element 0x30 inside) in
    let two = longer 0x30 inside in
    let len = length-append (octet_string object) (element 0x30 inside) in
    omega arith

abbrev rename_parts : List ℕ → List ℕ → Bool → List ℕ
rename_parts object name flag = octet_string object ++ octet_string name ++ boolean flag

renamed : (object name : List ℕ) (flag : Bool) → length (element 0x6c (rename_parts object name flag)) < 2 ^ 64
    → Element {A = Unit {0}} 0x6c (λ body u. Then Text object (Then Text name (Then (Element 0x01 Boolean) flag (ThenMaybe 0x80 Octets None Unknown))) body) (element 0x6c (rename_parts object name flag)) no_value
renamed object name flag small =
    let o = octet_string object in
    let n = octet_string name in
    let d = boolean flag in
    let one = longer 0x6c (o ++ n ++ d) in
    let l1 = length-append (o ++ n) d in
    let l2 = length-append o n in (
      o ++ n ++ d,
      IsElement-element 0x6c (o ++ n ++ d) (λ e. absurd cc) (omega arith),
      (o, n ++ d, append_assoc o n d, text object (omega arith), (n, d, refl, text name (omega arith), (d, [], sym (append-nil d), boolean_is flag, left_out 0x80 Octets))),
    )

deleted : (object : List ℕ) → length (element 0x4a object) < 2 ^ 64 → Element 0x4a Octets (element 0x4a object) object
deleted object small = let more = longer 0x4a object in written Octets 0x4a object object (λ e. absurd cc) (omega arith) refl

write_is : (object : List ℕ) (b : Body) → length (write_bytes object b) < 2 ^ 64 → IsOp (write_bytes object b) (write_of object b)
write_is object (body.Add parent rdn attrs) small =
    let inside = flat_map (λ (a : Attr). attribute a.attr a.vals) attrs in
    listed 0x68 Attribute object inside (map raw_attr attrs) (λ e. absurd cc) small (attributes attrs (inside_small 0x68 object inside small))
write_is object (body.Mod mods) small =
    let inside = flat_map modification mods in
    listed 0x66 Modification object inside (map raw_mod mods) (λ e. absurd cc) small (modifications mods (inside_small 0x66 object inside small))
write_is object (body.Ren rdn dropped) small = renamed object (name_text rdn) (not (is_empty dropped)) small
write_is object body.Del small = deleted object small

control_is : (u : Update) → length (control_bytes u) < 2 ^ 64 → IsControl (control_bytes u) (update_control u)
unfolding control_bytes
control_is u small =
    let n = octet_string update_name in
    let c = boolean true in
    let v = octet_string (control_value u) in
    let all = n ++ c ++ v in
    let one = longer 0x30 all in
    let l1 = length-append (n ++ c) v in
    let l2 = length-append n c in
    let two = longer 0x04 (control_value u) in (
      all,
      IsElement-element 0x30 all (λ e. absurd cc) (omega arith),
      (
        Some true,
        refl,
        (
          n,
          c ++ v,
          append_assoc n c v,
          text update_name (omega arith),
          (c, v, refl, boolean_is true, (v, [], sym (append-nil v), written Octets 0x04 (control_value u) (control_value u) (λ e. absurd cc) (omega arith) refl, nothing_unknown)),
        ),
      ),
    )

update_spells : (id : ℕ) (u : Update) → IsRequestId id → length (update_bytes id u) < 2 ^ 64 → Spells (update_bytes id u) (update_request id u)
unfolding update_bytes
update_spells id u i small =
    let most = i.most in
    let n = integer id in
    let w = write_bytes (id_name u.change.target) u.change.body in
    let c = control_bytes u in
    let cs = element 0xa0 c in
    let all = n ++ w ++ cs in
    let one = longer 0x30 all in
    let l1 = length-append (n ++ w) cs in
    let l2 = length-append n w in
    let two = longer 0xa0 c in
    let each : Each IsControl c (update_control u ∷ []) = one_control u (omega arith) in (
      all,
      IsElement-element 0x30 all (λ e. absurd cc) (omega arith),
      (
        Some (update_control u ∷ []),
        refl,
        (
          n,
          w ++ cs,
          append_assoc n w cs,
          written MessageId 0x02 (shortest_integer (pos id)) id (λ e. absurd cc) (integer_small id (omega arith)) (integer_is id (omega arith), i.from_1, most),
          (w, cs, refl, write_is (id_name u.change.target) u.change.body (omega arith), (cs, [], sym (append-nil cs), written (Each IsControl) 0xa0 c (update_control u ∷ []) (λ e. absurd cc) (omega arith) each, nothing_unknown)),
        ),
      ),
    )
  where
    one_control : (v : Update) → length (control_bytes v) < 2 ^ 64 → Each IsControl (control_bytes v) (update_control v ∷ [])
    one_control v fits = subst (λ (bytes : List ℕ). Each IsControl bytes (update_control v ∷ [])) (append-nil (control_bytes v)) (next (control_bytes v) [] (update_control v) [] (control_is v fits) none)

pub update_is_read : (id : ℕ) (u : Update) (rest : List ℕ) → IsRequestId id → length (update_bytes id u) ≤ 2097152 → request_at 2097152 (update_bytes id u ++ rest) ≡ Ok (update_request id u, length (update_bytes id u))
update_is_read id u rest i le = spelled_is_read 2097152 (update_bytes id u) rest (update_request id u) (update_spells id u i (omega arith)) le
