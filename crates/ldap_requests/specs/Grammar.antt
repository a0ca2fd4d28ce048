-- Requests, read element by element from the front (RFC 4511, section 4).
use Rattle.std.specs.Prelude.{ℕ, zero, suc, ◌==◌, ◌||◌, ◌&&◌, nat_le, List, [], None, Bool, false, unwrap_or, Result, Ok, Err, if◌then◌else◌}
use Rattle.ldap_types.specs.declared.request.Request.{Request}
use Rattle.ldap_types.specs.declared.request.Control.{Control}
use Rattle.ldap_types.specs.declared.request.Op.{Op}
use Rattle.ldap_types.specs.declared.request.Op.TheVariants as op
use Rattle.ldap_types.specs.declared.request.Auth.{Auth}
use Rattle.ldap_types.specs.declared.request.Auth.TheVariants.{Simple, Sasl}
use Rattle.ldap_types.specs.declared.request.Filter.{Filter}
use Rattle.ldap_types.specs.declared.request.Filter.TheVariants as filter
use Rattle.ldap_types.specs.declared.request.RawAttr.{RawAttr}
use Rattle.ldap_types.specs.declared.request.RawMod.{RawMod}
use Rattle.ber_core.specs.declared.fault.NotLdapWhy.TheVariants as why
use Rattle.ber_core.specs.Window.{Stop, Fault, Window, Reading, ◌>>=◌, refused, tag_here, open_here, open_as, octets, int, boolean, element, skip, ended, many, run, optional, in_range, ranged, outermost}

-- ---- leaves in their ranges

abbrev pub text : Window → Reading (List ℕ)
text = element 0x04 octets

unfoldable pub count : Window → Result ℕ Stop
count w = int w >>= λ z. ranged why.Shape w.start (in_range 0 z)

unfoldable pub message_id : Window → Result ℕ Stop
message_id w = int w >>= λ z. ranged why.Id w.start (in_range 1 z)

-- ---- parts that several operations have

-- RawAttr: its name, and its values in a set
unfoldable pub attribute_inside : Window → Result RawAttr Stop
attribute_inside w = do
  name ← text w
  vals ← element 0x31 (many text) name.1
  over ← ended vals.1
  Ok (record { name = name.0; vals = vals.0 })

abbrev pub attribute : Window → Reading RawAttr
attribute = element 0x30 attribute_inside

-- the name and the value of an assertion
unfoldable pub assertion : Window → Result (List ℕ × List ℕ) Stop
assertion w = do
  name ← text w
  value ← text name.1
  over ← ended value.1
  Ok (name.0, value.0)

-- ---- operations, from what is inside them

-- the mechanism and the credentials of SASL, which nobody looks at
unfoldable pub sasl : Window → Result (Unit {0}) Stop
sasl w = do
  mechanism ← text w
  credentials ← optional 0x04 octets mechanism.1
  ended credentials.1

unfoldable pub auth : Window → Reading Auth
auth w = do
  tag ← tag_here w
  if tag == 0x80 then (element 0x80 octets w >>= λ password. Ok (Simple password.0, password.1))
      else if tag == 0xa3 then (element 0xa3 sasl w >>= λ over. Ok (Sasl, over.1))
      else refused w

unfoldable pub bind_inside : Window → Result Op Stop
bind_inside w = do
  version ← element 0x02 int w
  name ← text version.1
  by ← auth name.1
  rest ← skip by.1
  Ok (op.Bind (record { version = version.0; name = name.0; auth = by.0 }))

-- an unbind is empty
unfoldable pub unbind_inside : Window → Result Op Stop
unbind_inside w = if w.left == 0 then Ok op.Unbind else Err (Fault w.start why.Shape)

unfoldable pub delete_inside : Window → Result Op Stop
delete_inside w = octets w >>= λ object. Ok (op.Delete object)

unfoldable pub abandon_inside : Window → Result Op Stop
abandon_inside w = count w >>= λ id. Ok (op.Abandon id)

unfoldable pub add_inside : Window → Result Op Stop
add_inside w = do
  object ← text w
  attrs ← element 0x30 (many attribute) object.1
  rest ← skip attrs.1
  Ok (op.Add object.0 attrs.0)

unfoldable pub modification_inside : Window → Result RawMod Stop
modification_inside w = do
  kind ← element 0x0a int w
  attr ← attribute kind.1
  over ← ended attr.1
  Ok (record { kind = kind.0; name = attr.0.name; vals = attr.0.vals })

abbrev pub modification : Window → Reading RawMod
modification = element 0x30 modification_inside

unfoldable pub modify_inside : Window → Result Op Stop
modify_inside w = do
  object ← text w
  mods ← element 0x30 (many modification) object.1
  rest ← skip mods.1
  Ok (op.Modify object.0 mods.0)

unfoldable pub rename_inside : Window → Result Op Stop
rename_inside w = do
  object ← text w
  new_rdn ← text object.1
  delete_old ← element 0x01 boolean new_rdn.1
  new_superior ← optional 0x80 octets delete_old.1
  rest ← skip new_superior.1
  Ok (op.Rename object.0 new_rdn.0 delete_old.0 new_superior.0)

unfoldable pub compare_inside : Window → Result Op Stop
compare_inside w = do
  object ← text w
  ava ← element 0x30 assertion object.1
  rest ← skip ava.1
  Ok (op.Compare object.0 ava.0.0 ava.0.1)

unfoldable pub extended_inside : Window → Result Op Stop
extended_inside w = do
  oid ← element 0x80 octets w
  value ← optional 0x81 octets oid.1
  rest ← skip value.1
  Ok (op.Extended oid.0 value.0)

-- ---- filters

-- at least one piece
abbrev pub some_piece : ℕ → Filter → Result Filter Stop
some_piece start (filter.Substrings name None [] None) = Err (Fault start why.Shape)
some_piece start f = Ok f

-- the pieces of a substrings filter: the initial one may only be first, the final one only last
unfoldable pub pieces : List ℕ → Window → Result Filter Stop
pieces name w = do
  first ← optional 0x80 octets w
  middle ← run 0x81 octets first.1
  last ← optional 0x82 octets middle.1
  over ← ended last.1
  some_piece w.start (filter.Substrings name first.0 middle.0 last.0)

unfoldable pub substrings_inside : Window → Result Filter Stop
substrings_inside w = do
  name ← text w
  found ← element 0x30 (pieces name.0) name.1
  over ← ended found.1
  Ok found.0

abbrev pub is_filter_tag : ℕ → Bool
is_filter_tag tag = (nat_le 0xa0 tag && nat_le tag 0xa6) || tag == 0x87 || tag == 0xa8 || tag == 0xa9

-- what is inside a filter that has no filters inside
unfoldable pub simple_inside : ℕ → Window → Result Filter Stop
simple_inside tag w =
    if tag == 0xa3 then (assertion w >>= λ a. Ok (filter.Equality a.0 a.1))
    else if tag == 0xa4 then substrings_inside w
    else if tag == 0xa5 then (assertion w >>= λ a. Ok (filter.AtLeast a.0 a.1))
    else if tag == 0xa6 then (assertion w >>= λ a. Ok (filter.AtMost a.0 a.1))
    else if tag == 0x87 then (octets w >>= λ name. Ok (filter.Present name))
    else if tag == 0xa8 then (assertion w >>= λ a. Ok (filter.Approximate a.0 a.1))
    else (octets w >>= λ bytes. Ok filter.Extensible)

-- what is inside a filter with this tag, where `inner` reads the filters inside it
unfoldable pub filter_inside : (Window → Reading Filter) → ℕ → Window → Result Filter Stop
filter_inside inner tag w =
    if tag == 0xa0 then (many inner w >>= λ fs. Ok (filter.And fs))
    else if tag == 0xa1 then (many inner w >>= λ fs. Ok (filter.Or fs))
    else if tag == 0xa2 then (inner w >>= λ f. ended f.1 >>= λ over. Ok (filter.Not f.0))
    else simple_inside tag w

-- a filter of at most this depth
unfoldable pub filter_at : ℕ → Window → Reading Filter
filter_at zero w = tag_here w >>= λ tag. if is_filter_tag tag then Err (Fault w.at why.Depth) else refused w
filter_at (suc levels) w = tag_here w >>= λ tag. if is_filter_tag tag then (open_here w >>= λ o. filter_inside (filter_at levels) tag o.0 >>= λ f. Ok (f, o.1)) else refused w

unfoldable pub search_inside : Window → Result Op Stop
search_inside w = do
  base ← text w
  scope ← element 0x0a int base.1
  deref ← element 0x0a int scope.1
  size_limit ← element 0x02 count deref.1
  time_limit ← element 0x02 count size_limit.1
  types_only ← element 0x01 boolean time_limit.1
  f ← filter_at 50 types_only.1
  attrs ← element 0x30 (many text) f.1
  rest ← skip attrs.1
  Ok (op.Search (record {
    base = base.0;
    scope = scope.0;
    deref = deref.0;
    size_limit = size_limit.0;
    time_limit = time_limit.0;
    types_only = types_only.0;
    filter = f.0;
    attrs = attrs.0;
  }))

-- ---- the message

abbrev pub is_op_tag : ℕ → Bool
is_op_tag tag = tag == 0x60 || tag == 0x42 || tag == 0x63 || tag == 0x66 || tag == 0x68 || tag == 0x4a || tag == 0x6c || tag == 0x6e || tag == 0x50 || tag == 0x77

-- what is inside the operation with this tag
unfoldable pub op_inside : ℕ → Window → Result Op Stop
op_inside tag w =
    if tag == 0x60 then bind_inside w
    else if tag == 0x42 then unbind_inside w
    else if tag == 0x63 then search_inside w
    else if tag == 0x66 then modify_inside w
    else if tag == 0x68 then add_inside w
    else if tag == 0x4a then delete_inside w
    else if tag == 0x6c then rename_inside w
    else if tag == 0x6e then compare_inside w
    else if tag == 0x50 then abandon_inside w
    else extended_inside w

-- one of the operations stands here
unfoldable pub operation : Window → Reading Op
operation w = do
  tag ← tag_here w
  o ← (if is_op_tag tag then open_here w else Err (Fault w.at why.Op))
  op ← op_inside tag o.0
  Ok (op, o.1)

unfoldable pub control_inside : Window → Result Control Stop
control_inside w = do
  oid ← text w
  critical ← optional 0x01 boolean oid.1
  value ← optional 0x04 octets critical.1
  rest ← skip value.1
  Ok (record { oid = oid.0; critical = unwrap_or critical.0 false; value = value.0 })

abbrev pub control : Window → Reading Control
control = element 0x30 control_inside

unfoldable pub request_inside : Window → Result Request Stop
request_inside w = do
  id ← element 0x02 message_id w
  op ← operation id.1
  controls ← optional 0xa0 (many control) op.1
  rest ← skip controls.1
  Ok (record { id = id.0; op = op.0; controls = unwrap_or controls.0 [] })

-- The request at the front of the bytes, and how many bytes it has; or More; or the first fault.
unfoldable pub request_at : ℕ → List ℕ → Result (Request × ℕ) Stop
request_at limit bytes = do
  o ← outermost (open_as 0x30 (record { start = 0; at = 0; left = limit; bytes = bytes }))
  r ← request_inside o.0
  Ok (r, o.1.at)
