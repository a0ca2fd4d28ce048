-- Which bytes spell which request, in the standard's words (RFC 4511, section 4 and appendix B). A
-- request has many spellings: lengths and integers may be longer than needed, and elements that
-- nobody knows may follow where it is said here.
use Rattle.std.specs.Prelude.{◌≡◌, ℕ, zero, suc, ◌≤◌, pos, List, [], Option, Some, None, Bool, false, unwrap_or}
use Rattle.ber_core.specs.Number.{integer_of}
use Rattle.ldap_types.specs.declared.request.Request.{Request}
use Rattle.ldap_types.specs.declared.request.Control.{Control}
use Rattle.ldap_types.specs.declared.request.Op.{Op}
use Rattle.ldap_types.specs.declared.request.Op.TheVariants as op
use Rattle.ldap_types.specs.declared.request.BindRequest.{BindRequest}
use Rattle.ldap_types.specs.declared.request.Auth.{Auth}
use Rattle.ldap_types.specs.declared.request.Auth.TheVariants.{Simple, Sasl}
use Rattle.ldap_types.specs.declared.request.SearchRequest.{SearchRequest}
use Rattle.ldap_types.specs.declared.request.Filter.{Filter, out-Filter}
use Rattle.ldap_types.specs.declared.request.Filter.TheOpen.{Filter-F}
use Rattle.ldap_types.specs.declared.request.RawAttr.{RawAttr}
use Rattle.ldap_types.specs.declared.request.RawMod.{RawMod}
use Rattle.ber_core.specs.Spelling.{no_value, Element, Then, ThenMaybe, Nothing, Each, Unknown, Octets, Integer, Boolean}

-- ---- contents of leaves

-- INTEGER (0 .. maxInt)
abbrev pub Count : List ℕ → ℕ → Type 0
Count body n = (integer_of body ≡ Some (pos n)) × (n ≤ 2147483647)

-- MessageID of a request
abbrev pub MessageId : List ℕ → ℕ → Type 0
MessageId body n = (integer_of body ≡ Some (pos n)) × (1 ≤ n) × (n ≤ 2147483647)

-- ---- parts that several operations have

-- LDAPString, LDAPDN, AttributeDescription and the values: all OCTET STRING
abbrev pub Text : List ℕ → List ℕ → Type 0
Text = Element 0x04 Octets

-- PartialAttribute and Attribute
abbrev pub Attribute : List ℕ → RawAttr → Type 0
Attribute = Element 0x30 (λ body a. Then Text a.name (Then (Element 0x31 (Each Text)) a.vals Nothing) body)

-- AttributeValueAssertion, without its tag
abbrev pub Assertion : List ℕ → List ℕ × List ℕ → Type 0
Assertion body a = Then Text a.0 (Then Text a.1 Nothing) body

-- ---- operations, by what is inside them

abbrev pub SaslCredentials : List ℕ → Unit {0} → Type 0
SaslCredentials body u = (mechanism : List ℕ) × (credentials : Option (List ℕ)) × Then Text mechanism (ThenMaybe 0x04 Octets credentials Nothing) body

-- AuthenticationChoice
abbrev pub Authentication : List ℕ → Auth → Type 0
Authentication bytes (Simple password) = Element 0x80 Octets bytes password
Authentication bytes Sasl = Element 0xa3 SaslCredentials bytes no_value

abbrev pub Bind : List ℕ → BindRequest → Type 0
Bind body r = Then (Element 0x02 Integer) r.version (Then Text r.name (Then Authentication r.auth Unknown)) body

abbrev pub Modification : List ℕ → RawMod → Type 0
Modification = Element 0x30 (λ body m. Then (Element 0x0a Integer) m.kind (Then Attribute (record { name = m.name; vals = m.vals }) Nothing) body)

-- ---- filters

-- the pieces of a SubstringFilter
abbrev pub PieceList : Type 0
PieceList = Option (List ℕ) × List (List ℕ) × Option (List ℕ)

abbrev pub IsEmpty : PieceList → Type 0
IsEmpty p = (p.0 ≡ None) × (p.1 ≡ []) × (p.2 ≡ None)

-- the initial one, the middle ones, the final one
abbrev pub Pieces : List ℕ → PieceList → Type 0
Pieces body p = ThenMaybe 0x80 Octets p.0 (Then (Each (Element 0x81 Octets)) p.1 (ThenMaybe 0x82 Octets p.2 Nothing)) body

abbrev pub Substrings : List ℕ → List ℕ × PieceList → Type 0
Substrings body s = Then Text s.0 (Then (Element 0x30 Pieces) s.1 Nothing) body × (IsEmpty s.1 → ⊥)

-- MatchingRuleAssertion, which is not looked into
abbrev pub Whatever : List ℕ → Unit {0} → Type 0
Whatever body u = Unit {0}

-- one filter, where P spells those inside it
abbrev pub OneFilter : (List ℕ → Filter → Type 0) → List ℕ → Filter-F Filter → Type 0
OneFilter P bytes (Filter-F.And fs) = Element 0xa0 (Each P) bytes fs
OneFilter P bytes (Filter-F.Or fs) = Element 0xa1 (Each P) bytes fs
OneFilter P bytes (Filter-F.Not f) = Element 0xa2 P bytes f
OneFilter P bytes (Filter-F.Equality name value) = Element 0xa3 Assertion bytes (name, value)
OneFilter P bytes (Filter-F.Substrings name first middle last) = Element 0xa4 Substrings bytes (name, (first, middle, last))
OneFilter P bytes (Filter-F.AtLeast name value) = Element 0xa5 Assertion bytes (name, value)
OneFilter P bytes (Filter-F.AtMost name value) = Element 0xa6 Assertion bytes (name, value)
OneFilter P bytes (Filter-F.Present name) = Element 0x87 Octets bytes name
OneFilter P bytes (Filter-F.Approximate name value) = Element 0xa8 Assertion bytes (name, value)
OneFilter P bytes Filter-F.Extensible = Element 0xa9 Whatever bytes no_value

-- a filter that is no deeper than this
abbrev pub IsFilter : ℕ → List ℕ → Filter → Type 0
IsFilter zero bytes f = ⊥
IsFilter (suc depth) bytes f = OneFilter (IsFilter depth) bytes (out-Filter f)

-- ---- operations, by what is inside them

abbrev pub Search : List ℕ → SearchRequest → Type 0
Search body r =
    Then Text r.base (Then (Element 0x0a Integer) r.scope (Then (Element 0x0a Integer) r.deref (Then (Element 0x02 Count) r.size_limit (Then (Element 0x02 Count) r.time_limit
    (Then (Element 0x01 Boolean) r.types_only (Then (IsFilter 50) r.filter (Then (Element 0x30 (Each Text)) r.attrs Unknown))))))) body

-- protocolOp
abbrev pub IsOp : List ℕ → Op → Type 0
IsOp bytes (op.Bind r) = Element 0x60 Bind bytes r
IsOp bytes op.Unbind = Element 0x42 (λ body u. Nothing body) bytes no_value
IsOp bytes (op.Search r) = Element 0x63 Search bytes r
IsOp bytes (op.Modify object mods) = Element 0x66 (λ body u. Then Text object (Then (Element 0x30 (Each Modification)) mods Unknown) body) bytes no_value
IsOp bytes (op.Add object attrs) = Element 0x68 (λ body u. Then Text object (Then (Element 0x30 (Each Attribute)) attrs Unknown) body) bytes no_value
IsOp bytes (op.Delete object) = Element 0x4a Octets bytes object
IsOp bytes (op.Rename object new_rdn delete_old new_superior) = Element 0x6c (λ body u. Then Text object (Then Text new_rdn (Then (Element 0x01 Boolean) delete_old (ThenMaybe 0x80 Octets new_superior Unknown))) body) bytes no_value
IsOp bytes (op.Compare object name value) = Element 0x6e (λ body u. Then Text object (Then (Element 0x30 Assertion) (name, value) Unknown) body) bytes no_value
IsOp bytes (op.Abandon id) = Element 0x50 Count bytes id
IsOp bytes (op.Extended oid value) = Element 0x77 (λ body u. Then (Element 0x80 Octets) oid (ThenMaybe 0x81 Octets value Unknown) body) bytes no_value

-- ---- the message

-- Control: criticality is FALSE where it is left out
abbrev pub IsControl : List ℕ → Control → Type 0
IsControl = Element 0x30 (λ body c. (critical : Option Bool) × (c.critical ≡ unwrap_or critical false)
    × Then Text c.oid (ThenMaybe 0x01 Boolean critical (ThenMaybe 0x04 Octets c.value Unknown)) body)

-- LDAPMessage: the bytes are one, and this is the request in it
abbrev pub Spells : List ℕ → Request → Type 0
Spells bytes r = Element 0x30 (λ body u. (controls : Option (List Control)) × (r.controls ≡ unwrap_or controls [])
    × Then (Element 0x02 MessageId) r.id (Then IsOp r.op (ThenMaybe 0xa0 (Each IsControl) controls Unknown)) body) bytes no_value
