-- The attribute types that are known, with the kind of their values. (Which of them are single-valued is said
-- where a view is defined, since a view shows one value of them.)
use Rattle.std.specs.Prelude.{ℕ, Bool, ◌||◌, bytes_eq, List, [], ◌∷◌, ◌++◌, map, Option, codes, find}
use Rattle.std.specs.Option.{option_map_or}
use Rattle.std.specs.Char.{to_ascii_lowercase}
use Rattle.repl_data.specs.Types as view_types
use Rattle.attr_keys.specs.declared.kind.Kind.{Kind}
use Rattle.attr_keys.specs.declared.table.TypeRow.{TypeRow}
use Rattle.attr_keys.specs.declared.kind.Kind.TheVariants.{Dir, Exact, Ia5, Int, Tel, Oct}
use Rattle.attr_keys.specs.Name.{base_of, options_of}

-- a type: its first name, its other name or the first one again, and the kind of its values
pub record AttrType : Type 0 where
  pub name : List ℕ
  pub other : List ℕ
  pub kind : Kind

abbrev pub type_named : List ℕ → Kind → AttrType
type_named name kind = record { name = name; other = name; kind = kind }

abbrev pub or_named : AttrType → List ℕ → AttrType
or_named t other = record t { other = other }

unfoldable pub types : List AttrType
types =
    type_named (codes "objectclass") Dir
    ∷ or_named (type_named (codes "cn") Dir) (codes "commonname")
    ∷ or_named (type_named (codes "sn") Dir) (codes "surname")
    ∷ type_named (codes "givenname") Dir
    ∷ type_named (codes "initials") Dir
    ∷ type_named (codes "title") Dir
    ∷ type_named (codes "description") Dir
    ∷ or_named (type_named (codes "o") Dir) (codes "organizationname")
    ∷ or_named (type_named (codes "ou") Dir) (codes "organizationalunitname")
    ∷ or_named (type_named (codes "l") Dir) (codes "localityname")
    ∷ or_named (type_named (codes "st") Dir) (codes "stateorprovincename")
    ∷ or_named (type_named (codes "street") Dir) (codes "streetaddress")
    ∷ or_named (type_named (codes "c") Dir) (codes "countryname")
    ∷ type_named (codes "postalcode") Dir
    ∷ type_named (codes "postofficebox") Dir
    ∷ or_named (type_named (codes "uid") Dir) (codes "userid")
    ∷ type_named (codes "displayname") Dir
    ∷ type_named (codes "employeenumber") Dir
    ∷ type_named (codes "employeetype") Dir
    ∷ type_named (codes "departmentnumber") Dir
    ∷ type_named (codes "businesscategory") Dir
    ∷ type_named (codes "preferredlanguage") Dir
    ∷ type_named (codes "member") Dir
    ∷ type_named (codes "uniquemember") Dir
    ∷ type_named (codes "owner") Dir
    ∷ type_named (codes "manager") Dir
    ∷ type_named (codes "seealso") Dir
    ∷ type_named (codes "labeleduri") Exact
    ∷ type_named (codes "homedirectory") Exact
    ∷ type_named (codes "loginshell") Exact
    ∷ or_named (type_named (codes "dc") Ia5) (codes "domaincomponent")
    ∷ or_named (type_named (codes "mail") Ia5) (codes "rfc822mailbox")
    ∷ type_named (codes "memberuid") Ia5
    ∷ type_named (codes "gecos") Ia5
    ∷ type_named (codes "uidnumber") Int
    ∷ type_named (codes "gidnumber") Int
    ∷ type_named (codes "telephonenumber") Tel
    ∷ type_named (codes "mobile") Tel
    ∷ type_named (codes "userpassword") Oct
    ∷ type_named (codes "jpegphoto") Oct
    ∷ []

-- a row of the program's table
abbrev pub seen : TypeRow → AttrType
seen row = record { name = row.name.now; other = row.other.now; kind = row.kind }

abbrev pub is_named : List ℕ → AttrType → Bool
is_named base t = bytes_eq t.name base || bytes_eq t.other base

-- the type that has this name
unfoldable pub type_of : List ℕ → Option AttrType
type_of base = find (is_named base) types

-- the first name of the type, in lower case
abbrev pub first_name : List ℕ → List ℕ
first_name base = option_map_or (λ (t : AttrType). t.name) (type_of base) base

-- the key of a name: in lower case, with the first name of its type
unfoldable pub key_of : List ℕ → List ℕ
key_of name = first_name (map to_ascii_lowercase (base_of name)) ++ map to_ascii_lowercase (options_of name)

-- the kind of an attribute, by its key: what is not in the table is text without regard to case
unfoldable pub kind_of : List ℕ → Kind
kind_of key = option_map_or (λ (t : AttrType). t.kind) (type_of (base_of key)) Dir

-- whether an entry has at most one value of an attribute, by its key: what is not in the table has many
abbrev pub is_single : List ℕ → Bool
is_single key = view_types.is_single (record { name = key })
