-- The entry that a request names: below the suffix, by the names that entries show.
use Rattle.std.specs.Prelude.{ℕ, ◌-◌, Bool, true, false, ◌&&◌, nat_le, List, [], ◌∷◌, length, take, drop, Option, Some, None, option_map, unwrap_or, Result, Ok, Err, if◌then◌else◌}
use Rattle.std.specs.Ordering.{eq_by_cmp}
use Rattle.std.specs.Cmp.Lexicographic.{slice_cmp}
use Rattle.repl_data.specs.declared.csn.Uid.{Uid}
use Rattle.repl_data.specs.declared.change.Rdn.{Rdn}
use Rattle.repl_data.specs.declared.change.ShownEntry.{ShownEntry}
use Rattle.repl_data.specs.Order.{suffix_id, rdn_key_cmp}
use Rattle.repl_data.specs.View.{DirectoryView, child_of, entry_of}
use Rattle.ldap_types.specs.declared.reply.LdapResult.{LdapResult}
use Rattle.dn_text.specs.declared.name.Dn.{Dn}
use Rattle.dn_text.specs.declared.fault.DnFault.{DnFault}
use Rattle.dn_text.specs.Below.{keys_of}
use Rattle.dn_text.specs.Reading.{dn_in}
use Rattle.dn_text.specs.declared.place.Place.{Place}
use Rattle.dn_text.specs.declared.place.Place.TheVariants.{There, Nearest}
use Rattle.dn_text.specs.Case.{no_such_object, refuse}

abbrev pub is_read : Result Dn DnFault → Bool
is_read (Ok dn) = true
is_read (Err e) = false

abbrev pub is_readable : List ℕ → Bool
is_readable text = is_read (dn_in text)

-- the RDNs have the same keys, one by one
abbrev pub same_keys : List Rdn → List Rdn → Bool
same_keys a b = eq_by_cmp (slice_cmp rdn_key_cmp) (keys_of a) (keys_of b)

-- how many RDNs a name has above another, where it is that name or below it
abbrev pub count_above : Dn → Dn → Option ℕ
count_above name suffix =
    let count = length name.rdns - length suffix.rdns in
    if nat_le (length suffix.rdns) (length name.rdns) && same_keys (drop count name.rdns) suffix.rdns then Some count else None

abbrev pub have_same_keys : Result Dn DnFault → Result Dn DnFault → Bool
have_same_keys (Ok a) (Ok b) = same_keys a.rdns b.rdns
have_same_keys _ _ = false

-- the text spells the configured name, by the keys of its RDNs
abbrev pub is_named : List ℕ → List ℕ → Bool
is_named configured text = have_same_keys (dn_in configured) (dn_in text)

-- the RDNs of a name above the suffix, the entry's own first
abbrev pub rdns_above : Result Dn DnFault → Dn → Option (List Rdn)
rdns_above (Ok suffix) name = option_map (λ count. take count name.rdns) (count_above name suffix)
rdns_above (Err e) name = None

-- ---- the name of a request, and its refusals

abbrev pub read_object : Result Dn DnFault → Result Dn LdapResult
read_object (Ok dn) = Ok dn
read_object (Err e) = refuse 34

abbrev pub within : Option (List Rdn) → Result (List Rdn) LdapResult
within (Some rdns) = Ok rdns
within None = refuse 32

-- ---- the entry of a name

-- The entry of a name below the suffix: below the entry of the name without its first RDN, the child that shows
-- that RDN. Where it is not there, the nearest present entry above it.
abbrev pub below : DirectoryView → Rdn → Place → Place
below v rdn (There u) = elim (child_of v u rdn) [ None ↦ Nearest u | Some child ↦ There child ]
below v rdn (Nearest u) = Nearest u

unfoldable pub place_of : DirectoryView → List Rdn → Place
place_of v [] = There suffix_id
place_of v (rdn ∷ above) = below v rdn (place_of v above)

-- the name that an entry shows
abbrev pub shown_name : DirectoryView → Uid → List ℕ
shown_name v u = unwrap_or (option_map (λ (e : ShownEntry). e.dn) (entry_of v u)) []

abbrev pub found : DirectoryView → Place → Result Uid LdapResult
found v (There u) = Ok u
found v (Nearest u) = Err (no_such_object (shown_name v u))

-- the entry of a name, or `noSuchObject` with the shown name of the nearest present ancestor
abbrev pub entry_at : DirectoryView → List Rdn → Result Uid LdapResult
entry_at v rdns = found v (place_of v rdns)
