-- A walk down the RDNs of a name, from the suffix on.
use Rattle.std.proofs.Common.{◌≡◌, ℕ, ◌+◌, ◌<◌, ◌≤◌, List, length, get_or, drop, refl}
use Rattle.std.proofs.lemmas.List.{at_drop_more, at_drop_all}
use Rattle.repl_data.specs.declared.change.Rdn.{Rdn}
use Rattle.repl_data.specs.View.{DirectoryView}
use Rattle.dn_text.specs.declared.place.Place.TheVariants.{There}
use Rattle.repl_data.specs.Order.{suffix_id}
use Rattle.dn_text.specs.Names.{below, place_of}

pub place_more : (v : DirectoryView) (rdns : List Rdn) (at : ℕ) (d : Rdn) → at < length rdns → place_of v (drop at rdns) ≡ below v (get_or rdns at d) (place_of v (drop (at + 1) rdns))
unfolding place_of
place_more v rdns at d h = at_drop_more (place_of v) rdns at d h

pub place_end : (v : DirectoryView) (rdns : List Rdn) (at : ℕ) → length rdns ≤ at → place_of v (drop at rdns) ≡ There suffix_id
unfolding place_of
place_end v rdns at h = at_drop_all (place_of v) rdns at h

pub place_whole : (v : DirectoryView) (rdns : List Rdn) → place_of v (drop 0 rdns) ≡ place_of v rdns
place_whole v rdns = refl
