-- What the rules write, operation by operation.
use Rattle.std.proofs.Common.{◌≡◌, ℕ, Bool, true, false, List, refl, sym, ap, subst, ◌∙◌, Result, Ok, Err, Option, Some, None, nat_lt}
use Rattle.std.specs.List.{AllByRecursion, list_all}
use Rattle.repl_data.specs.declared.csn.Csn.{Csn}
use Rattle.repl_data.specs.declared.csn.Uid.{Uid}
use Rattle.repl_data.specs.declared.change.Rdn.{Rdn}
use Rattle.repl_data.specs.declared.change.Body.{Body}
use Rattle.repl_data.specs.declared.change.Change.{Change}
use Rattle.repl_data.specs.declared.change.Suffix.{Suffix}
use Rattle.repl_data.specs.Check.{is_empty, weight, fault_of}
use Rattle.repl_data.specs.Closed.{is_sound, needed}
use Rattle.repl_data.specs.View.{DirectoryView, view_of}
use Rattle.dn_text.specs.declared.name.Dn.{Dn}
use Rattle.dn_text.specs.Laws.{IsReadable, IsReadablePart}
use Rattle.dn_text.specs.Reading.{dn_in}
use Rattle.ldap_types.specs.declared.request.Control.{Control}
use Rattle.ldap_types.specs.declared.request.RawMod.{RawMod}
use Rattle.ldap_types.specs.declared.request.Op.{Op}
use Rattle.ldap_types.specs.declared.request.Op.TheVariants.{Add as AddEntry, Modify, Delete, Rename, Compare}
use Rattle.ldap_types.specs.declared.reply.Identity.{Identity}
use Rattle.ldap_types.specs.declared.reply.LdapResult.{LdapResult}
use Rattle.ldap_rules.specs.Case.{◌>>=◌}
use Rattle.ldap_rules.proofs.Chains.{by_pass, by_free, same_ok}
use Rattle.ldap_rules.specs.Writes.{all_writes, not_too_heavy, light_change}
use Rattle.ldap_rules.specs.Carried.{CarriesKeys, AllCarryKeys}
use Rattle.ldap_rules.specs.Modify.{modify_made, modify_verdict}
use Rattle.ldap_rules.specs.Delete.{delete_made, delete_verdict}
use Rattle.ldap_rules.specs.Rename.{rename_made, rename_verdict}
use Rattle.ldap_rules.specs.Compare.{compare_verdict}
use Rattle.ldap_rules.specs.Verdict.{Writes, changes, answers, is_change, is_judged, op_verdict}
use Rattle.ldap_rules.specs.Laws.{change_at, needed_at, IsDrawnAbove, has_entry, ModifiesEach}
use Rattle.ldap_rules.proofs.Changed.{delete_checked, delete_there, delete_needs, delete_carries, rename_checked, rename_there, rename_needs, rename_carries}
use Rattle.ldap_rules.proofs.Modified.{modify_checked, modify_there, modify_needs, modify_each, modify_carries}
use Rattle.ldap_rules.proofs.Written.{op_added, written_sound, written_there, written_needs, written_carries}

-- ---- a change of an entry that is there

light_as : (made : Result (Uid × Body) LdapResult) (change : Uid × Body) → (made >>= light_change) ≡ Ok change → (made ≡ Ok change) × (nat_lt 2097152 (weight change.1) ≡ false)
light_as made change h =
    by_pass made light_change change h (λ m e l.
    by_pass (not_too_heavy m.1) _ change l (λ b n o.
    by_free (nat_lt 2097152 (weight m.1)) 11 _ b n (λ light i.
    let body : m.1 ≡ b = same_ok m.1 b i in
    let whole : ◌≡◌ {A = Uid × Body} (m.0, b) change = same_ok (m.0, b) change o in
    let same : m ≡ change = ap (λ (x : Body). (m.0, x)) body ∙ whole in
    (e ∙ ap Ok same, subst (λ (x : Uid × Body). nat_lt 2097152 (weight x.1) ≡ false) same light))))

pub after_writes : {G : Type 0} (writes : Result (List Rdn) LdapResult) (f : List Rdn → Result (Uid × Body) LdapResult) (change : Uid × Body) → (writes >>= f >>= light_change) ≡ Ok change
    → ((rdns : List Rdn) → f rdns ≡ Ok change → nat_lt 2097152 (weight change.1) ≡ false → G) → G
after_writes writes f change h g = let l = light_as (writes >>= f) change h in by_pass writes f change l.0 (λ rdns w e. g rdns e l.1)

from_changes : {G : Type 0} (made : Result (Uid × Body) LdapResult) (target : Option Uid) (body : Body) → changes made ≡ Writes target body → ((u : Uid) → made ≡ Ok (u, body) → target ≡ Some u → G) → G
from_changes (Ok change) target body h g =
    let t : ◌≡◌ {A = Option Uid} (Some change.0) target = cc in
    let b : change.1 ≡ body = cc in
    g change.0 (ap (λ (x : Body). Ok (change.0, x)) b) (sym t)
from_changes (Err r) target body h g = let n : ⊥ = cc in absurd n

no_answer : (made : Result LdapResult LdapResult) (target : Option Uid) (body : Body) → answers made ≡ Writes target body → ⊥
no_answer (Ok r) target body h = cc
no_answer (Err r) target body h = cc

at_target : (c : Csn) (target : Option Uid) (body : Body) (u : Uid) → target ≡ Some u → (IsDrawnAbove c (needed u body) → fault_of (record { csn = c; target = u; body = body }) ≡ None) → IsDrawnAbove c (needed_at c target body) → fault_of (change_at c target body) ≡ None
at_target c target body u t f drawn =
    subst (λ (x : Option Uid). fault_of (change_at c x body) ≡ None) (sym t) (f (subst (λ (x : Option Uid). IsDrawnAbove c (needed_at c x body)) t drawn))

there_at : (v : DirectoryView) (c : Csn) (target : Option Uid) (body : Body) (u : Uid) → target ≡ Some u → needed u body ≡ u → has_entry v u ≡ true → has_entry v (needed_at c target body) ≡ true
there_at v c target body u t n h =
    subst (λ (x : Option Uid). has_entry v (needed_at c x body) ≡ true) (sym t) (subst (λ (w : Uid). has_entry v w ≡ true) (sym n) h)

needs_at : (c d : Csn) (target : Option Uid) (body : Body) (u : Uid) → target ≡ Some u → needed_at c target body ≡ needed_at d target body
needs_at c d target body u t = subst (λ (x : Option Uid). needed_at c x body ≡ needed_at d x body) (sym t) refl

-- ---- IT PASSES `check`

pub op_sound : (suffix : Suffix) (xs : List Change) (controls : List Control) (bound : Identity) (op : Op) (target : Option Uid) (body : Body) (c : Csn) → ((text : List ℕ) (dn : Dn) → dn_in text ≡ Ok dn → IsReadable dn)
    → list_all is_sound xs ≡ true → op_verdict (view_of suffix xs) controls bound op ≡ Writes target body → IsDrawnAbove c (needed_at c target body) → fault_of (change_at c target body) ≡ None
op_sound suffix xs controls bound (AddEntry object given) target body c law sound h drawn =
    let v : DirectoryView = view_of suffix xs in
    written_sound v target body c law (op_added v controls bound object given target body h) drawn
op_sound suffix xs controls bound (Modify object given) target body c law sound h drawn =
    let v : DirectoryView = view_of suffix xs in
    from_changes (modify_verdict v controls bound object given) target body h (λ u m t.
    after_writes (all_writes v.suffix controls bound object) (modify_made v given) (u, body) m (λ rdns e light.
    at_target c target body u t (λ d. modify_checked v given rdns (u, body) c e light (subst (IsDrawnAbove c) (modify_needs v given rdns (u, body) e) d)) drawn))
op_sound suffix xs controls bound (Delete object) target body c law sound h drawn =
    let v : DirectoryView = view_of suffix xs in
    from_changes (delete_verdict v controls bound object) target body h (λ u m t.
    after_writes (all_writes v.suffix controls bound object) (delete_made v) (u, body) m (λ rdns e light.
    at_target c target body u t (λ d. delete_checked v rdns (u, body) c e (subst (IsDrawnAbove c) (delete_needs v rdns (u, body) e) d)) drawn))
op_sound suffix xs controls bound (Rename object new_rdn old superior) target body c law sound h drawn =
    let v : DirectoryView = view_of suffix xs in
    from_changes (rename_verdict v controls bound object new_rdn old superior) target body h (λ u m t.
    after_writes (all_writes v.suffix controls bound object) (rename_made v new_rdn old superior) (u, body) m (λ rdns e light.
    at_target c target body u t (λ d. rename_checked suffix xs new_rdn old superior rdns (u, body) c law sound e light (subst (IsDrawnAbove c) (rename_needs v new_rdn old superior rdns (u, body) e) d)) drawn))
op_sound suffix xs controls bound (Compare object name value) target body c law sound h drawn = absurd (no_answer (compare_verdict (view_of suffix xs) controls object name value) target body h)
op_sound suffix xs controls bound _ target body c law sound h drawn = let n : ⊥ = cc in absurd n

-- ---- THE ENTRY THAT IT NEEDS IS THERE

pub op_there : (v : DirectoryView) (controls : List Control) (bound : Identity) (op : Op) (target : Option Uid) (body : Body) (c : Csn) → op_verdict v controls bound op ≡ Writes target body → has_entry v (needed_at c target body) ≡ true
op_there v controls bound (AddEntry object given) target body c h = written_there v target body c (op_added v controls bound object given target body h)
op_there v controls bound (Modify object given) target body c h =
    from_changes (modify_verdict v controls bound object given) target body h (λ u m t.
    after_writes (all_writes v.suffix controls bound object) (modify_made v given) (u, body) m (λ rdns e light.
    there_at v c target body u t (modify_needs v given rdns (u, body) e) (modify_there v given rdns (u, body) e)))
op_there v controls bound (Delete object) target body c h =
    from_changes (delete_verdict v controls bound object) target body h (λ u m t.
    after_writes (all_writes v.suffix controls bound object) (delete_made v) (u, body) m (λ rdns e light.
    there_at v c target body u t (delete_needs v rdns (u, body) e) (delete_there v rdns (u, body) e)))
op_there v controls bound (Rename object new_rdn old superior) target body c h =
    from_changes (rename_verdict v controls bound object new_rdn old superior) target body h (λ u m t.
    after_writes (all_writes v.suffix controls bound object) (rename_made v new_rdn old superior) (u, body) m (λ rdns e light.
    there_at v c target body u t (rename_needs v new_rdn old superior rdns (u, body) e) (rename_there v new_rdn old superior rdns (u, body) e)))
op_there v controls bound (Compare object name value) target body c h = absurd (no_answer (compare_verdict v controls object name value) target body h)
op_there v controls bound _ target body c h = let n : ⊥ = cc in absurd n

-- ---- whatever its CSN is

pub op_needs : (v : DirectoryView) (controls : List Control) (bound : Identity) (op : Op) (target : Option Uid) (body : Body) (c d : Csn) → op_verdict v controls bound op ≡ Writes target body → needed_at c target body ≡ needed_at d target body
op_needs v controls bound (AddEntry object given) target body c d h = written_needs v target body c d (op_added v controls bound object given target body h)
op_needs v controls bound (Modify object given) target body c d h = from_changes (modify_verdict v controls bound object given) target body h (λ u m t. needs_at c d target body u t)
op_needs v controls bound (Delete object) target body c d h = from_changes (delete_verdict v controls bound object) target body h (λ u m t. needs_at c d target body u t)
op_needs v controls bound (Rename object new_rdn old superior) target body c d h = from_changes (rename_verdict v controls bound object new_rdn old superior) target body h (λ u m t. needs_at c d target body u t)
op_needs v controls bound (Compare object name value) target body c d h = absurd (no_answer (compare_verdict v controls object name value) target body h)
op_needs v controls bound _ target body c d h = let n : ⊥ = cc in absurd n

-- ---- IT CARRIES THE KEYS OF ITS SPELLINGS

pub op_carries : (suffix : Suffix) (xs : List Change) (controls : List Control) (bound : Identity) (op : Op) (target : Option Uid) (body : Body) → ((text : List ℕ) (dn : Dn) → dn_in text ≡ Ok dn → IsReadable dn)
    → list_all is_sound xs ≡ true → AllCarryKeys xs → AllByRecursion IsReadablePart suffix.rdn.avas → op_verdict (view_of suffix xs) controls bound op ≡ Writes target body → CarriesKeys body
op_carries suffix xs controls bound (AddEntry object given) target body law sound carried root h =
    let v : DirectoryView = view_of suffix xs in
    written_carries v target body law (op_added v controls bound object given target body h)
op_carries suffix xs controls bound (Modify object given) target body law sound carried root h =
    let v : DirectoryView = view_of suffix xs in
    from_changes (modify_verdict v controls bound object given) target body h (λ u m t.
    after_writes (all_writes v.suffix controls bound object) (modify_made v given) (u, body) m (λ rdns e light.
    modify_carries suffix xs given rdns (u, body) sound carried root e))
op_carries suffix xs controls bound (Delete object) target body law sound carried root h =
    let v : DirectoryView = view_of suffix xs in
    from_changes (delete_verdict v controls bound object) target body h (λ u m t.
    after_writes (all_writes v.suffix controls bound object) (delete_made v) (u, body) m (λ rdns e light.
    delete_carries v rdns (u, body) e))
op_carries suffix xs controls bound (Rename object new_rdn old superior) target body law sound carried root h =
    let v : DirectoryView = view_of suffix xs in
    from_changes (rename_verdict v controls bound object new_rdn old superior) target body h (λ u m t.
    after_writes (all_writes v.suffix controls bound object) (rename_made v new_rdn old superior) (u, body) m (λ rdns e light.
    rename_carries suffix xs new_rdn old superior rdns (u, body) law carried e))
op_carries suffix xs controls bound (Compare object name value) target body law sound carried root h = absurd (no_answer (compare_verdict (view_of suffix xs) controls object name value) target body h)
op_carries suffix xs controls bound _ target body law sound carried root h = let n : ⊥ = cc in absurd n

-- ---- A MODIFY IS WRITTEN WITH EACH ATTRIBUTE THAT IT NAMES

pub op_each : (v : DirectoryView) (controls : List Control) (bound : Identity) (object : List ℕ) (given : List RawMod) (target : Option Uid) (body : Body) → op_verdict v controls bound (Modify object given) ≡ Writes target body → (is_empty given ≡ false) × ModifiesEach given body
op_each v controls bound object given target body h =
    from_changes (modify_verdict v controls bound object given) target body h (λ u m t.
    after_writes (all_writes v.suffix controls bound object) (modify_made v given) (u, body) m (λ rdns e light.
    modify_each v given rdns (u, body) e))

-- what writes is judged
pub change_judged : (op : Op) → is_change op ≡ true → is_judged op ≡ true
change_judged (AddEntry object given) h = refl
change_judged (Modify object mods) h = refl
change_judged (Delete object) h = refl
change_judged (Rename object new_rdn delete_old new_superior) h = refl
change_judged _ h = let f : false ≡ true = h in cc
