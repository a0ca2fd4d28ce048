-- The requests of a stream, one by one: each is built, or the first that is not tells.
use Rattle.std.proofs.Common.{◌≡◌, ℕ, Bool, true, false, List, [], ◌∷◌, ◌++◌, length, drop, Ok, refl, sym, ap, subst, ◌∙◌}
use Rattle.std.specs.List.{list_all}
use Rattle.std.proofs.Math.Seq.{drop-append_seam}
use Rattle.std.proofs.lemmas.List.{drop-drop}
use Rattle.std.specs.Prelude.{◌&&◌, ◌+◌}
use Rattle.ldap_types.specs.declared.request.Request.{Request}
use Rattle.io_edge.specs.declared.machine.Fed.{Fed}
use Rattle.conn_core.specs.Stream.{first_request, is_unbind, EndsSo, IsStream}
use Rattle.conn_core.specs.Serving.{is_built}
use Rattle.conn_core.proofs.Cuts.{no_end, both_found}

-- the requests behind the first one
pub record Behind (bytes : List ℕ) (requests : List Request) (left : List ℕ) (fed : Fed) (r : Request) (size : ℕ) : Type 0 where
  pub others : List Request
  pub is : requests ≡ r ∷ others
  pub stream : IsStream (drop size bytes) others left fed

pub behind_one : (requests : List Request) (bytes left : List ℕ) (fed : Fed) (r : Request) (size : ℕ) → IsStream bytes requests left fed → first_request bytes ≡ Ok (r, size) → is_unbind r.op ≡ false → Behind bytes requests left fed r size
behind_one [] bytes left fed r size s e un = absurd (no_end bytes r size fed e un (subst (λ (x : List ℕ). EndsSo x fed) (sym s.begins) s.ends))
behind_one (q ∷ qs) bytes left fed r size s e un =
    let b = s.begins in
    let same = both_found q r (length b.0) size bytes b.3 e in
    let rest : drop size bytes ≡ b.1 = ap (λ (x : List ℕ). drop size x) b.2 ∙ ap (λ (n : ℕ). drop n (b.0 ++ b.1)) (sym same.1) ∙ drop-append_seam b.0 b.1 in
    record {
      others = qs;
      is = ap (λ (x : Request). x ∷ qs) same.0;
      stream = subst (λ (x : List ℕ). IsStream x qs left fed) (sym rest) (record { begins = b.5; ends = s.ends });
    }

-- none stands where a stream ends
pub none_at_end : (requests : List Request) (bytes left : List ℕ) (fed end : Fed) → IsStream bytes requests left fed → EndsSo bytes end → requests ≡ []
none_at_end [] bytes left fed end s h = refl
none_at_end (q ∷ qs) bytes left fed end s h = let b = s.begins in absurd (no_end bytes q (length b.0) end b.3 b.4 h)

-- ---- how far the stream was looked at

-- what is said of all requests is said of those from here on
abbrev pub AsFar : List ℕ → ℕ → Type 0
AsFar stream at = (requests : List Request) (left : List ℕ) (fed : Fed) → IsStream stream requests left fed → (others : List Request) × IsStream (drop at stream) others left fed × (list_all is_built requests ≡ list_all is_built others)

pub as_far_next : (stream : List ℕ) (at size : ℕ) (r : Request) → AsFar stream at → first_request (drop at stream) ≡ Ok (r, size) → is_unbind r.op ≡ false → is_built r ≡ true → AsFar stream (at + size)
as_far_next stream at size r far e un built requests left fed s =
    let k = far requests left fed s in
    let b = behind_one k.0 (drop at stream) left fed r size k.1 e un in (
      b.others,
      subst (λ (x : List ℕ). IsStream x b.others left fed) (drop-drop size at stream) b.stream,
      k.2 ∙ ap (λ (x : List Request). list_all is_built x) b.is ∙ ap (λ (x : Bool). x && list_all is_built b.others) built,
    )

-- one is not built
pub far_unbuilt : (stream : List ℕ) (at size : ℕ) (r : Request) → AsFar stream at → first_request (drop at stream) ≡ Ok (r, size) → is_unbind r.op ≡ false → is_built r ≡ false
    → (requests : List Request) (left : List ℕ) (fed : Fed) → IsStream stream requests left fed → false ≡ list_all is_built requests
far_unbuilt stream at size r far e un built requests left fed s =
    let k = far requests left fed s in
    let b = behind_one k.0 (drop at stream) left fed r size k.1 e un in
    sym (k.2 ∙ ap (λ (x : List Request). list_all is_built x) b.is ∙ ap (λ (x : Bool). x && list_all is_built b.others) built)

-- all were looked at
pub far_end : (stream : List ℕ) (at : ℕ) (end : Fed) → AsFar stream at → EndsSo (drop at stream) end
    → (requests : List Request) (left : List ℕ) (fed : Fed) → IsStream stream requests left fed → true ≡ list_all is_built requests
far_end stream at end far h requests left fed s =
    let k = far requests left fed s in
    sym (k.2 ∙ ap (λ (x : List Request). list_all is_built x) (none_at_end k.0 (drop at stream) left fed end k.1 h))
