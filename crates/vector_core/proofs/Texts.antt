-- The texts of entries are read back.
use Rattle.std.proofs.Common.{rules, IsSome, ◌≡◌, ℕ, ◌+◌, ◌-◌, ◌<◌, ◌≤◌, false, inl, inr, List, [], ◌∷◌, ◌++◌, map, refl, sym, ap, subst, ◌∙◌, arith, get_or, length, take, drop, Some, length-append, filter, ◌==◌, eqb-true, eq-eqb}
use Rattle.std.specs.List.{All}
use Rattle.std.proofs.lemmas.Bool.{cases_lt}
use Rattle.std.proofs.Math.Seq.{drop-append_seam}
use Rattle.std.proofs.lemmas.List.{get_or-map, length-map, map-append, take_more, get_or-take, length-take-le, take_all}
use Rattle.std.proofs.lemmas.List.Elements.{All-nil, All-push, All-get_or}
use Rattle.std.proofs.Math.ListN.{get_or-append}
use Rattle.std.proofs.Math.Seq.{get_or-append_seam}
use Rattle.repl_data.specs.declared.csn.Csn.{Csn}
use Rattle.repl_data.specs.Order.{csn_lt, zero_csn}
use Rattle.repl_data.specs.Text.{IsInRange, csn_text, read_csn}
use Rattle.repl_data.proofs.Bytes.{read_csn-csn_text, read_csn-exact}
use Rattle.vector_core.specs.Vector.{entry_of, HasEntries}
use Rattle.vector_core.specs.Text.{replica_text, entry_text, IsEntry, IsVectorText}
use Rattle.repl_data.proofs.CsnTests.{csn_lt-connected, csn_lt-zero}
use Rattle.vector_core.proofs.Lists.{Contains-filter, filter-Contains}
use Rattle.vector_core.proofs.Entries.{At-Contains, Contains-At}
use Rattle.vector_core.proofs.Greatests.{greatest-above, greatest-among}

pub length-csn_text : (c : Csn) → IsInRange c → length (csn_text c) ≡ 20
length-csn_text c p = let some : IsSome (read_csn (csn_text c)) = subst (λ r. IsSome r) (sym (read_csn-csn_text c p)) (search rules) in ((read_csn-exact (csn_text c)).0 some).0

-- the last twenty bytes are those of the CSN
pub last-entry_text : (c : Csn) → IsInRange c → drop (length (entry_text c) - 20) (entry_text c) ≡ csn_text c
last-entry_text c p =
    let n : length (entry_text c) ≡ length (replica_text c.rid) + length (csn_text c) = length-append (replica_text c.rid) (csn_text c) in
    let m : length (csn_text c) ≡ 20 = length-csn_text c p in
    let e : length (entry_text c) - 20 ≡ length (replica_text c.rid) = omega arith in
    ap (λ k. drop k (entry_text c)) e ∙ drop-append_seam (replica_text c.rid) (csn_text c)

pub long-entry_text : (c : Csn) → IsInRange c → 20 ≤ length (entry_text c)
long-entry_text c p =
    let n : length (entry_text c) ≡ length (replica_text c.rid) + length (csn_text c) = length-append (replica_text c.rid) (csn_text c) in
    let m : length (csn_text c) ≡ 20 = length-csn_text c p in
    omega arith

pub entry_text-exact : (c d : Csn) → IsInRange c → IsInRange d → entry_text c ≡ entry_text d → c ≡ d
entry_text-exact c d p q e =
    let last = sym (last-entry_text c p) ∙ ap (λ (t : List ℕ). drop (length t - 20) t) e ∙ last-entry_text d q in
    let s : Some c ≡ Some d = sym (read_csn-csn_text c p) ∙ ap read_csn last ∙ read_csn-csn_text d q in
    cc

-- what stands at a place of the texts
text_at : (texts : List (List ℕ)) (csns : List Csn) (k : ℕ) (d : List ℕ) → texts ≡ map entry_text csns → k < length csns → get_or texts k d ≡ entry_text (get_or csns k zero_csn)
text_at texts csns k d e h = ap (λ t. get_or t k d) e ∙ get_or-map entry_text csns k zero_csn d h

pub none_where_bad : (texts : List (List ℕ)) (k : ℕ) (item : List ℕ) → k < length texts → item ≡ get_or texts k item
    → ((c : Csn) → IsEntry c → item ≡ entry_text c → ⊥) → (csns : List Csn) → IsVectorText texts csns → ⊥
none_where_bad texts k item h at bad csns is =
    let n : length texts ≡ length csns = ap length is.spelled ∙ length-map csns entry_text in
    let l : k < length csns = omega arith in
    bad (get_or csns k zero_csn) (All-get_or IsEntry csns k zero_csn l is.entries) (at ∙ text_at texts csns k item is.spelled l)

-- an entry that is not zero is one of the CSNs
entry_stands : (csns : List Csn) (o : ℕ) → (entry_of csns o ≡ zero_csn → ⊥) → (k : ℕ) × (k < length csns) × ((get_or csns k zero_csn).rid ≡ o)
entry_stands csns o h =
    elim (greatest-among (filter (λ (c : Csn). c.rid == o) csns)) [
      | inl e ↦ absurd (h e)
      | inr q ↦
          (let f = Contains-filter (λ (c : Csn). c.rid == o) csns (entry_of csns o) q in
          let at = Contains-At csns (entry_of csns o) f.0 in
          (at.0, at.1, ap (λ (z : Csn). z.rid) at.2 ∙ eqb-true (entry_of csns o).rid o f.1))
    ]

zero_above : (csns : List Csn) (o k : ℕ) → All IsEntry csns → entry_of csns o ≡ zero_csn → k < length csns → (get_or csns k zero_csn).rid ≡ o → ⊥
zero_above csns o k is z l e =
    let x = get_or csns k zero_csn in
    let top = greatest-above (filter (λ (c : Csn). c.rid == o) csns) x (filter-Contains (λ (c : Csn). c.rid == o) csns x (At-Contains csns x (k, l, refl)) (eq-eqb x.rid o e)) in
    let low : csn_lt zero_csn x ≡ false = subst (λ y. csn_lt y x ≡ false) z top in
    let same : zero_csn ≡ x = csn_lt-connected zero_csn x low (csn_lt-zero x) in
    let r : 0 ≡ x.rid = ap (λ (y : Csn). y.rid) same in
    let p : 0 < x.rid = (All-get_or IsEntry csns k zero_csn l is).from_1 in
    absurd (omega arith)

pub none_where_double : (texts : List (List ℕ)) (k : ℕ) (item : List ℕ) (c : Csn) (vector done : List Csn) → k < length texts → item ≡ get_or texts k item
    → IsEntry c → item ≡ entry_text c → IsVectorText (take k texts) done → HasEntries vector done → (entry_of vector c.rid ≡ zero_csn → ⊥)
    → (csns : List Csn) → IsVectorText texts csns → ⊥
none_where_double texts k item c vector done h at ok text before same ne csns is =
    let n : length texts ≡ length csns = ap length is.spelled ∙ length-map csns entry_text in
    let l : k < length csns = omega arith in
    let here : get_or csns k zero_csn ≡ c =
    entry_text-exact (get_or csns k zero_csn) c (All-get_or IsEntry csns k zero_csn l is.entries).in_range ok.in_range
    (sym (text_at texts csns k item is.spelled l) ∙ sym at ∙ text) in
    let s = entry_stands done c.rid (λ z. ne (same c.rid ∙ z)) in
    let ln : length (take k texts) ≡ length done = ap length before.spelled ∙ length-map done entry_text in
    let lt : length (take k texts) ≡ k = length-take-le k texts (omega arith) in
    let li : s.0 < length done = s.1 in
    let lk : s.0 < k = omega arith in
    let there : get_or csns s.0 zero_csn ≡ get_or done s.0 zero_csn =
    entry_text-exact (get_or csns s.0 zero_csn) (get_or done s.0 zero_csn) (All-get_or IsEntry csns s.0 zero_csn (omega arith) is.entries).in_range (All-get_or IsEntry done s.0 zero_csn li before.entries).in_range
    (sym (text_at texts csns s.0 item is.spelled (omega arith)) ∙ sym (get_or-take k texts s.0 item lk) ∙ text_at (take k texts) done s.0 item before.spelled li) in
    is.distinct s.0 k lk l (ap (λ (z : Csn). z.rid) there ∙ s.2 ∙ ap (λ (z : Csn). z.rid) (sym here))

pub IsVectorText-none : (texts : List (List ℕ)) → IsVectorText (take 0 texts) []
IsVectorText-none texts = record { spelled = refl; entries = All-nil IsEntry; distinct = λ i j m h. absurd (omega arith) }

pub IsVectorText-more : (texts : List (List ℕ)) (k : ℕ) (item : List ℕ) (c : Csn) (vector done : List Csn) → k < length texts → item ≡ get_or texts k item
    → IsEntry c → item ≡ entry_text c → IsVectorText (take k texts) done → HasEntries vector done → entry_of vector c.rid ≡ zero_csn
    → IsVectorText (take (k + 1) texts) (done ++ c ∷ [])
IsVectorText-more texts k item c vector done h at ok text before same z = record {
  spelled = take_more texts k item h ∙ ap (λ (t : List (List ℕ)). t ++ get_or texts k item ∷ []) before.spelled ∙ ap (λ (t : List ℕ). map entry_text done ++ t ∷ []) (sym at ∙ text) ∙ sym (map-append entry_text done (c ∷ []));
  entries = All-push IsEntry done c before.entries ok;
  distinct = λ i j m l.
      let n : length (done ++ c ∷ []) ≡ length done + 1 = length-append done (c ∷ []) in
      elim (cases_lt j (length done)) [
        | inl a ↦ λ e. before.distinct i j m a (ap (λ (x : Csn). x.rid) (sym (get_or-append done (c ∷ []) zero_csn i (omega arith))) ∙ e ∙ ap (λ (x : Csn). x.rid) (get_or-append done (c ∷ []) zero_csn j a))
        | inr a ↦ λ e.
            (let at_end : j ≡ length done = omega arith in
            let last : get_or (done ++ c ∷ []) j zero_csn ≡ c = ap (λ n. get_or (done ++ c ∷ []) n zero_csn) at_end ∙ get_or-append_seam done c [] zero_csn in
            zero_above done c.rid i before.entries (sym (same c.rid) ∙ z) (omega arith)
            (ap (λ (x : Csn). x.rid) (sym (get_or-append done (c ∷ []) zero_csn i (omega arith))) ∙ e ∙ ap (λ (x : Csn). x.rid) last))
      ];
}

-- the last twenty bytes, as a slice has them
pub last_slice : (c : Csn) → IsInRange c → (text : List ℕ) → text ≡ entry_text c → take (length text - (length text - 20)) (drop (length text - 20) text) ≡ csn_text c
last_slice c p text e =
    let last : drop (length text - 20) text ≡ csn_text c = ap (λ (t : List ℕ). drop (length t - 20) t) e ∙ last-entry_text c p in
    let n : length (drop (length text - 20) text) ≡ 20 = ap length last ∙ length-csn_text c p in
    let l : 20 ≤ length text = subst (λ (t : List ℕ). 20 ≤ length t) (sym e) (long-entry_text c p) in
    take_all (length text - (length text - 20)) (drop (length text - 20) text) (omega arith) ∙ last
