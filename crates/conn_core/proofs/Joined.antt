-- Replies that join those that wait.
use Rattle.std.proofs.Common.{◌≡◌, ℕ, List, [], ◌∷◌, ◌++◌, map, Option, Some, refl, sym, ap, subst, ◌∙◌, append_assoc, append-nil}
use Rattle.repl_data.proofs.Loops.{map_append}
use Rattle.ldap_types.specs.declared.reply.ReplyOp.{ReplyOp}
use Rattle.conn_core.specs.declared.conn.Conn.{Conn}
use Rattle.conn_core.specs.Serving.{sent}
use Rattle.conn_core.specs.Feeding.{JoinsPart}

-- one after the other
pub join_more : (old between new : Conn) (some more : List (List ℕ)) → between ≡ record old { replies = old.replies ++ some } → new ≡ record between { replies = between.replies ++ more } → new ≡ record old { replies = old.replies ++ (some ++ more) }
join_more old between new some more one two =
    two ∙ ap (λ (x : Conn). record x { replies = x.replies ++ more }) one ∙ ap (λ (x : List (List ℕ)). record old { replies = x }) (append_assoc old.replies some more)

pub join_none : (old new : Conn) (some more : List (List ℕ)) → more ≡ [] → new ≡ record old { replies = old.replies ++ some } → new ≡ record old { replies = old.replies ++ (some ++ more) }
join_none old new some more none one = one ∙ ap (λ (x : List (List ℕ)). record old { replies = old.replies ++ x }) (sym (ap (λ (x : List (List ℕ)). some ++ x) none ∙ append-nil some))

-- and then the response, where there is one
pub join_response : (old between new : Conn) (some : List (List ℕ)) (id : ℕ) (response : Option ReplyOp) (op : ReplyOp) → response ≡ Some op → between ≡ record old { replies = old.replies ++ some } → new ≡ record between { replies = between.replies ++ sent id (Some op) } → new ≡ record old { replies = old.replies ++ (some ++ sent id response) }
join_response old between new some id response op is one two = subst (λ (x : Option ReplyOp). new ≡ record old { replies = old.replies ++ (some ++ sent id x) }) (sym is) (join_more old between new some (sent id (Some op)) one two)

-- a part of them, and none of those behind it
pub part_more : (all rest : List (List ℕ)) (old new : Conn) → JoinsPart all old new → JoinsPart (all ++ rest) old new
part_more all rest old new p = record {
  added = p.added;
  missing = p.missing ++ rest;
  all = ap (λ (x : List (List ℕ)). x ++ rest) p.all ∙ append_assoc p.added p.missing rest;
  state = p.state;
}

-- the first ones, and then none
pub part_first : (first rest : List (List ℕ)) (old between new : Conn) → between ≡ record old { replies = old.replies ++ first } → new ≡ between → JoinsPart (first ++ rest) old new
part_first first rest old between new one two = record { added = first; missing = rest; all = refl; state = two ∙ one }

-- ---- one for each of some items, in their order

module _ {X : Type 0} (f : X → List ℕ) where
  pub one_joined : (old between new : Conn) (xs : List X) (x : X) → between ≡ record old { replies = old.replies ++ map f xs } → new ≡ record between { replies = between.replies ++ f x ∷ [] } → new ≡ record old { replies = old.replies ++ map f (xs ++ x ∷ []) }
  one_joined old between new xs x one two =
      join_more old between new (map f xs) (f x ∷ []) one two ∙ ap (λ (rs : List (List ℕ)). record old { replies = old.replies ++ rs }) (sym (map_append f xs (x ∷ [])))

  -- the first ones, and then none
  pub some_joined : (old between new : Conn) (all some others : List X) → some ++ others ≡ all → between ≡ record old { replies = old.replies ++ map f some } → new ≡ between → JoinsPart (map f all) old new
  some_joined old between new all some others is one two = record {
    added = map f some;
    missing = map f others;
    all = ap (λ (xs : List X). map f xs) (sym is) ∙ map_append f some others;
    state = two ∙ one;
  }

  pub all_joined : (old new : Conn) (all some others : List X) → others ≡ [] → some ++ others ≡ all → new ≡ record old { replies = old.replies ++ map f some } → new ≡ record old { replies = old.replies ++ map f all }
  all_joined old new all some others none is one =
      one ∙ ap (λ (xs : List X). record old { replies = old.replies ++ map f xs }) (sym (append-nil some) ∙ ap (λ (xs : List X). some ++ xs) (sym none) ∙ is)

pub nothing_joined : (old : Conn) → old ≡ record old { replies = old.replies ++ [] }
nothing_joined old = ap (λ (rs : List (List ℕ)). record old { replies = rs }) (sym (append-nil old.replies))
