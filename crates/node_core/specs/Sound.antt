-- What a node keeps through all its steps, whatever updates it is given.
use Rattle.std.specs.Prelude.{◌≡◌, ℕ, ◌+◌, ◌*◌, ◌<◌, ◌≤◌, ◌≢◌, true, List, Contains, Option, None}
use Rattle.repl_data.specs.declared.csn.Csn.{Csn}
use Rattle.repl_data.specs.declared.change.Change.{Change}
use Rattle.repl_data.specs.declared.csn.Uid.{Uid}
use Rattle.repl_data.specs.declared.change.Body.{Body}
use Rattle.repl_data.specs.Order.{csn_lt, number_of}
use Rattle.repl_data.specs.Check.{fault_of}
use Rattle.repl_data.specs.declared.change.Suffix.{Suffix}
use Rattle.repl_data.specs.Closed.{is_known, needed, IsClosed}
use Rattle.ldap_types.specs.declared.request.Request.{Request}
use Rattle.ldap_types.specs.declared.reply.Identity.{Identity}
use Rattle.ldap_rules.specs.Verdict.{Writes}
use Rattle.pending_core.specs.declared.generator.Generator.{Generator}
use Rattle.node_core.specs.Node.{Node, front}
use Rattle.ldap_rules.specs.Laws.{target_at, change_at}
use Rattle.node_core.specs.Steps.{Judge, moment_of}

-- the CSN of a change: each part within 16 bits, and subsequence 0
pub record IsPlain (c : Csn) : Type 0 where
  pub seq_fits : c.seq < 65536
  pub rid_fits : c.rid < 65536
  pub no_part : c.sub ≡ 0

-- a time and a sequence number as one number
abbrev pub number_at : Generator → ℕ
number_at m = m.time * 65536 + m.seq

-- a CSN is at or below the generator
abbrev pub IsReached : Generator → Csn → Type 0
IsReached last c = number_at (moment_of c) ≤ number_at last

-- The generator is at or above each taken and each pending CSN. Each pending CSN is the node's own. Each CSN is taken once.
pub record IsSoundNode (n : Node) : Type 0 where
  pub rid_above : 0 < n.rid
  pub rid_fits : n.rid < 65535
  pub last_fits : n.last.seq < 65536
  pub taken_plain : (c : Change) → Contains n.taken c → IsPlain c.csn
  pub taken_named : (c : Change) → Contains n.taken c → 0 < c.csn.rid
  pub taken_reached : (c : Change) → Contains n.taken c → IsReached n.last c.csn
  pub pending_plain : (p : Csn) → Contains n.pending p → IsPlain p
  pub pending_own : (p : Csn) → Contains n.pending p → p.rid ≡ n.rid
  pub pending_reached : (p : Csn) → Contains n.pending p → IsReached n.last p
  pub once : (c d : Change) → Contains n.taken c → Contains n.taken d → number_of c.csn ≡ number_of d.csn → c ≡ d

-- Over time nothing taken is lost, the own entry of the vector never falls, and nothing at or below it is committed later.
pub record GoesOn (old new : Node) : Type 0 where
  pub same_rid : new.rid ≡ old.rid
  pub same_suffix : new.suffix ≡ old.suffix
  pub kept : (c : Change) → Contains old.taken c → Contains new.taken c
  pub front_rises : number_of (front old old.rid) ≤ number_of (front new old.rid)
  pub closed_below : (c : Change) → Contains new.taken c → c.csn.rid ≡ old.rid → number_of c.csn ≤ number_of (front old old.rid) → Contains old.taken c

-- of a node's own changes the greatest that has none pending at or below it, and zero where there is none
pub data IsOwnEntry (n : Node) (entry : Csn) : Type 0 where
  none_free :
      number_of entry ≡ 0 →
      ((c : Change) → Contains n.taken c → c.csn.rid ≡ n.rid → (p : Csn) × Contains n.pending p × (number_of p ≤ number_of c.csn)) →
      IsOwnEntry n entry
  greatest_free :
      (c : Change) → Contains n.taken c → c.csn.rid ≡ n.rid → c.csn ≡ entry →
      ((p : Csn) → Contains n.pending p → number_of entry < number_of p) →
      ((d : Change) → Contains n.taken d → d.csn.rid ≡ n.rid → number_of entry < number_of d.csn → (p : Csn) × Contains n.pending p × (number_of p ≤ number_of d.csn)) →
      IsOwnEntry n entry

-- the CSN of a ticket that may be committed: it is pending, and not taken
pub record IsOpen (n : Node) (csn : Csn) : Type 0 where
  pub is_pending : Contains n.pending csn
  pub not_taken : (c : Change) → Contains n.taken c → number_of c.csn ≢ number_of csn

-- what a verdict has to be: what it needs does not depend on the CSN and is known, and its change passes the check at each CSN
-- above that
pub record IsSoundWrite (taken : List Change) (target : Option Uid) (body : Body) : Type 0 where
  pub one_need : (a b : Csn) → needed (target_at a target) body ≡ needed (target_at b target) body
  pub known : (a : Csn) → is_known taken (needed (target_at a target) body) ≡ true
  pub passes : (a : Csn) → IsPlain a → 0 < a.rid → a.rid < 65535 → csn_lt (needed (target_at a target) body).csn a ≡ true → fault_of (change_at a target body) ≡ None

-- a refusal table that gives such verdicts alone
abbrev pub IsSoundJudge : Judge → Type 0
IsSoundJudge judge =
    (suffix : Suffix) → (taken : List Change) → IsClosed taken → (request : Request) → (bound : Identity) → (target : Option Uid) → (body : Body) →
    judge suffix taken request bound ≡ Writes target body → IsSoundWrite taken target body
