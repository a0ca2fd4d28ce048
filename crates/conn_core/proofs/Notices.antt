-- The bytes of the notice of disconnection.
use Rattle.std.proofs.Common.{◌≡◌, ℕ, List, Some, None, Result, Ok, Err, IfOk, ap, ◌∙◌}
use Rattle.repl_data.specs.declared.items.NoMemory.{NoMemory}
use Rattle.ldap_types.specs.declared.reply.LdapResult.{LdapResult}
use Rattle.ldap_types.specs.declared.reply.ReplyOp.TheVariants as reply
use Rattle.ldap_replies.specs.Form.{reply_bytes}
use Rattle.ldap_rules.specs.Case.{result_of}
use Rattle.conn_core.specs.Serving.{notice, notice_name}

extended : LdapResult → List ℕ → List ℕ
extended told name = reply_bytes (record { id = 0; op = reply.Extended told (Some name) None })

pub notice_by : (r : Result (List ℕ) NoMemory) (told : LdapResult) (name : List ℕ) → told ≡ result_of 2 → name ≡ notice_name
    → IfOk r (λ bytes. bytes ≡ reply_bytes (record { id = 0; op = reply.Extended told (Some name) None })) → IfOk r (λ bytes. bytes ≡ notice)
unfolding notice extended
notice_by (Ok bytes) told name e f h = h ∙ ap (λ (x : LdapResult). extended x name) e ∙ ap (λ (x : List ℕ). extended (result_of 2) x) f
notice_by (Err short) told name e f h = tt
