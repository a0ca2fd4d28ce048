use Rattle.std.proofs.Common.{refl}
use Rattle.request_wait.proofs.Places.{waits, goes, enters, leaves}
use Rattle.request_wait.proofs.waiting.Waiting.step.Goals as goal

pub returns-in-Waits-clause-waits : goal.returns-in-Waits-clause-waits
returns-in-Waits-clause-waits c = λ e. waits c.args.self.now c.args.bytes.now c.requires c.in-Waits.ensures

pub returns-in-Goes-clause-keeps : goal.returns-in-Goes-clause-keeps
returns-in-Goes-clause-keeps c = goes c.args.self.now _ c.args.bytes.now refl c.in-Goes.ensures c.requires

pub returns-else-not-push-clause-keeps : goal.returns-else-not-push-clause-keeps
returns-else-not-push-clause-keeps c = enters c.args.self.now _ c.in-Enters.rest c.args.bytes.now c.if-not-push.ensures.pushed c.in-Enters.ensures c.requires

pub returns-in-Some-clause-keeps : goal.returns-in-Some-clause-keeps
returns-in-Some-clause-keeps c = leaves c.args.self.now _ c.args.bytes.now c.in-Some.ensures c.in-Leaves.ensures c.requires
