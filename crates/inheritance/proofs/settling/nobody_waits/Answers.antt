use Rattle.std.proofs.Common.{arith}
use Rattle.inheritance.proofs.Nobody.{no_owner, nobody_holds}
use Rattle.inheritance.proofs.settling.nobody_waits.Goals as goal

pub note_none_holds-requires : goal.note_none_holds-requires
note_none_holds-requires c = no_owner c.args.k.now.tasks (omega arith)

pub returns-clause-nobody : goal.returns-clause-nobody
returns-clause-nobody c e = nobody_holds c.args.k.now.tasks (no_owner c.args.k.now.tasks (omega arith))
