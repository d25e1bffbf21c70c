use Rattle.std.specs.Prelude.{codes}
use Rattle.wind_session.specs.Keeping.{around}
use Rattle.wind_session.proofs.ProgramLemmas.{out_of_memory}
use Rattle.trace_session.proofs.ProgramLemmas.{session_unmade}
use Rattle.trace_session.proofs.TracePromises.{trace_promised}
use Rattle.trace_session.proofs.program.trace_program.Goals as goal

-- memory ran out for the devices
pub returns-in_default-clause-ends : goal.returns-in_default-clause-ends
returns-in_default-clause-ends g c =
    out_of_memory (codes "windtrace") _ _ _ _ _ c.number.ensures (session_unmade _ (around g.F.Folder g.O.Sink c.args.folder.now c.args.out.now)) c.tell_no_memory.ensures.printed

pub returns-in_default-clause-promises : goal.returns-in_default-clause-promises
returns-in_default-clause-promises g c =
    trace_promised c.promise_law.ensures _ _ _ _ _ c.number.ensures (session_unmade _ (around g.F.Folder g.O.Sink c.args.folder.now c.args.out.now))

pub returns-clause-promises : goal.returns-clause-promises
returns-clause-promises g c = trace_promised c.promise_law.ensures _ _ _ _ _ c.number-2.ensures c.trace_on.ensures.session
