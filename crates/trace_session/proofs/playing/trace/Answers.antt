use Rattle.std.proofs.Common.{Bor, List, Option, map, refl, sym, subst, ℕ}
use Rattle.std.specs.Prelude.{codes}
use Rattle.wind_session.specs.Headline.{IsComplete}
use Rattle.wind_session.specs.Keeping.{around}
use Rattle.wind_session.specs.Plan.{Refuse}
use Rattle.wind_session.specs.declared.ending.Status.TheVariants as status
use Rattle.wind_session.specs.Texts.{memory_text}
use Rattle.wind_session.proofs.AppendingLemmas.{memory_is_text}
use Rattle.wind_session.proofs.FetchLemmas.{inputs_unread}
use Rattle.wind_session.proofs.PlanLemmas.{some_plan}
use Rattle.trace_session.specs.Command.{TraceState, command_of, session_of}
use Rattle.trace_session.proofs.playing.trace.Goals as goal

-- the arguments are invalid
pub returns-in-Err-Usage-clause-machine : goal.returns-in-Err-Usage-clause-machine
returns-in-Err-Usage-clause-machine g c =
    rw c.refusal.ensures (rw (c.in-Err-Usage.ensures.usage (λ e. cc)) (record { plan = Refuse status.Usage; planned = refl; leaves = (refl, record { bytes = refl; pieces = refl; refusal = refl; fetches = refl }) }))

-- memory ran out before it is known what the arguments ask for
pub returns-in-Err-NoMemory-clause-machine : goal.returns-in-Err-NoMemory-clause-machine
returns-in-Err-NoMemory-clause-machine g c =
    let some = some_plan (g.F.Folder.files c.args.folder.now) (session_of (command_of (map {A = Bor (List ℕ)} {B = List ℕ} (λ w. w.now) c.args.words.now))) in
    rw c.refusal-in-Err-NoMemory.ensures (record { plan = some.0; planned = some.1; leaves = (refl, record { bytes = refl; pieces = refl; refusal = tt; fetches = inputs_unread _ _ }) })

-- playing is complete if the session of the command is
pub returns-clause-complete : goal.returns-clause-complete
returns-clause-complete g c =
    subst (λ (o : Option TraceState). IsComplete c.session-ending.result.status (session_of o)
    (around g.F.Folder g.O.Sink c.args.folder.now c.args.out.now) (around g.F.Folder g.O.Sink c.session-ending.new.folder c.session-ending.new.out))
    (sym c.in-Ok.ensures.value) c.session-ending.ensures.complete

-- ---- the message
pub returns-in-Err-Usage-clause-err : goal.returns-in-Err-Usage-clause-err
returns-in-Err-Usage-clause-err g c =
    rw c.refusal.ensures (rw (c.in-Err-Usage.ensures.usage (λ e. cc)) (record { text = _; text_is = tt; printed = c.tell_usage.ensures.printed }))

pub returns-in-Err-NoMemory-clause-err : goal.returns-in-Err-NoMemory-clause-err
returns-in-Err-NoMemory-clause-err g c =
    rw c.refusal-in-Err-NoMemory.ensures (record { text = memory_text (codes "windtrace"); text_is = memory_is_text (codes "windtrace") _; printed = c.tell_no_memory.ensures.printed })

pub returns-clause-err : goal.returns-clause-err
returns-clause-err g c = rw c.in-Ok.ensures.value (record { text = _; text_is = refl; printed = c.tell.ensures.printed })
