use Rattle.std.proofs.Common.{Bor, List, Option, map, refl, sym, subst, ℕ, codes}
use Rattle.wind_session.specs.Command.{CommandState, command_of}
use Rattle.wind_session.specs.Headline.{IsComplete}
use Rattle.wind_session.specs.Keeping.{around}
use Rattle.wind_session.specs.Plan.{Refuse}
use Rattle.wind_session.specs.Texts.{memory_text}
use Rattle.wind_session.specs.declared.ending.Status.TheVariants as status
use Rattle.wind_session.proofs.FailureLemmas.{unfetched}
use Rattle.wind_session.proofs.FetchLemmas.{inputs_unread}
use Rattle.wind_session.proofs.PlanLemmas.{some_plan}
use Rattle.wind_session.proofs.AppendingLemmas.{memory_is_text}
use Rattle.wind_session.proofs.playing.play.Goals as goal

-- the arguments are invalid
pub returns-in-Err-Usage-clause-machine : goal.returns-in-Err-Usage-clause-machine
returns-in-Err-Usage-clause-machine g c =
    rw c.refused.ensures (rw (c.in-Err-Usage.ensures.usage (λ e. cc)) (record { plan = Refuse status.Usage; planned = refl; leaves = (refl, record { bytes = refl; pieces = refl; refusal = refl; fetches = refl }) }))

-- memory ran out before it is known what the arguments ask for
pub returns-in-Err-NoMemory-clause-machine : goal.returns-in-Err-NoMemory-clause-machine
returns-in-Err-NoMemory-clause-machine g c =
    let some = some_plan (g.F.Folder.files c.args.folder.now) (command_of (map {A = Bor (List ℕ)} {B = List ℕ} (λ w. w.now) c.args.words.now)) in
    rw c.refused-in-Err-NoMemory.ensures (record { plan = some.0; planned = some.1; leaves = (refl, record { bytes = refl; pieces = refl; refusal = tt; fetches = inputs_unread _ _ }) })

pub returns-in-Err-NoMemory-clause-err : goal.returns-in-Err-NoMemory-clause-err
returns-in-Err-NoMemory-clause-err g c =
    rw c.refused-in-Err-NoMemory.ensures (record { text = memory_text (codes "windplay"); text_is = memory_is_text (codes "windplay") _; printed = c.tell_no_memory.ensures.printed })

-- playing is complete if the session of the command is
pub returns-clause-complete : goal.returns-clause-complete
returns-clause-complete g c =
    subst (λ (o : Option CommandState). IsComplete c.session-ending.result.status o
    (around g.F.Folder g.O.Sink c.args.folder.now c.args.out.now) (around g.F.Folder g.O.Sink c.session-ending.new.folder c.session-ending.new.out))
    (sym c.in-Ok.ensures.value) c.session-ending.ensures.complete

-- nothing was fetched
pub returns-in-Err-Usage-clause-fails_last : goal.returns-in-Err-Usage-clause-fails_last
returns-in-Err-Usage-clause-fails_last g c = rw c.refused.ensures (unfetched status.Usage _ _ (λ e. cc) refl)

pub returns-in-Err-NoMemory-clause-fails_last : goal.returns-in-Err-NoMemory-clause-fails_last
returns-in-Err-NoMemory-clause-fails_last g c = rw c.refused-in-Err-NoMemory.ensures (unfetched status.NoMemory _ _ (λ e. cc) refl)

-- ---- the message
pub returns-in-Err-Usage-clause-err : goal.returns-in-Err-Usage-clause-err
returns-in-Err-Usage-clause-err g c =
    rw c.refused.ensures (rw (c.in-Err-Usage.ensures.usage (λ e. cc)) (record { text = _; text_is = tt; printed = c.tell_usage.ensures.printed }))

pub returns-clause-err : goal.returns-clause-err
returns-clause-err g c = rw c.in-Ok.ensures.value (record { text = _; text_is = refl; printed = c.tell.ensures.printed })
