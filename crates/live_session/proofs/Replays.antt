-- The run of a record up to a limit with which it ends as the session did.
use Rattle.std.proofs.Common.{◌≡◌, ℕ, ◌+◌, ◌≤◌, Bool, true, false, cond, List, refl, subst, arith}
use Rattle.std.specs.Prelude.{nat_lt}
use Rattle.std.proofs.lemmas.Bool.Decides.{nat_tests}
use Rattle.wind_base.specs.Limits.{most_steps}
use Rattle.tick_file.specs.Schedule.{timetable_of}
use Rattle.wind_machine.specs.State.{State}
use Rattle.wind_machine.specs.Machine.{IsOver}
use Rattle.wind_machine.specs.Extending.{Setup, booted}
use Rattle.wind_session.specs.Modules.{Shelf}
use Rattle.wind_session.specs.Outside.{Outside}
use Rattle.wind_session.specs.Runs.{Ran}
use Rattle.wind_session.specs.declared.run.RunEnd.{RunEnd}
use Rattle.wind_session.specs.declared.run.RunEnd.TheVariants as ends
use Rattle.live_session.proofs.Limits.{under_limit}
use Rattle.live_session.specs.Ending.{IsAfterRun, IsGoing, is_quiet}
use Rattle.live_session.specs.Saving.{replay_limit}

-- a run that is over is quiet with one step more
quiet_with_more : (shelf : Shelf) (start board : State) (old now : Outside) → Ran ends.Limit shelf start board.steps board old now → IsOver board → Ran ends.Quiet shelf start (board.steps + 1) board old now
quiet_with_more shelf start board old now ran over =
    let at : ran.k ≡ board.steps = ran.made.ended in
    under_limit ends.Limit ends.Quiet shelf start board board.steps (board.steps + 1) old now ran (omega (arith, at))
    (omega (arith, at), subst (λ (s : State). IsOver s) ran.made.state over) ran.made.fetches.last_is ran.written

-- a run at some limit that can go on
abbrev pub IsReplay : Shelf → State → ℕ → State → Outside → Outside → Type 0
IsReplay shelf start limit board old now = (end : RunEnd) × IsGoing end × Ran end shelf start limit board old now

one_more : (more : Bool) (shelf : Shelf) (start board : State) (old now : Outside) → Ran ends.Limit shelf start board.steps board old now → IsOver board → IsReplay shelf start (cond more (board.steps + 1) board.steps) board old now
one_more true shelf start board old now ran over = (ends.Quiet, tt, quiet_with_more shelf start board old now ran over)
one_more false shelf start board old now ran over = (ends.Limit, tt, ran)

pub replayed : (end : RunEnd) (shelf : Shelf) (setup : Setup) (console ticks : List ℕ) (board : State) (old now : Outside)
    → IsGoing end → IsAfterRun end shelf setup console ticks board old now → (end ≡ ends.Quiet → IsOver board)
    → IsReplay shelf (booted setup console (timetable_of ticks)) (replay_limit board.steps (is_quiet end)) board old now
replayed ends.Quiet shelf setup console ticks board old now going live over =
    one_more (nat_lt board.steps most_steps) shelf (booted setup console (timetable_of ticks)) board old now live.ran (over refl)
replayed ends.Limit shelf setup console ticks board old now going live over = (ends.Limit, tt, live.ran)
replayed ends.ReadFault shelf setup console ticks board old now going live over = absurd going
replayed ends.WriteFault shelf setup console ticks board old now going live over = absurd going
replayed ends.NoMemory shelf setup console ticks board old now going live over = absurd going

-- ---- the limit
pub limit_within : (steps : ℕ) (over : Bool) → steps ≤ most_steps → replay_limit steps over ≤ most_steps
limit_within steps true few = grind (arith, nat_tests)
limit_within steps false few = few

pub limit_reached : (steps : ℕ) (over : Bool) → steps ≤ replay_limit steps over
limit_reached steps true = grind (arith, nat_tests)
limit_reached steps false = omega arith
