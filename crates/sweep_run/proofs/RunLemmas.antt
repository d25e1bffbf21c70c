-- The run of a board whose module files are kept is that of the machine.
use Rattle.std.proofs.Common.{◌≡◌, ℕ, zero, suc, ◌+◌, ◌-◌, ◌<◌, ◌++◌, List, [], Option, Some, None, IsSome, refl, sym, ap, ◌∙◌, subst, arith}
use Rattle.std.specs.Prelude.{IfErr, IfOk, Result, unwrap_or}
use Rattle.std.specs.Option.{option_map}
use Rattle.wind_base.specs.declared.board_kind.BoardKind.{BoardKind}
use Rattle.wind_base.specs.declared.profile.Profile.{Profile}
use Rattle.wind_outside.specs.Devices.{DeviceState}
use Rattle.tick_file.specs.Schedule.{Timetable}
use Rattle.kept_files.specs.Kept.{Kept}
use Rattle.wind_session.specs.declared.ending.Status.{Status}
use Rattle.wind_session.specs.WindMachineState.{State}
use Rattle.wind_session.specs.WindMachineMachine.{IsOver, machine_step, opening, settled_state, state_after}
use Rattle.again.specs.Libraries.{Library, Reaches, at, said_in, text_in}
use Rattle.wind_session.specs.Runs.{IsHalt}
use Rattle.wind_session.specs.declared.run.RunEnd.{RunEnd}
use Rattle.wind_session.specs.declared.run.RunEnd.TheVariants as ends
use Rattle.again.specs.Reaching.{GoesBy, IsAt}
use Rattle.sweep_run.specs.declared.finish.Finish.TheVariants.{NoStepLeft, LimitReached}
use Rattle.sweep_run.specs.Fetches.{IsGivenUp}
use Rattle.sweep_run.specs.Runs.{Ended, StartState, finish_of, opening_of, run_on, unless_step}
use Rattle.sweep_run.specs.Outcomes.{IsOutcome}
use Rattle.sweep_run.specs.Reached.{IsOutcomeFrom, IsRunFrom}

step_made : (over : Ended) (go : State → Ended) (s : State) (o : Option State) → IsSome o → unless_step over go o ≡ go (unwrap_or o s)
step_made over go s None some = absurd (cc)
step_made over go s (Some t) some = refl

one_step : (library : Library) (n : ℕ) (s : State) (written : List ℕ) → IsSome (machine_step (said_in library s) s)
    → run_on library (suc n) s written ≡ run_on library n (unwrap_or (machine_step (said_in library s) s) s) (written ++ (unwrap_or (machine_step (said_in library s) s) s).world.output)
unfolding run_on
one_step library n s written some =
    step_made (record { finish = NoStepLeft; state = s; written = written }) (λ t. run_on library n t (written ++ t.world.output)) s (machine_step (said_in library s) s) some

-- after k steps that were made, the run goes on from there
goes_on : (library : Library) (k n : ℕ) (start : State) → ((j : ℕ) → j < k → IsSome (machine_step (said_in library (at library start j)) (at library start j)))
    → run_on library (k + n) start [] ≡ run_on library n (at library start k) (text_in library start k)
goes_on library zero n start made = let e : 0 + n ≡ n = omega arith in ap (λ m. run_on library m start []) e
goes_on library (suc k) n start made =
    let e : suc k + n ≡ k + suc n = omega arith in
    ap (λ m. run_on library m start []) e
    ∙ goes_on library k (suc n) start (λ j below. made j (omega (arith, below)))
    ∙ one_step library n (at library start k) (text_in library start k) (made k (omega arith))

at_limit : (library : Library) (s : State) (written : List ℕ) → run_on library 0 s written ≡ record { finish = LimitReached; state = s; written = written }
unfolding run_on
at_limit library s written = refl

no_step : (library : Library) (n : ℕ) (s : State) (written : List ℕ) → machine_step (said_in library s) s ≡ None → run_on library (suc n) s written ≡ record { finish = NoStepLeft; state = s; written = written }
unfolding run_on
no_step library n s written none =
    ap (unless_step (record { finish = NoStepLeft; state = s; written = written }) (λ t. run_on library n t (written ++ t.world.output))) none

over_none : (library : Library) (s : State) → IsOver s → machine_step (said_in library s) s ≡ None
unfolding machine_step
over_none library s over = ap (λ n. option_map settled_state (state_after (said_in library s) s n)) over

module _ (library : Library) (start s : State) (k : ℕ) (written : List ℕ) (here : Reaches library start k s written) where
  arrived : (n : ℕ) → run_on library (k + n) start [] ≡ run_on library n s written
  arrived n =
      goes_on library k n start here.made
      ∙ ap (λ (v : State). run_on library n v (text_in library start k)) (sym here.state)
      ∙ ap (λ (w : List ℕ). run_on library n s w) (sym here.text)

  limit_reached : (limit : ℕ) → k ≡ limit → run_on library limit start [] ≡ record { finish = LimitReached; state = s; written = written }
  limit_reached limit e =
      let whole : limit ≡ k + 0 = omega arith in
      ap (λ m. run_on library m start []) whole ∙ arrived 0 ∙ at_limit library s written

  none_left : (limit : ℕ) → k < limit → IsOver s → run_on library limit start [] ≡ record { finish = NoStepLeft; state = s; written = written }
  none_left limit below over =
      let whole : limit ≡ k + suc (limit - k - 1) = omega arith in
      ap (λ m. run_on library m start []) whole ∙ arrived (suc (limit - k - 1)) ∙ no_step library (limit - k - 1) s written (over_none library s over)

-- a board at its start
pub at_start : (modules : List ℕ) (kept : Kept) (s : State) (written : List ℕ) → s.steps ≡ 0 → written ≡ [] → IsAt modules kept s s.steps s written
at_start modules kept s written fresh empty = λ library agrees. record {
  state = ap (at library s) (sym fresh);
  made = λ j below. absurd (omega (arith, below, fresh));
  text = empty ∙ ap (text_in library s) (sym fresh);
}

module _ (start : StartState) (kept : Kept) (first s : State) (written : List ℕ) (here : IsAt start.modules kept first s.steps s written) where
  pub is_limit : s.steps ≡ start.limit → IsRunFrom start kept first (record { finish = LimitReached; state = s; written = written })
  is_limit e = λ library agrees. limit_reached library first s s.steps written (here library agrees) start.limit e

  pub is_over : s.steps < start.limit → IsOver s → IsRunFrom start kept first (record { finish = NoStepLeft; state = s; written = written })
  is_over below over = λ library agrees. none_left library first s s.steps written (here library agrees) start.limit below over

-- many steps more
pub goes_at : (modules : List ℕ) (old new : Kept) (most : ℕ) (first s t : State) (written more whole : List ℕ) → IsAt modules old first s.steps s written → GoesBy modules old new most s t more
    → whole ≡ written ++ more → IsAt modules new first t.steps t whole
goes_at modules old new most first s t written more whole here goes e = λ library agrees.
    subst (λ (k : ℕ). Reaches library first k t whole) (sym goes.counted)
    (subst (Reaches library first (s.steps + goes.n) t) (sym e) (goes.made first s.steps written here library agrees))

-- no step more was made
pub ended_run : (start : StartState) (kept : Kept) (first s : State) (written : List ℕ) (end : RunEnd) → IsAt start.modules kept first s.steps s written → s.steps < start.limit → IsHalt end s
    → IfOk (finish_of end) (λ finish. IsRunFrom start kept first (record { finish = finish; state = s; written = written }))
ended_run start kept first s written ends.Quiet here below halt = is_over start kept first s written here below halt
ended_run start kept first s written ends.Limit here below halt = absurd halt
ended_run start kept first s written ends.ReadFault here below halt = tt
ended_run start kept first s written ends.WriteFault here below halt = tt
ended_run start kept first s written ends.NoMemory here below halt = tt

pub ended_given_up : (end : RunEnd) (s : State) (rose : Type 0) → IsHalt end s → (end ≡ ends.ReadFault → rose) → IfErr (finish_of end) (λ x. IsGivenUp x rose)
ended_given_up ends.Quiet s rose halt fault = tt
ended_given_up ends.Limit s rose halt fault = tt
ended_given_up ends.ReadFault s rose halt fault = fault refl
ended_given_up ends.WriteFault s rose halt fault = absurd halt
ended_given_up ends.NoMemory s rose halt fault = tt

-- ---- the opening
pub opening_fresh : (console : List ℕ) (events : Timetable) (devices : List (Option DeviceState)) (profile : Profile) (kind : BoardKind) → (opening console events devices profile kind).steps ≡ 0
unfolding opening
opening_fresh console events devices profile kind = refl

pub from_opening : {A : Type 0} (start : StartState) (kept : Kept) (events : Timetable) (s : State) (text_of : A → List ℕ) (r : Result A Status) → s ≡ opening_of start events
    → IfOk r (λ x. IsOutcomeFrom start kept s (text_of x)) → IfOk r (λ x. IsOutcome start kept events (text_of x))
from_opening start kept events s text_of r e h = subst (λ (v : State). IfOk r (λ x. IsOutcomeFrom start kept v (text_of x))) e h
