-- Every state of every run keeps the invariant.
use Rattle.std.proofs.Common.{◌≡◌, ℕ, zero, suc, List, [], ◌∷◌, Option, None, Some, IfSome, add-one, refl, sym, ◌∙◌, subst}
use Rattle.std.specs.Prelude.{unwrap_or}
use Rattle.std.specs.List.{All}
use Rattle.std.proofs.lemmas.List.Elements.{All-head, All-drop}
use Rattle.wind_base.specs.declared.board_kind.BoardKind.{BoardKind}
use Rattle.wind_outside.specs.Devices.{DeviceState}
use Rattle.id_table.specs.Sorting.{first}
use Rattle.tick_file.specs.Schedule.{Timed, Timetable, timetable_of}
use Rattle.live_loading.specs.KernelWorldState.{Choice, choice_of}
use Rattle.live_loading.specs.Said.{FileSaid}
use Rattle.wind_machine.specs.State.{State}
use Rattle.wind_machine.specs.Good.{Good}
use Rattle.tick_file.specs.Laws.{IsEarly, EarlyLaw}
use Rattle.wind_machine.specs.Laws.{ChoiceLaw, StartLaw, StepLaw, InstantLaw, SafetyLaw, OnlyUnsafeGo, RunLaw}
use Rattle.wind_machine.specs.Run.{Answers, after}
use Rattle.wind_base.specs.declared.profile.Profile.{Profile}
use Rattle.wind_machine.specs.Machine.{opening, machine_step}
use Rattle.live_loading.specs.KernelWorldOpening.{opening_world}
use Rattle.wind_machine.proofs.Timetables.{step_left}

next_early : (es : List Timed) → All IsEarly es → IfSome (first es) IsEarly
next_early [] h = tt
next_early (e ∷ es) h = All-head IsEarly e es h

-- the future events of a state are early
abbrev pub IsOnTime : State → Type 0
IsOnTime s = All IsEarly s.schedule.events

step_early : (said : FileSaid) (s t : State) → IsOnTime s → machine_step said s ≡ Some t → IsOnTime t
step_early said s t h e = step_left (λ t. All IsEarly t.events) (λ t k. All-drop IsEarly 1 t.events k) said s t h e

starts_early : (console : List ℕ) (schedule : Timetable) (slots : List (Option DeviceState)) (profile : Profile) (board : BoardKind) → All IsEarly schedule.events → IsOnTime (opening console schedule slots profile board)
unfolding opening
starts_early console schedule slots profile board h = h

onward : StepLaw → (said : FileSaid) (s : State) → Good s × IsOnTime s → Good (unwrap_or (machine_step said s) s) × IsOnTime (unwrap_or (machine_step said s) s)
onward step said s h =
    elim (machine_step said s) as (λ o. machine_step said s ≡ o → Good (unwrap_or o s) × IsOnTime (unwrap_or o s)) [
      | None ↦ λ e. h
      | Some t ↦ λ e. (step said s t (next_early s.schedule.events h.1) h.0 e, step_early said s t h.1 e)
    ] refl

course : StepLaw → (said : Answers) (s : State) → Good s × IsOnTime s → (k : ℕ) → Good (after said s k) × IsOnTime (after said s k)
course step said s h zero = h
course step said s h (suc k) = onward step (said k) (after said s k) (course step said s h k)

-- what was chosen at the start stays
onward_choice : ChoiceLaw → (said : FileSaid) (s : State) → Good s → choice_of (unwrap_or (machine_step said s) s).world ≡ choice_of s.world
onward_choice same said s g =
    elim (machine_step said s) as (λ o. machine_step said s ≡ o → choice_of (unwrap_or o s).world ≡ choice_of s.world) [
      | None ↦ λ e. refl
      | Some t ↦ λ e. same said s t g e
    ] refl

course_choice : StepLaw → ChoiceLaw → (said : Answers) (s : State) → Good s × IsOnTime s → (k : ℕ) → choice_of (after said s k).world ≡ choice_of s.world
course_choice step same said s h zero = refl
course_choice step same said s h (suc k) = onward_choice same (said k) (after said s k) (course step said s h k).0 ∙ course_choice step same said s h k

starts_choice : (console : List ℕ) (schedule : Timetable) (slots : List (Option DeviceState)) (choice : Choice) → choice_of (opening console schedule slots choice.profile choice.board).world ≡ choice
unfolding opening opening_world
starts_choice console schedule slots choice = refl

-- in the step that follows, if there is one
next_safe : SafetyLaw → (said : FileSaid) (s : State) → Good s → OnlyUnsafeGo s (unwrap_or (machine_step said s) s)
next_safe safety said s g =
    elim (machine_step said s) as (λ o. machine_step said s ≡ o → OnlyUnsafeGo s (unwrap_or o s)) [
      | None ↦ λ e id live dead. absurd (dead live)
      | Some t ↦ λ e. safety said s t g e
    ] refl

pub runs_keep : StartLaw → StepLaw → ChoiceLaw → InstantLaw → SafetyLaw → EarlyLaw → RunLaw
runs_keep start step same instant safety early said console ticks slots choice k =
    let begun = opening console (timetable_of ticks) slots choice.profile choice.board in
    let from : Good begun × IsOnTime begun = (start console (timetable_of ticks) slots choice.profile choice.board, starts_early console (timetable_of ticks) slots choice.profile choice.board (early ticks)) in
    let good = (course step said begun from k).0 in
    record {
      kept = good;
      instant = instant (after said begun k) good;
      chosen = course_choice step same said begun from k ∙ starts_choice console (timetable_of ticks) slots choice;
      safety = subst (λ n. OnlyUnsafeGo (after said begun k) (after said begun n)) (sym (add-one k)) (next_safe safety (said k) (after said begun k) good);
    }
