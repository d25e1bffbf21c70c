-- The board keeps the invariant.
use Rattle.std.proofs.Common.{◌≡◌, ◌≢◌, ℕ, ◌<◌, ◌^◌, List, Option, None, Some, IfSome, refl, sym, ap, subst}
use Rattle.std.specs.Option.{option_map}
use Rattle.wind_base.specs.declared.board_kind.BoardKind.{BoardKind}
use Rattle.wind_base.specs.declared.profile.Profile.{Profile}
use Rattle.wind_outside.specs.Devices.{DeviceState}
use Rattle.tick_file.specs.Schedule.{Timed, Timetable, at}
use Rattle.tick_file.specs.declared.event.Event.{Event}
use Rattle.tick_file.specs.Laws.{IsEarly}
use Rattle.con_line.specs.State.{ConsoleState, opening_console}
use Rattle.live_loading.specs.KernelWorldState.{WorldState}
use Rattle.live_loading.specs.KernelWorldOpening.{opening_world}
use Rattle.wind_machine.specs.State.{ShellState, State}
use Rattle.wind_machine.specs.Shell.{at_prompt}
use Rattle.wind_machine.specs.Good.{Good}
use Rattle.wind_machine.specs.Laws.{StartLaw, StepLaw}
use Rattle.wind_machine.specs.LiveLoadingSaid.{FileSaid, Missing}
use Rattle.wind_machine.specs.Events.{next_event}
use Rattle.wind_machine.specs.ActorSteps.{load_step}
use Rattle.wind_machine.specs.Next.{next}
use Rattle.wind_machine.specs.Machine.{opening, settled_state, file_asked}
use Rattle.wind_machine.specs.declared.next.Next.{Next}
use Rattle.board_player.specs.declared.Step.{Step}
use Rattle.board_player.specs.declared.Step.TheVariants as steps
use Rattle.board_player.specs.Settling.{Makes}
use Rattle.board_player.proofs.Answering.{steps_on, loaded_step}

-- the board at the start
pub booted : StartLaw → (console : List ℕ) (slots : List (Option DeviceState)) (profile : Profile) (board : BoardKind) (left : List ℕ) (screen : ConsoleState) (shell : ShellState) (w : WorldState) (schedule : Timetable) (time made : ℕ)
    → left ≡ console → screen ≡ opening_console → shell ≡ at_prompt → w ≡ opening_world slots profile board → time ≡ 0 → made ≡ 0
    → Good (record { left = left; console = screen; shell = shell; world = w; schedule = schedule; time = time; steps = made })
unfolding opening
booted law console slots profile board left screen shell w schedule time made l s h e t m =
    subst (λ x. Good (record { left = x; console = screen; shell = shell; world = w; schedule = schedule; time = time; steps = made })) (sym l)
    (subst (λ x. Good (record { left = console; console = x; shell = shell; world = w; schedule = schedule; time = time; steps = made })) (sym s)
    (subst (λ x. Good (record { left = console; console = opening_console; shell = x; world = w; schedule = schedule; time = time; steps = made })) (sym h)
    (subst (λ x. Good (record { left = console; console = opening_console; shell = at_prompt; world = x; schedule = schedule; time = time; steps = made })) (sym e)
    (subst (λ x. Good (record { left = console; console = opening_console; shell = at_prompt; world = opening_world slots profile board; schedule = schedule; time = x; steps = made })) (sym t)
    (subst (λ x. Good (record { left = console; console = opening_console; shell = at_prompt; world = opening_world slots profile board; schedule = schedule; time = 0; steps = x })) (sym m)
    (law console schedule slots profile board))))))

-- the step that comes next
pub kept : StepLaw → (r : Step) (s t : State) (n : Next) → IfSome (next_event s) IsEarly → Good s → n ≡ next s → (r ≡ steps.Stepped → Makes s n t) → (r ≢ steps.Stepped → t ≡ s) → Good t
kept law steps.Stepped s t n early good e stepped same = law Missing s t early good (steps_on s t n e (stepped refl) Missing)
kept law r s t n early good e stepped same = subst Good (sym (same (λ q. cc))) good

-- a step that loads a file
pub kept_loading : StepLaw → (said : FileSaid) (s t : State) (name : List ℕ) → IfSome (next_event s) IsEarly → Good s → file_asked s ≡ Some name → t ≡ settled_state (load_step said s name) → Good t
kept_loading law said s t name early good asked is = law said s t early good (loaded_step said s t name asked is)

-- the next event comes before 2^64
pub early_some : (o : Option Timed) (time : ℕ) (event : Event) → Some (time, event) ≡ option_map at o → time < 2 ^ 64 → IfSome o IsEarly
early_some None time event e h = tt
early_some (Some t) time event e h = subst (λ n. n < 2 ^ 64) (ap time_of e) h where
  time_of : Option (ℕ × Event) → ℕ
  time_of None = 0
  time_of (Some p) = p.0

pub early_none : (o : Option Timed) → None ≡ option_map at o → IfSome o IsEarly
early_none None e = tt
early_none (Some t) e = absurd (cc)
