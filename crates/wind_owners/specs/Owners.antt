-- Who owns each mutex: the call of a step that may change it, and the lines of a trace that tell it.
use Rattle.std.specs.Prelude.{◌≡◌, ℕ, ◌==◌, if◌then◌else◌, List, [], ◌∷◌, Option, None, Some}
use Rattle.wind_base.specs.declared.gate.Gate.{Gate}
use Rattle.kernel_world.specs.State.{WorldState}
use Rattle.kernel_world.specs.CallWords.{call_by}
use Rattle.kernel_world.specs.declared.actor.Actor.{Actor}
use Rattle.kernel_world.specs.declared.call.Call.{Call}
use Rattle.wind_machine.specs.LiveLoadingSaid.{FileSaid}
use Rattle.wind_machine.specs.Good.{Good}
use Rattle.wind_machine.specs.Machine.{machine_step, stepping}
use Rattle.wind_machine.specs.Processor.{gate_under}
use Rattle.wind_machine.specs.State.{State}
use Rattle.wind_messages.specs.Messages.{is_at_work, step_start_world}
use Rattle.board_trace.specs.Mutexes.{mutex_named, owner_in}
use Rattle.board_trace.specs.Steps.{happenings}
use Rattle.board_trace.specs.declared.happening.Happening.{Happening}
use Rattle.board_trace.specs.declared.happening.Happening.TheVariants as told

-- ---- the call of a step
-- the call at a gate
abbrev pub call_at : Option Gate → WorldState → Actor → Option Call
call_at None w a = None
call_at (Some g) w a = call_by g w a

-- the call that the actor's step is, if it is one
abbrev pub actor_call : State → Actor → Option Call
actor_call s a = if is_at_work s a then call_at (gate_under (step_start_world s a) a) (step_start_world s a) a else None

abbrev pub call_by_actor : State → Option Actor → Option Call
call_by_actor s None = None
call_by_actor s (Some a) = actor_call s a

-- the call that the next step is
abbrev pub step_call : State → Option Call
step_call s = call_by_actor s (stepping s)

-- from a state with the invariant, a step changes who owns a mutex only if its call names the mutex
abbrev pub OwnerLaw : Type 0
OwnerLaw = (said : FileSaid) (s t : State) (id : ℕ) → Good s → machine_step said s ≡ Some t
    → (mutex_named (step_call s) ≡ Some id → ⊥) → owner_in t.world id ≡ owner_in s.world id

-- ---- the lines of a trace
-- who owns this mutex after something happens
abbrev pub owner_then : ℕ → Happening → Option ℕ → Option ℕ
owner_then id (told.Owned mutex owner) o = if mutex == id then Some owner else o
owner_then id (told.Freed mutex owner) o = if mutex == id then None else o
owner_then id h o = o

-- the same after happenings, one after another
abbrev pub owner_replayed : ℕ → List Happening → Option ℕ → Option ℕ
owner_replayed id [] o = o
owner_replayed id (h ∷ hs) o = owner_replayed id hs (owner_then id h o)

-- in each step from a state with the invariant, who owns a mutex before the step and the lines of the step give who owns it
-- after the step. So a mutex gets or loses an owner only where a line says so
abbrev pub OwnersLaw : Type 0
OwnersLaw = (said : FileSaid) (s t : State) (id : ℕ) → Good s → machine_step said s ≡ Some t
    → owner_replayed id (happenings said s t) (owner_in s.world id) ≡ owner_in t.world id
