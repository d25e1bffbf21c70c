-- What holds at each instant of every run of the wind machine.
use Rattle.std.specs.Prelude.{◌≡◌, ℕ, ◌+◌, List, Option, Some}
use Rattle.wind_base.specs.declared.board_kind.BoardKind.{BoardKind}
use Rattle.wind_base.specs.declared.profile.Profile.{Profile}
use Rattle.id_table.specs.Rows.{object_of}
use Rattle.wind_outside.specs.Devices.{DeviceState}
use Rattle.tick_file.specs.Schedule.{timetable_of}
use Rattle.msg_queue.specs.State.{QueueState}
use Rattle.msg_queue.specs.Laws.{IsConserved as AreConserved}
use Rattle.wind_machine.specs.LiveLoadingLaws.{OnlyLoads}
use Rattle.wind_machine.specs.LiveLoadingLoading.{load_call}
use Rattle.wind_machine.specs.State.{State}
use Rattle.wind_machine.specs.ActorSteps.{shell_world}
use Rattle.wind_machine.specs.Instants.{IsInstant}
use Rattle.wind_machine.specs.Interrupts.{HoldsOfSlot}
use Rattle.wind_machine.specs.Laws.{OnlyUnsafeGo}
use Rattle.wind_machine.specs.Machine.{opening}
use Rattle.wind_machine.specs.Next.{next}
use Rattle.wind_machine.specs.Run.{Answers, after}
use Rattle.wind_machine.specs.declared.next.Next.TheVariants.{Load}
use Rattle.wind_messages.specs.Messages.{accepted, taken}
use Rattle.wind_console.specs.Laws.{IsConservedAfter}

-- the messages of each live queue: what was accepted was taken, or is in the queue
abbrev pub MessagesAreConserved : Answers → State → ℕ → Type 0
MessagesAreConserved said start k = (q : ℕ) (y : QueueState) → object_of (after said start k).world.objects.queues.queues q ≡ Some y
    → AreConserved (accepted said start q k) (taken said start q k) y.held

-- if a load comes next, it writes no RAM outside the blocks that it takes, and leaves everything else as it was
abbrev pub LoadsAlone : Answers → State → ℕ → Type 0
LoadsAlone said start k = (name : List ℕ) → next (after said start k) ≡ Load name
    → OnlyLoads (shell_world (after said start k)) (load_call (shell_world (after said start k)) name (said k))

-- what holds after k steps of a run that started with this console file
pub record Promises (said : Answers) (file : List ℕ) (start : State) (k : ℕ) : Type 0 where
  -- the most urgent ready task runs, and owners of inversion-safe mutexes inherit
  pub instant : IsInstant (after said start k).world
  -- the next step ends no task that is safe from deletion, unless that task makes it
  pub deletion : OnlyUnsafeGo (after said start k) (after said start (k + 1))
  pub messages : MessagesAreConserved said start k
  -- each interrupt that was raised was delivered once or is pending, until its device is removed
  pub interrupts : (slot : ℕ) → HoldsOfSlot said start slot k
  -- each byte of the console file is left, in a line, or was dropped for one reason
  pub console : IsConservedAfter said file start k
  pub linking : LoadsAlone said start k

-- this holds in every run, under each rule of inheritance and on each board, whatever the console file, the tick file,
-- the module files and the devices are
abbrev pub PromiseLaw : Type 0
PromiseLaw = (said : Answers) (file ticks : List ℕ) (slots : List (Option DeviceState)) (profile : Profile) (board : BoardKind) (k : ℕ)
    → Promises said file (opening file (timetable_of ticks) slots profile board) k
