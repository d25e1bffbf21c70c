-- Which messages each step of the wind machine puts into a queue and takes out of it.
use Rattle.std.specs.Prelude.{ℕ, Bool, true, false, if◌then◌else◌, List, Option, None, Some}
use Rattle.wind_base.specs.declared.gate.Gate.{Gate}
use Rattle.msg_queue.specs.State.{Scene}
use Rattle.msg_queue.specs.Machine.{Event, sends, receives, Parcel, accepted_next, taken_next}
use Rattle.msg_queue.specs.Laws.{gathered}
use Rattle.kernel_world.specs.State.{WorldState}
use Rattle.kernel_world.specs.Actors.{is_shell}
use Rattle.kernel_world.specs.CallWords.{call_by}
use Rattle.kernel_world.specs.declared.call.Call.{Call}
use Rattle.kernel_world.specs.declared.call.Call.TheVariants as calls
use Rattle.kernel_world.specs.Replies.{left_gate}
use Rattle.wind_machine.specs.KernelCallsCalls.{scene_of}
use Rattle.call_rows.specs.QueueRows.{sending}
use Rattle.kernel_world.specs.declared.actor.Actor.{Actor}
use Rattle.kernel_world.specs.declared.actor.Actor.TheVariants.{Task as by_task, Interrupt}
use Rattle.wind_machine.specs.State.{State}
use Rattle.wind_machine.specs.Run.{Answers, after}
use Rattle.wind_machine.specs.Events.{cleared, unreserved_world}
use Rattle.wind_machine.specs.ActorSteps.{at_step_start}
use Rattle.wind_machine.specs.Machine.{stepping}
use Rattle.wind_machine.specs.Processor.{gate_under}
use Rattle.wind_machine.specs.declared.phase.Phase.{Phase}
use Rattle.wind_machine.specs.declared.phase.Phase.TheVariants as phases

-- a receive, which only a task can make
abbrev pub received_by : Actor → ℕ → ℕ → ℕ → ℕ → Option Event
received_by (by_task who) id buffer count timeout = Some (receives id (record { caller = who; buffer = buffer; room = count; timeout = timeout }))
received_by Interrupt id buffer count timeout = None

-- what an actor's call does with the queues, if it is a send or a receive
abbrev pub event_of : Actor → Call → Option Event
event_of a (calls.MsgQSend id buffer count timeout priority) = Some (sends id (sending a buffer count timeout priority))
event_of a (calls.MsgQReceive id buffer count timeout) = received_by a id buffer count timeout
event_of a c = None

abbrev pub event_in : Actor → Option Call → Option Event
event_in a None = None
event_in a (Some c) = event_of a c

-- what the call that an actor makes at a gate does with the queues
abbrev pub call_at : Gate → WorldState → Actor → Option Event
call_at g w a = event_in a (call_by g w a)

abbrev pub call_under : Option Gate → WorldState → Actor → Option Event
call_under None w a = None
call_under (Some g) w a = call_at g w a

-- the shell's task is at a gate only during a call; every other actor may be at one
abbrev pub is_call : Phase → Bool
is_call phases.Call = true
is_call p = false

abbrev pub is_at_work : State → Actor → Bool
is_at_work s a = if is_shell a then is_call s.shell.phase else true

-- the world at the beginning of an actor's step
abbrev pub step_start_world : State → Actor → WorldState
step_start_world s (by_task who) = at_step_start s.world who
step_start_world s Interrupt = cleared (unreserved_world s.world)

-- the queue call that the actor's step is, if it is one
abbrev pub actor_call : State → Actor → Option Event
actor_call s a = if is_at_work s a then call_under (gate_under (step_start_world s a) a) (step_start_world s a) a else None

-- what such a call sees: the caller has left its gate
abbrev pub actor_scene : State → Actor → Scene
actor_scene s a = scene_of (left_gate (step_start_world s a) a)

-- ---- the next step
abbrev pub call_of : State → Option Actor → Option Event
call_of s None = None
call_of s (Some a) = actor_call s a

abbrev pub scene_by : State → Option Actor → Scene
scene_by s None = scene_of s.world
scene_by s (Some a) = actor_scene s a

-- what the next step adds to the queue q or hands to a receiver, and what it hands to a receiver or takes from the
-- head of q
abbrev pub step_accepts : State → ℕ → List Parcel
step_accepts s q = accepted_next (scene_by s (stepping s)) (call_of s (stepping s)) q

abbrev pub step_takes : State → ℕ → List (List ℕ)
step_takes s q = taken_next (scene_by s (stepping s)) (call_of s (stepping s)) q

-- ---- a run
-- what the first k steps from a state on added to the queue q or handed to a receiver, in the order of the steps
abbrev pub accepted : Answers → State → ℕ → ℕ → List Parcel
accepted said s q k = gathered (λ j. step_accepts (after said s j)) q k

-- what they handed to a receiver of q or took from the head of q, each message whole
abbrev pub taken : Answers → State → ℕ → ℕ → List (List ℕ)
taken said s q k = gathered (λ j. step_takes (after said s j)) q k
