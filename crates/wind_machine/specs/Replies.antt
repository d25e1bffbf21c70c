-- How the caller of a step's kernel call is answered. A step that makes no call has no reply.
use Rattle.std.specs.Prelude.{ℕ, Option, None, Some, ◌==◌, if◌then◌else◌}
use Rattle.wind_base.specs.declared.gate.Gate.{Gate}
use Rattle.id_table.specs.Idents.{shell_id}
use Rattle.live_loading.specs.KernelWorldState.{WorldState}
use Rattle.live_loading.specs.KernelWorldAllowed.{is_call}
use Rattle.live_loading.specs.KernelWorldActor.{Actor}
use Rattle.live_loading.specs.KernelWorldActor.TheVariants.{Task as by_task, Interrupt}
use Rattle.live_loading.specs.KernelWorldReply.{Reply}
use Rattle.live_loading.specs.KernelCallsCalls.{made}
use Rattle.live_loading.specs.Said.{FileSaid}
use Rattle.live_loading.specs.Replies.{load_reply}
use Rattle.wind_machine.specs.State.{State}
use Rattle.wind_machine.specs.Processor.{gate_under, is_return}
use Rattle.wind_machine.specs.Events.{cleared, unreserved_world}
use Rattle.wind_machine.specs.ActorSteps.{at_step_start, shell_world}
use Rattle.wind_machine.specs.Next.{next}
use Rattle.wind_machine.specs.declared.next.Next.{Next}
use Rattle.wind_machine.specs.declared.next.Next.TheVariants.{Routine, Act, Load}
use Rattle.wind_machine.specs.declared.phase.Phase.{Phase}
use Rattle.wind_machine.specs.declared.phase.Phase.TheVariants as phases

-- ---- a step of an actor
-- the reply of the call at a gate; the actor's own return and a gate without a call have none
abbrev pub gate_reply : Gate → WorldState → Actor → Option Reply
gate_reply g w who = if is_return g who then None else (if is_call g then Some (made g w who).reply else None)

-- an instruction has none
abbrev pub reply_at : Option Gate → WorldState → Actor → Option Reply
reply_at None w who = None
reply_at (Some g) w who = gate_reply g w who

unfoldable pub actor_reply : WorldState → Actor → Option Reply
actor_reply w who = reply_at (gate_under w who) w who

-- ---- a step of the machine
abbrev pub task_reply : State → ℕ → Option Reply
task_reply s who = actor_reply (at_step_start s.world who) (by_task who)

-- the shell's task makes calls only during a call of the shell
abbrev pub shell_reply : Phase → State → Option Reply
shell_reply phases.Call s = task_reply s shell_id
shell_reply phase s = None

abbrev pub act_reply : State → ℕ → Option Reply
act_reply s who = if who == shell_id then shell_reply s.shell.phase s else task_reply s who

abbrev pub routine_reply : State → Option Reply
routine_reply s = actor_reply (cleared (unreserved_world s.world)) Interrupt

-- the reply of what comes next, given what the folder answers about the file that it needs
abbrev pub reply_after : FileSaid → State → Next → Option Reply
reply_after said s Routine = routine_reply s
reply_after said s (Act who) = act_reply s who
reply_after said s (Load name) = Some (load_reply (shell_world s) said)
reply_after said s n = None

-- the reply of the next step
unfoldable pub step_reply : FileSaid → State → Option Reply
step_reply said s = reply_after said s (next s)
