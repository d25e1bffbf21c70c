-- What a step of an actor does to the world agrees with what the queues hold.
use Rattle.std.proofs.Common.{◌≡◌, ℕ, Bool, true, false, cond, eqb, List, [], ◌∷◌, Option, None, Some, refl, sym, subst, arith}
use Rattle.std.specs.Prelude.{slice_index}
use Rattle.wind_base.specs.declared.gate.Gate.{Gate}
use Rattle.ppc_core.specs.Instructions.{exec_of}
use Rattle.ppc_core.specs.Outcomes.{Outcome, Done, Trapped}
use Rattle.ppc_core.specs.declared.trap.Trap.{Trap}
use Rattle.ppc_core.specs.declared.trap.Trap.TheVariants as traps
use Rattle.board_bus.specs.BusState.{BusState}
use Rattle.board_bus.specs.Access.{board_meaning, fetched}
use Rattle.wind_core.specs.State.{KernState, task_of}
use Rattle.wind_core.specs.Moves.{release, suspend}
use Rattle.task_safety.specs.Safety.{safe_of}
use Rattle.shell_eval.specs.Pending.{Pending}
use Rattle.shell_eval.specs.Evaluate.{Ending, Value, Call, Fault, Waiting, evaluate}
use Rattle.msg_queue.specs.State.{Scene}
use Rattle.msg_queue.specs.Kept.{IsKept}
use Rattle.kernel_world.specs.State.{WorldState}
use Rattle.id_table.specs.Idents.{shell_id}
use Rattle.kernel_world.specs.Actors.{caller_words}
use Rattle.wind_machine.specs.KernelCallsCalls.{scene_of}
use Rattle.kernel_world.specs.Allowed.{is_call}
use Rattle.kernel_world.specs.Replies.{left_gate}
use Rattle.call_rows.specs.Ending.{ended}
use Rattle.kernel_world.specs.declared.actor.Actor.{Actor}
use Rattle.kernel_world.specs.declared.actor.Actor.TheVariants.{Task as by_task, Interrupt}
use Rattle.wind_machine.specs.State.{ShellState}
use Rattle.wind_machine.specs.Part.{part_of, with_kern, writing}
use Rattle.wind_machine.specs.Task.{shell_task, is_held, listening, aborted}
use Rattle.wind_machine.specs.Text.{prompt_text}
use Rattle.wind_machine.specs.Shell.{at_prompt, returned, prompted, prompt_part, eval_state, with_eval, came_to, eval_part}
use Rattle.wind_machine.specs.Routine.{next_routine}
use Rattle.wind_machine.specs.Processor.{bus_of, regs_of, trap_text, trapped, is_return, without_own, return_part, called, gate_part, executed, word_part, part_at, gate_under, actor_part}
use Rattle.wind_messages.specs.Messages.{call_at, call_under}
use Rattle.wind_messages.proofs.NextIds.{NextSame, next-if, next-release, next-lessen}
use Rattle.wind_messages.proofs.Rows.{Balances, leaves}
use Rattle.wind_messages.proofs.Calls.{none_missing, none_return, call_balances}

-- ---- the shell's task is aborted
pub next-aborted : (k : KernState) → NextSame k (aborted k)
next-aborted k = next-if (is_held (shell_task k)) k (release k shell_id) k (next-release k shell_id) refl

-- ---- no call on a queue
module _ (w : WorldState) (s : Scene) where
  -- the world v has the queues of w, and its next id isn't lower
  left_alone : (v : WorldState) → v.objects.queues.queues ≡ w.objects.queues.queues → NextSame w.kern v.kern → Balances w v s None
  left_alone v same ids = leaves w v s same (omega (arith, ids))

  pub prompts : (has_line : Bool) (shell : ShellState) → Balances w (prompt_part has_line shell w).world s None
  prompts has_line shell =
      elim has_line as (λ b. Balances w (part_of (prompted b shell) (writing (with_kern w (cond b w.kern (listening w.kern))) prompt_text)).world s None) [
        | true ↦ left_alone (writing w prompt_text) refl refl
        | false ↦ left_alone (writing (with_kern w (listening w.kern)) prompt_text) refl refl
      ]

  comes_to : (e : Ending) (later : List (Option Pending)) (v : WorldState) → v.objects.queues.queues ≡ w.objects.queues.queues → NextSame w.kern v.kern → Balances w (came_to e later v).world s None
  comes_to (Value x) later v same ids = left_alone (came_to (Value x) later v).world same ids
  comes_to (Call callee words p) later v same ids = left_alone (came_to (Call callee words p) later v).world same ids
  comes_to (Fault f) later v same ids = left_alone (came_to (Fault f) later v).world same ids
  comes_to Waiting later v same ids = left_alone v same ids

  pub evaluates : (trees : List (Option Pending)) → Balances w (eval_part trees w).world s None
  evaluates [] = left_alone w refl refl
  evaluates (None ∷ later) = left_alone w refl refl
  evaluates (Some p ∷ later) = let e = evaluate (eval_state w) p in comes_to e.ending later (with_eval w e.state) refl refl

  -- ---- a step of any actor
  module _ (shell : ShellState) where
    traps_balance : (a : Actor) (trap : Trap) → Balances w (trapped trap shell w a).world s None
    traps_balance (by_task who) trap =
        let text = trap_text trap (task_of w.kern.tasks who) in
        elim (eqb who shell_id) as (λ b. Balances w (cond b (part_of at_prompt (writing (with_kern w (aborted w.kern)) text)) (part_of shell (writing (with_kern w (suspend w.kern who)) text))).world s None) [
          | true ↦ left_alone (writing (with_kern w (aborted w.kern)) text) refl (next-aborted w.kern)
          | false ↦ left_alone (writing (with_kern w (suspend w.kern who)) text) refl refl
        ]
    traps_balance Interrupt trap = left_alone (trapped trap shell w Interrupt).world refl refl

    returns_balance : (a : Actor) → Balances w (return_part shell w a).world s None
    returns_balance (by_task who) =
        elim (eqb who shell_id) as (λ b. Balances w (cond b (part_of (returned (slice_index (regs_of w (by_task who)).gpr 3) shell) (without_own w (by_task who))) (part_of shell (ended w who))).world s None) [
          | true ↦ left_alone (without_own w (by_task who)) refl refl
          | false ↦ left_alone (ended w who) refl (next-lessen w.kern who (safe_of (task_of w.kern.tasks who)))
        ]
    returns_balance Interrupt = left_alone (next_routine w) refl refl

    executes : (a : Actor) (o : Outcome BusState) → Balances w (executed o shell w a).world s None
    executes (by_task who) (Done regs bus) = left_alone (executed (Done regs bus) shell w (by_task who)).world refl refl
    executes Interrupt (Done regs bus) = left_alone (executed (Done regs bus) shell w Interrupt).world refl refl
    executes a (Trapped trap) = traps_balance a trap

    words_balance : (a : Actor) (o : Option ℕ) → Balances w (word_part o shell w a).world s None
    words_balance a None = traps_balance a traps.Access
    words_balance a (Some word) = executes a (exec_of board_meaning (regs_of w a) word (bus_of w))

-- ---- a step of an actor, with the queue call that it is, if it is one
module _ (w : WorldState) (shell : ShellState) (a : Actor) (kept : IsKept (scene_of (left_gate w a))) where
  abbrev here : Scene
  here = scene_of (left_gate w a)

  abbrev words : List ℕ
  words = caller_words w a

  gates_balance : (g : Gate) → Balances w (gate_part g shell w a).world here (call_at g w a)
  gates_balance g =
      elim (is_return g a) as (λ b. is_return g a ≡ b → Balances w (cond b (return_part shell w a) (cond (is_call g) (part_of shell (called g w a)) (trapped traps.Access shell w a))).world here (call_at g w a)) [
        | true ↦ λ e. subst (Balances w (return_part shell w a).world here) (sym (none_return w.ram words a g e)) (returns_balance w here shell a)
        | false ↦ λ e.
            elim (is_call g) as (λ b. is_call g ≡ b → Balances w (cond b (part_of shell (called g w a)) (trapped traps.Access shell w a)).world here (call_at g w a)) [
              | true ↦ λ built. call_balances w a kept g
              | false ↦ λ built. subst (Balances w (trapped traps.Access shell w a).world here) (sym (none_missing w.ram words a g built)) (traps_balance w here shell a traps.Access)
            ] refl
      ] refl

  at_balances : (o : Option Gate) → Balances w (part_at o shell w a).world here (call_under o w a)
  at_balances None = words_balance w here shell a (fetched (bus_of w) (regs_of w a).pc)
  at_balances (Some g) = gates_balance g

  pub actor_balances : Balances w (actor_part shell w a).world here (call_under (gate_under w a) w a)
  unfolding actor_part
  actor_balances = at_balances (gate_under w a)
