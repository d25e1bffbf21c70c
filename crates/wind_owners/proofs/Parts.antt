-- What a step of an actor does to the world changes the owner of no mutex, except of the one that its call names.
use Rattle.std.proofs.Common.{◌≡◌, ℕ, Bool, true, false, cond, eqb, List, [], ◌∷◌, Option, None, Some, refl}
use Rattle.std.specs.Prelude.{slice_index}
use Rattle.wind_base.specs.declared.gate.Gate.{Gate}
use Rattle.ppc_core.specs.Instructions.{exec_of}
use Rattle.ppc_core.specs.Outcomes.{Outcome, Done, Trapped}
use Rattle.ppc_core.specs.declared.trap.Trap.{Trap}
use Rattle.ppc_core.specs.declared.trap.Trap.TheVariants as traps
use Rattle.board_bus.specs.BusState.{BusState}
use Rattle.board_bus.specs.Access.{board_meaning, fetched}
use Rattle.wind_core.specs.State.{task_of}
use Rattle.wind_core.specs.Moves.{suspend}
use Rattle.shell_eval.specs.Pending.{Pending}
use Rattle.shell_eval.specs.Evaluate.{Ending, Value, Call, Fault, Waiting, evaluate}
use Rattle.kernel_world.specs.State.{WorldState}
use Rattle.id_table.specs.Idents.{shell_id}
use Rattle.kernel_world.specs.Allowed.{is_call}
use Rattle.kernel_world.specs.declared.actor.Actor.{Actor}
use Rattle.kernel_world.specs.declared.actor.Actor.TheVariants.{Task as by_task, Interrupt}
use Rattle.call_rows.specs.Ending.{ended}
use Rattle.wind_machine.specs.State.{ShellState}
use Rattle.wind_machine.specs.Part.{part_of, with_kern, writing}
use Rattle.wind_machine.specs.Task.{aborted, listening}
use Rattle.wind_machine.specs.Text.{prompt_text}
use Rattle.wind_machine.specs.Shell.{at_prompt, came_to, eval_part, eval_state, prompt_part, prompted, returned, with_eval}
use Rattle.wind_machine.specs.Processor.{actor_part, bus_of, called, executed, gate_part, gate_under, is_return, part_at, regs_of, return_part, trap_text, trapped, without_own, word_part}
use Rattle.wind_owners.specs.Owners.{call_at}
use Rattle.board_trace.specs.Mutexes.{mutex_named, owner_in}
use Rattle.wind_owners.proofs.Calls.{call_keeps}

module _ (id : ℕ) (w : WorldState) where
  -- a world in which the mutex has the owner that it has here
  abbrev Same : WorldState → Type 0
  Same v = owner_in v id ≡ owner_in w id

  -- ---- steps that make no call
  pub prompts : (has_line : Bool) (shell : ShellState) → Same (prompt_part has_line shell w).world
  prompts has_line shell =
      elim has_line as (λ b. Same (part_of (prompted b shell) (writing (with_kern w (cond b w.kern (listening w.kern))) prompt_text)).world) [ true ↦ refl | false ↦ refl ]

  comes_to : (e : Ending) (later : List (Option Pending)) (v : WorldState) → Same v → Same (came_to e later v).world
  comes_to (Value x) later v same = same
  comes_to (Call callee words p) later v same = same
  comes_to (Fault f) later v same = same
  comes_to Waiting later v same = same

  pub evaluates : (trees : List (Option Pending)) → Same (eval_part trees w).world
  evaluates [] = refl
  evaluates (None ∷ later) = refl
  evaluates (Some p ∷ later) = let e = evaluate (eval_state w) p in comes_to e.ending later (with_eval w e.state) refl

  module _ (shell : ShellState) where
    traps_keep : (a : Actor) (trap : Trap) → Same (trapped trap shell w a).world
    traps_keep (by_task who) trap =
        let text = trap_text trap (task_of w.kern.tasks who) in
        elim (eqb who shell_id) as (λ b. Same (cond b (part_of at_prompt (writing (with_kern w (aborted w.kern)) text)) (part_of shell (writing (with_kern w (suspend w.kern who)) text))).world) [ true ↦ refl | false ↦ refl ]
    traps_keep Interrupt trap = refl

    returns_keep : (a : Actor) → Same (return_part shell w a).world
    returns_keep (by_task who) =
        elim (eqb who shell_id) as (λ b. Same (cond b (part_of (returned (slice_index (regs_of w (by_task who)).gpr 3) shell) (without_own w (by_task who))) (part_of shell (ended w who))).world) [ true ↦ refl | false ↦ refl ]
    returns_keep Interrupt = refl

    executes : (a : Actor) (o : Outcome BusState) → Same (executed o shell w a).world
    executes (by_task who) (Done regs bus) = refl
    executes Interrupt (Done regs bus) = refl
    executes a (Trapped trap) = traps_keep a trap

    words_keep : (a : Actor) (o : Option ℕ) → Same (word_part o shell w a).world
    words_keep a None = traps_keep a traps.Access
    words_keep a (Some word) = executes a (exec_of board_meaning (regs_of w a) word (bus_of w))

    -- ---- a step of any actor
    gates_keep : (a : Actor) (g : Gate) → (mutex_named (call_at (Some g) w a) ≡ Some id → ⊥) → Same (gate_part g shell w a).world
    gates_keep a g other =
        elim (is_return g a) as (λ b. Same (cond b (return_part shell w a) (cond (is_call g) (part_of shell (called g w a)) (trapped traps.Access shell w a))).world) [
          | true ↦ returns_keep a
          | false ↦ (elim (is_call g) as (λ b. Same (cond b (part_of shell (called g w a)) (trapped traps.Access shell w a)).world) [
            | true ↦ call_keeps id w a g other
            | false ↦ traps_keep a traps.Access
          ])
        ]

    at_keeps : (a : Actor) (o : Option Gate) → (mutex_named (call_at o w a) ≡ Some id → ⊥) → Same (part_at o shell w a).world
    at_keeps a None other = words_keep a (fetched (bus_of w) (regs_of w a).pc)
    at_keeps a (Some g) other = gates_keep a g other

    pub actor_keeps : (a : Actor) → (mutex_named (call_at (gate_under w a) w a) ≡ Some id → ⊥) → Same (actor_part shell w a).world
    unfolding actor_part
    actor_keeps a other = at_keeps a (gate_under w a) other
