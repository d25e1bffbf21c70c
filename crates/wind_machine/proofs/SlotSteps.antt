-- What each step does to the device slots and their interrupts.
use Rattle.std.proofs.Common.{◌≡◌, ℕ, true, false, cond, eqb, List, [], ◌∷◌, Option, None, Some, Ok, Err, refl, sym, ap, subst}
use Rattle.std.specs.Prelude.{Result, slice_index}
use Rattle.std.proofs.lemmas.Bool.{eqb-true, eq-eqb}
use Rattle.wind_base.specs.declared.gate.Gate.{Gate}
use Rattle.wind_base.specs.declared.regs.Regs.{Regs}
use Rattle.ppc_core.specs.Instructions.{exec_of}
use Rattle.ppc_core.specs.Outcomes.{Outcome, Done, Trapped}
use Rattle.ppc_core.specs.declared.trap.Trap.{Trap}
use Rattle.ppc_core.specs.declared.trap.Trap.TheVariants as traps
use Rattle.elf_read.specs.declared.module.Module.{Module}
use Rattle.elf_read.specs.Contents.{module_at}
use Rattle.module_image.specs.declared.segments.Places.{Places}
use Rattle.live_loading.specs.ModuleLoaderLoadErr.{LoadErr}
use Rattle.live_loading.specs.ModuleLoaderLoading.{file_verdict}
use Rattle.board_bus.specs.BusState.{BusState}
use Rattle.board_bus.specs.Access.{board_meaning, fetched}
use Rattle.wind_core.specs.State.{task_of}
use Rattle.wind_core.specs.Moves.{suspend}
use Rattle.dev_irq.specs.State.{pending_of, IsIrqs}
use Rattle.shell_eval.specs.Pending.{Pending}
use Rattle.shell_eval.specs.Evaluate.{Ending, Value, Call, Fault, Waiting, evaluate}
use Rattle.live_loading.specs.KernelWorldState.{WorldState}
use Rattle.id_table.specs.Idents.{shell_id}
use Rattle.live_loading.specs.KernelWorldActors.{caller_words}
use Rattle.live_loading.specs.KernelWorldAllowed.{is_call}
use Rattle.live_loading.specs.KernelWorldReplies.{left_gate}
use Rattle.live_loading.specs.KernelWorldActor.{Actor}
use Rattle.live_loading.specs.KernelWorldActor.TheVariants.{Task as by_task, Interrupt}
use Rattle.live_loading.specs.KernelCallsCalls.{call}
use Rattle.live_loading.specs.CallRowsEnding.{ended}
use Rattle.live_loading.specs.Said.{FileSaid, Held, Missing, TooLong}
use Rattle.live_loading.specs.Loading.{shell, loader_state, by_verdict, effect, mode_wanted, load_call}
use Rattle.wind_machine.specs.State.{ShellState, State}
use Rattle.wind_machine.specs.Part.{part_of, with_kern, writing}
use Rattle.wind_machine.specs.Task.{aborted}
use Rattle.wind_machine.specs.Shell.{at_prompt, returned, eval_state, with_eval, came_to, eval_part}
use Rattle.wind_machine.specs.Processor.{bus_of, regs_of, with_regs, trap_text, trapped, is_return, without_own, return_part, called, gate_part, executed, word_part, part_at, gate_under, actor_part}
use Rattle.wind_machine.specs.Events.{cleared, unreserved_world}
use Rattle.wind_machine.specs.ActorSteps.{IsOnProcessor, at_step_start, shell_step, task_step, step_of, routine_step, load_step}
use Rattle.wind_machine.specs.declared.phase.Phase.{Phase}
use Rattle.wind_machine.specs.declared.phase.Phase.TheVariants as phases
use Rattle.wind_machine.proofs.Executing.{IfDone, executing_lasts}
use Rattle.wind_machine.proofs.Evaluating.{evaluating_lasts}
use Rattle.wind_machine.proofs.Asking.{own_gate, own_words}
use Rattle.wind_machine.proofs.Slotted.{slotted, is_gone, Leaves, left, clash, not_gone, Passes, passes_by, call_passes, HasPlaces, places_last}

-- dropping an actor's reservation touches no slot
own_slotted : (w : WorldState) (who : Actor) → slotted (without_own w who) ≡ slotted w
own_slotted w (by_task who) = refl
own_slotted w Interrupt = refl

module _ (w : WorldState) (is : IsIrqs w.irqs) where
  here : Leaves (slotted w) (slotted w)
  here = left (slotted w) is

  -- nor do an exception, a return, and other registers
  traps_leave : (shell : ShellState) (who : Actor) (trap : Trap) → Leaves (slotted w) (slotted (trapped trap shell w who).world)
  traps_leave shell (by_task who) trap =
      let text = trap_text trap (task_of w.kern.tasks who) in
      elim (eqb who shell_id) as (λ b. Leaves (slotted w) (slotted (cond b (part_of at_prompt (writing (with_kern w (aborted w.kern)) text)) (part_of shell (writing (with_kern w (suspend w.kern who)) text))).world)) [ true ↦ here | false ↦ here ]
  traps_leave shell Interrupt trap = here

  return_leaves : (shell : ShellState) (who : Actor) → Leaves (slotted w) (slotted (return_part shell w who).world)
  return_leaves shell (by_task who) =
      let back = returned (slice_index (regs_of w (by_task who)).gpr 3) shell in
      elim (eqb who shell_id) as (λ b. Leaves (slotted w) (slotted (cond b (part_of back (without_own w (by_task who))) (part_of shell (ended w who))).world)) [ true ↦ here | false ↦ here ]
  return_leaves shell Interrupt = here

  regs_irqs : (who : Actor) (regs : Regs) → (with_regs w who regs).irqs ≡ w.irqs
  regs_irqs (by_task who) regs = refl
  regs_irqs Interrupt regs = refl

  -- ---- a step of any actor
  module _ (shell : ShellState) (who : Actor) where
    -- what its step does at a gate, or at none
    abbrev AtGate : Option Gate → WorldState → Type 0
    AtGate o v = Passes o who (caller_words w who) (slotted w) (slotted v)

    leaving : (o : Option Gate) (v : WorldState) → Leaves (slotted w) (slotted v) → AtGate o v
    leaving o v = passes_by o who (caller_words w who) (slotted w) (slotted v)

    gate_passes : (g : Gate) → AtGate (Some g) (gate_part g shell w who).world
    gate_passes g =
        elim (is_return g who) as (λ b. AtGate (Some g) (cond b (return_part shell w who) (cond (is_call g) (part_of shell (called g w who)) (trapped traps.Access shell w who))).world) [
          | true ↦ leaving (Some g) (return_part shell w who).world (return_leaves shell who)
          | false ↦
              elim (is_call g) as (λ b. AtGate (Some g) (cond b (part_of shell (called g w who)) (trapped traps.Access shell w who)).world) [
                | true ↦ subst (λ p. Passes (Some g) who (caller_words w who) (slotted w) p) (sym (own_slotted (call g w who) who)) (call_passes g w who is)
                | false ↦ leaving (Some g) (trapped traps.Access shell w who).world (traps_leave shell who traps.Access)
              ]
        ]

    executed_leaves : (o : Outcome BusState) → IfDone (HasPlaces w.slots) o → Leaves (slotted w) (slotted (executed o shell w who).world)
    executed_leaves (Done regs bus) same = record { places = same; counts = λ i. ap (λ irqs. pending_of irqs i) (regs_irqs who regs); lines = subst IsIrqs (sym (regs_irqs who regs)) is }
    executed_leaves (Trapped trap) same = traps_leave shell who trap

    word_leaves : (o : Option ℕ) → Leaves (slotted w) (slotted (word_part o shell w who).world)
    word_leaves None = traps_leave shell who traps.Access
    word_leaves (Some word) =
        executed_leaves (exec_of board_meaning (regs_of w who) word (bus_of w)) (executing_lasts board_meaning (HasPlaces w.slots) (places_last w.slots) (regs_of w who) word (bus_of w) (λ i. refl))

    at_passes : (o : Option Gate) → AtGate o (part_at o shell w who).world
    at_passes (Some g) = gate_passes g
    at_passes None = let word = fetched (bus_of w) (regs_of w who).pc in leaving None (word_part word shell w who).world (word_leaves word)

    actor_passes : AtGate (gate_under w who) (actor_part shell w who).world
    unfolding actor_part
    actor_passes = at_passes (gate_under w who)

  -- ---- evaluation
  comes_leave : (e : Ending) (later : List (Option Pending)) (v : WorldState) → Leaves (slotted w) (slotted v) → Leaves (slotted w) (slotted (came_to e later v).world)
  comes_leave (Value value) later v h = h
  comes_leave (Call callee words p) later v h = h
  comes_leave (Fault f) later v h = h
  comes_leave Waiting later v h = h

  eval_leaves : (trees : List (Option Pending)) → Leaves (slotted w) (slotted (eval_part trees w).world)
  eval_leaves [] = here
  eval_leaves (None ∷ later) = here
  eval_leaves (Some p ∷ later) =
      let e = evaluate (eval_state w) p in
      comes_leave e.ending later (with_eval w e.state)
      (record { places = evaluating_lasts (HasPlaces w.slots) (places_last w.slots) (λ b ram h. h) (eval_state w) p (λ i. refl); counts = λ i. refl; lines = is })

  -- ---- a load
  verdict_leaves : (u : WorldState) (name : List ℕ) (mode : ℕ) (m : Module) (v : Result Places LoadErr) → slotted u ≡ slotted w → Leaves (slotted w) (slotted (by_verdict u name mode m v))
  verdict_leaves u name mode m (Ok at) e = subst (Leaves (slotted w)) (sym e) here
  verdict_leaves u name mode m (Err e) same = subst (Leaves (slotted w)) (sym same) here

  effect_leaves : (u : WorldState) (name : List ℕ) (mode : ℕ) (said : FileSaid) → slotted u ≡ slotted w → Leaves (slotted w) (slotted (effect u name mode said))
  effect_leaves u name mode (Held file) e = verdict_leaves u name mode (module_at file) (file_verdict (loader_state u) file mode) e
  effect_leaves u name mode Missing e = subst (Leaves (slotted w)) (sym e) here
  effect_leaves u name mode TooLong e = subst (Leaves (slotted w)) (sym e) here

  load_leaves : (name : List ℕ) (said : FileSaid) → Leaves (slotted w) (slotted (load_call w name said))
  unfolding load_call
  load_leaves name said = effect_leaves (left_gate w shell) name (mode_wanted w) said refl

-- ---- the steps of a state
module _ (s : State) (is : IsIrqs s.world.irqs) where
  -- what the step of this task does
  abbrev PassesBy : ℕ → State → Type 0
  PassesBy who u = Passes (gate_under s.world (by_task who)) (by_task who) (caller_words s.world (by_task who)) (slotted s.world) (slotted u.world)

  task_step_passes : (who : ℕ) → PassesBy who (task_step s who)
  task_step_passes who =
      let w = at_step_start s.world who in
      subst (λ o. Passes o (by_task who) (caller_words s.world (by_task who)) (slotted s.world) (slotted (task_step s who).world)) (own_gate s.world who)
      (subst (λ r. Passes (gate_under w (by_task who)) (by_task who) r (slotted s.world) (slotted (task_step s who).world)) (own_words s.world who)
      (actor_passes w is s.shell (by_task who)))

  leaves : (u : State) → Leaves (slotted s.world) (slotted u.world) → PassesBy shell_id u
  leaves u = passes_by (gate_under s.world shell) shell (caller_words s.world shell) (slotted s.world) (slotted u.world)

  shell_step_passes : (p : Phase) → PassesBy shell_id (shell_step p s)
  shell_step_passes phases.Prompt = leaves (shell_step phases.Prompt s) (left (slotted s.world) is)
  shell_step_passes phases.Read = leaves (shell_step phases.Read s) (left (slotted s.world) is)
  shell_step_passes phases.Eval = leaves (shell_step phases.Eval s) (eval_leaves (at_step_start s.world shell_id) is s.shell.trees)
  shell_step_passes phases.Call = task_step_passes shell_id

  -- only in phase Call does a step of the shell's task remove a device
  removed_by_shell : (p : Phase) (i : ℕ) → is_gone (slotted s.world) (slotted (shell_step p s).world) i ≡ true → p ≡ phases.Call
  removed_by_shell phases.Prompt i e = absurd (clash _ e (not_gone (slotted s.world) (slotted (shell_step phases.Prompt s).world) i refl))
  removed_by_shell phases.Read i e = absurd (clash _ e (not_gone (slotted s.world) (slotted (shell_step phases.Read s).world) i refl))
  removed_by_shell phases.Eval i e =
      absurd (clash _ e (not_gone (slotted s.world) (slotted (shell_step phases.Eval s).world) i ((eval_leaves (at_step_start s.world shell_id) is s.shell.trees).places i)))
  removed_by_shell phases.Call i e = refl

  pub removed_in_call : (who i : ℕ) → is_gone (slotted s.world) (slotted (step_of s who).world) i ≡ true → IsOnProcessor s.shell.phase (by_task who)
  removed_in_call who i e own =
      removed_by_shell s.shell.phase i (subst (λ b. is_gone (slotted s.world) (slotted (cond b (shell_step s.shell.phase s) (task_step s who)).world) i ≡ true) (eq-eqb who shell_id own) e)

  pub step_passes : (who : ℕ) → PassesBy who (step_of s who)
  step_passes who =
      elim (eqb who shell_id) as (λ b. eqb who shell_id ≡ b → PassesBy who (cond b (shell_step s.shell.phase s) (task_step s who))) [
        | true ↦ λ e. subst (λ n. PassesBy n (shell_step s.shell.phase s)) (sym (eqb-true who shell_id e)) (shell_step_passes s.shell.phase)
        | false ↦ λ e. task_step_passes who
      ] refl

  abbrev routine_world : WorldState
  routine_world = cleared (unreserved_world s.world)

  pub routine_step_passes : Passes (gate_under routine_world Interrupt) Interrupt (caller_words routine_world Interrupt) (slotted s.world) (slotted (routine_step s).world)
  routine_step_passes = actor_passes routine_world is s.shell Interrupt

  pub load_step_leaves : (said : FileSaid) (name : List ℕ) → Leaves (slotted s.world) (slotted (load_step said s name).world)
  load_step_leaves said name = load_leaves (at_step_start s.world shell_id) is name said
