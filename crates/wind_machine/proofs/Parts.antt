-- What each step of an actor keeps.
use Rattle.std.proofs.Common.{◌≡◌, ◌≢◌, ℕ, ◌+◌, ◌≤◌, Bool, true, false, cond, eqb, List, [], ◌∷◌, ◌++◌, length, Option, None, Some, refl, sym, ap, ◌∙◌, arith}
use Rattle.std.specs.Prelude.{slice_index}
use Rattle.wind_base.specs.declared.gate.Gate.{Gate}
use Rattle.wind_base.specs.declared.regs.Regs.{Regs}
use Rattle.ppc_core.specs.Instructions.{exec_of}
use Rattle.ppc_core.specs.Outcomes.{Outcome, Done, Trapped}
use Rattle.ppc_core.specs.declared.trap.Trap.{Trap}
use Rattle.ppc_core.specs.declared.trap.Trap.TheVariants as traps
use Rattle.board_bus.specs.BusState.{BusState}
use Rattle.board_bus.specs.Access.{board_meaning, fetched}
use Rattle.wind_core.specs.State.{Lives, task_of}
use Rattle.wind_core.specs.Moves.{suspend}
use Rattle.wind_core.specs.Move.{Suspend}
use Rattle.live_loading.specs.KernelWorldState.{WorldState}
use Rattle.id_table.specs.Idents.{shell_id}
use Rattle.live_loading.specs.KernelWorldActors.{MayCall}
use Rattle.live_loading.specs.KernelCallsCalls.{call}
use Rattle.live_loading.specs.KernelWorldAllowed.{is_call}
use Rattle.live_loading.specs.CallRowsEnding.{ended}
use Rattle.live_loading.specs.KernelWorldKept.{IsWorld, Within, call_sinces}
use Rattle.live_loading.specs.KernelWorldActor.{Actor}
use Rattle.live_loading.specs.KernelWorldActor.TheVariants.{Task as by_task, Interrupt}
use Rattle.live_loading.proofs.KernelWorldGoes.{goes-move}
use Rattle.live_loading.proofs.KernelWorldObjectMoves.{objects-listen, objects-move}
use Rattle.wind_machine.proofs.Hearing.{objects-aborted}
use Rattle.live_loading.specs.Said.{FileSaid}
use Rattle.live_loading.specs.Loading.{shell as by_shell, load_call}
use Rattle.live_loading.specs.Laws.{LoadLaw}
use Rattle.live_loading.specs.KernelWorldObjects.{IsFree, IsReady}
use Rattle.live_loading.proofs.KernelWorldLiving.{ready_free}
use Rattle.live_loading.proofs.KernelWorldAdvancing.{Advances, advances_on, by_kern, beside, at_routine}
use Rattle.live_loading.proofs.KernelCallsPassing.{call_passes}
use Rattle.shell_eval.specs.Pending.{Pending}
use Rattle.shell_eval.specs.Evaluate.{Ending, Value, Call, Fault, Waiting, evaluate}
use Rattle.shell_eval.proofs.KeptSteps.{keeps}
use Rattle.shell_parse.specs.Reading.{Reading}
use Rattle.wind_machine.specs.State.{ShellState}
use Rattle.wind_machine.specs.Good.{HasItsLine}
use Rattle.wind_machine.specs.Part.{Part, part_of, with_kern, writing}
use Rattle.wind_machine.specs.Task.{aborted, listening, stack_pointer, call_regs}
use Rattle.live_loading.specs.TextShowValue.{value_text}
use Rattle.wind_machine.specs.Text.{prompt_text, fault_text, routine_text}
use Rattle.wind_machine.specs.Shell.{at_prompt, shell_with, returned, prompt_part, read_part, read_text, eval_state, with_eval, calling, came_to, eval_part}
use Rattle.wind_machine.specs.Routine.{without_reserve, next_routine}
use Rattle.wind_machine.specs.Next.{is_active}
use Rattle.wind_machine.specs.Processor.{bus_of, regs_of, with_regs, trap_text, trapped, is_return, without_own, return_part, called, gate_part, executed, word_part, part_at, gate_under, actor_part}
use Rattle.wind_machine.specs.declared.phase.Phase.TheVariants as phases
use Rattle.wind_machine.proofs.Executing.{IfDone, executing_lasts, sizes_last}
use Rattle.wind_machine.proofs.Dropping.{unreserve_advances}
use Rattle.wind_machine.proofs.Moves.{goes-listening, goes-aborted}
use Rattle.wind_machine.proofs.PartLaws.{KeepsWorld, keeps_by, keeps_passed, keeps_then, nowhere, more_counts, touched, wrote, gave_regs, ended_keeps_world, framed_size, evaluated_keeps_world}
use Rattle.wind_machine.proofs.Kept.{needs_none}
use Rattle.wind_machine.proofs.Routines.{done_advances, level_advances}

-- what a step of an actor leaves: the world went on, and a shell that reads has its line
pub record PartKeeps (w : WorldState) (p : Part) (who : Actor) (n : ℕ) (finished : List ℕ) : Type 0 where
  pub keeps_world : KeepsWorld w p.world who n
  pub read : HasItsLine p.shell.phase finished

-- the actor may make a step: a task is ready, and a routine is active
abbrev pub MayStep : WorldState → Actor → Type 0
MayStep w (by_task who) = IsReady w.kern who
MayStep w Interrupt = is_active w ≡ true

-- and so it may make a call
may_call : (w : WorldState) (who : Actor) → MayStep w who → MayCall w.kern who
may_call w (by_task who) ready = ready
may_call w Interrupt active = tt

-- its reservation is dropped
own_advances : (w : WorldState) (n : ℕ) → IsWorld w → Within n w → (who : Actor) → Advances w (without_own w who) n 0 0
own_advances w n kept within (by_task who) = unreserve_advances w n kept within who
own_advances w n kept within Interrupt = at_routine w kept n within without_reserve

module _ (w : WorldState) (n : ℕ) (kept : IsWorld w) (within : Within n w) where
  here : (who : Actor) → KeepsWorld w w who (n + 1)
  here who = more_counts w w who n (nowhere w who n kept within)

  -- ---- the shell's own steps
  pub prompt_keeps_world : Lives w.kern shell_id → (has : Bool) (shell : ShellState) → KeepsWorld w (prompt_part has shell w).world by_shell (n + 1)
  prompt_keeps_world live has shell =
      elim has as (λ b. KeepsWorld w (writing (with_kern w (cond b w.kern (listening w.kern))) prompt_text) by_shell (n + 1)) [
        | true ↦ wrote w w by_shell (n + 1) (here by_shell) (w.output ++ prompt_text)
        | false ↦
            let v = with_kern w (listening w.kern) in
            let goes = keeps_by w v by_shell n 1 0 (omega arith) (omega arith) (by_kern w kept (listening w.kern) n 1 (goes-listening w.kern n kept.kern within.0) (objects-listen w.kern w.objects kept.kern kept.objects false 4294967295 live (omega arith)) within.1) in
            wrote w v by_shell (n + 1) (more_counts w v by_shell n goes) (w.output ++ prompt_text)
      ]

  pub read_keeps_world : (reading : Reading) → KeepsWorld w (read_part reading w).world by_shell (n + 1)
  read_keeps_world reading = wrote w w by_shell (n + 1) (here by_shell) (w.output ++ read_text reading)

  module _ (finished : List ℕ) where
    -- a shell after a statement doesn't read
    after_phase : (later : List (Option Pending)) → (shell_with later).phase ≢ phases.Read
    after_phase [] = λ e. cc
    after_phase (p ∷ ps) = λ e. cc

    call_begins : (v : WorldState) → IsFree v.kern shell_id → KeepsWorld w v by_shell (n + 1) → (callee : ℕ) (words : List ℕ) → KeepsWorld w (calling v callee words) by_shell (n + 1)
    call_begins v free t callee words =
        let u = with_kern v (calling v callee words).kern in
        touched w u by_shell (n + 1) (gave_regs w v shell_id (n + 1) t (call_regs v.board callee words) free) (calling v callee words).ram v.slots v.output (framed_size v.ram stack_pointer words)

    comes_to : (e : Ending) (later : List (Option Pending)) (v : WorldState) → IsFree v.kern shell_id → KeepsWorld w v by_shell (n + 1) → PartKeeps w (came_to e later v) by_shell (n + 1) finished
    comes_to (Value value) later v free t = record { keeps_world = wrote w v by_shell (n + 1) t (v.output ++ value_text value); read = needs_none (shell_with later).phase finished (after_phase later) }
    comes_to (Call callee words p) later v free t = record { keeps_world = call_begins v free t callee words; read = needs_none phases.Call finished (λ e. cc) }
    comes_to (Fault f) later v free t = record { keeps_world = wrote w v by_shell (n + 1) t (v.output ++ fault_text f); read = needs_none phases.Prompt finished (λ e. cc) }
    comes_to Waiting later v free t = record { keeps_world = t; read = needs_none phases.Prompt finished (λ e. cc) }

    pub eval_keeps : (trees : List (Option Pending)) → IsReady w.kern shell_id → PartKeeps w (eval_part trees w) by_shell (n + 1) finished
    eval_keeps [] ready = record { keeps_world = here by_shell; read = needs_none phases.Prompt finished (λ e. cc) }
    eval_keeps (None ∷ later) ready = record { keeps_world = here by_shell; read = needs_none (shell_with later).phase finished (after_phase later) }
    eval_keeps (Some p ∷ later) ready =
        let e = evaluate (eval_state w) p in
        let v = with_eval w e.state in
        comes_to e.ending later v (ready_free w.kern shell_id ready) (more_counts w v by_shell n (evaluated_keeps_world w by_shell n e.state kept within (keeps (eval_state w) p)))

    -- ---- the load of a file
    pub load_keeps : LoadLaw → (shell : ShellState) → HasItsLine shell.phase finished → IsReady w.kern shell_id → (name : List ℕ) (said : FileSaid)
        → PartKeeps w (part_of shell (without_own (load_call w name said) by_shell)) by_shell (n + 1) finished
    load_keeps law shell read ready name said =
        let v = load_call w name said in
        let u = without_own v by_shell in
        let made = law w name said n kept ready within in
        record {
          keeps_world = keeps_then w v u by_shell (n + 1) (keeps_passed w v by_shell (n + 1) call_sinces 1 (omega arith) (omega arith) made) (own_advances v (n + 1) made.kept made.within by_shell);
          read = read;
        }

    -- ---- a step of any actor
    module _ (shell : ShellState) (read : HasItsLine shell.phase finished) where
      -- within the step all tasks live on, and no numbers but these are handed out
      by_move : (who : Actor) (v : WorldState) (d : ℕ) → d ≤ call_sinces → Advances w v n d 0 → KeepsWorld w v who (n + 1)
      by_move who v d few a = more_counts w v who n (keeps_by w v who n d 0 few (omega arith) a)

      written : (who : Actor) (v : WorldState) → KeepsWorld w v who (n + 1) → (text : List ℕ) → KeepsWorld w (writing v text) who (n + 1)
      written who v t text = wrote w v who (n + 1) t (v.output ++ text)

      suspended_keeps : (who : ℕ) (text : List ℕ) → PartKeeps w (part_of shell (writing (with_kern w (suspend w.kern who)) text)) (by_task who) (n + 1) finished
      suspended_keeps who text =
          let v = with_kern w (suspend w.kern who) in
          let goes = by_kern w kept (suspend w.kern who) n 0 (goes-move w.kern n kept.kern within.0 (Suspend who) tt) (objects-move w.kern w.objects kept.kern kept.objects (Suspend who) (tt, tt, tt, tt)) within.1 in
          record { keeps_world = written (by_task who) v (by_move (by_task who) v 0 (omega arith) goes) text; read = read }

      aborted_keeps : (who : ℕ) (text : List ℕ) → PartKeeps w (part_of at_prompt (writing (with_kern w (aborted w.kern)) text)) (by_task who) (n + 1) finished
      aborted_keeps who text =
          let v = with_kern w (aborted w.kern) in
          let goes = by_kern w kept (aborted w.kern) n 2 (goes-aborted w.kern n kept.kern within.0) (objects-aborted w.kern w.objects kept.kern kept.objects) within.1 in
          record { keeps_world = written (by_task who) v (by_move (by_task who) v 2 (omega arith) goes) text; read = needs_none phases.Prompt finished (λ e. cc) }

      trapped_keeps : (who : Actor) (trap : Trap) → PartKeeps w (trapped trap shell w who) who (n + 1) finished
      trapped_keeps (by_task who) trap =
          let text = trap_text trap (task_of w.kern.tasks who) in
          elim (eqb who shell_id) as (λ b. PartKeeps w (cond b (part_of at_prompt (writing (with_kern w (aborted w.kern)) text)) (part_of shell (writing (with_kern w (suspend w.kern who)) text))) (by_task who) (n + 1) finished) [
            | true ↦ aborted_keeps who text
            | false ↦ suspended_keeps who text
          ]
      trapped_keeps Interrupt trap =
          let text = routine_text trap (regs_of w Interrupt).pc in
          let v = writing w text in
          let reported = beside w kept n within w.slots (w.output ++ text) w.int_errno in
          record { keeps_world = by_move Interrupt (next_routine v) 0 (omega arith) (advances_on w v (next_routine v) n n 0 0 0 0 reported (done_advances v n reported.kept reported.within)); read = read }

      -- ---- at a gate
      return_keeps : (who : Actor) → PartKeeps w (return_part shell w who) who (n + 1) finished
      return_keeps (by_task who) =
          let back = returned (slice_index (regs_of w (by_task who)).gpr 3) shell in
          let v = without_own w (by_task who) in
          elim (eqb who shell_id) as (λ b. eqb who shell_id ≡ b → PartKeeps w (cond b (part_of back v) (part_of shell (ended w who))) (by_task who) (n + 1) finished) [
            | true ↦ λ e. record { keeps_world = by_move (by_task who) v 0 (omega arith) (own_advances w n kept within (by_task who)); read = needs_none phases.Eval finished (λ q. cc) }
            | false ↦ λ e. record { keeps_world = more_counts w (ended w who) (by_task who) n (ended_keeps_world w who n e kept within); read = read }
          ] refl
      return_keeps Interrupt = record { keeps_world = by_move Interrupt (next_routine w) 0 (omega arith) (done_advances w n kept within); read = read }

      -- ---- an instruction
      regs_ram : (who : Actor) (regs : Regs) → (with_regs w who regs).ram ≡ w.ram
      regs_ram (by_task who) regs = refl
      regs_ram Interrupt regs = refl

      regs_keep : (who : Actor) → MayStep w who → (regs : Regs) → KeepsWorld w (with_regs w who regs) who (n + 1)
      regs_keep (by_task who) ready regs = gave_regs w w who (n + 1) (here (by_task who)) regs (ready_free w.kern who ready)
      regs_keep Interrupt active regs = by_move Interrupt (with_regs w Interrupt regs) 0 (omega arith) (level_advances w n kept within active regs)

      module _ (who : Actor) (may : MayStep w who) where
        call_keeps : (g : Gate) → PartKeeps w (part_of shell (called g w who)) who (n + 1) finished
        call_keeps g =
            let v = call g w who in
            let made = call_passes g w who n kept (may_call w who may) within in
            record {
              keeps_world = keeps_then w v (called g w who) who (n + 1) (keeps_passed w v who (n + 1) call_sinces 1 (omega arith) (omega arith) made) (own_advances v (n + 1) made.kept made.within who);
              read = read;
            }

        gate_keeps : (g : Gate) → PartKeeps w (gate_part g shell w who) who (n + 1) finished
        gate_keeps g =
            elim (is_return g who) as (λ b. PartKeeps w (cond b (return_part shell w who) (cond (is_call g) (part_of shell (called g w who)) (trapped traps.Access shell w who))) who (n + 1) finished) [
              | true ↦ return_keeps who
              | false ↦ elim (is_call g) as (λ b. PartKeeps w (cond b (part_of shell (called g w who)) (trapped traps.Access shell w who)) who (n + 1) finished) [ true ↦ call_keeps g | false ↦ trapped_keeps who traps.Access ]
            ]

        executed_keeps : (o : Outcome BusState) → IfDone (λ b. length b.ram ≡ length w.ram) o → PartKeeps w (executed o shell w who) who (n + 1) finished
        executed_keeps (Done regs bus) same =
            let v = with_regs w who regs in
            record { keeps_world = touched w v who (n + 1) (regs_keep who may regs) bus.ram bus.slots v.output (same ∙ sym (ap length (regs_ram who regs))); read = read }
        executed_keeps (Trapped trap) same = trapped_keeps who trap

        word_keeps : (o : Option ℕ) → PartKeeps w (word_part o shell w who) who (n + 1) finished
        word_keeps None = trapped_keeps who traps.Access
        word_keeps (Some word) =
            executed_keeps (exec_of board_meaning (regs_of w who) word (bus_of w))
            (executing_lasts board_meaning (λ b. length b.ram ≡ length w.ram) (sizes_last (length w.ram)) (regs_of w who) word (bus_of w) refl)

        at_keeps : (o : Option Gate) → PartKeeps w (part_at o shell w who) who (n + 1) finished
        at_keeps (Some g) = gate_keeps g
        at_keeps None = word_keeps (fetched (bus_of w) (regs_of w who).pc)

        pub actor_keeps : PartKeeps w (actor_part shell w who) who (n + 1) finished
        unfolding actor_part
        actor_keeps = at_keeps (gate_under w who)
