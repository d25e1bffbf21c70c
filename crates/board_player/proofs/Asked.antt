-- The file that the next step needs.
use Rattle.std.proofs.Common.{◌≡◌, ℕ, true, false, cond, eqb, List, Option, None, Some, refl, sym, ap, ◌∙◌}
use Rattle.std.specs.Prelude.{slice_index, unwrap_or}
use Rattle.std.specs.Option.{option_map}
use Rattle.std.proofs.lemmas.Bool.{eqb-true}
use Rattle.wind_base.specs.Boards.{board_rules}
use Rattle.wind_base.specs.Gates.{gate_at}
use Rattle.wind_base.specs.declared.gate.Gate.{Gate}
use Rattle.wind_base.specs.declared.gate.Gate.TheVariants as gates
use Rattle.board_mem.specs.Memory.{string_at}
use Rattle.live_loading.specs.KernelWorldState.{WorldState}
use Rattle.live_loading.specs.KernelWorldStarting.{no_regs}
use Rattle.id_table.specs.Idents.{shell_id}
use Rattle.live_loading.specs.KernelWorldActors.{caller_regs, caller_words}
use Rattle.wind_machine.specs.KernelCallsCalls.{file_name, file_of, file_wanted}
use Rattle.live_loading.specs.KernelWorldObjects.{IsReady}
use Rattle.live_loading.specs.KernelWorldActor.TheVariants.{Task as by_task}
use Rattle.wind_machine.specs.LiveLoadingLoading.{shell}
use Rattle.wind_machine.specs.State.{State}
use Rattle.wind_machine.specs.Good.{Good}
use Rattle.wind_machine.specs.Processor.{regs_of, gate_under}
use Rattle.wind_machine.specs.ActorSteps.{IsOnProcessor, at_step_start, shell_world, file_at, file_in, file_for}
use Rattle.wind_machine.specs.Machine.{file_asked}
use Rattle.wind_machine.proofs.Free.{own_found}
use Rattle.wind_machine.proofs.Asking.{shells, shell_ready, at_load}

-- ---- the file that the shell's task needs in a call: the one of its call, at the gate of ld
pub elsewhere_at : (o : Option Gate) (w : WorldState) → (o ≡ Some gates.Ld → ⊥) → file_at o w ≡ None
elsewhere_at None w other = refl
elsewhere_at (Some gates.Ld) w other = absurd (other refl)
elsewhere_at (Some g) w other = refl

pub at_load_is : (o : Option Gate) (w : WorldState) → o ≡ Some gates.Ld → file_at o w ≡ file_wanted gates.Ld w shell
at_load_is o w e = ap (λ p. file_at p w) e

-- ---- a step that needs no file
-- its call needs none, at the gate where the task is
others_want : (g : Gate) (w : WorldState) (who : ℕ) → eqb who shell_id ≡ false → file_wanted g w (by_task who) ≡ None
others_want gates.Ld w who e = ap (λ b. file_of w.ram (cond b (Some (record { name = slice_index (caller_words w (by_task who)) 5; mode = slice_index (caller_words w (by_task who)) 3 })) None)) e
others_want g w who e = refl

-- the registers of the shell's task, and so the file of its call, are those before other tasks' reservations are
-- dropped
same_regs : (s : State) → caller_regs (shell_world s).kern s.world.watch.level shell ≡ caller_regs s.world.kern s.world.watch.level shell
same_regs s = ap (λ o. unwrap_or (option_map (λ t. t.regs) o) no_regs) (own_found s.world.kern.tasks shell_id)

same_wanted : (s : State) (g : Gate) → file_wanted g (shell_world s) shell ≡ file_wanted g s.world shell
same_wanted s gates.Ld = ap (λ r. file_name (string_at s.world.ram (slice_index r.gpr 5))) (same_regs s)
same_wanted s g = refl

pub unasked_call : (s : State) (who at : ℕ) (g : Gate) (v : WorldState) → v ≡ at_step_start s.world who → at ≡ (regs_of s.world (by_task who)).pc → gate_at (board_rules s.world.board).gates_start at ≡ Some g
    → file_for s who ≡ None → IsOnProcessor s.shell.phase (by_task who) → file_wanted g v (by_task who) ≡ None
unasked_call s who at g v said_no here some none call =
    elim (eqb who shell_id) as (λ b. eqb who shell_id ≡ b → cond b (file_in s.shell.phase s.world) None ≡ None → file_wanted g v (by_task who) ≡ None) [
      | true ↦ λ own asks.
          let one : who ≡ shell_id = eqb-true who shell_id own in
          let start_step : v ≡ shell_world s = said_no ∙ ap (at_step_start s.world) one in
          let stands : gate_under s.world shell ≡ Some g = ap (λ n. gate_under s.world (by_task n)) (sym one) ∙ ap (gate_at (board_rules s.world.board).gates_start) (sym here) ∙ some in
          ap (λ n. file_wanted g v (by_task n)) one ∙ ap (λ u. file_wanted g u shell) start_step ∙ same_wanted s g
          ∙ ap (λ o. file_at o s.world) (sym stands) ∙ ap (λ p. file_in p s.world) (sym (call one)) ∙ asks
      | false ↦ λ own asks. others_want g v who own
    ] refl none

-- ---- a step that needs a file
pub wanted : (s : State) (name : List ℕ) → file_asked s ≡ Some name → file_wanted gates.Ld (shell_world s) shell ≡ Some name
wanted s name e = same_wanted s gates.Ld ∙ (at_load s.shell.phase s.world name (shells s name e).file).wanted

pub asker_ready : (s : State) (name : List ℕ) → Good s → file_asked s ≡ Some name → IsReady s.world.kern shell_id
asker_ready s name g e = shell_ready s g (shells s name e).who
