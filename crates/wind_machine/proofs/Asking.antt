-- Who makes the step that needs a file.
use Rattle.std.proofs.Common.{◌≡◌, ℕ, true, false, cond, eqb, List, Option, None, Some, refl, sym, ap, ◌∙◌, subst}
use Rattle.std.specs.Prelude.{unwrap_or}
use Rattle.std.specs.Option.{option_map}
use Rattle.std.proofs.lemmas.Bool.{eqb-true}
use Rattle.wind_base.specs.declared.gate.Gate.{Gate}
use Rattle.wind_base.specs.declared.gate.Gate.TheVariants as gates
use Rattle.live_loading.specs.KernelWorldState.{WorldState}
use Rattle.wind_base.specs.Boards.{board_rules}
use Rattle.wind_base.specs.Gates.{gate_at}
use Rattle.live_loading.specs.KernelWorldStarting.{no_regs}
use Rattle.id_table.specs.Idents.{shell_id}
use Rattle.live_loading.specs.KernelCallsCalls.{file_wanted}
use Rattle.live_loading.specs.KernelWorldObjects.{IsReady}
use Rattle.live_loading.specs.KernelWorldActors.{caller_words}
use Rattle.live_loading.specs.KernelWorldActor.{Actor}
use Rattle.live_loading.specs.KernelWorldActor.TheVariants.{Task as by_task}
use Rattle.live_loading.specs.Loading.{shell}
use Rattle.wind_machine.specs.State.{State}
use Rattle.wind_machine.specs.Good.{Good}
use Rattle.wind_machine.specs.Processor.{gate_under}
use Rattle.wind_machine.specs.ActorSteps.{IsOnProcessor, at_step_start, shell_world, shell_step, task_step, step_of, file_at, file_in}
use Rattle.wind_machine.specs.Next.{next}
use Rattle.wind_machine.specs.Machine.{actor_of, stepping, file_of, file_asked, may_exhaust_memory, next_may}
use Rattle.wind_machine.specs.declared.next.Next.{Next}
use Rattle.wind_machine.specs.declared.next.Next.TheVariants.{Load}
use Rattle.wind_machine.specs.declared.phase.Phase.{Phase}
use Rattle.wind_machine.specs.declared.phase.Phase.TheVariants as phases
use Rattle.wind_machine.proofs.Order.{by_next}
use Rattle.wind_machine.proofs.Free.{runner_ready, own_found}

-- the shell's task does
pub record IsShells (s : State) (o : Option Actor) (name : List ℕ) : Type 0 where
  pub who : o ≡ Some shell
  pub file : file_in s.shell.phase s.world ≡ Some name

pub shells : (s : State) (name : List ℕ) → file_asked s ≡ Some name → IsShells s (stepping s) name
unfolding file_asked
shells s name = by_next s (λ n. file_of n ≡ Some name → IsShells s (actor_of n) name) (record {
  deliver = λ i due q. absurd (cc);
  come = λ held e due q. absurd (cc);
  arrive = λ held quiet due q. absurd (cc);
  routine = λ nothing active q. absurd (cc);
  act = λ left t runs none q. absurd (cc);
  load = λ left t runs own given found q. record { who = refl; file = found ∙ q };
  jump = λ left nobody e there q. absurd (cc);
  over = λ left nobody none q. absurd (cc);
})

-- the task is at the gate of ld, in a call
pub record IsAtLoad (p : Phase) (o : Option Gate) (w : WorldState) (name : List ℕ) : Type 0 where
  pub phase : p ≡ phases.Call
  pub gate : o ≡ Some gates.Ld
  pub wanted : file_wanted gates.Ld w shell ≡ Some name

at_gate : (g : Gate) (w : WorldState) (name : List ℕ) → file_wanted g w shell ≡ Some name → IsAtLoad phases.Call (Some g) w name
at_gate gates.Ld w name e = record { phase = refl; gate = refl; wanted = e }
at_gate g w name e = absurd (cc)

at_place : (o : Option Gate) (w : WorldState) (name : List ℕ) → file_at o w ≡ Some name → IsAtLoad phases.Call o w name
at_place None w name e = absurd (cc)
at_place (Some g) w name e = at_gate g w name e

pub at_load : (p : Phase) (w : WorldState) (name : List ℕ) → file_in p w ≡ Some name → IsAtLoad p (gate_under w shell) w name
at_load phases.Call w name e = at_place (gate_under w shell) w name e
at_load phases.Prompt w name e = absurd (cc)
at_load phases.Read w name e = absurd (cc)
at_load phases.Eval w name e = absurd (cc)

-- the shell's task is ready if it makes the next step
pub shell_ready : (s : State) → Good s → stepping s ≡ Some shell → IsReady s.world.kern shell_id
shell_ready s g = by_next s (λ n. actor_of n ≡ Some shell → IsReady s.world.kern shell_id) (record {
  deliver = λ i due q. absurd (cc);
  come = λ held e due q. absurd (cc);
  arrive = λ held quiet due q. absurd (cc);
  routine = λ nothing active q. absurd (cc);
  act = λ left t runs none q. let own : t.id ≡ shell_id = cc in subst (IsReady s.world.kern) own (runner_ready s.world.kern g.kept.world.kern t runs);
  load = λ left t runs own name found q. subst (IsReady s.world.kern) own (runner_ready s.world.kern g.kept.world.kern t runs);
  jump = λ left nobody e there q. absurd (cc);
  over = λ left nobody none q. absurd (cc);
})

-- ---- the gate and the words of the task that makes the step are the same in the world at its step
pub own_gate : (w : WorldState) (who : ℕ) → gate_under (at_step_start w who) (by_task who) ≡ gate_under w (by_task who)
own_gate w who = ap (λ o. gate_at (board_rules w.board).gates_start (unwrap_or (option_map (λ t. t.regs) o) no_regs).pc) (own_found w.kern.tasks who)

pub own_words : (w : WorldState) (who : ℕ) → caller_words (at_step_start w who) (by_task who) ≡ caller_words w (by_task who)
own_words w who = ap (λ o. (unwrap_or (option_map (λ t. t.regs) o) no_regs).gpr) (own_found w.kern.tasks who)

pub same_gate : (s : State) → gate_under (shell_world s) shell ≡ gate_under s.world shell
same_gate s = own_gate s.world shell_id

-- ---- the step of a task that makes instructions and calls is one of any task
pub as_task : (s : State) (who : ℕ) → IsOnProcessor s.shell.phase (by_task who) → step_of s who ≡ task_step s who
as_task s who calls =
    elim (eqb who shell_id) as (λ b. eqb who shell_id ≡ b → cond b (shell_step s.shell.phase s) (task_step s who) ≡ task_step s who) [
      | true ↦ λ e. let own = eqb-true who shell_id e in ap (λ p. shell_step p s) (calls own) ∙ ap (task_step s) (sym own)
      | false ↦ λ e. refl
    ] refl

-- ---- a task or routine at no gate needs no file
pub asks_at_gate : (s : State) (who : Actor) → stepping s ≡ Some who → gate_under s.world who ≡ None → file_asked s ≡ None
asks_at_gate s who comes none = go (file_asked s) refl where
  go : (o : Option (List ℕ)) → file_asked s ≡ o → o ≡ None
  go None e = refl
  go (Some name) e =
      let by = shells s name e in
      let same : who ≡ shell = (let both : Some who ≡ Some shell = sym comes ∙ by.who in cc) in
      let there : gate_under s.world who ≡ Some gates.Ld = ap (gate_under s.world) same ∙ (at_load s.shell.phase s.world name by.file).gate in
      absurd (cc)

-- ---- a step that needs a file may run out of memory
pub asked_may : (s : State) (name : List ℕ) → file_asked s ≡ Some name → may_exhaust_memory s ≡ true
unfolding file_asked
asked_may s name e = may (next s) e where
  may : (n : Next) → file_of n ≡ Some name → next_may s n ≡ true
  may (Load given) q = refl
  may n q = absurd (cc)
