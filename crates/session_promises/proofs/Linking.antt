-- A load that comes next writes no RAM outside its own blocks.
use Rattle.std.proofs.Common.{◌≡◌, ℕ, List, subst}
use Rattle.id_table.specs.Idents.{shell_id}
use Rattle.wind_machine.specs.KernelWorldObjects.{IsReady}
use Rattle.wind_machine.specs.LiveLoadingSaid.{FileSaid}
use Rattle.wind_machine.specs.LiveLoadingLoading.{load_call}
use Rattle.wind_machine.specs.LiveLoadingLaws.{AloneLaw, OnlyLoads}
use Rattle.wind_machine.specs.State.{State}
use Rattle.wind_machine.specs.Good.{Good}
use Rattle.wind_machine.specs.ActorSteps.{shell_world}
use Rattle.wind_machine.specs.Next.{next}
use Rattle.wind_machine.specs.declared.next.Next.{Next}
use Rattle.wind_machine.specs.declared.next.Next.TheVariants.{Load}
use Rattle.wind_machine.proofs.Order.{by_next}
use Rattle.wind_machine.proofs.Free.{runner_ready, step_start_ready}
use Rattle.wind_machine.proofs.Steps.{step_start_advances}

module _ (law : AloneLaw) (said : FileSaid) (s : State) (g : Good s) where
  abbrev Links : Next → Type 0
  Links n = (name : List ℕ) → n ≡ Load name → OnlyLoads (shell_world s) (load_call (shell_world s) name said)

  loads : IsReady s.world.kern shell_id → (name : List ℕ) → OnlyLoads (shell_world s) (load_call (shell_world s) name said)
  loads ready name = law (shell_world s) name said (step_start_advances s g.kept shell_id).kept (step_start_ready s.world.kern shell_id ready)

  pub links_alone : Links (next s)
  links_alone = by_next s Links (record {
    deliver = λ i due. λ name e. absurd (cc);
    come = λ held e due. λ name q. absurd (cc);
    arrive = λ held quiet due. λ name e. absurd (cc);
    routine = λ nothing active. λ name e. absurd (cc);
    act = λ left t runs none. λ name e. absurd (cc);
    load = λ left t runs own found there. λ name e. loads (subst (IsReady s.world.kern) own (runner_ready s.world.kern g.kept.world.kern t runs)) name;
    jump = λ left nobody e there. λ name q. absurd (cc);
    over = λ left nobody none. λ name e. absurd (cc);
  })
