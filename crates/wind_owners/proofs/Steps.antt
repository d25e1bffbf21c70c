-- A step of the machine changes the owner of no mutex, except of the one that its call names.
use Rattle.std.proofs.Common.{◌≡◌, ℕ, true, false, cond, eqb, List, Option, None, Some, refl, ap, subst}
use Rattle.std.specs.Option.{option_map}
use Rattle.std.proofs.lemmas.Bool.{eqb-true}
use Rattle.std.proofs.lemmas.Option.{same_Some}
use Rattle.tick_file.specs.declared.event.Event.{Event}
use Rattle.tick_file.specs.declared.event.Event.TheVariants.{Tick, Rx, Irq}
use Rattle.con_line.specs.Lines.{has_line}
use Rattle.id_table.specs.Idents.{shell_id}
use Rattle.kernel_world.specs.Objects.{IsReady}
use Rattle.kernel_world.specs.declared.objects.Objects.{Objects}
use Rattle.kernel_world.specs.declared.actor.Actor.{Actor}
use Rattle.kernel_world.specs.declared.actor.Actor.TheVariants.{Task as by_task, Interrupt}
use Rattle.kernel_world.specs.declared.call.Call.{Call}
use Rattle.wind_machine.specs.LiveLoadingSaid.{FileSaid}
use Rattle.wind_machine.specs.LiveLoadingLoading.{shell}
use Rattle.wind_machine.specs.LiveLoadingLaws.{AloneLaw}
use Rattle.wind_machine.specs.State.{State}
use Rattle.wind_machine.specs.Good.{Good}
use Rattle.wind_machine.specs.Events.{event_step}
use Rattle.wind_machine.specs.ActorSteps.{load_step, routine_step, shell_step, shell_world, step_of, task_step}
use Rattle.wind_machine.specs.Next.{next}
use Rattle.wind_machine.specs.Machine.{actor_of, machine_step, settled_state, state_after}
use Rattle.wind_machine.specs.Processor.{gate_under}
use Rattle.wind_machine.specs.declared.phase.Phase.{Phase}
use Rattle.wind_machine.specs.declared.phase.Phase.TheVariants as phases
use Rattle.wind_machine.proofs.Free.{runner_ready, step_start_ready}
use Rattle.wind_machine.proofs.Order.{by_next}
use Rattle.wind_machine.proofs.Steps.{step_start_advances}
use Rattle.wind_messages.specs.Messages.{is_call, step_start_world}
use Rattle.wind_owners.specs.Owners.{OwnerLaw, call_at, call_by_actor, step_call}
use Rattle.board_trace.specs.Mutexes.{mutex_named, owner_in}
use Rattle.wind_owners.proofs.Lists.{owner_among}
use Rattle.wind_owners.proofs.Parts.{actor_keeps, evaluates, prompts}

module _ (id : ℕ) (s : State) where
  -- the call names another mutex, or none
  abbrev NamesOther : Option Call → Type 0
  NamesOther c = mutex_named c ≡ Some id → ⊥

  -- in this state the mutex has the owner that it has here
  abbrev Same : State → Type 0
  Same t = owner_in t.world id ≡ owner_in s.world id

  abbrev SameIf : Option State → Type 0
  SameIf o = (t : State) → o ≡ Some t → Same t

  if_some : (t : State) → Same t → SameIf (Some t)
  if_some t same u e = subst Same (same_Some t u e) same

  -- ---- events
  event_keeps : (e : Event) → Same (event_step s e)
  event_keeps Tick = refl
  event_keeps (Rx n) = refl
  event_keeps (Irq i) = refl

  -- ---- the step of a task
  abbrev gate_call : Actor → Option Call
  gate_call a = call_at (gate_under (step_start_world s a) a) (step_start_world s a) a

  task_keeps : (who : ℕ) → NamesOther (gate_call (by_task who)) → Same (task_step s who)
  task_keeps who other = actor_keeps id (step_start_world s (by_task who)) s.shell (by_task who) other

  shell_keeps : (p : Phase) → NamesOther (cond (is_call p) (gate_call shell) None) → Same (shell_step p s)
  shell_keeps phases.Prompt other = prompts id (shell_world s) (has_line s.console) s.shell
  shell_keeps phases.Read other = refl
  shell_keeps phases.Eval other = evaluates id (shell_world s) s.shell.trees
  shell_keeps phases.Call other = task_keeps shell_id other

  whoever_keeps : (who : ℕ) → NamesOther (call_by_actor s (Some (by_task who))) → Same (step_of s who)
  whoever_keeps who =
      let p : Phase = s.shell.phase in
      elim (eqb who shell_id) as (λ b. eqb who shell_id ≡ b → NamesOther (cond (cond b (is_call p) true) (gate_call (by_task who)) None) → Same (cond b (shell_step p s) (task_step s who))) [
        | true ↦ λ e other. shell_keeps p (subst (λ n. NamesOther (cond (is_call p) (gate_call (by_task n)) None)) (eqb-true who shell_id e) other)
        | false ↦ λ e other. task_keeps who other
      ] refl

  routine_keeps : NamesOther (call_by_actor s (Some Interrupt)) → Same (routine_step s)
  routine_keeps other = actor_keeps id (step_start_world s Interrupt) s.shell Interrupt other

  -- ---- by the order of the next step
  module _ (alone : AloneLaw) (g : Good s) (said : FileSaid) where
    load_keeps : IsReady s.world.kern shell_id → (name : List ℕ) → Same (load_step said s name)
    load_keeps ready name =
        let owner : Objects → Option ℕ = λ o. owner_among id o.mutexes.rows in
        ap owner (alone (shell_world s) name said (step_start_advances s g.kept shell_id).kept (step_start_ready s.world.kern shell_id ready)).objects

    effect_keeps : NamesOther (step_call s) → SameIf (state_after said s (next s))
    effect_keeps = by_next s (λ n. NamesOther (call_by_actor s (actor_of n)) → SameIf (state_after said s n)) (record {
      deliver = λ i due other. if_some _ refl;
      come = λ held e due other. if_some _ (event_keeps e.event);
      arrive = λ held quiet due other. if_some _ refl;
      routine = λ nothing active other. if_some _ (routine_keeps other);
      act = λ left t runs none other. if_some _ (whoever_keeps t.id other);
      load = λ left t runs own name found other. if_some _ (load_keeps (subst (IsReady s.world.kern) own (runner_ready s.world.kern g.kept.world.kern t runs)) name);
      jump = λ left nobody e there other. if_some _ refl;
      over = λ left nobody none other t e. absurd (cc);
    })

    -- settling priorities changes no mutex
    settled_keeps : (o : Option State) → SameIf o → SameIf (option_map settled_state o)
    settled_keeps None same t e = absurd (cc)
    settled_keeps (Some u) same t e = subst Same (same_Some (settled_state u) t e) (same u refl)

    step_keeps : NamesOther (step_call s) → SameIf (machine_step said s)
    unfolding machine_step
    step_keeps other = settled_keeps (state_after said s (next s)) (effect_keeps other)

pub owners_kept : AloneLaw → OwnerLaw
owners_kept alone said s t id good makes other = step_keeps id s alone good said other t makes
