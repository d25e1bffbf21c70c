-- What comes next, by cases, each with what holds if it comes.
use Rattle.std.proofs.Common.{◌≡◌, ℕ, Bool, true, false, cond, eqb, List, [], ◌∷◌, Option, None, Some, refl, sym, ap, ◌∙◌, subst}
use Rattle.std.specs.Option.{option_map}
use Rattle.std.proofs.lemmas.Bool.{eqb-true}
use Rattle.task_block.specs.declared.task.Task.{Task}
use Rattle.tick_file.specs.Schedule.{Timed}
use Rattle.tick_file.specs.declared.event.Event.{Event}
use Rattle.wind_core.specs.State.{task_id}
use Rattle.wind_core.specs.Orders.{running, runner}
use Rattle.id_table.specs.Idents.{shell_id}
use Rattle.live_loading.specs.Said.{FileSaid}
use Rattle.wind_machine.specs.State.{State}
use Rattle.wind_machine.specs.Events.{next_event}
use Rattle.wind_machine.specs.ActorSteps.{file_in, file_for}
use Rattle.wind_machine.specs.Next.{is_active, event_of, time_of, due_delivery, due_event, console_is_due, first_or_over, when, act_or_load, task_next, next, NothingIsDue, IsLeftToTasks, ComesNext}
use Rattle.wind_machine.specs.Machine.{state_after, settled_state, machine_step}
use Rattle.wind_machine.specs.Laws.{OrderLaw, OverLaw}
use Rattle.wind_machine.specs.declared.next.Next.{Next}
use Rattle.wind_machine.specs.declared.next.Next.TheVariants.{Deliver, Come, Arrive, Routine, Act, Load, Jump, Over}

-- what is to be shown of what comes next, from what holds if it comes
pub record Cases (s : State) (P : Next → Type 0) : Type 0 where
  pub deliver : (i : ℕ) → due_delivery s ≡ Some i → P (Deliver i)
  pub come : due_delivery s ≡ None → (e : Timed) → due_event s ≡ Some e → P (Come e.event)
  pub arrive : due_delivery s ≡ None → due_event s ≡ None → console_is_due s ≡ true → P Arrive
  pub routine : NothingIsDue s → is_active s.world ≡ true → P Routine
  pub act : IsLeftToTasks s → (t : Task) → running s.world.kern ≡ Some t → file_for s t.id ≡ None → P (Act t.id)
  pub load : IsLeftToTasks s → (t : Task) → running s.world.kern ≡ Some t → t.id ≡ shell_id → (name : List ℕ) → file_in s.shell.phase s.world ≡ Some name → P (Load name)
  pub jump : IsLeftToTasks s → running s.world.kern ≡ None → (e : Timed) → next_event s ≡ Some e → P (Jump e.time)
  pub over : IsLeftToTasks s → running s.world.kern ≡ None → next_event s ≡ None → P Over

-- the first of a list, by whether there is its head
of_option : {A : Type 0} (P : Next → Type 0) (f : A → Next) (o : Option A) (others : List (Option Next)) → ((a : A) → o ≡ Some a → P (f a)) → (o ≡ None → P (first_or_over others)) → P (first_or_over (option_map f o ∷ others))
of_option P f None others some none = none refl
of_option P f (Some a) others some none = some a refl

of_task : (P : Next → Type 0) (f : ℕ → Next) (o : Option Task) (others : List (Option Next)) → ((t : Task) → o ≡ Some t → P (f t.id)) → (o ≡ None → P (first_or_over others)) → P (first_or_over (option_map f (option_map task_id o) ∷ others))
of_task P f None others some none = none refl
of_task P f (Some t) others some none = some t refl

of_test : (P : Next → Type 0) (b : Bool) (n : Next) (others : List (Option Next)) → (b ≡ true → P n) → (b ≡ false → P (first_or_over others)) → P (first_or_over (when b n ∷ others))
of_test P true n others so not_so = so refl
of_test P false n others so not_so = not_so refl

module _ (s : State) (P : Next → Type 0) (c : Cases s P) where
  by_file : IsLeftToTasks s → (t : Task) → running s.world.kern ≡ Some t → (o : Option (List ℕ)) → file_for s t.id ≡ o → P (act_or_load t.id o)
  by_file left t e None none = c.act left t e none
  by_file left t e (Some name) some =
      elim (eqb t.id shell_id) as (λ b. eqb t.id shell_id ≡ b → cond b (file_in s.shell.phase s.world) None ≡ Some name → P (Load name)) [
        | true ↦ λ own found. c.load left t e (eqb-true t.id shell_id own) name found
        | false ↦ λ own found. absurd (cc)
      ] refl some

  pub by_next : P (next s)
  unfolding next
  by_next =
      of_option P (λ i. Deliver i) (due_delivery s) _ c.deliver (λ held.
      of_option P (λ e. Come e.event) (due_event s) _ (c.come held) (λ quiet.
      of_test P (console_is_due s) Arrive _ (c.arrive held quiet) (λ silent.
      let nothing : NothingIsDue s = record { delivery = held; event = quiet; console = silent } in
      of_test P (is_active s.world) Routine _ (c.routine nothing) (λ idle.
      let left : IsLeftToTasks s = record { nothing_due = nothing; idle = idle } in
      of_task P (task_next s) (running s.world.kern) _ (λ t e. by_file left t e (file_for s t.id) refl) (λ nobody.
      of_option P (λ e. Jump e.time) (next_event s) _ (c.jump left nobody) (c.over left nobody))))))

-- ---- it comes next, and nothing else does
comes : (s : State) → ComesNext s (next s)
comes s = by_next s (ComesNext s) (record {
  deliver = λ i due. due;
  come = λ held e due. (held, ap (option_map event_of) due);
  arrive = λ held quiet due. (held, quiet, due);
  routine = λ nothing active. (nothing, active);
  act = λ left t runs none. (left, ap (option_map task_id) runs, none);
  load = λ left t runs own name found. (left, ap (option_map task_id) runs ∙ ap Some own, found);
  jump = λ left nobody e there. (left, ap (option_map task_id) nobody, ap (option_map time_of) there);
  over = λ left nobody none. (left, ap (option_map task_id) nobody, none);
})

deliver_is : (o : Option ℕ) (others : List (Option Next)) (i : ℕ) → o ≡ Some i → Deliver i ≡ first_or_over (option_map (λ j. Deliver j) o ∷ others)
deliver_is o others i q = ap (λ d. first_or_over (option_map (λ j. Deliver j) d ∷ others)) (sym q)

come_is : (o : Option Timed) (others : List (Option Next)) (e : Event) → option_map event_of o ≡ Some e → Come e ≡ first_or_over (option_map (λ t. Come t.event) o ∷ others)
come_is None others e q = absurd (cc)
come_is (Some t) others e q = let same : e ≡ t.event = cc in ap Come same

jump_is : (o : Option Timed) (time : ℕ) → option_map time_of o ≡ Some time → Jump time ≡ first_or_over (option_map (λ t. Jump t.time) o ∷ [])
jump_is None time q = absurd (cc)
jump_is (Some t) time q = let same : time ≡ t.time = cc in ap Jump same

module _ (s : State) where
  abbrev jumps : List (Option Next)
  jumps = option_map (λ t. Jump t.time) (next_event s) ∷ []

  abbrev tasks : Option ℕ → List (Option Next)
  tasks who = option_map (task_next s) who ∷ jumps

  abbrev actors : Bool → List (Option Next)
  actors active = when active Routine ∷ tasks (runner s.world.kern)

  abbrev all : Option ℕ → Option Timed → Bool → List (Option Next)
  all delivery event console = option_map (λ i. Deliver i) delivery ∷ option_map (λ t. Come t.event) event ∷ when console Arrive ∷ actors (is_active s.world)

  held : due_delivery s ≡ None → next s ≡ first_or_over (all None (due_event s) (console_is_due s))
  unfolding next
  held none = ap (λ d. first_or_over (all d (due_event s) (console_is_due s))) none

  quiet : due_delivery s ≡ None → due_event s ≡ None → (console : Bool) → console_is_due s ≡ console → next s ≡ first_or_over (all None None console)
  quiet back none console e = held back ∙ ap (λ o. first_or_over (all None o (console_is_due s))) none ∙ ap (λ b. first_or_over (all None None b)) e

  undue : NothingIsDue s → (active : Bool) → is_active s.world ≡ active → next s ≡ first_or_over (actors active)
  undue nothing active e = quiet nothing.delivery nothing.event false nothing.console ∙ ap (λ b. first_or_over (actors b)) e

  for_tasks : IsLeftToTasks s → (who : Option ℕ) → runner s.world.kern ≡ who → next s ≡ first_or_over (tasks who)
  for_tasks left who e = undue left.nothing_due false left.idle ∙ ap (λ o. first_or_over (tasks o)) e

  pub comes_alone : (n : Next) → ComesNext s n → n ≡ next s
  unfolding next
  comes_alone (Deliver i) h = deliver_is (due_delivery s) _ i h
  comes_alone (Come e) h = come_is (due_event s) _ e h.1 ∙ sym (held h.0)
  comes_alone Arrive h = sym (quiet h.0 h.1 true h.2)
  comes_alone Routine h = sym (undue h.0 true h.1)
  comes_alone (Act who) h = sym (for_tasks h.0 (Some who) h.1 ∙ ap (act_or_load who) h.2)
  comes_alone (Load name) h = sym (for_tasks h.0 (Some shell_id) h.1 ∙ ap (act_or_load shell_id) h.2)
  comes_alone (Jump time) h = jump_is (next_event s) time h.2 ∙ sym (for_tasks h.0 None h.1)
  comes_alone Over h = sym (for_tasks h.0 None h.1 ∙ ap (λ o. first_or_over (option_map (λ t. Jump t.time) o ∷ [])) h.2)

pub in_order : OrderLaw
in_order s n = (comes_alone s n, λ e. subst (ComesNext s) (sym e) (comes s))

-- ---- there is a step, unless the run is over
no_state : (said : FileSaid) (s : State) (n : Next) → state_after said s n ≡ None → n ≡ Over
no_state said s Over e = refl
no_state said s n e = absurd (cc)

none_settled : (o : Option State) → option_map settled_state o ≡ None → o ≡ None
none_settled None e = refl
none_settled (Some u) e = absurd (cc)

pub over_alone : OverLaw
unfolding machine_step
over_alone said s = (λ e. no_state said s (next s) (none_settled (state_after said s (next s)) e), λ e. ap (λ n. option_map settled_state (state_after said s n)) e)
