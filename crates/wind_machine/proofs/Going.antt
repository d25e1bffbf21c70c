-- No task that is safe from deletion ends in a step, unless the step is its own.
use Rattle.std.proofs.Common.{◌≡◌, ℕ, ◌+◌, true, false, cond, eqb, List, [], ◌∷◌, map, Option, None, Some, IfSome, refl, sym, ap, ◌∙◌, subst, ◌⊎◌, inl, inr}
use Rattle.std.specs.Prelude.{take, drop}
use Rattle.std.proofs.lemmas.Bool.{eqb-true}
use Rattle.task_block.specs.declared.task.Task.{Task}
use Rattle.tick_file.specs.declared.event.Event.{Event}
use Rattle.tick_file.specs.declared.event.Event.TheVariants.{Tick, Rx, Irq}
use Rattle.wind_core.specs.State.{KernState, Lives, task_of}
use Rattle.wind_core.specs.Moves.{unreserved}
use Rattle.wind_core.specs.Tick.{tick}
use Rattle.wind_core.proofs.Ids.{ids-tick, lives_by}
use Rattle.live_loading.specs.TaskSafetySafety.{safe_of}
use Rattle.shell_parse.specs.Reading.{read_line}
use Rattle.con_line.specs.Lines.{has_line, first_line, line_dropped}
use Rattle.live_loading.specs.KernelWorldState.{choice_of}
use Rattle.id_table.specs.Idents.{shell_id}
use Rattle.live_loading.specs.KernelWorldObjects.{IsReady}
use Rattle.live_loading.specs.KernelWorldActor.{Actor}
use Rattle.live_loading.specs.KernelWorldActor.TheVariants.{Task as by_task, Interrupt}
use Rattle.live_loading.specs.Said.{FileSaid}
use Rattle.live_loading.specs.Loading.{shell, load_call}
use Rattle.live_loading.specs.Laws.{LoadLaw}
use Rattle.wind_machine.specs.State.{State}
use Rattle.wind_machine.specs.Good.{Keeps, bare}
use Rattle.wind_machine.specs.Feed.{chunk, after_chunk, brought}
use Rattle.wind_machine.specs.Part.{Part, part_of}
use Rattle.wind_machine.specs.Reserving.{unless_own, drop_all}
use Rattle.wind_machine.specs.Shell.{prompt_part, read_part, eval_part}
use Rattle.wind_machine.specs.Processor.{without_own, actor_part}
use Rattle.wind_machine.proofs.Steps.{if_settled, step_start_advances, routine_acts, prompts, reads, evaluates, loads, acts, unreserved_keeps}
use Rattle.wind_machine.specs.Laws.{ChoiceLaw, OnlyUnsafeGo, SafetyLaw}
use Rattle.wind_machine.specs.Events.{Heard, heard_by, arrived, event_comes, event_step, unreserved_world, without_next}
use Rattle.wind_machine.specs.ActorSteps.{at_step_start, shell_world, task_step, shell_step, step_of, routine_step, load_step}
use Rattle.wind_machine.specs.Next.{is_active, next}
use Rattle.std.specs.Option.{option_map}
use Rattle.inheritance.proofs.Raising.{raised_to}
use Rattle.live_loading.specs.KernelWorldSettling.{settled_kern}
use Rattle.wind_machine.specs.Machine.{machine_step, settled_state, state_after, actor_of}
use Rattle.wind_machine.specs.declared.phase.Phase.{Phase}
use Rattle.wind_machine.specs.declared.phase.Phase.TheVariants as phases
use Rattle.wind_machine.proofs.Order.{by_next}
use Rattle.wind_machine.proofs.Free.{runner_ready}
use Rattle.wind_machine.proofs.Hearing.{heard_keeps}
use Rattle.wind_machine.proofs.Dropping.{all_advance}
use Rattle.wind_machine.proofs.Parts.{PartKeeps}

-- a task is as safe at the beginning of a step as before it
same_safe : (ts : List Task) (who id : ℕ) → safe_of (task_of (map (unless_own who) ts) id) ≡ safe_of (task_of ts id)
same_safe [] who id = refl
same_safe (t ∷ ts) who id =
    elim (eqb t.id who) as (λ b. safe_of (cond (eqb (cond b t (unreserved t)).id id) (Some (cond b t (unreserved t))) (task_of (map (unless_own who) ts) id)) ≡ safe_of (cond (eqb t.id id) (Some t) (task_of ts id))) [
      | true ↦ elim (eqb t.id id) as (λ c. safe_of (cond c (Some t) (task_of (map (unless_own who) ts) id)) ≡ safe_of (cond c (Some t) (task_of ts id))) [ true ↦ refl | false ↦ same_safe ts who id ]
      | false ↦ elim (eqb t.id id) as (λ c. safe_of (cond c (Some (unreserved t)) (task_of (map (unless_own who) ts) id)) ≡ safe_of (cond c (Some t) (task_of ts id))) [ true ↦ refl | false ↦ same_safe ts who id ]
    ]

all_safe : (ts : List Task) (id : ℕ) → safe_of (task_of (map unreserved ts) id) ≡ safe_of (task_of ts id)
all_safe [] id = refl
all_safe (t ∷ ts) id =
    elim (eqb t.id id) as (λ c. safe_of (cond c (Some (unreserved t)) (task_of (map unreserved ts) id)) ≡ safe_of (cond c (Some t) (task_of ts id))) [ true ↦ refl | false ↦ all_safe ts id ]

-- which tasks end in a step that this task or routine makes, if one does
abbrev GoBy : State → Option Actor → KernState → Type 0
GoBy s o k = (id : ℕ) → Lives s.world.kern id → (Lives k id → ⊥) → (safe_of (task_of s.world.kern.tasks id) ≡ 0) ⊎ (o ≡ Some (by_task id))

module _ (s : State) (g : Keeps 0 (bare s)) where
  own_step : (who : Actor) (id safe : ℕ) → (safe ≡ 0) ⊎ (who ≡ by_task id) → safe ≡ safe_of (task_of s.world.kern.tasks id) → (safe_of (task_of s.world.kern.tasks id) ≡ 0) ⊎ (Some who ≡ Some (by_task id))
  own_step who id safe (inl unsafe) same = inl (sym same ∙ unsafe)
  own_step who id safe (inr own) same = inr (ap Some own)

  of_part : (who n : ℕ) (finished : List ℕ) (p : Part) → PartKeeps (at_step_start s.world who) p (by_task who) n finished → GoBy s (Some (by_task who)) p.world.kern
  of_part who n finished p part id live dead =
      own_step (by_task who) id (safe_of (task_of (at_step_start s.world who).kern.tasks id)) (part.keeps_world.gone id ((step_start_advances s g who).lives id live) dead) (same_safe s.world.kern.tasks who id)

  task_goes : (who : ℕ) → IsReady s.world.kern who → GoBy s (Some (by_task who)) (task_step s who).world.kern
  task_goes who ready = of_part who (s.steps + 1) s.console.finished (actor_part s.shell (at_step_start s.world who) (by_task who)) (acts s g who ready)

  shell_goes : (p : Phase) → IsReady s.world.kern shell_id → GoBy s (Some shell) (shell_step p s).world.kern
  shell_goes phases.Prompt ready = of_part shell_id (s.steps + 1) s.console.finished (prompt_part (has_line s.console) s.shell (shell_world s)) (prompts s g)
  shell_goes phases.Read ready = of_part shell_id (s.steps + 1) (line_dropped s.console).finished (read_part (read_line (first_line s.console)) (shell_world s)) (reads s g)
  shell_goes phases.Eval ready = of_part shell_id (s.steps + 1) s.console.finished (eval_part s.shell.trees (shell_world s)) (evaluates s g ready)
  shell_goes phases.Call ready = task_goes shell_id ready

  whoever_goes : (who : ℕ) → IsReady s.world.kern who → GoBy s (Some (by_task who)) (step_of s who).world.kern
  whoever_goes who ready =
      elim (eqb who shell_id) as (λ b. eqb who shell_id ≡ b → GoBy s (Some (by_task who)) (cond b (shell_step s.shell.phase s) (task_step s who)).world.kern) [
        | true ↦ λ e.
            let own = shell_goes s.shell.phase (subst (IsReady s.world.kern) (eqb-true who shell_id e) ready) in
            subst (λ n. GoBy s (Some (by_task n)) (shell_step s.shell.phase s).world.kern) (sym (eqb-true who shell_id e)) own
        | false ↦ λ e. task_goes who ready
      ] refl

  -- the step of a load is the shell's own
  load_goes : LoadLaw → IsReady s.world.kern shell_id → (name : List ℕ) (said : FileSaid) → GoBy s (Some shell) (load_step said s name).world.kern
  load_goes law ready name said =
      let part = part_of s.shell (without_own (load_call (shell_world s) name said) shell) in
      of_part shell_id (s.steps + 1) s.console.finished part (loads s g law ready name said)

  -- ---- all tasks live on when bytes arrive
  arrived_stay : (left bytes : List ℕ) (h : Heard) → h ≡ heard_by s bytes → (id : ℕ) → Lives s.world.kern id → Lives (arrived s left h).world.kern id
  arrived_stay left bytes h e id live =
      let heard = heard_keeps s.console s.shell s.world.kern [] bytes s.steps g.console g.read g.world.kern g.within.0 h e in
      lives_by h.kern.tasks s.world.kern.tasks id heard.2.alone live

  -- and when an event occurs
  comes_stay : (e : Event) (id : ℕ) → Lives s.world.kern id → Lives (event_comes s e).world.kern id
  comes_stay Tick id live = lives_by (tick s.world.kern).tasks s.world.kern.tasks id (ids-tick s.world.kern) live
  comes_stay (Irq i) id live = live
  comes_stay (Rx n) id live = let bytes = take (brought n) s.left in arrived_stay (drop (brought n) s.left) bytes (heard_by s bytes) refl id live

  -- no safe task ends in a step of an interrupt routine
  routine_goes : is_active s.world ≡ true → GoBy s (Some Interrupt) (routine_step s).world.kern
  routine_goes active id live dead =
      own_step Interrupt id (safe_of (task_of (drop_all s.world.kern).tasks id)) ((routine_acts s g active).keeps_world.gone id ((all_advance s.world s.steps g.world g.within).lives id live) dead) (all_safe s.world.kern.tasks id)

event_goes : (s : State) (e : Event) → Keeps 0 (bare s) → GoBy s None (event_step s e).world.kern
event_goes s e g id live dead =
    let t = without_next s.schedule in
    let there = record s { schedule = t; world = unreserved_world s.world } in
    absurd (dead (comes_stay there (unreserved_keeps s g t) e id ((all_advance s.world s.steps g.world g.within).lives id live)))

-- ---- by the order of the next step
next_goes : LoadLaw → (said : FileSaid) (s : State) → Keeps 0 (bare s) → IfSome (state_after said s (next s)) (OnlyUnsafeGo s)
next_goes law said s g = by_next s (λ n. IfSome (state_after said s n) (λ t. GoBy s (actor_of n) t.world.kern)) (record {
  deliver = λ i due id live dead. absurd (dead ((all_advance s.world s.steps g.world g.within).lives id live));
  come = λ held e due. event_goes s e.event g;
  arrive = λ held quiet due id live dead. absurd (dead (arrived_stay s g (after_chunk s.left) (chunk s.left) (heard_by s (chunk s.left)) refl id live));
  routine = λ nothing active. routine_goes s g active;
  act = λ left t runs none. whoever_goes s g t.id (runner_ready s.world.kern g.world.kern t runs);
  load = λ left t runs own name found. load_goes s g law (subst (IsReady s.world.kern) own (runner_ready s.world.kern g.world.kern t runs)) name said;
  jump = λ left nobody e there id live dead. absurd (dead live);
  over = λ left nobody none. tt;
})

-- the same tasks live after priorities are settled
settled_goes : (s u : State) → OnlyUnsafeGo s u → OnlyUnsafeGo s (settled_state u)
settled_goes s u goes id live dead =
    let k = u.world.kern in
    goes id live (λ there. dead (lives_by (settled_kern k u.world.objects).tasks k.tasks id (raised_to u.world.objects.mutexes.profile k u.world.objects.mutexes.rows).alike there))

some_goes : (s : State) (o : Option State) → IfSome o (OnlyUnsafeGo s) → IfSome (option_map settled_state o) (OnlyUnsafeGo s)
some_goes s None h = tt
some_goes s (Some u) h = settled_goes s u h

pub safe_stay : LoadLaw → SafetyLaw
unfolding machine_step
safe_stay law said s t g e = subst (λ o. IfSome o (OnlyUnsafeGo s)) e (some_goes s (state_after said s (next s)) (next_goes law said s g.kept))

-- ---- what was chosen at the start
-- it is the same in this state as in that one
abbrev SameChoice : State → State → Type 0
SameChoice s t = choice_of t.world ≡ choice_of s.world

module _ (s : State) (g : Keeps 0 (bare s)) where
  part_choice : (who n : ℕ) (finished : List ℕ) (p : Part) → PartKeeps (at_step_start s.world who) p (by_task who) n finished → choice_of p.world ≡ choice_of s.world
  part_choice who n finished p part = part.keeps_world.choice ∙ (step_start_advances s g who).choice

  task_choice : (who : ℕ) → IsReady s.world.kern who → SameChoice s (task_step s who)
  task_choice who ready = part_choice who (s.steps + 1) s.console.finished (actor_part s.shell (at_step_start s.world who) (by_task who)) (acts s g who ready)

  shell_choice : (p : Phase) → IsReady s.world.kern shell_id → SameChoice s (shell_step p s)
  shell_choice phases.Prompt ready = part_choice shell_id (s.steps + 1) s.console.finished (prompt_part (has_line s.console) s.shell (shell_world s)) (prompts s g)
  shell_choice phases.Read ready = part_choice shell_id (s.steps + 1) (line_dropped s.console).finished (read_part (read_line (first_line s.console)) (shell_world s)) (reads s g)
  shell_choice phases.Eval ready = part_choice shell_id (s.steps + 1) s.console.finished (eval_part s.shell.trees (shell_world s)) (evaluates s g ready)
  shell_choice phases.Call ready = task_choice shell_id ready

  whoever_choice : (who : ℕ) → IsReady s.world.kern who → SameChoice s (step_of s who)
  whoever_choice who ready =
      elim (eqb who shell_id) as (λ b. eqb who shell_id ≡ b → SameChoice s (cond b (shell_step s.shell.phase s) (task_step s who))) [
        | true ↦ λ e. shell_choice s.shell.phase (subst (IsReady s.world.kern) (eqb-true who shell_id e) ready)
        | false ↦ λ e. task_choice who ready
      ] refl

  load_choice : LoadLaw → IsReady s.world.kern shell_id → (name : List ℕ) (said : FileSaid) → SameChoice s (load_step said s name)
  load_choice law ready name said =
      let part = part_of s.shell (without_own (load_call (shell_world s) name said) shell) in
      part_choice shell_id (s.steps + 1) s.console.finished part (loads s g law ready name said)

event_choice : (s : State) (e : Event) → SameChoice s (event_comes s e)
event_choice s Tick = refl
event_choice s (Rx n) = refl
event_choice s (Irq i) = refl

next_choice : LoadLaw → (said : FileSaid) (s : State) → Keeps 0 (bare s) → IfSome (state_after said s (next s)) (SameChoice s)
next_choice law said s g = by_next s (λ n. IfSome (state_after said s n) (SameChoice s)) (record {
  deliver = λ i due. refl;
  come = λ held e due. event_choice (record s { schedule = without_next s.schedule; world = unreserved_world s.world }) e.event;
  arrive = λ held quiet due. refl;
  routine = λ nothing active. (routine_acts s g active).keeps_world.choice;
  act = λ left t runs none. whoever_choice s g t.id (runner_ready s.world.kern g.world.kern t runs);
  load = λ left t runs own name found. load_choice s g law (subst (IsReady s.world.kern) own (runner_ready s.world.kern g.world.kern t runs)) name said;
  jump = λ left nobody e there. refl;
  over = λ left nobody none. tt;
})

pub choice_stays : LoadLaw → ChoiceLaw
unfolding machine_step
choice_stays law said s t g e = subst (λ o. IfSome o (SameChoice s)) e (if_settled (SameChoice s) (state_after said s (next s)) (next_choice law said s g.kept))
