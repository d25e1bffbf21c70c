-- Each step of the machine agrees with what the queues hold before and after it.
use Rattle.std.proofs.Common.{◌≡◌, ℕ, Bool, true, false, cond, eqb, List, [], ◌∷◌, Option, None, Some, refl, sym, ap, ◌∙◌, subst, arith}
use Rattle.std.specs.Prelude.{unwrap_or, take, drop}
use Rattle.std.specs.List.{fold}
use Rattle.std.proofs.lemmas.Bool.{eqb-true}
use Rattle.tick_file.specs.declared.event.Event.{Event}
use Rattle.tick_file.specs.declared.event.Event.TheVariants.{Tick, Rx, Irq}
use Rattle.wind_core.specs.State.{KernState}
use Rattle.wind_core.specs.Moves.{release}
use Rattle.wind_core.specs.Move.{Set}
use Rattle.wind_core.specs.declared.settings.Setting.TheVariants as settings
use Rattle.con_line.specs.Keys.{byte_done}
use Rattle.con_line.specs.Lines.{has_line, first_line}
use Rattle.con_line.specs.declared.console.ByteDone.{ByteDone}
use Rattle.con_line.specs.declared.console.ByteDone.TheVariants as done
use Rattle.shell_parse.specs.Reading.{read_line}
use Rattle.msg_queue.specs.Kept.{IsKept}
use Rattle.msg_queue.specs.Machine.{Event as Call, accepted_next, taken_next}
use Rattle.msg_queue.proofs.Calm.{next-tick, calms}
use Rattle.kernel_world.specs.State.{WorldState}
use Rattle.kernel_world.specs.Objects.{IsReady}
use Rattle.id_table.specs.Idents.{shell_id}
use Rattle.wind_machine.specs.KernelCallsCalls.{scene_of}
use Rattle.kernel_world.specs.Replies.{left_gate}
use Rattle.kernel_world.specs.declared.actor.Actor.{Actor}
use Rattle.kernel_world.specs.declared.actor.Actor.TheVariants.{Task as by_task, Interrupt}
use Rattle.kernel_world.proofs.Calming.{queues-calm}
use Rattle.wind_machine.specs.LiveLoadingSaid.{FileSaid}
use Rattle.wind_machine.specs.LiveLoadingLoading.{shell}
use Rattle.wind_machine.specs.LiveLoadingLaws.{AloneLaw}
use Rattle.wind_machine.specs.State.{State}
use Rattle.wind_machine.specs.Good.{Good}
use Rattle.wind_machine.specs.Feed.{chunk, after_chunk, brought}
use Rattle.wind_machine.specs.Task.{waits_for_console}
use Rattle.wind_machine.specs.Shell.{read_part}
use Rattle.wind_machine.specs.Processor.{gate_under}
use Rattle.wind_machine.specs.Events.{Heard, hear, heard_all, heard_from, heard_by, kern_after, arrived, delivery_step, event_comes, event_step, unreserved_world, without_next, jump}
use Rattle.wind_machine.specs.ActorSteps.{shell_world, task_step, shell_step, step_of, routine_step, load_step, file_in}
use Rattle.std.specs.Option.{option_map}
use Rattle.msg_queue.specs.Laws.{IsBalanced}
use Rattle.kernel_world.specs.Settling.{settled_world}
use Rattle.wind_machine.specs.Next.{next}
use Rattle.wind_machine.specs.Machine.{state_after, settled_state, machine_step, actor_of, stepping}
use Rattle.wind_machine.specs.declared.phase.Phase.{Phase}
use Rattle.wind_machine.specs.declared.phase.Phase.TheVariants as phases
use Rattle.wind_machine.proofs.Dropping.{all_advance}
use Rattle.wind_machine.proofs.Order.{by_next}
use Rattle.wind_machine.proofs.Asking.{at_load, same_gate}
use Rattle.wind_machine.proofs.Free.{runner_ready, step_start_ready}
use Rattle.wind_machine.proofs.Steps.{step_start_advances}
use Rattle.wind_messages.specs.Messages.{is_call, is_at_work, step_start_world, actor_call, actor_scene, call_under, call_of, scene_by}
use Rattle.wind_messages.proofs.NextIds.{NextSame, next-if, next-release, next-raised}
use Rattle.wind_messages.proofs.Rows.{Balances, stock_in, leaves}
use Rattle.wind_messages.proofs.Parts.{next-aborted, prompts, evaluates, actor_balances}

-- ---- bytes arrive
next-byte : (d : ByteDone) (waits : Bool) (k : KernState) → NextSame k (kern_after d waits k)
next-byte done.Abort waits k = next-aborted k
next-byte done.Line waits k = next-if waits k (release k shell_id) k (next-release k shell_id) refl
next-byte done.Kept waits k = refl

next-bytes : (h : Heard) (bytes : List ℕ) → NextSame h.kern (fold hear h bytes).kern
next-bytes h [] = refl
next-bytes h (b ∷ bytes) = next-bytes (hear h b) bytes ∙ next-byte (byte_done h.console b) (waits_for_console h.kern) h.kern

next-heard : (s : State) (bytes : List ℕ) → NextSame s.world.kern (heard_by s bytes).kern
unfolding heard_all
next-heard s bytes = next-bytes (heard_from s.console s.shell s.world.kern []) bytes

-- from a state to another, if this task or routine makes a step, or none
abbrev pub Goes : State → State → Option Actor → Type 0
Goes s t o = Balances s.world t.world (scene_by s o) (call_of s o)

-- ---- the queues aren't touched
left_alone : (s t : State) → t.world.objects.queues.queues ≡ s.world.objects.queues.queues → NextSame s.world.kern t.world.kern → Goes s t None
left_alone s t same ids = leaves s.world t.world (scene_of s.world) same (omega (arith, ids))

arrivals : (s : State) (left bytes : List ℕ) → Goes s (arrived s left (heard_by s bytes)) None
arrivals s left bytes = left_alone s (arrived s left (heard_by s bytes)) refl (next-heard s bytes)

events : (s : State) (e : Event) → Goes s (event_comes s e) None
events s Tick = left_alone s (event_comes s Tick) refl (next-tick s.world.kern)
events s (Rx n) = arrivals s (drop (brought n) s.left) (take (brought n) s.left)
events s (Irq i) = left_alone s (event_comes s (Irq i)) refl refl

due_events : (s : State) (e : Event) → Goes s (event_step s e) None
due_events s e = events (record s { schedule = without_next s.schedule; world = unreserved_world s.world }) e

-- ---- a task makes a step
module _ (s : State) (g : Good s) where
  -- what its call sees keeps the queues' invariant
  scene_kept : (who : ℕ) → IsKept (actor_scene s (by_task who))
  scene_kept who =
      let w : WorldState = step_start_world s (by_task who) in
      let kept = (step_start_advances s g.kept who).kept in
      let calm = calms w.objects.queues.queues w.kern (Set who settings.PastGate) kept.kern tt tt in
      queues-calm w.board w.kern (left_gate w (by_task who)).kern w.objects calm kept.objects.queues w.ram kept.ram

  -- the call at its gate
  abbrev gate_call : Actor → Option Call
  gate_call a = call_under (gate_under (step_start_world s a) a) (step_start_world s a) a

  tasks_go : (who : ℕ) → Balances s.world (task_step s who).world (actor_scene s (by_task who)) (gate_call (by_task who))
  tasks_go who = actor_balances (step_start_world s (by_task who)) s.shell (by_task who) (scene_kept who)

  shell_goes : (p : Phase) → Balances s.world (shell_step p s).world (actor_scene s shell) (cond (is_call p) (gate_call shell) None)
  shell_goes phases.Prompt = prompts (shell_world s) (actor_scene s shell) (has_line s.console) s.shell
  shell_goes phases.Read = leaves (shell_world s) (read_part (read_line (first_line s.console)) (shell_world s)).world (actor_scene s shell) refl (omega arith)
  shell_goes phases.Eval = evaluates (shell_world s) (actor_scene s shell) s.shell.trees
  shell_goes phases.Call = tasks_go shell_id

  whoever_goes : (who : ℕ) → Goes s (step_of s who) (Some (by_task who))
  whoever_goes who =
      let p : Phase = s.shell.phase in
      elim (eqb who shell_id) as (λ b. eqb who shell_id ≡ b → Balances s.world (cond b (shell_step p s) (task_step s who)).world (actor_scene s (by_task who)) (cond (cond b (is_call p) true) (gate_call (by_task who)) None)) [
        | true ↦ λ e. subst (λ n. Balances s.world (shell_step p s).world (actor_scene s (by_task n)) (cond (is_call p) (gate_call (by_task n)) None)) (sym (eqb-true who shell_id e)) (shell_goes p)
        | false ↦ λ e. tasks_go who
      ] refl

  -- what a call of an interrupt routine sees keeps the queues' invariant
  routine_kept : IsKept (actor_scene s Interrupt)
  routine_kept =
      let kept = (all_advance s.world s.steps g.kept.world g.kept.within).kept in
      kept.objects.queues s.world.ram kept.ram

  routines_go : Goes s (routine_step s) (Some Interrupt)
  routines_go = actor_balances (step_start_world s Interrupt) s.shell Interrupt routine_kept

  -- ---- the load of a file moves no message
  no_call : (name : List ℕ) → file_in s.shell.phase s.world ≡ Some name → actor_call s shell ≡ None
  no_call name found =
      let at = at_load s.shell.phase s.world name found in
      elim (is_at_work s shell) as (λ b. cond b (call_under (gate_under (shell_world s) shell) (shell_world s) shell) None ≡ None) [ true ↦ ap (λ o. call_under o (shell_world s) shell) (same_gate s ∙ at.gate) | false ↦ refl ]

  load_goes : AloneLaw → IsReady s.world.kern shell_id → (said : FileSaid) (name : List ℕ) → file_in s.shell.phase s.world ≡ Some name → Goes s (load_step said s name) (Some shell)
  load_goes law ready said name found =
      let w : WorldState = shell_world s in
      let alone = law w name said (step_start_advances s g.kept shell_id).kept (step_start_ready s.world.kern shell_id ready) in
      let here : Balances s.world (load_step said s name).world (actor_scene s shell) None
      = leaves w (load_step said s name).world (actor_scene s shell) (ap (λ o. o.queues.queues) alone.objects) alone.ids in
      subst (Balances s.world (load_step said s name).world (actor_scene s shell)) (sym (no_call name found)) here

  -- ---- by the order of the next step
  pub effect_goes : AloneLaw → (said : FileSaid) → Goes s (unwrap_or (state_after said s (next s)) s) (stepping s)
  effect_goes law said = by_next s (λ n. Goes s (unwrap_or (state_after said s n) s) (actor_of n)) (record {
    deliver = λ i due. left_alone s (delivery_step s i) refl refl;
    come = λ held e due. due_events s e.event;
    arrive = λ held quiet due. arrivals s (after_chunk s.left) (chunk s.left);
    routine = λ nothing active. routines_go;
    act = λ left t runs none. whoever_goes t.id;
    load = λ left t runs own name found. load_goes law (subst (IsReady s.world.kern) own (runner_ready s.world.kern g.kept.world.kern t runs)) said name found;
    jump = λ left nobody e there. left_alone s (jump s e.time) refl refl;
    over = λ left nobody none. left_alone s s refl refl;
  })

  -- settling priorities touches no queue
  settled_stock : (w : WorldState) → stock_in (settled_world w) ≡ stock_in w
  settled_stock w = ap (λ n. record (stock_in w) { next_id = n }) (next-raised w.objects.mutexes.profile w.kern w.objects.mutexes.rows)

  settled_goes : (o : Option State) (a : Option Actor) → Goes s (unwrap_or o s) a → Goes s (unwrap_or (option_map settled_state o) s) a
  settled_goes None a goes = goes
  settled_goes (Some u) a goes = subst (λ x. IsBalanced (stock_in s.world) x (accepted_next (scene_by s a) (call_of s a)) (taken_next (scene_by s a) (call_of s a))) (sym (settled_stock u.world)) goes

  pub step_goes : AloneLaw → (said : FileSaid) → Goes s (unwrap_or (machine_step said s) s) (stepping s)
  unfolding machine_step
  step_goes law said = settled_goes (state_after said s (next s)) (stepping s) (effect_goes law said)
