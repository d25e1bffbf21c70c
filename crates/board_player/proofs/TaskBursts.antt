-- An instruction of a task is a silent step, and the task goes on.
use Rattle.std.proofs.Common.{◌≡◌, ℕ, zero, suc, ◌+◌, ◌≤◌, Bool, true, false, cond, eqb, not, ◌&&◌, length, List, [], ◌∷◌, map, Option, None, Some, IfSome, refl, sym, ap, ap₂, ◌∙◌, subst, arith}
use Rattle.std.specs.Prelude.{unwrap_or, nat_le}
use Rattle.std.specs.Option.{option_map}
use Rattle.std.specs.List.{list_any}
use Rattle.std.proofs.lemmas.Bool.{eq-eqb, eqb-true}
use Rattle.std.proofs.lemmas.Bool.Decides.{nat_tests}
use Rattle.wind_base.specs.Boards.{board_rules}
use Rattle.wind_base.specs.declared.regs.Regs.{Regs}
use Rattle.task_block.specs.declared.task.Task.{Task}
use Rattle.tick_file.specs.Schedule.{Timed}
use Rattle.tick_file.specs.Laws.{IsEarly}
use Rattle.id_table.specs.Records.{Rising, change}
use Rattle.id_table.specs.Sorting.{first}
use Rattle.wind_core.specs.State.{KernState, IsKern, task_id, task_of}
use Rattle.wind_core.specs.Orders.{running, runner}
use Rattle.wind_core.specs.Moves.{set_regs, unreserved}
use Rattle.wind_core.proofs.Ticks.{running_found}
use Rattle.wind_core.proofs.Waking.{id_found}
use Rattle.con_line.specs.Lines.{has_line}
use Rattle.dev_irq.specs.State.{is_waiting}
use Rattle.board_bus.specs.BusState.{BusState}
use Rattle.isr_watch.specs.State.{WatchState}
use Rattle.live_loading.specs.KernelWorldState.{WorldState}
use Rattle.live_loading.specs.KernelWorldActor.TheVariants.{Task as by_task, Interrupt}
use Rattle.id_table.specs.Idents.{shell_id}
use Rattle.live_loading.specs.KernelWorldKept.{ReservedBy}
use Rattle.live_loading.specs.KernelWorldSettling.{HasExact}
use Rattle.live_loading.specs.KernelWorldStarting.{no_regs}
use Rattle.wind_machine.specs.LiveLoadingSaid.{Missing}
use Rattle.wind_machine.specs.State.{State}
use Rattle.wind_machine.specs.Good.{Good}
use Rattle.wind_machine.specs.Laws.{StepLaw}
use Rattle.wind_machine.specs.Task.{is_at_console, waits_for_console}
use Rattle.wind_machine.specs.Reserving.{unless_own, drop_others}
use Rattle.wind_machine.specs.Part.{with_kern, part_of}
use Rattle.wind_machine.specs.Processor.{bus_of, with_bus, regs_of, gate_under, actor_part}
use Rattle.wind_machine.specs.Silent.{IsSilentStep, SilentSteps, last_actor}
use Rattle.board_actors.specs.Instructions.{Executes, executed_to}
use Rattle.wind_machine.specs.Events.{next_event}
use Rattle.wind_machine.specs.ActorSteps.{at_step_start, stepped, file_at, file_in, file_for, task_step}
use Rattle.wind_machine.proofs.Asking.{as_task}
use Rattle.wind_machine.specs.Next.{event_of, holds_back, is_open, is_active, due_at, due_event, next}
use Rattle.wind_machine.specs.Machine.{actor_of, settled_state, Steps}
use Rattle.wind_machine.specs.declared.next.Next.TheVariants.{Act}
use Rattle.wind_machine.proofs.Reserving.{last_own, own_regs}
use Rattle.board_player.specs.declared.order.Running.{Running}
use Rattle.board_player.specs.Going.{IsRunner}
use Rattle.board_player.specs.Bursts.{RunsOn, HasRoom, moved}
use Rattle.board_player.proofs.Going.{find_changed, goes_on}
use Rattle.board_player.proofs.Stepping.{by_instruction}
use Rattle.board_player.proofs.ManySteps.{GoesOn}
use Rattle.wind_machine.proofs.Order.{comes_alone}
use Rattle.board_player.proofs.Deciding.{left_to_tasks}
use Rattle.board_player.proofs.Delivering.{none_due}
use Rattle.board_player.proofs.Answering.{steps_on}
use Rattle.board_player.proofs.Settled.{regs_lend, still_exact, still_settled, regs_keep}

-- ---- the registers of one task change
module _ (who : ℕ) (m : Regs) where
  abbrev with_regs : Task → Task
  with_regs t = record t { regs = m }

  abbrev changed : Task → Task
  changed t = cond (eqb t.id who) (with_regs t) t

  changed_id : (t : Task) → (changed t).id ≡ t.id
  changed_id t = elim (eqb t.id who) as (λ b. (cond b (with_regs t) t).id ≡ t.id) [ true ↦ refl | false ↦ refl ]

  task_changed : (ts : List Task) (n : ℕ) → task_of (change task_id ts who with_regs) n ≡ option_map changed (task_of ts n)
  task_changed ts n = find_changed changed (λ t. eqb t.id n) (λ t. ap (λ i. eqb i n) (changed_id t)) ts

  -- no other task has a reservation then, if none had one
  drops_one : (t : Task) → unless_own who (changed t) ≡ cond (eqb (unless_own who t).id who) (with_regs (unless_own who t)) (unless_own who t)
  drops_one t =
      elim (eqb t.id who) as (λ b. eqb t.id who ≡ b → cond (eqb (cond b (with_regs t) t).id who) (cond b (with_regs t) t) (unreserved (cond b (with_regs t) t)) ≡ cond (eqb (cond b t (unreserved t)).id who) (with_regs (cond b t (unreserved t))) (cond b t (unreserved t))) [
        | true ↦ λ e. ap (λ c. cond c (with_regs t) (unreserved (with_regs t))) e ∙ sym (ap (λ c. cond c (with_regs t) t) e)
        | false ↦ λ e. ap (λ c. cond c t (unreserved t)) e ∙ sym (ap (λ c. cond c (with_regs (unreserved t)) (unreserved t)) e)
      ] refl

  drops : (ts : List Task) → map (unless_own who) (change task_id ts who with_regs) ≡ change task_id (map (unless_own who) ts) who with_regs
  drops [] = refl
  drops (t ∷ ts) =
      ap (λ u. u ∷ map (unless_own who) (change task_id ts who with_regs)) (drops_one t)
      ∙ ap (λ us. cond (eqb (unless_own who t).id who) (with_regs (unless_own who t)) (unless_own who t) ∷ us) (drops ts)

  still_alone : (k : KernState) → drop_others k who ≡ k → drop_others (set_regs k who m) who ≡ set_regs k who m
  still_alone k e = ap (λ ts. record k { tasks = ts }) (drops k.tasks) ∙ ap (λ (j : KernState). record k { tasks = change task_id j.tasks who with_regs }) e

  -- the shell's task waits as before
  waits_as : (o : Option Task) → is_at_console (option_map changed o) ≡ is_at_console o
  waits_as None = refl
  waits_as (Some t) = elim (eqb t.id who) as (λ b. is_at_console (Some (cond b (with_regs t) t)) ≡ is_at_console (Some t)) [ true ↦ refl | false ↦ refl ]

  same_waits : (k : KernState) → waits_for_console (set_regs k who m) ≡ waits_for_console k
  same_waits k = ap is_at_console (task_changed k.tasks shell_id) ∙ waits_as (task_of k.tasks shell_id)

  -- these are its registers then
  own_changed : (x : Task) → x.id ≡ who → (changed x).regs ≡ m
  own_changed x e = ap (λ b. (cond b (with_regs x) x).regs) (eq-eqb x.id who e)

  -- and others written over them
  again_one : (r : Regs) (t : Task) → cond (eqb (changed t).id who) (record (changed t) { regs = r }) (changed t) ≡ cond (eqb t.id who) (record t { regs = r }) t
  again_one r t =
      elim (eqb t.id who) as (λ b. eqb t.id who ≡ b → cond (eqb (cond b (with_regs t) t).id who) (record (cond b (with_regs t) t) { regs = r }) (cond b (with_regs t) t) ≡ cond b (record t { regs = r }) t) [
        | true ↦ λ e. ap (λ c. cond c (record t { regs = r }) (with_regs t)) e
        | false ↦ λ e. ap (λ c. cond c (record t { regs = r }) t) e
      ] refl

  again : (r : Regs) (ts : List Task) → change task_id (change task_id ts who with_regs) who (λ t. record t { regs = r }) ≡ change task_id ts who (λ t. record t { regs = r })
  again r [] = refl
  again r (t ∷ ts) =
      ap (λ u. u ∷ change task_id (change task_id ts who with_regs) who (λ v. record v { regs = r })) (again_one r t)
      ∙ ap (λ us. cond (eqb t.id who) (record t { regs = r }) t ∷ us) (again r ts)

  over : (r : Regs) (k : KernState) → set_regs (set_regs k who m) who r ≡ set_regs k who r
  over r k = ap (λ ts. record k { tasks = ts }) (again r k.tasks)

-- ---- whose registers they are
regs_by : (w : WorldState) (who : ℕ) (o : Option Task) → task_of w.kern.tasks who ≡ o → regs_of w (by_task who) ≡ unwrap_or (option_map (λ t. t.regs) o) no_regs
regs_by w who o e = ap (λ q. unwrap_or (option_map (λ t. t.regs) q) no_regs) e

-- the running task is found among the tasks
pub record IsFound (k : KernState) (who : ℕ) : Type 0 where
  pub task : Task
  pub there : task_of k.tasks who ≡ Some task
  pub own : task.id ≡ who

found : (k : KernState) (who : ℕ) → Rising task_id k.tasks → Some who ≡ runner k → IsFound k who
found k who up e =
    let x = id_found (running k) who e in
    record { task = x.0; there = ap (task_of k.tasks) x.2 ∙ running_found k x.0 up x.1; own = sym x.2 }

-- ---- one instruction is the next step
no_event : (can : Bool) (next : Option Timed) (time : ℕ) → HasRoom can next time 1 → None ≡ option_map event_of (cond can (due_at time next) None)
no_event false next time h = refl
no_event true None time h = refl
no_event true (Some e) time h =
    let after : time + 1 ≤ e.time = h (omega arith) in
    let later : nat_le e.time time ≡ false = grind (arith, nat_tests, after) in
    ap (λ b. option_map event_of (cond b (Some e) None)) (sym later)

module _ (s : State) (who : ℕ) (is : IsKern s.world.kern) (exact : HasExact s.world) (on : RunsOn s who) (room : HasRoom (is_open s) (next_event s) s.time 1) where
  none : None ≡ option_map event_of (due_event s)
  none = no_event (is_open s) (next_event s) s.time room

  -- the task made the last step of a task
  last : last_actor s.world ≡ Some (by_task who)
  last = ap₂ (λ b l. cond b (Some Interrupt) (option_map (λ n. by_task n) l)) on.idle on.last

  started : at_step_start s.world who ≡ s.world
  started = ap₂ (λ k o. record s.world { kern = k; output = o }) on.alone (sym on.silent)

  module _ (r : Regs) (b : BusState) (ex : Executes (board_rules s.world.board).gates_start (regs_of s.world (by_task who)) (bus_of s.world) r b) where
    part : actor_part s.shell (at_step_start s.world who) (by_task who) ≡ part_of s.shell (executed_to s.world (by_task who) r b)
    part = ap (λ w. actor_part s.shell w (by_task who)) started ∙ by_instruction s.shell s.world (by_task who) r b ex

    made : task_step s who ≡ moved s (by_task who) r b 1
    made =
        ap (stepped s who) part
        ∙ ap (λ l. record s { world = with_kern (executed_to s.world (by_task who) r b) (record (set_regs s.world.kern who r) { last = l }); time = s.time + 1; steps = s.steps + 1 }) (sym on.last)

    -- it needs no file, because it is at no gate
    file_none : file_for s who ≡ None
    file_none =
        elim (eqb who shell_id) as (λ b. eqb who shell_id ≡ b → cond b (file_in s.shell.phase s.world) None ≡ None) [
          | true ↦ λ e.
              let one : who ≡ shell_id = eqb-true who shell_id e in
              ap (λ p. file_in p s.world) (on.calls one) ∙ ap (λ n. file_at (gate_under s.world (by_task n)) s.world) (sym one) ∙ ap (λ o. file_at o s.world) ex.no_gate
          | false ↦ λ e. refl
        ] refl

    -- so it comes next
    comes : Act who ≡ next s
    comes = comes_alone s (Act who) (left_to_tasks s on.idle (none_due s on.delivery) none on.console, sym on.runs, file_none)

    -- it leaves priorities settled
    stays : settled_state (moved s (by_task who) r b 1) ≡ moved s (by_task who) r b 1
    stays = still_settled s (moved s (by_task who) r b 1) (regs_keep s.world.kern who r is) refl (regs_lend s.world.kern.tasks who r) exact

    steps : Steps s (moved s (by_task who) r b 1)
    steps = steps_on s (moved s (by_task who) r b 1) (Act who) comes (λ said. ap (λ t. Some (settled_state t)) (as_task s who on.calls ∙ made) ∙ ap Some stays)

    one_step : IsSilentStep s (moved s (by_task who) r b 1)
    one_step = record {
      who = by_task who;
      last = last;
      instruction = record { comes = ap actor_of (sym comes); in_call = λ e. on.calls (eqb-true who shell_id e); no_gate = ex.no_gate };
      goes_on = last;
      last_stays = refl;
      steps = steps;
      silent = on.silent;
      uneventful = refl;
    }

-- ---- the task runs on after them
module _ (s : State) (who : ℕ) (up : Rising task_id s.world.kern.tasks) (on : RunsOn s who) where
  abbrev there : Regs → KernState
  there m = set_regs s.world.kern who m

  noted_same : (m : Regs) → there m ≡ record (set_regs (drop_others s.world.kern who) who m) { last = Some who }
  noted_same m =
      ap (λ l. record (there m) { last = l }) on.last
      ∙ sym (ap (λ (k : KernState). record (set_regs k who m) { last = Some who }) on.alone)

  pub still_runs : (m : Regs) (r : Running) → IsRunner s.world.kern s.world.watch.level r → r.who ≡ Some who → IsRunner (there m) s.world.watch.level r
  still_runs m r is some = goes_on s.world.kern (there m) s.world.watch.level r who up is some (m, noted_same m)

  abbrev as_running : Running
  as_running = record { who = Some who; is_open = not (holds_back (running s.world.kern)) }

  is_running : IsRunner s.world.kern s.world.watch.level as_running
  is_running = record { who = on.runs; back = refl; idle = on.idle }

  now_running : (m : Regs) → IsRunner (there m) s.world.watch.level as_running
  now_running m = still_runs m as_running is_running refl

  same_open : (m : Regs) → (not (is_active s.world) && not (holds_back (running (there m)))) ≡ is_open s
  same_open m = ap (λ b. not (is_active s.world) && b) (sym (now_running m).back)

  pub on_after : (m : Regs) (c : BusState) (k : ℕ) → RunsOn (moved s (by_task who) m c k) who
  on_after m c k = record {
    idle = on.idle;
    runs = (now_running m).who;
    calls = on.calls;
    last = on.last;
    alone = still_alone who m s.world.kern on.alone;
    silent = on.silent;
    delivery = on.delivery ∙ sym (ap (λ o. o && list_any is_waiting s.world.irqs) (same_open m));
    console = on.console ∙ sym (ap₂ (λ o w. o && (s.schedule.on_demand && (not (eqb (length s.left) 0) && (w && not (has_line s.console))))) (same_open m) (same_waits who m s.world.kern));
  }

  same_regs : (m : Regs) (c : BusState) → regs_of (executed_to s.world (by_task who) m c) (by_task who) ≡ m
  same_regs m c =
      let x = found s.world.kern who up on.runs in
      regs_by (executed_to s.world (by_task who) m c) who (Some (changed who m x.task)) (task_changed who m s.world.kern.tasks who ∙ ap (option_map (changed who m)) x.there)
      ∙ own_changed who m x.task x.own

  room_on : (can : Bool) (next : Option Timed) (time n k : ℕ) → k + 1 ≤ n → HasRoom can next time n → HasRoom can next (time + k) 1
  room_on false next time n k h room = tt
  room_on true None time n k h room = tt
  room_on true (Some e) time n k h room = λ some. omega (arith, h, room (omega (arith, h)))

  -- ---- each of its next instructions is a silent step
  module _ (is : IsKern s.world.kern) (exact : HasExact s.world) where
    as_it_was : executed_to s.world (by_task who) (regs_of s.world (by_task who)) (bus_of s.world) ≡ s.world
    as_it_was =
        let x = found s.world.kern who up on.runs in
        ap (with_kern s.world) (ap (set_regs s.world.kern who) (regs_by s.world who (Some x.task) x.there) ∙ own_regs s.world.kern who x.task is x.there)

    pub task_goes_on : (n : ℕ) → HasRoom (is_open s) (next_event s) s.time n → GoesOn s (by_task who) n
    task_goes_on n room = record {
      one = λ k h m r c b ex.
          let u = moved s (by_task who) m c k in
          let here : HasRoom (is_open u) (next_event s) (s.time + k) 1 = subst (λ o. HasRoom o (next_event s) (s.time + k) 1) (sym (same_open m)) (room_on (is_open s) (next_event s) s.time n k h room) in
          let again : Executes (board_rules s.world.board).gates_start (regs_of u.world (by_task who)) (bus_of u.world) r b = subst (λ x. Executes (board_rules s.world.board).gates_start x c r b) (sym (same_regs m c)) ex in
          one_step u who (regs_keep s.world.kern who m is) (still_exact s u refl (regs_lend s.world.kern.tasks who m) exact) (on_after m c k) here r b again;
      same = as_it_was;
      over = λ m r c b. ap (λ (j : KernState). with_bus (with_kern s.world j) b) (over who m r s.world.kern);
    }

-- ---- the invariant is kept
pub record Holds (s t : State) : Type 0 where
  pub good : Good t
  pub same : t.schedule ≡ s.schedule

pub holds_on : StepLaw → (k : ℕ) (s t : State) → IfSome (next_event s) IsEarly → Good s → SilentSteps k s t → Holds s t
holds_on law zero s t early good steps = record { good = subst Good (sym steps) good; same = ap (λ (u : State). u.schedule) steps }
holds_on law (suc k) s t early good steps =
    let u = steps.0 in
    let before = holds_on law k s u early good steps.1 in
    let step = steps.2 in
    record {
      good = law Missing u t (subst (λ x. IfSome (first x.events) IsEarly) (sym before.same) early) before.good (step.steps Missing);
      same = step.uneventful ∙ before.same;
    }

-- only the task that ran last may have a reservation
pub alone_by : (s : State) (who : ℕ) → ReservedBy s.world.kern.last s.world.kern → s.world.kern.last ≡ Some who → drop_others s.world.kern who ≡ s.world.kern
alone_by s who by last = ap (λ ts. record s.world.kern { tasks = ts }) (last_own s.world.kern.tasks who (subst (λ o. ReservedBy o s.world.kern) last by))

-- the same task runs as before
pub known_after : (s : State) (who : ℕ) (regs : Regs) (new : KernState) (watch : WatchState) (now : Running) → Rising task_id s.world.kern.tasks → RunsOn s who → IsRunner s.world.kern s.world.watch.level now
    → now.who ≡ Some who → new ≡ set_regs s.world.kern who regs → watch ≡ s.world.watch → IsRunner new watch.level now
known_after s who regs new watch now up on is own kern same =
    subst (λ (w : WatchState). IsRunner new w.level now) (sym same)
    (subst (λ k. IsRunner k s.world.watch.level now) (sym kern) (still_runs s who up on regs now is own))
