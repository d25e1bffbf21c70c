-- Every step keeps the invariant.
use Rattle.std.proofs.Common.{◌≡◌, ℕ, ◌+◌, ◌≤◌, ◌^◌, true, false, cond, eqb, List, [], ◌∷◌, length, map, take, drop, Option, None, Some, IfSome, inl, inr, refl, sym, ap, ◌∙◌, subst, arith}
use Rattle.std.proofs.lemmas.Bool.{eqb-true}
use Rattle.std.proofs.lemmas.List.{length-take}
use Rattle.tick_file.specs.Schedule.{Timed, Timetable}
use Rattle.tick_file.specs.Laws.{IsEarly}
use Rattle.tick_file.specs.declared.event.Event.{Event}
use Rattle.tick_file.specs.declared.event.Event.TheVariants.{Tick, Rx, Irq}
use Rattle.wind_core.specs.Tick.{tick}
use Rattle.wind_core.specs.Move.{Tick, SetLast}
use Rattle.wind_core.proofs.Ids.{ids-tick, since-tick, lives_by}
use Rattle.wind_core.proofs.Moving.{move_keeps}
use Rattle.wind_core.proofs.Ticking.{tick_keeps, tick_ahead}
use Rattle.shell_parse.specs.Reading.{read_line}
use Rattle.con_line.specs.State.{ConsoleState}
use Rattle.con_line.specs.Lines.{KeepsLines, has_line, first_line, line_dropped}
use Rattle.con_line.proofs.Kept.{drop_keeps}
use Rattle.id_table.specs.Idents.{shell_id}
use Rattle.live_loading.specs.KernelWorldActor.{Actor}
use Rattle.live_loading.specs.KernelWorldActor.TheVariants.{Task as by_task, Interrupt}
use Rattle.isr_watch.specs.declared.watchdog.Watchdog.{Watchdog}
use Rattle.isr_watch.specs.State.{watchdog_id, is_due}
use Rattle.isr_watch.specs.declared.watchdog.Routine.{Routine}
use Rattle.isr_watch.specs.Calls.{stopped, due, begun}
use Rattle.dev_irq.specs.declared.line.Line.{Line}
use Rattle.dev_irq.specs.State.{routines_of}
use Rattle.dev_irq.specs.Calls.{delivered}
use Rattle.isr_watch.proofs.Ids.{ids_stay}
use Rattle.isr_watch.proofs.Keeping.{watch_stays}
use Rattle.live_loading.specs.KernelWorldKept.{routine_stack, AreStacks, KeepsWatch, ReservedBy, Within}
use Rattle.live_loading.specs.KernelWorldObjects.{IsReady}
use Rattle.live_loading.specs.KernelWorldState.{WorldState}
use Rattle.live_loading.proofs.KernelWorldGoes.{goes_nowhere}
use Rattle.live_loading.proofs.KernelWorldObjectMoves.{objects-move}
use Rattle.live_loading.proofs.KernelWorldHolding.{loaded_on}
use Rattle.live_loading.proofs.KernelWorldLiveIds.{Nothing, fewer_same, given_none, ids_map}
use Rattle.live_loading.proofs.KernelWorldWorldIds.{ids_watch}
use Rattle.live_loading.proofs.KernelWorldAdvancing.{Advances, advances_on, watch_on, by_kern, of_watches, of_devices, stays, within_more}
use Rattle.live_loading.specs.Said.{FileSaid}
use Rattle.live_loading.specs.Loading.{shell as by_shell, load_call}
use Rattle.live_loading.specs.Laws.{LoadLaw}
use Rattle.wind_machine.specs.State.{State}
use Rattle.wind_machine.specs.Good.{Keeps, bare, settle_sinces, KeepsEffect, Good}
use Rattle.wind_machine.specs.Feed.{chunk, after_chunk, brought}
use Rattle.wind_machine.specs.Part.{Part, part_of, with_kern}
use Rattle.wind_machine.specs.Shell.{prompt_part, read_part, shell_read, eval_part}
use Rattle.wind_machine.specs.Processor.{without_own, actor_part}
use Rattle.wind_machine.specs.Reserving.{drop_others}
use Rattle.wind_machine.specs.Routine.{interrupt_top}
use Rattle.wind_machine.specs.Events.{Heard, heard_by, arrived, arrival, ticked, received, lines_raised, event_comes, event_step, delivered_world, delivery_step, unreserved_world, without_next, jump, cleared, next_event}
use Rattle.wind_machine.specs.ActorSteps.{after_part, at_step_start, shell_world, stepped, prompt_step, read_step, eval_step, task_step, shell_step, step_of, routine_step}
use Rattle.wind_machine.specs.Next.{is_active, next}
use Rattle.std.specs.Option.{option_map}
use Rattle.inheritance.specs.Mutexes.{both as with_mutexes}
use Rattle.inheritance.proofs.Same.{exact_by_owners}
use Rattle.live_loading.specs.KernelWorldSettling.{settled_kern}
use Rattle.live_loading.proofs.KernelWorldSettling.{objects-settled, goes-settled, exact-settled, settled_same}
use Rattle.wind_machine.specs.Laws.{StepLaw, EffectLaw, SettleLaw, IdleLaw}
use Rattle.wind_machine.specs.Machine.{machine_step, settled_state, state_after}
use Rattle.wind_machine.specs.declared.phase.Phase.{Phase}
use Rattle.wind_machine.specs.declared.phase.Phase.TheVariants as phases
use Rattle.wind_machine.proofs.Kept.{needs_none, prompt_has_line, read_phase}
use Rattle.wind_machine.proofs.Dropping.{others_advance, all_advance, others_reserved, all_reserved}
use Rattle.wind_machine.proofs.Moves.{lent-tick, next-tick, last-tick, stacks-tick, reserved-tick, counts-tick}
use Rattle.wind_machine.proofs.Free.{runner_ready, step_start_ready}
use Rattle.wind_machine.proofs.Hearing.{heard_keeps, chunk_short}
use Rattle.wind_machine.proofs.Order.{by_next}
use Rattle.wind_machine.proofs.PartLaws.{MayReserve}
use Rattle.wind_machine.proofs.Parts.{PartKeeps, prompt_keeps_world, read_keeps_world, eval_keeps, load_keeps, actor_keeps}

-- from a good state
module _ (s : State) (g : Keeps 0 (bare s)) where
  more_counts : Within (s.steps + 1) s.world
  more_counts = within_more s.world s.steps (s.steps + 1) (omega arith) g.within

  -- ---- a task makes a step
  -- clearing the output changes nothing that the invariant mentions
  clear_advances : (w : WorldState) → Advances s.world w s.steps 0 0 → Advances s.world (cleared w) s.steps 0 0
  clear_advances w a = record {
    steps = record {
      kept = record { kern = a.kept.kern; home = a.kept.home; kind = a.kept.kind; objects = a.kept.objects; pool = a.kept.pool; stacks = a.kept.stacks; modules = a.kept.modules; ram = a.kept.ram; symbols = a.kept.symbols; watch = a.kept.watch; ids = a.kept.ids };
      within = a.within;
      last = a.last;
      reserves = a.reserves;
      sinces = a.sinces;
      count = a.count;
      names = a.names;
      starts = a.starts;
      choice = a.choice;
    };
    lives = a.lives;
  }

  -- an actor leaves this part, with this console and this task noted as the last one
  acted_keeps : (console : ConsoleState) (w : WorldState) (who : Actor) (p : Part) (last : Option ℕ) → Advances s.world w s.steps 0 0 → KeepsLines console.edited console.finished
      → PartKeeps w p who (s.steps + 1) console.finished → MayReserve who last → ReservedBy last w.kern
      → KeepsEffect (after_part (record s { console = console }) (part_of p.shell (with_kern p.world (record p.world.kern { last = last }))))
  acted_keeps console w who p last a lines part may reserved =
      let goes = part.keeps_world in
      let kept = goes.kept in
      record {
        console = lines;
        read = part.read;
        world = record { kern = move_keeps p.world.kern (SetLast last) kept.kern tt; home = kept.home; kind = kept.kind; objects = objects-move p.world.kern p.world.objects kept.kern kept.objects (SetLast last) (tt, tt, tt, tt); pool = kept.pool; stacks = kept.stacks; modules = kept.modules; ram = kept.ram; symbols = kept.symbols; watch = kept.watch; ids = kept.ids };
        shell = goes.shell (a.lives shell_id g.shell);
        reserved = goes.reserves last may reserved;
        sinces = omega (arith, goes.sinces, a.sinces, g.sinces);
        ticks = omega (arith, goes.count, a.count, g.ticks);
        within = goes.within;
        names = omega (arith, goes.names, a.names, g.names);
        starts = omega (arith, goes.starts, a.starts, g.starts);
        time = omega (arith, g.time);
      }

  -- the world at the beginning of a task's step
  pub step_start_advances : (who : ℕ) → Advances s.world (at_step_start s.world who) s.steps 0 0
  step_start_advances who = clear_advances (with_kern s.world (drop_others s.world.kern who)) (others_advance s.world s.steps g.world g.within who)

  stepped_keeps : (console : ConsoleState) (who : ℕ) (p : Part) → KeepsLines console.edited console.finished → PartKeeps (at_step_start s.world who) p (by_task who) (s.steps + 1) console.finished
      → KeepsEffect (stepped (record s { console = console }) who p)
  stepped_keeps console who p lines part =
      acted_keeps console (at_step_start s.world who) (by_task who) p (Some who) (step_start_advances who) lines part refl (others_reserved s.world.kern who)

  -- what each of them does
  pub prompts : PartKeeps (shell_world s) (prompt_part (has_line s.console) s.shell (shell_world s)) by_shell (s.steps + 1) s.console.finished
  prompts =
      let a = step_start_advances shell_id in
      record { keeps_world = prompt_keeps_world (shell_world s) s.steps a.kept a.within (a.lives shell_id g.shell) (has_line s.console) s.shell; read = prompt_has_line s.console.finished s.shell g.read }

  pub reads : PartKeeps (shell_world s) (read_part (read_line (first_line s.console)) (shell_world s)) by_shell (s.steps + 1) (line_dropped s.console).finished
  reads =
      let a = step_start_advances shell_id in
      let reading = read_line (first_line s.console) in
      record { keeps_world = read_keeps_world (shell_world s) s.steps a.kept a.within reading; read = needs_none (shell_read reading).phase (line_dropped s.console).finished (read_phase reading) }

  pub evaluates : IsReady s.world.kern shell_id → PartKeeps (shell_world s) (eval_part s.shell.trees (shell_world s)) by_shell (s.steps + 1) s.console.finished
  evaluates ready =
      let a = step_start_advances shell_id in
      eval_keeps (shell_world s) s.steps a.kept a.within s.console.finished s.shell.trees (step_start_ready s.world.kern shell_id ready)

  pub acts : (who : ℕ) → IsReady s.world.kern who → PartKeeps (at_step_start s.world who) (actor_part s.shell (at_step_start s.world who) (by_task who)) (by_task who) (s.steps + 1) s.console.finished
  acts who ready =
      let a = step_start_advances who in
      actor_keeps (at_step_start s.world who) s.steps a.kept a.within s.console.finished s.shell g.read (by_task who) (step_start_ready s.world.kern who ready)

  pub loads : LoadLaw → IsReady s.world.kern shell_id → (name : List ℕ) (said : FileSaid)
      → PartKeeps (shell_world s) (part_of s.shell (without_own (load_call (shell_world s) name said) by_shell)) by_shell (s.steps + 1) s.console.finished
  loads law ready name said =
      let a = step_start_advances shell_id in
      load_keeps (shell_world s) s.steps a.kept a.within s.console.finished law s.shell g.read (step_start_ready s.world.kern shell_id ready) name said

  prompt_keeps : KeepsEffect (prompt_step s)
  prompt_keeps = stepped_keeps s.console shell_id (prompt_part (has_line s.console) s.shell (shell_world s)) g.console prompts

  read_keeps : KeepsEffect (read_step s)
  read_keeps = stepped_keeps (line_dropped s.console) shell_id (read_part (read_line (first_line s.console)) (shell_world s)) (drop_keeps s.console g.console) reads

  evals_keep : IsReady s.world.kern shell_id → KeepsEffect (eval_step s)
  evals_keep ready = stepped_keeps s.console shell_id (eval_part s.shell.trees (shell_world s)) g.console (evaluates ready)

  tasks_keep : (who : ℕ) → IsReady s.world.kern who → KeepsEffect (task_step s who)
  tasks_keep who ready = stepped_keeps s.console who (actor_part s.shell (at_step_start s.world who) (by_task who)) g.console (acts who ready)

  shell_keeps : (p : Phase) → IsReady s.world.kern shell_id → KeepsEffect (shell_step p s)
  shell_keeps phases.Prompt ready = prompt_keeps
  shell_keeps phases.Read ready = read_keeps
  shell_keeps phases.Eval ready = evals_keep ready
  shell_keeps phases.Call ready = tasks_keep shell_id ready

  whoever_keeps : (who : ℕ) → IsReady s.world.kern who → KeepsEffect (step_of s who)
  whoever_keeps who ready =
      elim (eqb who shell_id) as (λ b. eqb who shell_id ≡ b → KeepsEffect (cond b (shell_step s.shell.phase s) (task_step s who))) [
        | true ↦ λ e. shell_keeps s.shell.phase (subst (IsReady s.world.kern) (eqb-true who shell_id e) ready)
        | false ↦ λ e. tasks_keep who ready
      ] refl

  -- ---- an interrupt routine makes a step
  routine_start_advances : Advances s.world (cleared (unreserved_world s.world)) s.steps 0 0
  routine_start_advances = clear_advances (unreserved_world s.world) (all_advance s.world s.steps g.world g.within)

  pub routine_acts : is_active s.world ≡ true → PartKeeps (cleared (unreserved_world s.world)) (actor_part s.shell (cleared (unreserved_world s.world)) Interrupt) Interrupt (s.steps + 1) s.console.finished
  routine_acts active =
      let a = routine_start_advances in
      actor_keeps (cleared (unreserved_world s.world)) s.steps a.kept a.within s.console.finished s.shell g.read Interrupt active

  routine_keeps : is_active s.world ≡ true → KeepsEffect (routine_step s)
  routine_keeps active =
      let p = actor_part s.shell (cleared (unreserved_world s.world)) Interrupt in
      acted_keeps s.console (cleared (unreserved_world s.world)) Interrupt p p.world.kern.last routine_start_advances g.console (routine_acts active) tt (all_reserved s.world.kern p.world.kern.last)

  -- ---- bytes arrive
  arrived_keeps : (left bytes : List ℕ) (h : Heard) → length bytes ≤ 4097 → h ≡ heard_by s bytes → KeepsEffect (arrived s left h)
  arrived_keeps left bytes h short e =
      let heard = heard_keeps s.console s.shell s.world.kern [] bytes (s.steps + 1) g.console g.read g.world.kern more_counts.0 h e in
      let a = by_kern s.world g.world h.kern (s.steps + 1) (length bytes + 1) heard.2 (heard.3 s.world.board s.world.objects g.world.objects) more_counts.1 in
      record {
        console = heard.0;
        read = heard.1;
        world = record { kern = a.kept.kern; home = a.kept.home; kind = a.kept.kind; objects = a.kept.objects; pool = a.kept.pool; stacks = a.kept.stacks; modules = a.kept.modules; ram = a.kept.ram; symbols = a.kept.symbols; watch = a.kept.watch; ids = a.kept.ids };
        shell = a.lives shell_id g.shell;
        reserved = subst (λ who. ReservedBy who h.kern) (sym a.last) (a.reserves s.world.kern.last g.reserved);
        sinces = omega (arith, a.sinces, g.sinces, short);
        ticks = omega (arith, a.count, g.ticks);
        within = a.within;
        names = omega (arith, g.names);
        starts = omega (arith, g.starts);
        time = omega (arith, g.time);
      }

  arrival_keeps : KeepsEffect (arrival s)
  arrival_keeps = arrived_keeps (after_chunk s.left) (chunk s.left) (heard_by s (chunk s.left)) (chunk_short s.left) refl

  received_keeps : (n : ℕ) → KeepsEffect (received s n)
  received_keeps n =
      let bytes = take (brought n) s.left in
      arrived_keeps (drop (brought n) s.left) bytes (heard_by s bytes) (omega (arith, length-take (brought n) s.left)) refl

  -- ---- a tick occurs
  ticks_watch : (n : ℕ) → KeepsWatch s.world.board s.world.kern.next_id (due s.world.watch n interrupt_top)
  ticks_watch n =
      let w = g.world.watch in
      record {
        watch = (watch_stays s.world.kern.next_id s.world.watch w.watch w.ids).ticking n interrupt_top;
        ids = (ids_stay s.world.kern.next_id s.world.watch w.ids).ticking n interrupt_top;
        link = w.link;
      }

  stops_alike : (n : ℕ) (v : Watchdog) → (cond (is_due n v) (stopped v) v).id ≡ v.id
  stops_alike n v = elim (is_due n v) as (λ b. (cond b (stopped v) v).id ≡ v.id) [ true ↦ refl | false ↦ refl ]

  ticked_keeps : KeepsEffect (ticked s)
  ticked_keeps =
      let k = s.world.kern in
      record {
        console = g.console;
        read = g.read;
        world = record {
          kern = tick_keeps k g.world.kern;
          home = lent-tick k ∙ g.world.home;
          kind = g.world.kind;
          objects = objects-move k s.world.objects g.world.kern g.world.objects Tick (tt, tt, tt, tt);
          pool = g.world.pool;
          stacks = subst (λ ats. AreStacks s.world.part (routine_stack ∷ ats)) (sym (stacks-tick k)) g.world.stacks;
          modules = loaded_on k s.world.part s.world.modules.rows g.world.modules (tick k) (omega (arith, next-tick k)) (stacks-tick k);
          ram = g.world.ram;
          symbols = g.world.symbols;
          watch = watch_on s.world.board k.next_id (tick k).next_id _ (omega (arith, next-tick k)) (ticks_watch (tick k).tick);
          ids = ids_watch s.world g.world.ids (tick k) (due s.world.watch (tick k).tick interrupt_top) (ids-tick k)
              (Nothing (omega (arith, next-tick k)) (fewer_same (map watchdog_id s.world.watch.watchdogs) _ (ids_map watchdog_id (λ v. cond (is_due (tick k).tick v) (stopped v) v) s.world.watch.watchdogs (stops_alike (tick k).tick))));
        };
        shell = lives_by (tick k).tasks k.tasks shell_id (ids-tick k) g.shell;
        reserved = subst (λ who. ReservedBy who (tick k)) (sym (last-tick k)) (reserved-tick k k.last g.reserved);
        sinces = omega (arith, since-tick k, g.world.kern.few, g.sinces);
        ticks = omega (arith, (tick_ahead k g.world.kern).0, g.ticks);
        within = (counts-tick k (s.steps + 1) more_counts.0, more_counts.1);
        names = omega (arith, g.names);
        starts = omega (arith, g.starts);
        time = omega (arith, g.time);
      }

  -- ---- all tasks live on, and no number is handed out
  calm_keeps : (w : WorldState) (time : ℕ) → Advances s.world w s.steps 0 0 → ReservedBy w.kern.last w.kern → time ≤ 2 ^ 64 + (s.steps + 1) → KeepsEffect (record s { world = cleared w; time = time; steps = s.steps + 1 })
  calm_keeps w time a reserved early = record {
    console = g.console;
    read = g.read;
    world = record { kern = a.kept.kern; home = a.kept.home; kind = a.kept.kind; objects = a.kept.objects; pool = a.kept.pool; stacks = a.kept.stacks; modules = a.kept.modules; ram = a.kept.ram; symbols = a.kept.symbols; watch = a.kept.watch; ids = a.kept.ids };
    shell = a.lives shell_id g.shell;
    reserved = reserved;
    sinces = omega (arith, a.sinces, g.sinces);
    ticks = omega (arith, a.count, g.ticks);
    within = within_more w s.steps (s.steps + 1) (omega arith) a.within;
    names = omega (arith, a.names, g.names);
    starts = omega (arith, a.starts, g.starts);
    time = early;
  }

  -- a device interrupts
  raised_keeps : (irqs : List Line) → KeepsEffect (record s { world = cleared (record s.world { irqs = irqs }); steps = s.steps + 1 })
  raised_keeps irqs = calm_keeps (record s.world { irqs = irqs }) s.time (of_devices s.world g.world s.steps g.within irqs s.world.slots) g.reserved (omega (arith, g.time))

  -- board time jumps
  jump_keeps : (e : Timed) → IsEarly e → KeepsEffect (jump s e.time)
  jump_keeps e early = calm_keeps s.world e.time (stays s.world g.world s.steps g.within) g.reserved (omega (arith, early))

  -- ---- an interrupt is delivered: its routines begin
  begins_watch : (routines : List Routine) → KeepsWatch s.world.board s.world.kern.next_id (begun s.world.watch routines interrupt_top)
  begins_watch routines =
      let w = g.world.watch in
      record {
        watch = (watch_stays s.world.kern.next_id s.world.watch w.watch w.ids).beginning routines interrupt_top;
        ids = (ids_stay s.world.kern.next_id s.world.watch w.ids).beginning routines interrupt_top;
        link = w.link;
      }

  delivered_keeps : (i : ℕ) → KeepsEffect (record s { world = cleared (delivered_world s.world i); steps = s.steps + 1 })
  delivered_keeps i =
      let w = s.world in
      let watch = begun w.watch (routines_of w.irqs i) interrupt_top in
      let v = record w { watch = watch } in
      let u = record v { irqs = delivered w.irqs i } in
      let begin = of_watches w g.world s.steps g.within w.kern watch 0 (goes_nowhere w.kern s.steps g.world.kern g.within.0) g.world.objects (begins_watch (routines_of w.irqs i)) (omega arith) (given_none w.kern.next_id w.kern.next_id (map watchdog_id w.watch.watchdogs) (omega arith)) in
      calm_keeps u s.time (advances_on w v u s.steps s.steps 0 0 0 0 begin (of_devices v begin.kept s.steps begin.within (delivered w.irqs i) w.slots)) g.reserved (omega (arith, g.time))

  comes_keeps : (e : Event) → KeepsEffect (event_comes s e)
  comes_keeps Tick = ticked_keeps
  comes_keeps (Rx n) = received_keeps n
  comes_keeps (Irq i) = raised_keeps (lines_raised s.world.irqs s.world.slots i)

  -- nobody has a reservation when an event occurs; the invariant doesn't mention the future events
  pub unreserved_keeps : (t : Timetable) → Keeps 0 (bare (record s { schedule = t; world = unreserved_world s.world }))
  unreserved_keeps t =
      let a = all_advance s.world s.steps g.world g.within in
      record {
        console = g.console;
        read = g.read;
        world = a.kept;
        shell = a.lives shell_id g.shell;
        reserved = all_reserved s.world.kern s.world.kern.last;
        sinces = g.sinces;
        ticks = g.ticks;
        within = a.within;
        names = g.names;
        starts = g.starts;
        time = g.time;
      }

event_keeps : (s : State) (e : Event) → Keeps 0 (bare s) → KeepsEffect (event_step s e)
event_keeps s e g =
    let t = without_next s.schedule in
    comes_keeps (record s { schedule = t; world = unreserved_world s.world }) (unreserved_keeps s g t) e

delivery_keeps : (s : State) (i : ℕ) → Keeps 0 (bare s) → KeepsEffect (delivery_step s i)
delivery_keeps s i g = delivered_keeps (record s { world = unreserved_world s.world }) (unreserved_keeps s g s.schedule) i

-- ---- a step of the machine
next_keeps : LoadLaw → (said : FileSaid) (s : State) → IfSome (next_event s) IsEarly → Keeps 0 (bare s) → IfSome (state_after said s (next s)) KeepsEffect
next_keeps law said s early g = by_next s (λ n. IfSome (state_after said s n) KeepsEffect) (record {
  deliver = λ i due. delivery_keeps s i g;
  come = λ held e due. event_keeps s e.event g;
  arrive = λ held quiet due. arrival_keeps s g;
  routine = λ nothing active. routine_keeps s g active;
  act = λ left t runs none. whoever_keeps s g t.id (runner_ready s.world.kern g.world.kern t runs);
  load = λ left t runs own name found.
      let part = part_of s.shell (without_own (load_call (shell_world s) name said) by_shell) in
      stepped_keeps s g s.console shell_id part g.console (loads s g law (subst (IsReady s.world.kern) own (runner_ready s.world.kern g.world.kern t runs)) name said);
  jump = λ left nobody e there. jump_keeps s g e (subst (λ o. IfSome o IsEarly) there early);
  over = λ left nobody none. tt;
})

pub effect_keeps : LoadLaw → EffectLaw
effect_keeps law said s early g = next_keeps law said s early g.kept

-- ---- priorities are settled
pub settles : SettleLaw
settles s g =
    let k = s.world.kern in
    let o = s.world.objects in
    let a = by_kern s.world g.world (settled_kern k o) s.steps settle_sinces (goes-settled k o s.steps g.world.kern g.within.0) (objects-settled k o g.world.kern g.world.objects) g.within.1 in
    record {
      kept = record {
        console = g.console;
        read = g.read;
        world = record { kern = a.kept.kern; home = a.kept.home; kind = a.kept.kind; objects = a.kept.objects; pool = a.kept.pool; stacks = a.kept.stacks; modules = a.kept.modules; ram = a.kept.ram; symbols = a.kept.symbols; watch = a.kept.watch; ids = a.kept.ids };
        shell = a.lives shell_id g.shell;
        reserved = subst (λ who. ReservedBy who (settled_kern k o)) (sym a.last) (a.reserves k.last g.reserved);
        sinces = omega (arith, a.sinces, g.sinces);
        ticks = omega (arith, a.count, g.ticks);
        within = a.within;
        names = g.names;
        starts = g.starts;
        time = g.time;
      };
      exact = exact-settled s.world g.world.kern;
    }

pub idles : IdleLaw
idles s g (inl one) = ap (λ w. record s { world = w }) (settled_same s.world g.world.kern (exact_by_owners (with_mutexes s.world.kern s.world.objects.mutexes) one g.world.kern (g.world.objects.mutexes.urgent one)))
idles s g (inr exact) = ap (λ w. record s { world = w }) (settled_same s.world g.world.kern exact)

-- what holds of a state whose priorities are settled holds after the step
pub if_settled : (P : State → Type 0) (o : Option State) → IfSome o (λ u. P (settled_state u)) → IfSome (option_map settled_state o) P
if_settled P None h = tt
if_settled P (Some u) h = h

pub if_each : (P Q : State → Type 0) → ((u : State) → P u → Q u) → (o : Option State) → IfSome o P → IfSome o Q
if_each P Q to None h = tt
if_each P Q to (Some u) h = to u h

pub step_keeps : LoadLaw → StepLaw
unfolding machine_step
step_keeps law said s t early g e =
    subst (λ o. IfSome o Good) e (if_settled Good (state_after said s (next s)) (if_each KeepsEffect (λ u. Good (settled_state u)) settles (state_after said s (next s)) (effect_keeps law said s early g)))
