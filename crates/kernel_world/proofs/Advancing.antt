-- What a call keeps while all its tasks live on: the invariant, and the bounds of the counters.
use Rattle.std.proofs.Common.{◌≡◌, ℕ, ◌+◌, ◌<◌, ◌≤◌, List, ◌∷◌, map, length, Option, None, Some, refl, sym, ap, ◌∙◌, subst, arith}
use Rattle.std.specs.Option.{option_map}
use Rattle.std.proofs.lemmas.List.Elements.{All-weaker}
use Rattle.wind_base.specs.Limits.{most_symbols}
use Rattle.wind_base.specs.declared.board_kind.BoardKind.{BoardKind}
use Rattle.wind_base.specs.declared.regs.Regs.{Regs}
use Rattle.wind_outside.specs.Devices.{DeviceState}
use Rattle.symbol_table.specs.declared.symbol.Symbol.{Symbol}
use Rattle.id_table.specs.Rows as table
use Rattle.module_loader.specs.declared.module.LoadedModule.{LoadedModule}
use Rattle.mem_partition.specs.State.{PartState}
use Rattle.wind_core.specs.State.{KernState, Lives}
use Rattle.wind_core.specs.Move.{Set}
use Rattle.wind_core.specs.declared.settings.Setting.TheVariants as settings
use Rattle.wind_core.proofs.Ids.{lives_by}
use Rattle.msg_queue.specs.State.{Scene}
use Rattle.dev_irq.specs.declared.line.Line.{Line}
use Rattle.isr_watch.specs.State.{WatchState, IsWatch, watchdog_id}
use Rattle.kernel_world.specs.State.{WorldState, choice_of}
use Rattle.kernel_world.specs.Objects.{KeepsObjects, DepthsWithin}
use Rattle.kernel_world.specs.Replies.{level_by, at_level, with_errno}
use Rattle.kernel_world.specs.Kept.{routine_stack, KeepsPool, KeepsLoaded, task_stacks, AreStacks, KeepsWatch, IsWorld, Within, call_sinces, StepKeeps}
use Rattle.kernel_world.specs.declared.objects.Objects.{Objects}
use Rattle.kernel_world.specs.declared.actor.Actor.{Actor}
use Rattle.kernel_world.specs.declared.actor.Actor.TheVariants.{Task, Interrupt}
use Rattle.kernel_world.proofs.Goes.{Goes, goes_nowhere, more_counts, goes-move, reserved_by}
use Rattle.kernel_world.proofs.ObjectMoves.{objects-move}
use Rattle.kernel_world.proofs.Holding.{loaded_on}
use Rattle.kernel_world.specs.LiveIds.{KeepsIds}
use Rattle.kernel_world.proofs.LiveIds.{Fewer, Given, fewer_same, given_none}
use Rattle.kernel_world.proofs.WorldIds.{ids_kern, ids_watch, ids_modules}

-- from one world to another: a step keeps what it must, and tasks that live live on
pub record Advances (w v : WorldState) (n d m : ℕ) : Type 0 where
  pub steps : StepKeeps w v n d m
  pub open steps use *
  pub lives : (who : ℕ) → Lives w.kern who → Lives v.kern who

-- a bound of counts may rise
pub within_more : (w : WorldState) (l n : ℕ) → l ≤ n → Within l w → Within n w
within_more w l n more within =
    (more_counts w.kern l n more within.0, All-weaker (λ r. r.1.depth ≤ l) (λ r. r.1.depth ≤ n) (λ r h. omega (arith, h, more)) w.objects.mutexes.rows within.1)

-- the ids of watchdogs are below a later next id too
pub watch_on : (board : BoardKind) (m n : ℕ) (s : WatchState) → m ≤ n → KeepsWatch board m s → KeepsWatch board n s
watch_on board m n s more h = record { link = h.link; watch = h.watch; ids = All-weaker (λ v. v.id < m) (λ v. v.id < n) (λ v below. omega (arith, below, more)) s.watchdogs h.ids }

-- if no routine is active, none is listed, whatever registers the active one has
pub level_is : (f : Regs → Regs) (s : WatchState) → IsWatch s → IsWatch (level_by f s)
level_is f s is = record {
  few = is.few;
  rising = is.rising;
  idle = λ none. is.idle (elim s.level as (λ o. option_map f o ≡ None → o ≡ None) [ None ↦ λ e. refl | Some r ↦ λ e. absurd (cc) ] none);
}

-- ---- one after the other
pub keeps_on : (w v u : WorldState) (l n d e f m o p : ℕ) → d + e ≤ f → m + o ≤ p → StepKeeps w v l d m → StepKeeps v u n e o → StepKeeps w u n f p
keeps_on w v u l n d e f m o p sinces names a b = record {
  kept = b.kept;
  within = b.within;
  last = b.last ∙ a.last;
  reserves = λ who h. b.reserves who (a.reserves who h);
  sinces = omega (arith, a.sinces, b.sinces, sinces);
  count = b.count ∙ a.count;
  names = omega (arith, a.names, b.names, names);
  starts = omega (arith, a.starts, b.starts, names);
  choice = b.choice ∙ a.choice;
}

pub advances_on : (w v u : WorldState) (l n d e m o : ℕ) → Advances w v l d m → Advances v u n e o → Advances w u n (d + e) (m + o)
advances_on w v u l n d e m o a b =
    record { steps = keeps_on w v u l n d e (d + e) m o (m + o) (omega arith) (omega arith) a.steps b.steps; lives = λ who h. b.lives who (a.lives who h) }

-- the bounds may rise
pub keeps_more : (w v : WorldState) (l n d e m o : ℕ) → l ≤ n → d ≤ e → m ≤ o → StepKeeps w v l d m → StepKeeps w v n e o
keeps_more w v l n d e m o more sinces names a = record {
  kept = a.kept;
  within = within_more v l n more a.within;
  last = a.last;
  reserves = a.reserves;
  sinces = omega (arith, a.sinces, sinces);
  count = a.count;
  names = omega (arith, a.names, names);
  starts = omega (arith, a.starts, names);
  choice = a.choice;
}

pub advances_more : (w v : WorldState) (l n d e m o : ℕ) → l ≤ n → d ≤ e → m ≤ o → Advances w v l d m → Advances w v n e o
advances_more w v l n d e m o more sinces names a = record { steps = keeps_more w v l n d e m o more sinces names a.steps; lives = a.lives }

module _ (w : WorldState) (kept : IsWorld w) where
  -- the tasks change, and the invariant holds then
  pub by_goes : (v : WorldState) (n d m : ℕ) → Goes w.kern v.kern n d → IsWorld v → DepthsWithin n v.objects → v.names ≤ w.names + m → v.watch.next_start ≤ w.watch.next_start + m → choice_of v ≡ choice_of w → Advances w v n d m
  by_goes v n d m g is depths names starts choice = record {
    steps = record {
      kept = is;
      within = (g.counts, depths);
      last = g.last;
      reserves = λ who h. reserved_by w.kern.tasks v.kern.tasks who g.alone g.reserves h;
      sinces = g.sinces;
      count = g.count;
      names = names;
      starts = starts;
      choice = choice;
    };
    lives = λ who h. lives_by v.kern.tasks w.kern.tasks who g.alone h;
  }

  -- the tasks change, and with them the objects, RAM and the watchdogs
  by_parts : (j : KernState) (o : Objects) (ram : List ℕ) (s : WatchState) (n d m : ℕ) → Goes w.kern j n d → KeepsObjects w.board j o → DepthsWithin n o → length ram ≡ length w.ram → KeepsWatch w.board j.next_id s → s.next_start ≤ w.watch.next_start + m
      → KeepsIds (record w { kern = j; objects = o; ram = ram; watch = s }) → o.mutexes.profile ≡ w.objects.mutexes.profile → Advances w (record w { kern = j; objects = o; ram = ram; watch = s }) n d m
  by_parts j o ram s n d m g objects depths same watch starts own rule =
      by_goes (record w { kern = j; objects = o; ram = ram; watch = s }) n d m g
      (record {
        kern = g.kern;
        home = g.lent ∙ kept.home;
        kind = kept.kind;
        objects = objects;
        pool = kept.pool;
        stacks = subst (λ ss. AreStacks w.part (routine_stack ∷ ss)) (sym g.stacks) kept.stacks;
        modules = loaded_on w.kern w.part w.modules.rows kept.modules j g.next g.stacks;
        ram = same ∙ kept.ram;
        symbols = kept.symbols;
        watch = watch;
        ids = own;
      })
      depths (omega arith) starts (ap (λ p. record { profile = p; board = w.board }) rule)

  -- the tasks change, and the objects with them
  pub by_objects : (j : KernState) (o : Objects) (n d : ℕ) → Goes w.kern j n d → KeepsObjects w.board j o → DepthsWithin n o → KeepsIds (record w { kern = j; objects = o })
      → o.mutexes.profile ≡ w.objects.mutexes.profile → Advances w (record w { kern = j; objects = o }) n d 0
  by_objects j o n d g objects depths own rule =
      by_parts j o w.ram w.watch n d 0 g objects depths refl (watch_on w.board w.kern.next_id j.next_id w.watch g.next kept.watch) (omega arith) own rule

  pub by_kern : (j : KernState) (n d : ℕ) → Goes w.kern j n d → KeepsObjects w.board j w.objects → DepthsWithin n w.objects → Advances w (record w { kern = j }) n d 0
  by_kern j n d g objects depths = by_objects j w.objects n d g objects depths (ids_kern w kept.ids j g.alone g.next) refl

  module _ (n : ℕ) (within : Within n w) where
    more : Within (n + 1) w
    more = within_more w n (n + 1) (omega arith) within

    -- blocks, symbols, modules and RAM change, and so may what the invariant doesn't mention
    other_parts : (p : PartState) (ss : List Symbol) (ms : List (ℕ × LoadedModule)) (ram : List ℕ) (irqs : List Line) (slots : List (Option DeviceState)) (output : List ℕ) (errno : ℕ)
        → KeepsPool w.board p → AreStacks p (routine_stack ∷ task_stacks w.kern) → KeepsLoaded w.kern p ms → length ss ≤ most_symbols → length ram ≡ length w.ram → Fewer (table.ids ms) (table.ids w.modules.rows)
        → Advances w (record w { part = p; symbols = ss; modules = record w.modules { rows = ms }; ram = ram; irqs = irqs; slots = slots; output = output; int_errno = errno }) n 0 0
    other_parts p ss ms ram irqs slots output errno pool stacks modules few same fewer =
        by_goes (record w { part = p; symbols = ss; modules = record w.modules { rows = ms }; ram = ram; irqs = irqs; slots = slots; output = output; int_errno = errno }) n 0 0
        (goes_nowhere w.kern n kept.kern within.0)
        (record { kern = kept.kern; home = kept.home; kind = kept.kind; objects = kept.objects; pool = pool; stacks = stacks; modules = modules; ram = same ∙ kept.ram; symbols = few; watch = kept.watch; ids = ids_modules w kept.ids ms fewer })
        within.1 (omega arith) (omega arith) refl

    -- the same, with the interrupts of devices as they were
    pub of_parts : (p : PartState) (ss : List Symbol) (ms : List (ℕ × LoadedModule)) (ram : List ℕ) (slots : List (Option DeviceState)) (output : List ℕ) (errno : ℕ)
        → KeepsPool w.board p → AreStacks p (routine_stack ∷ task_stacks w.kern) → KeepsLoaded w.kern p ms → length ss ≤ most_symbols → length ram ≡ length w.ram → Fewer (table.ids ms) (table.ids w.modules.rows)
        → Advances w (record w { part = p; symbols = ss; modules = record w.modules { rows = ms }; ram = ram; slots = slots; output = output; int_errno = errno }) n 0 0
    of_parts p ss ms ram slots output errno = other_parts p ss ms ram w.irqs slots output errno

    -- the modules stay
    same_modules : Fewer (table.ids w.modules.rows) (table.ids w.modules.rows)
    same_modules = fewer_same (table.ids w.modules.rows) (table.ids w.modules.rows) refl

    -- only what the invariant doesn't mention changes
    pub beside : (slots : List (Option DeviceState)) (output : List ℕ) (errno : ℕ) → Advances w (record w { slots = slots; output = output; int_errno = errno }) n 0 0
    beside slots output errno = of_parts w.part w.symbols w.modules.rows w.ram slots output errno kept.pool kept.stacks kept.modules kept.symbols refl same_modules

    -- only the devices and their interrupts change
    pub of_devices : (irqs : List Line) (slots : List (Option DeviceState)) → Advances w (record w { irqs = irqs; slots = slots }) n 0 0
    of_devices irqs slots = other_parts w.part w.symbols w.modules.rows w.ram irqs slots w.output w.int_errno kept.pool kept.stacks kept.modules kept.symbols refl same_modules

    -- a move that hands out no numbers, seen as a call that may
    pub as_call : (v : WorldState) → Advances w v n 0 0 → Advances w v (n + 1) call_sinces 1
    as_call v a = advances_more w v n (n + 1) 0 call_sinces 0 1 (omega arith) (omega arith) (omega arith) a

    pub stays : Advances w w n 0 0
    stays = beside w.slots w.output w.int_errno

    -- the watchdogs change, and the next id with them
    pub of_watches : (j : KernState) (s : WatchState) (m : ℕ) → Goes w.kern j n 0 → KeepsObjects w.board j w.objects → KeepsWatch w.board j.next_id s → s.next_start ≤ w.watch.next_start + m
        → Given w.kern.next_id j.next_id (map watchdog_id w.watch.watchdogs) (map watchdog_id s.watchdogs) → Advances w (record w { kern = j; watch = s }) n 0 m
    of_watches j s m g objects watch starts given = by_parts j w.objects w.ram s n 0 m g objects within.1 refl watch starts (ids_watch w kept.ids j s g.alone given) refl

    -- the active routine's registers are others
    pub at_routine : (f : Regs → Regs) → Advances w (at_level w f) n 0 0
    at_routine f =
        of_watches w.kern (level_by f w.watch) 0 (goes_nowhere w.kern n kept.kern within.0) kept.objects
        (record { watch = level_is f w.watch kept.watch.watch; ids = kept.watch.ids; link = kept.watch.link }) (omega arith) (given_none w.kern.next_id w.kern.next_id (map watchdog_id w.watch.watchdogs) (omega arith))

    pub nowhere : Advances w w (n + 1) call_sinces 1
    nowhere = as_call w stays

    pub of_tasks : (j : KernState) → Goes w.kern j (n + 1) call_sinces → KeepsObjects w.board j w.objects → Advances w (record w { kern = j }) (n + 1) call_sinces 1
    of_tasks j g objects =
        advances_more w (record w { kern = j }) (n + 1) (n + 1) call_sinces call_sinces 0 1 (omega arith) (omega arith) (omega arith)
        (by_kern j (n + 1) call_sinces g objects more.1)

    pub of_both : (j : KernState) (o : Objects) → Goes w.kern j (n + 1) call_sinces → KeepsObjects w.board j o → DepthsWithin (n + 1) o → KeepsIds (record w { kern = j; objects = o })
        → o.mutexes.profile ≡ w.objects.mutexes.profile → Advances w (record w { kern = j; objects = o }) (n + 1) call_sinces 1
    of_both j o g objects depths own rule =
        advances_more w (record w { kern = j; objects = o }) (n + 1) (n + 1) call_sinces call_sinces 0 1 (omega arith) (omega arith) (omega arith)
        (by_objects j o (n + 1) call_sinces g objects depths own rule)

    -- and so do tasks, queues and RAM
    pub of_scene : (t : Scene) → Goes w.kern t.kern (n + 1) call_sinces → length t.ram ≡ length w.ram → KeepsObjects w.board t.kern (record w.objects { queues = t.queues })
        → KeepsIds (record w { kern = t.kern; objects = record w.objects { queues = t.queues } })
        → Advances w (record w { kern = t.kern; objects = record w.objects { queues = t.queues }; ram = t.ram }) (n + 1) call_sinces 1
    of_scene t g size objects own =
        let o : Objects = record w.objects { queues = t.queues } in
        advances_more w (record w { kern = t.kern; objects = o; ram = t.ram }) (n + 1) (n + 1) call_sinces call_sinces 0 1 (omega arith) (omega arith) (omega arith)
        (by_parts t.kern o t.ram w.watch (n + 1) call_sinces 0 g objects more.1 size (watch_on w.board w.kern.next_id t.kern.next_id w.watch g.next kept.watch) (omega arith) own refl)

    pub of_blocks : (p : PartState) → KeepsPool w.board p → AreStacks p (routine_stack ∷ task_stacks w.kern) → KeepsLoaded w.kern p w.modules.rows → Advances w (record w { part = p }) (n + 1) call_sinces 1
    of_blocks p pool stacks modules = as_call (record w { part = p }) (of_parts p w.symbols w.modules.rows w.ram w.slots w.output w.int_errno pool stacks modules kept.symbols refl same_modules)

    pub of_list : (ss : List Symbol) → length ss ≤ most_symbols → Advances w (record w { symbols = ss }) (n + 1) call_sinces 1
    of_list ss few = as_call (record w { symbols = ss }) (of_parts w.part ss w.modules.rows w.ram w.slots w.output w.int_errno kept.pool kept.stacks kept.modules few refl same_modules)

    -- symbols, modules and blocks
    pub of_unload : (ss : List Symbol) (ms : List (ℕ × LoadedModule)) (p : PartState) → length ss ≤ most_symbols → KeepsPool w.board p → AreStacks p (routine_stack ∷ task_stacks w.kern) → KeepsLoaded w.kern p ms → Fewer (table.ids ms) (table.ids w.modules.rows)
        → Advances w (record w { symbols = ss; modules = record w.modules { rows = ms }; part = p }) (n + 1) call_sinces 1
    of_unload ss ms p few pool stacks modules fewer = as_call (record w { symbols = ss; modules = record w.modules { rows = ms }; part = p }) (of_parts p ss ms w.ram w.slots w.output w.int_errno pool stacks modules few refl fewer)

    pub of_memory : (ram : List ℕ) → length ram ≡ length w.ram → Advances w (record w { ram = ram }) (n + 1) call_sinces 1
    of_memory ram same = as_call (record w { ram = ram }) (of_parts w.part w.symbols w.modules.rows ram w.slots w.output w.int_errno kept.pool kept.stacks kept.modules kept.symbols same same_modules)

    pub errno_advances : (a : Actor) (e : ℕ) → Advances w (with_errno w a e) n 0 0
    errno_advances (Task who) e = by_kern _ n 0 (goes-move w.kern n kept.kern within.0 (Set who (settings.Errno e)) tt) (objects-move w.kern w.objects kept.kern kept.objects (Set who (settings.Errno e)) (tt, tt, tt, tt)) within.1
    errno_advances Interrupt e = beside w.slots w.output e
