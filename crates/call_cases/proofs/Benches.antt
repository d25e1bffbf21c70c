-- A world keeps its invariant, and its counters stay low, however often it is called.
use Rattle.std.proofs.Common.{◌≡◌, ℕ, ◌+◌, ◌*◌, ◌<◌, ◌≤◌, true, false, cond, List, [], ◌∷◌, map, Option, length, refl, sym, ap, subst, ◌∙◌, arith}
use Rattle.std.specs.List.{All}
use Rattle.std.proofs.lemmas.List.Elements.{All-cons}
use Rattle.wind_base.specs.declared.board_kind.BoardKind.{BoardKind}
use Rattle.wind_base.specs.declared.gate.Gate.{Gate}
use Rattle.wind_base.specs.declared.profile.Profile.{Profile}
use Rattle.wind_base.specs.declared.regs.Regs.{Regs}
use Rattle.wind_outside.specs.Devices.{DeviceState}
use Rattle.task_block.specs.declared.task.Task.{Task}
use Rattle.board_mem.specs.Memory.{has, with_bytes}
use Rattle.board_mem.proofs.Sizes.{length-with_range}
use Rattle.wind_core.specs.State.{KernState, task_id}
use Rattle.wind_core.specs.Moves.{set_regs}
use Rattle.wind_core.specs.Move.{SetRegs}
use Rattle.wind_core.proofs.Moving.{move_keeps}
use Rattle.wind_core.proofs.Stable.{All-change}
use Rattle.wind_core.proofs.Unwritten.{map-change}
use Rattle.isr_watch.specs.declared.watchdog.Watchdog.{Watchdog}
use Rattle.isr_watch.specs.State.{WatchState, IsWatch, watchdog_id}
use Rattle.isr_watch.specs.Calls.{routine_return}
use Rattle.isr_watch.specs.Laws.{AllBelow}
use Rattle.dev_irq.specs.declared.line.Line.{Line}
use Rattle.kernel_world.specs.State.{WorldState}
use Rattle.kernel_world.specs.Kept.{stack_of, routine_stack, KeepsWatch, IsWorld, HasCounts, Within, AreStacks, task_stacks}
use Rattle.kernel_world.specs.Objects.{IsFree}
use Rattle.kernel_world.specs.Actors.{MayCall}
use Rattle.kernel_calls.specs.Calls.{call, is_made}
use Rattle.call_rows.specs.Ending.{ended}
use Rattle.kernel_world.specs.Opening.{opening_world}
use Rattle.kernel_world.specs.declared.actor.Actor.{Actor}
use Rattle.kernel_calls.specs.declared.calls.Called.{Called}
use Rattle.kernel_calls.specs.declared.calls.Called.TheVariants.{Done, Pended, Ended, NeedsFile, NoMemory}
use Rattle.kernel_world.proofs.Holding.{loaded_on}
use Rattle.kernel_world.proofs.LiveIds.{Fewer, Nothing}
use Rattle.kernel_world.proofs.WorldIds.{ids_kern, ids_watch}
use Rattle.kernel_world.proofs.Advancing.{within_more, of_devices}
use Rattle.kernel_calls.proofs.Passing.{call_passes}
use Rattle.kernel_calls.proofs.Departing.{ends}
use Rattle.kernel_world.proofs.ObjectMoves.{objects-move}
use Rattle.kernel_world.proofs.Opened.{opens}

-- the invariant holds, and the counters are as low as n calls from the start leave them
abbrev pub Used : WorldState → ℕ → Type 0
Used w n = IsWorld w × Within n w × (w.kern.next_since ≤ 1 + 1024 * n) × (w.kern.tick ≡ 0) × (w.names ≤ 1 + n) × (w.watch.next_start ≤ 1 + n)

-- no count is above 0 at the start
opening_within : (slots : List (Option DeviceState)) (profile : Profile) (board : BoardKind) → Within 0 (opening_world slots profile board)
unfolding opening_world
opening_within slots profile board = (All-cons (HasCounts 0) _ [] (omega arith, omega arith) (λ i d within. absurd (omega arith)), λ i d within. absurd (omega arith))

opening_used : (slots : List (Option DeviceState)) (profile : Profile) (board : BoardKind) → Used (opening_world slots profile board) 0
unfolding opening_world
opening_used slots profile board = (opens slots profile board, opening_within slots profile board, omega arith, refl, omega arith, omega arith)

pub used_start : (slots : List (Option DeviceState)) (profile : Profile) (board : BoardKind) (w : WorldState) → w ≡ opening_world slots profile board → Used w 0
used_start slots profile board w e = subst (λ v. Used v 0) (sym e) (opening_used slots profile board)

used_call : (g : Gate) (w : WorldState) (a : Actor) (n : ℕ) → MayCall w.kern a → Used w n → Used (call g w a) (n + 1)
used_call g w a n may (kept, within, sinces, count, names, starts) =
    let b = call_passes g w a n kept may within in
    (b.kept, b.within, omega (arith, b.sinces, sinces), b.count ∙ count, omega (arith, b.names, names), omega (arith, b.starts, starts))

used_more : (w : WorldState) (n : ℕ) → Used w n → Used w (n + 1)
used_more w n (kept, within, sinces, count, names, starts) = (kept, within_more w n (n + 1) (omega arith) within, omega (arith, sinces), count, omega (arith, names), omega (arith, starts))

-- after a call, which is made or leaves the world
pub used_called : (r : Called) (g : Gate) (w v : WorldState) (a : Actor) (n : ℕ) → MayCall w.kern a → (is_made r ≡ true → v ≡ call g w a) → (is_made r ≡ false → v ≡ w) → Used w n → Used v (n + 1)
used_called Done g w v a n may made same u = subst (λ x. Used x (n + 1)) (sym (made refl)) (used_call g w a n may u)
used_called Pended g w v a n may made same u = subst (λ x. Used x (n + 1)) (sym (made refl)) (used_call g w a n may u)
used_called Ended g w v a n may made same u = subst (λ x. Used x (n + 1)) (sym (made refl)) (used_call g w a n may u)
used_called (NeedsFile name) g w v a n may made same u = subst (λ x. Used x (n + 1)) (sym (same refl)) (used_more w n u)
used_called NoMemory g w v a n may made same u = subst (λ x. Used x (n + 1)) (sym (same refl)) (used_more w n u)

-- a task has other registers
pub used_regs : (w : WorldState) (k : KernState) (who n : ℕ) (regs : Regs) → IsFree w.kern who → k ≡ set_regs w.kern who regs → Used w n → Used (record w { kern = k }) n
used_regs w k who n regs free e (kept, within, sinces, count, names, starts) =
    let f : Task → Task = λ t. record t { regs = regs } in
    let stacks : task_stacks (set_regs w.kern who regs) ≡ task_stacks w.kern = map-change stack_of w.kern.tasks who f (λ t. refl) in
    subst (λ j. Used (record w { kern = j }) n) (sym e) (
      record {
        kern = move_keeps w.kern (SetRegs who regs) kept.kern tt;
        home = kept.home;
        kind = kept.kind;
        objects = objects-move w.kern w.objects kept.kern kept.objects (SetRegs who regs) (tt, free, tt, tt);
        pool = kept.pool;
        stacks = subst (λ s. AreStacks w.part (routine_stack ∷ s)) (sym stacks) kept.stacks;
        modules = loaded_on w.kern w.part w.modules.rows kept.modules (set_regs w.kern who regs) (omega arith) stacks;
        ram = kept.ram;
        symbols = kept.symbols;
        watch = kept.watch;
        ids = ids_kern w kept.ids (set_regs w.kern who regs) (map-change task_id w.kern.tasks who f (λ t. refl)) (omega arith);
      },
      (All-change (HasCounts n) w.kern.tasks who f (λ t h. h) within.0, within.1),
      sinces,
      count,
      names,
      starts,
    )

-- a task has ended
pub used_end : (w v : WorldState) (who n : ℕ) → v ≡ ended w who → Used w n → Used v (n + 1)
used_end w v who n e (kept, within, sinces, count, names, starts) =
    let b = ends w who n kept within in
    subst (λ x. Used x (n + 1)) (sym e)
    (b.kept, within_more (ended w who) n (n + 1) (omega arith) b.within, omega (arith, b.sinces, sinces), b.count ∙ count, omega (arith, b.names, names), omega (arith, b.starts, starts))

-- bytes written where there is room for them keep the length
sized : (ram : List ℕ) (at n : ℕ) (bytes : List ℕ) → length bytes ≡ n → length (cond (has ram at n) (with_bytes ram at bytes) ram) ≡ length ram
sized ram at n bytes size =
    elim (has ram at n) as (λ b. has ram at n ≡ b → length (cond b (with_bytes ram at bytes) ram) ≡ length ram) [
      | true ↦ λ h. length-with_range ram at bytes (ap (has ram at) size ∙ h)
      | false ↦ λ h. refl
    ] refl

used_ram : (w : WorldState) (ram : List ℕ) (n : ℕ) → length ram ≡ length w.ram → Used w n → Used (record w { ram = ram }) n
used_ram w ram n e (kept, within, sinces, count, names, starts) =
    (record { kern = kept.kern; home = kept.home; kind = kept.kind; objects = kept.objects; pool = kept.pool; stacks = kept.stacks; modules = kept.modules; ram = e ∙ kept.ram; symbols = kept.symbols; watch = kept.watch; ids = kept.ids }, within, sinces, count, names, starts)

-- other interrupts are pending
pub used_irqs : (w : WorldState) (irqs : List Line) (n : ℕ) → Used w n → Used (record w { irqs = irqs }) n
used_irqs w irqs n (kept, within, sinces, count, names, starts) = ((of_devices w kept n within irqs w.slots).kept, within, sinces, count, names, starts)

-- other watchdogs, with ids that were handed out
pub used_watch : (w : WorldState) (s : WatchState) (n : ℕ) → KeepsWatch w.board w.kern.next_id s → s.next_start ≤ 1 + n → Fewer (map watchdog_id s.watchdogs) (map watchdog_id w.watch.watchdogs) → Used w n → Used (record w { watch = s }) n
used_watch w s n watch starts fewer (kept, within, sinces, count, names, _) =
    (record { kern = kept.kern; home = kept.home; kind = kept.kind; objects = kept.objects; pool = kept.pool; stacks = kept.stacks; modules = kept.modules; ram = kept.ram; symbols = kept.symbols; watch = watch; ids = ids_watch w kept.ids w.kern s refl (Nothing (omega arith) fewer) }, within, sinces, count, names, starts)

-- no watchdog lives, and one's routine is active
pub used_alarm : (slots : List (Option DeviceState)) (profile : Profile) (board : BoardKind) (w : WorldState) (s : WatchState) → w ≡ opening_world slots profile board → IsWatch s → s.watchdogs ≡ [] → s.next_start ≤ 1 → s.link ≡ routine_return board
    → Used (record w { watch = s }) 0
unfolding opening_world
used_alarm slots profile board w s e is none starts link =
    let ids : AllBelow w.kern.next_id s = subst (All (λ (v : Watchdog). v.id < w.kern.next_id)) (sym none) (λ i d within. absurd (omega (arith, within))) in
    used_watch w s 0 (record { watch = is; ids = ids; link = link ∙ ap routine_return (sym (ap (λ (v : WorldState). v.board) e)) }) starts
    (subst (λ vs. Fewer (map watchdog_id vs) (map watchdog_id w.watch.watchdogs)) (sym none) (λ n. omega arith)) (used_start slots profile board w e)

-- RAM has other bytes in a range
pub used_bytes : (w : WorldState) (ram : List ℕ) (at n calls : ℕ) (bytes : List ℕ) → length bytes ≡ n → ram ≡ cond (has w.ram at n) (with_bytes w.ram at bytes) w.ram → Used w calls → Used (record w { ram = ram }) calls
used_bytes w ram at n calls bytes size e u =
    subst (λ r. Used (record w { ram = r }) calls) (sym e) (used_ram w (cond (has w.ram at n) (with_bytes w.ram at bytes) w.ram) calls (sized w.ram at n bytes size) u)
