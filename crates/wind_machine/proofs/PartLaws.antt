-- What a step of an actor keeps of the world.
use Rattle.std.proofs.Common.{◌≡◌, ℕ, suc, ◌+◌, ◌≤◌, Bool, true, false, cond, eqb, List, [], ◌∷◌, length, replicate, Option, Some, IsSome, refl, sym, ap, ◌∙◌, subst, arith, ◌⊎◌, inr}
use Rattle.std.specs.Prelude.{slice_index}
use Rattle.std.specs.List.{Contains, find}
use Rattle.std.proofs.lemmas.Bool.{eqb-true, eq-eqb}
use Rattle.std.proofs.lemmas.List.Elements.{All-map, All-weaker}
use Rattle.wind_base.specs.Limits.{frame_bytes}
use Rattle.wind_base.specs.declared.regs.Regs.{Regs}
use Rattle.wind_outside.specs.Devices.{DeviceState}
use Rattle.task_block.specs.declared.task.Task.{Task}
use Rattle.board_mem.specs.Memory.{has, with_bytes, written}
use Rattle.board_mem.proofs.Sizes.{length-with_range, length-written}
use Rattle.mem_partition.specs.State.{PartState, IsPart, own_block}
use Rattle.mem_partition.specs.declared.block.Block.{Block}
use Rattle.mem_partition.specs.declared.block.Class.TheVariants.{Kernel}
use Rattle.mem_partition.proofs.Owners.{is_own, only_block}
use Rattle.wind_core.specs.State.{Lives, task_of}
use Rattle.live_loading.specs.TaskSafetySafety.{safe_of}
use Rattle.wind_core.specs.Moves.{set_regs}
use Rattle.wind_core.specs.Move.{SetRegs}
use Rattle.wind_core.proofs.Ids.{ids-change, lives_by}
use Rattle.wind_core.proofs.Moving.{move_keeps}
use Rattle.wind_core.proofs.Stable.{All-change}
use Rattle.wind_core.proofs.Unwritten.{map-change}
use Rattle.live_loading.specs.KernelWorldState.{WorldState, choice_of}
use Rattle.id_table.specs.Idents.{shell_id}
use Rattle.live_loading.specs.KernelWorldStarting.{cleared, framed}
use Rattle.live_loading.specs.CallRowsEnding.{ended}
use Rattle.live_loading.specs.KernelWorldKept.{stack_of, routine_stack, IsStack, AreStacks, task_stacks, IsWorld, HasCounts, Within, ReservedBy, call_sinces}
use Rattle.live_loading.specs.KernelCallsLaws.{OnlyUnsafeGo, Passes}
use Rattle.live_loading.specs.KernelWorldObjects.{IsFree}
use Rattle.live_loading.specs.KernelWorldActor.{Actor}
use Rattle.live_loading.specs.KernelWorldActor.TheVariants.{Task as by_task, Interrupt}
use Rattle.live_loading.proofs.KernelWorldWorldIds.{ids_kern}
use Rattle.live_loading.proofs.KernelWorldHolding.{loaded_on, loaded_with}
use Rattle.live_loading.proofs.KernelWorldStacks.{is_there}
use Rattle.live_loading.proofs.KernelWorldBoards.{pool_in_ram}
use Rattle.live_loading.proofs.KernelWorldAdvancing.{Advances, within_more, stays}
use Rattle.live_loading.proofs.KernelWorldObjectMoves.{objects-move}
use Rattle.live_loading.proofs.KernelCallsDeparting.{ends}
use Rattle.live_loading.proofs.KernelCallsServes.{passes_by}
use Rattle.shell_eval.specs.State.{State as EvalState}
use Rattle.shell_eval.specs.Kept.{IsPoolInRam, Keeps}
use Rattle.wind_machine.specs.Shell.{eval_state, with_eval}
use Rattle.wind_machine.specs.Processor.{with_regs}

-- only the task that makes the step may have a reservation; at the step of a routine any task may
abbrev pub MayReserve : Actor → Option ℕ → Type 0
MayReserve (by_task who) o = o ≡ Some who
MayReserve Interrupt o = Unit {0}

-- from a world to another within a step of an actor: the invariant holds, the shell's task lives on, no safe task
-- except the actor itself ends, and counts stay within n;
-- no other task has a reservation that had none; few numbers, and at most one for a watchdog's start, were handed
-- out; the tick count and the rule of inheritance are the same
pub record KeepsWorld (w v : WorldState) (who : Actor) (n : ℕ) : Type 0 where
  pub kept : IsWorld v
  pub shell : Lives w.kern shell_id → Lives v.kern shell_id
  pub gone : OnlyUnsafeGo w who v
  pub within : Within n v
  pub reserves : (o : Option ℕ) → MayReserve who o → ReservedBy o w.kern → ReservedBy o v.kern
  pub sinces : v.kern.next_since ≤ w.kern.next_since + call_sinces
  pub count : v.kern.tick ≡ w.kern.tick
  pub names : v.names ≤ w.names + 1
  pub starts : v.watch.next_start ≤ w.watch.next_start + 1
  pub choice : choice_of v ≡ choice_of w

-- by a call
pub keeps_passed : (w v : WorldState) (who : Actor) (n d m : ℕ) → d ≤ call_sinces → m ≤ 1 → Passes w v who n d m → KeepsWorld w v who n
keeps_passed w v who n d m few one p = record {
  kept = p.kept;
  shell = p.shell;
  gone = p.gone;
  within = p.within;
  reserves = λ o may. p.reserves o;
  sinces = omega (arith, p.sinces, few);
  count = p.count;
  names = omega (arith, p.names, one);
  starts = omega (arith, p.starts, one);
  choice = p.choice;
}

-- all tasks live on
pub keeps_by : (w v : WorldState) (who : Actor) (n d m : ℕ) → d ≤ call_sinces → m ≤ 1 → Advances w v n d m → KeepsWorld w v who n
keeps_by w v who n d m few one a = keeps_passed w v who n d m few one (passes_by w v who n d m a)

-- and then a move that hands out no numbers
pub keeps_then : (w v u : WorldState) (who : Actor) (n : ℕ) → KeepsWorld w v who n → Advances v u n 0 0 → KeepsWorld w u who n
keeps_then w v u who n t a = record {
  kept = a.kept;
  shell = λ h. a.lives shell_id (t.shell h);
  gone = λ id live dead. t.gone id live (λ h. dead (a.lives id h));
  within = a.within;
  reserves = λ o may h. a.reserves o (t.reserves o may h);
  sinces = omega (arith, a.sinces, t.sinces);
  count = a.count ∙ t.count;
  names = omega (arith, a.names, t.names);
  starts = omega (arith, a.starts, t.starts);
  choice = a.choice ∙ t.choice;
}

pub nowhere : (w : WorldState) (who : Actor) (n : ℕ) → IsWorld w → Within n w → KeepsWorld w w who n
nowhere w who n kept within = keeps_by w w who n 0 0 (omega arith) (omega arith) (stays w kept n within)

module _ (w v : WorldState) (a : Actor) (n : ℕ) (t : KeepsWorld w v a n) where
  -- RAM, devices and the output change, RAM keeps its size, and counts may become larger
  changed : (m : ℕ) (ram : List ℕ) (slots : List (Option DeviceState)) (output : List ℕ) → n ≤ m → length ram ≡ length v.ram → KeepsWorld w (record v { ram = ram; slots = slots; output = output }) a m
  changed m ram slots output more same = record {
    kept = record { kern = t.kept.kern; home = t.kept.home; kind = t.kept.kind; objects = t.kept.objects; pool = t.kept.pool; stacks = t.kept.stacks; modules = t.kept.modules; ram = same ∙ t.kept.ram; symbols = t.kept.symbols; watch = t.kept.watch; ids = t.kept.ids };
    shell = t.shell;
    gone = t.gone;
    within = within_more v n m more t.within;
    reserves = t.reserves;
    sinces = t.sinces;
    count = t.count;
    names = t.names;
    starts = t.starts;
    choice = t.choice;
  }

  pub more_counts : KeepsWorld w v a (n + 1)
  more_counts = changed (n + 1) v.ram v.slots v.output (omega arith) refl

  pub touched : (ram : List ℕ) (slots : List (Option DeviceState)) (output : List ℕ) → length ram ≡ length v.ram → KeepsWorld w (record v { ram = ram; slots = slots; output = output }) a n
  touched ram slots output same = changed n ram slots output (omega arith) same

  pub wrote : (output : List ℕ) → KeepsWorld w (record v { output = output }) a n
  wrote output = touched v.ram v.slots output refl

-- ---- the actor has other registers, with whatever reservation
module _ (w v : WorldState) (who n : ℕ) (t : KeepsWorld w v (by_task who) n) where
  own_reserved : (regs : Regs) → ReservedBy (Some who) v.kern → ReservedBy (Some who) (set_regs v.kern who regs)
  own_reserved regs h =
      let P : Task → Type 0 = λ u. IsSome u.regs.reserve → Some who ≡ Some u.id in
      let g : Task → Task = λ u. cond (eqb u.id who) (record u { regs = regs }) u in
      All-map P g v.kern.tasks (All-weaker P (λ u. P (g u)) one v.kern.tasks h)
    where
      one : (u : Task) → (IsSome u.regs.reserve → Some who ≡ Some u.id) → IsSome (cond (eqb u.id who) (record u { regs = regs }) u).regs.reserve → Some who ≡ Some (cond (eqb u.id who) (record u { regs = regs }) u).id
      one u own =
          elim (eqb u.id who) as (λ b. eqb u.id who ≡ b → IsSome (cond b (record u { regs = regs }) u).regs.reserve → Some who ≡ Some (cond b (record u { regs = regs }) u).id) [
            | true ↦ λ e some. ap Some (sym (eqb-true u.id who e))
            | false ↦ λ e. own
          ] refl

  pub gave_regs : (regs : Regs) → IsFree v.kern who → KeepsWorld w (with_regs v (by_task who) regs) (by_task who) n
  gave_regs regs free =
      let f : Task → Task = λ u. record u { regs = regs } in
      let lives_on : (id : ℕ) → Lives v.kern id → Lives (set_regs v.kern who regs) id = λ id h. lives_by (set_regs v.kern who regs).tasks v.kern.tasks id (ids-change v.kern.tasks who f (λ u. refl)) h in
      record {
        kept = record {
          kern = move_keeps v.kern (SetRegs who regs) t.kept.kern tt;
          home = t.kept.home;
          kind = t.kept.kind;
          objects = objects-move v.kern v.objects t.kept.kern t.kept.objects (SetRegs who regs) (tt, free, tt, tt);
          pool = t.kept.pool;
          stacks = subst (λ s. AreStacks v.part (routine_stack ∷ s)) (sym (map-change stack_of v.kern.tasks who f (λ u. refl))) t.kept.stacks;
          modules = loaded_on v.kern v.part v.modules.rows t.kept.modules (set_regs v.kern who regs) (omega arith) (map-change stack_of v.kern.tasks who f (λ u. refl));
          ram = t.kept.ram;
          symbols = t.kept.symbols;
          watch = t.kept.watch;
          ids = ids_kern v t.kept.ids (set_regs v.kern who regs) (ids-change v.kern.tasks who f (λ u. refl)) (omega arith);
        };
        shell = λ h. lives_on shell_id (t.shell h);
        gone = λ id live dead. t.gone id live (λ h. dead (lives_on id h));
        within = (All-change (HasCounts n) v.kern.tasks who f (λ u h. h) t.within.0, t.within.1);
        reserves = λ o may h. subst (λ q. ReservedBy q (set_regs v.kern who regs)) (sym may) (own_reserved regs (t.reserves (Some who) refl (subst (λ q. ReservedBy q w.kern) may h)));
        sinces = t.sinces;
        count = t.count;
        names = t.names;
        starts = t.starts;
        choice = t.choice;
      }

-- ---- another task than the shell's ends
pub ended_keeps_world : (w : WorldState) (who n : ℕ) → eqb who shell_id ≡ false → IsWorld w → Within n w → KeepsWorld w (ended w who) (by_task who) n
ended_keeps_world w who n other kept within =
    let e = ends w who n kept within in
    record {
      kept = e.kept;
      shell = e.lives shell_id differ;
      gone = λ id live dead. by_test id live dead;
      within = e.within;
      reserves = λ o may. e.reserves o;
      sinces = omega (arith, e.sinces);
      count = e.count;
      names = omega (arith, e.names);
      starts = omega (arith, e.starts);
      choice = e.choice;
    }
  where
    differ : shell_id ≡ who → ⊥
    differ same = let clash : true ≡ false = ap (λ n. eqb n shell_id) same ∙ other in cc

    by_test : OnlyUnsafeGo w (by_task who) (ended w who)
    by_test id live dead =
        elim (eqb id who) as (λ b. eqb id who ≡ b → (safe_of (task_of w.kern.tasks id) ≡ 0) ⊎ (by_task who ≡ by_task id)) [
          | true ↦ λ e. inr (ap by_task (sym (eqb-true id who e)))
          | false ↦ λ e. absurd (dead ((ends w who n kept within).lives id (λ same. let clash : true ≡ false = sym (eq-eqb id who same) ∙ e in cc) live))
        ] refl

-- ---- a frame
pub framed_size : (ram : List ℕ) (at : ℕ) (words : List ℕ) → length (framed ram at words) ≡ length ram
unfolding framed
framed_size ram at words =
    let clear : length (cleared ram at frame_bytes) ≡ length ram =
    elim (has ram at frame_bytes) as (λ b. has ram at frame_bytes ≡ b → length (cond b (with_bytes ram at (replicate frame_bytes 0)) ram) ≡ length ram) [
      | true ↦ λ e. length-with_range ram at (replicate frame_bytes 0) e
      | false ↦ λ e. refl
    ] refl in
    length-written 4 (written 4 (cleared ram at frame_bytes) (at + 8) (slice_index words 8)) (at + 12) (slice_index words 9)
    ∙ length-written 4 (cleared ram at frame_bytes) (at + 8) (slice_index words 8)
    ∙ clear

-- ---- evaluation
found_one : {X : Type 0} (p : X → Bool) (xs : List X) → IsSome (find p xs) → (x : X) × Contains xs x × (p x ≡ true)
found_one p [] h = absurd (cc)
found_one {X} p (x ∷ xs) h =
    elim (p x) as (λ b. p x ≡ b → IsSome (cond b (Some x) (find p xs)) → (y : X) × Contains (x ∷ xs) y × (p y ≡ true)) [
      | true ↦ λ e some. (x, (0, omega arith, refl), e)
      | false ↦ λ e some. let rest = found_one p xs some in (rest.0, (suc rest.1.0, omega (arith, rest.1.1), rest.1.2), rest.2)
    ] refl h

-- a Kernel block stays as it is when all blocks stay
kernels_stay : (p q : PartState) → IsPart p → IsPart q → ((b : Block) → Contains p.blocks b → Contains q.blocks b) → (at : ℕ) → IsSome (own_block p.blocks at Kernel)
    → own_block q.blocks at Kernel ≡ own_block p.blocks at Kernel
kernels_stay p q old new stays at there =
    let one = found_one (is_own at Kernel) p.blocks there in
    only_block q.start q.end q.blocks one.0 at Kernel new.laid (stays one.0 one.1) one.2
    ∙ sym (only_block p.start p.end p.blocks one.0 at Kernel old.laid one.1 one.2)

pub evaluated_keeps_world : (w : WorldState) (who : Actor) (n : ℕ) (e : EvalState) → IsWorld w → Within n w → (IsPoolInRam (eval_state w) → Keeps (eval_state w) e) → KeepsWorld w (with_eval w e) who n
evaluated_keeps_world w who n e kept within keeps =
    let k = keeps (pool_in_ram w kept) in
    let stay = kernels_stay w.part e.pool kept.pool.blocks (k.sound kept.pool.blocks) k.stays in
    record {
      kept = record {
        kern = kept.kern;
        home = kept.home;
        kind = kept.kind;
        objects = kept.objects;
        pool = record { blocks = k.sound kept.pool.blocks; start = k.start ∙ kept.pool.start; end = k.end ∙ kept.pool.end; room = k.room ∙ kept.pool.room };
        stacks = record {
          kernels = All-weaker (IsStack w.part) (IsStack e.pool) (λ s h. stay s.addr (is_there w.part s h) ∙ h) (routine_stack ∷ task_stacks w.kern) kept.stacks.kernels;
          apart = kept.stacks.apart;
        };
        modules = loaded_with w.kern w.part w.modules.rows kept.modules e.pool stay;
        ram = k.ram ∙ kept.ram;
        symbols = k.few kept.symbols;
        watch = kept.watch;
        ids = kept.ids;
      };
      shell = λ h. h;
      gone = λ id live dead. absurd (dead live);
      within = within;
      reserves = λ o may h. h;
      sinces = omega arith;
      count = refl;
      names = omega arith;
      starts = omega arith;
      choice = refl;
    }
