-- What holds when a task is removed.
use Rattle.std.proofs.Common.{◌≡◌, ℕ, suc, ◌<◌, ◌≤◌, true, false, not, cond, eqb, List, [], ◌∷◌, get_or, Option, Some, None, IsSome, refl, sym, ap, ◌∙◌, subst, arith}
use Rattle.std.specs.List.{All, AllPairs}
use Rattle.std.proofs.lemmas.Bool.{eqb-true, ne_eqb}
use Rattle.std.proofs.lemmas.List.Elements.{All-weaker, All-head, All-tail, All-cons}
use Rattle.std.proofs.lemmas.List.Kept.{AllPairs-cons}
use Rattle.wind_base.specs.declared.board_kind.BoardKind.{BoardKind}
use Rattle.mem_partition.specs.State.{PartState, own_block, after_free}
use Rattle.mem_partition.specs.declared.block.Class.TheVariants.{Kernel}
use Rattle.task_block.specs.declared.task.Task.{Task}
use Rattle.module_loader.specs.declared.module.LoadedModule.{LoadedModule}
use Rattle.module_loader.specs.Holding.{held_by, occurs}
use Rattle.module_loader.proofs.Holds.{rows_stay}
use Rattle.id_table.specs.Records.{without}
use Rattle.wind_core.specs.State.{KernState, Lives, task_id, task_of}
use Rattle.wind_core.specs.Moves.{remove}
use Rattle.wind_core.proofs.Ids.{ids, lives_by}
use Rattle.call_rows.specs.KernelWorldState.{WorldState}
use Rattle.call_rows.specs.KernelWorldObjects.{KeepsObjects, DepthsWithin}
use Rattle.call_rows.specs.Ending.{without_stack, unguarded}
use Rattle.call_rows.specs.KernelWorldKept.{Stack, stack_of, routine_stack, IsStack, AreApart, KeepsPool, AreStacks, KeepsLoaded, task_stacks, IsWorld, StepKeeps}
use Rattle.kernel_calls.specs.Laws.{EndLaw}
use Rattle.call_rows.proofs.KernelWorldLiveIds.{Fewer, fewer_records}
use Rattle.call_rows.proofs.KernelWorldWorldIds.{ids_leave}
use Rattle.call_rows.proofs.KernelWorldAdvancing.{watch_on}
use Rattle.call_rows.proofs.SafetyGoes.{Leaves, ended_leaves}
use Rattle.call_rows.proofs.KernelWorldStacks.{pool-free, kernels-other}
use Rattle.call_rows.proofs.Taking.{stacks}
use Rattle.call_rows.proofs.Deleting.{objects-ended}
use Rattle.call_rows.proofs.KernelWorldHolding.{IsNoModules}

-- what holds of each stack holds of fewer
fewer : (P : Stack → Type 0) (ts : List Task) (who : ℕ) → All P (stacks ts) → All P (stacks (without task_id ts who))
fewer P [] who all = all
fewer P (t ∷ ts) who all =
    let head : P (stack_of t) = All-head P (stack_of t) (stacks ts) all in
    let tail : All P (stacks ts) = All-tail P (stack_of t) (stacks ts) all in
    elim (eqb t.id who) as (λ b. All P (stacks (cond (not b) (t ∷ without task_id ts who) (without task_id ts who)))) [
      | true ↦ fewer P ts who tail
      | false ↦ All-cons P (stack_of t) (stacks (without task_id ts who)) head (fewer P ts who tail)
    ]

-- the first of a list differs from all others, and these from each other

first_differs : (a : Stack) (more : List Stack) → AllPairs AreApart (a ∷ more) → All (AreApart a) more
first_differs a more pairs k d within = pairs 0 (suc k) d (omega arith) (omega arith)

others_differ : (a : Stack) (more : List Stack) → AllPairs AreApart (a ∷ more) → AllPairs AreApart more
others_differ a more pairs i j d lt within = pairs (suc i) (suc j) d (omega arith) (omega arith)

fewer_differ : (ts : List Task) (who : ℕ) → AllPairs AreApart (stacks ts) → AllPairs AreApart (stacks (without task_id ts who))
fewer_differ [] who pairs = pairs
fewer_differ (t ∷ ts) who pairs =
    let head = first_differs (stack_of t) (stacks ts) pairs in
    let tail = fewer_differ ts who (others_differ (stack_of t) (stacks ts) pairs) in
    elim (eqb t.id who) as (λ b. AllPairs AreApart (stacks (cond (not b) (t ∷ without task_id ts who) (without task_id ts who)))) [
      | true ↦ tail
      | false ↦ AllPairs-cons AreApart (stack_of t) (stacks (without task_id ts who)) (fewer (AreApart (stack_of t)) ts who head) tail
    ]

-- what holds for each stack holds for that of a live task
of_found : (P : Stack → Type 0) (ts : List Task) (who : ℕ) (t : Task) → All P (stacks ts) → task_of ts who ≡ Some t → P (stack_of t)
of_found P [] who t all e = absurd (cc)
of_found P (u ∷ us) who t all e =
    elim (eqb u.id who) as (λ b. cond b (Some u) (task_of us who) ≡ Some t → P (stack_of t)) [
      | true ↦ λ same. let one : u ≡ t = some_one u t same in subst (λ (x : Task). P (stack_of x)) one (All-head P (stack_of u) (stacks us) all)
      | false ↦ λ rest. of_found P us who t (All-tail P (stack_of u) (stacks us) all) rest
    ] e
  where
    some_one : (a b : Task) → Some a ≡ Some b → a ≡ b
    some_one a b h = cc

-- the stacks of the others are not that of the removed task
none_same : (ts : List Task) (who : ℕ) (t : Task) → AllPairs AreApart (stacks ts) → task_of ts who ≡ Some t → All (λ a. AreApart a (stack_of t)) (stacks (without task_id ts who))
none_same [] who t pairs e = absurd (cc)
none_same (u ∷ us) who t pairs e =
    let head = first_differs (stack_of u) (stacks us) pairs in
    let tail = others_differ (stack_of u) (stacks us) pairs in
    elim (eqb u.id who) as (λ b. cond b (Some u) (task_of us who) ≡ Some t → All (λ a. AreApart a (stack_of t)) (stacks (cond (not b) (u ∷ without task_id us who) (without task_id us who)))) [
      | true ↦ λ same.
          let one : u ≡ t = some_one u t same in
          fewer (λ a. AreApart a (stack_of t)) us who (λ k d within h. head k d within (ap (λ (x : Task). x.stack) one ∙ sym h))
      | false ↦ λ rest.
          All-cons (λ a. AreApart a (stack_of t)) (stack_of u) (stacks (without task_id us who)) (of_found (AreApart (stack_of u)) us who t head rest) (none_same us who t tail rest)
    ] e
  where
    some_one : (a b : Task) → Some a ≡ Some b → a ≡ b
    some_one a b h = cc

all_with : (P Q : Stack → Type 0) (R : Stack → Type 0) (xs : List Stack) → ((a : Stack) → P a → Q a → R a) → All P xs → All Q xs → All R xs
all_with P Q R xs f p q k d within = f (get_or xs k d) (p k d within) (q k d within)

-- every other task lives on
others_live : (ts : List Task) (who id : ℕ) → (id ≡ who → ⊥) → IsSome (task_of ts id) → IsSome (task_of (without task_id ts who) id)
others_live [] who id differ h = h
others_live (t ∷ ts) who id differ h =
    elim (eqb t.id who) as (λ b. eqb t.id who ≡ b → IsSome (task_of (cond (not b) (t ∷ without task_id ts who) (without task_id ts who)) id)) [
      | true ↦ λ e.
          let other : eqb t.id id ≡ false = ne_eqb t.id id (λ same. differ (sym same ∙ eqb-true t.id who e)) in
          others_live ts who id differ (subst (λ b. IsSome (cond b (Some t) (task_of ts id))) other h)
      | false ↦ λ e.
          elim (eqb t.id id) as (λ b. IsSome (cond b (Some t) (task_of ts id)) → IsSome (cond b (Some t) (task_of (without task_id ts who) id))) [
            | true ↦ λ k. refl
            | false ↦ λ k. others_live ts who id differ k
          ] h
    ] refl

stacks_left : (p : PartState) (ts : List Task) (who : ℕ) (o : Option Task) → task_of ts who ≡ o → AreStacks p (routine_stack ∷ stacks ts) → AreStacks (without_stack p o) (routine_stack ∷ stacks (without task_id ts who))
stacks_left p ts who None e s = record {
  kernels = All-cons (IsStack p) routine_stack (stacks (without task_id ts who)) (All-head (IsStack p) routine_stack (stacks ts) s.kernels)
      (fewer (IsStack p) ts who (All-tail (IsStack p) routine_stack (stacks ts) s.kernels));
  apart = AllPairs-cons AreApart routine_stack (stacks (without task_id ts who)) (fewer (AreApart routine_stack) ts who (first_differs routine_stack (stacks ts) s.apart))
      (fewer_differ ts who (others_differ routine_stack (stacks ts) s.apart));
}
stacks_left p ts who (Some t) e s =
    let pairs = others_differ routine_stack (stacks ts) s.apart in
    let above = first_differs routine_stack (stacks ts) s.apart in
    let kernels = fewer (IsStack p) ts who (All-tail (IsStack p) routine_stack (stacks ts) s.kernels) in
    let after = after_free p t.stack Kernel in
    record {
      kernels = All-cons (IsStack after) routine_stack (stacks (without task_id ts who))
          (kernels-other p t.stack routine_stack.addr (of_found (AreApart routine_stack) ts who t above e) ∙ All-head (IsStack p) routine_stack (stacks ts) s.kernels)
          (all_with (IsStack p) (λ a. AreApart a (stack_of t)) (IsStack after) (stacks (without task_id ts who)) (λ a h differ. kernels-other p t.stack a.addr differ ∙ h) kernels (none_same ts who t pairs e));
      apart = AllPairs-cons AreApart routine_stack (stacks (without task_id ts who)) (fewer (AreApart routine_stack) ts who above) (fewer_differ ts who pairs);
    }

-- the modules' blocks stay when the stack of a task is freed
loaded_left : (k : KernState) (p : PartState) (ms : List (ℕ × LoadedModule)) → KeepsLoaded k p ms → (who : ℕ) (o : Option Task) → task_of k.tasks who ≡ o → (j : KernState) → k.next_id ≤ j.next_id
    → task_stacks j ≡ stacks (without task_id k.tasks who) → KeepsLoaded j (without_stack p o) ms
loaded_left k p ms kept who o e j more same = record {
  few = kept.few;
  rising = kept.rising;
  below = All-weaker (λ r. r.0 < k.next_id) (λ r. r.0 < j.next_id) (λ r h. omega (arith, h, more)) ms kept.below;
  held = record { blocks = rows_stay ms p (without_stack p o) (stays o e) kept.held.blocks; distinct = kept.held.distinct };
  apart = subst (λ s. All (IsNoModules ms) (routine_stack ∷ s)) (sym same)
      (All-cons (IsNoModules ms) routine_stack (stacks (without task_id k.tasks who)) (All-head (IsNoModules ms) routine_stack (stacks k.tasks) kept.apart) (fewer (IsNoModules ms) k.tasks who others));
}
  where
    others : All (IsNoModules ms) (stacks k.tasks)
    others = All-tail (IsNoModules ms) routine_stack (stacks k.tasks) kept.apart

    stays : (q : Option Task) → task_of k.tasks who ≡ q → (a : ℕ) → 0 < occurs a (held_by ms) → own_block (without_stack p q).blocks a Kernel ≡ own_block p.blocks a Kernel
    stays None found a some = refl
    stays (Some t) found a some =
        let none : IsNoModules ms (stack_of t) = of_found (IsNoModules ms) k.tasks who t others found in
        kernels-other p t.stack a (λ is. (let zero : occurs a (held_by ms) ≡ 0 = subst (λ x. occurs x (held_by ms) ≡ 0) (sym is) none in omega (arith, some, zero)))

pool_left : {board : BoardKind} (p : PartState) (o : Option Task) → KeepsPool board p → KeepsPool board (without_stack p o)
pool_left p None k = k
pool_left p (Some t) k = pool-free p t.stack Kernel k

-- from one world to another, when a task is removed: a step keeps what it must, and all others live on
pub record Departs (w v : WorldState) (who n d : ℕ) : Type 0 where
  pub steps : StepKeeps w v n d 0
  pub open steps use *
  pub lives : (id : ℕ) → (id ≡ who → ⊥) → Lives w.kern id → Lives v.kern id

-- the world after that: the task's stack is freed
abbrev pub parted : WorldState → KernState → ℕ → WorldState
parted w j who = record w { kern = j; part = without_stack w.part (task_of w.kern.tasks who) }

pub departs : (w : WorldState) (j : KernState) (who n d : ℕ) → IsWorld w → Leaves w.kern j who n d → KeepsObjects w.board j w.objects → DepthsWithin n w.objects → Departs w (parted w j who) who n d
departs w j who n d kept l objects depths =
    let part : PartState = without_stack w.part (task_of w.kern.tasks who) in
    record {
      steps = record {
        kept = record {
          kern = l.kern;
          home = l.lent ∙ kept.home;
          kind = kept.kind;
          objects = objects;
          pool = pool_left w.part (task_of w.kern.tasks who) kept.pool;
          stacks = subst (λ s. AreStacks part (routine_stack ∷ s)) (sym l.stacks) (stacks_left w.part w.kern.tasks who (task_of w.kern.tasks who) refl kept.stacks);
          modules = loaded_left w.kern w.part w.modules.rows kept.modules who (task_of w.kern.tasks who) refl j l.next l.stacks;
          ram = kept.ram;
          symbols = kept.symbols;
          watch = watch_on w.board w.kern.next_id j.next_id w.watch l.next kept.watch;
          ids = ids_leave w kept.ids j (subst (λ is. Fewer is (ids w.kern.tasks)) (sym l.alone) (fewer_records task_id w.kern.tasks who)) l.next;
        };
        within = (l.counts, depths);
        last = l.last;
        reserves = l.reserves;
        sinces = l.sinces;
        count = l.count;
        names = omega arith;
        starts = omega arith;
        choice = refl;
      };
      lives = λ id differ live. lives_by j.tasks (without task_id w.kern.tasks who) id l.alone (others_live w.kern.tasks who id differ live);
    }

pub ends : EndLaw
ends w who n kept within =
    let j : KernState = remove (unguarded w.kern who) who in
    let d = departs w j who n 256 kept (ended_leaves w.kern n kept.kern within.0 who) (objects-ended w.kern w.objects kept.kern kept.objects who) within.1 in
    record { kept = d.kept; lives = d.lives; within = d.within; reserves = d.reserves; sinces = omega (arith, d.sinces); count = d.count; names = refl; starts = refl; choice = d.choice }
