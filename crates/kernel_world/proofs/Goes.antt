-- What a move of the kernel keeps, and by how much it raises the counters.
use Rattle.std.proofs.Common.{◌≡◌, ℕ, List, length, map, Option, ◌+◌, ◌-◌, ◌<◌, ◌≤◌, true, false, ◌&&◌, cond, eqb, leb, ltb, [], ◌∷◌, None, Some, IsSome, refl, sym, ap, ◌∙◌, subst, arith}
use Rattle.std.specs.List.{All}
use Rattle.std.proofs.lemmas.Bool.{leb-false}
use Rattle.std.proofs.lemmas.List.Elements.{All-weaker, All-head, All-tail, All-cons}
use Rattle.wind_base.specs.declared.errno.Errno.{Errno}
use Rattle.task_block.specs.declared.task.Task.{Task}
use Rattle.task_block.specs.Standing.{is_ready}
use Rattle.wind_core.specs.State.{KernState, IsKern, task_of}
use Rattle.wind_core.specs.Orders.{waiters}
use Rattle.wind_core.specs.Moves.{renewed, change_task, renew_task, move_found, move_task, pended, wake_at, delayed, delay, released, release, answered, end_wait, end_waits, wake_all, unmarked, suspended, resumed, resume, is_suspended, with_pri, has_pri, change_pri, set_safe, with_setting}
use Rattle.wind_core.specs.Releases.{releases, release_all}
use Rattle.wind_core.specs.Move.{Move, Spawn, Remove, Pend, Delay, Release, ReleaseAll, EndWait, WakeAll, Tick, Suspend, Resume, ChangePri, Reset, Set, SetRegs, SetLast, SetSlice, DrawIds, Lend, apply}
use Rattle.wind_core.specs.declared.settings.Setting.TheVariants as settings
use Rattle.wind_core.proofs.Becoming.{found_all}
use Rattle.wind_core.proofs.Ids.{ids, ids-change, ids-move}
use Rattle.wind_core.proofs.Moving.{move_keeps}
use Rattle.wind_core.proofs.Stable.{All-change, renew_task-stable, move_task-stable}
use Rattle.wind_core.proofs.Unwritten.{map-change, map-renew, map-move}
use Rattle.wind_core.proofs.Waking.{length-waiters}
use Rattle.sem_mutex.specs.TaskSafetySafety.{deletion, safe_of, make_safe, lessen}
use Rattle.wind_base.specs.declared.profile.Profile.{Profile}
use Rattle.sem_mutex.specs.InheritanceMutex.{Mutex}
use Rattle.sem_mutex.specs.InheritanceReach.{lifted, repried, raised_kern}
use Rattle.wind_core.proofs.NextId.{next-move}
use Rattle.kernel_world.specs.Kept.{stack_of, task_stacks, HasCounts, CountsWithin}

-- the reservations of tasks
abbrev pub reservations : List Task → List (Option ℕ)
reservations ts = map (λ t. t.regs.reserve) ts

-- from k to j: the invariant holds, the same tasks live on the same stacks, and ids are lent or not, as before;
-- counts of locks and safe sections stay within n, at most d order numbers were handed out, ids rose, and the tick
-- count is the same
pub record Goes (k j : KernState) (n d : ℕ) : Type 0 where
  pub kern : IsKern j
  pub alone : ids j.tasks ≡ ids k.tasks
  pub stacks : task_stacks j ≡ task_stacks k
  pub lent : j.lent ≡ k.lent
  pub last : j.last ≡ k.last
  pub reserves : reservations j.tasks ≡ reservations k.tasks
  pub counts : CountsWithin n j
  pub sinces : j.next_since ≤ k.next_since + d
  pub next : k.next_id ≤ j.next_id
  pub count : j.tick ≡ k.tick

pub goes_nowhere : (k : KernState) (n : ℕ) → IsKern k → CountsWithin n k → Goes k k n 0
goes_nowhere k n is within = record { kern = is; alone = refl; stacks = refl; lent = refl; last = refl; reserves = refl; counts = within; sinces = omega arith; next = omega arith; count = refl }

pub goes_on : (k j i : KernState) (m n d e : ℕ) → Goes k j m d → Goes j i n e → Goes k i n (d + e)
goes_on k j i m n d e a b = record {
  kern = b.kern;
  alone = b.alone ∙ a.alone;
  stacks = b.stacks ∙ a.stacks;
  lent = b.lent ∙ a.lent;
  last = b.last ∙ a.last;
  reserves = b.reserves ∙ a.reserves;
  counts = b.counts;
  sinces = omega (arith, a.sinces, b.sinces);
  next = omega (arith, a.next, b.next);
  count = b.count ∙ a.count;
}

-- a bound may rise
pub more_counts : (k : KernState) (m n : ℕ) → m ≤ n → CountsWithin m k → CountsWithin n k
more_counts k m n more within = All-weaker (HasCounts m) (HasCounts n) (λ t h. (omega (arith, h.0, more), omega (arith, h.1, more))) k.tasks within

pub goes_further : (k j : KernState) (m n d e : ℕ) → m ≤ n → d ≤ e → Goes k j m d → Goes k j n e
goes_further k j m n d e more longer g = record {
  kern = g.kern;
  alone = g.alone;
  stacks = g.stacks;
  lent = g.lent;
  last = g.last;
  reserves = g.reserves;
  counts = more_counts j m n more g.counts;
  sinces = omega (arith, g.sinces, longer);
  next = g.next;
  count = g.count;
}

-- the three ways in which one task is changed
pub by_change : (k : KernState) (who n : ℕ) (f : Task → Task) → IsKern (change_task k who f) → ((t : Task) → (f t).id ≡ t.id) → ((t : Task) → stack_of (f t) ≡ stack_of t) → ((t : Task) → (f t).regs.reserve ≡ t.regs.reserve) → ((t : Task) → HasCounts n t → HasCounts n (f t)) → CountsWithin n k
    → Goes k (change_task k who f) n 0
by_change k who n f is id stack reserve counts within = record {
  kern = is;
  alone = ids-change k.tasks who f id;
  stacks = map-change stack_of k.tasks who f stack;
  lent = refl;
  last = refl;
  reserves = map-change (λ t. t.regs.reserve) k.tasks who f reserve;
  counts = All-change (HasCounts n) k.tasks who f counts within;
  sinces = omega arith;
  next = omega arith;
  count = refl;
}

by_renewal : (k : KernState) (who n : ℕ) (f : Task → Task) → IsKern (renew_task k who f) → ((t : Task) → (f t).id ≡ t.id) → ((t : Task) → stack_of (f t) ≡ stack_of t) → ((t : Task) → (f t).regs.reserve ≡ t.regs.reserve) → ((t : Task) → HasCounts n t → HasCounts n (f t)) → CountsWithin n k
    → Goes k (renew_task k who f) n 1
by_renewal k who n f is id stack reserve counts within = record {
  kern = is;
  alone = ids-change k.tasks who (λ t. renewed k.next_since (f t)) id;
  stacks = map-renew stack_of (λ since t. refl) k who f stack;
  lent = refl;
  last = refl;
  reserves = map-renew (λ t. t.regs.reserve) (λ since t. refl) k who f reserve;
  counts = renew_task-stable (HasCounts n) (λ since t h. h) k who f counts within;
  sinces = omega arith;
  next = omega arith;
  count = refl;
}

count-move : (k : KernState) (who : ℕ) (f : Task → Task) → (move_task k who f).tick ≡ k.tick
count-move k who f = elim (task_of k.tasks who) as (λ o. (move_found k who f o).tick ≡ k.tick) [ None ↦ refl | Some t ↦ refl ]

lent-move : (k : KernState) (who : ℕ) (f : Task → Task) → (move_task k who f).lent ≡ k.lent
lent-move k who f = elim (task_of k.tasks who) as (λ o. (move_found k who f o).lent ≡ k.lent) [ None ↦ refl | Some t ↦ refl ]

last-move : (k : KernState) (who : ℕ) (f : Task → Task) → (move_task k who f).last ≡ k.last
last-move k who f = elim (task_of k.tasks who) as (λ o. (move_found k who f o).last ≡ k.last) [ None ↦ refl | Some t ↦ refl ]

-- at most one order number is handed out if one task is moved
since-move : (s : KernState) (who : ℕ) (f : Task → Task) → (move_task s who f).next_since ≤ s.next_since + 1
since-move s who f =
    elim (task_of s.tasks who) as (λ o. (move_found s who f o).next_since ≤ s.next_since + 1) [
      | None ↦ omega arith
      | Some t ↦ elim (is_ready (f t)) as (λ b. s.next_since + cond b 1 0 ≤ s.next_since + 1) [ true ↦ omega arith | false ↦ omega arith ]
    ]

by_move : (k : KernState) (who n : ℕ) (f : Task → Task) → IsKern (move_task k who f) → ((t : Task) → (f t).id ≡ t.id) → ((t : Task) → stack_of (f t) ≡ stack_of t) → ((t : Task) → (f t).regs.reserve ≡ t.regs.reserve) → ((t : Task) → HasCounts n t → HasCounts n (f t)) → CountsWithin n k
    → Goes k (move_task k who f) n 1
by_move k who n f is id stack reserve counts within = record {
  kern = is;
  alone = ids-move k who f id;
  stacks = map-move stack_of (λ since t. refl) k who f stack;
  lent = lent-move k who f;
  last = last-move k who f;
  reserves = map-move (λ t. t.regs.reserve) (λ since t. refl) k who f reserve;
  counts = move_task-stable (HasCounts n) (λ since t h. h) k who f counts within;
  sinces = since-move k who f;
  next = omega (arith, next-move k who f);
  count = count-move k who f;
}

-- ---- one task is moved
module _ (k : KernState) (n : ℕ) (is : IsKern k) (within : CountsWithin n k) where
  goes-release : (who : ℕ) → Goes k (release k who) n 1
  goes-release who = by_move k who n released (move_keeps k (Release who) is tt) (λ t. refl) (λ t. refl) (λ t. refl) (λ t h. h) within

  goes-end_wait : (who a : ℕ) (e : Option Errno) → Goes k (end_wait k who a e) n 1
  goes-end_wait who a e = by_move k who n (answered a e) (move_keeps k (EndWait who a e) is tt) (λ t. refl) (λ t. refl) (λ t. refl) (λ t h. h) within

  goes-resume : (who : ℕ) → Goes k (resume k who) n 1
  goes-resume who =
      elim (is_suspended (task_of k.tasks who)) as (λ b. IsKern (cond b (move_task k who resumed) k) → Goes k (cond b (move_task k who resumed) k) n 1) [
        | true ↦ λ j. by_move k who n resumed j (λ t. refl) (λ t. refl) (λ t. refl) (λ t h. h) within
        | false ↦ λ j. goes_further k k n n 0 1 (omega arith) (omega arith) (goes_nowhere k n is within)
      ] (move_keeps k (Resume who) is tt)

  goes-change_pri : (who pri : ℕ) → Goes k (change_pri k who pri) n 1
  goes-change_pri who pri =
      elim (has_pri pri (task_of k.tasks who)) as (λ b. IsKern (cond b k (move_task k who (with_pri pri))) → Goes k (cond b k (move_task k who (with_pri pri))) n 1) [
        | true ↦ λ j. goes_further k k n n 0 1 (omega arith) (omega arith) (goes_nowhere k n is within)
        | false ↦ λ j. by_move k who n (with_pri pri) j (λ t. refl) (λ t. refl) (λ t. refl) (λ t h. h) within
      ] (move_keeps k (ChangePri who pri) is tt)

  delayed_id : (m : ℕ) (t : Task) → (delayed k.tick m t).id ≡ t.id
  delayed_id m t = elim (eqb m 0) as (λ b. (cond b t (record t { wake = Some (k.tick + m); turns = 0 })).id ≡ t.id) [ true ↦ refl | false ↦ refl ]

  delayed_stack : (m : ℕ) (t : Task) → stack_of (delayed k.tick m t) ≡ stack_of t
  delayed_stack m t = elim (eqb m 0) as (λ b. stack_of (cond b t (record t { wake = Some (k.tick + m); turns = 0 })) ≡ stack_of t) [ true ↦ refl | false ↦ refl ]

  delayed_reserve : (m : ℕ) (t : Task) → (delayed k.tick m t).regs.reserve ≡ t.regs.reserve
  delayed_reserve m t = elim (eqb m 0) as (λ b. (cond b t (record t { wake = Some (k.tick + m); turns = 0 })).regs.reserve ≡ t.regs.reserve) [ true ↦ refl | false ↦ refl ]

  delayed_counts : (m : ℕ) (t : Task) → HasCounts n t → HasCounts n (delayed k.tick m t)
  delayed_counts m t h = elim (eqb m 0) as (λ b. HasCounts n (cond b t (record t { wake = Some (k.tick + m); turns = 0 }))) [ true ↦ h | false ↦ h ]

  goes-delay : (who m : ℕ) → Goes k (delay k who m) n 1
  goes-delay who m = by_renewal k who n (delayed k.tick m) (move_keeps k (Delay who m) is tt) (delayed_id m) (delayed_stack m) (delayed_reserve m) (delayed_counts m) within

-- ---- several tasks are moved, one after the other
goes-end_waits : (k : KernState) (n : ℕ) (ts : List Task) (a : ℕ) (e : Option Errno) → IsKern k → CountsWithin n k → Goes k (end_waits k ts a e) n (length ts)
goes-end_waits k n [] a e is within = goes_nowhere k n is within
goes-end_waits k n (t ∷ ts) a e is within =
    let one = goes-end_wait k n is within t.id a e in
    let j : KernState = end_wait k t.id a e in
    goes_further k (end_waits j ts a e) n n (1 + length ts) (length (t ∷ ts)) (omega arith) (omega arith)
    (goes_on k j (end_waits j ts a e) n n 1 (length ts) one (goes-end_waits j n ts a e one.kern one.counts))

goes-releases : (k : KernState) (n : ℕ) (ts : List Task) → IsKern k → CountsWithin n k → Goes k (releases k ts) n (length ts)
goes-releases k n [] is within = goes_nowhere k n is within
goes-releases k n (t ∷ ts) is within =
    let one = goes-release k n is within t.id in
    let j : KernState = release k t.id in
    goes_further k (releases j ts) n n (1 + length ts) (length (t ∷ ts)) (omega arith) (omega arith)
    (goes_on k j (releases j ts) n n 1 (length ts) one (goes-releases j n ts one.kern one.counts))

goes-repried : (k : KernState) (n : ℕ) (goal : ℕ → ℕ) (ts : List Task) → IsKern k → CountsWithin n k → Goes k (repried k goal ts) n (length ts)
goes-repried k n goal [] is within = goes_nowhere k n is within
goes-repried k n goal (t ∷ ts) is within =
    let one = goes-change_pri k n is within t.id (goal t.id) in
    let j : KernState = change_pri k t.id (goal t.id) in
    goes_further k (repried j goal ts) n n (1 + length ts) (length (t ∷ ts)) (omega arith) (omega arith)
    (goes_on k j (repried j goal ts) n n 1 (length ts) one (goes-repried j n goal ts one.kern one.counts))

-- a task is safe no more often than the bound
pub safe_within : (k : KernState) (who n : ℕ) → CountsWithin n k → safe_of (task_of k.tasks who) ≤ n
safe_within k who n within =
    elim (task_of k.tasks who) as (λ o. task_of k.tasks who ≡ o → safe_of o ≤ n) [
      | None ↦ λ e. omega arith
      | Some t ↦ λ e. (found_all (HasCounts n) k.tasks who t within e).1
    ] refl

-- ---- the moves after which the same tasks live, with the same stacks and reservations
-- such a move, if it keeps the counts of locks and safe sections within n
abbrev pub KeepsWithin : ℕ → KernState → Move → Type 0
KeepsWithin n k (Spawn new) = ⊥
KeepsWithin n k (Remove who) = ⊥
KeepsWithin n k (Pend who place fifo m) = 0 < m
KeepsWithin n k Tick = ⊥
KeepsWithin n k (Set who (settings.Locks m)) = m ≤ n
KeepsWithin n k (Set who (settings.Safe m)) = m ≤ n
KeepsWithin n k (SetRegs who regs) = ⊥
KeepsWithin n k (Set who settings.Unreserved) = ⊥
KeepsWithin n k (SetLast last) = ⊥
KeepsWithin n k (DrawIds next) = (k.next_id ≤ next) × (next ≤ 1048577)
KeepsWithin n k (Lend on) = ⊥
KeepsWithin n k m = Unit {0}

-- the most order numbers that it hands out
abbrev pub most_sinces : Move → ℕ
most_sinces (Pend who place fifo m) = 1
most_sinces (Delay who m) = 1
most_sinces (Release who) = 1
most_sinces (ReleaseAll place) = 256
most_sinces (EndWait who value errno) = 1
most_sinces (WakeAll place value errno) = 256
most_sinces (Resume who) = 1
most_sinces (ChangePri who pri) = 1
most_sinces (Reset who) = 1
most_sinces m = 0

module _ (k : KernState) (n : ℕ) (is : IsKern k) (within : CountsWithin n k) where
  -- fields other than the tasks are written, and ids are taken
  beside_tasks : (next slice : ℕ) → IsKern (record k { next_id = next; slice = slice }) → k.next_id ≤ next → Goes k (record k { next_id = next; slice = slice }) n 0
  beside_tasks next slice is_next more = record {
    kern = is_next;
    alone = refl;
    stacks = refl;
    lent = refl;
    last = refl;
    reserves = refl;
    counts = within;
    sinces = omega arith;
    next = more;
    count = refl;
  }

  pub goes-move : (m : Move) → KeepsWithin n k m → Goes k (apply k m) n (most_sinces m)
  goes-move (Spawn new) may = absurd may
  goes-move (Remove who) may = absurd may
  goes-move (Pend who place fifo m) may =
      by_renewal k who n (pended place fifo (wake_at place.side k.tick m)) (move_keeps k (Pend who place fifo m) is may) (λ t. refl) (λ t. refl) (λ t. refl) (λ t h. h) within
  goes-move (Delay who m) may = goes-delay k n is within who m
  goes-move (Release who) may = goes-release k n is within who
  goes-move (ReleaseAll place) may =
      let ts : List Task = waiters k.tasks place in
      goes_further k (release_all k place) n n (length ts) 256 (omega arith) (omega (arith, length-waiters k.tasks place, is.few)) (goes-releases k n ts is within)
  goes-move (EndWait who value errno) may = goes-end_wait k n is within who value errno
  goes-move (WakeAll place value errno) may =
      let ts : List Task = waiters k.tasks place in
      goes_further k (wake_all k place value errno) n n (length ts) 256 (omega arith) (omega (arith, length-waiters k.tasks place, is.few)) (goes-end_waits k n ts value errno is within)
  goes-move Tick may = absurd may
  goes-move (Suspend who) may = by_change k who n suspended (move_keeps k (Suspend who) is tt) (λ t. refl) (λ t. refl) (λ t. refl) (λ t h. h) within
  goes-move (Resume who) may = goes-resume k n is within who
  goes-move (ChangePri who pri) may = goes-change_pri k n is within who pri
  goes-move (Reset who) may = by_renewal k who n unmarked (move_keeps k (Reset who) is tt) (λ t. refl) (λ t. refl) (λ t. refl) (λ t h. (omega arith, h.1)) within
  goes-move (Set who (settings.Locks m)) may = by_change k who n (with_setting (settings.Locks m)) (move_keeps k (Set who (settings.Locks m)) is tt) (λ t. refl) (λ t. refl) (λ t. refl) (λ t h. (may, h.1)) within
  goes-move (Set who (settings.Safe m)) may = by_change k who n (with_setting (settings.Safe m)) (move_keeps k (Set who (settings.Safe m)) is tt) (λ t. refl) (λ t. refl) (λ t. refl) (λ t h. (h.0, may)) within
  goes-move (SetRegs who regs) may = absurd may
  goes-move (Set who settings.Unreserved) may = absurd may
  goes-move (Set who change) may = by_change k who n (with_setting change) (move_keeps k (Set who change) is tt) (λ t. refl) (λ t. refl) (λ t. refl) (λ t h. h) within
  goes-move (SetLast last) may = absurd may
  goes-move (SetSlice m) may = beside_tasks k.next_id m (move_keeps k (SetSlice m) is tt) (omega arith)
  goes-move (DrawIds next) may = beside_tasks next k.slice (move_keeps k (DrawIds next) is may) may.0
  goes-move (Lend on) may = absurd may

module _ (k : KernState) (n : ℕ) (is : IsKern k) (within : CountsWithin n k) where
  pub goes-raised : (p : Profile) (ms : List (ℕ × Mutex)) → Goes k (raised_kern p k ms) n 256
  goes-raised p ms = goes_further k (raised_kern p k ms) n n (length k.tasks) 256 (omega arith) is.few (goes-repried k n (lifted p k ms) k.tasks is within)

  -- ---- safe sections
  pub goes-make_safe : (who : ℕ) → Goes k (make_safe k who) (n + 1) 0
  goes-make_safe who =
      goes-move k (n + 1) is (more_counts k n (n + 1) (omega arith) within) (Set who (settings.Safe (safe_of (task_of k.tasks who) + 1))) (omega (arith, safe_within k who n within))

module _ (k : KernState) (n : ℕ) (is : IsKern k) (within : CountsWithin n k) where
  pub goes-lessen : (who m : ℕ) → Goes k (lessen k who m) n 256
  goes-lessen who m =
      let count : ℕ = safe_of (task_of k.tasks who) in
      let less : KernState = set_safe k who (count - m) in
      let one = goes-move k n is within (Set who (settings.Safe (count - m))) (omega (arith, safe_within k who n within)) in
      elim (ltb 0 count && leb count m) as (λ b. Goes k (cond b (release_all less (deletion who)) less) n 256) [
        | true ↦ goes_on k less (release_all less (deletion who)) n n 0 256 one (goes-move less n one.kern one.counts (ReleaseAll (deletion who)) tt)
        | false ↦ goes_further k less n n 0 256 (omega arith) (omega arith) one
      ]

-- a task without a reservation has none after a move
pub reserved_by : (ts us : List Task) (who : Option ℕ) → ids us ≡ ids ts → reservations us ≡ reservations ts
    → All (λ t. IsSome t.regs.reserve → who ≡ Some t.id) ts → All (λ t. IsSome t.regs.reserve → who ≡ Some t.id) us
reserved_by [] [] who i r all = all
reserved_by [] (u ∷ us) who i r all = absurd (cc)
reserved_by (t ∷ ts) [] who i r all = absurd (cc)
reserved_by (t ∷ ts) (u ∷ us) who i r all =
    let same : u.id ≡ t.id = heads u.id t.id (ids us) (ids ts) i in
    let reserve : u.regs.reserve ≡ t.regs.reserve = heads u.regs.reserve t.regs.reserve (reservations us) (reservations ts) r in
    let head : IsSome u.regs.reserve → who ≡ Some u.id = λ some. All-head (λ t. IsSome t.regs.reserve → who ≡ Some t.id) t ts all (subst (λ o. IsSome o) reserve some) ∙ ap Some (sym same) in
    All-cons (λ t. IsSome t.regs.reserve → who ≡ Some t.id) u us head
    (reserved_by ts us who (tails u.id t.id (ids us) (ids ts) i) (tails u.regs.reserve t.regs.reserve (reservations us) (reservations ts) r) (All-tail (λ t. IsSome t.regs.reserve → who ≡ Some t.id) t ts all))
  where
    heads : {A : Type 0} (a b : A) (xs ys : List A) → a ∷ xs ≡ b ∷ ys → a ≡ b
    heads a b xs ys e = cc

    tails : {A : Type 0} (a b : A) (xs ys : List A) → a ∷ xs ≡ b ∷ ys → xs ≡ ys
    tails a b xs ys e = cc

-- ---- an id is taken
-- if making an object isn't refused, an id is left
pub id_left : (most m id : ℕ) (e f : Errno) → cond (leb most m) (Some e) (cond (leb 1048577 id) (Some f) None) ≡ None → id ≤ 1048576
id_left most m id e f none =
    elim (leb most m) as (λ b. cond b (Some e) (cond (leb 1048577 id) (Some f) None) ≡ None → id ≤ 1048576) [
      | true ↦ λ q. absurd (cc)
      | false ↦ λ q.
          elim (leb 1048577 id) as (λ b. leb 1048577 id ≡ b → cond b (Some f) None ≡ None → id ≤ 1048576) [
            | true ↦ λ i r. absurd (cc)
            | false ↦ λ i r. omega (arith, leb-false 1048577 id i)
          ] refl q
    ] none

abbrev pub drawn : KernState → KernState
drawn k = record k { next_id = k.next_id + 1 }

pub goes-draw : (k : KernState) (n : ℕ) → IsKern k → CountsWithin n k → k.next_id ≤ 1048576 → Goes k (drawn k) n 0
goes-draw k n is within left = goes-move k n is within (DrawIds (k.next_id + 1)) (omega arith, omega (arith, left))
