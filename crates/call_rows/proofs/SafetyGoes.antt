-- What the deletion of a task, and its end, do to the kernel's tasks and counters.
use Rattle.std.proofs.Common.{◌≡◌, ℕ, ◌+◌, ◌≤◌, true, false, not, cond, eqb, List, [], ◌∷◌, map, Option, Some, IsSome, refl, ap, ◌∙◌, arith}
use Rattle.std.proofs.lemmas.List.Elements.{All-filter}
use Rattle.wind_base.specs.Limits.{wait_forever}
use Rattle.wind_base.specs.declared.board_kind.BoardKind.{BoardKind}
use Rattle.wind_base.specs.declared.errno.Errno.{Errno}
use Rattle.task_block.specs.declared.task.Task.{Task}
use Rattle.id_table.specs.Records.{without}
use Rattle.wind_core.specs.State.{KernState, IsKern, task_id, task_of}
use Rattle.wind_core.specs.Moves.{remove, set_again}
use Rattle.wind_core.specs.Move.{Remove, Pend, Set}
use Rattle.wind_core.specs.declared.settings.Setting.TheVariants as settings
use Rattle.wind_core.proofs.Ids.{ids}
use Rattle.wind_core.proofs.Keeping.{change_task_keeps}
use Rattle.wind_core.proofs.Moving.{move_keeps}
use Rattle.task_safety.specs.Safety.{deletion, safe_of}
use Rattle.task_safety.specs.Deletion.{asked, awaiting, after, unguarded as unguarded_caller}
use Rattle.task_safety.specs.declared.deleting.Deed.TheVariants.{Refuses, EndsItself, Removes, Awaits}
use Rattle.call_rows.specs.Ending.{unguarded}
use Rattle.kernel_world.specs.Kept.{stack_of, HasCounts, CountsWithin, ReservedBy, task_stacks}
use Rattle.call_rows.specs.SafetyRows.{at_deletion, back_at_gate}
use Rattle.kernel_world.proofs.Goes.{Goes, goes_on, goes_further, by_change, goes-move, goes-lessen, reserved_by}

-- ---- a deletion that takes no task out
module _ (k : KernState) (n : ℕ) (is : IsKern k) (within : CountsWithin n k) where
  pub goes-back_at_gate : (board : BoardKind) (who : ℕ) → Goes k (back_at_gate board k who) n 0
  goes-back_at_gate board who =
      by_change k who n (at_deletion board) (change_task_keeps k who (at_deletion board) is (record { id = λ t. refl; since = λ t. refl; ahead = λ t h. h })) (λ t. refl) (λ t. refl) (λ t. refl) (λ t h. h) within

  pub refuses_goes : (who : ℕ) (e : Errno) → Goes k (after k who (Refuses e)) n 0
  refuses_goes who e = goes-move k n is within (Set who (settings.Again false)) tt

module _ (k : KernState) (n : ℕ) (is : IsKern k) (within : CountsWithin n k) where
  -- the caller waits, and is at the gate of its call
  pub awaits_goes : (board : BoardKind) (who id : ℕ) → Goes k (back_at_gate board (after k who (Awaits id)) who) n 1
  awaits_goes board who id =
      let marked : KernState = set_again k who true in
      let waits : KernState = awaiting k who id in
      let one = goes-move k n is within (Set who (settings.Again true)) tt in
      let two = goes-move marked n one.kern one.counts (Pend who (deletion id) false wait_forever) (omega arith) in
      goes_on k waits (back_at_gate board waits who) n n 1 0 (goes_on k marked waits n n 0 1 one two) (goes-back_at_gate waits n two.kern two.counts board who)

-- ---- a task ends
-- from k to j: the invariant holds, all tasks but this one live on, on the same stacks, counts stay within n, and
-- ids rose;
-- no task has a reservation that had none, at most d order numbers were handed out, and the tick count is the same
pub record Leaves (k j : KernState) (who n d : ℕ) : Type 0 where
  pub kern : IsKern j
  pub alone : ids j.tasks ≡ ids (without task_id k.tasks who)
  pub stacks : task_stacks j ≡ task_stacks (remove k who)
  pub lent : j.lent ≡ k.lent
  pub last : j.last ≡ k.last
  pub reserves : (o : Option ℕ) → ReservedBy o k → ReservedBy o j
  pub counts : CountsWithin n j
  pub sinces : j.next_since ≤ k.next_since + d
  pub next : k.next_id ≤ j.next_id
  pub count : j.tick ≡ k.tick

-- a field of the tasks that are left, if two lists have the same ids with the same values of it
same_without : {A : Type 0} (field : Task → A) (ts us : List Task) (who : ℕ) → ids ts ≡ ids us → map field ts ≡ map field us → map field (without task_id ts who) ≡ map field (without task_id us who)
same_without field [] [] who i f = refl
same_without field [] (u ∷ us) who i f = absurd (cc)
same_without field (t ∷ ts) [] who i f = absurd (cc)
same_without field (t ∷ ts) (u ∷ us) who i f =
    let same : t.id ≡ u.id = heads t.id u.id (ids ts) (ids us) i in
    let head : field t ≡ field u = heads (field t) (field u) (map field ts) (map field us) f in
    let rest = same_without field ts us who (tails t.id u.id (ids ts) (ids us) i) (tails (field t) (field u) (map field ts) (map field us) f) in
    ap (λ m. map field (cond (not (eqb m who)) (t ∷ without task_id ts who) (without task_id ts who))) same
    ∙ elim (eqb u.id who) as (λ b. map field (cond (not b) (t ∷ without task_id ts who) (without task_id ts who)) ≡ map field (cond (not b) (u ∷ without task_id us who) (without task_id us who))) [
      | true ↦ rest
      | false ↦ ap (λ x. x ∷ map field (without task_id ts who)) head ∙ ap (λ xs. field u ∷ xs) rest
    ]
  where
    heads : {B : Type 0} (a b : B) (xs ys : List B) → a ∷ xs ≡ b ∷ ys → a ≡ b
    heads a b xs ys e = cc

    tails : {B : Type 0} (a b : B) (xs ys : List B) → a ∷ xs ≡ b ∷ ys → xs ≡ ys
    tails a b xs ys e = cc

-- a task is removed after a move
pub goes_leaves : (k j : KernState) (who n d : ℕ) → Goes k j n d → Leaves k (remove j who) who n d
goes_leaves k j who n d g = record {
  kern = move_keeps j (Remove who) g.kern tt;
  alone = same_without task_id j.tasks k.tasks who g.alone g.alone;
  stacks = same_without stack_of j.tasks k.tasks who g.alone g.stacks;
  lent = g.lent;
  last = g.last;
  reserves = λ o h. All-filter (λ t. not (eqb t.id who)) (λ t. IsSome t.regs.reserve → o ≡ Some t.id) j.tasks (reserved_by k.tasks j.tasks o g.alone g.reserves h);
  counts = All-filter (λ t. not (eqb t.id who)) (HasCounts n) j.tasks g.counts;
  sinces = g.sinces;
  next = g.next;
  count = g.count;
}

module _ (k : KernState) (n : ℕ) (is : IsKern k) (within : CountsWithin n k) where
  -- the caller ends itself
  pub itself_leaves : (who count : ℕ) → Leaves k (after k who (EndsItself count)) who n 256
  itself_leaves who count =
      let one = goes-move k n is within (Set who (settings.Again false)) tt in
      let j : KernState = unguarded_caller k who count in
      goes_leaves k j who n 256 (goes_on k (asked k who) j n n 0 256 one (goes-lessen (asked k who) n one.kern one.counts who count))

  -- a task that is not safe is removed
  pub removed_leaves : (who id : ℕ) → Leaves k (after k who (Removes id)) id n 256
  removed_leaves who id =
      goes_leaves k (asked k who) id n 256 (goes_further k (asked k who) n n 0 256 (omega arith) (omega arith) (goes-move k n is within (Set who (settings.Again false)) tt))

  -- a task ends, whoever ends it
  pub ended_leaves : (who : ℕ) → Leaves k (remove (unguarded k who) who) who n 256
  ended_leaves who = goes_leaves k (unguarded k who) who n 256 (goes-lessen k n is within who (safe_of (task_of k.tasks who)))
