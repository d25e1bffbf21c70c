-- Every move of the kernel keeps the whole invariant of message queues, because it begins no wait at one.
use Rattle.std.proofs.Common.{◌≡◌, ℕ, ◌-◌, ◌<◌, true, false, cond, ◌&&◌, ltb, leb, List, [], ◌∷◌, length, get_or, map, Some, refl, sym, subst, arith}
use Rattle.std.specs.List.{All, AllPairs}
use Rattle.std.proofs.lemmas.List.{length-map, get_or-map}
use Rattle.std.proofs.lemmas.List.Elements.{All-map, All-weaker}
use Rattle.wind_base.specs.Boards.{board_rules}
use Rattle.wind_base.specs.declared.board_kind.BoardKind.{BoardKind}
use Rattle.task_block.specs.declared.task.Task.{Task}
use Rattle.wind_core.specs.State.{KernState, IsKern, WakesAhead, task_id, task_of}
use Rattle.wind_core.specs.Moves.{change_pri, set_safe}
use Rattle.wind_core.specs.Releases.{release_all}
use Rattle.wind_core.specs.Move.{ReleaseAll, ChangePri, Set}
use Rattle.wind_core.specs.declared.settings.Setting.TheVariants as settings
use Rattle.sem_mutex.specs.TaskSafetySafety.{deletion, safe_of, lessen}
use Rattle.wind_base.specs.declared.profile.Profile.{Profile}
use Rattle.sem_mutex.specs.InheritanceMutex.{Mutex}
use Rattle.sem_mutex.specs.InheritanceReach.{lifted, repried, raised_kern}
use Rattle.msg_queue.specs.State.{QueueState, scene}
use Rattle.msg_queue.specs.Kept.{BeginsNone, IsCalm, IsKept}
use Rattle.msg_queue.specs.Machine.{others}
use Rattle.msg_queue.proofs.Calm.{at_first, calm_at, calm_then, calm_stays, calms}
use Rattle.msg_queue.proofs.Events.{keeps}
use Rattle.kernel_world.specs.declared.objects.Objects.{Objects}

-- the queues, with any RAM of the board's size
abbrev pub KeepsQueues : BoardKind → KernState → Objects → Type 0
KeepsQueues board k o = (ram : List ℕ) → length ram ≡ (board_rules board).ram_bytes → IsKept (scene k o.queues ram)

-- a move that begins no wait at a queue keeps them
pub queues-calm : (board : BoardKind) (k j : KernState) (o : Objects) → IsCalm o.queues.queues k j → KeepsQueues board k o → KeepsQueues board j o
queues-calm board k j o calm kept ram long = keeps (scene k o.queues ram) (others j ram) (kept ram long) (calm, refl)

module _ (rs : List (ℕ × QueueState)) where
  -- ---- safe sections
  pub calm-lessen : (k : KernState) (who n : ℕ) → IsKern k → IsCalm rs k (lessen k who n)
  calm-lessen k who n is =
      let count : ℕ = safe_of (task_of k.tasks who) in
      let less : KernState = set_safe k who (count - n) in
      let set : IsCalm rs k less = calms rs k (Set who (settings.Safe (count - n))) is tt tt in
      elim (ltb 0 count && leb count n) as (λ b. IsCalm rs k (cond b (release_all less (deletion who)) less)) [
        | true ↦ calm_then rs k less (release_all less (deletion who)) set (calms rs less (ReleaseAll (deletion who)) set.kern tt tt)
        | false ↦ set
      ]

  -- ---- several priorities change
  calm-repried : (k : KernState) (goal : ℕ → ℕ) (ts : List Task) → IsKern k → IsCalm rs k (repried k goal ts)
  calm-repried k goal [] is = calm_stays rs k is
  calm-repried k goal (t ∷ ts) is =
      let next : KernState = change_pri k t.id (goal t.id) in
      let once : IsCalm rs k next = calms rs k (ChangePri t.id (goal t.id)) is tt tt in
      calm_then rs k next (repried next goal ts) once (calm-repried next goal ts once.kern)

  pub calm-raised : (p : Profile) (k : KernState) (ms : List (ℕ × Mutex)) → IsKern k → IsCalm rs k (raised_kern p k ms)
  calm-raised p k ms is = calm-repried k (lifted p k ms) k.tasks is

-- ---- a change of tasks' fields that neither the kernel's invariant nor that of waits reads
pub record Spares (f : Task → Task) : Type 0 where
  pub id : (t : Task) → (f t).id ≡ t.id
  pub since : (t : Task) → (f t).since ≡ t.since
  pub wake : (t : Task) → (f t).wake ≡ t.wake
  pub wait : (t : Task) → (f t).wait ≡ t.wait

pairs_map : (R : Task → Task → Type 0) (f : Task → Task) (ts : List Task) → ((t u : Task) → R t u → R (f t) (f u)) → AllPairs R ts → AllPairs R (map f ts)
pairs_map R f ts goes all i j d below within =
    let size : length (map f ts) ≡ length ts = length-map ts f in
    let last : j < length ts = omega (arith, within, size) in
    let first : i < length ts = omega (arith, last, below) in
    subst (λ t. R t (get_or (map f ts) j d)) (sym (get_or-map f ts i d d first))
    (subst (λ u. R (f (get_or ts i d)) u) (sym (get_or-map f ts j d d last)) (goes (get_or ts i d) (get_or ts j d) (all i j d below last)))

all_map : (P : Task → Type 0) (f : Task → Task) (ts : List Task) → ((t : Task) → P t → P (f t)) → All P ts → All P (map f ts)
all_map P f ts goes all = All-map P f ts (All-weaker P (λ t. P (f t)) goes ts all)

module _ (f : Task → Task) (spares : Spares f) where
  pub kern-map : (k : KernState) → IsKern k → IsKern (record k { tasks = map f k.tasks })
  kern-map k is = record {
    few = omega (arith, is.few, length-map k.tasks f);
    rising = pairs_map (λ t u. task_id t < task_id u) f k.tasks (λ t u h. omega (arith, h, spares.id t, spares.id u)) is.rising;
    ids = all_map (λ t. t.id < k.next_id) f k.tasks (λ t h. omega (arith, h, spares.id t)) is.ids;
    first_id = is.first_id;
    last_id = is.last_id;
    distinct = pairs_map (λ t u. t.since ≡ u.since → ⊥) f k.tasks (λ t u h e. h (subst (λ n. n ≡ u.since) (spares.since t) (subst (λ n. (f t).since ≡ n) (spares.since u) e))) is.distinct;
    sinces = all_map (λ t. t.since < k.next_since) f k.tasks (λ t h. omega (arith, h, spares.since t)) is.sinces;
    ahead = all_map (WakesAhead k.tick) f k.tasks (λ t h. subst (λ w. WakesAhead k.tick (record t { wake = w })) (sym (spares.wake t)) h) is.ahead;
  }

  pub calm-map : (rs : List (ℕ × QueueState)) (k : KernState) → IsKern k → IsCalm rs k (record k { tasks = map f k.tasks })
  calm-map rs k is =
      let still : Task → Type 0 = BeginsNone rs k k.next_id in
      calm_at rs k (record k { tasks = map f k.tasks }) (kern-map k is) refl
      (all_map still f k.tasks
      (λ t h place here. subst (λ i. BeginsNone rs k k.next_id (record t { id = i })) (sym (spares.id t)) h place (subst (λ w. w ≡ Some place) (spares.wait t) here))
      (at_first rs k k.next_id))
