-- The next id after the kernel's moves and the calls on semaphores and mutexes: it never falls.
use Rattle.std.proofs.Common.{◌≡◌, ℕ, ◌-◌, Bool, true, false, ◌&&◌, cond, eqb, ltb, leb, List, [], ◌∷◌, Option, None, Some, refl, ◌∙◌}
use Rattle.wind_base.specs.declared.errno.Errno.TheVariants as errors
use Rattle.id_table.specs.Rows.{object_of}
use Rattle.wind_base.specs.declared.profile.Profile.{Profile}
use Rattle.wind_base.specs.declared.profile.Profile.TheVariants.{One, Two}
use Rattle.task_block.specs.declared.task.Task.{Task}
use Rattle.wind_core.specs.State.{KernState, task_of}
use Rattle.wind_core.specs.Orders.{waiters, first_waiter}
use Rattle.wind_core.specs.Moves.{move_task, released, release, resumed, is_suspended, resume, answered, wake_all, set_safe, set_normal, change_pri}
use Rattle.wind_core.specs.Releases.{releases, release_all}
use Rattle.task_safety.specs.Safety.{deletion, safe_of, make_safe, lessen}
use Rattle.inheritance.specs.declared.mutex.Mutex.{Mutex}
use Rattle.inheritance.specs.Mutexes.{MutexState, mutex_place}
use Rattle.inheritance.specs.Reach.{lifted, raised_kern}
use Rattle.sem_mutex.specs.Calls as mutex
use Rattle.sem_mutex.proofs.Lifting.{next-change_pri, next-repried}
use Rattle.sem_mutex.proofs.Giving.{next_hand}
use Rattle.sem_plain.specs.State.{SemState}
use Rattle.sem_plain.specs.Calls as plain
use Rattle.wind_core.proofs.NextId.{next-move, next-end_waits}

-- the next id is the same
abbrev pub NextSame : KernState → KernState → Type 0
NextSame k l = l.next_id ≡ k.next_id

pub next-if : (b : Bool) (k l m : KernState) → NextSame k l → NextSame k m → NextSame k (cond b l m)
next-if true k l m first second = first
next-if false k l m first second = second

-- ---- the kernel's moves
pub next-release : (k : KernState) (who : ℕ) → NextSame k (release k who)
next-release k who = next-move k who released

pub next-resume : (k : KernState) (who : ℕ) → NextSame k (resume k who)
next-resume k who = next-if (is_suspended (task_of k.tasks who)) k (move_task k who resumed) k (next-move k who resumed) refl

next-releases : (k : KernState) (ts : List Task) → NextSame k (releases k ts)
next-releases k [] = refl
next-releases k (t ∷ ts) = next-releases (release k t.id) ts ∙ next-release k t.id

pub next-lessen : (k : KernState) (who n : ℕ) → NextSame k (lessen k who n)
next-lessen k who n =
    let count : ℕ = safe_of (task_of k.tasks who) in
    let less : KernState = set_safe k who (count - n) in
    next-if (ltb 0 count && leb count n) k (release_all less (deletion who)) less (next-releases less (waiters less.tasks (deletion who))) refl

pub next-raised : (p : Profile) (k : KernState) (ms : List (ℕ × Mutex)) → NextSame k (raised_kern p k ms)
next-raised p k ms = next-repried k (lifted p k ms) k.tasks

-- ---- semaphores
pub next-sem_take : (s : SemState) (who id n : ℕ) (d : plain.TakeDeed) → NextSame s.kern (plain.after_take s who id n d).kern
next-sem_take s who id n (plain.declined e) = refl
next-sem_take s who id n (plain.taken v) = refl
next-sem_take s who id n (plain.starved v) = refl

pub next-sem_give : (s : SemState) (id : ℕ) (d : plain.GiveDeed) → NextSame s.kern (plain.after_give s id d).kern
next-sem_give s id (plain.denied e) = refl
next-sem_give s id (plain.passed_on t) = next-move s.kern t.id (answered 0 None)
next-sem_give s id (plain.counted v) = refl

pub next-sem_flush : (s : SemState) (id : ℕ) → NextSame s.kern (plain.flush s id).kern
next-sem_flush s id = next-end_waits s.kern (waiters s.kern.tasks _) 0 None

pub next-sem_delete : (s : SemState) (id : ℕ) → NextSame s.kern (plain.delete s id).kern
next-sem_delete s id = next-end_waits s.kern (waiters s.kern.tasks _) 4294967295 (Some errors.ObjDeleted)

-- ---- mutexes
next-guarded : (k : KernState) (who : ℕ) (m : Mutex) → NextSame k (mutex.guarded k who m)
next-guarded k who m = next-if m.delete_safe k (make_safe k who) k refl refl

next-eased : (k : KernState) (who : ℕ) (m : Mutex) (n : ℕ) → NextSame k (mutex.eased k who m n)
next-eased k who m n = next-if m.delete_safe k (lessen k who n) k (next-lessen k who n) refl

next-restored : (p : Profile) (k : KernState) (who : ℕ) (o : Option Task) → NextSame k (mutex.restored p k who o)
next-restored Two k who o = refl
next-restored One k who None = refl
next-restored One k who (Some t) = next-if (eqb t.held 0) k (change_pri k who t.normal) k (next-change_pri k who t.normal) refl

next-letting_go : (p : Profile) (k : KernState) (who : ℕ) (m : Mutex) → NextSame k (mutex.letting_go p k who m)
next-letting_go p k who m =
    let less : KernState = mutex.less_held k who in
    next-if m.inversion_safe k (mutex.dropped p k who) k (next-restored p less who (task_of less.tasks who)) refl

next-taken : (s : MutexState) (who id n : ℕ) (d : mutex.TakeDeed) → NextSame s.kern (mutex.after_take s who id n d).kern
next-taken s who id n (mutex.declined e) = refl
next-taken s who id n (mutex.taken m) = next_hand s.kern who m
next-taken s who id n (mutex.retaken m) = next-guarded s.kern who m
next-taken s who id n (mutex.starved m) = refl

next-pass_on : (s : MutexState) (id : ℕ) (m : Mutex) (o : Option Task) → NextSame s.kern (mutex.pass_on s id m o).kern
next-pass_on s id m None = refl
next-pass_on s id m (Some t) = next-move (mutex.hand s t.id id m).kern t.id (answered 0 None) ∙ next_hand s.kern t.id m

next-give_up : (s : MutexState) (who id : ℕ) (m : Mutex) → NextSame s.kern (mutex.give_up s who id m).kern
next-give_up s who id m =
    let next : Option Task = first_waiter s.kern.tasks (mutex_place id) in
    let passed : KernState = (mutex.pass_on s id m next).kern in
    next-eased (mutex.letting_go s.profile passed who m) who m 1 ∙ next-letting_go s.profile passed who m ∙ next-pass_on s id m next

next-given : (s : MutexState) (who id : ℕ) (d : mutex.GiveDeed) → NextSame s.kern (mutex.after_give s who id d).kern
next-given s who id (mutex.denied e) = refl
next-given s who id (mutex.lowered m) = next-eased s.kern who m 1
next-given s who id (mutex.given_up m) = next-give_up s who id m

next-ended : (p : Profile) (k : KernState) (who : ℕ) (m : Mutex) (o : Option Task) → NextSame k (mutex.ended p k who m o)
next-ended p k who m None = refl
next-ended p k who m (Some t) = next-eased (mutex.letting_go p k who m) who m m.depth ∙ next-letting_go p k who m

next-owner_ended : (p : Profile) (k : KernState) (m : Mutex) (o : Option ℕ) → NextSame k (mutex.owner_ended p k m o)
next-owner_ended p k m None = refl
next-owner_ended p k m (Some who) = next-ended p k who m (task_of k.tasks who)

next-delete_alone : (s : MutexState) (id : ℕ) (o : Option Mutex) → NextSame s.kern (mutex.delete_alone s id o).kern
next-delete_alone s id None = refl
next-delete_alone s id (Some m) =
    next-owner_ended s.profile (wake_all s.kern (mutex_place id) 4294967295 (Some errors.ObjDeleted)) m m.owner
    ∙ next-end_waits s.kern (waiters s.kern.tasks (mutex_place id)) 4294967295 (Some errors.ObjDeleted)

-- and the priorities that follow
next-at_once : (p : Profile) (k : KernState) (ms : List (ℕ × Mutex)) → NextSame k (mutex.at_once p k ms)
next-at_once One k ms = next-raised One k ms
next-at_once Two k ms = refl

raises : (s t : MutexState) → NextSame s.kern t.kern → NextSame s.kern (mutex.raised_at_once t).kern
raises s t same = next-at_once t.profile t.kern t.mutexes ∙ same

next-followed : (p : Profile) (k : KernState) (who pri : ℕ) → NextSame k (mutex.followed p k who pri)
next-followed One k who pri = next-change_pri k who pri
next-followed Two k who pri = refl

pub next-mutex_take : (s : MutexState) (who id n : ℕ) → NextSame s.kern (mutex.take s who id n).kern
next-mutex_take s who id n = raises s (mutex.after_take s who id n (mutex.take_deed who n (object_of s.mutexes id))) (next-taken s who id n (mutex.take_deed who n (object_of s.mutexes id)))

pub next-mutex_give : (s : MutexState) (who id : ℕ) → NextSame s.kern (mutex.give s who id).kern
next-mutex_give s who id = raises s (mutex.after_give s who id (mutex.give_deed who (object_of s.mutexes id))) (next-given s who id (mutex.give_deed who (object_of s.mutexes id)))

pub next-mutex_delete : (s : MutexState) (id : ℕ) → NextSame s.kern (mutex.delete s id).kern
next-mutex_delete s id = raises s (mutex.delete_alone s id (object_of s.mutexes id)) (next-delete_alone s id (object_of s.mutexes id))

pub next-priority_set : (s : MutexState) (who pri : ℕ) → NextSame s.kern (mutex.priority_set s who pri).kern
next-priority_set s who pri = raises s (mutex.priority_alone s who pri) (next-followed s.profile (set_normal s.kern who pri) who (mutex.pri_after pri (task_of s.kern.tasks who)))
