-- What the calls on a mutex do to the tasks and mutexes (Reference Manual, semMLib).
use Rattle.std.specs.Prelude.{ℕ, ◌+◌, ◌-◌, not, ◌==◌, nat_lt, min, if◌then◌else◌, List, Option, None, Some}
use Rattle.std.specs.Option.{option_map}
use Rattle.wind_base.specs.Limits.{error_word, ok_word, no_wait, wait_forever}
use Rattle.wind_base.specs.declared.profile.Profile.{Profile}
use Rattle.wind_base.specs.declared.profile.Profile.TheVariants.{One, Two}
use Rattle.id_table.specs.Rows.{object_of, with_object, without}
use Rattle.task_block.specs.declared.task.Task.{Task}
use Rattle.wind_base.specs.declared.errno.Errno.{Errno}
use Rattle.wind_base.specs.declared.errno.Errno.TheVariants as errors
use Rattle.wind_core.specs.State.{KernState, task_of}
use Rattle.wind_core.specs.Orders.{first_waiter}
use Rattle.wind_core.specs.Moves.{pend, end_wait, wake_all, change_pri, set_held, set_normal}
use Rattle.task_safety.specs.Safety.{make_safe, lessen}
use Rattle.inheritance.specs.declared.mutex.Mutex.{Mutex}
use Rattle.wind_core.specs.declared.took.Took.{Took}
use Rattle.wind_core.specs.declared.took.Took.TheVariants.{Taken, Pended}
use Rattle.inheritance.specs.Mutexes.{MutexState, is_id, mutex_place}
use Rattle.inheritance.specs.Reach.{raised_kern}

-- the number as an id, if a mutex with this id is live
abbrev pub live_mutex : List (ℕ × Mutex) → ℕ → Option ℕ
live_mutex ms id = option_map (λ _. id) (object_of ms id)

-- ---- when priorities are inherited
-- under profile 1 a call raises priorities at once; under profile 2 it leaves that to the end of the step
abbrev pub at_once : Profile → KernState → List (ℕ × Mutex) → KernState
at_once One k ms = raised_kern One k ms
at_once Two k ms = k

abbrev pub raised_at_once : MutexState → MutexState
raised_at_once s = record s { kern = at_once s.profile s.kern s.mutexes }

-- ---- what owning a mutex means
-- the number of inversion-safe mutexes that a task owns, as its record says
abbrev pub held_of : Option Task → ℕ
held_of None = 0
held_of (Some t) = t.held

-- one more inversion-safe mutex, if the mutex is one
abbrev pub holding : KernState → ℕ → Mutex → KernState
holding k who m = if m.inversion_safe then set_held k who (held_of (task_of k.tasks who) + 1) else k

-- one more safe section, if the mutex is delete-safe
abbrev pub guarded : KernState → ℕ → Mutex → KernState
guarded k who m = if m.delete_safe then make_safe k who else k

-- n safe sections end, if the mutex is delete-safe
abbrev pub eased : KernState → ℕ → Mutex → ℕ → KernState
eased k who m n = if m.delete_safe then lessen k who n else k

-- under profile 1 the task gets its normal priority back if it owns no inversion-safe mutex
abbrev pub restored : Profile → KernState → ℕ → Option Task → KernState
restored One k who None = k
restored One k who (Some t) = if t.held == 0 then change_pri k who t.normal else k
restored Two k who o = k

-- the task owns one inversion-safe mutex less
abbrev pub less_held : KernState → ℕ → KernState
less_held k who = set_held k who (held_of (task_of k.tasks who) - 1)

-- one inversion-safe mutex less
abbrev pub dropped : Profile → KernState → ℕ → KernState
dropped p k who = restored p (less_held k who) who (task_of (less_held k who).tasks who)

-- the task gives up the ownership of the mutex
abbrev pub letting_go : Profile → KernState → ℕ → Mutex → KernState
letting_go p k who m = if m.inversion_safe then dropped p k who else k

-- ---- take
-- the mutex with this owner, taken once
abbrev pub owned : ℕ → Mutex → Mutex
owned who m = record m { owner = Some who; depth = 1 }

-- the task becomes the owner
abbrev pub hand : MutexState → ℕ → ℕ → Mutex → MutexState
hand s who id m = record s {
  kern = guarded (holding s.kern who m) who m;
  mutexes = with_object s.mutexes id (owned who m);
}

-- the owner takes it once more
abbrev pub deepen : MutexState → ℕ → ℕ → Mutex → MutexState
deepen s who id m = record s {
  kern = guarded s.kern who m;
  mutexes = with_object s.mutexes id (record m { depth = m.depth + 1 });
}

-- the task begins to wait for it, by priority or in order of arrival
abbrev pub await : MutexState → ℕ → ℕ → ℕ → Mutex → MutexState
await s who id n m = record s { kern = pend s.kern who (mutex_place id) (not m.by_priority) n }

-- the same, if the mutex is live
abbrev pub handed : MutexState → ℕ → ℕ → Option Mutex → MutexState
handed s who id None = s
handed s who id (Some m) = hand s who id m

-- the same for another take, if the mutex is live
abbrev pub deepened : MutexState → ℕ → ℕ → Option Mutex → MutexState
deepened s who id None = s
deepened s who id (Some m) = deepen s who id m

-- the same for a wait, if the mutex is live
abbrev pub awaited : MutexState → ℕ → ℕ → ℕ → Option Mutex → MutexState
awaited s who id n None = s
awaited s who id n (Some m) = await s who id n m

-- what a take does
pub data TakeDeed : Type 0 where
  -- it is refused
  declined : Errno → TakeDeed
  -- the task becomes the owner
  taken : Mutex → TakeDeed
  -- the owner takes it once more
  retaken : Mutex → TakeDeed
  -- the task waits for the mutex
  starved : Mutex → TakeDeed

-- what a take of a live mutex with this timeout does, given its owner, live or ended
abbrev pub take_from : ℕ → ℕ → Mutex → Option ℕ → TakeDeed
take_from who n m None = taken m
take_from who n m (Some o) =
    if o == who then retaken m
    else if n == no_wait then declined errors.ObjUnavailable
    else starved m

-- what a take with this timeout does, given the live mutex
abbrev pub take_deed : ℕ → ℕ → Option Mutex → TakeDeed
take_deed who n None = declined errors.ObjIdError
take_deed who n (Some m) = take_from who n m m.owner

-- the error of a take that is refused
abbrev pub take_error : TakeDeed → Option Errno
take_error (declined e) = Some e
take_error (taken m) = None
take_error (retaken m) = None
take_error (starved m) = None

-- why a take with this timeout is refused
abbrev pub take_refusal : ℕ → ℕ → Option Mutex → Option Errno
take_refusal who n o = take_error (take_deed who n o)

-- whether the caller waits; otherwise it gets the mutex, unless it is refused
abbrev pub took_by : TakeDeed → Took
took_by (declined e) = Taken
took_by (taken m) = Taken
took_by (retaken m) = Taken
took_by (starved m) = Pended

-- whether a take that may wait gets the mutex or waits
abbrev pub took : ℕ → Option Mutex → Took
took who o = took_by (take_deed who wait_forever o)

-- the state after what a take does, before owners inherit
abbrev pub after_take : MutexState → ℕ → ℕ → ℕ → TakeDeed → MutexState
after_take s who id n (declined e) = s
after_take s who id n (taken m) = hand s who id m
after_take s who id n (retaken m) = deepen s who id m
after_take s who id n (starved m) = await s who id n m

-- the state after a take
abbrev pub take : MutexState → ℕ → ℕ → ℕ → MutexState
take s who id n = raised_at_once (after_take s who id n (take_deed who n (object_of s.mutexes id)))

-- ---- give
-- the mutex without an owner
abbrev pub freed : Mutex → Mutex
freed m = record m { owner = None; depth = 0 }

-- the first waiting task becomes the owner and its wait ends, or the mutex becomes free
abbrev pub pass_on : MutexState → ℕ → Mutex → Option Task → MutexState
pass_on s id m None = record s { mutexes = with_object s.mutexes id (freed m) }
pass_on s id m (Some w) = record (hand s w.id id m) { kern = end_wait (hand s w.id id m).kern w.id ok_word None }

-- the owner's last give: the mutex is passed on, and the owner gives up its ownership
abbrev pub give_up : MutexState → ℕ → ℕ → Mutex → MutexState
give_up s who id m =
    let t = pass_on s id m (first_waiter s.kern.tasks (mutex_place id)) in
    record t { kern = eased (letting_go s.profile t.kern who m) who m 1 }

-- the owner gives it once
abbrev pub shallow : MutexState → ℕ → ℕ → Mutex → MutexState
shallow s who id m = record s {
  kern = eased s.kern who m 1;
  mutexes = with_object s.mutexes id (record m { depth = m.depth - 1 });
}

-- the same, if the mutex is live
abbrev pub passed_on : MutexState → ℕ → Option Mutex → MutexState
passed_on s id None = s
passed_on s id (Some m) = pass_on s id m (first_waiter s.kern.tasks (mutex_place id))

-- another give by the owner, if the mutex is live
abbrev pub given_once : MutexState → ℕ → ℕ → Option Mutex → MutexState
given_once s who id None = s
given_once s who id (Some m) = shallow s who id m

-- the owner's last give, if the mutex is live
abbrev pub given_last : MutexState → ℕ → ℕ → Option Mutex → MutexState
given_last s who id None = s
given_last s who id (Some m) = give_up s who id m

-- what a give does
pub data GiveDeed : Type 0 where
  -- it is refused
  denied : Errno → GiveDeed
  -- the owner still owns it
  lowered : Mutex → GiveDeed
  -- it is the owner's last give
  given_up : Mutex → GiveDeed

-- what a give by this task does, given the live mutex: only the owner may give it
abbrev pub give_deed : ℕ → Option Mutex → GiveDeed
give_deed who None = denied errors.ObjIdError
give_deed who (Some m) =
    if is_id who m.owner then (if nat_lt 1 m.depth then lowered m else given_up m)
    else denied errors.InvalidOperation

-- the error of a give that is refused
abbrev pub give_error : GiveDeed → Option Errno
give_error (denied e) = Some e
give_error (lowered m) = None
give_error (given_up m) = None

-- why a give is refused
abbrev pub give_refusal : ℕ → Option Mutex → Option Errno
give_refusal who o = give_error (give_deed who o)

-- the state after what a give does, before owners inherit
abbrev pub after_give : MutexState → ℕ → ℕ → GiveDeed → MutexState
after_give s who id (denied e) = s
after_give s who id (lowered m) = shallow s who id m
after_give s who id (given_up m) = give_up s who id m

-- the state after a give
abbrev pub give : MutexState → ℕ → ℕ → MutexState
give s who id = raised_at_once (after_give s who id (give_deed who (object_of s.mutexes id)))

-- ---- delete
-- a live owner gives up all its takes
abbrev pub ended : Profile → KernState → ℕ → Mutex → Option Task → KernState
ended p k who m None = k
ended p k who m (Some t) = eased (letting_go p k who m) who m m.depth

-- the owner, if it is live, gives up all its takes
abbrev pub owner_ended : Profile → KernState → Mutex → Option ℕ → KernState
owner_ended p k m None = k
owner_ended p k m (Some o) = ended p k o m (task_of k.tasks o)

-- the same, if the mutex is live
abbrev pub its_owner_ended : Profile → KernState → Option Mutex → KernState
its_owner_ended p k None = k
its_owner_ended p k (Some m) = owner_ended p k m m.owner

-- a deletion, before owners inherit
abbrev pub delete_alone : MutexState → ℕ → Option Mutex → MutexState
delete_alone s id None = s
delete_alone s id (Some m) = record s {
  kern = owner_ended s.profile (wake_all s.kern (mutex_place id) error_word (Some errors.ObjDeleted)) m m.owner;
  mutexes = without s.mutexes id;
}

-- why a deletion is refused
abbrev pub delete_refusal : Option Mutex → Option Errno
delete_refusal None = Some errors.ObjIdError
delete_refusal (Some m) = None

-- the state after a deletion that isn't refused
abbrev pub delete : MutexState → ℕ → MutexState
delete s id = raised_at_once (delete_alone s id (object_of s.mutexes id))

-- ---- setting a task's normal priority
-- the priority of a task after its normal priority is set
abbrev pub pri_after : ℕ → Option Task → ℕ
pri_after pri None = pri
pri_after pri (Some t) = if t.held == 0 then pri else min t.pri pri

-- under profile 1 the task's priority follows; under profile 2 that is left to the end of the step
abbrev pub followed : Profile → KernState → ℕ → ℕ → KernState
followed One k who pri = change_pri k who pri
followed Two k who pri = k

-- the setting of a normal priority, before owners inherit
abbrev pub priority_alone : MutexState → ℕ → ℕ → MutexState
priority_alone s who pri = record s {
  kern = followed s.profile (set_normal s.kern who pri) who (pri_after pri (task_of s.kern.tasks who));
}

-- the state after a normal priority is set
abbrev pub priority_set : MutexState → ℕ → ℕ → MutexState
priority_set s who pri = raised_at_once (priority_alone s who pri)
