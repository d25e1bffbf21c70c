-- The making of a mutex.
use Rattle.std.specs.Prelude.{◌+◌, [], ◌∷◌, ◌++◌, length, Option, None}
use Rattle.wind_base.specs.Limits.{most_mutexes}
use Rattle.wind_base.specs.SemBits.{is_priority, is_delete_safe, is_inversion_safe}
use Rattle.wind_base.specs.declared.semaphore.SemOptions.{SemOptions}
use Rattle.wind_base.specs.declared.errno.Errno.{Errno}
use Rattle.id_table.specs.Rows.{add_refusal}
use Rattle.inheritance.specs.declared.mutex.Mutex.{Mutex}
use Rattle.inheritance.specs.Mutexes.{MutexState}

-- a mutex without an owner, with these options
abbrev pub new_mutex : SemOptions → Mutex
new_mutex options = record {
  by_priority = is_priority options;
  delete_safe = is_delete_safe options;
  inversion_safe = is_inversion_safe options;
  owner = None;
  depth = 0;
}

-- why no mutex can be made: the limit of live mutexes is reached, otherwise no id is left
abbrev pub create_refusal : MutexState → Option Errno
create_refusal s = add_refusal most_mutexes (length s.mutexes) s.kern.next_id

-- the mutex gets the next id, and goes last, since ids rise
abbrev pub create : MutexState → Mutex → MutexState
create s v = record s {
  kern = record s.kern { next_id = s.kern.next_id + 1 };
  mutexes = s.mutexes ++ (s.kern.next_id, v) ∷ [];
}
