-- The mutex that a call names, and the owner of a mutex.
use Rattle.std.specs.Prelude.{ℕ, Option, None, Some}
use Rattle.id_table.specs.Rows.{object_of}
use Rattle.inheritance.specs.Mutexes.{owner_in as owner_of}
use Rattle.kernel_world.specs.State.{WorldState}
use Rattle.kernel_world.specs.declared.call.Call.{Call}
use Rattle.kernel_world.specs.declared.call.Call.TheVariants as calls

-- the owner of the mutex with this id, if there is one
abbrev pub owner_in : WorldState → ℕ → Option ℕ
owner_in w id = owner_of (object_of w.objects.mutexes.rows id)

-- the mutex that a call may give an owner, or take it from
abbrev pub mutex_of : Call → Option ℕ
mutex_of (calls.SemTake id timeout) = Some id
mutex_of (calls.SemGive id) = Some id
mutex_of (calls.SemDelete id) = Some id
mutex_of c = None

-- the mutex that a call names
abbrev pub mutex_named : Option Call → Option ℕ
mutex_named None = None
mutex_named (Some c) = mutex_of c
