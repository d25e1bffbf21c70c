-- The options of semaphores, as bits of a word (VxWorks 5.4 Reference Manual, semBLib, semCLib and semMLib).
use Rattle.std.specs.Prelude.{ℕ, Bool, not, ◌&&◌, ◌||◌, ◌==◌, if◌then◌else◌, Option, None, Some}
use Rattle.std.specs.Int.RustNames.{bit_and}
use Rattle.wind_base.specs.declared.semaphore.SemKind.{SemKind}
use Rattle.wind_base.specs.declared.semaphore.SemKind.TheVariants as kinds
use Rattle.wind_base.specs.declared.semaphore.SemOptions.{SemOptions}

-- SEM_Q_PRIORITY, SEM_DELETE_SAFE and SEM_INVERSION_SAFE
abbrev pub priority_bit : ℕ
priority_bit = 1

abbrev pub delete_safe_bit : ℕ
delete_safe_bit = 4

abbrev pub inversion_safe_bit : ℕ
inversion_safe_bit = 8

-- the number has all of these bits
abbrev pub has_bits : ℕ → ℕ → Bool
has_bits n bits = bit_and n bits == bits

-- the bits that a kind of semaphore allows
abbrev pub allowed_bits : SemKind → ℕ
allowed_bits kinds.Binary = 1
allowed_bits kinds.Counting = 1
allowed_bits kinds.Mutex = 13

-- it has only bits that the kind allows, and inheritance only with waiters in order of priority
abbrev pub are_options : SemKind → ℕ → Bool
are_options kind n = has_bits (allowed_bits kind) n && (not (has_bits n inversion_safe_bit) || has_bits n priority_bit)

-- the options with a number
abbrev pub read_options : ℕ → SemKind → Option SemOptions
read_options n kind = if are_options kind n then Some (record { 0 = n }) else None

-- tasks wait in order of priority, otherwise in order of arrival
abbrev pub is_priority : SemOptions → Bool
is_priority o = has_bits o.0 priority_bit

-- each take of the mutex protects its owner from deletion
abbrev pub is_delete_safe : SemOptions → Bool
is_delete_safe o = has_bits o.0 delete_safe_bit

-- the owner of the mutex inherits the priorities of the tasks that wait for it
abbrev pub is_inversion_safe : SemOptions → Bool
is_inversion_safe o = has_bits o.0 inversion_safe_bit
