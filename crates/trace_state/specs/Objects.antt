-- The kernel's objects as JSON.
use Rattle.std.specs.Prelude.{ℕ, List, [], ◌∷◌, length, Option, codes}
use Rattle.std.specs.Option.{option_map}
use Rattle.serde_json.specs.Data.{Data, boolean, string}
use Rattle.wind_base.specs.SemBits.{is_priority}
use Rattle.wind_base.specs.declared.regs.Regs.{Regs}
use Rattle.wind_base.specs.declared.semaphore.SemKind.{SemKind}
use Rattle.wind_base.specs.declared.semaphore.SemKind.TheVariants as kinds
use Rattle.sem_plain.specs.declared.semaphore.Semaphore.{Semaphore}
use Rattle.inheritance.specs.declared.mutex.Mutex.{Mutex}
use Rattle.msg_queue.specs.State.{QueueState}
use Rattle.isr_watch.specs.declared.watchdog.Watchdog.{Watchdog}
use Rattle.trace_state.specs.Json.{list_of, number_of, number_or_null, object_of}

-- the word for a kind of semaphore
abbrev pub kind_word : SemKind → List ℕ
kind_word kinds.Binary = codes "binary"
kind_word kinds.Counting = codes "counting"
kind_word kinds.Mutex = codes "mutex"

-- a semaphore with its id
abbrev pub semaphore_data : ℕ → Semaphore → Data
semaphore_data id s = object_of (
    (codes "id", number_of id)
    ∷ (codes "kind", string (kind_word s.kind))
    ∷ (codes "count", number_of s.count)
    ∷ (codes "by_priority", boolean (is_priority s.options))
    ∷ [])

-- a mutex with its id; its owner is null if it has none
abbrev pub mutex_data : ℕ → Mutex → Data
mutex_data id m = object_of (
    (codes "id", number_of id)
    ∷ (codes "owner", number_or_null m.owner)
    ∷ (codes "depth", number_of m.depth)
    ∷ (codes "by_priority", boolean m.by_priority)
    ∷ (codes "delete_safe", boolean m.delete_safe)
    ∷ (codes "inversion_safe", boolean m.inversion_safe)
    ∷ [])

-- a message queue with its id
abbrev pub queue_data : ℕ → QueueState → Data
queue_data id q = object_of (
    (codes "id", number_of id)
    ∷ (codes "max_msgs", number_of q.max_msgs)
    ∷ (codes "max_len", number_of q.max_len)
    ∷ (codes "held", number_of (length q.held))
    ∷ (codes "by_priority", boolean q.by_priority)
    ∷ [])

-- a watchdog; it is due at no tick if it is stopped
abbrev pub watchdog_data : Watchdog → Data
watchdog_data w = object_of (
    (codes "id", number_of w.id)
    ∷ (codes "due", number_or_null (option_map (λ t. t.due) w.timer))
    ∷ (codes "routine", number_of w.routine.entry)
    ∷ (codes "param", number_of w.routine.param)
    ∷ [])

-- the interrupt level: the program counter of the active routine, and the last error number
abbrev pub level_data : Option Regs → ℕ → Data
level_data level errno = object_of ((codes "pc", number_or_null (option_map (λ r. r.pc) level)) ∷ (codes "errno", number_of errno) ∷ [])

-- the objects of a table, by rising id
abbrev pub rows_data : {X : Type 0} → (ℕ → X → Data) → List (ℕ × X) → Data
rows_data f rows = list_of (λ r. f r.0 r.1) rows
