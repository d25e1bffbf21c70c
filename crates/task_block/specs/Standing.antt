-- The state of a task.
use Rattle.std.specs.Prelude.{ℕ, List, [], ◌++◌, Bool, true, false, not, ◌&&◌, is_none, is_some, codes, if◌then◌else◌}
use Rattle.task_block.specs.declared.task.Task.{Task}

-- it waits for nothing, isn't delayed, and isn't suspended
abbrev pub is_ready : Task → Bool
is_ready t = is_none t.wait && (is_none t.wake && not t.suspended)

-- the mark of a suspended task, after the word of a task that waits or is delayed
abbrev pub suspended_mark : Bool → List ℕ
suspended_mark suspended = if suspended then codes "+S" else []

-- the mark of a task that waits with a timeout
abbrev pub timed_mark : Bool → List ℕ
timed_mark wakes = if wakes then codes "+T" else []

-- the word, by whether the task waits, has a tick at which it wakes, and is suspended; the words are this project's own
abbrev pub word_of : Bool → Bool → Bool → List ℕ
word_of true wakes suspended = codes "PEND" ++ timed_mark wakes ++ suspended_mark suspended
word_of false true suspended = codes "DELAY" ++ suspended_mark suspended
word_of false false true = codes "SUSPEND"
word_of false false false = codes "READY"

-- the word of a task
abbrev pub status_word : Task → List ℕ
status_word t = word_of (is_some t.wait) (is_some t.wake) t.suspended
