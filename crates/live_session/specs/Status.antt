-- The number with which the program ends.
use Rattle.std.specs.Prelude.{ℕ}
use Rattle.live_session.specs.declared.status.Status.{Status}
use Rattle.live_session.specs.declared.status.Status.TheVariants as status

-- those of windplay, and 9 for a record that was not written
abbrev pub status_number : Status → ℕ
status_number status.Ended = 0
status_number status.Usage = 1
status_number status.ReadFault = 4
status_number status.WriteFault = 5
status_number status.NoMemory = 6
status_number status.Unrecorded = 9
