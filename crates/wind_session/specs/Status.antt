-- The number with which the program ends.
use Rattle.std.specs.Prelude.{ℕ}
use Rattle.wind_session.specs.declared.ending.Status.{Status}
use Rattle.wind_session.specs.declared.ending.Status.TheVariants as status

abbrev pub status_number : Status → ℕ
status_number status.Quiet = 0
status_number status.Usage = 1
status_number (status.Absent which) = 2
status_number status.Limit = 3
status_number status.ReadFault = 4
status_number status.WriteFault = 5
status_number status.NoMemory = 6
status_number (status.BadTicks line) = 7
status_number (status.TooLong which) = 8
