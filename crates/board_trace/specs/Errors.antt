-- The error with a number.
use Rattle.std.specs.Prelude.{ℕ, ◌==◌, Option, find}
use Rattle.wind_base.specs.Errno.{errno_number}
use Rattle.wind_base.specs.declared.errno.Errno.{Errno}
use Rattle.board_trace.specs.declared.errors.TheConstants.{ERRORS}

-- the error of the table with this number
abbrev pub errno_named : ℕ → Option Errno
errno_named number = find (λ e. errno_number e == number) ERRORS
