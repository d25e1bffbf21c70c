-- What a program exits with.
use Rattle.std.specs.Prelude.{◌≡◌, ◌⊎◌, ℕ}
use Rattle.std.specs.Process.{exit_status}
use Rattle.std.specs.declared.process.ExitCode.{ExitCode}

-- the exit status of a program that runs out of host memory before it begins
abbrev pub no_memory_status : ℕ
no_memory_status = 6

-- the exit status is a number that the program returns, or memory ran out before the program began
abbrev pub ExitsWith : (ℕ → Type 0) → ExitCode → Type 0
ExitsWith Returns code = Returns (exit_status code) ⊎ (exit_status code ≡ no_memory_status)
