-- The reply with the registers of a thread.
use Rattle.std.specs.Prelude.{ℕ, ◌-◌, ◌^◌, min, List, Option}
use Rattle.std.specs.Option.{option_map_or}
use Rattle.wind_base.specs.declared.regs.Regs.{Regs}
use Rattle.board_reading.specs.WindMachineState.{State}
use Rattle.debug_texts.specs.Replies.{refused}
use Rattle.debug_texts.specs.Target.{registers_text}
use Rattle.debug_view.specs.Threads.{regs_told}
use Rattle.debug_view.specs.declared.ended.Ended.{Ended}

-- board time as it is told: at most 2^64 - 1
abbrev pub time_told : ℕ → ℕ
time_told time = min time (2 ^ 64 - 1)

-- registers, with the numbers of the run
abbrev pub values_of : State → Regs → List ℕ
values_of s regs = registers_text regs s.steps (time_told s.time) s.world.kern.tick

-- the registers that are told of a thread, or an error if it isn't told
abbrev pub registers_reply : State → Option Ended → ℕ → List ℕ
registers_reply s ended thread = option_map_or (values_of s) (regs_told s.world ended thread) refused
