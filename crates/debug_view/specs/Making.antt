-- Who makes the next step, and at which address.
use Rattle.std.specs.Option.{option_map}
use Rattle.board_trace.specs.Before.{at_of}
use Rattle.board_trace.specs.WindMachineMachine.{stepping}
use Rattle.board_reading.specs.WindMachineState.{State}
use Rattle.debug_view.specs.Threads.{thread_of}
use Rattle.debug_view.specs.declared.making.NextStep.{NextStep}

-- the thread that makes the next step, if one does, and the address at which it makes it: of an instruction or a call
abbrev pub next_step_of : State → NextStep
next_step_of s = record { thread = option_map thread_of (stepping s); at = at_of s }
