-- The reply of a step that was a kernel call.
use Rattle.std.specs.Prelude.{Option, None}
use Rattle.live_loading.specs.KernelWorldReply.{Reply}
use Rattle.board_actors.specs.declared.step_kind.StepKind.{StepKind}
use Rattle.board_actors.specs.declared.step_kind.StepKind.TheVariants as kinds

-- an instruction has none
abbrev pub reply_of : StepKind → Option Reply
reply_of kinds.Instruction = None
reply_of (kinds.Other reply) = reply
