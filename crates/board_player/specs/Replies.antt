-- The reply of the call that was a board's last step.
use Rattle.std.specs.Prelude.{Option, None, Some}
use Rattle.live_loading.specs.KernelWorldReply.{Reply}
use Rattle.board_player.specs.declared.order.Known.{Known}
use Rattle.board_player.specs.declared.order.Known.TheVariants.{Nothing, Called, Runner, Routine}

-- what is known after a call has its reply; any other step has none
abbrev pub reply_known : Known → Option Reply
reply_known Nothing = None
reply_known (Called reply) = Some reply
reply_known (Runner r) = None
reply_known Routine = None
