use Rattle.std.proofs.Common.{◌≡◌, drop}
use Rattle.board_trace.specs.Messages.{served_in}
use Rattle.board_trace.proofs.messages.served_in.Given as goal

-- no change so far ends a wait there
abbrev pub invariant-loop-change : goal.invariant-loop-change
invariant-loop-change l = served_in (drop l.change-index l.changes) l.side l.queue ≡ served_in l.changes l.side l.queue
