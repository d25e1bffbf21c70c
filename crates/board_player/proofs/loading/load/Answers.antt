use Rattle.std.proofs.Common.{sym, ap, ◌∙◌, subst}
use Rattle.wind_machine.specs.Machine.{settled_state}
use Rattle.board_player.specs.Settling.{CanSettle}
use Rattle.board_player.proofs.loading.load.Goals as goal

pub settle-requires-clause-left : goal.settle-requires-clause-left
settle-requires-clause-left g c = subst CanSettle (sym c.in_ok-reply.ensures.ok) c.requires.left

pub returns-clause-ok : goal.returns-clause-ok
returns-clause-ok g c = c.settle.ensures.step ∙ ap settled_state c.in_ok-reply.ensures.ok
