use Rattle.std.proofs.Common.{Some, ap, ◌∙◌}
use Rattle.trace_state.proofs.Depth.{is_shallow}
use Rattle.trace_state.proofs.board.state_text.Goals as goal

pub returns : goal.returns
returns g c = record {
  json = _;
  text_is = c.in_ok-push.ensures.items;
  reads_back = c.in_ok-text.ensures.reads_back (is_shallow _ _ c.in_ok-board_value.ensures) ∙ ap Some c.in_ok-board_value.ensures;
}
