use Rattle.std.proofs.Common.{Some, ap, ◌∙◌}
use Rattle.trace_summary.proofs.Depth.{is_shallow}
use Rattle.trace_summary.proofs.json.summary_text.Goals as goal

pub returns : goal.returns
returns c = record {
  json = _;
  text_is = c.in_ok-push.ensures.items;
  reads_back = c.in_ok-text.ensures.reads_back (is_shallow _ _ c.in_ok-summary_value.ensures) ∙ ap Some c.in_ok-summary_value.ensures;
}
