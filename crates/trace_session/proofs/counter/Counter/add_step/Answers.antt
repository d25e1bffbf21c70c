use Rattle.std.proofs.Common.{◌∙◌, ap}
use Rattle.wind_session.specs.BoardPlayerSeen.{board_by}
use Rattle.board_trace.specs.Runs.{with_lines}
use Rattle.board_trace.specs.Views.{snapshot_state}
use Rattle.trace_summary.specs.Summaries.{tally_of, tally_state}
use Rattle.trace_session.proofs.Lines.{lines_read}
use Rattle.trace_session.proofs.counter.Counter.add_step.Goals as goal

pub returns-clause-tally : goal.returns-clause-tally
returns-clause-tally g c =
    let state = board_by (λ d. (goal.Device-dyn g (d.vtable, d.value)).kind_of d.value) (λ d. (goal.Device-dyn g (d.vtable, d.value)).words_of d.value) in
    λ said s views made is from replied old.
    ap tally_state c.in_ok-look.ensures.tally
    ∙ c.in_ok-add_lines.ensures views made old
    ∙ ap (λ ls. tally_of views (with_lines ls made)) (lines_read said s (state c.args.board.now) _ _ _ _ _ _ (c.deref.ensures.value ∙ c.in_ok-read.ensures.list) is (ap snapshot_state c.in_ok-read.ensures.before) from c.in_ok-read.ensures.after replied)
