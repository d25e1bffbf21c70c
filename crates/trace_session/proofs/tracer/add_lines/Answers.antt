use Rattle.std.proofs.Common.{arith}
use Rattle.std.proofs.lemmas.List.Sums.{sum_by_more}
use Rattle.board_trace.specs.Views.{snapshot_state}
use Rattle.trace_text.specs.Pages.{count_of}
use Rattle.trace_session.specs.Choice.{choice_state}
use Rattle.trace_session.proofs.Lines.{added}
use Rattle.trace_session.proofs.tracer.add_lines.Goals as goal

-- one more happening has its line
pub loop-happening-preserved : goal.loop-happening-preserved
loop-happening-preserved g c =
    let hs = c.args.list.now in
    let i = c.loop-happening.happening-index in
    let h = c.happening-item.result in
    let more = sum_by_more count_of hs i h c.loop-happening-test.true in
    record {
      lines = λ given made ends.
          added g.L.LineForm.is_line (choice_state c.args.choice.now) c.args.before_step.now (snapshot_state c.args.before.now) (snapshot_state c.args.after.now) hs i h given made c.add_chosen.new.page _ c.loop-happening-test.true c.happening-item.is c.subject_name-name.ensures.value
          (c.in_ok-add_chosen.ensures.lines given _ (c.loop-happening.invariant.lines given made ends));
      waits = omega (arith, c.in_ok-add_chosen.ensures.waits, c.loop-happening.invariant.waits, rw (← c.happening-item.is) at more);
    }
