use Rattle.std.proofs.Common.{ℕ, List, subst}
use Rattle.board_trace.specs.Views.{snapshot_state}
use Rattle.board_trace.specs.declared.happening.Happening.{Happening}
use Rattle.trace_text.specs.Forms.{Gained}
use Rattle.trace_json.specs.Chrome.{AreMembers}
use Rattle.trace_json.proofs.Gaining.{gained_more, gained_none}
use Rattle.trace_session.specs.Choice.{choice_state}
use Rattle.trace_session.specs.Chrome.{line_objects}
use Rattle.trace_session.specs.Steps.{line_of}
use Rattle.trace_session.proofs.charter.add_lines.Goals as goal

pub loop-happening-init : goal.loop-happening-init
loop-happening-init c = gained_none _

-- one more has its objects
pub loop-happening-preserved : goal.loop-happening-preserved
loop-happening-preserved c =
    let b = c.args.before_step.now in
    let h = c.happening-item.result in
    let choice = choice_state c.args.choice.now in
    let line = line_of b (snapshot_state c.args.before.now) (snapshot_state c.args.after.now) in
    let P : List ℕ → Type 0 = λ n. Gained (AreMembers (line_objects choice (record { time = b.time; step = b.step; name = n; what = h }))) c.loop-happening.text.items c.add_line.new.text.items in
    gained_more (λ (g : Happening). line_objects choice (line g)) c.args.list.now c.loop-happening.happening-index h _ _ _ c.loop-happening-test.true c.happening-item.is c.loop-happening.invariant
    (subst P c.subject_name-name.ensures.value c.in_ok-add_line.ensures)
