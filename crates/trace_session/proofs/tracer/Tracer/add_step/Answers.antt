use Rattle.std.proofs.Common.{◌≡◌, ◌≤◌, Option, List, ap, sym, subst, ◌∙◌, arith}
use Rattle.std.specs.List.{filter, sum_by}
use Rattle.kernel_world.specs.declared.reply.Reply.{Reply}
use Rattle.wind_machine.specs.State.{State}
use Rattle.wind_session.specs.BoardPlayerSeen.{board_by}
use Rattle.board_trace.specs.Runs.{Line, with_lines}
use Rattle.board_trace.specs.Snapshots.{after_step, snapshot_of}
use Rattle.board_trace.specs.Views.{SnapshotState, snapshot_state}
use Rattle.board_trace.specs.declared.moment.BeforeStep.{BeforeStep}
use Rattle.board_trace.specs.declared.happening.Happening.{Happening}
use Rattle.trace_text.specs.Pages.{Ends, count_of}
use Rattle.trace_session.specs.Choice.{choice_state, is_chosen}
use Rattle.trace_session.specs.Steps.{happenings_read}
use Rattle.trace_session.proofs.Counts.{at_most_one}
use Rattle.trace_session.proofs.Lines.{lines_read}
use Rattle.trace_session.proofs.tracer.Tracer.add_step.Goals as goal

-- a step has at most one instruction
few : (hs gs : List Happening) → hs ≡ gs → sum_by count_of gs ≤ 1 → sum_by count_of hs ≤ 1
few hs gs e h = let P : List Happening → Type 0 = λ xs. sum_by count_of xs ≤ 1 in subst P (sym e) h

one_at_most : (b : BeforeStep) (before : SnapshotState) (reply : Option Reply) (t : State) → sum_by count_of (happenings_read b before reply t) ≤ 1
one_at_most b before reply t = at_most_one b before (snapshot_of t.world) (after_step b reply t) t.world.output

pub add_lines-requires : goal.add_lines-requires
add_lines-requires g c =
    let state = board_by (λ d. (goal.Device-dyn g (d.vtable, d.value)).kind_of d.value) (λ d. (goal.Device-dyn g (d.vtable, d.value)).words_of d.value) in
    let most : sum_by count_of c.deref.result.now ≤ 1 = few _ _ (c.deref.ensures.value ∙ c.in_ok-read.ensures.list) (one_at_most c.args.before_step.now (snapshot_state c.args.self.now.reader.before) _ (state c.args.board.now)) in
    omega (arith, most, c.requires)

pub returns-clause-lines : goal.returns-clause-lines
returns-clause-lines g c =
    let state = board_by (λ d. (goal.Device-dyn g (d.vtable, d.value)).kind_of d.value) (λ d. (goal.Device-dyn g (d.vtable, d.value)).words_of d.value) in
    λ said s given made is from replied ends.
    let P : List Line → Type 0 = λ ls. Ends g.L.LineForm.is_line given c.add_lines.new.page (with_lines (filter (is_chosen (choice_state c.args.self.now.choice.now)) ls) made) in
    subst P
    (lines_read said s (state c.args.board.now) _ _ _ _ _ _ (c.deref.ensures.value ∙ c.in_ok-read.ensures.list) is (ap snapshot_state c.in_ok-read.ensures.before) from c.in_ok-read.ensures.after replied)
    (c.in_ok-add_lines.ensures.lines given made ends)

pub returns-clause-waits : goal.returns-clause-waits
returns-clause-waits g c =
    let state = board_by (λ d. (goal.Device-dyn g (d.vtable, d.value)).kind_of d.value) (λ d. (goal.Device-dyn g (d.vtable, d.value)).words_of d.value) in
    let most : sum_by count_of c.deref.result.now ≤ 1 = few _ _ (c.deref.ensures.value ∙ c.in_ok-read.ensures.list) (one_at_most c.args.before_step.now (snapshot_state c.args.self.now.reader.before) _ (state c.args.board.now)) in
    omega (arith, most, c.in_ok-add_lines.ensures.waits)
