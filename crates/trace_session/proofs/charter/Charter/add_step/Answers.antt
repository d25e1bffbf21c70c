use Rattle.std.proofs.Common.{◌≡◌, ◌++◌, Bor, List, ℕ, Some, ap, ap₂, subst, sym, ◌∙◌}
use Rattle.std.specs.List.{flat_map}
use Rattle.std.proofs.lemmas.List.Folds.{flat_map-map}
use Rattle.wind_session.specs.BoardPlayerSeen.{board_by}
use Rattle.board_trace.specs.Before.{before_step}
use Rattle.board_trace.specs.Steps.{happenings}
use Rattle.board_trace.specs.Views.{SnapshotState, snapshot_state}
use Rattle.board_trace.specs.declared.happening.Happening.{Happening}
use Rattle.board_trace.specs.declared.moment.BeforeStep.{BeforeStep}
use Rattle.trace_text.specs.Forms.{Gained}
use Rattle.trace_json.specs.Chrome.{AreMembers, TraceObject}
use Rattle.trace_json.proofs.Gaining.{gained_both}
use Rattle.trace_session.specs.Choice.{choice_state}
use Rattle.trace_session.specs.Chrome.{charted, going_on, level_by, level_objects, line_objects, span_objects, step_flows, step_number}
use Rattle.trace_session.specs.Counters.{CountsState, counted, counts_in, ready_in, step_counters}
use Rattle.trace_session.specs.Spans.{looked_by}
use Rattle.trace_session.specs.declared.choice.Choice.{Choice}
use Rattle.trace_session.specs.declared.numbers.QueueReader.{QueueReader}
use Rattle.trace_session.specs.declared.reader.StepReader.{StepReader}
use Rattle.trace_session.specs.Steps.{line_of}
use Rattle.trace_session.proofs.Lines.{happenings_are, lines_read}
use Rattle.trace_session.proofs.charter.Charter.add_step.Goals as goal

-- the objects of the lines, of the flows, and then of the spans
pub returns-clause-text : goal.returns-clause-text
returns-clause-text g c =
    let state = board_by (λ d. (goal.Device-dyn g (d.vtable, d.value)).kind_of d.value) (λ d. (goal.Device-dyn g (d.vtable, d.value)).words_of d.value) in
    let new = state c.args.board.now in
    let old = c.args.self.now in
    let choice = choice_state old.choice.now in
    let b = c.args.before_step.now in
    λ said s is ready replied.
    let from = ready.snapshot in
    let line = line_of b (snapshot_state c.read.new.self.before) (snapshot_state c.read.new.self.after) in
    let P : List TraceObject → Type 0 = λ ds. Gained (AreMembers ds) old.text.items c.add_lines.new.text.items in
    let F : BeforeStep → ℕ → List Happening → Type 0 = λ step time hs. Gained (AreMembers (step_flows choice step time hs old.flows)) c.add_lines.new.text.items c.add_flows.new.text.items in
    let E : BeforeStep → Type 0 = λ step. Gained (AreMembers (flat_map (span_objects choice) (looked_by choice step (going_on old.spans) new).done ++ level_objects choice old.level (level_by choice old.level new) new.time)) c.add_flows.new.text.items c.add_ended.new.self.text.items in
    let C : BeforeStep → CountsState → Type 0 = λ step counts. Gained (AreMembers (step_counters choice step counts new)) c.add_ended.new.self.text.items c.add_counters.new.self.text.items in
    let D : Bor Choice → Type 0 = λ x. Gained (AreMembers (step_counters (choice_state x.now) b (counted (Some (ready_in (snapshot_state c.add_ended.new.self.reader.before).tasks)) c.add_ended.new.self.queues.before.items) new)) c.add_ended.new.self.text.items c.add_counters.new.self.text.items in
    let counts : counted (Some (ready_in (snapshot_state c.add_ended.new.self.reader.before).tasks)) c.add_ended.new.self.queues.before.items ≡ counts_in s =
    ap₂ (λ (v : SnapshotState) queues. counted (Some (ready_in v.tasks)) queues)
    (ap (λ (r : StepReader). snapshot_state r.before) c.in_ok-add_ended.ensures.reader ∙ ap snapshot_state c.in_ok-read.ensures.before ∙ from)
    (ap (λ (r : QueueReader). r.before.items) c.in_ok-add_ended.ensures.queues ∙ ready.counts_are) in
    let list_is = c.deref.ensures.value ∙ c.in_ok-read.ensures.list in
    gained_both _ _ _ _ _
    (subst P
    (sym (flat_map-map (line_objects choice) line c.deref.result.now)
    ∙ ap (flat_map (line_objects choice)) (lines_read said s new _ _ _ _ _ _ list_is is (ap snapshot_state c.in_ok-read.ensures.before) from c.in_ok-read.ensures.after replied))
    c.in_ok-add_lines.ensures)
    (gained_both _ _ _ _ _
    (subst (λ step. F step new.time (happenings said s new)) is
    (subst (F b new.time) (happenings_are said s new _ _ _ _ (c.deref-2.ensures.value ∙ c.in_ok-read.ensures.list) is from replied)
    (subst (λ time. F b time c.deref-2.result.now) c.time.ensures c.in_ok-self.ensures.text)))
    (gained_both _ _ _ _ _ (subst E is c.in_ok-add_ended.ensures.text) (subst (λ step. C step (counts_in s)) is (subst (C b) counts (subst D c.in_ok-add_ended.ensures.choice c.in_ok-add_counters.ensures.text)))))

pub returns-clause-chart : goal.returns-clause-chart
returns-clause-chart g c =
    let state = board_by (λ d. (goal.Device-dyn g (d.vtable, d.value)).kind_of d.value) (λ d. (goal.Device-dyn g (d.vtable, d.value)).words_of d.value) in
    let new = state c.args.board.now in
    let old = c.args.self.now in
    let choice = choice_state old.choice.now in
    let later = c.add_ended.new.self in
    λ said s is ready replied.
    let from = ready.snapshot in
    c.in_ok-add_counters.ensures.chart
    ∙ ap (λ x. charted x later.level later.flows) (c.in_ok-add_ended.ensures.spans ∙ ap (λ (b : BeforeStep). looked_by choice b (going_on old.spans) new) is)
    ∙ ap (λ x. charted (looked_by choice (before_step s) (going_on old.spans) new) x later.flows) c.in_ok-add_ended.ensures.level
    ∙ ap (charted (looked_by choice (before_step s) (going_on old.spans) new) (level_by choice old.level new))
    (c.in_ok-add_ended.ensures.flows
    ∙ c.in_ok-self.ensures.number
    ∙ ap (λ hs. step_number choice c.args.before_step.now hs old.flows) (happenings_are said s new _ _ _ _ (c.deref-2.ensures.value ∙ c.in_ok-read.ensures.list) is from replied)
    ∙ ap (λ (b : BeforeStep). step_number choice b (happenings said s new) old.flows) is)
