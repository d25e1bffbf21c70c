use Rattle.std.proofs.Common.{Some, ap, ap₂, subst, ◌∙◌}
use Rattle.std.proofs.lemmas.Result.{on_ok_weaker}
use Rattle.board_trace.specs.Views.{SnapshotState}
use Rattle.wind_session.specs.BoardPlayerSeen.{board_by}
use Rattle.trace_text.specs.Forms.{Gained}
use Rattle.trace_json.specs.Chrome.{AreMembers}
use Rattle.trace_session.specs.Choice.{choice_state}
use Rattle.trace_session.specs.Counters.{CountsState, counted, ready_in, step_counters}
use Rattle.trace_session.proofs.charter.Charter.add_counters.Goals as goal

pub add_step_counters-requires-clause-after : goal.add_step_counters-requires-clause-after
add_step_counters-requires-clause-after g c =
    ap₂ (λ n queues. counted (Some n) queues)
    (c.ready_in-2.ensures ∙ ap ready_in (c.deref-3.ensures.value ∙ ap (λ (v : SnapshotState). v.tasks) c.requires.after))
    (c.deref-4.ensures.value ∙ c.in_ok-read.ensures.after)

pub returns-clause-text : goal.returns-clause-text
returns-clause-text g c =
    let state = board_by (λ d. (goal.Device-dyn g (d.vtable, d.value)).kind_of d.value) (λ d. (goal.Device-dyn g (d.vtable, d.value)).words_of d.value) in
    let C : CountsState → Type 0 = λ counts. Gained (AreMembers (step_counters (choice_state c.args.self.now.choice.now) c.args.before_step.now counts (state c.args.board.now))) c.args.self.now.text.items c.add_step_counters.new.text.items in
    on_ok_weaker c.add_step_counters.result
    (subst C (ap₂ (λ n queues. counted (Some n) queues)
    (c.ready_in.ensures ∙ ap ready_in c.deref.ensures.value) (c.deref-2.ensures.value ∙ ap (λ v. v.items) c.in_ok-read.ensures.before)))
    c.add_step_counters.ensures
