use Rattle.std.proofs.Common.{ap, ◌∙◌}
use Rattle.wind_session.specs.BoardPlayerSeen.{board_by}
use Rattle.trace_session.specs.Spans.{observed_in}
use Rattle.trace_session.specs.Choice.{choice_state}
use Rattle.trace_session.proofs.Picturing.{opens, on_ok}
use Rattle.trace_session.proofs.observer.Observer.open.Goals as goal

pub returns-clause-picture : goal.returns-clause-picture
returns-clause-picture g c =
    let new = board_by (λ d. (goal.Device-dyn g (d.vtable, d.value)).kind_of d.value) (λ d. (goal.Device-dyn g (d.vtable, d.value)).words_of d.value) c.args.board.now in
    on_ok c.open.result _
    (opens (choice_state c.args.self.now.choice.now) c.observe.new.spans c.new-2.result new (c.in_ok-observe.ensures ∙ ap (λ spans. observed_in spans new) c.new.ensures) c.new-2.ensures)
