use Rattle.std.proofs.Common.{◌≡◌, Bor, ◌+◌, ◌∙◌, ap, arith, subst, sym}
use Rattle.wind_session.specs.BoardPlayerSeen.{board_by}
use Rattle.board_trace.specs.declared.moment.BeforeStep.{BeforeStep}
use Rattle.trace_session.specs.Choice.{choice_state}
use Rattle.trace_session.specs.Shown.{Pictures}
use Rattle.trace_session.specs.Spans.{looked_by, part_after}
use Rattle.trace_session.specs.declared.choice.Choice.{Choice}
use Rattle.trace_session.proofs.Telling.{part_now}
use Rattle.trace_session.proofs.timeline.ObserverTeller.tell.Goals as goal

-- the step has a number
pub look-requires : goal.look-requires
look-requires g c =
    let is : c.args.before.now.step ≡ c.requires.told.0.steps + 1 = ap (λ (b : BeforeStep). b.step) c.requires.told.1 in
    omega (arith, is, c.requires.told.2, c.requires.few)

pub returns-clause-tells : goal.returns-clause-tells
returns-clause-tells g c = λ done first said next s u i is ready on drawn.
    let state = board_by (λ d. (goal.Device-dyn g (d.vtable, d.value)).kind_of d.value) (λ d. (goal.Device-dyn g (d.vtable, d.value)).words_of d.value) in
    let new = state c.args.board.now in
    let choice = choice_state c.args.self.now.choice.now in
    let spans = part_after choice said s i in
    let picture = Pictures choice c.look.new.self.spans c.look.new.self.areas in
    let now : picture (part_after choice next s (i + 1)) =
    subst picture (ap (λ (b : BeforeStep). looked_by choice b spans new) is ∙ part_now said next s u new _ i on choice) (c.in_ok-look.ensures.picture spans drawn) in
    subst (λ (x : Bor Choice). Pictures (choice_state x.now) c.look.new.self.spans c.look.new.self.areas (part_after (choice_state x.now) next s (i + 1))) (sym c.in_ok-look.ensures.choice) now
