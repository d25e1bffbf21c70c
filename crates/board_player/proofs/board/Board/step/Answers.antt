use Rattle.wind_machine.specs.LiveLoadingSaid.{Missing}
use Rattle.board_player.proofs.Answering.{replies_on, steps_on}
use Rattle.board_player.proofs.Keeping.{kept}
use Rattle.board_player.proofs.Settled.{leaves}
use Rattle.board_player.proofs.board.Board.step.Goals as goal

pub invariant_of-self-2-clause-good : goal.invariant_of-self-2-clause-good
invariant_of-self-2-clause-good g c = kept c.step_law.ensures.step c.make.result _ _ c.in-Ok.next c.is_early.ensures c.args.self.now.good c.in-Ok.ensures.next c.make.ensures.stepped c.make.ensures.unchanged

pub returns-clause-stepped : goal.returns-clause-stepped
returns-clause-stepped g c = λ e. steps_on _ _ c.in-Ok.next c.in-Ok.ensures.next (c.make.ensures.stepped e)

pub returns-clause-counted : goal.returns-clause-counted
returns-clause-counted g c = λ e. c.step_law.ensures.count Missing _ _ (steps_on _ _ c.in-Ok.next c.in-Ok.ensures.next (c.make.ensures.stepped e) Missing)

pub make-requires-clause-left : goal.make-requires-clause-left
make-requires-clause-left g c = leaves c.step_law.ensures.effect c.step_law.ensures.count _ c.is_early.ensures c.args.self.now.good c.requires c.in-Ok.next c.in-Ok.ensures.next

pub returns-clause-slots : goal.returns-clause-slots
returns-clause-slots g c = λ e i. c.slot_law.ensures.step Missing _ _ i c.facts.ensures (steps_on _ _ c.in-Ok.next c.in-Ok.ensures.next (c.make.ensures.stepped e) Missing)

pub returns-clause-removal : goal.returns-clause-removal
returns-clause-removal g c = λ e who i r. c.slot_law.ensures.removal Missing _ _ who i r (steps_on _ _ c.in-Ok.next c.in-Ok.ensures.next (c.make.ensures.stepped e) Missing)

pub returns-clause-reply : goal.returns-clause-reply
returns-clause-reply g c = λ e. replies_on _ _ c.in-Ok.next c.in-Ok.ensures.next (c.make.ensures.reply e)

pub make-requires-clause-unreplied : goal.make-requires-clause-unreplied
make-requires-clause-unreplied g c = λ other. c.next.ensures.unreplied (λ e. other (cc))

pub returns-clause-safety : goal.returns-clause-safety
returns-clause-safety g c = λ e. c.safety_law.ensures Missing _ _ c.args.self.now.good (steps_on _ _ c.in-Ok.next c.in-Ok.ensures.next (c.make.ensures.stepped e) Missing)
