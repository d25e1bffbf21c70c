use Rattle.std.proofs.Common.{Some, sym, ap, ◌∙◌}
use Rattle.wind_base.specs.declared.regs.Regs.{Regs}
use Rattle.board_player.specs.Inside.{parts_by}
use Rattle.board_player.proofs.Asked.{unasked_call}
use Rattle.board_player.proofs.Stepping.{gate_stepped, replied}
use Rattle.board_player.proofs.task_steps.run_sure_gate.Goals as goal

pub at_gate-requires-clause-unasked : goal.at_gate-requires-clause-unasked
at_gate-requires-clause-unasked g c =
    unasked_call (parts_by (λ d. (goal.Device-dyn g (d.vtable, d.value)).kind_of d.value) (λ d. (goal.Device-dyn g (d.vtable, d.value)).words_of d.value) c.args.parts.now)
    c.args.who c.args.at c.args.gate _ c.start_step.ensures.world c.requires.stands.counter c.requires.stands.there c.requires.stands.asks c.requires.stands.phase

pub returns-clause-step : goal.returns-clause-step
returns-clause-step g c =
    c.end.ensures.step
    ∙ gate_stepped (parts_by (λ d. (goal.Device-dyn g (d.vtable, d.value)).kind_of d.value) (λ d. (goal.Device-dyn g (d.vtable, d.value)).words_of d.value) c.args.parts.now)
    c.args.who c.args.at c.args.gate _ _ _ c.start_step.ensures.world c.in-Ok.ensures.ok (c.requires.stands.counter ∙ ap (λ (r : Regs). r.pc) (sym c.start_step.ensures.ready.regs)) c.requires.stands.there

pub at_gate-requires-clause-phase : goal.at_gate-requires-clause-phase
at_gate-requires-clause-phase g c = c.requires.stands.phase

pub returns-clause-reply : goal.returns-clause-reply
returns-clause-reply g c =
    replied (parts_by (λ d. (goal.Device-dyn g (d.vtable, d.value)).kind_of d.value) (λ d. (goal.Device-dyn g (d.vtable, d.value)).words_of d.value) c.args.parts.now)
    c.args.who c.args.at (Some c.args.gate) _ c.in-Ok.reply c.start_step.ensures.world c.in-Ok.ensures.reply (c.requires.stands.counter ∙ ap (λ (r : Regs). r.pc) (sym c.start_step.ensures.ready.regs)) c.requires.stands.there
