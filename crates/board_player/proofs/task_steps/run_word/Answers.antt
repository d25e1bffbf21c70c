use Rattle.std.proofs.Common.{None, sym, ap, ◌∙◌}
use Rattle.wind_base.specs.declared.regs.Regs.{Regs}
use Rattle.live_loading.specs.KernelWorldState.{WorldState}
use Rattle.wind_machine.specs.State.{State}
use Rattle.board_player.specs.Inside.{parts_by}
use Rattle.board_player.proofs.Going.{only_stepped}
use Rattle.board_player.proofs.Stepping.{replied, word_stepped}
use Rattle.board_player.proofs.task_steps.run_word.Goals as goal

pub returns-clause-step : goal.returns-clause-step
returns-clause-step g c =
    c.end.ensures.step
    ∙ word_stepped (parts_by (λ d. (goal.Device-dyn g (d.vtable, d.value)).kind_of d.value) (λ d. (goal.Device-dyn g (d.vtable, d.value)).words_of d.value) c.args.parts.now)
    c.args.who c.args.at _ _ _ c.start_step.ensures.world c.execute-kind.ensures.part (c.requires.counter ∙ ap (λ (r : Regs). r.pc) (sym c.start_step.ensures.ready.regs)) c.requires.gate

pub returns-clause-only : goal.returns-clause-only
returns-clause-only g c done =
    only_stepped _ _ _ _ c.args.who (ap (λ (w : WorldState). w.kern) c.start_step.ensures.world) (c.execute-kind.ensures.registers done) (ap (λ (s : State). s.world.kern) c.end.ensures.step)

pub returns-clause-objects : goal.returns-clause-objects
returns-clause-objects g c done =
    ap (λ (s : State). s.world.objects) c.end.ensures.step ∙ ap (λ (w : WorldState). w.objects) (c.execute-kind.ensures.registers done).world ∙ ap (λ (w : WorldState). w.objects) c.start_step.ensures.world

pub returns-clause-watch : goal.returns-clause-watch
returns-clause-watch g c done =
    ap (λ (s : State). s.world.watch) c.end.ensures.step ∙ ap (λ (w : WorldState). w.watch) (c.execute-kind.ensures.registers done).world ∙ ap (λ (w : WorldState). w.watch) c.start_step.ensures.world

pub returns-clause-reply : goal.returns-clause-reply
returns-clause-reply g c =
    replied (parts_by (λ d. (goal.Device-dyn g (d.vtable, d.value)).kind_of d.value) (λ d. (goal.Device-dyn g (d.vtable, d.value)).words_of d.value) c.args.parts.now)
    c.args.who c.args.at None _ _ c.start_step.ensures.world (sym c.execute-kind.ensures.reply) (c.requires.counter ∙ ap (λ (r : Regs). r.pc) (sym c.start_step.ensures.ready.regs)) c.requires.gate
