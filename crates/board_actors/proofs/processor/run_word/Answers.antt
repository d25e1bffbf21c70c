use Rattle.std.proofs.Common.{sym, ap, ◌∙◌}
use Rattle.std.specs.Option.{option_copied_mut}
use Rattle.board_actors.proofs.Executed.{ran_as}
use Rattle.board_actors.proofs.processor.run_word.Goals as goal

pub returns-in-Task-clause-ran : goal.returns-in-Task-clause-ran
returns-in-Task-clause-ran g c = ran_as _ c.requires.kern c.args.who.now _ c.in-Task.is c.args.word c.exec.result _ _ _ c.regs_of.ensures.value c.exec.ensures

pub returns-in-Some-clause-ran : goal.returns-in-Some-clause-ran
returns-in-Some-clause-ran g c =
    ran_as _ c.requires.kern c.args.who.now _ c.in-Interrupt.is c.args.word c.exec-in-Some.result _ _ _ (sym c.regs_mut.ensures.value ∙ ap option_copied_mut c.in-Some.is) c.exec-in-Some.ensures
