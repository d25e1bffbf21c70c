use Rattle.std.proofs.Common.{sym, ap, ◌∙◌}
use Rattle.std.specs.Option.{option_copied_mut}
use Rattle.board_actors.proofs.Bursting.{ran_many}
use Rattle.board_actors.proofs.instructions.execute_many.Goals as goal

pub returns-in-Task-clause-ran : goal.returns-in-Task-clause-ran
returns-in-Task-clause-ran g c = ran_many _ c.args.who.now _ c.in-Task.is c.run_words.result _ _ _ c.regs_of.ensures.value (c.run_words.ensures.ran _ c.requires.ram)

pub returns-in-Some-clause-ran : goal.returns-in-Some-clause-ran
returns-in-Some-clause-ran g c =
    ran_many _ c.args.who.now _ c.in-Interrupt.is c.run_words-in-Some.result _ _ _ (sym c.regs_mut.ensures.value ∙ ap option_copied_mut c.in-Some.is) (c.run_words-in-Some.ensures.ran _ c.requires.ram)
