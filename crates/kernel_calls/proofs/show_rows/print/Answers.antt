use Rattle.kernel_calls.proofs.Shows.{prints_space}
use Rattle.kernel_calls.proofs.show_rows.print.Goals as goal

pub returns-in-Some-clause-space : goal.returns-in-Some-clause-space
returns-in-Some-clause-space c = prints_space _ _ c.args.out.now c.printf_text.new.out c.requires c.printf_text.ensures.text
