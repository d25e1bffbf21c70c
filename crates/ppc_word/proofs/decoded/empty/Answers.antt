use Rattle.std.proofs.Common.{refl}
use Rattle.ppc_word.specs.Table.{table}
use Rattle.ppc_word.specs.Rows.{is_word_of, first_row, row_of}
use Rattle.ppc_word.specs.Ops.{fits}
use Rattle.ppc_word.proofs.decoded.empty.Goals as goal

pub with_op-requires-clause-row : goal.with_op-requires-clause-row
unfolding row_of first_row is_word_of table
with_op-requires-clause-row c = refl

pub with_op-requires-clause-fit : goal.with_op-requires-clause-fit
unfolding fits
with_op-requires-clause-fit c = refl
