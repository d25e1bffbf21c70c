use Rattle.std.proofs.Common.{arith}
use Rattle.ppc_word.specs.Table.{number, form_at}
use Rattle.ppc_word.proofs.Whole.{whole-at, length-table, number-row, number-one, number-below}
use Rattle.ppc_word.proofs.Found.{meets_one}
use Rattle.ppc_word.proofs.table_law.Goals as goal

pub returns : goal.returns
returns c =
    record {
      words = λ k h. whole-at k (omega (arith, h, length-table));
      own = λ row. number-one (form_at (number row)).row row (number-row (number row) (number-below row));
      one = λ j k w a b p q. meets_one j k w (omega (arith, a, length-table)) (omega (arith, b, length-table)) p q;
    }
