use Rattle.std.specs.Prelude.{false, map}
use Rattle.std.specs.Fmt.{digits}
use Rattle.text_show.specs.Columns.{left_in, right_in, row_rest}
use Rattle.text_show.specs.Modules.{module_row, segment_cell}
use Rattle.text_show.proofs.Cells.{two_and_rest}
use Rattle.text_show.proofs.modules.add_module.Goals as goal

pub returns : goal.returns
unfolding module_row
returns c =
    let m = c.args.loaded.now in
    rw (c.in_ok-add_addresses.ensures, c.in_ok-add_next.ensures, c.in_ok-add_cell.ensures, c.as_slice.ensures.value, c.numeral-number.ensures, c.get.ensures.same, c.bytes.ensures.value)
    (two_and_rest c.args.page.now.items (left_in 24 m.name) (right_in 8 (digits 16 false c.args.id)) (row_rest (map segment_cell m.segments)))
