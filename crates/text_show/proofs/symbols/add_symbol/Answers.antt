use Rattle.wind_base.specs.Texts.{hex_places}
use Rattle.text_show.specs.Columns.{left_in}
use Rattle.text_show.specs.Symbols.{symbol_row, kind_word}
use Rattle.text_show.proofs.Cells.{value_row}
use Rattle.text_show.proofs.symbols.add_symbol.Goals as goal

pub returns : goal.returns
unfolding symbol_row
returns c =
    let s = c.args.symbol.now in
    rw (c.in_ok-add-5.ensures, c.in_ok-add-4.ensures, c.in_ok-add-3.ensures, c.in_ok-add-2.ensures, c.in_ok-add.ensures, c.in_ok-add_cell.ensures, c.as_slice.ensures.value, c.hex_digits.ensures, c.kind_word.ensures, c.bytes.ensures.value)
    (value_row c.args.page.now.items (left_in 25 s.name) (hex_places 8 s.value) (kind_word s.kind))
