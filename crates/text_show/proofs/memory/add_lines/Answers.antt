use Rattle.std.proofs.Common.{◌≡◌, ◌++◌, ◌+◌, ◌*◌, ◌<◌, take, drop, arith, ap, sym, ◌∙◌}
use Rattle.board_mem.specs.Memory.{bytes_at}
use Rattle.text_show.specs.Dump.{dump_line, lines_of}
use Rattle.text_show.proofs.Lines.{lines_more, line_is, range_length}
use Rattle.text_show.proofs.memory.add_lines.Goals as goal

pub loop-number-preserved : goal.loop-number-preserved
loop-number-preserved c =
    let ram = c.args.ram.now.bytes in
    let bytes = bytes_at ram c.args.at c.args.n in
    let number = c.loop-number.number in
    let page = c.loop-number.page.items in
    let size = range_length ram c.args.at c.args.n c.requires.ram in
    let below : number < lines_of bytes = omega (arith, size, c.loop-number-test.true, c.div_ceil-number-end.ensures) in
    let line : bytes_at ram (c.args.at + number * 16) c.min.result ≡ take 16 (drop (number * 16) bytes) =
    ap (bytes_at ram (c.args.at + number * 16)) c.min.ensures ∙ sym (line_is ram c.args.at c.args.n (number * 16) (omega (arith, size, below))) in
    lines_more c.args.width c.args.at bytes (lines_of bytes) number _ page c.add_line_at.new.page.items below c.loop-number.invariant
    (c.in_ok-add_line_at.ensures ∙ ap (λ l. page ++ dump_line c.args.width (c.args.at + number * 16) l) line)
