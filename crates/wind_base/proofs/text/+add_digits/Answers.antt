use Rattle.std.proofs.Common.{append_assoc, arith, ◌∙◌}
use Rattle.wind_base.proofs.Hex.{hex_last, hex_more}
use Rattle.wind_base.proofs.text.+add_digits.Goals as goal

pub returns-then-n-lt16 : goal.returns-then-n-lt16
returns-then-n-lt16 t c = record {
  bytes = rw (c.add.ensures.bytes, c.glyph.ensures, hex_last c.args.places c.args.n c.requires.some c.if-n-lt16.true);
  room = omega (arith, c.add.ensures.room, c.requires.some);
  space = c.add.ensures.space;
}

pub returns-else-n-lt16 : goal.returns-else-n-lt16
returns-else-n-lt16 t c = record {
  bytes = rw (c.add-else-n-lt16.ensures.bytes, c.add_digits.ensures.bytes, c.glyph-else-n-lt16.ensures, hex_more c.args.places c.args.n c.requires.some c.if-n-lt16.false) (simp append_assoc);
  room = omega (arith, c.add-else-n-lt16.ensures.room, c.add_digits.ensures.room, c.requires.some);
  space = c.add-else-n-lt16.ensures.space ∙ c.add_digits.ensures.space;
}
