use Rattle.std.proofs.Common.{◌++◌, ap, ◌∙◌, arith}
use Rattle.wind_base.specs.Texts.{hex_places}
use Rattle.wind_machine.specs.Text.{eight_digits}
use Rattle.board_actors.proofs.text.add_eight_digits.Goals as goal

pub returns : goal.returns
unfolding eight_digits
returns c = record {
  bytes = c.add_places.ensures.bytes ∙ ap (λ n. c.args.out.now.bytes ++ hex_places 8 n) c.from.ensures;
  room = omega (arith, c.add_places.ensures.room);
  space = c.add_places.ensures.space;
}
