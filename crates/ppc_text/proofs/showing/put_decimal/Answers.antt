use Rattle.std.proofs.Common.{◌≡◌, ◌++◌, length, ap, ◌∙◌, arith}
use Rattle.std.specs.Fmt.{decimal}
use Rattle.std.proofs.lemmas.Fmt.{length-decimal-le}
use Rattle.ppc_text.proofs.showing.put_decimal.Goals as goal

pub add-requires : goal.add-requires
add-requires c =
    let e : c.as_bytes.result.now ≡ decimal c.args.number = c.as_bytes.ensures.value ∙ c.format.ensures.text in
    let short = length-decimal-le 8 c.args.number (omega arith) c.requires.small (omega arith) in
    omega (arith, ap length e, short, c.requires.room)

pub returns : goal.returns
returns c =
    let e : c.as_bytes.result.now ≡ decimal c.args.number = c.as_bytes.ensures.value ∙ c.format.ensures.text in
    let short = length-decimal-le 8 c.args.number (omega arith) c.requires.small (omega arith) in
    record {
      bytes = c.add.ensures.bytes ∙ ap (λ t. c.args.out.now.bytes ++ t) e;
      room = omega (arith, ap length e, short, c.add.ensures.room);
      space = c.add.ensures.space;
    }
