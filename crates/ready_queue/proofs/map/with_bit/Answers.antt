use Rattle.std.proofs.Common.{ap, ◌∙◌, sym, cond}
use Rattle.std.specs.Int.{w32}
use Rattle.std.proofs.lemmas.Nat.Bits.{bit_at_set_same, bit_at_set_other, bit_at_clear_same, bit_at_clear_other}
use Rattle.ready_queue.proofs.map.with_bit.Goals as goal

pub returns-then-on : goal.returns-then-on
returns-then-on c = record {
  same = bit_at_set_same w32 c.args.word c.args.bit c.requires ∙ sym (ap (λ b. cond b 1 0) c.if-on.true);
  others = λ other low ne. bit_at_set_other w32 c.args.word c.args.bit c.requires other ne;
}

pub returns-else-on : goal.returns-else-on
returns-else-on c = record {
  same = bit_at_clear_same w32 c.args.word c.args.bit c.requires ∙ sym (ap (λ b. cond b 1 0) c.if-on.false);
  others = λ other low ne. bit_at_clear_other w32 c.args.word c.args.bit c.requires other low ne;
}
