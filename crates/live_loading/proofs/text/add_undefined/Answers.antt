use Rattle.std.proofs.Common.{◌++◌, ◌+◌, drop, length, sym, ap, ◌∙◌, append_assoc, arith}
use Rattle.std.proofs.lemmas.List.{length-append}
use Rattle.live_loading.specs.Texts.{undefined_line, undefined_text}
use Rattle.live_loading.proofs.Lines.{next_name}
use Rattle.live_loading.proofs.text.add_undefined.Goals as goal

pub loop-name-preserved : goal.loop-name-preserved
loop-name-preserved c =
    let i = c.loop-name.name-index in
    let name = c.name-item.result in
    let rest = undefined_text (drop (i + 1) c.args.names.now) in
    let next = next_name c.args.names.now i name c.loop-name-test.true c.name-item.is in
    let added = c.add_undefined_line.ensures in
    record {
      text =
          ap (λ b. b ++ rest) added.bytes
          ∙ append_assoc c.loop-name.out.bytes (undefined_line name) rest
          ∙ ap (λ b. c.loop-name.out.bytes ++ b) (sym next)
          ∙ c.loop-name.invariant.text;
      room = omega (arith, added.room, c.loop-name.invariant.room, ap length next, length-append (undefined_line name) rest);
      space = omega (arith, added.space, c.loop-name.invariant.space);
    }
