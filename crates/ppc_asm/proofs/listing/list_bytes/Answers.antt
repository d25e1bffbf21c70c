use Rattle.std.proofs.Common.{◌≡◌, ◌+◌, ◌++◌, length, drop, append_assoc, refl, ap, ◌∙◌, arith}
use Rattle.wind_base.specs.OutBuf.{Output}
use Rattle.wind_outside.specs.declared.sink.Put.TheVariants.{Done, Failed}
use Rattle.program_main.specs.Messages.{PutsText}
use Rattle.ppc_asm.specs.Listing.{line_text, lines_from}
use Rattle.program_main.proofs.Putting.{puts_both, puts_cut, puts_as}
use Rattle.ppc_asm.proofs.Listed.{line_next}
use Rattle.ppc_asm.proofs.listing.list_bytes.Goals as goal

pub returns-in-Failed-clause-put : goal.returns-in-Failed-clause-put
returns-in-Failed-clause-put g c =
    let k = c.loop-left in
    let t = k.invariant.listed in
    let bs = k.left.now in
    let line = c.bytes.result.now in
    let rest = lines_from (k.offset + 4) (drop 4 bs) in
    let shown : line ≡ line_text k.offset c.first_word.result = c.bytes.ensures ∙ c.put_line.ensures.bytes ∙ ap (λ (o : Output). o.bytes ++ line_text k.offset c.first_word.result) c.clear.ensures in
    let next : line ++ rest ≡ lines_from k.offset bs = line_next k.offset bs line (drop 4 bs) c.first_word.result (omega (arith, c.loop-left-test.true)) shown c.first_word.ensures refl in
    let put : PutsText line Failed (g.O.Sink.bytes k.out) (g.O.Sink.bytes c.put.new.self) (g.O.Sink.faults k.out) (g.O.Sink.faults c.put.new.self) =
    record { done = c.in-Failed.ensures.done; part = c.in-Failed.ensures.part; failed = c.in-Failed.ensures.failed; never_falls = c.in-Failed.ensures.never_falls } in
    puts_as _ _ _ _ ((t.0 ++ line) ++ rest) (lines_from 0 c.args.bytes.now) Failed (append_assoc t.0 line rest ∙ ap (λ x. t.0 ++ x) next ∙ t.2)
    (puts_cut _ _ _ _ (t.0 ++ line) rest (puts_both _ _ _ _ _ _ t.0 line Failed t.1 put))

pub loop-left-preserved : goal.loop-left-preserved
loop-left-preserved g c =
    let k = c.loop-left in
    let t = k.invariant.listed in
    let bs = k.left.now in
    let line = c.bytes.result.now in
    let rest = lines_from (k.offset + 4) c.bytes_after-left.result.now in
    let shown : line ≡ line_text k.offset c.first_word.result = c.bytes.ensures ∙ c.put_line.ensures.bytes ∙ ap (λ (o : Output). o.bytes ++ line_text k.offset c.first_word.result) c.clear.ensures in
    let next : line ++ rest ≡ lines_from k.offset bs =
    line_next k.offset bs line c.bytes_after-left.result.now c.first_word.result (omega (arith, c.loop-left-test.true)) shown c.first_word.ensures c.bytes_after-left.ensures.value in
    let put : PutsText line Done (g.O.Sink.bytes k.out) (g.O.Sink.bytes c.put.new.self) (g.O.Sink.faults k.out) (g.O.Sink.faults c.put.new.self) =
    record { done = c.in-Done.ensures.done; part = c.in-Done.ensures.part; failed = c.in-Done.ensures.failed; never_falls = c.in-Done.ensures.never_falls } in
    record {
      listed = (t.0 ++ line, puts_both _ _ _ _ _ _ t.0 line Done t.1 put, append_assoc t.0 line rest ∙ ap (λ x. t.0 ++ x) next ∙ t.2);
      space = omega (arith, k.invariant.space, c.put_line.ensures.space, ap (λ (o : Output). o.room + length o.bytes) c.clear.ensures);
      place = omega (arith, k.invariant.place, c.bytes_after-left.ensures.len);
    }
