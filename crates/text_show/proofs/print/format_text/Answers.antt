use Rattle.std.proofs.Common.{◌≡◌, ◌∷◌, arith, sym, ◌∙◌}
use Rattle.std.specs.Prelude.{None, Some}
use Rattle.text_show.specs.Format.{conversion_of}
use Rattle.text_show.specs.Printf.{source_of}
use Rattle.text_show.proofs.Pieces.{starts, byte_done, conversion_done}
use Rattle.text_show.proofs.print.format_text.Goals as goal

pub loop-byte-init : goal.loop-byte-init
loop-byte-init c = (starts (source_of c.args.values.now) c.args.format.now c.new-text.result.items c.new-text.ensures, omega arith)

pub loop-byte-preserved-in-None : goal.loop-byte-preserved-in-None
loop-byte-preserved-in-None c =
    let r : c.loop-byte.rest.now ≡ c.in-Some.field-0-0.now ∷ c.in-Some.after_byte.now = c.in-Some.ensures.cases.0 in
    let e : conversion_of c.in-Some.field-0-0.now c.in-Some.after_byte.now ≡ None = sym c.conversion_of.ensures.value ∙ c.in-None.is in (
      byte_done (source_of c.args.values.now) c.args.format.now c.loop-byte.n c.in-Some.field-0-0.now c.in-Some.after_byte.now c.loop-byte.rest.now c.loop-byte.text.items c.add.new.text.items
          r e c.loop-byte.invariant.0 c.add.ensures,
      omega (arith, c.in-Some.ensures.cases.1, c.loop-byte.invariant.1),
    )

pub loop-byte-preserved : goal.loop-byte-preserved
loop-byte-preserved c =
    let conversion = c.in-Some-conversion_of.c in
    let r : c.loop-byte.rest.now ≡ c.in-Some.field-0-0.now ∷ c.in-Some.after_byte.now = c.in-Some.ensures.cases.0 in
    let e : conversion_of c.in-Some.field-0-0.now c.in-Some.after_byte.now ≡ Some conversion = sym c.conversion_of.ensures.value ∙ c.in-Some-conversion_of.is in
    let p = rw c.if-not-add_conversion.false at c.add_conversion.ensures in (
      rw (c.bytes_after-rest.ensures.value, c.values_of-n.ensures.exact)
          (conversion_done (source_of c.args.values.now) c.args.format.now c.loop-byte.n c.in-Some.field-0-0.now c.in-Some.after_byte.now c.loop-byte.rest.now c.loop-byte.text.items c.add_conversion.new.text.items
          conversion r e c.loop-byte.invariant.0 p),
      omega (arith, c.in-Some.ensures.cases.1, c.bytes_after-rest.ensures.len, c.values_of-n.ensures.within, c.loop-byte.invariant.1),
    )
