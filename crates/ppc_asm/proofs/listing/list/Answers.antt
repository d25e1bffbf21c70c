use Rattle.std.proofs.Common.{◌+◌, ◌++◌, [], append_assoc, ap, sym, ◌∙◌, arith}
use Rattle.std.proofs.lemmas.List.{append-nil}
use Rattle.wind_outside.specs.declared.sink.Put.TheVariants.{Done, Failed}
use Rattle.elf_read.specs.Contents.{module_at}
use Rattle.program_main.proofs.Putting.{puts_as, puts_both, puts_cut, puts_none}
use Rattle.ppc_asm.specs.Listing.{lines_from, listing}
use Rattle.ppc_asm.proofs.Listed.{lines_on, listing_is, no_section, section_next}
use Rattle.ppc_asm.proofs.listing.list.Goals as goal

pub loop-i-init : goal.loop-i-init
loop-i-init g c = record {
  listed = ([], puts_none (g.O.Sink.bytes c.args.out.now) (g.O.Sink.faults c.args.out.now), listing_is c.args.bytes.now c.header_count-count.result c.header_count-count.ensures.value);
  space = omega arith;
}

pub returns-in-Failed : goal.returns-in-Failed
returns-in-Failed g c =
    let k = c.loop-i in
    let t = k.invariant.listed in
    let lines = lines_from 0 c.listed.result.now in
    let rest = lines_on c.args.bytes.now (k.i + 1) c.header_count-count.result in
    puts_as _ _ _ _ ((t.0 ++ lines) ++ rest) (listing (module_at c.args.bytes.now)) Failed
    (append_assoc t.0 lines rest ∙ ap (λ x. t.0 ++ x) (section_next c.args.bytes.now lines k.i c.header_count-count.result c.loop-i-test.true c.listed.ensures) ∙ t.2)
    (puts_cut _ _ _ _ (t.0 ++ lines) rest (puts_both _ _ _ _ _ _ t.0 lines Failed t.1 c.in-Failed.ensures.put))

pub loop-i-preserved : goal.loop-i-preserved
loop-i-preserved g c =
    let k = c.loop-i in
    let t = k.invariant.listed in
    let lines = lines_from 0 c.listed.result.now in
    let rest = lines_on c.args.bytes.now (k.i + 1) c.header_count-count.result in
    record {
      listed = (
        t.0 ++ lines,
        puts_both _ _ _ _ _ _ t.0 lines Done t.1 c.in-Done.ensures.put,
        append_assoc t.0 lines rest ∙ ap (λ x. t.0 ++ x) (section_next c.args.bytes.now lines k.i c.header_count-count.result c.loop-i-test.true c.listed.ensures) ∙ t.2,
      );
      space = omega (arith, k.invariant.space, c.list_bytes.ensures.space);
    }

pub returns : goal.returns
returns g c =
    let k = c.loop-i in
    let t = k.invariant.listed in
    puts_as _ _ _ _ t.0 (listing (module_at c.args.bytes.now)) Done
    (sym (append-nil t.0) ∙ ap (λ x. t.0 ++ x) (sym (no_section c.args.bytes.now k.i c.header_count-count.result (omega (arith, c.loop-i-test.false)))) ∙ t.2)
    t.1
