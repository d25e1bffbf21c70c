use Rattle.std.proofs.Common.{ap, map, take, arith}
use Rattle.std.specs.List.{flat_map}
use Rattle.std.proofs.lemmas.List.{take_all}
use Rattle.wind_outside.specs.declared.sink.Put.TheVariants.{Done}
use Rattle.program_main.proofs.Putting.{puts_as, puts_none}
use Rattle.wind_link.specs.Undefined.{pair_of, undefined_line}
use Rattle.wind_link.proofs.Telling.{line_put, line_cut}
use Rattle.wind_link.proofs.report.tell_undefined.Goals as goal

pub loop-one-init : goal.loop-one-init
loop-one-init g c = puts_none (g.E.Sink.bytes c.args.err.now) (g.E.Sink.faults c.args.err.now)

pub returns-in-Failed : goal.returns-in-Failed
returns-in-Failed g c =
    line_cut c.args.list.now c.args.names.now c.loop-one.one-index _ (omega (arith, c.loop-one-test.true))
    (g.E.Sink.bytes c.args.err.now) (g.E.Sink.bytes c.loop-one.err) (g.E.Sink.bytes c.tell_name.new.err)
    (g.E.Sink.faults c.args.err.now) (g.E.Sink.faults c.loop-one.err) (g.E.Sink.faults c.tell_name.new.err)
    c.loop-one.invariant c.in-Failed.ensures

pub loop-one-preserved : goal.loop-one-preserved
loop-one-preserved g c =
    line_put c.args.list.now c.args.names.now c.loop-one.one-index _ (omega (arith, c.loop-one-test.true))
    (g.E.Sink.bytes c.args.err.now) (g.E.Sink.bytes c.loop-one.err) (g.E.Sink.bytes c.tell_name.new.err)
    (g.E.Sink.faults c.args.err.now) (g.E.Sink.faults c.loop-one.err) (g.E.Sink.faults c.tell_name.new.err)
    c.loop-one.invariant c.in-Done.ensures

pub returns : goal.returns
returns g c =
    puts_as _ _ _ _ (flat_map (undefined_line c.args.list.now) (map pair_of (take c.loop-one.one-index c.args.names.now))) (flat_map (undefined_line c.args.list.now) (map pair_of c.args.names.now)) Done
    (ap (λ us. flat_map (undefined_line c.args.list.now) (map pair_of us)) (take_all c.loop-one.one-index c.args.names.now (omega (arith, c.loop-one-test.false))))
    c.loop-one.invariant
