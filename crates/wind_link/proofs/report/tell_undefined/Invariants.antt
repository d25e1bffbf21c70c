use Rattle.std.proofs.Common.{map, take}
use Rattle.std.specs.List.{flat_map}
use Rattle.wind_outside.specs.declared.sink.Put.TheVariants.{Done}
use Rattle.program_main.specs.Messages.{PutsText}
use Rattle.wind_link.specs.Undefined.{pair_of, undefined_line}
use Rattle.wind_link.proofs.report.tell_undefined.Given as goal

-- the lines of the names so far were put
abbrev pub invariant-loop-one : goal.invariant-loop-one
invariant-loop-one g l =
    PutsText (flat_map (undefined_line l.list) (map pair_of (take l.one-index l.names))) Done (g.E.Sink.bytes l.fn.err) (g.E.Sink.bytes l.err) (g.E.Sink.faults l.fn.err) (g.E.Sink.faults l.err)
