use Rattle.std.proofs.Common.{ap, sym, heap_items}
use Rattle.std.proofs.lemmas.List.Sorted.{All-permutation}
use Rattle.tick_file.specs.Inside.{IsSound}
use Rattle.tick_file.specs.Schedule.{Timetable}
use Rattle.tick_file.proofs.Events.{same_events}
use Rattle.tick_file.proofs.Heaps.{agree_moved}
use Rattle.tick_file.proofs.schedule.Schedule.of_rules.Goals as goal

pub invariant_of-result : goal.invariant_of-result
invariant_of-result c = record {
  heap = c.from.ensures.2;
  sound = All-permutation (λ p. IsSound p.0) c.args.rules.items (heap_items c.from.result) c.from.ensures.1 c.requires.sound;
  agree = agree_moved c.args.rules.items (heap_items c.from.result) c.from.ensures.1 c.requires.agree;
}

pub returns : goal.returns
returns c =
    ap {B = Timetable} (λ es. record { events = es; on_demand = c.args.on_demand }) (sym (same_events c.args.rules.items (heap_items c.from.result) c.requires.agree c.from.ensures.1))
