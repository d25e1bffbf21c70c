use Rattle.std.proofs.Common.{rules, ap, sym, ◌∙◌}
use Rattle.std.specs.Option.{option_map}
use Rattle.id_table.specs.Sorting.{first}
use Rattle.tick_file.specs.Schedule.{at, Timetable}
use Rattle.tick_file.proofs.Heaps.{top_first}
use Rattle.tick_file.proofs.schedule.Schedule.next.Goals as goal

pub returns-in-Some : goal.returns-in-Some
returns-in-Some c =
    let top = c.in-Some.field-0.now in
    let h = c.in-Some.ensures in
    sym (ap (option_map at) (top_first _ top c.self.invariant (search rules) h.lookup (h.greatest c.self.invariant.heap)))
    ∙ ap (λ (t : Timetable). option_map at (first t.events)) c.self.view_is
