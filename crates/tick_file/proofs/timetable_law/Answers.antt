use Rattle.tick_file.proofs.TimetableLemmas.{timetable}
use Rattle.tick_file.proofs.timetable_law.Goals as goal

pub returns : goal.returns
returns c = timetable
