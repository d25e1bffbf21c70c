-- What follows from the machine's definitions for its messages.
use Rattle.std.specs.Prelude.{◌≡◌, ℕ, List, Option, Some}
use Rattle.wind_base.specs.declared.board_kind.BoardKind.{BoardKind}
use Rattle.id_table.specs.Rows.{object_of}
use Rattle.tick_file.specs.Schedule.{timetable_of}
use Rattle.wind_base.specs.declared.profile.Profile.{Profile}
use Rattle.wind_outside.specs.Devices.{DeviceState}
use Rattle.msg_queue.specs.State.{QueueState}
use Rattle.msg_queue.specs.Laws.{IsConserved}
use Rattle.wind_machine.specs.Machine.{opening}
use Rattle.wind_machine.specs.Run.{Answers, after}
use Rattle.wind_messages.specs.Messages.{accepted, taken}

-- for every console file, tick file and list of devices, under both rules of inheritance, whatever is said of module
-- files, and for each queue that is live after k steps: what was accepted is, each as often, what was taken followed
-- by what the queue holds; if none was urgent, the two are equal, order included
abbrev pub ConservationLaw : Type 0
ConservationLaw = (said : Answers) (console ticks : List ℕ) (slots : List (Option DeviceState)) (profile : Profile) (board : BoardKind) (k q : ℕ) (y : QueueState)
    → object_of (after said (opening console (timetable_of ticks) slots profile board) k).world.objects.queues.queues q ≡ Some y
    → IsConserved (accepted said (opening console (timetable_of ticks) slots profile board) q k) (taken said (opening console (timetable_of ticks) slots profile board) q k) y.held
