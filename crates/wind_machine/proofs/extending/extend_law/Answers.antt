use Rattle.wind_machine.proofs.LongerSteps.{next_extends, over_extends, step_extends}
use Rattle.wind_machine.proofs.Joining.{begins, extends, room_stays, demand_stays, step_time}
use Rattle.wind_machine.proofs.extending.extend_law.Goals as goal

pub returns : goal.returns
returns c =
    record { next = next_extends; step = step_extends; over = over_extends; room = room_stays; demand = demand_stays; time = step_time; begins = begins; run = extends }
