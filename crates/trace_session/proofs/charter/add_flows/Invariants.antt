use Rattle.std.proofs.Common.{◌≡◌, take}
use Rattle.trace_text.specs.Forms.{Gained}
use Rattle.trace_json.specs.Chrome.{AreMembers}
use Rattle.trace_session.specs.Choice.{choice_state}
use Rattle.trace_session.specs.Chrome.{flows_in, number_in}
use Rattle.trace_session.proofs.charter.add_flows.Given as goal

-- the first happenings have their flows
abbrev pub invariant-loop-happening : goal.invariant-loop-happening
invariant-loop-happening l =
    record {
      number : l.number ≡ number_in (choice_state l.choice) l.before_step (take l.happening-index l.list) l.fn.last;
      text : Gained (AreMembers (flows_in (choice_state l.choice) l.giver l.before_step l.to (take l.happening-index l.list) l.fn.last)) l.fn.text.items l.text.items;
    }
