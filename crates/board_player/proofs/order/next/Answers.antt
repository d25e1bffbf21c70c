use Rattle.std.proofs.Common.{sym, ◌∙◌}
use Rattle.board_player.proofs.Deciding.{delivery_next, event_next, exhausts_then}
use Rattle.board_player.proofs.order.next.Goals as goal

pub returns-in-Some-clause-next : goal.returns-in-Some-clause-next
returns-in-Some-clause-next g c = delivery_next _ c.in-Some.slot c.in-Some.ensures

pub returns-in-Some-due_event-clause-next : goal.returns-in-Some-due_event-clause-next
returns-in-Some-due_event-clause-next g c = event_next _ c.in-Some-due_event.event c.in_default.ensures c.in-Some-due_event.ensures

pub returns-in-Some-who-clause-memory : goal.returns-in-Some-who-clause-memory
returns-in-Some-who-clause-memory g c =
    exhausts_then c.task_next.result _ c.in-Some-who.who (sym c.if-is_active.ensures) c.in_default.ensures c.in_default-due_event.ensures c.if-console_is_due.ensures (sym c.in-Some-who.is ∙ c.who_runs-now.ensures.who) c.task_next.ensures.memory
