use Rattle.std.proofs.Common.{refl, sym, ap, ◌∙◌}
use Rattle.wind_machine.specs.Replies.{reply_after}
use Rattle.wind_machine.specs.LiveLoadingSaid.{Missing}
use Rattle.board_player.proofs.Settled.{left_by, makes, come_left, come_makes, arrive_left, arrive_makes, jumps}
use Rattle.board_player.proofs.Quiet.{deliver_still}
use Rattle.board_player.proofs.Answering.{quiet_reply}
use Rattle.board_player.proofs.Deciding.{delivery_due, event_idle, routine_active}
use Rattle.board_player.proofs.order.make.Goals as goal

pub occur-requires-clause-idle : goal.occur-requires-clause-idle
occur-requires-clause-idle g c = event_idle _ c.in-Come.event (sym c.in-Come.is ∙ c.requires.next)

pub act_routine-requires-clause-active : goal.act_routine-requires-clause-active
act_routine-requires-clause-active g c = routine_active _ (sym c.in-Routine.is ∙ c.requires.next)

pub act_routine-requires-clause-left : goal.act_routine-requires-clause-left
act_routine-requires-clause-left g c = left_by Missing _ _ _ _ _ c.in-Routine.is refl refl (c.requires.left Missing)

pub act-requires-clause-left : goal.act-requires-clause-left
act-requires-clause-left g c = left_by Missing _ _ _ _ _ c.in-Act.is refl refl (c.requires.left Missing)

pub deliver-requires-clause-due : goal.deliver-requires-clause-due
deliver-requires-clause-due g c = delivery_due _ c.in-Deliver.slot (sym c.in-Deliver.is ∙ c.requires.next)

pub occur-requires-clause-left : goal.occur-requires-clause-left
occur-requires-clause-left g c = come_left Missing _ _ _ c.in-Come.event c.requires.next c.in-Come.is refl (c.requires.left Missing)

pub settle-requires-clause-left : goal.settle-requires-clause-left
settle-requires-clause-left g c = arrive_left Missing _ _ _ c.in-Arrive.is c.arrive.ensures.step (c.requires.left Missing)

pub returns-in-Deliver-clause-stepped : goal.returns-in-Deliver-clause-stepped
returns-in-Deliver-clause-stepped g c = λ e. deliver_still Missing _ _ _ c.in-Deliver.slot c.in-Deliver.is c.deliver.ensures.step (c.requires.left Missing) c.requires.good

pub returns-in-Come-clause-stepped : goal.returns-in-Come-clause-stepped
returns-in-Come-clause-stepped g c = λ e. come_makes _ _ _ _ c.in-Come.event c.requires.next c.in-Come.is refl c.occur.ensures.step

pub returns-in-Arrive-clause-stepped : goal.returns-in-Arrive-clause-stepped
returns-in-Arrive-clause-stepped g c = λ e. arrive_makes _ _ _ _ c.in-Arrive.is c.arrive.ensures.step c.settle.ensures.step

pub returns-in-Routine-clause-stepped : goal.returns-in-Routine-clause-stepped
returns-in-Routine-clause-stepped g c = λ e. makes _ _ _ _ _ _ c.in-Routine.is (λ said. refl) refl c.act_routine.ensures.step

pub returns-in-Act-clause-stepped : goal.returns-in-Act-clause-stepped
returns-in-Act-clause-stepped g c = λ e. makes _ _ _ _ _ _ c.in-Act.is (λ said. refl) refl (c.act.ensures.stepped e)

pub returns-in-Jump-clause-stepped : goal.returns-in-Jump-clause-stepped
returns-in-Jump-clause-stepped g c = λ e. jumps _ _ _ c.in-Jump.time c.requires.good c.in-Jump.is c.jump.ensures.step

pub returns-in-Deliver-clause-reply : goal.returns-in-Deliver-clause-reply
returns-in-Deliver-clause-reply g c = λ e said. quiet_reply said _ _ _ c.in-Deliver.is refl

pub returns-in-Come-clause-reply : goal.returns-in-Come-clause-reply
returns-in-Come-clause-reply g c = λ e said. quiet_reply said _ _ _ c.in-Come.is refl

pub returns-in-Arrive-clause-reply : goal.returns-in-Arrive-clause-reply
returns-in-Arrive-clause-reply g c = λ e said. quiet_reply said _ _ _ c.in-Arrive.is refl

pub returns-in-Routine-clause-reply : goal.returns-in-Routine-clause-reply
returns-in-Routine-clause-reply g c = λ e said. c.act_routine.ensures.reply ∙ sym (ap (reply_after said _) c.in-Routine.is)

pub returns-in-Act-clause-reply : goal.returns-in-Act-clause-reply
returns-in-Act-clause-reply g c = λ e said. c.act.ensures.reply e ∙ sym (ap (reply_after said _) c.in-Act.is)

pub returns-in-Jump-clause-reply : goal.returns-in-Jump-clause-reply
returns-in-Jump-clause-reply g c = λ e said. c.requires.unreplied (λ q. cc) ∙ quiet_reply said _ _ _ c.in-Jump.is refl

pub returns-in-Load-clause-no_reply : goal.returns-in-Load-clause-no_reply
returns-in-Load-clause-no_reply g c = λ e. c.requires.unreplied (λ q. cc)

pub returns-in-Over-clause-no_reply : goal.returns-in-Over-clause-no_reply
returns-in-Over-clause-no_reply g c = λ e. c.requires.unreplied (λ q. cc)

pub act-requires-clause-unreplied : goal.act-requires-clause-unreplied
act-requires-clause-unreplied g c = c.requires.unreplied (λ q. cc)
