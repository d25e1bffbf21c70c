use Rattle.std.proofs.Common.{sym, subst, ap, ◌∙◌}
use Rattle.msg_queue.specs.State.{scene}
use Rattle.msg_queue.specs.Receives.{receive_deed, receive, receive_answer}
use Rattle.msg_queue.specs.Inside.{receive_plan}
use Rattle.msg_queue.specs.Kept.{IsKept}
use Rattle.msg_queue.proofs.Takes.{got_denied, answer_denied, at_id, starved_lives, starved_room, starved_timeout, got_starved, answer_starved}
use Rattle.msg_queue.proofs.Events.{receive_keeps}
use Rattle.msg_queue.proofs.queues.Queues.receive.Goals as goal

pub take_front-requires-clause-taken : goal.take_front-requires-clause-taken
take_front-requires-clause-taken c =
    let s = scene c.args.kern.now c.args.self.now c.args.ram.now.bytes in
    c.in-Taken.ensures c.args.kern.now ∙ ap (λ n. receive_plan n c.args.words (receive_deed s n c.args.words)) (sym (at_id s c.args.id c.args.words c.in-Taken.at (c.in-Taken.ensures c.args.kern.now)))

pub wait_for-requires-clause-live : goal.wait_for-requires-clause-live
wait_for-requires-clause-live c =
    let s = scene c.args.kern.now c.args.self.now c.args.ram.now.bytes in
    starved_lives s c.args.id c.args.words c.in-Starved.ask c.in-Starved.fifo (c.in-Starved.ensures c.args.kern.now) c.requires.caller

pub wait_for-requires-clause-room : goal.wait_for-requires-clause-room
wait_for-requires-clause-room c =
    let s = scene c.args.kern.now c.args.self.now c.args.ram.now.bytes in
    starved_room s c.args.id c.args.words c.in-Starved.ask c.in-Starved.fifo (c.in-Starved.ensures c.args.kern.now) c.requires.kept c.requires.caller

pub wait_for-requires-clause-timeout : goal.wait_for-requires-clause-timeout
wait_for-requires-clause-timeout c =
    let s = scene c.args.kern.now c.args.self.now c.args.ram.now.bytes in
    starved_timeout s c.args.id c.args.words c.in-Starved.ask c.in-Starved.fifo (c.in-Starved.ensures c.args.kern.now)

pub returns-in-Denied-clause-scene : goal.returns-in-Denied-clause-scene
returns-in-Denied-clause-scene c =
    let s = scene c.args.kern.now c.args.self.now c.args.ram.now.bytes in
    got_denied s c.args.id c.args.words c.in-Denied.e (c.in-Denied.ensures c.args.kern.now)

pub returns-in-Denied-clause-answer : goal.returns-in-Denied-clause-answer
returns-in-Denied-clause-answer c =
    let s = scene c.args.kern.now c.args.self.now c.args.ram.now.bytes in
    answer_denied s c.args.id c.args.words c.in-Denied.e (c.in-Denied.ensures c.args.kern.now)

pub returns-in-Taken-clause-scene : goal.returns-in-Taken-clause-scene
returns-in-Taken-clause-scene c =
    let s = scene c.args.kern.now c.args.self.now c.args.ram.now.bytes in
    c.take_front.ensures.scene ∙ ap (λ n. receive s n c.args.words) (at_id s c.args.id c.args.words c.in-Taken.at (c.in-Taken.ensures c.args.kern.now))

pub returns-in-Taken-clause-answer : goal.returns-in-Taken-clause-answer
returns-in-Taken-clause-answer c =
    let s = scene c.args.kern.now c.args.self.now c.args.ram.now.bytes in
    c.take_front.ensures.answer ∙ ap (λ n. receive_answer c.args.words (receive_deed s n c.args.words)) (at_id s c.args.id c.args.words c.in-Taken.at (c.in-Taken.ensures c.args.kern.now))

pub returns-in-Taken-clause-kept : goal.returns-in-Taken-clause-kept
returns-in-Taken-clause-kept c =
    let s = scene c.args.kern.now c.args.self.now c.args.ram.now.bytes in
    subst IsKept (sym (c.take_front.ensures.scene ∙ ap (λ n. receive s n c.args.words) (at_id s c.args.id c.args.words c.in-Taken.at (c.in-Taken.ensures c.args.kern.now)))) (receive_keeps s c.args.id c.args.words c.requires.kept c.requires.caller)

pub returns-in-Starved-clause-scene : goal.returns-in-Starved-clause-scene
returns-in-Starved-clause-scene c =
    let s = scene c.args.kern.now c.args.self.now c.args.ram.now.bytes in
    got_starved s c.args.id c.args.words c.in-Starved.ask c.in-Starved.fifo (c.in-Starved.ensures c.args.kern.now) c.wait_for.new.kern c.wait_for.new.self (c.wait_for.ensures.asks, c.wait_for.ensures.kern)

pub returns-in-Starved-clause-answer : goal.returns-in-Starved-clause-answer
returns-in-Starved-clause-answer c =
    let s = scene c.args.kern.now c.args.self.now c.args.ram.now.bytes in
    answer_starved s c.args.id c.args.words c.in-Starved.ask c.in-Starved.fifo (c.in-Starved.ensures c.args.kern.now)

pub returns-in-Starved-clause-kept : goal.returns-in-Starved-clause-kept
returns-in-Starved-clause-kept c =
    let s = scene c.args.kern.now c.args.self.now c.args.ram.now.bytes in
    subst IsKept (sym (got_starved s c.args.id c.args.words c.in-Starved.ask c.in-Starved.fifo (c.in-Starved.ensures c.args.kern.now) c.wait_for.new.kern c.wait_for.new.self (c.wait_for.ensures.asks, c.wait_for.ensures.kern))) (receive_keeps s c.args.id c.args.words c.requires.kept c.requires.caller)
