use Rattle.std.proofs.Common.{sym, subst}
use Rattle.msg_queue.specs.State.{scene}
use Rattle.msg_queue.specs.Kept.{IsKept}
use Rattle.msg_queue.proofs.Arms.{sent_declined, answer_declined, sent_passed, passed_live, passed_place, queued_live, queued_there, queued_room, queued_short, sent_queued, answer_queued, blocked_live, blocked_room, blocked_timeout, sent_blocked, answer_blocked}
use Rattle.msg_queue.proofs.Steps.{send_keeps}
use Rattle.msg_queue.proofs.queues.Queues.send.Goals as goal

pub hand_over-requires-clause-live : goal.hand_over-requires-clause-live
hand_over-requires-clause-live c =
    let s = scene c.args.kern.now c.args.self.now c.args.ram.now.bytes in
    passed_live s c.args.id c.args.words c.in-PassedOn.ask c.in-PassedOn.ensures c.requires.kept

pub hand_over-requires-clause-place : goal.hand_over-requires-clause-place
hand_over-requires-clause-place c =
    let s = scene c.args.kern.now c.args.self.now c.args.ram.now.bytes in
    passed_place s c.args.id c.args.words c.in-PassedOn.ask c.in-PassedOn.ensures c.requires.kept

pub put_message-requires : goal.put_message-requires
put_message-requires c =
    let s = scene c.args.kern.now c.args.self.now c.args.ram.now.bytes in
    record {
      live = queued_live s c.args.id c.args.words c.in-Queued.at c.in-Queued.ensures;
      there = queued_there s c.args.id c.args.words c.in-Queued.at c.in-Queued.ensures;
      room = queued_room s c.args.id c.args.words c.in-Queued.at c.in-Queued.ensures;
      short = queued_short s c.args.id c.args.words c.in-Queued.at c.in-Queued.ensures;
    }

pub wait_for-requires-clause-live : goal.wait_for-requires-clause-live
wait_for-requires-clause-live c =
    let s = scene c.args.kern.now c.args.self.now c.args.ram.now.bytes in
    blocked_live s c.args.id c.args.words c.in-Blocked.ask c.in-Blocked.fifo c.in-Blocked.ensures c.requires.caller

pub wait_for-requires-clause-room : goal.wait_for-requires-clause-room
wait_for-requires-clause-room c =
    let s = scene c.args.kern.now c.args.self.now c.args.ram.now.bytes in
    blocked_room s c.args.id c.args.words c.in-Blocked.ask c.in-Blocked.fifo c.in-Blocked.ensures c.requires.kept c.requires.caller

pub wait_for-requires-clause-timeout : goal.wait_for-requires-clause-timeout
wait_for-requires-clause-timeout c =
    let s = scene c.args.kern.now c.args.self.now c.args.ram.now.bytes in
    blocked_timeout s c.args.id c.args.words c.in-Blocked.ask c.in-Blocked.fifo c.in-Blocked.ensures

pub returns-in-Declined-clause-scene : goal.returns-in-Declined-clause-scene
returns-in-Declined-clause-scene c =
    let s = scene c.args.kern.now c.args.self.now c.args.ram.now.bytes in
    sent_declined s c.args.id c.args.words c.in-Declined.e c.in-Declined.ensures

pub returns-in-Declined-clause-answer : goal.returns-in-Declined-clause-answer
returns-in-Declined-clause-answer c =
    let s = scene c.args.kern.now c.args.self.now c.args.ram.now.bytes in
    answer_declined s c.args.id c.args.words c.in-Declined.e c.in-Declined.ensures

pub returns-in-PassedOn-clause-scene : goal.returns-in-PassedOn-clause-scene
returns-in-PassedOn-clause-scene c =
    let s = scene c.args.kern.now c.args.self.now c.args.ram.now.bytes in
    sent_passed s c.args.id c.args.words c.in-PassedOn.ask c.in-PassedOn.ensures c.hand_over.new.kern c.hand_over.new.ram.bytes c.hand_over.ensures.kern c.hand_over.ensures.ram

pub returns-in-PassedOn-clause-kept : goal.returns-in-PassedOn-clause-kept
returns-in-PassedOn-clause-kept c =
    let s = scene c.args.kern.now c.args.self.now c.args.ram.now.bytes in
    subst IsKept (sym (sent_passed s c.args.id c.args.words c.in-PassedOn.ask c.in-PassedOn.ensures c.hand_over.new.kern c.hand_over.new.ram.bytes c.hand_over.ensures.kern c.hand_over.ensures.ram)) (send_keeps s c.args.id c.args.words c.requires.kept c.requires.caller)

pub returns-in-Queued : goal.returns-in-Queued
returns-in-Queued c =
    let s = scene c.args.kern.now c.args.self.now c.args.ram.now.bytes in
    let sent = sent_queued s c.args.id c.args.words c.in-Queued.at c.in-Queued.ensures c.put_message.new.self c.put_message.ensures in
    record {
      scene = sent;
      answer = answer_queued s c.args.id c.args.words c.in-Queued.at c.in-Queued.ensures;
      kept = subst IsKept (sym sent) (send_keeps s c.args.id c.args.words c.requires.kept c.requires.caller);
    }

pub returns-in-Blocked : goal.returns-in-Blocked
returns-in-Blocked c =
    let s = scene c.args.kern.now c.args.self.now c.args.ram.now.bytes in
    let sent = sent_blocked s c.args.id c.args.words c.in-Blocked.ask c.in-Blocked.fifo c.in-Blocked.ensures c.wait_for.new.kern c.wait_for.new.self (c.wait_for.ensures.asks, c.wait_for.ensures.kern) in
    record {
      scene = sent;
      answer = answer_blocked s c.args.id c.args.words c.in-Blocked.ask c.in-Blocked.fifo c.in-Blocked.ensures;
      kept = subst IsKept (sym sent) (send_keeps s c.args.id c.args.words c.requires.kept c.requires.caller);
    }
