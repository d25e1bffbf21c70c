use Rattle.std.proofs.Common.{◌≤◌}
use Rattle.wind_session.specs.Keeping.{around, messages}
use Rattle.live_session.specs.Journal.{Journaled}
use Rattle.live_session.specs.LiveAround.{store}
use Rattle.live_session.specs.Moments.{Wherever, moment}
use Rattle.live_session.specs.Seen.{live_by, Runs}
use Rattle.live_session.specs.Session.{IsTalk}
use Rattle.live_session.specs.Words.{command_state}
use Rattle.live_session.proofs.Typing.{Typing}
use Rattle.live_session.proofs.conversation.converse.Given as goal

-- the session has gone on until here, with these parts of the input
abbrev pub invariant-loop : goal.invariant-loop
invariant-loop g l =
    let live = live_by (λ d. (goal.Device-dyn g (d.vtable, d.value)).kind_of d.value) (λ d. (goal.Device-dyn g (d.vtable, d.value)).words_of d.value) in
    let before = around g.F.Folder g.O.Sink l.fn.folder l.fn.out in
    let now = around g.F.Folder g.O.Sink l.folder l.out in
    let files = store g.D.RecordFolder l.fn.records in
    let later = store g.D.RecordFolder l.records in
    record {
      runs : Runs l.went.end l.target.command.now.modules.now (live l.fn.live) before (live l.live) now;
      typing : Typing (g.I.Input.left l.fn.input) (g.I.Input.left l.input) (live l.fn.live).console.bytes (live l.live).console.bytes l.position l.counter
          (λ parts. Wherever l.target.command.now.modules.now (live l.fn.live) before
          (λ shelf setup old. IsTalk (command_state l.target.command.now) l.first parts shelf setup old (live l.fn.live) before files
          (moment (live l.live) now (messages g.E.Sink l.err) later l.went.end l.went.unsaved)));
      journal : Journaled (command_state l.target.command.now) l.went.unsaved l.went.end (live l.fn.live) before files (live l.live) now later;
      input_faults : g.I.Input.faults l.fn.input ≤ g.I.Input.faults l.input;
    }
