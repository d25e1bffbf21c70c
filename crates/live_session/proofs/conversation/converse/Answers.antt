use Rattle.std.proofs.Common.{◌≡◌, ◌≢◌, ◌∙◌, ℕ, List, Option, None, Err, true, false, ap, arith, inr, refl, rules, subst, sym}
use Rattle.wind_base.specs.OutBuf.{Output}
use Rattle.wind_session.specs.Keeping.{around, messages}
use Rattle.live_session.specs.Ending.{IsGoing}
use Rattle.live_session.specs.Input.{IsLongest, IsPart, Takes}
use Rattle.live_session.specs.LiveAround.{store}
use Rattle.live_session.specs.Moments.{moment}
use Rattle.live_session.specs.Seen.{live_by}
use Rattle.live_session.specs.Session.{IsTalk}
use Rattle.live_session.specs.Words.{command_state}
use Rattle.live_session.specs.declared.dot_line.DotLine.TheVariants as lines
use Rattle.live_session.specs.declared.saving.Unsaved.{Unsaved}
use Rattle.live_session.specs.declared.serving.Request.TheVariants as requests
use Rattle.live_session.specs.declared.status.Status.{Status}
use Rattle.live_session.proofs.Closings.{decided, heard, read_end, stop_early, stop_heard, unended, unrecorded, write_end}
use Rattle.live_session.proofs.Flow.{runs_on, stays_same}
use Rattle.live_session.proofs.Journaling.{journal_as, journal_on}
use Rattle.live_session.proofs.Moving.{talk_more}
use Rattle.live_session.proofs.Typing.{stop_whole, typed_heard, typed_more, typed_quit, typed_until, typing_begins}
use Rattle.live_session.proofs.Whole.{typed_as}
use Rattle.live_session.proofs.conversation.converse.Goals as goal

-- the board has run, and no part is taken
pub loop-init : goal.loop-init
loop-init g c = record {
  runs = c.run-went.ensures.runs;
  typing =
      typing_begins _ _ _ _ (ap (λ (o : Output). o.bytes) c.run-went.ensures.record_is.console)
      (λ shelf setup old here. record { first = _; opening = c.run-went.ensures.made shelf setup old here; served = refl });
  journal = c.run-went.ensures.journal;
  input_faults = omega arith;
}

-- another part was taken, and did what it asks for
pub loop-preserved : goal.loop-preserved
loop-preserved g c =
    let live = live_by (λ d. (goal.Device-dyn g (d.vtable, d.value)).kind_of d.value) (λ d. (goal.Device-dyn g (d.vtable, d.value)).words_of d.value) in
    let on = c.loop.invariant in
    let served = c.serve-served in
    let begin = live c.args.live.now in
    let before = around g.F.Folder g.O.Sink c.args.folder.now c.args.out.now in
    let here = around g.F.Folder g.O.Sink c.loop.folder c.loop.out in
    let mid = g.I.Input.left c.loop.input in
    let new = g.I.Input.left c.hear.new.input in
    let bytes = c.as_slice-bytes.result.now in
    let command = command_state c.args.target.command.now in
    let next = moment (live served.new.live) (around g.F.Folder g.O.Sink served.new.folder served.new.out) (messages g.E.Sink served.new.err) (store g.D.RecordFolder served.new.records) served.result.end served.result.unsaved in
    let ready : IsGoing c.loop.went.end × (c.loop.went.unsaved ≡ None) = c.is_going.ensures.0 (search rules) in
    let heard = subst (λ (b : List ℕ). Takes mid new b × IsPart b × IsLongest b new) (sym c.as_slice-bytes.ensures.value) c.in-Ok.ensures.part in
    let other : c.request_of-request.result ≢ requests.Obey lines.Quit = λ e. let given : c.is_quit.result ≡ true = c.is_quit.ensures.1 e in let differs : c.is_quit.result ≡ false = search rules in cc in
    record {
      runs = runs_on c.loop.went.end _ _ _ _ _ _ _ _ _ ready.0 on.runs (stays_same _ on.runs.sound) served.ensures.runs;
      typing =
          rw c.position_after-position.ensures
          (typed_more _ mid new c.loop.position c.loop.counter bytes c.request_of-request.result served.result.refusal _ _ _ _ _ on.typing
          (record { takes = heard.0; is_part = heard.1; longest = heard.2; asks = c.request_of-request.ensures; sends = served.ensures.console })
          (talk_more command c.args.first c.request_of-request.result bytes served.result.refusal begin (live c.loop.live) before here (messages g.E.Sink c.loop.err)
          (store g.D.RecordFolder c.args.records.now) (store g.D.RecordFolder c.loop.records) c.loop.went.end c.loop.went.unsaved ready.1 next c.loop.position
          (record { going = ready.0; runs = on.runs; serves = served.ensures.serves }) c.request_of-request.ensures)
          other);
      journal = journal_on _ _ c.loop.went.end _ _ _ _ _ _ _ _ _ _ on.runs ready.0 (journal_as _ _ _ _ _ _ _ _ _ _ ready.1 on.journal) served.ensures.journal;
      input_faults = omega (arith, on.input_faults, c.hear.ensures.never_falls);
    }

-- ---- the session can't go on
pub returns-then-not-is_going-clause-runs : goal.returns-then-not-is_going-clause-runs
returns-then-not-is_going-clause-runs g c = rw c.closing_of.ensures c.loop.invariant.runs

pub returns-then-not-is_going-clause-status_is : goal.returns-then-not-is_going-clause-status_is
returns-then-not-is_going-clause-status_is g c = rw c.closing_of.ensures (decided c.loop.went.unsaved c.loop.went.end (λ h. (c.loop.invariant.journal.stuck h).1))

pub returns-then-not-is_going-clause-unended : goal.returns-then-not-is_going-clause-unended
returns-then-not-is_going-clause-unended g c = rw c.closing_of.ensures (unended c.loop.went.unsaved c.loop.went.end)

pub returns-then-not-is_going-clause-unrecorded : goal.returns-then-not-is_going-clause-unrecorded
returns-then-not-is_going-clause-unrecorded g c = rw c.closing_of.ensures (unrecorded c.loop.went.unsaved c.loop.went.end)

pub returns-then-not-is_going-clause-typed : goal.returns-then-not-is_going-clause-typed
returns-then-not-is_going-clause-typed g c =
    let stuck : IsGoing c.loop.went.end × (c.loop.went.unsaved ≡ None) → ⊥ = λ going. let given : c.is_going.result ≡ true = c.is_going.ensures.1 going in let differs : c.is_going.result ≡ false = search rules in cc in
    rw c.closing_of.ensures (typed_until _ _ _ _ _ _ _ _ c.loop.invariant.typing (λ parts counted. stop_early c.loop.went.unsaved c.loop.went.end _ parts stuck))

pub returns-then-not-is_going-clause-read_fault : goal.returns-then-not-is_going-clause-read_fault
returns-then-not-is_going-clause-read_fault g c = rw c.closing_of.ensures (λ e. inr (c.loop.invariant.runs.read_fault (read_end c.loop.went.unsaved c.loop.went.end e)))

pub returns-then-not-is_going-clause-fault : goal.returns-then-not-is_going-clause-fault
returns-then-not-is_going-clause-fault g c = rw c.closing_of.ensures (λ e. c.loop.invariant.runs.write_fault (write_end c.loop.went.unsaved c.loop.went.end e))

pub returns-then-not-is_going-clause-journal : goal.returns-then-not-is_going-clause-journal
returns-then-not-is_going-clause-journal g c = rw c.closing_of.ensures c.loop.invariant.journal

-- ---- no part came
pub returns-in-Err-clause-status_is : goal.returns-in-Err-clause-status_is
returns-in-Err-clause-status_is g c =
    let ready : IsGoing c.loop.went.end × (c.loop.went.unsaved ≡ None) = c.is_going.ensures.0 (search rules) in
    heard c.loop.went.end c.in-Err.status ready.0 c.in-Err.ensures.ended.0

pub returns-in-Err-clause-unrecorded : goal.returns-in-Err-clause-unrecorded
returns-in-Err-clause-unrecorded g c = λ e. absurd (c.in-Err.ensures.ended.1 e)

pub returns-in-Err-clause-typed : goal.returns-in-Err-clause-typed
returns-in-Err-clause-typed g c =
    let live = live_by (λ d. (goal.Device-dyn g (d.vtable, d.value)).kind_of d.value) (λ d. (goal.Device-dyn g (d.vtable, d.value)).words_of d.value) in
    let ready : IsGoing c.loop.went.end × (c.loop.went.unsaved ≡ None) = c.is_going.ensures.0 (search rules) in
    typed_as _ _ _ _ _ _ _
    (λ parts talks shelf setup old here.
    subst (λ (f : Option Unsaved). IsTalk (command_state c.args.target.command.now) c.args.first parts shelf setup old (live c.args.live.now) (around g.F.Folder g.O.Sink c.args.folder.now c.args.out.now) (store g.D.RecordFolder c.args.records.now)
    (moment (live c.loop.live) (around g.F.Folder g.O.Sink c.loop.folder c.loop.out) (messages g.E.Sink c.loop.err) (store g.D.RecordFolder c.loop.records) c.loop.went.end f)) ready.1 (talks shelf setup old here))
    (typed_heard c.in-Err.status _ _ _ _ _ _ _ _ c.in-Err.ensures.kept c.loop.invariant.typing
    (λ parts. stop_heard c.in-Err.status _ parts c.in-Err.ensures.ended.1 (λ e. c.in-Err.ensures.over (ap (λ (s : Status). Err s) e))))

pub returns-in-Err-clause-journal : goal.returns-in-Err-clause-journal
returns-in-Err-clause-journal g c =
    let ready : IsGoing c.loop.went.end × (c.loop.went.unsaved ≡ None) = c.is_going.ensures.0 (search rules) in
    journal_as _ _ _ _ _ _ _ _ _ _ ready.1 c.loop.invariant.journal

-- ---- the part asked for the end
pub returns-then-is_quit-clause-runs : goal.returns-then-is_quit-clause-runs
returns-then-is_quit-clause-runs g c =
    let on = c.loop.invariant in
    let ready : IsGoing c.loop.went.end × (c.loop.went.unsaved ≡ None) = c.is_going.ensures.0 (search rules) in
    rw c.closing_of-then-is_quit.ensures (runs_on c.loop.went.end _ _ _ _ _ _ _ _ _ ready.0 on.runs (stays_same _ on.runs.sound) c.serve-served.ensures.runs)

pub returns-then-is_quit-clause-status_is : goal.returns-then-is_quit-clause-status_is
returns-then-is_quit-clause-status_is g c = rw c.closing_of-then-is_quit.ensures (decided c.serve-served.result.unsaved c.serve-served.result.end (λ h. (c.serve-served.ensures.journal.stuck h).1))

pub returns-then-is_quit-clause-unended : goal.returns-then-is_quit-clause-unended
returns-then-is_quit-clause-unended g c = rw c.closing_of-then-is_quit.ensures (unended c.serve-served.result.unsaved c.serve-served.result.end)

pub returns-then-is_quit-clause-unrecorded : goal.returns-then-is_quit-clause-unrecorded
returns-then-is_quit-clause-unrecorded g c = rw c.closing_of-then-is_quit.ensures (unrecorded c.serve-served.result.unsaved c.serve-served.result.end)

pub returns-then-is_quit-clause-typed : goal.returns-then-is_quit-clause-typed
returns-then-is_quit-clause-typed g c =
    let live = live_by (λ d. (goal.Device-dyn g (d.vtable, d.value)).kind_of d.value) (λ d. (goal.Device-dyn g (d.vtable, d.value)).words_of d.value) in
    let on = c.loop.invariant in
    let served = c.serve-served in
    let begin = live c.args.live.now in
    let before = around g.F.Folder g.O.Sink c.args.folder.now c.args.out.now in
    let here = around g.F.Folder g.O.Sink c.loop.folder c.loop.out in
    let mid = g.I.Input.left c.loop.input in
    let new = g.I.Input.left c.hear.new.input in
    let bytes = c.as_slice-bytes.result.now in
    let command = command_state c.args.target.command.now in
    let next = moment (live served.new.live) (around g.F.Folder g.O.Sink served.new.folder served.new.out) (messages g.E.Sink served.new.err) (store g.D.RecordFolder served.new.records) served.result.end served.result.unsaved in
    let ready : IsGoing c.loop.went.end × (c.loop.went.unsaved ≡ None) = c.is_going.ensures.0 (search rules) in
    let heard = subst (λ (b : List ℕ). Takes mid new b × IsPart b × IsLongest b new) (sym c.as_slice-bytes.ensures.value) c.in-Ok.ensures.part in
    let quits : c.request_of-request.result ≡ requests.Obey lines.Quit = c.is_quit.ensures.0 (search rules) in
    rw c.closing_of-then-is_quit.ensures
    (typed_quit _ mid new c.loop.position c.loop.counter bytes c.request_of-request.result served.result.refusal _ _ _ _ _ on.typing
    (record { takes = heard.0; is_part = heard.1; longest = heard.2; asks = c.request_of-request.ensures; sends = served.ensures.console })
    (talk_more command c.args.first c.request_of-request.result bytes served.result.refusal begin (live c.loop.live) before here (messages g.E.Sink c.loop.err)
    (store g.D.RecordFolder c.args.records.now) (store g.D.RecordFolder c.loop.records) c.loop.went.end c.loop.went.unsaved ready.1 next c.loop.position
    (record { going = ready.0; runs = on.runs; serves = served.ensures.serves }) c.request_of-request.ensures)
    _ quits)

pub returns-then-is_quit-clause-read_fault : goal.returns-then-is_quit-clause-read_fault
returns-then-is_quit-clause-read_fault g c =
    let on = c.loop.invariant in
    let ready : IsGoing c.loop.went.end × (c.loop.went.unsaved ≡ None) = c.is_going.ensures.0 (search rules) in
    let runs = runs_on c.loop.went.end c.serve-served.result.end _ _ _ _ _ _ _ _ ready.0 on.runs (stays_same _ on.runs.sound) c.serve-served.ensures.runs in
    rw c.closing_of-then-is_quit.ensures (λ e. inr (runs.read_fault (read_end c.serve-served.result.unsaved c.serve-served.result.end e)))

pub returns-then-is_quit-clause-fault : goal.returns-then-is_quit-clause-fault
returns-then-is_quit-clause-fault g c =
    let on = c.loop.invariant in
    let ready : IsGoing c.loop.went.end × (c.loop.went.unsaved ≡ None) = c.is_going.ensures.0 (search rules) in
    let runs = runs_on c.loop.went.end c.serve-served.result.end _ _ _ _ _ _ _ _ ready.0 on.runs (stays_same _ on.runs.sound) c.serve-served.ensures.runs in
    rw c.closing_of-then-is_quit.ensures (λ e. runs.write_fault (write_end c.serve-served.result.unsaved c.serve-served.result.end e))

pub returns-then-is_quit-clause-journal : goal.returns-then-is_quit-clause-journal
returns-then-is_quit-clause-journal g c =
    let on = c.loop.invariant in
    let ready : IsGoing c.loop.went.end × (c.loop.went.unsaved ≡ None) = c.is_going.ensures.0 (search rules) in
    rw c.closing_of-then-is_quit.ensures (journal_on _ _ c.loop.went.end _ _ _ _ _ _ _ _ _ _ on.runs ready.0 (journal_as _ _ _ _ _ _ _ _ _ _ ready.1 on.journal) c.serve-served.ensures.journal)

-- ---- there were as many parts as a session takes
pub returns-clause-runs : goal.returns-clause-runs
returns-clause-runs g c = rw c.closing_of-2.ensures c.loop.invariant.runs

pub returns-clause-status_is : goal.returns-clause-status_is
returns-clause-status_is g c = rw c.closing_of-2.ensures (decided c.loop.went.unsaved c.loop.went.end (λ h. (c.loop.invariant.journal.stuck h).1))

pub returns-clause-unended : goal.returns-clause-unended
returns-clause-unended g c = rw c.closing_of-2.ensures (unended c.loop.went.unsaved c.loop.went.end)

pub returns-clause-unrecorded : goal.returns-clause-unrecorded
returns-clause-unrecorded g c = rw c.closing_of-2.ensures (unrecorded c.loop.went.unsaved c.loop.went.end)

pub returns-clause-typed : goal.returns-clause-typed
returns-clause-typed g c =
    rw c.closing_of-2.ensures
    (typed_until _ _ _ _ _ _ _ _ c.loop.invariant.typing (λ parts counted. stop_whole _ _ parts (inr (inr (omega (arith, counted))))))

pub returns-clause-read_fault : goal.returns-clause-read_fault
returns-clause-read_fault g c = rw c.closing_of-2.ensures (λ e. inr (c.loop.invariant.runs.read_fault (read_end c.loop.went.unsaved c.loop.went.end e)))

pub returns-clause-fault : goal.returns-clause-fault
returns-clause-fault g c = rw c.closing_of-2.ensures (λ e. c.loop.invariant.runs.write_fault (write_end c.loop.went.unsaved c.loop.went.end e))

pub returns-clause-journal : goal.returns-clause-journal
returns-clause-journal g c = rw c.closing_of-2.ensures c.loop.invariant.journal
