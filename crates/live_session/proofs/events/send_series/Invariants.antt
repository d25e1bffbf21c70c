use Rattle.std.proofs.Common.{None}
use Rattle.wind_session.specs.Keeping.{Around}
use Rattle.wind_session.specs.declared.run.RunEnd.TheVariants as ends
use Rattle.live_session.specs.Journal.{Journaled}
use Rattle.live_session.specs.LiveAround.{store}
use Rattle.live_session.specs.Seen.{live_by}
use Rattle.live_session.specs.Words.{command_state}
use Rattle.live_session.proofs.Spacings.{Spaced}
use Rattle.live_session.proofs.events.send_series.Given as goal

-- so many events were sent, and are in the record's files
abbrev pub invariant-loop-count : goal.invariant-loop-count
invariant-loop-count g l =
    let live = live_by (λ d. (goal.Device-dyn g (d.vtable, d.value)).kind_of d.value) (λ d. (goal.Device-dyn g (d.vtable, d.value)).words_of d.value) in
    record {
      spaced : Spaced l.series.count l.series.period l.series.event (live l.fn.live).board.time (live l.fn.live) l.count l.time (live l.live);
      journal : (a : Around) → Journaled (command_state l.target.command.now) None ends.Limit (live l.fn.live) a (store g.D.RecordFolder l.fn.records) (live l.live) a (store g.D.RecordFolder l.records);
    }
