use Rattle.std.proofs.Common.{◌≡◌, ◌∙◌, None, true, false, ap, arith, rules, sym}
use Rattle.wind_base.specs.OutBuf.{Output}
use Rattle.wind_session.specs.declared.run.RunEnd.TheVariants as ends
use Rattle.live_session.proofs.Flow.{quiet_going, runs_on, stays_same}
use Rattle.live_session.proofs.Journaling.{journal_as, journal_on}
use Rattle.live_session.proofs.Moving.{here_on}
use Rattle.live_session.proofs.Ticking.{refused_tick, sent_nothing, sent_tick, stopped_by, ticks_as, ticks_begin, ticks_end, ticks_more, ticks_refused, ticks_stop}
use Rattle.live_session.proofs.running.run_ticks.Goals as goal

pub loop-init : goal.loop-init
loop-init g c = record {
  runs = c.run-went.ensures.runs;
  console = ap (λ (o : Output). o.bytes) c.run-went.ensures.record_is.console;
  comes = λ shelf setup old here. ticks_begin _ _ shelf setup old _ _ _ _ (c.run-went.ensures.made shelf setup old here);
  journal = c.run-went.ensures.journal;
}

pub loop-preserved : goal.loop-preserved
loop-preserved g c =
    let on = c.loop.invariant in
    let tick = c.send_and_run-tick.ensures in
    let ready : (c.loop.went.end ≡ ends.Quiet) × (c.loop.went.unsaved ≡ None) = c.may_tick.ensures.0 (search rules) in
    let going = quiet_going c.loop.went.end ready.0 in
    record {
      runs = runs_on c.loop.went.end _ _ _ _ _ _ _ _ _ going on.runs (stays_same _ on.runs.sound) tick.runs;
      console = tick.console ∙ sent_nothing _ _ ∙ on.console;
      comes = λ shelf setup old here.
          ticks_more _ _ shelf setup old _ _ _ _ _ (ticks_as _ _ shelf setup old _ _ _ _ _ _ _ _ _ _ None ready.1 (on.comes shelf setup old here)) (omega arith) _ ready.0
          (sent_tick _ _ shelf setup old _ _ (sym c.is_some.ensures ∙ c.if-is_some.false) (tick.sends shelf setup old (here_on _ shelf setup old _ _ here _ _ _ on.runs going)));
      journal = journal_on _ _ c.loop.went.end _ _ _ _ _ _ _ _ _ _ on.runs going (journal_as _ _ _ _ _ _ _ _ _ _ ready.1 on.journal) tick.journal;
    }

pub returns-clause-come : goal.returns-clause-come
returns-clause-come g c = λ now shelf setup old here. ticks_end _ _ shelf setup old _ _ _ _ _ (c.loop.invariant.comes shelf setup old here) (omega arith)

-- something is left to do, or a file of the record was not written
pub returns-then-not-may_tick-clause-come : goal.returns-then-not-may_tick-clause-come
returns-then-not-may_tick-clause-come g c = λ now shelf setup old here.
    let stuck : (c.loop.went.end ≡ ends.Quiet) × (c.loop.went.unsaved ≡ None) → ⊥ = λ ready. let given : c.may_tick.result ≡ true = c.may_tick.ensures.1 ready in let differs : c.may_tick.result ≡ false = search rules in cc in
    ticks_stop _ _ shelf setup old _ _ _ _ _ (c.loop.invariant.comes shelf setup old here) (omega arith) (stopped_by c.loop.went.end c.loop.went.unsaved stuck)

-- the tick was refused
pub returns-then-is_some-clause-runs : goal.returns-then-is_some-clause-runs
returns-then-is_some-clause-runs g c =
    let on = c.loop.invariant in
    let ready : (c.loop.went.end ≡ ends.Quiet) × (c.loop.went.unsaved ≡ None) = c.may_tick.ensures.0 (search rules) in
    runs_on c.loop.went.end _ _ _ _ _ _ _ _ _ (quiet_going c.loop.went.end ready.0) on.runs (stays_same _ on.runs.sound) c.send_and_run-tick.ensures.runs

pub returns-then-is_some-clause-console : goal.returns-then-is_some-clause-console
returns-then-is_some-clause-console g c = c.send_and_run-tick.ensures.console ∙ sent_nothing _ _ ∙ c.loop.invariant.console

pub returns-then-is_some-clause-come : goal.returns-then-is_some-clause-come
returns-then-is_some-clause-come g c = λ now shelf setup old here.
    let on = c.loop.invariant in
    let ready : (c.loop.went.end ≡ ends.Quiet) × (c.loop.went.unsaved ≡ None) = c.may_tick.ensures.0 (search rules) in
    let refused = refused_tick _ _ shelf setup old _ _ (sym c.is_some.ensures ∙ c.if-is_some.true)
    (c.send_and_run-tick.ensures.sends shelf setup old (here_on _ shelf setup old _ _ here _ _ _ on.runs (quiet_going c.loop.went.end ready.0))) in
    ticks_refused _ _ shelf setup old _ _ _ _ _ (ticks_as _ _ shelf setup old _ _ _ _ _ _ _ _ _ _ None ready.1 (on.comes shelf setup old here)) (omega arith) refused.0 _ refused.1

pub returns-then-is_some-clause-journal : goal.returns-then-is_some-clause-journal
returns-then-is_some-clause-journal g c =
    let on = c.loop.invariant in
    let ready : (c.loop.went.end ≡ ends.Quiet) × (c.loop.went.unsaved ≡ None) = c.may_tick.ensures.0 (search rules) in
    journal_on _ _ c.loop.went.end _ _ _ _ _ _ _ _ _ _ on.runs (quiet_going c.loop.went.end ready.0) (journal_as _ _ _ _ _ _ _ _ _ _ ready.1 on.journal) c.send_and_run-tick.ensures.journal
