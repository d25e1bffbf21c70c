use Rattle.std.proofs.Common.{ℕ, None, refl, subst}
use Rattle.wind_session.specs.Keeping.{messages}
use Rattle.live_session.specs.Moments.{IsTold}
use Rattle.live_session.specs.Spacing.{sent_text}
use Rattle.live_session.proofs.events.run_counted_ticks.Goals as goal

pub returns-clause-come : goal.returns-clause-come
returns-clause-come g c = λ now shelf setup old here. record {
  ran = _;
  come = c.run_ticks-went.ensures.come now shelf setup old here;
  same = refl;
  told =
      subst (λ (count : ℕ). IsTold (sent_text count None) (messages g.E.Sink c.run_ticks-went.new.err) (messages g.E.Sink c.tell_sent.new.err)) c.saturating_sub.ensures
      c.tell_sent.ensures.printed;
}

pub returns-clause-journal : goal.returns-clause-journal
returns-clause-journal g c = c.run_ticks-went.ensures.journal
