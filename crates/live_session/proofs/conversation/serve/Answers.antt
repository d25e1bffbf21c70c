use Rattle.std.proofs.Common.{refl, sym}
use Rattle.live_session.proofs.Flow.{runs_none}
use Rattle.live_session.proofs.Journaling.{journal_none}
use Rattle.live_session.proofs.Ticking.{sent_nothing}
use Rattle.live_session.proofs.conversation.serve.Goals as goal

pub returns-in-Send-clause-serves : goal.returns-in-Send-clause-serves
returns-in-Send-clause-serves g c = λ shelf setup old here. rw c.in-Send.is (c.send_and_run.ensures.sends shelf setup old here)

pub returns-in-Skip-clause-runs : goal.returns-in-Skip-clause-runs
returns-in-Skip-clause-runs g c = rw c.unsent.ensures (runs_none _ _ _ _ c.requires.going c.requires.sound c.requires.over)

pub returns-in-Skip-clause-console : goal.returns-in-Skip-clause-console
returns-in-Skip-clause-console g c = rw c.in-Skip.is (sym (sent_nothing _ _))

pub returns-in-Skip-clause-serves : goal.returns-in-Skip-clause-serves
returns-in-Skip-clause-serves g c = λ shelf setup old here. rw (c.unsent.ensures, c.in-Skip.is) (refl, refl)

pub returns-in-Obey-clause-serves : goal.returns-in-Obey-clause-serves
returns-in-Obey-clause-serves g c = λ shelf setup old here. rw c.in-Obey.is (c.obey.ensures.obeys shelf setup old here)

pub returns-in-Skip-clause-journal : goal.returns-in-Skip-clause-journal
returns-in-Skip-clause-journal g c = rw c.unsent.ensures (journal_none _ _ _ _ _)
