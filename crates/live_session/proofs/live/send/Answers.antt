use Rattle.live_session.proofs.Spacings.{given_now, cause_now}
use Rattle.live_session.proofs.live.send.Goals as goal

-- an event that is due at the beginning is due now
pub returns-clause-ok : goal.returns-clause-ok
returns-clause-ok g c = given_now _ _ _ _ _ _ c.send_at.ensures.ok

pub returns-clause-cause : goal.returns-clause-cause
returns-clause-cause g c = cause_now _ _ _ _ c.send_at.ensures.cause
