use Rattle.live_session.proofs.LivePromises.{live_promised}
use Rattle.live_session.proofs.program.live_program.Goals as goal

-- memory ran out for the devices, before anything was done; the session clause is found
pub returns-clause-promises : goal.returns-clause-promises
returns-clause-promises g c = live_promised c.promise_law.ensures _ _ _ _ _ c.play_on.ensures.leaves
