use Rattle.std.proofs.Common.{refl}
use Rattle.live_session.specs.Words.{kept_of}
use Rattle.live_session.proofs.playing.play_taken.Goals as goal

pub returns-clause-leaves : goal.returns-clause-leaves
returns-clause-leaves g c = c.play_begun.ensures.leaves _ (kept_of c.args.taken) refl c.requires.takes c.in-Ok.ensures.begins
