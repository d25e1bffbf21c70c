use Rattle.wind_session.proofs.Growing.{typed}
use Rattle.wind_session.proofs.laws.growing_law.Goals as goal

pub returns : goal.returns
returns c = typed c.live_law.ensures.grows c.extend_law.ensures.demand c.writing_law.ensures.more c.writing_law.ensures.longer
