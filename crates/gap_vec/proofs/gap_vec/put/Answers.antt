use Rattle.std.proofs.Common.{ap, ◌∙◌, drop}
use Rattle.gap_vec.proofs.Gaps.{put_after_gap}
use Rattle.gap_vec.proofs.gap_vec.put.Goals as goal

pub returns-clause-items : goal.returns-clause-items
returns-clause-items g c = ap (drop c.args.start) c.in-Ok.ensures.items ∙ put_after_gap c.args.held.now.items c.args.start c.args.at c.args.value c.requires.within
