use Rattle.std.proofs.Common.{ap, ◌∙◌, drop}
use Rattle.gap_vec.proofs.Gaps.{moved_down}
use Rattle.gap_vec.proofs.gap_vec.move_down.Goals as goal

pub returns-clause-items : goal.returns-clause-items
returns-clause-items g c = ap (drop c.args.start) c.remove.ensures.items ∙ moved_down c.args.held.now.items c.args.start c.args.at c.requires
