use Rattle.std.proofs.Common.{ap, ◌∙◌, ◌+◌, drop}
use Rattle.gap_vec.proofs.Gaps.{moved_up}
use Rattle.gap_vec.proofs.gap_vec.move_up.Goals as goal

pub returns-clause-items : goal.returns-clause-items
returns-clause-items g c = ap (drop (c.args.start + 1)) c.copy_within.ensures.items ∙ moved_up c.args.held.now.items c.args.start c.args.at c.requires
