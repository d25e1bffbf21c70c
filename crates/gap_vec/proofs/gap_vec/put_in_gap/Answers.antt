use Rattle.std.proofs.Common.{ap, ◌∙◌, ◌+◌, ◌-◌, drop, set}
use Rattle.gap_vec.proofs.Gaps.{put_in_gap}
use Rattle.gap_vec.proofs.gap_vec.put_in_gap.Goals as goal

pub returns-clause-items : goal.returns-clause-items
returns-clause-items g c =
    ap (λ xs. drop (c.args.start - 1) (set xs (c.args.start + c.args.at - 1) c.args.value)) c.copy_within.ensures.items
    ∙ put_in_gap c.args.held.now.items c.args.start c.args.at c.args.value c.requires.some c.requires.within
