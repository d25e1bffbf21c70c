use Rattle.std.proofs.Common.{◌≤◌, subst, sym}
use Rattle.wind_base.specs.declared.board_kind.BoardRules.{BoardRules}
use Rattle.mem_partition.specs.State.{most_room}
use Rattle.loader_cases.proofs.opening.part_after.Goals as goal

pub with_limit-requires : goal.with_limit-requires
with_limit-requires c = subst (λ (r : BoardRules). r.blocks ≤ most_room) (sym c.rules.ensures) (c.tables_law.ensures.boards c.args.kind).most_blocks
