use Rattle.std.proofs.Common.{refl}
use Rattle.board_changes.proofs.Walking.{found_here}
use Rattle.board_changes.proofs.walk.found.Goals as goal

pub returns-clause-value : goal.returns-clause-value
returns-clause-value g c =
    found_here g.V.Identified.number c.args.list.now c.args.id c.args.walk.now.place c.args.walk.now.bound c.requires
    (c.if-not-stands_at.ensures.bound refl) (c.if-not-stands_at.ensures.at refl) c.index-list-place.result c.index-list-place.is
