-- What the kinds of boards have in common.
use Rattle.std.proofs.Common.{rules}
use Rattle.wind_base.specs.Laws.{BoardsLaw}
use Rattle.wind_base.specs.declared.board_kind.BoardKind.TheVariants.{One, Two}

pub boards_alike : BoardsLaw
boards_alike One = search rules
boards_alike Two = search rules
