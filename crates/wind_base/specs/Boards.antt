-- The kinds of boards, with the table of what differs between them: this project's own.
use Rattle.wind_base.specs.declared.board_kind.BoardKind.{BoardKind}
use Rattle.wind_base.specs.declared.board_kind.BoardKind.TheVariants.{One, Two}
use Rattle.wind_base.specs.declared.board_kind.BoardRules.{BoardRules}
use Rattle.wind_base.specs.declared.board_kind.Side.TheVariants.{Low, High}

-- what differs: the size of RAM, which begins at address 0, the first gate, the end of the pool, the most blocks, and
-- the side of a module's segments
abbrev pub board_rules : BoardKind → BoardRules
board_rules One = record
    { ram_bytes = 0x01000000; gates_start = 0x01000000; pool_end = 0x01000000; blocks = 16384; segments = Low }
board_rules Two = record
    { ram_bytes = 0x04000000; gates_start = 0x04000000; pool_end = 0x04000000; blocks = 65536; segments = High }
