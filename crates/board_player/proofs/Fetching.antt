-- What a word that can be fetched says of the gates.
use Rattle.std.proofs.Common.{◌≡◌, ◌≤◌, ℕ, List, length, arith}
use Rattle.wind_base.specs.Boards.{board_rules}
use Rattle.wind_base.specs.declared.board_kind.BoardKind.{BoardKind}
use Rattle.wind_base.proofs.Boarding.{boards_alike}

-- RAM ends where the gates begin
pub ram_below_gates : (board : BoardKind) (ram : List ℕ) → length ram ≡ (board_rules board).ram_bytes → length ram ≤ (board_rules board).gates_start
ram_below_gates board ram size = let gates = (boards_alike board).gates in omega (arith, size, gates)
