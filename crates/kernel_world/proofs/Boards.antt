-- What holds of the numbers of every board.
use Rattle.std.proofs.Common.{◌<◌, ◌≤◌, ◌^◌, length, arith}
use Rattle.wind_base.specs.Boards.{board_rules}
use Rattle.wind_base.specs.declared.board_kind.BoardKind.{BoardKind}
use Rattle.wind_base.proofs.Boarding.{boards_alike}
use Rattle.kernel_world.specs.State.{WorldState}
use Rattle.kernel_world.specs.Kept.{IsWorld}

-- the gates are in the lower half of 32-bit addresses
pub gates_low : (board : BoardKind) → (board_rules board).gates_start < 2 ^ 31
gates_low board = omega (arith, (boards_alike board).gates, (boards_alike board).most)

-- no more blocks than a partition can be made for
pub blocks_few : (board : BoardKind) → (board_rules board).blocks ≤ 65536
blocks_few board = omega (arith, (boards_alike board).most_blocks)

-- the pool ends with RAM
pub pool_in_ram : (w : WorldState) → IsWorld w → w.part.end ≤ length w.ram
pool_in_ram w kept = omega (arith, kept.pool.end, kept.ram, (boards_alike w.board).pool)
