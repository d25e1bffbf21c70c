-- What follows from the tables alone.
use Rattle.std.specs.Prelude.{◌≡◌, ℕ, ◌≤◌, ◌^◌, List, Some}
use Rattle.wind_base.specs.Boards.{board_rules}
use Rattle.wind_base.specs.declared.board_kind.BoardKind.{BoardKind}
use Rattle.wind_base.specs.Gates.{gate_name, gate_of, gate_number, gate_at, gate_address}
use Rattle.wind_base.specs.declared.gate.Gate.{Gate}
use Rattle.wind_base.specs.Errno.{errno_number}
use Rattle.wind_base.specs.declared.errno.Errno.{Errno}

-- no two gates have the same name
abbrev pub NamesLaw : Type 0
NamesLaw = (a b : ℕ) (name : List ℕ) → gate_name a ≡ Some name → gate_name b ≡ Some name → a ≡ b

-- no two errors have the same number
abbrev pub NumbersLaw : Type 0
NumbersLaw = (e f : Errno) → errno_number e ≡ errno_number f → e ≡ f

-- the gates are in the order of their numbers, each at its address
pub record GatesLaw : Type 0 where
  pub own : (g : Gate) → gate_of (gate_number g) ≡ Some g
  pub only : (n : ℕ) (g : Gate) → gate_of n ≡ Some g → gate_number g ≡ n
  -- a gate is at its address, and at no other
  pub stands : (base : ℕ) (g : Gate) → gate_at base (gate_address base g) ≡ Some g
  pub place : (base at : ℕ) (g : Gate) → gate_at base at ≡ Some g → at ≡ gate_address base g

-- what all kinds of boards have in common: the pool ends with RAM, the gates follow it, RAM has at least 16 MiB and at
-- most 64 MiB, and the partition at least 16,384 and at most 65,536 blocks
pub record BoardLaw (k : BoardKind) : Type 0 where
  pub pool : (board_rules k).pool_end ≡ (board_rules k).ram_bytes
  pub gates : (board_rules k).gates_start ≡ (board_rules k).ram_bytes
  pub least : 2 ^ 24 ≤ (board_rules k).ram_bytes
  pub most : (board_rules k).ram_bytes ≤ 2 ^ 26
  pub least_blocks : 2 ^ 14 ≤ (board_rules k).blocks
  pub most_blocks : (board_rules k).blocks ≤ 2 ^ 16

abbrev pub BoardsLaw : Type 0
BoardsLaw = (k : BoardKind) → BoardLaw k
