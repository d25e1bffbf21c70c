use Rattle.std.proofs.Common.{◌≡◌, ℕ, Bool, [], ◌∙◌}
use Rattle.board_mem.specs.Memory.{has}
use Rattle.ppc_core.specs.Buses.{all_ram}
use Rattle.board_bus.specs.BusState.{BusState}
use Rattle.board_bus.specs.Access.{board_meaning}
use Rattle.board_bus.specs.Lawful.{has-all_ram}
use Rattle.board_bus.proofs.access.BoardBusBus.is_ram.Goals as goal

seen : (b : BusState) (at n : ℕ) (t : Bool) → t ≡ has b.ram at n → t ≡ all_ram board_meaning b at n
seen b at n t e = e ∙ has-all_ram b at n

pub returns-clause-is : goal.returns-clause-is
returns-clause-is g c = seen (record { ram = c.args.self.now.ram.bytes; slots = [] }) c.args.addr c.args.n _ c.has.ensures.is
