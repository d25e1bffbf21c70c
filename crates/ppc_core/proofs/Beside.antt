-- What a program counter beside the registers leaves alone.
use Rattle.std.proofs.Common.{◌≡◌, ℕ, refl}
use Rattle.wind_base.specs.declared.regs.Regs.{Regs}
use Rattle.ppc_core.specs.declared.storage.Address.{Address}
use Rattle.ppc_core.specs.declared.storage.Address.TheVariants as address
use Rattle.ppc_core.specs.Registers.{gpr, with_gpr}
use Rattle.ppc_core.specs.Storage.{address_of, with_base}
use Rattle.ppc_core.specs.Stepping.{at_pc}

pub address_of_at : (a : Address) (r : Regs) (pc w : ℕ) → address_of a (at_pc r pc) w ≡ address_of a r w
unfolding gpr
address_of_at address.Offset r pc w = refl
address_of_at address.OffsetUpdate r pc w = refl
address_of_at address.Indexed r pc w = refl
address_of_at address.IndexedUpdate r pc w = refl

pub with_base_at : (a : Address) (r : Regs) (pc w at : ℕ) → with_base a (at_pc r pc) w at ≡ at_pc (with_base a r w at) pc
unfolding with_gpr
with_base_at address.Offset r pc w at = refl
with_base_at address.OffsetUpdate r pc w at = refl
with_base_at address.Indexed r pc w at = refl
with_base_at address.IndexedUpdate r pc w at = refl
