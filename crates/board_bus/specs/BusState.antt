-- The board's bus as plain data.
use Rattle.std.specs.Prelude.{ℕ, List, Option}
use Rattle.wind_outside.specs.Devices.{DeviceState}

-- the bytes of RAM, from address 0 on, and the device slots, each with its device or empty
pub record BusState : Type 0 where
  pub ram : List ℕ
  pub slots : List (Option DeviceState)
