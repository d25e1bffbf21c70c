-- The room for what a step writes.
use Rattle.std.specs.Prelude.{◌+◌, ◌≤◌, Bool, true, false, length}
use Rattle.wind_base.specs.OutBuf.{Output}
use Rattle.wind_base.specs.declared.gate.Gate.{Gate}
use Rattle.wind_base.specs.declared.gate.Gate.TheVariants as gates

-- the calls that reserve their own room for what they write
abbrev pub makes_room : Gate → Bool
makes_room gates.I = true
makes_room gates.Lkup = true
makes_room gates.ModuleShow = true
makes_room gates.D = true
makes_room g = false

-- the bytes held and the free room together are at least as many as before
abbrev pub HoldsSpace : Output → Output → Type 0
HoldsSpace old new = old.room + length old.bytes ≤ new.room + length new.bytes
