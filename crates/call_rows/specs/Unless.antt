-- A call that may be refused.
use Rattle.std.specs.Prelude.{Option, None, Some}
use Rattle.wind_base.specs.declared.errno.Errno.{Errno}

-- a refused call gives `refused` of its error; any other call gives `otherwise`
abbrev pub unless : {T : Type 0} → Option Errno → (Errno → T) → T → T
unless (Some e) refused otherwise = refused e
unless None refused otherwise = otherwise
