-- What a contract sees of a sink in memory.
use Rattle.std.specs.Prelude.{ℕ, List, true, false}
use Rattle.wind_base.specs.OutBuf.{Output, appended}
use Rattle.wind_outside.specs.Calls.{CallLog, call_counted}
use Rattle.wind_outside.specs.declared.sink.Put.{Put}
use Rattle.wind_outside.specs.declared.sink.Put.TheVariants as puts

-- its bytes with the room left, and its calls
pub record MemSinkState : Type 0 where
  pub out : Output
  pub calls : CallLog

-- the sink after a put, which was done or failed
abbrev pub after_put : MemSinkState → List ℕ → Put → MemSinkState
after_put s piece puts.Done = record { out = appended s.out piece; calls = call_counted s.calls false }
after_put s piece puts.Failed = record { out = s.out; calls = call_counted s.calls true }
