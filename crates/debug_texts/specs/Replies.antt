-- Replies to packets ("Stop Reply Packets" and "qSupported" in the GDB manual).
use Rattle.std.specs.Prelude.{ℕ, List, [], ◌++◌, codes}
use Rattle.wind_base.specs.Texts.{hex_places}
use Rattle.debug_wire.specs.Numbers.{hex_text}
use Rattle.debug_texts.specs.declared.stop.Cause.{Cause}
use Rattle.debug_texts.specs.declared.stop.Cause.TheVariants.{Library, Exception, Watch, Goal, End, Beginning}
use Rattle.debug_texts.specs.declared.stop.Signal.{Signal}
use Rattle.debug_texts.specs.declared.stop.Signal.TheVariants.{Trap, Illegal, Bus, Segment, System}
use Rattle.debug_texts.specs.declared.stop.Stop.{Stop}

-- the reply to what can't be done, and to what was done
abbrev pub refused : List ℕ
refused = codes "E01"

abbrev pub done : List ℕ
done = codes "OK"

-- what the server supports
unfoldable pub supported : List ℕ
supported =
    codes "PacketSize=8000;ReverseStep+;ReverseContinue+;"
    ++ (codes "qXfer:features:read+;qXfer:threads:read+;qXfer:libraries:read+;" ++ codes "qXfer:memory-map:read+;qXfer:exec-file:read+")

-- the number of a signal
abbrev pub signal_number : Signal → ℕ
signal_number Illegal = 4
signal_number Trap = 5
signal_number Bus = 10
signal_number Segment = 11
signal_number System = 12

-- the signal of a stop: 5 unless an exception or a goal says another
abbrev pub stop_signal : Cause → ℕ
stop_signal (Exception signal) = signal_number signal
stop_signal Goal = 0
stop_signal _ = 5

-- what a stop says of its cause
abbrev pub cause_text : Cause → List ℕ
cause_text Library = codes "library:;"
cause_text (Watch address) = codes "watch:" ++ (hex_text address ++ codes ";")
cause_text End = codes "replaylog:end;"
cause_text Beginning = codes "replaylog:begin;"
cause_text _ = []

-- the reply that tells a stop
abbrev pub stop_text : Stop → List ℕ
stop_text stop = codes "T" ++ (hex_places 2 (stop_signal stop.cause) ++ (cause_text stop.cause ++ (codes "thread:" ++ (hex_text stop.thread ++ codes ";"))))
