-- What each packet asks: "Packets", "General Query Packets" and "Host I/O Packets" in the GDB manual's appendix on the
-- remote protocol, as far as a session of windplay answers them.
use Rattle.std.specs.Prelude.{ℕ, ◌+◌, ◌==◌, ◌||◌, nat_eq, if◌then◌else◌, List, [], ◌∷◌, length, take, drop, codes, Option, None, Some, is_some, unwrap_or}
use Rattle.std.specs.List.{starts_with}
use Rattle.std.specs.Option.{option_map_or}
use Rattle.std.specs.Result.{result_ok}
use Rattle.std.specs.Str.{bytes_eq}
use Prim.Native.Char.{code}
use Rattle.hex.specs.Hex.{decode_of}
use Rattle.wind_base.specs.Decimal.{decimal_value}
use Rattle.debug_wire.specs.Numbers.{hex_number, thread_id}
use Rattle.debug_packet.specs.declared.packet.Command.{Command}
use Rattle.debug_packet.specs.declared.packet.Command.TheVariants as commands
use Rattle.debug_packet.specs.declared.packet.FileRequest.{FileRequest}
use Rattle.debug_packet.specs.declared.packet.FileRequest.TheVariants as files
use Rattle.debug_packet.specs.declared.packet.Object.{Object}
use Rattle.debug_packet.specs.declared.packet.Object.TheVariants as objects
use Rattle.debug_packet.specs.declared.packet.Packet.{Packet}
use Rattle.debug_packet.specs.declared.packet.Packet.TheVariants.{Supported, WhyStopped, Registers, Memory, Write, SetThread, IsAlive, Move, Insert, Remove, Transfer, File, Monitor, Attached, Detach, Kill, Unknown, Malformed}
use Rattle.debug_packet.specs.declared.packet.Point.{Point}
use Rattle.debug_packet.specs.declared.packet.Point.TheVariants.{Break, Watch}
use Rattle.debug_packet.specs.declared.packet.Purpose.{Purpose}
use Rattle.debug_packet.specs.declared.packet.Purpose.TheVariants as purposes
use Rattle.debug_packet.specs.declared.packet.Range.{Range}
use Rattle.debug_packet.specs.declared.packet.Way.{Way}
use Rattle.debug_packet.specs.declared.packet.Way.TheVariants.{Step, Continue, StepBack, ContinueBack}
use Rattle.debug_packet.specs.Fields.{◌>>=◌, place_of, range_of, two_numbers}

-- ---- parts of packets
-- a packet whose form gave none is malformed
abbrev pub or_malformed : Option Packet → Packet
or_malformed asked = unwrap_or asked Malformed

-- a packet after whose letter nothing comes
abbrev pub alone : Packet → List ℕ → Packet
alone packet rest = if length rest == 0 then packet else Malformed

-- ---- one letter
-- `m AT,COUNT`
unfoldable pub memory : List ℕ → Option Packet
memory rest = do
  range ← range_of rest
  Some (Memory range)

-- whose registers are told (`g`), or who steps (`c`)
abbrev pub purpose_of : ℕ → Option Purpose
purpose_of letter = if letter == code "g" then Some purposes.Registers else (if letter == code "c" then Some purposes.Steps else None)

-- `H PURPOSE THREAD`
unfoldable pub set_thread : List ℕ → Option Packet
set_thread [] = None
set_thread (letter ∷ rest) = do
  purpose ← purpose_of letter
  thread ← thread_id rest
  Some (SetThread purpose thread)

-- `T THREAD`
unfoldable pub is_alive : List ℕ → Option Packet
is_alive rest = do
  thread ← thread_id rest
  Some (IsAlive thread)

-- `S SIGNAL` and `C SIGNAL`: the signal is passed over
unfoldable pub with_signal : Way → List ℕ → Option Packet
with_signal way rest = do
  signal ← hex_number rest
  Some (Move way)

-- `bs` and `bc`
abbrev pub back : List ℕ → Packet
back rest = if bytes_eq rest (codes "s") then Move StepBack else (if bytes_eq rest (codes "c") then Move ContinueBack else Unknown)

-- a break point is of type 0 or 1, and its kind isn't used; a watch point for writes is of type 2
abbrev pub point_of : ℕ → Range → Option Point
point_of type range = if type == 0 || type == 1 then Some (Break range.at) else (if type == 2 then Some (Watch range) else None)

-- `TYPE,AT,COUNT`: a point, if the type is one of those
unfoldable pub point : List ℕ → Option (Option Point)
point rest = do
  comma ← place_of (code ",") rest
  type ← hex_number (take comma rest)
  range ← range_of (drop (comma + 1) rest)
  Some (point_of type range)

-- `Z TYPE,AT,COUNT`, and `z TYPE,AT,COUNT`
unfoldable pub insert : List ℕ → Option Packet
insert rest = do
  asked ← point rest
  Some (option_map_or Insert asked Unknown)

unfoldable pub remove : List ℕ → Option Packet
remove rest = do
  asked ← point rest
  Some (option_map_or Remove asked Unknown)

-- ---- `qXfer:OBJECT:read:ANNEX:AT,COUNT`
abbrev pub object_of : List ℕ → Option Object
object_of name =
    if bytes_eq name (codes "features") then Some objects.Features
    else (if bytes_eq name (codes "threads") then Some objects.Threads
    else (if bytes_eq name (codes "libraries") then Some objects.Libraries
    else (if bytes_eq name (codes "memory-map") then Some objects.MemoryMap
    else (if bytes_eq name (codes "exec-file") then Some objects.ExecFile
    else None))))

-- after the operation `read`: the annex, which isn't used, and the part of the object
unfoldable pub part_of : Object → List ℕ → Option Packet
part_of object text = do
  colon ← place_of (code ":") text
  range ← range_of (drop (colon + 1) text)
  Some (Transfer object range)

-- after the object: the operation and its arguments
unfoldable pub operation : Object → List ℕ → Option Packet
operation object text = do
  colon ← place_of (code ":") text
  if bytes_eq (take colon text) (codes "read") then part_of object (drop (colon + 1) text) else Some Unknown

-- of an object that isn't known, all is unknown
abbrev pub operation_on : Option Object → List ℕ → Option Packet
operation_on None text = Some Unknown
operation_on (Some object) text = operation object text

-- after `qXfer:`
unfoldable pub transfer : List ℕ → Option Packet
transfer text = do
  colon ← place_of (code ":") text
  operation_on (object_of (take colon text)) (drop (colon + 1) text)

-- ---- `qRcmd,TEXT`, where TEXT is a command in hexadecimal digits
-- the greatest number that a command can have: 13 digits
abbrev pub greatest_argument : ℕ
greatest_argument = 9999999999999

-- a command with a number; without one, help is asked for
abbrev pub with_number : (ℕ → Command) → List ℕ → Command
with_number f text = option_map_or f (decimal_value greatest_argument text) commands.Help

-- `goto N` and `events N`
abbrev pub numbered : List ℕ → Command
numbered text =
    if starts_with nat_eq text (codes "goto ") then with_number commands.GoTo (drop 5 text)
    else (if starts_with nat_eq text (codes "events ") then with_number commands.Events (drop 7 text)
    else commands.Help)

-- `step`, `i`, `console`, or a command with a number
abbrev pub command_of : List ℕ → Command
command_of text =
    if bytes_eq text (codes "step") then commands.Step
    else (if bytes_eq text (codes "i") then commands.Tasks
    else (if bytes_eq text (codes "console") then commands.Console
    else numbered text))

-- the command of a text, if it is in hexadecimal digits
abbrev pub monitor : Option (List ℕ) → Packet
monitor (Some text) = Monitor (command_of text)
monitor None = Malformed

-- after `q`
abbrev pub query : List ℕ → Packet
query text =
    if starts_with nat_eq text (codes "Rcmd,") then monitor (result_ok (decode_of (drop 5 text)))
    else (if starts_with nat_eq text (codes "Supported") then Supported
    else (if starts_with nat_eq text (codes "Xfer:") then or_malformed (transfer (drop 5 text))
    else (if bytes_eq text (codes "Attached") then Attached
    else Unknown)))

-- ---- `vFile:`
-- `open:NAME,FLAGS,MODE`, where NAME is in hexadecimal digits, and the flags and the mode aren't used
abbrev pub opened : Option (List ℕ) → Packet
opened (Some name) = File (files.Open name)
opened None = Malformed

abbrev pub open_file : List ℕ → Packet
open_file text =
    option_map_or (λ comma. if is_some (two_numbers (drop (comma + 1) text)) then opened (result_ok (decode_of (take comma text))) else Malformed)
    (place_of (code ",") text) Malformed

-- `pread:FILE,COUNT,AT`
unfoldable pub read_file : List ℕ → Option Packet
read_file text = do
  comma ← place_of (code ",") text
  file ← hex_number (take comma text)
  numbers ← two_numbers (drop (comma + 1) text)
  Some (File (files.Read file (record { at = numbers.1; count = numbers.0 })))

-- `setfs:PROCESS`, `fstat:FILE` and `close:FILE`
unfoldable pub with_file : (ℕ → FileRequest) → List ℕ → Option Packet
with_file f text = do
  file ← hex_number text
  Some (File (f file))

-- a request by its name
abbrev pub file_request : List ℕ → List ℕ → Packet
file_request name text =
    if bytes_eq name (codes "open") then open_file text
    else (if bytes_eq name (codes "pread") then or_malformed (read_file text)
    else (if bytes_eq name (codes "fstat") then or_malformed (with_file files.Status text)
    else (if bytes_eq name (codes "close") then or_malformed (with_file files.Close text)
    else (if bytes_eq name (codes "setfs") then or_malformed (with_file files.SetRoot text)
    else Unknown))))

-- after `vFile:`
abbrev pub file : List ℕ → Packet
file text = option_map_or (λ colon. file_request (take colon text) (drop (colon + 1) text)) (place_of (code ":") text) Unknown

-- after `v`
abbrev pub v_packet : List ℕ → Packet
v_packet text = if starts_with nat_eq text (codes "File:") then file (drop 5 text) else Unknown

-- ---- the table: a packet by its first letter
abbrev pub letter_packet : ℕ → List ℕ → Packet
letter_packet letter rest =
    if letter == code "?" then alone WhyStopped rest
    else (if letter == code "g" then alone Registers rest
    else (if letter == code "m" then or_malformed (memory rest)
    else (if letter == code "M" || letter == code "X" || letter == code "G" || letter == code "P" then Write
    else (if letter == code "H" then or_malformed (set_thread rest)
    else (if letter == code "T" then or_malformed (is_alive rest)
    else (if letter == code "s" then alone (Move Step) rest
    else (if letter == code "c" then alone (Move Continue) rest
    else (if letter == code "S" then or_malformed (with_signal Step rest)
    else (if letter == code "C" then or_malformed (with_signal Continue rest)
    else (if letter == code "b" then back rest
    else (if letter == code "Z" then or_malformed (insert rest)
    else (if letter == code "z" then or_malformed (remove rest)
    else (if letter == code "D" then alone Detach rest
    else (if letter == code "k" then alone Kill rest
    else Unknown))))))))))))))

-- what the body of a packet asks
unfoldable pub packet_of : List ℕ → Packet
packet_of [] = Unknown
packet_of (letter ∷ rest) = if letter == code "q" then query rest else (if letter == code "v" then v_packet rest else letter_packet letter rest)
