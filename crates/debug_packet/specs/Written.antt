-- Packets as gdb writes them: "Packets", "General Query Packets" and "Host I/O Packets" in the GDB manual.
use Rattle.std.specs.Prelude.{◌≡◌, ℕ, ◌^◌, ◌<◌, ◌≤◌, List, [], ◌∷◌, ◌++◌, codes}
use Rattle.std.specs.Fmt.{decimal}
use Prim.Native.Char.{code}
use Rattle.hex.specs.Hex.{IsBytes, encode_lower}
use Rattle.debug_wire.specs.Numbers.{hex_text}
use Rattle.debug_wire.specs.declared.number.ThreadId.{ThreadId}
use Rattle.debug_wire.specs.declared.number.ThreadId.TheVariants as threads
use Rattle.debug_packet.specs.declared.packet.Command.{Command}
use Rattle.debug_packet.specs.declared.packet.Command.TheVariants as commands
use Rattle.debug_packet.specs.declared.packet.FileRequest.{FileRequest}
use Rattle.debug_packet.specs.declared.packet.FileRequest.TheVariants as files
use Rattle.debug_packet.specs.declared.packet.Object.{Object}
use Rattle.debug_packet.specs.declared.packet.Object.TheVariants as objects
use Rattle.debug_packet.specs.declared.packet.Packet.{Packet}
use Rattle.debug_packet.specs.declared.packet.Packet.TheVariants.{Supported, WhyStopped, Registers, Memory, Write, SetThread, IsAlive, Move, Insert, Remove, Transfer, File, Monitor, Attached, Detach, Kill, Unknown, Malformed}
use Rattle.debug_packet.specs.declared.packet.Point.{Point}
use Rattle.debug_packet.specs.declared.packet.Point.TheVariants.{Break, Watch}
use Rattle.debug_packet.specs.declared.packet.Purpose.{Purpose}
use Rattle.debug_packet.specs.declared.packet.Purpose.TheVariants as purposes
use Rattle.debug_packet.specs.declared.packet.Range.{Range}
use Rattle.debug_packet.specs.declared.packet.Way.{Way}
use Rattle.debug_packet.specs.declared.packet.Way.TheVariants.{Step, Continue, StepBack, ContinueBack}
use Rattle.debug_packet.specs.Packets.{greatest_argument, packet_of}

-- ---- parts
-- two numbers with a comma between them
abbrev pub two_texts : ℕ → ℕ → List ℕ
two_texts first second = hex_text first ++ (code "," ∷ hex_text second)

abbrev pub range_text : Range → List ℕ
range_text range = two_texts range.at range.count

abbrev pub thread_text : ThreadId → List ℕ
thread_text threads.All = codes "-1"
thread_text threads.Any = codes "0"
thread_text (threads.Id n) = hex_text n

abbrev pub purpose_letter : Purpose → ℕ
purpose_letter purposes.Registers = code "g"
purpose_letter purposes.Steps = code "c"

abbrev pub way_text : Way → List ℕ
way_text Step = codes "s"
way_text Continue = codes "c"
way_text StepBack = codes "bs"
way_text ContinueBack = codes "bc"

-- the type of a point, its address and its kind or length
abbrev pub point_text : Point → List ℕ
point_text (Break at) = codes "1," ++ two_texts at 4
point_text (Watch range) = codes "2," ++ range_text range

abbrev pub object_name : Object → List ℕ
object_name objects.Features = codes "features"
object_name objects.Threads = codes "threads"
object_name objects.Libraries = codes "libraries"
object_name objects.MemoryMap = codes "memory-map"
object_name objects.ExecFile = codes "exec-file"

abbrev pub command_text : Command → List ℕ
command_text commands.Step = codes "step"
command_text commands.Tasks = codes "i"
command_text commands.Console = codes "console"
command_text (commands.GoTo n) = codes "goto " ++ decimal n
command_text (commands.Events n) = codes "events " ++ decimal n
command_text commands.Help = codes "help"

abbrev pub file_text : FileRequest → List ℕ
file_text (files.SetRoot process) = codes "setfs:" ++ hex_text process
file_text (files.Open name) = codes "open:" ++ (encode_lower name ++ codes ",0,0")
file_text (files.Read file range) = codes "pread:" ++ (hex_text file ++ (code "," ∷ two_texts range.count range.at))
file_text (files.Status file) = codes "fstat:" ++ hex_text file
file_text (files.Close file) = codes "close:" ++ hex_text file

-- ---- packets
-- a packet that asks this; a write, a packet that isn't known and a malformed one are told by one of them each
abbrev pub written : Packet → List ℕ
written Supported = codes "qSupported"
written WhyStopped = codes "?"
written Registers = codes "g"
written (Memory range) = code "m" ∷ range_text range
written Write = codes "G"
written (SetThread purpose thread) = code "H" ∷ purpose_letter purpose ∷ thread_text thread
written (IsAlive thread) = code "T" ∷ thread_text thread
written (Move way) = way_text way
written (Insert point) = code "Z" ∷ point_text point
written (Remove point) = code "z" ∷ point_text point
written (Transfer object range) = codes "qXfer:" ++ (object_name object ++ (codes ":read::" ++ range_text range))
written (File request) = codes "vFile:" ++ file_text request
written (Monitor command) = codes "qRcmd," ++ encode_lower (command_text command)
written Attached = codes "qAttached"
written Detach = codes "D"
written Kill = codes "k"
written Unknown = []
written Malformed = codes "m"

-- ---- what a packet can ask
-- a number of 64 bits
abbrev pub IsWord : ℕ → Type 0
IsWord n = n < 2 ^ 64

abbrev pub IsRange : Range → Type 0
IsRange range = IsWord range.at × IsWord range.count

abbrev pub IsThread : ThreadId → Type 0
IsThread (threads.Id n) = (0 < n) × IsWord n
IsThread thread = Unit {0}

abbrev pub IsPoint : Point → Type 0
IsPoint (Break at) = IsWord at
IsPoint (Watch range) = IsRange range

abbrev pub IsCommand : Command → Type 0
IsCommand (commands.GoTo n) = n ≤ greatest_argument
IsCommand (commands.Events n) = n ≤ greatest_argument
IsCommand command = Unit {0}

abbrev pub IsRequest : FileRequest → Type 0
IsRequest (files.SetRoot process) = IsWord process
IsRequest (files.Open name) = IsBytes name
IsRequest (files.Read file range) = IsWord file × IsRange range
IsRequest (files.Status file) = IsWord file
IsRequest (files.Close file) = IsWord file

-- its numbers have 64 bits, those of commands 13 decimal digits, and names consist of bytes
abbrev pub IsPacket : Packet → Type 0
IsPacket (Memory range) = IsRange range
IsPacket (SetThread purpose thread) = IsThread thread
IsPacket (IsAlive thread) = IsThread thread
IsPacket (Insert point) = IsPoint point
IsPacket (Remove point) = IsPoint point
IsPacket (Transfer object range) = IsRange range
IsPacket (File request) = IsRequest request
IsPacket (Monitor command) = IsCommand command
IsPacket packet = Unit {0}

-- what gdb writes reads back as what it asks
abbrev pub WrittenLaw : Type 0
WrittenLaw = (p : Packet) → IsPacket p → packet_of (written p) ≡ p
