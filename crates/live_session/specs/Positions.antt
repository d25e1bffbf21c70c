-- Where the input is, and what a part of it sends to the board.
use Rattle.std.specs.Prelude.{ℕ, ◌-◌, Bool, ◌==◌, ◌||◌, if◌then◌else◌, List, [], ◌∷◌, length, slice_index}
use Rattle.live_session.specs.DotLines.{is_dotted, dot_line_of}
use Rattle.live_session.specs.declared.dot_line.DotLine.{DotLine}
use Rattle.live_session.specs.declared.dot_line.DotLine.TheVariants.{Break}
use Rattle.live_session.specs.declared.serving.Position.{Position}
use Rattle.live_session.specs.declared.serving.Position.TheVariants.{Start, Text, Command}
use Rattle.live_session.specs.declared.serving.Request.{Request}
use Rattle.live_session.specs.declared.serving.Request.TheVariants.{Send, Skip, Obey}

-- the board's line is empty after this byte: 0x0A and 0x0D end it, and 0x03 and 0x15 clear it
abbrev pub empties_line : ℕ → Bool
empties_line byte = byte == 10 || (byte == 13 || (byte == 3 || byte == 21))

abbrev pub last_of : List ℕ → ℕ
last_of part = slice_index part (length part - 1)

-- where the input is after a part of a line for the program, or for the board
abbrev pub after_command : ℕ → Position
after_command last = if last == 10 then Start else Command

abbrev pub after_text : ℕ → Position
after_text last = if empties_line last then Start else Text

-- where the input is after a part
abbrev pub position_after : Position → List ℕ → Position
position_after Start part = if is_dotted part then after_command (last_of part) else after_text (last_of part)
position_after Text part = after_text (last_of part)
position_after Command part = after_command (last_of part)

-- what a part asks for: its bytes are for the board, or it begins a line for the program, or it goes on in one
abbrev pub request_of : Position → List ℕ → Request
request_of Start part = if is_dotted part then Obey (dot_line_of part) else Send
request_of Text part = Send
request_of Command part = Skip

-- a line for the program sends 0x03 if it is `.break`, and nothing otherwise
abbrev pub dot_sent : DotLine → List ℕ
dot_sent Break = 3 ∷ []
dot_sent line = []

-- what a part sends: itself, unless it belongs to a line for the program
abbrev pub sent_of : Request → List ℕ → List ℕ
sent_of Send part = part
sent_of Skip part = []
sent_of (Obey line) part = dot_sent line
