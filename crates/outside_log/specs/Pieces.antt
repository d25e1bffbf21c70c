-- The pieces that a log tells.
use Rattle.std.specs.Prelude.{List, Option, Vec, map}
use Rattle.std.specs.Option.{option_map}
use Rattle.std.specs.declared.alloc.Global.{Global}
use Rattle.wind_outside.specs.Requests.{Piece}
use Rattle.outside_log.specs.declared.sink.LoggedPut.{LoggedPut}

-- an entry as a piece
abbrev pub piece_seen : LoggedPut → Piece
piece_seen entry = record { bytes = entry.bytes.items; outcome = entry.outcome }

-- the pieces of a log
abbrev pub pieces_seen : Option (Vec LoggedPut Global) → Option (List Piece)
pieces_seen log = option_map (λ entries. map piece_seen entries.items) log
