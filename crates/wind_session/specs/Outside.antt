-- What the folder and the sink of a session log.
use Rattle.std.specs.Prelude.{ℕ, List, ◌++◌, Option}
use Rattle.std.specs.Option.{option_map}
use Rattle.wind_outside.specs.Requests.{Request, Piece}
use Rattle.generated_session.specs.Puts.{SinkLog}
use Rattle.wind_session.specs.Command.{CommandState}
use Rattle.wind_session.specs.Fetches.{source_requests}

-- the requests of the folder; the bytes of the sink and the pieces that were put
pub record Outside : Type 0 where
  pub requests : Option (List Request)
  pub bytes : Option (List ℕ)
  pub pieces : Option (List Piece)

abbrev pub outside : Option (List Request) → Option (List ℕ) → Option (List Piece) → Outside
outside requests bytes pieces = record { requests = requests; bytes = bytes; pieces = pieces }

-- what its sink tells
abbrev pub sink_of : Outside → SinkLog
sink_of seen = record { bytes = seen.bytes; pieces = seen.pieces }

-- the same when the files of a command were found
abbrev pub with_inputs : CommandState → Outside → Outside
with_inputs command seen = record seen { requests = option_map (λ xs. xs ++ source_requests command.source command) seen.requests }
