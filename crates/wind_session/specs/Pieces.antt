-- What a run puts: one piece for each step that writes anything, in the order of the steps.
use Rattle.std.specs.Prelude.{ℕ, zero, suc, List, [], ◌∷◌, ◌++◌}
use Rattle.wind_outside.specs.Requests.{Piece, piece_of}
use Rattle.wind_outside.specs.declared.sink.Put.{Put}
use Rattle.wind_outside.specs.declared.sink.Put.TheVariants as puts
use Rattle.board_player.specs.WindMachineState.{State}
use Rattle.board_player.specs.WindMachineRun.{Answers, after}

-- the piece of a step's output; an empty output is not put
abbrev pub output_piece : List ℕ → Put → List Piece
output_piece [] outcome = []
output_piece (b ∷ bs) outcome = piece_of (b ∷ bs) outcome ∷ []

-- the pieces of the first k steps from s
abbrev pub pieces_of : Answers → State → ℕ → List Piece
pieces_of said s zero = []
pieces_of said s (suc k) = pieces_of said s k ++ output_piece (after said s (suc k)).world.output puts.Done
