-- The fetches from a folder and the pieces put to a sink, in order, if they are told. What is untold stays untold.
use Rattle.std.specs.Prelude.{◌≡◌, ℕ, List, ◌++◌, Option, IfSome, IsSomeAnd}
use Rattle.wind_outside.specs.declared.folder.Fetched.{Fetched}
use Rattle.wind_outside.specs.declared.folder.Fetched.TheVariants as fetched
use Rattle.wind_outside.specs.declared.folder.FetchOutcome.{FetchOutcome}
use Rattle.wind_outside.specs.declared.folder.FetchOutcome.TheVariants as outcomes
use Rattle.wind_outside.specs.declared.sink.Put.{Put}

-- how a fetch with this result ended
abbrev pub outcome_of : Fetched → FetchOutcome
outcome_of (fetched.Found bytes) = outcomes.Found
outcome_of fetched.Missing = outcomes.Missing
outcome_of fetched.TooLong = outcomes.TooLong
outcome_of fetched.Failed = outcomes.Failed
outcome_of fetched.NoMemory = outcomes.NoMemory

-- a fetch: the name of the file, the limit, and how it ended
pub record Request : Type 0 where
  pub name : List ℕ
  pub limit : ℕ
  pub outcome : FetchOutcome

-- a fetch as a request
abbrev pub request_of : List ℕ → ℕ → Fetched → Request
request_of name limit answer = record { name = name; limit = limit; outcome = outcome_of answer }

-- a put: the bytes, and how it ended
pub record Piece : Type 0 where
  pub bytes : List ℕ
  pub outcome : Put

-- a put as a piece
abbrev pub piece_of : List ℕ → Put → Piece
piece_of bytes outcome = record { bytes = bytes; outcome = outcome }

-- if anything is told now, it is what was told before with these more at its end; so a log can stop, for good
abbrev pub GrowsBy : {X : Type 0} → Option (List X) → Option (List X) → List X → Type 0
GrowsBy old new more = IfSome new (λ grown. IsSomeAnd old (λ before. grown ≡ before ++ more))
