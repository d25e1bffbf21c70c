-- Texts that are put one after the other, up to the first put that fails, and what the sink tells of them.
use Rattle.std.specs.Prelude.{◌≡◌, ℕ, List, [], ◌∷◌, ◌++◌, Option, map, take}
use Rattle.std.specs.List.{concat}
use Rattle.wind_outside.specs.Appending.{Appended}
use Rattle.wind_outside.specs.Requests.{GrowsBy, Piece, piece_of}
use Rattle.wind_outside.specs.declared.sink.Put.{Put}
use Rattle.wind_outside.specs.declared.sink.Put.TheVariants as puts
use Rattle.wind_outside.specs.declared.sink.Sink.{Ghosts as SinkGhosts}

-- what a sink tells: its bytes, and the pieces put so far
pub record SinkLog : Type 0 where
  pub bytes : Option (List ℕ)
  pub pieces : Option (List Piece)

abbrev pub sink_log : {O : Type 0} → SinkGhosts O → O → SinkLog
sink_log sink o = record { bytes = sink.bytes o; pieces = sink.pieces o }

-- one piece for each of these texts, put whole
abbrev pub whole_pieces : List (List ℕ) → List Piece
whole_pieces texts = map (λ bytes. piece_of bytes puts.Done) texts

-- all of these texts were put, each as one piece
pub record ArePut (texts : List (List ℕ)) (old new : SinkLog) : Type 0 where
  pub bytes : Appended old.bytes new.bytes (concat texts)
  pub pieces : GrowsBy old.pieces new.pieces (whole_pieces texts)

-- the put of one of these texts failed: those before it were put, a part of it was added, and those after it weren't put
pub record AreCutOff (texts : List (List ℕ)) (old new : SinkLog) : Type 0 where
  pub before : List (List ℕ)
  pub failed : List ℕ
  pub after : List (List ℕ)
  pub order : texts ≡ before ++ failed ∷ after
  pub part : ℕ
  pub bytes : Appended old.bytes new.bytes (concat before ++ take part failed)
  pub pieces : GrowsBy old.pieces new.pieces (whole_pieces before ++ piece_of failed puts.Failed ∷ [])

-- these texts were put with this result
abbrev pub PutsTexts : Put → List (List ℕ) → SinkLog → SinkLog → Type 0
PutsTexts puts.Done texts old new = ArePut texts old new
PutsTexts puts.Failed texts old new = AreCutOff texts old new
