-- What a contract sees of an output buffer, and how a piece is added to it.
use Rattle.std.specs.Prelude.{◌≡◌, ℕ, ◌+◌, ◌-◌, ◌≤◌, List, ◌++◌, length}

-- the bytes held, and how many more fit
pub record Output : Type 0 where
  pub bytes : List ℕ
  pub room : ℕ

-- the buffer with the piece at its end
abbrev pub appended : Output → List ℕ → Output
appended out piece = record { bytes = out.bytes ++ piece; room = out.room - length piece }

-- the bytes held and the bytes that still fit are together as many as before
abbrev pub KeepsSpace : Output → Output → Type 0
KeepsSpace old new = new.room + length new.bytes ≡ old.room + length old.bytes

-- the piece, which has at most the given number of bytes, is added at the end
pub record Added (most : ℕ) (old new : Output) (piece : List ℕ) : Type 0 where
  pub bytes : new.bytes ≡ old.bytes ++ piece
  pub room : old.room ≤ new.room + most
  pub space : KeepsSpace old new
