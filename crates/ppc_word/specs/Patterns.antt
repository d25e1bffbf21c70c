-- A form, as the code stores it: by its fixed bits, and with its pieces in eight places.
use Rattle.std.specs.Prelude.{ℕ, ◌+◌, ◌-◌, ◌*◌, ◌^◌, List, [], ◌∷◌, length, get_or, take}
use Rattle.ppc_word.specs.declared.piece.Piece.{Piece}
use Rattle.ppc_word.specs.declared.piece.Piece.TheVariants.{Fixed, Field}
use Rattle.ppc_word.specs.declared.pattern.Pattern.{Pattern}
use Rattle.ppc_word.specs.Words.{bits}
use Rattle.ppc_word.specs.Table.{Form}

-- the mask of the fixed bits
unfoldable pub mask : List Piece → ℕ
mask [] = 0
mask (Fixed w v ∷ ps) = (2 ^ w - 1) * 2 ^ bits ps + mask ps
mask (Field w ∷ ps) = 0 * 2 ^ bits ps + mask ps

-- the values of the fixed bits
unfoldable pub held : List Piece → ℕ
held [] = 0
held (Fixed w v ∷ ps) = v * 2 ^ bits ps + held ps
held (Field w ∷ ps) = 0 * 2 ^ bits ps + held ps

-- the piece at a place, or an empty one after the last
abbrev pub piece_at : Form → ℕ → Piece
piece_at f k = get_or f.pieces k (Fixed 0 0)

-- the pattern of a form
abbrev pub pattern_of : Form → Pattern
pattern_of f =
    record {
      row = f.row;
      rule = f.rule;
      mask = mask f.pieces;
      held = held f.pieces;
      count = length f.pieces;
      p0 = piece_at f 0;
      p1 = piece_at f 1;
      p2 = piece_at f 2;
      p3 = piece_at f 3;
      p4 = piece_at f 4;
      p5 = piece_at f 5;
      p6 = piece_at f 6;
      p7 = piece_at f 7;
    }

-- the eight places of a pattern
abbrev pub eight : Pattern → List Piece
eight p = p.p0 ∷ p.p1 ∷ p.p2 ∷ p.p3 ∷ p.p4 ∷ p.p5 ∷ p.p6 ∷ p.p7 ∷ []

-- the pieces of a pattern
abbrev pub pieces_of : Pattern → List Piece
pieces_of p = take p.count (eight p)
