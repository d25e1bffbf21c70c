-- The fields of instructions by their names in the book (Book I 1.7): the place of each, and how execution reads it.
use Rattle.std.specs.Prelude.{◌≡◌, ℕ, ◌+◌, ◌-◌, ◌*◌, ◌/◌, ◌%◌, ◌^◌, ◌<◌, ◌==◌, IsTrue, List, [], ◌∷◌}
use Rattle.ppc_word.specs.Words.{all_zero}
use Rattle.ppc_core.specs.Words.{bits, sign_extended}
use Rattle.ppc_core.specs.Fields.{rt, ra, rb, ui, high_ui, si, mb, me, oe, rc, bf, bfa, spr, li, bd, aa, lk, bo, fxm}

-- the names of the fields
pub data FieldName : Type 0 where
  RT : FieldName
  RS : FieldName
  RA : FieldName
  RB : FieldName
  TO : FieldName
  BO : FieldName
  BI : FieldName
  BT : FieldName
  BA : FieldName
  BB : FieldName
  SH : FieldName
  MB : FieldName
  ME : FieldName
  BF : FieldName
  BFA : FieldName
  SI : FieldName
  UI : FieldName
  D : FieldName
  BD : FieldName
  LI : FieldName
  FXM : FieldName
  SPR : FieldName
  AA : FieldName
  LK : FieldName
  OE : FieldName
  Rc : FieldName

-- the first bit of a field, and its width
abbrev pub place_of : FieldName → ℕ × ℕ
place_of RT = (6, 5)
place_of RS = (6, 5)
place_of RA = (11, 5)
place_of RB = (16, 5)
place_of TO = (6, 5)
place_of BO = (6, 5)
place_of BI = (11, 5)
place_of BT = (6, 5)
place_of BA = (11, 5)
place_of BB = (16, 5)
place_of SH = (16, 5)
place_of MB = (21, 5)
place_of ME = (26, 5)
place_of BF = (6, 3)
place_of BFA = (11, 3)
place_of SI = (16, 16)
place_of UI = (16, 16)
place_of D = (16, 16)
place_of BD = (16, 14)
place_of LI = (6, 24)
place_of FXM = (12, 8)
place_of SPR = (11, 10)
place_of AA = (30, 1)
place_of LK = (31, 1)
place_of OE = (21, 1)
place_of Rc = (31, 1)

-- bit k of a field, counted from its most significant bit
abbrev pub bit_of : ℕ → ℕ → ℕ → ℕ
bit_of width f k = f / 2 ^ (width - 1 - k) % 2

-- execution reads this number as the field with this name: an immediate with its sign or as the high half of a word,
-- SPR with its halves swapped, a displacement of a branch with two zero bits appended, TO, BO and FXM bit by bit, all others as they are
abbrev pub IsRead : FieldName → ℕ → ℕ → Type 0
IsRead RT f w = rt w ≡ f
IsRead RS f w = rt w ≡ f
IsRead RA f w = ra w ≡ f
IsRead RB f w = rb w ≡ f
IsRead TO f w = (k : ℕ) → k < 5 → bits w (6 + k) (6 + k) ≡ bit_of 5 f k
IsRead BO f w = (k : ℕ) → k < 5 → bo w k ≡ bit_of 5 f k
IsRead BI f w = ra w ≡ f
IsRead BT f w = rt w ≡ f
IsRead BA f w = ra w ≡ f
IsRead BB f w = rb w ≡ f
IsRead SH f w = rb w ≡ f
IsRead MB f w = mb w ≡ f
IsRead ME f w = me w ≡ f
IsRead BF f w = bf w ≡ f
IsRead BFA f w = bfa w ≡ f
IsRead SI f w = (si w ≡ sign_extended 16 f) × (high_ui w ≡ f * 2 ^ 16)
IsRead UI f w = (ui w ≡ f) × (high_ui w ≡ f * 2 ^ 16)
IsRead D f w = si w ≡ sign_extended 16 f
IsRead BD f w = bd w ≡ sign_extended 16 (f * 4)
IsRead LI f w = li w ≡ sign_extended 26 (f * 4)
IsRead FXM f w = (k : ℕ) → k < 8 → fxm w k ≡ bit_of 8 f k
IsRead SPR f w = spr w ≡ f % 2 ^ 5 * 2 ^ 5 + f / 2 ^ 5
IsRead AA f w = aa w ≡ (f == 1)
IsRead LK f w = lk w ≡ (f == 1)
IsRead OE f w = oe w ≡ (f == 1)
IsRead Rc f w = rc w ≡ (f == 1)

-- execution reads these numbers at these places of a word: each place has a name, and each of its names reads its number;
-- the numbers left over are 0
abbrev pub AreRead : List (ℕ × ℕ) → List ℕ → ℕ → Type 0
AreRead [] fs w = IsTrue (all_zero fs)
AreRead (p ∷ ps) [] w = ⊥
AreRead (p ∷ ps) (f ∷ fs) w =
    ((n : FieldName) × (place_of n ≡ p)) × ((n : FieldName) → place_of n ≡ p → IsRead n f w) × AreRead ps fs w
