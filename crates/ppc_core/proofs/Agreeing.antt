-- Words that are read alike have the same effect.
use Rattle.std.proofs.Common.{◌≡◌, ℕ, ◌+◌, ◌<◌, List, [], ◌∷◌, sym, ◌∙◌}
use Rattle.ppc_core.specs.Words.{bits}
use Rattle.ppc_core.specs.Fields.{rt, ra, rb, ui, high_ui, si, mb, me, oe, rc, bf, bfa, spr, li, bd, aa, lk, bo, fxm}
use Rattle.ppc_core.specs.Names.{FieldName, RT, RS, RA, RB, TO, BO, BI, BT, BA, BB, SH, MB, ME, BF, BFA, SI, UI, D, BD, LI, FXM, SPR, AA, LK, OE, Rc, place_of, IsRead, AreRead}

-- two words are read alike as the field with a name
abbrev pub IsSame : FieldName → ℕ → ℕ → Type 0
IsSame RT v w = rt v ≡ rt w
IsSame RS v w = rt v ≡ rt w
IsSame RA v w = ra v ≡ ra w
IsSame RB v w = rb v ≡ rb w
IsSame TO v w = (k : ℕ) → k < 5 → bits v (6 + k) (6 + k) ≡ bits w (6 + k) (6 + k)
IsSame BO v w = (k : ℕ) → k < 5 → bo v k ≡ bo w k
IsSame BI v w = ra v ≡ ra w
IsSame BT v w = rt v ≡ rt w
IsSame BA v w = ra v ≡ ra w
IsSame BB v w = rb v ≡ rb w
IsSame SH v w = rb v ≡ rb w
IsSame MB v w = mb v ≡ mb w
IsSame ME v w = me v ≡ me w
IsSame BF v w = bf v ≡ bf w
IsSame BFA v w = bfa v ≡ bfa w
IsSame SI v w = (si v ≡ si w) × (high_ui v ≡ high_ui w)
IsSame UI v w = (ui v ≡ ui w) × (high_ui v ≡ high_ui w)
IsSame D v w = si v ≡ si w
IsSame BD v w = bd v ≡ bd w
IsSame LI v w = li v ≡ li w
IsSame FXM v w = (k : ℕ) → k < 8 → fxm v k ≡ fxm w k
IsSame SPR v w = spr v ≡ spr w
IsSame AA v w = aa v ≡ aa w
IsSame LK v w = lk v ≡ lk w
IsSame OE v w = oe v ≡ oe w
IsSame Rc v w = rc v ≡ rc w

read-same : (n : FieldName) (f v w : ℕ) → IsRead n f v → IsRead n f w → IsSame n v w
read-same RT f v w a b = a ∙ sym b
read-same RS f v w a b = a ∙ sym b
read-same RA f v w a b = a ∙ sym b
read-same RB f v w a b = a ∙ sym b
read-same TO f v w a b = λ k lt. a k lt ∙ sym (b k lt)
read-same BO f v w a b = λ k lt. a k lt ∙ sym (b k lt)
read-same BI f v w a b = a ∙ sym b
read-same BT f v w a b = a ∙ sym b
read-same BA f v w a b = a ∙ sym b
read-same BB f v w a b = a ∙ sym b
read-same SH f v w a b = a ∙ sym b
read-same MB f v w a b = a ∙ sym b
read-same ME f v w a b = a ∙ sym b
read-same BF f v w a b = a ∙ sym b
read-same BFA f v w a b = a ∙ sym b
read-same SI f v w a b = (a.0 ∙ sym b.0, a.1 ∙ sym b.1)
read-same UI f v w a b = (a.0 ∙ sym b.0, a.1 ∙ sym b.1)
read-same D f v w a b = a ∙ sym b
read-same BD f v w a b = a ∙ sym b
read-same LI f v w a b = a ∙ sym b
read-same FXM f v w a b = λ k lt. a k lt ∙ sym (b k lt)
read-same SPR f v w a b = a ∙ sym b
read-same AA f v w a b = a ∙ sym b
read-same LK f v w a b = a ∙ sym b
read-same OE f v w a b = a ∙ sym b
read-same Rc f v w a b = a ∙ sym b

-- two words are read alike at each of these places
abbrev pub AreSame : List (ℕ × ℕ) → ℕ → ℕ → Type 0
AreSame [] v w = Unit {0}
AreSame (p ∷ ps) v w = ((n : FieldName) → place_of n ≡ p → IsSame n v w) × AreSame ps v w

pub reads-same : (ps : List (ℕ × ℕ)) (fs : List ℕ) (v w : ℕ) → AreRead ps fs v → AreRead ps fs w → AreSame ps v w
reads-same [] fs v w a b = tt
reads-same (p ∷ ps) [] v w a b = absurd a
reads-same (p ∷ ps) (f ∷ fs) v w a b = (λ n e. read-same n f v w (a.1 n e) (b.1 n e), reads-same ps fs v w a.2 b.2)
