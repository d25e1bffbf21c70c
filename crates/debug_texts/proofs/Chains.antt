-- Several pieces added one after another.
use Rattle.std.proofs.Common.{◌≡◌, ℕ, suc, ◌+◌, ◌-◌, ◌<◌, List, ◌++◌, refl, ap, ◌∙◌, append_assoc, arith}
use Rattle.debug_texts.specs.Target.{general_register, general_registers}

-- a piece before what comes after it
pub more : (text new piece rest : List ℕ) → new ≡ text ++ piece → new ++ rest ≡ text ++ (piece ++ rest)
more text new piece rest is = ap (λ t. t ++ rest) is ∙ append_assoc text piece rest

-- the general registers from one on
pub one_register : (r : ℕ) → r < 32 → general_registers r (32 - r) ≡ general_register r ++ general_registers (r + 1) (32 - (r + 1))
one_register r less = let left : 32 - r ≡ suc (32 - (r + 1)) = omega arith in rw left refl
