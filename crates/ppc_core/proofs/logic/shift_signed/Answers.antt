use Rattle.std.proofs.Common.{◌≡◌, ℕ, ◌+◌, ◌-◌, ◌/◌, ◌^◌, ◌<◌, ◌≤◌, arith, subst}
use Rattle.std.proofs.lemmas.Nat.{one_shl, shr_below}
use Rattle.ppc_core.proofs.Bounds.{pow_le}
use Rattle.ppc_core.proofs.logic.shift_signed.Goals as goal
use Rattle.ppc_core.proofs.logic.shift_signed.Goals.{then-s-ge2147483648, else-s-ge2147483648}

below : (s k : ℕ) → s < 2 ^ 32 → k ≤ 31 → s / 2 ^ k < 2 ^ (32 - k)
below s k h le = let e : 32 ≡ (32 - k) + k = omega arith in shr_below s (32 - k) k (subst (λ n. s < 2 ^ n) e h)

pub overflow_sub-sign-then-s-ge2147483648 : goal.overflow_sub-sign-then-s-ge2147483648
overflow_sub-sign-then-s-ge2147483648 c =
    let p = pow_le (32 - c.min-k.result) 32 (omega arith) in rw (one_shl (32 - c.min-k.result) 64 (omega arith)) p

pub overflow_cast-result-2 : goal.overflow_cast-result-2
overflow_cast-result-2 c =
    let k : c.min-k.result ≤ 31 = omega (arith, c.min-k.ensures) in
    let b = below c.args.s c.min-k.result (omega arith) k in
    let p = pow_le (32 - c.min-k.result) 32 (omega arith) in
    elim c.if-s-ge2147483648.branch [
      | then-s-ge2147483648 w ↦
          let m = one_shl (32 - c.min-k.result) 64 (omega arith) in
          let f = rw m at w.sign-is in omega arith
      | else-s-ge2147483648 w ↦ omega arith
    ]
