-- Bounds on words and their bits.
use Rattle.std.proofs.Common.{◌≡◌, ℕ, ◌+◌, ◌-◌, ◌*◌, ◌/◌, ◌%◌, ◌^◌, ◌<◌, ◌≤◌, bit_or, sym, ap, ◌∙◌, lit≤, arith}
use Rattle.std.proofs.lemmas.Nat.{or_lt, pow-add, mul-add-lt, shr_below, mod_below, pow_pos}
use Rattle.std.proofs.Math.Nat.{pow-le-pow_right}
use Rattle.ppc_core.specs.Words.{with_bits}

pub pow_le : (i j : ℕ) → i ≤ j → 2 ^ i ≤ 2 ^ j
pow_le i j h = pow-le-pow_right (lit≤ tt) h

-- a number and the bits below it
low-lt : (at width value rest : ℕ) → value < 2 ^ width → rest < 2 ^ at → value * 2 ^ at + rest < 2 ^ (at + width)
low-lt at width value rest v r = rw (pow-add 2 at width) (mul-add-lt value (2 ^ at) rest (2 ^ width) v r)

-- the bits above k, a number of some bits, and the bits below it are a word
joined-lt : (word at width k value : ℕ) → word < 2 ^ 32 → at + width ≡ k → k ≤ 32 → value < 2 ^ width → word / 2 ^ k * 2 ^ k + value * 2 ^ at + word % 2 ^ at < 2 ^ 32
joined-lt word at width k value w is p v =
    let e : 32 ≡ (32 - k) + k = omega arith in
    let w' : word < 2 ^ ((32 - k) + k) = rw (sym e) w in
    let hi = shr_below word (32 - k) k w' in
    let low : value * 2 ^ at + word % 2 ^ at < 2 ^ k = rw (sym is) (low-lt at width value (word % 2 ^ at) v (mod_below word (2 ^ at) (pow_pos at))) in
    let all = mul-add-lt (word / 2 ^ k) (2 ^ k) (value * 2 ^ at + word % 2 ^ at) (2 ^ (32 - k)) hi low in
    let m : 2 ^ k * 2 ^ (32 - k) ≡ 2 ^ 32 = sym (pow-add 2 k (32 - k)) ∙ ap (λ n. 2 ^ n) (let s : k + (32 - k) ≡ 32 = omega arith in s) in
    omega (arith, all, m)

pub with_bits-lt : (word first last value : ℕ) → word < 2 ^ 32 → first ≤ last → last < 32 → value < 2 ^ (last + 1 - first) → with_bits word first last value < 2 ^ 32
with_bits-lt word first last value w p q v = joined-lt word (31 - last) (last + 1 - first) (32 - first) value w (omega arith) (omega arith) v

-- the OR of two bits
pub or_of_bits : (a b : ℕ) → a < 2 → b < 2 → bit_or a b < 2
or_of_bits a b p q = or_lt 1 a b p q
