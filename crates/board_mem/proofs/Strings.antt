-- A prefix of a buffer that has as many bytes as the longest string with its zero.
use Rattle.std.proofs.Common.{◌≡◌, ℕ, ◌+◌, ◌≤◌, ◌<◌, List, length, take, drop, sym, ap, ◌∙◌, arith}
use Rattle.std.proofs.lemmas.List.{length-take, take-take}
use Rattle.wind_base.specs.Limits.{longest_string}
use Rattle.board_mem.specs.Memory.{bytes_at}

-- its first bytes are those of RAM
pub take-prefix : (ram buffer : List ℕ) (at count n : ℕ) → take count buffer ≡ bytes_at ram at (longest_string + 1) → n < length (take count buffer) → take n buffer ≡ bytes_at ram at n
take-prefix ram buffer at count n same h =
    let le : n ≤ count = omega (arith, h, length-take count buffer) in
    let short : n ≤ longest_string + 1 = omega (arith, h, ap length same, length-take (longest_string + 1) (drop at ram)) in
    sym (take-take n count buffer le) ∙ ap (take n) same ∙ take-take n (longest_string + 1) (drop at ram) short
