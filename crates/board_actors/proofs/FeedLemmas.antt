-- The chunks of the console file.
use Rattle.std.proofs.Common.{◌≡◌, ℕ, ◌<◌, List, ◌++◌, None, true, false, ap, ◌∙◌, arith, length, take, drop}
use Rattle.std.specs.Prelude.{nat_lt, if◌then◌else◌}
use Rattle.std.proofs.lemmas.Bool.Decides.{nat_tests}
use Rattle.wind_machine.specs.Feed.{first_end, taken_by, is_unended, supplied, chunk, after_chunk}

-- a chunk without an end of line is 4096 bytes, if more are left
pub long_chunk : (left : List ℕ) → first_end left ≡ None → 4096 < length left → chunk left ≡ take 4096 left ++ supplied false
long_chunk left e long =
    let within : nat_lt 4096 (length left) ≡ true = grind (arith, nat_tests) in
    ap (λ o. take (taken_by o) left ++ supplied (is_unended o left)) e ∙ ap (λ t. take 4096 left ++ supplied (if t then false else true)) within

pub long_after : (left : List ℕ) → first_end left ≡ None → after_chunk left ≡ drop 4096 left
long_after left e = ap (λ o. drop (taken_by o) left) e
