-- What a read up to a limit says about what was left of the file.
use Rattle.std.proofs.Common.{◌≡◌, ℕ, ◌+◌, ◌≤◌, List, [], ◌++◌, length, take, Option, None, Some, IfSome, ap, ◌∙◌, subst, arith}
use Rattle.std.proofs.lemmas.List.{length-take, take_all}
use Rattle.std.specs.Option.{option_map}
use Rattle.std.specs.declared.io.Take.{Take}
use Rattle.std.specs.Io.Take.{take_limit, take_inner, take_remaining}

of_prefix : (left : Option (List ℕ)) (bytes : List ℕ) (limit : ℕ) → IfSome (option_map (take (limit + 1)) left) (λ xs. bytes ≡ xs) → length bytes ≤ limit → IfSome left (λ l. bytes ≡ l)
of_prefix None bytes limit h short = tt
of_prefix (Some l) bytes limit h short =
    let all : length l ≤ limit + 1 = omega (arith, length-take (limit + 1) l, ap length h, short) in h ∙ take_all (limit + 1) l all

-- a read that gave at most the limit reached the end
pub whole_read : {R : Type 0} (remaining : R → Option (List ℕ)) (t : Take R) (file : R) (bytes : List ℕ) (limit : ℕ) → take_limit t ≡ limit + 1 → take_inner t ≡ file
    → IfSome (take_remaining remaining t) (λ xs. bytes ≡ [] ++ xs) → length bytes ≤ limit → IfSome (remaining file) (λ left. bytes ≡ left)
whole_read {R} remaining t file bytes limit most of_file h short =
    of_prefix (remaining file) bytes limit
    (subst (λ r. IfSome (option_map (take (limit + 1)) (remaining r)) (λ xs. bytes ≡ xs)) of_file
    (subst (λ n. IfSome (option_map (take n) (remaining (take_inner t))) (λ xs. bytes ≡ xs)) most h))
    short
