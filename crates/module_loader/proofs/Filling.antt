-- A segment's bytes in its block: zeros are written over the whole block, and then the bytes over its beginning.
use Rattle.std.proofs.Common.{◌≡◌, ℕ, ◌+◌, ◌-◌, ◌≤◌, eqb, cond, true, false, List, [], ◌++◌, length, take, drop, refl, sym, ap, ◌∙◌, arith, length-append}
use Rattle.std.specs.Prelude.{replicate}
use Rattle.std.proofs.lemmas.Bool.{eqb-true}
use Rattle.std.proofs.lemmas.Bool.Decides.{nat_tests}
use Rattle.std.proofs.lemmas.List.{append_assoc, length-take, length-replicate, replicate-append-replicate, take-take, take-append-le, drop-drop, drop-append-le, drop_all, drop-replicate}
use Rattle.board_mem.specs.Memory.{has, with_bytes}
use Rattle.mem_partition.specs.Place.{rounded}
use Rattle.mem_partition.proofs.Allocs.{rounded_holds}
use Rattle.module_loader.specs.Loading.{block_size, in_block, stored}

-- a block has all bytes of its segment
pub block_holds : (n : ℕ) → n ≤ block_size n
unfolding block_size
block_holds n = elim (eqb n 0) as (λ t. eqb n 0 ≡ t → n ≤ cond t 0 (rounded n)) [
  | true ↦ λ h. let z = eqb-true n 0 h in omega arith
  | false ↦ λ h. rounded_holds n
] refl

-- n zeros
abbrev zeros : ℕ → List ℕ
zeros n = replicate n 0

length-zeros : (n : ℕ) → length (zeros n) ≡ n
length-zeros n = length-replicate {A = ℕ} n 0

pub length-in_block : (bytes : List ℕ) → length (in_block bytes) ≡ block_size (length bytes)
unfolding in_block
length-in_block bytes =
    let n : ℕ = block_size (length bytes) - length bytes in
    let holds = block_holds (length bytes) in
    let many = length-zeros n in
    length-append bytes (zeros n) ∙ omega (arith, many, holds)

-- zeros fill the block
pub zeros_in_block : (n : ℕ) → in_block (replicate n 0) ≡ replicate (block_size n) 0
unfolding in_block
zeros_in_block n =
    let holds = block_holds n in
    let sum : n + (block_size n - n) ≡ block_size n = omega (arith, holds) in
    ap (λ k. zeros n ++ zeros (block_size k - k)) (length-zeros n)
    ∙ replicate-append-replicate n (block_size n - n) 0 ∙ ap zeros sum

-- bytes written over the first of the zeros are the bytes followed by zeros, in the parts of RAM
over_parts : (ram prefix suffix bytes rest : List ℕ) (at m : ℕ) → length prefix ≡ at → length bytes ≤ m → take at prefix ≡ prefix → rest ≡ zeros (m - length bytes)
    → take at (prefix ++ zeros m ++ suffix) ++ bytes ++ drop (at + length bytes) (prefix ++ zeros m ++ suffix) ≡ prefix ++ (bytes ++ rest) ++ suffix
over_parts ram prefix suffix bytes rest at m lf few same re =
    let n : ℕ = length bytes in
    let lz = length-zeros m in
    let lb = length-append prefix (zeros m) in
    let before : take at (prefix ++ zeros m ++ suffix) ≡ prefix =
    take-append-le at (prefix ++ zeros m) suffix (omega arith) ∙ take-append-le at prefix (zeros m) (omega arith) ∙ same in
    let none : drop at prefix ≡ [] = drop_all at prefix (omega arith) in
    let inner : drop (at + n) (prefix ++ zeros m) ≡ rest =
    sym (drop-drop n at (prefix ++ zeros m)) ∙ ap (drop n) (drop-append-le at prefix (zeros m) (omega arith) ∙ ap (λ x. x ++ zeros m) none) ∙ drop-replicate n m 0 ∙ sym re in
    let after : drop (at + n) (prefix ++ zeros m ++ suffix) ≡ rest ++ suffix =
    drop-append-le (at + n) (prefix ++ zeros m) suffix (omega arith) ∙ ap (λ x. x ++ suffix) inner in
    ap (λ x. x ++ bytes ++ drop (at + n) (prefix ++ zeros m ++ suffix)) before
    ∙ ap (λ x. prefix ++ bytes ++ x) after
    ∙ sym (append_assoc (prefix ++ bytes) rest suffix)
    ∙ ap (λ x. x ++ suffix) (append_assoc prefix bytes rest)

pub over_zeros : (ram bytes : List ℕ) (at m : ℕ) → length bytes ≤ m → at + m ≤ length ram
    → with_bytes (with_bytes ram at (replicate m 0)) at bytes ≡ with_bytes ram at (bytes ++ replicate (m - length bytes) 0)
over_zeros ram bytes at m few fits =
    let n : ℕ = length bytes in
    let lf : length (take at ram) ≡ at = length-take at ram ∙ omega arith in
    let lz = length-zeros m in
    let lr = length-zeros (m - n) in
    let whole : length (zeros m) ≡ length (bytes ++ zeros (m - n)) = omega (arith, lz, lr, length-append bytes (zeros (m - n)), few) in
    over_parts ram (take at ram) (drop (at + length (zeros m)) ram) bytes (zeros (m - n)) at m lf few (take-take at at ram (omega arith)) refl
    ∙ ap (λ k. take at ram ++ (bytes ++ zeros (m - n)) ++ drop (at + k) ram) whole

-- the bytes of a segment over a block of zeros
pub filled_up : (ram bytes : List ℕ) (at : ℕ) → at + block_size (length bytes) ≤ length ram
    → with_bytes (with_bytes ram at (in_block (replicate (length bytes) 0))) at bytes ≡ with_bytes ram at (in_block bytes)
unfolding in_block
filled_up ram bytes at fits =
    ap (λ x. with_bytes (with_bytes ram at x) at bytes) (zeros_in_block (length bytes))
    ∙ over_zeros ram bytes at (block_size (length bytes)) (block_holds (length bytes)) fits

is_there : (ram : List ℕ) (at n : ℕ) → at + block_size n ≤ length ram → has ram at n ≡ true
is_there ram at n fits = let holds = block_holds n in let within : at + n ≤ length ram = omega arith in grind (arith, nat_tests)

-- what a copy leaves over the zeros
pub after_copy : (ram zeroed new bytes : List ℕ) (at : ℕ) → at + block_size (length bytes) ≤ length ram → length zeroed ≡ length ram
    → zeroed ≡ stored ram (at, in_block (replicate (length bytes) 0))
    → new ≡ cond (has zeroed at (length bytes)) (with_bytes zeroed at bytes) zeroed → new ≡ stored ram (at, in_block bytes)
unfolding stored
after_copy ram zeroed new bytes at fits same zero made =
    let there : has zeroed at (length bytes) ≡ true = is_there zeroed at (length bytes) (omega arith) in
    made ∙ ap (λ t. cond t (with_bytes zeroed at bytes) zeroed) there ∙ ap (λ x. with_bytes x at bytes) zero ∙ filled_up ram bytes at fits
