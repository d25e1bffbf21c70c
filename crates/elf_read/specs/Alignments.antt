-- What an alignment is: a power of two up to 65,536.
use Rattle.std.specs.Prelude.{◌≡◌, ℕ, ◌≤◌, ◌^◌, true}
use Rattle.elf_read.specs.Rules.{is_alignment}

-- each of these powers is an alignment, each alignment is one of them, and so it is 1 at least and 65,536 at most
pub record AlignmentLaw : Type 0 where
  pub powers : (k : ℕ) → k ≤ 16 → is_alignment (2 ^ k) ≡ true
  pub only : (n : ℕ) → is_alignment n ≡ true → (k : ℕ) × ((k ≤ 16) × (n ≡ 2 ^ k))
  pub between : (n : ℕ) → is_alignment n ≡ true → (1 ≤ n) × (n ≤ 65536)
