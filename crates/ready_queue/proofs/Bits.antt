-- The bits of a map after one changes, and the least one that is set.
use Rattle.std.proofs.Common.{◌≡◌, ℕ, ◌+◌, ◌*◌, ◌<◌, ◌≤◌, ◌/◌, ◌%◌, List, set, length, get_or, Some, sym, ap, ◌∙◌, arith, ⊎_elim}
use Rattle.std.specs.Int.{bit_at}
use Rattle.std.proofs.lemmas.Bool.{cases_eq, cases_lt}
use Rattle.std.proofs.lemmas.List.{get_or-set_same, get_or-set_other}
use Rattle.std.proofs.lemmas.Nat.Bits.{bit_at-zero}
use Rattle.ready_queue.specs.Map.{priorities, marked, IsMarked, IsLowest}

-- a word of the map is overwritten
pub word_written : (words : List ℕ) (pri bit word : ℕ) → length words ≡ 8 → pri < priorities → bit_at word (pri % 32) ≡ bit
    → ((other : ℕ) → other < 32 → (other ≡ pri % 32 → ⊥) → bit_at word other ≡ bit_at (get_or words (pri / 32) 0) other)
    → IsMarked words (set words (pri / 32) word) pri bit
word_written words pri bit word len within here others =
    let place : pri / 32 < length words = omega (arith, len, within) in
    record {
      same = ap (λ n. bit_at n (pri % 32)) (get_or-set_same words (pri / 32) word 0 place) ∙ here;
      others = λ other low ne.
          ⊎_elim
          (λ (same : other / 32 ≡ pri / 32).
          let apart : other % 32 ≡ pri % 32 → ⊥ = λ q. ne (omega (arith, same, q)) in
          ap (λ k. bit_at (get_or (set words (pri / 32) word) k 0) (other % 32)) same
          ∙ ap (λ n. bit_at n (other % 32)) (get_or-set_same words (pri / 32) word 0 place)
          ∙ others (other % 32) (omega arith) apart
          ∙ ap (λ k. bit_at (get_or words k 0) (other % 32)) (sym same))
          (λ (apart : other / 32 ≡ pri / 32 → ⊥). ap (λ n. bit_at n (other % 32)) (get_or-set_other words (pri / 32) (other / 32) word 0 apart))
          (cases_eq (other / 32) (pri / 32));
    }

-- a word of 0 has no bit set
pub word_empty : (words : List ℕ) (pri : ℕ) → get_or words (pri / 32) 0 ≡ 0 → marked words pri ≡ 0
word_empty words pri none = ap (λ n. bit_at n (pri % 32)) none ∙ bit_at-zero (pri % 32)

-- the lowest bit of the first word that is not 0 is the least bit of the map
pub least_marked : (words : List ℕ) (place bit : ℕ) → length words ≡ 8 → place < 8 → IsLowest (get_or words place 0) (Some bit) → ((k : ℕ) → k < place → get_or words k 0 ≡ 0)
    → (place * 32 + bit < priorities) × (marked words (place * 32 + bit) ≡ 1) × ((less : ℕ) → less < place * 32 + bit → marked words less ≡ 0)
least_marked words place bit len within lowest before =
    let low : bit < 32 = lowest.0 in
    let quotient : (place * 32 + bit) / 32 ≡ place = omega (arith, low) in
    let rest : (place * 32 + bit) % 32 ≡ bit = omega (arith, low) in (
      omega (arith, within, low),
      ap (λ k. bit_at (get_or words k 0) ((place * 32 + bit) % 32)) quotient ∙ ap (bit_at (get_or words place 0)) rest ∙ lowest.1,
      λ less h.
          ⊎_elim
          (λ (below : less / 32 < place). word_empty words less (before (less / 32) below))
          (λ (at : place ≤ less / 32).
          let same : less / 32 ≡ place = omega (arith, at, h, low) in
          let under : less % 32 < bit = omega (arith, same, h, low) in
          ap (λ k. bit_at (get_or words k 0) (less % 32)) same ∙ lowest.2 (less % 32) under)
          (cases_lt (less / 32) place),
    )
