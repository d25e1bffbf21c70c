use Rattle.std.proofs.Common.{◌≡◌, ℕ, List, [], length, ap, ◌∙◌, arith}
use Rattle.std.proofs.lemmas.List.{length-replicate}
use Rattle.std.proofs.lemmas.List.Elements.{All-nil}
use Rattle.symbol_table.specs.State.{IsNamed}
use Rattle.symbol_table.specs.Chains.{state_of}
use Rattle.symbol_table.proofs.Chaining.{chained_none}
use Rattle.symbol_table.proofs.chains.Chains.new.Goals as goal

pub invariant_of-result : goal.invariant_of-result
invariant_of-result c =
    let none : c.new-3.result.items ≡ [] = c.new-3.ensures.items in
    let names = ap (λ (xs : List ℕ). length xs) c.in_ok-names.ensures.heads ∙ length-replicate {A = ℕ} 64 0 in
    let values = ap (λ (xs : List ℕ). length xs) c.in_ok-values.ensures.heads ∙ length-replicate {A = ℕ} 64 0 in
    let hashes : c.new-4.result.items ≡ [] = c.new-4.ensures.items in
    let runs : c.new-5.result.items ≡ [] = c.new-5.ensures.items in
    rw none (
      omega arith,
      omega arith,
      omega arith,
      record {
        few = omega arith;
        named = All-nil IsNamed;
        names = chained_none 64 (state_of c.in_ok-names.names) (omega arith) c.in_ok-names.ensures.before c.in_ok-names.ensures.heads;
        values = chained_none 64 (state_of c.in_ok-values.values) (omega arith) c.in_ok-values.ensures.before c.in_ok-values.ensures.heads;
        by_name = omega arith;
        by_value = omega arith;
      },
      omega arith,
      ap (λ (xs : List ℕ). length xs) runs,
      rw runs (record { within = omega arith; each = λ i h. absurd (omega arith) }),
      omega arith,
      hashes,
    )
