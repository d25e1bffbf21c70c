use Rattle.std.proofs.Common.{◌≡◌, ℕ, ◌<◌, ◌≤◌, ◌⊎◌, get_or}
use Rattle.ppc_word.specs.declared.decoded.Decoded.{Decoded}
use Rattle.ppc_word.specs.declared.op.Op.TheVariants as ops
use Rattle.board_mem.proofs.code.empty_entries.Given as goal

-- the entries so far are empty, and the others are as they were
abbrev pub invariant-loop-i : goal.invariant-loop-i
invariant-loop-i l = record {
  emptied : (k : ℕ) (d : Decoded) → l.from ≤ k → k < l.i → (get_or l.entries k d).op ≡ ops.Empty;
  others : (k : ℕ) (d : Decoded) → (k < l.from) ⊎ (l.i ≤ k) → get_or l.entries k d ≡ get_or l.fn.entries k d;
}
