use Rattle.std.proofs.Common.{inl, inr, get_or, set, ℕ, ap, ◌∙◌, arith}
use Rattle.std.proofs.lemmas.Bool.{cases_eq}
use Rattle.std.proofs.lemmas.List.{get_or-set_same, get_or-set_other}
use Rattle.ppc_word.specs.declared.decoded.Decoded.{Decoded}
use Rattle.board_mem.proofs.code.empty_entries.Goals as goal

pub loop-i-preserved : goal.loop-i-preserved
loop-i-preserved c =
    let l = c.loop-i in
    let x = c.empty.result in
    record {
      emptied = λ k d lo hi. elim (cases_eq k l.i) [
        | inl e ↦ ap (λ (j : ℕ). (get_or (set l.entries l.i x) j d).op) e ∙ ap (λ (y : Decoded). y.op) (get_or-set_same l.entries l.i x d (omega arith)) ∙ c.empty.ensures
        | inr other ↦ ap (λ (y : Decoded). y.op) (get_or-set_other l.entries l.i k x d other) ∙ l.invariant.emptied k d lo (omega arith)
      ];
      others = λ k d out. get_or-set_other l.entries l.i k x d (λ e. elim out [ inl h ↦ omega arith | inr h ↦ omega arith ]) ∙
          l.invariant.others k d (elim out [ inl h ↦ inl h | inr h ↦ inr (omega arith) ]);
    }
