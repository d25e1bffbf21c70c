-- Which tasks a call removes.
use Rattle.std.proofs.Common.{◌≡◌, ℕ, ◌+◌, true, false, IsSome, refl, sym, ap, ◌∙◌, subst, inl, inr, ⊎_elim}
use Rattle.std.proofs.lemmas.Bool.{cases_eq}
use Rattle.wind_base.specs.Limits.{wait_forever}
use Rattle.id_table.specs.Sides.{deletion_side}
use Rattle.wind_core.specs.State.{KernState, Lives, task_of}
use Rattle.wind_core.specs.Moves.{remove, set_again, pended, wake_at, renewed}
use Rattle.wind_core.proofs.Ids.{ids-change, lives_by}
use Rattle.wind_core.proofs.Unwritten.{task_of-without}
use Rattle.task_safety.specs.declared.deleting.Deed.{Deed}
use Rattle.task_safety.specs.declared.deleting.Deed.TheVariants.{Refuses, EndsItself, Removes, Awaits}
use Rattle.task_safety.specs.Safety.{safe_of, deletion, make_safe}
use Rattle.task_safety.specs.Deletion.{deed_of, asked, unguarded, awaiting, after}
use Rattle.task_safety.specs.Laws.{GoesUnsafe, GoneLaw}
use Rattle.task_safety.proofs.Targets.{again_lives, lessen_lives, deed_says, Says}

-- a live task is still live after another is removed
removed_lives : (s : KernState) (who id : ℕ) → (id ≡ who → ⊥) → Lives s id → Lives (remove s who) id
removed_lives s who id other lives = subst (λ o. IsSome o) (sym (task_of-without s.tasks who id other)) lives

awaiting_lives : (s : KernState) (caller who id : ℕ) → Lives s id → Lives (awaiting s caller who) id
awaiting_lives s caller who id lives =
    let marked = set_again s caller true in
    lives_by (awaiting s caller who).tasks marked.tasks id (ids-change marked.tasks caller (λ t. renewed marked.next_since (pended (deletion who) false (wake_at deletion_side marked.tick wait_forever) t)) (λ t. refl))
    (again_lives s caller id true lives)

goes : (s : KernState) (caller n : ℕ) (d : Deed) → Says s.tasks caller n d → GoesUnsafe s caller (after s caller d)
goes s caller n (Refuses e) said id lives gone = absurd (gone (again_lives s caller id false lives))
goes s caller n (EndsItself count) said id lives gone =
    ⊎_elim
    (λ (same : id ≡ caller). inr same)
    (λ (other : id ≡ caller → ⊥). absurd (gone (removed_lives (unguarded s caller count) caller id other (lessen_lives (asked s caller) caller count id (again_lives s caller id false lives)))))
    (cases_eq id caller)
goes s caller n (Removes who) said id lives gone =
    ⊎_elim
    (λ (same : id ≡ who). inl (ap (λ i. safe_of (task_of s.tasks i)) same ∙ said.2))
    (λ (other : id ≡ who → ⊥). absurd (gone (removed_lives (asked s caller) who id other (again_lives s caller id false lives))))
    (cases_eq id who)
goes s caller n (Awaits who) said id lives gone = absurd (gone (awaiting_lives s caller who id lives))

pub who_goes : GoneLaw
who_goes s = record {
  deleting = λ caller target. goes s caller target (deed_of s.tasks caller target) (deed_says s.tasks caller target);
  guarding = λ who id lives. lives_by (make_safe s who).tasks s.tasks id (ids-change s.tasks who (λ t. record t { safe = safe_of (task_of s.tasks who) + 1 }) (λ t. refl)) lives;
  easing = λ who n id lives. lessen_lives s who n id lives;
}
