-- The spans of a run under way.
use Rattle.std.proofs.Common.{◌≡◌, ℕ, zero, suc, ◌+◌, if◌then◌else◌, Option, refl, sym, ap, ap₂, ◌∙◌, arith, add-one}
use Rattle.kernel_world.specs.declared.reply.Reply.{Reply}
use Rattle.wind_machine.specs.Run.{Answers, after}
use Rattle.wind_machine.specs.Silent.{SilentLaw, SilentSteps}
use Rattle.wind_machine.specs.State.{State}
use Rattle.wind_session.specs.Telling.{GoesOn}
use Rattle.wind_session.proofs.Saying.{Agree, same_after, state_after, state_before}
use Rattle.board_trace.specs.Before.{before_step}
use Rattle.trace_session.specs.Watching.{watched, watched_after, watched_by}
use Rattle.trace_session.proofs.SilentLines.{is_one_instruction}

shorter : (a b : Answers) (k : ℕ) → Agree a b (suc k) → Agree a b k
shorter a b k same j below = same j (omega (arith, below))

same_watch : (a b : Answers) (s : State) (k : ℕ) → Agree a b k → watched_after a s k ≡ watched_after b s k
same_watch a b s zero same = refl
same_watch a b s (suc k) same =
    ap₂ (λ (u v : State). watched_by (before_step u) (watched_after a s k) v) (same_after a b s k (shorter a b k same)) (same_after a b s (suc k) same)
    ∙ ap (λ w. watched_by (before_step (after b s k)) w (after b s (suc k))) (same_watch a b s k (shorter a b k same))

-- one step more
pub watched_now : (said next : Answers) (s u t : State) (reply : Option Reply) (i : ℕ) → GoesOn said next s u t reply i → watched_by (before_step u) (watched_after said s i) t ≡ watched_after next s (i + 1)
watched_now said next s u t reply i on =
    ap₂ (λ (a b : State). watched_by (before_step a) (watched_after said s i) b) (state_before said next s u t reply i on) (state_after said next s u t reply i on)
    ∙ ap (λ w. watched_by (before_step (after next s i)) w (after next s (suc i))) (same_watch said next s i on.same)
    ∙ ap (watched_after next s) (sym (add-one i))

-- instructions that are made at once
module _ (law : SilentLaw) (said : Answers) (s u : State) (i : ℕ) (here : u ≡ after said s i) where
  at_end : (k : ℕ) → i + suc k ≡ suc (i + k)
  at_end k = omega arith

  there : (k : ℕ) (v : State) → SilentSteps k u v → v ≡ after said s (i + k)
  there k v steps = (law said s u v i k here steps).state

  pub watched_on : (k : ℕ) (t : State) → SilentSteps k u t → watched_after said s (i + k) ≡ watched_after said s i
  watched_on zero t steps = let end : i + 0 ≡ i = omega arith in ap (watched_after said s) end
  watched_on (suc k) t steps =
      let v = steps.0 in
      let old = watched_after said s (i + k) in
      ap (watched_after said s) (at_end k)
      ∙ ap₂ (λ (a b : State). watched_by (before_step a) old b) (sym (there k v steps.1)) (sym (there (suc k) t steps ∙ ap (after said s) (at_end k)))
      ∙ ap (λ b. if b then old else watched old t) (is_one_instruction v t steps.2)
      ∙ watched_on k v steps.1
