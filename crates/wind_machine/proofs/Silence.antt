-- Silent steps are steps of a run.
use Rattle.std.proofs.Common.{◌≡◌, ℕ, zero, suc, ◌+◌, ◌≤◌, ◌++◌, Some, None, IsSome, refl, sym, ap, ◌∙◌, subst, arith, append-nil, below_more}
use Rattle.std.specs.Prelude.{unwrap_or}
use Rattle.wind_machine.specs.State.{State}
use Rattle.wind_machine.specs.Machine.{file_asked, machine_step}
use Rattle.wind_machine.specs.Run.{Answers, after, text}
use Rattle.wind_machine.specs.Silent.{IsSilentStep, SilentSteps, GoesOn, SilentLaw}
use Rattle.wind_machine.proofs.Asking.{asks_at_gate}
use Rattle.wind_machine.proofs.Counting.{counted}

module _ (said : Answers) (s u : State) (i : ℕ) where
  -- before the first
  none_yet : (t : State) → u ≡ after said s i → t ≡ u → GoesOn said s i 0 u t
  none_yet t here same =
      let end : i ≡ i + 0 = omega arith in
      record {
        state = same ∙ here ∙ ap (after said s) end;
        text_is = ap (text said s) (sym end);
        counted = ap (λ (v : State). v.steps) same ∙ omega arith;
        uneventful = ap (λ (v : State). v.schedule) same;
        made = λ j least below. absurd (omega (arith, least, below));
        unasked = λ j least below. absurd (omega (arith, least, below));
      }

  -- one more step
  one_more : (m t : State) (k : ℕ) → GoesOn said s i k u m → IsSilentStep m t → GoesOn said s i (suc k) u t
  one_more m t k on step =
      let n = i + k in
      let end : suc n ≡ i + suc k = omega arith in
      let taken : machine_step (said n) (after said s n) ≡ Some t = subst (λ v. machine_step (said n) v ≡ Some t) on.state (step.steps (said n)) in
      let state : t ≡ after said s (suc n) = ap (λ o. unwrap_or o (after said s n)) (sym taken) in
      let wrote : text said s (suc n) ≡ text said s i =
      ap (λ (v : State). text said s n ++ v.world.output) (sym state) ∙ ap (λ w. text said s n ++ w) step.silent ∙ append-nil (text said s n) ∙ on.text_is
      in
      record {
        state = state ∙ ap (after said s) end;
        text_is = ap (text said s) (sym end) ∙ wrote;
        counted = omega (arith, counted (said n) m t (step.steps (said n)), on.counted);
        uneventful = step.uneventful ∙ on.uneventful;
        made = λ j least below. below_more (λ x. i ≤ x → IsSome (machine_step (said x) (after said s x))) n (λ x less from. on.made x from less) (λ from. subst IsSome (sym taken) refl) j (omega (arith, below)) least;
        unasked = λ j least below. below_more (λ x. i ≤ x → file_asked (after said s x) ≡ None) n (λ x less from. on.unasked x from less) (λ from. subst (λ v. file_asked v ≡ None) on.state (asks_at_gate m step.who step.instruction.comes step.instruction.no_gate)) j (omega (arith, below)) least;
      }

  silent_goes : (t : State) (k : ℕ) → u ≡ after said s i → SilentSteps k u t → GoesOn said s i k u t
  silent_goes t zero here steps = none_yet t here steps
  silent_goes t (suc k) here steps = one_more steps.0 t k (silent_goes steps.0 k here steps.1) steps.2

pub silent_law : SilentLaw
silent_law said s u t i k here steps = silent_goes said s u i t k here steps
