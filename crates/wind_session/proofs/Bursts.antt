-- Silent steps in the run of a board.
use Rattle.std.proofs.Common.{◌≡◌, ℕ, zero, suc, ◌+◌, ◌++◌, List, Option, ◌≤◌, ◌<◌, true, false, ◌⊎◌, inl, inr, None, Some, IsSome, refl, sym, ap, subst, ◌∙◌, arith}
use Rattle.std.specs.Prelude.{nat_lt}
use Rattle.std.proofs.lemmas.Bool.Decides.{nat_tests}
use Rattle.std.proofs.lemmas.List.{append-nil}
use Rattle.wind_outside.specs.Requests.{GrowsBy, Request}
use Rattle.wind_outside.specs.declared.sink.Put.TheVariants as puts
use Rattle.board_player.specs.WindMachineState.{State}
use Rattle.board_player.specs.WindMachineMachine.{machine_step}
use Rattle.board_player.specs.WindMachineRun.{Answers, after}
use Rattle.board_player.specs.WindMachineSilent.{SilentSteps, SilentLaw}
use Rattle.wind_session.specs.Modules.{Shelf, IsSaid}
use Rattle.wind_session.specs.Pieces.{output_piece, pieces_of}
use Rattle.wind_session.proofs.FetchLemmas.{unasked_requests}
use Rattle.wind_session.specs.Telling.{After}

-- a number below i + k is below i, or not
either_part : (i j : ℕ) → (j < i) ⊎ (i ≤ j)
either_part i j =
    elim (nat_lt j i) as (λ b. nat_lt j i ≡ b → (j < i) ⊎ (i ≤ j)) [
      | true ↦ λ e. let less : j < i = grind (arith, nat_tests, e) in inl less
      | false ↦ λ e. let more : i ≤ j = grind (arith, nat_tests, e) in inr more
    ] refl

-- silent steps continue a run of at most n steps, whatever was said of files
pub runs_on : SilentLaw → (shelf : Shelf) (said : Answers) (s : State) (n i : ℕ) (u : State) (old mid : Option (List Request)) → After shelf said s n i u old mid → (k : ℕ) → i + k ≤ n → (t : State) → SilentSteps k u t → After shelf said s n (i + k) t old mid
runs_on law shelf said s n i u old mid run k h t steps =
    let on = law said s u t i k run.state steps in
    record {
      counted = omega (arith, on.counted, run.counted);
      answers = λ j below. answer j below (either_part i j);
      part = record { within = h; steps = λ j below. step j below (either_part i j) };
      state = on.state;
      requests = subst (GrowsBy old mid) (sym (unasked_requests shelf.name said s i k on.unasked)) run.requests;
    }
  where
    answer : (j : ℕ) → j < i + k → (j < i) ⊎ (i ≤ j) → IsSaid shelf (after said s j) (said j)
    answer j below (inl less) = run.answers j less
    answer j below (inr more) = λ name asked. let bad : None ≡ Some name = sym ((law said s u t i k run.state steps).unasked j more below) ∙ asked in absurd (cc)

    step : (j : ℕ) → j < i + k → (j < i) ⊎ (i ≤ j) → IsSome (machine_step (said j) (after said s j))
    step j below (inl less) = run.part.steps j less
    step j below (inr more) = (law said s u t i k run.state steps).made j more below

-- they write nothing, so they add no piece
pub silent_pieces : SilentLaw → (said : Answers) (s u : State) (i : ℕ) → u ≡ after said s i → (k : ℕ) (t : State) → SilentSteps k u t → pieces_of said s (i + k) ≡ pieces_of said s i
silent_pieces law said s u i here zero t steps = let end : i + 0 ≡ i = omega arith in ap (pieces_of said s) end
silent_pieces law said s u i here (suc k) t steps =
    let n = i + k in
    let end : i + suc k ≡ suc n = omega arith in
    let state : t ≡ after said s (suc n) = (law said s u t i (suc k) here steps).state ∙ ap (after said s) end in
    ap (pieces_of said s) end
    ∙ ap (λ (v : State). pieces_of said s n ++ output_piece v.world.output puts.Done) (sym state)
    ∙ ap (λ o. pieces_of said s n ++ output_piece o puts.Done) steps.2.silent
    ∙ append-nil (pieces_of said s n)
    ∙ silent_pieces law said s u i here k steps.0 steps.1
