-- A run that is told, under way.
use Rattle.std.proofs.Common.{◌≡◌, ◌≢◌, ℕ, ◌+◌, ◌<◌, ◌≤◌, List, Option, refl, sym, subst, arith}
use Rattle.board_player.specs.KernelWorldReply.{Reply}
use Rattle.wind_outside.specs.Files.{Files}
use Rattle.wind_outside.specs.Requests.{Request}
use Rattle.generated_session.specs.Puts.{SinkLog}
use Rattle.board_player.specs.WindMachineState.{State}
use Rattle.board_player.specs.WindMachineReplies.{step_reply}
use Rattle.board_player.specs.WindMachineRun.{Answers, after}
use Rattle.board_player.specs.WindMachineSilent.{SilentSteps, SilentLaw}
use Rattle.wind_session.specs.Modules.{Shelf}
use Rattle.wind_session.specs.Outside.{Outside, outside, sink_of}
use Rattle.wind_session.specs.Runs.{Counted, IsCutOff, IsHalt, IsPut, IsWritten, Made, Ran, TellsOr}
use Rattle.wind_session.specs.Telling.{After, CountsBytes, GoesOn, IsTold, IsToldInPart, Told, Underway}
use Rattle.wind_session.specs.declared.run.RunEnd.{RunEnd}
use Rattle.wind_session.specs.declared.run.RunEnd.TheVariants as ends
use Rattle.wind_session.proofs.Bursts.{runs_on}
use Rattle.wind_session.proofs.RunLemmas.{Makes, at_halt, further, stopped}
use Rattle.wind_session.proofs.Saying.{Agree, as_before, goes_on, saying}

-- ---- the steps of a run were told
-- it ended
pub told_end : (Tells Lost : Answers → State → ℕ → Type 0) (end : RunEnd) (shelf : Shelf) (said : Answers) (s t : State) (n k : ℕ) (old last : Option (List Request)) → Made end shelf said s n k t old last
    → TellsOr Tells Lost end said s k → Told (IsTold Tells Lost end s) shelf s n t old last
told_end Tells Lost end shelf said s t n k old last made tells = record { said = said; k = k; end = end; made = made; tells = (refl, tells) }

-- no further step was made
pub told_halt : (Tells Lost : Answers → State → ℕ → Type 0) (end : RunEnd) (shelf : Shelf) (said : Answers) (s t u : State) (n k : ℕ) (old last : Option (List Request)) → IsHalt end u → Made end shelf said s n k t old last
    → Tells said s k → Told (IsTold Tells Lost end s) shelf s n t old last
told_halt Tells Lost end shelf said s t u n k old last halt made tells =
    told_end Tells Lost end shelf said s t n k old last made (at_halt (λ e. TellsOr Tells Lost e said s k) u end halt tells tells tells)

-- it was given up after k steps, and what is told of its first i is left
pub given_up : (Part : Answers → State → ℕ → Type 0) (shelf : Shelf) (said : Answers) (s t : State) (n i k : ℕ) (old last : Option (List Request))
    → Part said s i → i ≤ k → After shelf said s n k t old last → Told (IsToldInPart Part s) shelf s n t old last
given_up Part shelf said s t n i k old last part h run = record {
  said = said;
  k = k;
  end = ends.WriteFault;
  made = stopped shelf said s t n k old last run;
  tells = (i, h, part);
}

-- ---- what the steps wrote was put
pub ran_told : (end : RunEnd) (shelf : Shelf) (s t : State) (n : ℕ) (old new : Outside)
    → Told (IsTold (IsPut (sink_of old) (sink_of new)) (IsCutOff (sink_of old) (sink_of new)) end s) shelf s n t old.requests new.requests → Ran end shelf s n t old new
ran_told end shelf s t n old new told = record {
  said = told.said;
  k = told.k;
  made = subst (λ e. Made e shelf told.said s n told.k t old.requests new.requests) (sym told.tells.0) told.made;
  written = subst (λ e. IsWritten e told.said s told.k old new) (sym told.tells.0) told.tells.1;
}

-- ---- it was counted
-- no put failed
counts_or : (bytes : ℕ) (old new : SinkLog) (said : Answers) (s : State) (k : ℕ) (end : RunEnd) → TellsOr (CountsBytes bytes old new) (λ x u j. ⊥) end said s k → CountsBytes bytes old new said s k × (end ≢ ends.WriteFault)
counts_or bytes old new said s k ends.WriteFault counts = absurd counts
counts_or bytes old new said s k ends.Quiet counts = (counts, λ e. cc)
counts_or bytes old new said s k ends.Limit counts = (counts, λ e. cc)
counts_or bytes old new said s k ends.ReadFault counts = (counts, λ e. cc)
counts_or bytes old new said s k ends.NoMemory counts = (counts, λ e. cc)

module _ (bytes : ℕ) (old new : SinkLog) (end : RunEnd) (shelf : Shelf) (s t : State) (n : ℕ) (first last : Option (List Request)) (told : Told (IsTold (CountsBytes bytes old new) (λ said u k. ⊥) end s) shelf s n t first last) where
  pub counted_told : Counted end shelf s n bytes t first last
  counted_told =
      let counts = counts_or bytes old new told.said s told.k told.end told.tells.1 in
      record {
        said = told.said;
        k = told.k;
        made = subst (λ e. Made e shelf told.said s n told.k t first last) (sym told.tells.0) told.made;
        bytes_are = counts.0.1;
        all_put = subst (λ e. e ≢ ends.WriteFault) (sym told.tells.0) counts.1;
      }

  pub untouched_told : new ≡ old
  untouched_told = (counts_or bytes old new told.said s told.k told.end told.tells.1).0.0

-- ---- a run under way
module _ (Tells : SinkLog → SinkLog → Answers → State → ℕ → Type 0) (shelf : Shelf) (said : Answers) (start : State) (n i : ℕ) (u : State) (first mid : Outside) (on : Underway Tells shelf said start n i u first mid) where
  -- its steps are counted in another way
  pub at_count : (m : ℕ) → i ≡ m → Underway Tells shelf said start n m u first mid
  at_count m there = subst (λ j. Underway Tells shelf said start n j u first mid) there on

  -- silent steps continue it
  pub burst_on : (Later : SinkLog → SinkLog → Answers → State → ℕ → Type 0) → SilentLaw → (k m : ℕ) → i + k ≡ m → m ≤ n → (t : State) → SilentSteps k u t
      → (u ≡ after said start i → Tells (sink_of first) (sink_of mid) said start i → Later (sink_of first) (sink_of mid) said start (i + k)) → Underway Later shelf said start n m t first mid
  burst_on Later law k m there h t steps tells =
      let here : Underway Later shelf said start n (i + k) t first mid = record {
        run = runs_on law shelf said start n i u first.requests mid.requests on.run k (omega (arith, there, h)) t steps;
        told = tells on.run.state on.told;
      } in
      subst (λ j. Underway Later shelf said start n j t first mid) there here

-- ---- its next step is made
module _ (Tells : SinkLog → SinkLog → Answers → State → ℕ → Type 0) (shelf : Shelf) (said : Answers) (start : State) (n i : ℕ) (u : State) (first mid : Outside) (on : Underway Tells shelf said start n i u first mid)
    (files : Option Files) (same : files ≡ shelf.files) (t : State) (last : Option (List Request)) (made : Makes files shelf.name u t mid.requests last) (reply : Option Reply) (replied : reply ≡ step_reply made.0 u)
    (below : i < n) (count : t.steps ≡ u.steps + 1) where
  abbrev pub said_next : Answers
  said_next = saying said i made.0

  -- what a teller tells of it
  abbrev pub LeadsTo : (Answers → State → ℕ → Type 0) → Type 0
  LeadsTo Holds = GoesOn said said_next start u t reply i → Tells (sink_of first) (sink_of mid) said start i → Holds said_next start (i + 1)

  holds_next : (Holds : Answers → State → ℕ → Type 0) → LeadsTo Holds → Holds said_next start (i + 1)
  holds_next Holds leads = leads (goes_on shelf said start u t reply i made.0 on.run.state made.2 replied) on.told

  pub run_next : After shelf said_next start n (i + 1) t first.requests last
  run_next = further shelf said start u n i first.requests mid.requests on.run files same t last made below count

  pub step_on : (Later : SinkLog → SinkLog → Answers → State → ℕ → Type 0) (now : SinkLog) (m : ℕ) → i + 1 ≡ m → LeadsTo (Later (sink_of first) now) → Underway Later shelf said_next start n m t first (outside last now.bytes now.pieces)
  step_on Later now m there leads =
      let here : Underway Later shelf said_next start n (i + 1) t first (outside last now.bytes now.pieces) = record {
        run = run_next;
        told = holds_next (Later (sink_of first) now) leads;
      } in
      subst (λ j. Underway Later shelf said_next start n j t first (outside last now.bytes now.pieces)) there here

  -- the last put failed
  pub lost_on : (All Lost : Answers → State → ℕ → Type 0) → LeadsTo Lost → Told (IsTold All Lost ends.WriteFault start) shelf start n t first.requests last
  lost_on All Lost leads =
      told_end All Lost ends.WriteFault shelf said_next start t n (i + 1) first.requests last (stopped shelf said_next start t n (i + 1) first.requests last run_next) (holds_next Lost leads)

  -- the step wasn't told
  pub untold_on : (Part : Answers → State → ℕ → Type 0) (j : ℕ) → j ≤ i → (Agree said said_next j → Part said_next start j) → Told (IsToldInPart Part start) shelf start n t first.requests last
  untold_on Part j h part =
      given_up Part shelf said_next start t n j (i + 1) first.requests last (part (λ m less. as_before said i made.0 m (omega (arith, less, h)))) (omega (arith, h)) run_next
