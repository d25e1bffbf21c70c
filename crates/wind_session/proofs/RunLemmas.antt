-- Laws on the runs of the wind machine.
use Rattle.std.proofs.Common.{◌≡◌, ℕ, suc, ◌+◌, ◌<◌, List, [], Option, Some, refl, sym, ◌∙◌, ap, subst, arith, add-one}
use Rattle.std.proofs.lemmas.List.{append-nil}
use Rattle.wind_outside.specs.Files.{Files}
use Rattle.wind_outside.specs.Requests.{GrowsBy, Request}
use Rattle.board_player.specs.LiveLoadingSaid.{FileSaid, Missing}
use Rattle.board_player.specs.WindMachineState.{State}
use Rattle.board_player.specs.WindMachineMachine.{IsOver, file_asked, machine_step}
use Rattle.board_player.specs.WindMachineRun.{Answers, after, IsPart}
use Rattle.wind_session.specs.Modules.{Shelf, IsSaid, AreSaid}
use Rattle.wind_session.specs.Fetches.{IsLastRequest, Stops, outcome_said, requests_of, step_request}
use Rattle.wind_session.specs.Runs.{IsEnd, IsHalt, Made}
use Rattle.wind_session.specs.Telling.{After}
use Rattle.wind_session.proofs.FetchLemmas.{grows_both, grows_none}
use Rattle.wind_session.proofs.Saying.{saying, state_now, part_now, answers_now, requests_now}
use Rattle.wind_session.specs.declared.run.RunEnd.{RunEnd}
use Rattle.wind_session.specs.declared.run.RunEnd.TheVariants as ends

-- ---- before the first step nothing is said
pub nothing_said : Answers
nothing_said k = Missing

none_asked : (shelf : Shelf) (s : State) → AreSaid shelf nothing_said s 0
none_asked shelf s j below = absurd (omega (arith, below))

none_made : (s : State) (n : ℕ) → IsPart nothing_said s n 0
none_made s n = record { within = omega arith; steps = λ j below. absurd (omega (arith, below)) }

pub begun : (shelf : Shelf) (s : State) (n : ℕ) (old : Option (List Request)) → s.steps ≡ 0 → After shelf nothing_said s n 0 s old old
begun shelf s n old fresh = record { counted = fresh; answers = none_asked shelf s; part = none_made s n; state = refl; requests = grows_none old }

-- a step is made, with what a folder with these files says, and its file is fetched
abbrev pub Makes : Option Files → List ℕ → State → State → Option (List Request) → Option (List Request) → Type 0
Makes files name u t old new =
    (said : FileSaid) × IsSaid (record { files = files; name = name }) u said × (machine_step said u ≡ Some t) × GrowsBy old new (step_request name (file_asked u) (outcome_said said))

-- ---- a run ends after i steps, and the last request was that of a step
pub closed : (shelf : Shelf) (said : Answers) (s u : State) (n i : ℕ) (first mid : Option (List Request)) → After shelf said s n i u first mid → (end : RunEnd) → IsEnd end said s n i → IsLastRequest end shelf.name (file_asked (after said s i)) [] → Made end shelf said s n i u first mid
closed shelf said s u n i first mid run end h none = record {
  counted = run.counted;
  answers = run.answers;
  part = run.part;
  state = run.state;
  ended = h;
  fetches = record { last = []; last_is = none; requests = subst (GrowsBy first mid) (sym (append-nil (requests_of shelf.name said s i))) run.requests };
}

-- ---- no step is made from a state: this holds of the end if it does of each end of that kind
pub at_halt : (P : RunEnd → Type 0) (u : State) (end : RunEnd) → IsHalt end u → P ends.Quiet → P ends.ReadFault → P ends.NoMemory → P end
at_halt P u ends.Quiet halt quiet unread exhausted = quiet
at_halt P u ends.Limit halt quiet unread exhausted = absurd halt
at_halt P u ends.ReadFault halt quiet unread exhausted = unread
at_halt P u ends.WriteFault halt quiet unread exhausted = absurd halt
at_halt P u ends.NoMemory halt quiet unread exhausted = exhausted

-- if it is quiet, no step is left
pub halts_quiet : (u : State) (end : RunEnd) → IsHalt end u → end ≡ ends.Quiet → IsOver u
halts_quiet u end halt quiet = subst (λ (e : RunEnd). IsHalt e u) quiet halt

is_end : (said : Answers) (s : State) (n k : ℕ) → k < n → (end : RunEnd) → IsHalt end (after said s k) → IsEnd end said s n k
is_end said s n k h ends.Quiet halt = (h, halt)
is_end said s n k h ends.Limit halt = absurd halt
is_end said s n k h ends.ReadFault halt = (h, halt)
is_end said s n k h ends.WriteFault halt = absurd halt
is_end said s n k h ends.NoMemory halt = (h, halt)

module _ (shelf : Shelf) (said : Answers) (s u : State) (n i : ℕ) (first mid : Option (List Request)) (run : After shelf said s n i u first mid) where
  -- ---- after i steps another one was made, and the folder keeps its files
  module _ (files : Option Files) (same : files ≡ shelf.files) (t : State) (last : Option (List Request)) (made : Makes files shelf.name u t mid last) where
    abbrev pub said_on : Answers
    said_on = saying said i made.0

    own : IsSaid shelf u made.0
    own = subst (λ f. IsSaid (record { files = f; name = shelf.name }) u made.0) same made.1

    one_more : i < n → t.steps ≡ u.steps + 1 → After shelf said_on s n (suc i) t first last
    one_more h count = record {
      counted = count ∙ ap (λ m. m + 1) run.counted ∙ add-one i;
      answers = answers_now shelf said s u t i made.0 run.state made.2 run.answers own;
      part = part_now shelf said s u t i made.0 run.state made.2 n run.part h;
      state = state_now shelf said s u t i made.0 run.state made.2;
      requests =
          subst (GrowsBy first last) (sym (requests_now shelf said s u t i made.0 run.state made.2))
          (grows_both first mid last (requests_of shelf.name said s i) (step_request shelf.name (file_asked u) (outcome_said made.0)) run.requests made.3);
    }

    pub further : i < n → t.steps ≡ u.steps + 1 → After shelf said_on s n (i + 1) t first last
    further h count = subst (λ k. After shelf said_on s n k t first last) (sym (add-one i)) (one_more h count)

  -- after i steps no further one was made, and nothing changed
  pub halted : (t : State) (last : Option (List Request)) → t ≡ u → i < n → (end : RunEnd) → IsHalt end u → Stops end shelf.name (file_asked u) mid last → Made end shelf said s n i t first last
  halted t last same h end halt stops = record {
    counted = ap (λ (v : State). v.steps) same ∙ run.counted;
    answers = run.answers;
    part = run.part;
    state = same ∙ run.state;
    ended = is_end said s n i h end (subst (IsHalt end) run.state halt);
    fetches = record {
      last = stops.last;
      last_is = subst (λ (v : State). IsLastRequest end shelf.name (file_asked v) stops.last) run.state stops.last_is;
      requests = grows_both first mid last (requests_of shelf.name said s i) stops.last run.requests stops.requests;
    };
  }

  -- as many steps as the limit were made
  pub at_limit : i ≡ n → Made ends.Limit shelf said s n i u first mid
  at_limit e = closed shelf said s u n i first mid run ends.Limit e refl

  -- the run may stop after any step
  pub stopped : Made ends.WriteFault shelf said s n i u first mid
  stopped = closed shelf said s u n i first mid run ends.WriteFault tt refl
