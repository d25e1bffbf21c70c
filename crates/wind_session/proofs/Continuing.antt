-- A run that is resumed.
use Rattle.std.proofs.Common.{◌≡◌, ℕ, ◌+◌, [], ◌++◌, refl, sym, ap, ◌∙◌, subst, arith}
use Rattle.std.proofs.lemmas.List.{append-nil}
use Rattle.wind_outside.specs.Requests.{GrowsBy}
use Rattle.board_player.specs.WindMachineState.{State}
use Rattle.board_player.specs.WindMachineSilent.{SilentSteps, SilentLaw}
use Rattle.board_player.specs.WindMachineExtending.{IsRoom}
use Rattle.wind_session.specs.Modules.{Shelf}
use Rattle.wind_session.specs.Fetches.{requests_of}
use Rattle.wind_session.specs.Outside.{Outside}
use Rattle.wind_session.specs.Runs.{IsPut, Ran}
use Rattle.wind_session.specs.Telling.{After, Underway}
use Rattle.wind_session.proofs.RunLemmas.{begun, closed, nothing_said}
use Rattle.wind_session.proofs.AppendingLemmas.{appended_none}
use Rattle.wind_session.proofs.FetchLemmas.{grows_none}
use Rattle.wind_session.specs.declared.run.RunEnd.{RunEnd}
use Rattle.wind_session.specs.declared.run.RunEnd.TheVariants as ends

-- a run at its limit can go on, and what it wrote was put
pub resumed : (shelf : Shelf) (start s : State) (most : ℕ) (old now : Outside) (ran : Ran ends.Limit shelf start s.steps s old now) → Underway IsPut shelf ran.said start (s.steps + most) s.steps s old now
resumed shelf start s most old now ran =
    let at : ran.k ≡ s.steps = ran.made.ended in
    let last : ran.made.fetches.last ≡ [] = ran.made.fetches.last_is in
    let none : requests_of shelf.name ran.said start ran.k ++ ran.made.fetches.last ≡ requests_of shelf.name ran.said start ran.k =
    ap (λ xs. requests_of shelf.name ran.said start ran.k ++ xs) last ∙ append-nil (requests_of shelf.name ran.said start ran.k) in
    let here : Underway IsPut shelf ran.said start (s.steps + most) ran.k s old now = record {
      run = record {
        counted = ran.made.counted;
        answers = ran.made.answers;
        part = record { within = omega (arith, at); steps = ran.made.part.steps };
        state = ran.made.state;
        requests = subst (GrowsBy old.requests now.requests) none ran.made.fetches.requests;
      };
      told = ran.written;
    } in
    subst (λ k. Underway IsPut shelf ran.said start (s.steps + most) k s old now) at here

-- ---- silent steps
-- they are counted, and take no event
pub burst_counted : SilentLaw → (u t : State) (k : ℕ) → SilentSteps k u t → t.steps ≡ u.steps + k
burst_counted law u t k steps = (law nothing_said u u t 0 k refl steps).counted

pub burst_room : SilentLaw → (time line : ℕ) (u t : State) (k : ℕ) → SilentSteps k u t → IsRoom time line u → IsRoom time line t
burst_room law time line u t k steps room = subst (λ es. IsRoom time line (record u { schedule = es })) (sym (law nothing_said u u t 0 k refl steps).uneventful) room

-- ---- before the first step
-- a board without a step has reached the limit of no step
pub at_start : (shelf : Shelf) (s : State) (old : Outside) → s.steps ≡ 0 → Ran ends.Limit shelf s s.steps s old old
at_start shelf s old fresh =
    let none : After shelf nothing_said s s.steps 0 s old.requests old.requests = begun shelf s s.steps old.requests fresh in
    record {
      said = nothing_said;
      k = 0;
      made = closed shelf nothing_said s s s.steps 0 old.requests old.requests none ends.Limit (sym fresh) refl;
      written = record { gained = appended_none old.bytes; pieces = grows_none old.pieces };
    }

-- so what a run leaves that goes on from there is what a run from there leaves
pub from_start : (end : RunEnd) (shelf : Shelf) (s t : State) (most : ℕ) (old new : Outside) → s.steps ≡ 0 → ((start : State) (first : Outside) → Ran ends.Limit shelf start s.steps s first old → Ran end shelf start (s.steps + most) t first new) → Ran end shelf s most t old new
from_start end shelf s t most old new fresh on =
    let same : s.steps + most ≡ most = omega (arith, fresh) in
    subst (λ n. Ran end shelf s n t old new) same (on s old (at_start shelf s old fresh))
