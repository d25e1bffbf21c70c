-- A record that grows while it is played.
use Rattle.std.proofs.Common.{◌≡◌, ℕ, zero, suc, ◌+◌, ◌<◌, ◌≤◌, Bool, true, false, not, List, [], ◌∷◌, ◌++◌, length, Option, None, Some, refl, sym, ap, ◌∙◌, subst, arith}
use Rattle.std.specs.Prelude.{◌&&◌, unwrap_or}
use Rattle.std.specs.List.{sum_by}
use Rattle.std.proofs.lemmas.List.{length-append}
use Rattle.std.proofs.lemmas.List.Sums.{sum_by-cons}
use Rattle.wind_outside.specs.Requests.{GrowsBy}
use Rattle.wind_outside.specs.Appending.{Appended}
use Rattle.wind_outside.specs.declared.sink.Put.TheVariants as puts
use Rattle.tick_file.specs.declared.event.Event.{Event}
use Rattle.tick_file.specs.declared.event.Event.TheVariants.{Tick, Rx, Irq}
use Rattle.tick_file.specs.Schedule.{Timed, Timetable, brings_bytes, timetable_of}
use Rattle.tick_file.specs.Writing.{recorded, MoreLaw, LongerLaw}
use Rattle.board_player.specs.WindMachineState.{State}
use Rattle.board_player.specs.WindMachineMachine.{file_asked, machine_step, opening}
use Rattle.board_player.specs.WindMachineRun.{Answers, after}
use Rattle.board_player.specs.WindMachineExtending.{More, more_of, longer, extended, bytes_asked, bytes_at, IsUndemanded, IsLater, DemandStays, Setup, booted, IsFed, Grows, GrowsLaw}
use Rattle.wind_session.specs.Modules.{Shelf}
use Rattle.wind_session.specs.Fetches.{outcome_said, requests_of, step_request}
use Rattle.wind_session.specs.Outside.{Outside, sink_of}
use Rattle.wind_session.specs.Pieces.{output_piece, pieces_of}
use Rattle.wind_session.specs.Runs.{IsPut, Ran}
use Rattle.wind_session.specs.Live.{TypedLaw}
use Rattle.wind_session.specs.declared.run.RunEnd.TheVariants as ends

-- ---- two runs with the same answers
-- if each of k steps needs the same file, the requests are the same
same_requests : (folder : List ℕ) (said : Answers) (s t : State) (k : ℕ) → ((j : ℕ) → j < k → file_asked (after said t j) ≡ file_asked (after said s j)) → requests_of folder said t k ≡ requests_of folder said s k
same_requests folder said s t zero same = refl
same_requests folder said s t (suc k) same =
    ap (λ r. r ++ step_request folder (file_asked (after said t k)) (outcome_said (said k))) (same_requests folder said s t k (λ j below. same j (omega (arith, below))))
    ∙ ap (λ f. requests_of folder said s k ++ step_request folder f (outcome_said (said k))) (same k (omega arith))

-- if the states are the same but for what is added, the pieces are the same
same_pieces : (said : Answers) (m : More) (s t : State) (k : ℕ) → ((j : ℕ) → j < suc k → after said t j ≡ extended m (after said s j)) → pieces_of said t k ≡ pieces_of said s k
same_pieces said m s t zero same = refl
same_pieces said m s t (suc k) same =
    ap (λ p. p ++ output_piece (after said t (suc k)).world.output puts.Done) (same_pieces said m s t k (λ j below. same j (omega (arith, below))))
    ∙ ap (λ (u : State). pieces_of said s k ++ output_piece u.world.output puts.Done) (same (suc k) (omega arith))

-- the run of the longer record, at the same limit
longer_ran : (shelf : Shelf) (setup : Setup) (console : List ℕ) (schedule : Timetable) (m : More) (board : State) (old now : Outside) (ran : Ran ends.Limit shelf (booted setup console schedule) board.steps board old now)
    → Grows ran.said setup console schedule m ran.k → Ran ends.Limit shelf (booted setup (console ++ m.bytes) (longer m schedule)) board.steps (extended m board) old now
longer_ran shelf setup console schedule m board old now ran grown =
    let said = ran.said in
    let k = ran.k in
    let begun = booted setup console schedule in
    let start = booted setup (console ++ m.bytes) (longer m schedule) in
    let put : IsPut (sink_of old) (sink_of now) said begun k = ran.written in
    let requests : requests_of shelf.name said start k ≡ requests_of shelf.name said begun k = same_requests shelf.name said begun start k grown.begins.files in
    let pieces : pieces_of said start k ≡ pieces_of said begun k = same_pieces said m begun start k grown.begins.states in
    record {
      said = said;
      k = k;
      made = record {
        counted = ran.made.counted;
        answers = λ j below name e. ran.made.answers j below name (sym (grown.begins.files j below) ∙ e);
        part = record { within = ran.made.part.within; steps = grown.begins.made };
        state = ap (λ s. extended m s) ran.made.state ∙ sym (grown.begins.states k (omega arith));
        ended = ran.made.ended;
        fetches = record {
          last = ran.made.fetches.last;
          last_is = ran.made.fetches.last_is;
          requests = subst (λ r. GrowsBy old.requests now.requests (r ++ ran.made.fetches.last)) (sym requests) ran.made.fetches.requests;
        };
      };
      written = record {
        gained = subst (Appended old.bytes now.bytes) (sym grown.begins.wrote) put.gained;
        pieces = subst (GrowsBy old.pieces now.pieces) (sym pieces) put.pieces;
      };
    }

-- ---- no step changes whether input comes on demand
demand_on : DemandStays → (said : Answers) (s : State) (k : ℕ) → (after said s k).schedule.on_demand ≡ s.schedule.on_demand
demand_on law said s zero = refl
demand_on law said s (suc k) = onward (machine_step (said k) (after said s k)) refl ∙ demand_on law said s k
  where
    onward : (o : Option State) → machine_step (said k) (after said s k) ≡ o → (unwrap_or o (after said s k)).schedule.on_demand ≡ (after said s k).schedule.on_demand
    onward None e = refl
    onward (Some t) e = law (said k) (after said s k) t e

opened : (setup : Setup) (console : List ℕ) (t : Timetable) → (booted setup console t).schedule.on_demand ≡ t.on_demand
unfolding opening
opened setup console t = refl

-- ---- one event more
undemanded : (d : Bool) (event : Event) (console bytes : List ℕ) → IsUndemanded d console → bytes_asked event ≡ length bytes → IsUndemanded (d && not (brings_bytes event)) (console ++ bytes)
undemanded false event console bytes fed count h = absurd (cc)
undemanded true Tick console bytes fed count h = let none : 0 ≡ length bytes = count in omega (arith, length-append console bytes, fed refl, none)
undemanded true (Irq i) console bytes fed count h = let none : 0 ≡ length bytes = count in omega (arith, length-append console bytes, fed refl, none)
undemanded true (Rx n) console bytes fed count h = absurd (cc)

pub typed : GrowsLaw → DemandStays → MoreLaw → LongerLaw → TypedLaw
typed grows stays more one_more shelf setup console xs time event bytes board old now fits count late live =
    let t : Timetable = timetable_of (recorded xs) in
    let start = booted setup console t in
    let m = more_of bytes (1 + length xs) time event t.on_demand in
    let e : Timed = record { time = time; line = 1 + length xs; number = 1; event = event } in
    let few : sum_by bytes_at (e ∷ []) ≤ length bytes = omega (arith, sum_by-cons bytes_at e [], count) in
    let ran = live.ran in
    let here = ran.made.state in
    let own : t.on_demand ≡ board.schedule.on_demand = sym (ap (λ (s : State). s.schedule.on_demand) here ∙ demand_on stays ran.said start ran.k ∙ opened setup console t) in
    let reached : IsLater (after ran.said start ran.k).time m.events = subst (λ (s : State). s.time < time) here late in
    let grown = grows ran.said setup console t m ran.k live.fed (undemanded t.on_demand event console bytes live.fed.demand count) few ran.made.part.steps reached in
    let longer_is : longer m t ≡ timetable_of (recorded (xs ++ (time, event) ∷ [])) = sym (ap timetable_of (more 1 xs ((time, event) ∷ [])).1 ∙ one_more xs time event fits) in
    let all : Grown (longer m t) t.on_demand = (grown.fed, longer_ran shelf setup console t m board old now ran grown) in
    let there = subst (λ d. Grown (timetable_of (recorded (xs ++ (time, event) ∷ []))) d) own (subst (λ u. Grown u t.on_demand) longer_is all) in
    record { fed = there.0; ran = there.1 }
  where
    Grown : Timetable → Bool → Type 0
    Grown u d =
        IsFed (console ++ bytes) u
        × Ran ends.Limit shelf (booted setup (console ++ bytes) u) board.steps (extended (more_of bytes (1 + length xs) time event d) board) old now
