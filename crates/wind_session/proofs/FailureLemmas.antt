-- Only the last fetch of a session may have failed.
use Rattle.std.proofs.Common.{◌≡◌, ◌≢◌, ℕ, zero, suc, List, [], ◌∷◌, ◌++◌, Option, Some, None, true, false, cond, inl, inr, refl, sym, subst, ◌∙◌, append_assoc}
use Rattle.std.specs.Prelude.{◌⊎◌}
use Rattle.std.specs.List.{All}
use Rattle.std.specs.Str.{is_utf8}
use Rattle.std.proofs.lemmas.List.{append-nil}
use Rattle.std.proofs.lemmas.List.Elements.{All-nil, All-cons, All-append}
use Rattle.wind_outside.specs.Requests.{GrowsBy, Request}
use Rattle.wind_outside.specs.declared.folder.FetchOutcome.{FetchOutcome}
use Rattle.wind_outside.specs.declared.folder.FetchOutcome.TheVariants as outcomes
use Rattle.board_player.specs.WindMachineState.{State}
use Rattle.board_player.specs.WindMachineMachine.{file_asked}
use Rattle.board_player.specs.WindMachineRun.{Answers, after}
use Rattle.wind_session.specs.Command.{CommandState}
use Rattle.wind_session.specs.declared.command.Source.{Source}
use Rattle.wind_session.specs.declared.command.Source.TheVariants as sources
use Rattle.wind_session.specs.Fetches.{LeadsTo, IsAfterFiles, EndsWithSource, Requests, IsLastRequest, IsFine, IsFailure, FailsLast, file_requests, module_request, outcome_said, requests_of, source_requests, step_request, text_request}
use Rattle.wind_session.specs.Headline.{IsLeft, IsSummed, status_of}
use Rattle.wind_session.specs.Modules.{Shelf}
use Rattle.generated_session.specs.Puts.{SinkLog}
use Rattle.wind_session.specs.Outside.{Outside, sink_of}
use Rattle.wind_session.specs.declared.run.RunEnd.{RunEnd}
use Rattle.wind_session.specs.declared.run.RunEnd.TheVariants as ends
use Rattle.wind_session.specs.declared.ending.Status.{Status}
use Rattle.wind_session.specs.declared.ending.Status.TheVariants as status
use Rattle.wind_session.specs.declared.ending.Which.TheVariants as which
use Rattle.wind_session.proofs.FetchLemmas.{grows_both, grows_same, path_request, said_fine}
use Rattle.wind_session.specs.Paths.{path_in}

one_fine : (r : Request) → IsFine r → All IsFine (r ∷ [])
one_fine r fine = All-cons IsFine r [] fine (All-nil IsFine)

-- ---- requests that didn't fail
module_fine : (folder name : List ℕ) (o : FetchOutcome) → o ≢ outcomes.Failed → All IsFine (module_request folder name o)
module_fine folder name o fine =
    elim (is_utf8 name) as (λ b. All IsFine (cond b (path_request (path_in folder name) o ∷ []) [])) [
      | true ↦ one_fine (path_request (path_in folder name) o) fine
      | false ↦ All-nil IsFine
    ]

step_fine : (folder : List ℕ) (asked : Option (List ℕ)) (o : FetchOutcome) → o ≢ outcomes.Failed → All IsFine (step_request folder asked o)
step_fine folder None o fine = All-nil IsFine
step_fine folder (Some name) o fine = module_fine folder name o fine

steps_fine : (folder : List ℕ) (said : Answers) (s : State) (k : ℕ) → All IsFine (requests_of folder said s k)
steps_fine folder said s zero = All-nil IsFine
steps_fine folder said s (suc k) =
    All-append IsFine (requests_of folder said s k) (step_request folder (file_asked (after said s k)) (outcome_said (said k))) (steps_fine folder said s k)
    (step_fine folder (file_asked (after said s k)) (outcome_said (said k)) (said_fine (said k)))

source_fine : (source : Source) (c : CommandState) → All IsFine (source_requests source c)
source_fine sources.Files c = All-cons IsFine (text_request c.console outcomes.Found) (text_request c.ticks outcomes.Found ∷ []) (λ e. cc) (one_fine (text_request c.ticks outcomes.Found) (λ e. cc))
source_fine (sources.Generated n) c = All-nil IsFine

-- ---- no request failed
no_failure : (s : Status) → s ≢ status.ReadFault → IsFailure s []
no_failure status.ReadFault some = absurd (some refl)
no_failure status.Quiet some = refl
no_failure status.Usage some = refl
no_failure (status.Absent file) some = refl
no_failure status.Limit some = refl
no_failure status.WriteFault some = refl
no_failure status.NoMemory some = refl
no_failure (status.BadTicks line) some = refl
no_failure (status.TooLong file) some = refl

module _ (s : Status) (old new : Option (List Request)) where
  pub none_failed : (prefix : List Request) → s ≢ status.ReadFault → All IsFine prefix → GrowsBy old new prefix → FailsLast s old new
  none_failed prefix some fine grown = record { prefix = prefix; last = []; requests = subst (GrowsBy old new) (sym (append-nil prefix)) grown; fine = fine; failure = no_failure s some }

  -- the last one did
  last_failed : (prefix : List Request) (r : Request) → s ≡ status.ReadFault → r.outcome ≡ outcomes.Failed → All IsFine prefix → GrowsBy old new (prefix ++ r ∷ []) → FailsLast s old new
  last_failed prefix r is failed fine grown = record { prefix = prefix; last = r ∷ []; requests = grown; fine = fine; failure = subst (λ x. IsFailure x (r ∷ [])) (sym is) (r, refl, failed) }

  -- nothing was fetched
  pub unfetched : s ≢ status.ReadFault → new ≡ old → FailsLast s old new
  unfetched some same = none_failed [] some (All-nil IsFine) (grows_same old new same)

-- ---- a session without a run
unplayed : (s : Status) → IsAfterFiles s → s ≢ status.ReadFault
unplayed (status.BadTicks line) h = λ e. cc
unplayed status.NoMemory h = λ e. cc
unplayed status.ReadFault h = absurd h
unplayed status.Quiet h = absurd h
unplayed status.Usage h = absurd h
unplayed (status.Absent file) h = absurd h
unplayed status.Limit h = absurd h
unplayed status.WriteFault h = absurd h
unplayed (status.TooLong file) h = absurd h

module _ (c : CommandState) (s : Status) (old new : Option (List Request)) where
  other : (x : Status) → s ≡ x → x ≢ status.ReadFault → s ≢ status.ReadFault
  other x is ne e = ne (sym is ∙ e)

  first_fine : All IsFine (text_request c.console outcomes.Found ∷ [])
  first_fine = one_fine (text_request c.console outcomes.Found) (λ e. cc)

  both_fine : (o : FetchOutcome) → o ≢ outcomes.Failed → All IsFine (text_request c.console outcomes.Found ∷ text_request c.ticks o ∷ [])
  both_fine o fine = All-cons IsFine (text_request c.console outcomes.Found) (text_request c.ticks o ∷ []) (λ e. cc) (one_fine (text_request c.ticks o) fine)

  -- by how the fetch of the tick file ended
  by_ticks : (o : FetchOutcome) → LeadsTo which.Ticks o s (IsAfterFiles s) → GrowsBy old new (file_requests c outcomes.Found o) → FailsLast s old new
  by_ticks outcomes.Found leads grown = none_failed s old new (file_requests c outcomes.Found outcomes.Found) (unplayed s leads) (both_fine outcomes.Found (λ e. cc)) grown
  by_ticks outcomes.Missing leads grown = none_failed s old new (file_requests c outcomes.Found outcomes.Missing) (other (status.Absent which.Ticks) leads (λ e. cc)) (both_fine outcomes.Missing (λ e. cc)) grown
  by_ticks outcomes.TooLong leads grown = none_failed s old new (file_requests c outcomes.Found outcomes.TooLong) (other (status.TooLong which.Ticks) leads (λ e. cc)) (both_fine outcomes.TooLong (λ e. cc)) grown
  by_ticks outcomes.NoMemory leads grown = none_failed s old new (file_requests c outcomes.Found outcomes.NoMemory) (other status.NoMemory leads (λ e. cc)) (both_fine outcomes.NoMemory (λ e. cc)) grown
  by_ticks outcomes.Failed leads grown = last_failed s old new (text_request c.console outcomes.Found ∷ []) (text_request c.ticks outcomes.Failed) leads refl first_fine grown

  -- and that of the console file
  by_console : (o ticks : FetchOutcome) → LeadsTo which.Console o s (LeadsTo which.Ticks ticks s (IsAfterFiles s)) → GrowsBy old new (file_requests c o ticks) → FailsLast s old new
  by_console outcomes.Found ticks leads grown = by_ticks ticks leads grown
  by_console outcomes.Missing ticks leads grown = none_failed s old new (file_requests c outcomes.Missing ticks) (other (status.Absent which.Console) leads (λ e. cc)) (one_fine (text_request c.console outcomes.Missing) (λ e. cc)) grown
  by_console outcomes.TooLong ticks leads grown = none_failed s old new (file_requests c outcomes.TooLong ticks) (other (status.TooLong which.Console) leads (λ e. cc)) (one_fine (text_request c.console outcomes.TooLong) (λ e. cc)) grown
  by_console outcomes.NoMemory ticks leads grown = none_failed s old new (file_requests c outcomes.NoMemory ticks) (other status.NoMemory leads (λ e. cc)) (one_fine (text_request c.console outcomes.NoMemory) (λ e. cc)) grown
  by_console outcomes.Failed ticks leads grown = last_failed s old new [] (text_request c.console outcomes.Failed) leads refl (All-nil IsFine) grown

  by_memory : (s ≡ status.NoMemory) × (new ≡ old) → FailsLast s old new
  by_memory h = unfetched s old new (other status.NoMemory h.0 (λ e. cc)) h.1

  pub source_fails : (source : Source) → EndsWithSource source c s old new → FailsLast s old new
  source_fails sources.Files (inl files) = by_console files.console files.ticks files.status_is files.requests
  source_fails sources.Files (inr memory) = by_memory memory
  source_fails (sources.Generated n) h = by_memory h

-- ---- a run
module _ (folder : List ℕ) (said : Answers) (start : State) (k : ℕ) (old new : Option (List Request)) where
  -- one that ended without a fetch that failed
  run_fine : (s : Status) (last : List Request) → s ≢ status.ReadFault → All IsFine last → GrowsBy old new (requests_of folder said start k ++ last) → FailsLast s old new
  run_fine s last some fine grown = none_failed s old new (requests_of folder said start k ++ last) some (All-append IsFine (requests_of folder said start k) last (steps_fine folder said start k) fine) grown

  run_ends : (s : Status) (last : List Request) → s ≢ status.ReadFault → last ≡ [] → GrowsBy old new (requests_of folder said start k ++ last) → FailsLast s old new
  run_ends s last some none grown = run_fine s last some (subst (All IsFine) (sym none) (All-nil IsFine)) grown

  memory_fine : (asked : Option (List ℕ)) (last : List Request) → IsLastRequest ends.NoMemory folder asked last → All IsFine last
  memory_fine asked last (o, fine, inl none) = subst (All IsFine) (sym none) (All-nil IsFine)
  memory_fine asked last (o, fine, inr is) = subst (All IsFine) (sym is) (step_fine folder asked o fine)

  -- the one request of a step that failed
  one_failed : (asked : Option (List ℕ)) → step_request folder asked outcomes.Failed ≢ [] → (r : Request) × (step_request folder asked outcomes.Failed ≡ r ∷ []) × (r.outcome ≡ outcomes.Failed)
  one_failed None some = absurd (some refl)
  one_failed (Some name) some =
      elim (is_utf8 name) as (λ b. cond b (path_request (path_in folder name) outcomes.Failed ∷ []) [] ≢ [] → (r : Request) × (cond b (path_request (path_in folder name) outcomes.Failed ∷ []) [] ≡ r ∷ []) × (r.outcome ≡ outcomes.Failed)) [
        | true ↦ λ h. (path_request (path_in folder name) outcomes.Failed, refl, refl)
        | false ↦ λ h. absurd (h refl)
      ] some

  run_unread : (asked : Option (List ℕ)) (last : List Request) → IsLastRequest ends.ReadFault folder asked last → GrowsBy old new (requests_of folder said start k ++ last) → FailsLast status.ReadFault old new
  run_unread asked last is grown =
      let one = one_failed asked (λ e. is.1 (is.0 ∙ e)) in
      last_failed status.ReadFault old new (requests_of folder said start k) one.0 refl one.2 (steps_fine folder said start k) (subst (λ l. GrowsBy old new (requests_of folder said start k ++ l)) (is.0 ∙ one.1) grown)

  pub run_fails : (end : RunEnd) → Requests end folder said start k old new → FailsLast (status_of end) old new
  run_fails ends.Quiet h = run_ends status.Quiet h.last (λ e. cc) h.last_is h.requests
  run_fails ends.Limit h = run_ends status.Limit h.last (λ e. cc) h.last_is h.requests
  run_fails ends.WriteFault h = run_ends status.WriteFault h.last (λ e. cc) h.last_is h.requests
  run_fails ends.NoMemory h = run_fine status.NoMemory h.last (λ e. cc) (memory_fine (file_asked (after said start k)) h.last h.last_is) h.requests
  run_fails ends.ReadFault h = run_unread (file_asked (after said start k)) h.last h.last_is h.requests

  -- and for a generated session, whose line may fail to be put
  summed_or : (end : RunEnd) (s : Status) (texts : List (List ℕ)) (old_log new_log : SinkLog) → IsSummed end s texts old_log new_log → (s ≡ status_of end) ⊎ ((s ≡ status.WriteFault) × (end ≢ ends.ReadFault) × (end ≢ ends.NoMemory))
  summed_or ends.ReadFault s texts old_log new_log h = inl h.0
  summed_or ends.NoMemory s texts old_log new_log h = inl h.0
  summed_or ends.Quiet s texts old_log new_log (inl h) = inl h.0
  summed_or ends.Quiet s texts old_log new_log (inr h) = inr (h.0, λ e. cc, λ e. cc)
  summed_or ends.Limit s texts old_log new_log (inl h) = inl h.0
  summed_or ends.Limit s texts old_log new_log (inr h) = inr (h.0, λ e. cc, λ e. cc)
  summed_or ends.WriteFault s texts old_log new_log (inl h) = inl h.0
  summed_or ends.WriteFault s texts old_log new_log (inr h) = inr (h.0, λ e. cc, λ e. cc)

  unput : (end : RunEnd) → end ≢ ends.ReadFault → end ≢ ends.NoMemory → Requests end folder said start k old new → FailsLast status.WriteFault old new
  unput ends.Quiet a b h = run_ends status.WriteFault h.last (λ e. cc) h.last_is h.requests
  unput ends.Limit a b h = run_ends status.WriteFault h.last (λ e. cc) h.last_is h.requests
  unput ends.WriteFault a b h = run_ends status.WriteFault h.last (λ e. cc) h.last_is h.requests
  unput ends.ReadFault a b h = absurd (a refl)
  unput ends.NoMemory a b h = absurd (b refl)

  summed_fails : (end : RunEnd) (s : Status) → (s ≡ status_of end) ⊎ ((s ≡ status.WriteFault) × (end ≢ ends.ReadFault) × (end ≢ ends.NoMemory)) → Requests end folder said start k old new → FailsLast s old new
  summed_fails end s (inl is) h = subst (λ x. FailsLast x old new) (sym is) (run_fails end h)
  summed_fails end s (inr is) h = subst (λ x. FailsLast x old new) (sym is.0) (unput end is.1 is.2 h)

pub left_fails : (source : Source) (s : Status) (end : RunEnd) (shelf : Shelf) (start : State) (limit : ℕ) (board : State) (old new : Outside) → IsLeft source s end shelf start limit board old new → FailsLast s old.requests new.requests
left_fails sources.Files s end shelf start limit board old new (is, ran) =
    subst (λ x. FailsLast x old.requests new.requests) (sym is) (run_fails shelf.name ran.said start ran.k old.requests new.requests end ran.made.fetches)
left_fails (sources.Generated n) s end shelf start limit board old new h =
    summed_fails shelf.name h.said start h.k old.requests new.requests end s (summed_or shelf.name h.said start h.k old.requests new.requests end s _ (sink_of old) (sink_of new) h.summed) h.made.fetches

-- after the files of a command
pub fails_after : (s : Status) (source : Source) (c : CommandState) (old mid new : Option (List Request)) → GrowsBy old mid (source_requests source c) → FailsLast s mid new → FailsLast s old new
fails_after s source c old mid new first h = record {
  prefix = source_requests source c ++ h.prefix;
  last = h.last;
  requests = subst (GrowsBy old new) (sym (append_assoc (source_requests source c) h.prefix h.last)) (grows_both old mid new (source_requests source c) (h.prefix ++ h.last) first h.requests);
  fine = All-append IsFine (source_requests source c) h.prefix (source_fine source c) h.fine;
  failure = h.failure;
}
