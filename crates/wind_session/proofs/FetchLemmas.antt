-- Logged lists, and the requests for files.
use Rattle.std.proofs.Common.{◌≡◌, ◌≢◌, ℕ, zero, suc, ◌+◌, ◌<◌, ◌≤◌, List, [], ◌∷◌, ◌++◌, Option, Some, None, true, false, cond, inl, inr, refl, sym, ap, subst, ◌∙◌, arith}
use Rattle.std.specs.Option.{option_map}
use Rattle.std.specs.Str.{IsUtf8, is_utf8}
use Rattle.std.proofs.lemmas.List.{append-nil}
use Rattle.std.proofs.lemmas.Str.{IsUtf8-from_is_utf8, is_utf8-from_IsUtf8}
use Rattle.wind_base.specs.Limits.{longest_module_file}
use Rattle.wind_outside.specs.Requests.{GrowsBy, Request}
pub use Rattle.generated_session.proofs.Appended.{grows_both, grows_none}
use Rattle.wind_outside.specs.declared.folder.FetchOutcome.{FetchOutcome}
use Rattle.wind_outside.specs.declared.folder.FetchOutcome.TheVariants as outcomes
use Rattle.board_player.specs.LiveLoadingSaid.{FileSaid, Held, Missing, TooLong}
use Rattle.board_player.specs.WindMachineState.{State}
use Rattle.board_player.specs.WindMachineMachine.{file_asked}
use Rattle.board_player.specs.WindMachineRun.{Answers, after}
use Rattle.wind_session.specs.Command.{CommandState}
use Rattle.wind_session.specs.declared.command.Source.{Source}
use Rattle.wind_session.specs.declared.command.Source.TheVariants as sources
use Rattle.wind_session.specs.Paths.{path_in}
use Rattle.wind_session.specs.Fetches.{LeadsTo, IsAfterFiles, EndsWithFiles, EndsWithSource, EndsWithInputs, Stops, file_requests, module_request, outcome_said, requests_of, source_requests, step_request, text_request}
use Rattle.wind_session.specs.declared.run.RunEnd.TheVariants as ends
use Rattle.wind_session.specs.declared.ending.Status.{Status}
use Rattle.wind_session.specs.declared.ending.Status.TheVariants as status
use Rattle.wind_session.specs.declared.ending.Which.{Which}
use Rattle.wind_session.specs.declared.ending.Which.TheVariants as which

module _ {X : Type 0} where
  -- a list that stays as it is grows by nothing
  pub grows_same : (old new : Option (List X)) → new ≡ old → GrowsBy old new []
  grows_same old new same = subst (λ now. GrowsBy old now []) (sym same) (grows_none old)

  -- if a list grew by a and then by b, it grew by b from the list that the first growth gives
  pub grows_from : (old mid new : Option (List X)) (a b : List X) → GrowsBy old mid a → GrowsBy mid new b → GrowsBy (option_map (λ xs. xs ++ a) old) new b
  grows_from old mid None a b p q = tt
  grows_from old None (Some z) a b p q = absurd q
  grows_from None (Some y) (Some z) a b p q = absurd p
  grows_from (Some x) (Some y) (Some z) a b p q = q ∙ ap (λ xs. xs ++ b) p

-- ---- the request for a module
-- the request at the path of a module
abbrev pub path_request : List ℕ → FetchOutcome → Request
path_request path o = record { name = path; limit = longest_module_file; outcome = o }

-- its name is a text, and it isn't
pub text_module : (folder name : List ℕ) (o : FetchOutcome) → IsUtf8 name → module_request folder name o ≡ path_request (path_in folder name) o ∷ []
text_module folder name o text = ap (λ b. cond b (path_request (path_in folder name) o ∷ []) []) (is_utf8-from_IsUtf8 name text)

pub no_text_module : (folder name : List ℕ) (o : FetchOutcome) → (IsUtf8 name → ⊥) → module_request folder name o ≡ []
no_text_module folder name o none =
    elim (is_utf8 name) as (λ b. is_utf8 name ≡ b → cond b (path_request (path_in folder name) o ∷ []) [] ≡ []) [
      | true ↦ λ e. absurd (none (IsUtf8-from_is_utf8 name e))
      | false ↦ λ e. refl
    ] refl

-- a fetch that says something of a file didn't fail
pub said_fine : (x : FileSaid) → outcome_said x ≢ outcomes.Failed
said_fine (Held bytes) = λ e. cc
said_fine Missing = λ e. cc
said_fine TooLong = λ e. cc

module _ (folder name : List ℕ) (old new : Option (List Request)) where
  -- the request is that of a name that is a text
  pub requested : (o : FetchOutcome) → IsUtf8 name → GrowsBy old new (path_request (path_in folder name) o ∷ []) → GrowsBy old new (module_request folder name o)
  requested o text grown = subst (GrowsBy old new) (sym (text_module folder name o text)) grown

  -- it failed
  pub stops_unread : IsUtf8 name → GrowsBy old new (path_request (path_in folder name) outcomes.Failed ∷ []) → Stops ends.ReadFault folder (Some name) old new
  stops_unread text grown = record {
    last = path_request (path_in folder name) outcomes.Failed ∷ [];
    last_is = (sym (text_module folder name outcomes.Failed text), λ e. cc);
    requests = grown;
  }

-- memory ran out without a request, and after one
pub stops_before : (folder : List ℕ) (asked : Option (List ℕ)) (old new : Option (List Request)) → new ≡ old → Stops ends.NoMemory folder asked old new
stops_before folder asked old new same = record { last = []; last_is = (outcomes.NoMemory, λ e. cc, inl refl); requests = grows_same old new same }

pub stops_after : (folder : List ℕ) (asked : Option (List ℕ)) (o : FetchOutcome) (old new : Option (List Request)) → o ≢ outcomes.Failed → GrowsBy old new (step_request folder asked o) → Stops ends.NoMemory folder asked old new
stops_after folder asked o old new fine grown = record { last = step_request folder asked o; last_is = (o, fine, inr refl); requests = grown }

-- no step is left
pub stops_quiet : (folder : List ℕ) (asked : Option (List ℕ)) (old new : Option (List Request)) → new ≡ old → Stops ends.Quiet folder asked old new
stops_quiet folder asked old new same = record { last = []; last_is = refl; requests = grows_same old new same }

-- steps that need no file add no request
pub unasked_requests : (folder : List ℕ) (said : Answers) (s : State) (i k : ℕ) → ((j : ℕ) → i ≤ j → j < i + k → file_asked (after said s j) ≡ None) → requests_of folder said s (i + k) ≡ requests_of folder said s i
unasked_requests folder said s i zero unasked = let here : i + 0 ≡ i = omega arith in ap (requests_of folder said s) here
unasked_requests folder said s i (suc k) unasked =
    let n = i + k in
    let end : i + suc k ≡ suc n = omega arith in
    ap (requests_of folder said s) end
    ∙ ap (λ o. requests_of folder said s n ++ step_request folder o (outcome_said (said n))) (unasked n (omega arith) (omega arith))
    ∙ append-nil (requests_of folder said s n)
    ∙ unasked_requests folder said s i k (λ j least below. unasked j least (omega (arith, below)))

-- ---- a session without a run
-- memory ran out before the first request
pub source_unread : (source : Source) (c : CommandState) (old : Option (List Request)) → EndsWithSource source c status.NoMemory old old
source_unread sources.Files c old = inr (refl, refl)
source_unread (sources.Generated n) c old = (refl, refl)

pub inputs_unread : (command : Option CommandState) (old : Option (List Request)) → EndsWithInputs command status.NoMemory old old
inputs_unread None old = refl
inputs_unread (Some c) old = source_unread c.source c old

-- and after both files were found
pub source_found : (source : Source) (c : CommandState) (old new : Option (List Request)) → GrowsBy old new (source_requests source c) → (source ≢ sources.Files → new ≡ old)
    → EndsWithSource source c status.NoMemory old new
source_found sources.Files c old new grown unasked = inl (record { console = outcomes.Found; ticks = outcomes.Found; requests = grown; status_is = tt })
source_found (sources.Generated n) c old new grown unasked = (refl, unasked (λ e. cc))

-- the two files of a command were fetched, for a command that plays them
pub files_end : (source : Source) (c : CommandState) (s : Status) (old new : Option (List Request)) → source ≡ sources.Files → EndsWithFiles c s old new → EndsWithSource source c s old new
files_end source c s old new is h = subst (λ x. EndsWithSource x c s old new) (sym is) (inl h)

pub files_found : (source : Source) (c : CommandState) (old new : Option (List Request)) → source ≡ sources.Files → GrowsBy old new (file_requests c outcomes.Found outcomes.Found) → GrowsBy old new (source_requests source c)
files_found source c old new is h = subst (λ x. GrowsBy old new (source_requests x c)) (sym is) h

-- and none for a generated session
pub none_found : (source : Source) (n : ℕ) (c : CommandState) (old : Option (List Request)) → source ≡ sources.Generated n → GrowsBy old old (source_requests source c)
none_found source n c old is = subst (λ x. GrowsBy old old (source_requests x c)) (sym is) (grows_none old)

-- ---- the two files of a command
-- the console file is not found
pub console_unfound : (c : CommandState) (s : Status) (old new : Option (List Request)) (o : FetchOutcome) → LeadsTo which.Console o s ⊥ → GrowsBy old new (text_request c.console o ∷ []) → EndsWithFiles c s old new
console_unfound c s old new outcomes.Found leads grown = absurd leads
console_unfound c s old new outcomes.Missing leads grown = record { console = outcomes.Missing; ticks = outcomes.Missing; requests = grown; status_is = leads }
console_unfound c s old new outcomes.TooLong leads grown = record { console = outcomes.TooLong; ticks = outcomes.Missing; requests = grown; status_is = leads }
console_unfound c s old new outcomes.Failed leads grown = record { console = outcomes.Failed; ticks = outcomes.Missing; requests = grown; status_is = leads }
console_unfound c s old new outcomes.NoMemory leads grown = record { console = outcomes.NoMemory; ticks = outcomes.Missing; requests = grown; status_is = leads }

leads_on : (file : Which) (o : FetchOutcome) (s : Status) (follows : Type 0) → LeadsTo file o s ⊥ → LeadsTo file o s follows
leads_on file outcomes.Found s follows leads = absurd leads
leads_on file outcomes.Missing s follows leads = leads
leads_on file outcomes.TooLong s follows leads = leads
leads_on file outcomes.Failed s follows leads = leads
leads_on file outcomes.NoMemory s follows leads = leads

module _ (c : CommandState) (old mid new : Option (List Request)) (first : GrowsBy old mid (text_request c.console outcomes.Found ∷ [])) where
  -- the tick file is not found
  pub ticks_unfound : (s : Status) (o : FetchOutcome) → LeadsTo which.Ticks o s ⊥ → GrowsBy mid new (text_request c.ticks o ∷ []) → EndsWithFiles c s old new
  ticks_unfound s o leads grown = record {
    console = outcomes.Found;
    ticks = o;
    requests = grows_both old mid new (text_request c.console outcomes.Found ∷ []) (text_request c.ticks o ∷ []) first grown;
    status_is = leads_on which.Ticks o s (IsAfterFiles s) leads;
  }

  -- both are found
  pub both_found : GrowsBy mid new (text_request c.ticks outcomes.Found ∷ []) → GrowsBy old new (file_requests c outcomes.Found outcomes.Found)
  both_found grown = grows_both old mid new (text_request c.console outcomes.Found ∷ []) (text_request c.ticks outcomes.Found ∷ []) first grown

  -- and not played
  pub both_unplayed : (s : Status) → IsAfterFiles s → GrowsBy mid new (text_request c.ticks outcomes.Found ∷ []) → EndsWithFiles c s old new
  both_unplayed s unplayed grown = record { console = outcomes.Found; ticks = outcomes.Found; requests = both_found grown; status_is = unplayed }
