-- What the program leaves.
use Rattle.std.proofs.Common.{◌≡◌, ◌≢◌, ℕ, List, Option, None, Some, refl, subst, inl, inr}
use Rattle.std.specs.Prelude.{◌⊎◌, Vec}
use Rattle.std.specs.declared.dyn_box.DynBox.{DynBox}
use Rattle.std.specs.declared.alloc.Global.{Global}
use Rattle.wind_outside.specs.Devices.{DeviceState}
use Rattle.wind_outside.specs.Counts.{Rose}
use Rattle.wind_outside.specs.Requests.{GrowsBy, Request}
use Rattle.board_player.specs.WindMachineState.{State}
use Rattle.board_player.specs.declared.board.Board.{Board}
use Rattle.wind_session.specs.Command.{CommandState}
use Rattle.wind_session.specs.declared.command.Source.TheVariants as sources
use Rattle.wind_session.specs.Fetches.{source_requests}
use Rattle.wind_session.specs.Headline.{IsComplete, IsKept, IsNotPlayed, Leaves, NotPlayed}
use Rattle.wind_session.specs.Keeping.{Around, Messages}
use Rattle.wind_session.specs.Outside.{Outside}
use Rattle.wind_session.specs.Plan.{Plan}
use Rattle.wind_session.specs.Program.{EndsAs, PlayedOn, Session}
use Rattle.wind_session.specs.Status.{status_number}
use Rattle.wind_session.specs.Texts.{IsPrinted, memory_text}
use Rattle.wind_session.specs.declared.ending.Stand.{Stand}
use Rattle.wind_session.specs.declared.ending.Stand.TheVariants as stands
use Rattle.wind_session.specs.declared.ending.Status.{Status}
use Rattle.wind_session.specs.declared.ending.Status.TheVariants as status
use Rattle.wind_session.proofs.AppendingLemmas.{memory_is_text}
use Rattle.wind_session.proofs.FailureLemmas.{unfetched}
use Rattle.wind_session.proofs.FetchLemmas.{inputs_unread, source_found}
use Rattle.wind_session.proofs.PlanLemmas.{some_plan}

-- what a session leaves, without its board
pub left_on : {I : Type 0} {X : I → Type 0} (state : Board I X → State) (s : Status) (stand : Stand I X) (plan : Plan) (command : Option CommandState) (slots : Vec (Option (DynBox I Global X)) Global)
    (devices other : List (Option DeviceState)) (before after : Around) → Leaves state s stand plan command slots devices before after → IsKept state stand → devices ≡ other
    → IsNotPlayed s plan command before after ⊎ PlayedOn s plan command other before after
left_on state s (stands.NotBooted back) plan command slots devices other before after leaves kept same = inl leaves.1
left_on state s (stands.Booted board) plan command slots devices other before after leaves kept same =
    subst (λ d. IsNotPlayed s plan command before after ⊎ PlayedOn s plan command d before after) same (inr (record { board = state board; played = leaves; good = kept.0; instant = kept.1 }))

-- memory ran out before a session: what is complete, and what is left
pub complete_unmade : (command : Option CommandState) (before after : Around) → IsComplete status.NoMemory command before after
complete_unmade None before after = tt
complete_unmade (Some c) before after = λ there fine out_fine. tt

pub unplayed : (plan : Plan) (command : Option CommandState) (fault : Type 0) (now : Outside) → NotPlayed status.NoMemory plan command fault now now
unplayed plan command fault now = record { bytes = refl; pieces = refl; refusal = tt; fetches = inputs_unread command now.requests }

-- memory ran out for the board, after the fetches of the command's files
pub unbooted : (plan : Plan) (command : CommandState) (fault : Type 0) (old : Outside) (requests : Option (List Request)) → GrowsBy old.requests requests (source_requests command.source command) → (command.source ≢ sources.Files → requests ≡ old.requests)
    → NotPlayed status.NoMemory plan (Some command) fault old (record old { requests = requests })
unbooted plan command fault old requests grown unasked = record { bytes = refl; pieces = refl; refusal = tt; fetches = source_found command.source command old.requests requests grown unasked }

-- memory ran out before a session
pub session_unmade : (command : Option CommandState) (now : Around) → Session status.NoMemory command now now
session_unmade command now =
    let some = some_plan now.files command in
    record {
      plan = some.0;
      planned = some.1;
      leaves = inl (unplayed some.0 command _ now.logged);
      usage = λ ne. absurd (ne refl);
      complete = complete_unmade command now now;
      fails_last = unfetched status.NoMemory now.logged.requests now.logged.requests (λ e. cc) refl;
      read_fault = λ e. cc;
      write_fault = λ e. cc;
    }

-- that memory ran out was reported
pub out_of_memory : (program : List ℕ) (number : ℕ) (IsSession : Status → Type 0) (command : Option CommandState) (before after : Messages) → number ≡ status_number status.NoMemory → IsSession status.NoMemory
    → IsPrinted before.bytes after.bytes (memory_text program) (Rose before.faults after.faults) → EndsAs program number IsSession command before after
out_of_memory program number IsSession command before after number_is session printed = record {
  ended = status.NoMemory;
  number_is = number_is;
  session = session;
  tells = record { text = memory_text program; text_is = memory_is_text program command; printed = printed };
}
