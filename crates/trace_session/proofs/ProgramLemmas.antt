-- What the program leaves.
use Rattle.std.proofs.Common.{◌≡◌, List, Option, refl, subst, inl, inr}
use Rattle.std.specs.Prelude.{◌⊎◌, Vec}
use Rattle.std.specs.declared.dyn_box.DynBox.{DynBox}
use Rattle.std.specs.declared.alloc.Global.{Global}
use Rattle.wind_outside.specs.Devices.{DeviceState}
use Rattle.wind_session.specs.WindMachineState.{State}
use Rattle.wind_session.specs.BoardPlayerBoard.{Board}
use Rattle.wind_session.specs.Headline.{IsKept, IsNotPlayed}
use Rattle.wind_session.specs.Keeping.{Around}
use Rattle.wind_session.specs.Plan.{Plan}
use Rattle.wind_session.specs.declared.ending.Stand.{Stand}
use Rattle.wind_session.specs.declared.ending.Stand.TheVariants as stands
use Rattle.wind_session.specs.declared.ending.Status.{Status}
use Rattle.wind_session.specs.declared.ending.Status.TheVariants as status
use Rattle.wind_session.proofs.PlanLemmas.{some_plan}
use Rattle.wind_session.proofs.ProgramLemmas.{complete_unmade, unplayed}
use Rattle.trace_session.specs.declared.traced.Product.{Product}
use Rattle.trace_session.specs.Command.{TraceState, session_of}
use Rattle.trace_session.specs.Headline.{IsTraced, Leaves}
use Rattle.trace_session.specs.Program.{Session, TracedOn}

-- what a session leaves, without its board
pub left_on : {I : Type 0} {X : I → Type 0} (state : Board I X → State) (s : Status) (stand : Stand I X) (product : Product) (plan : Plan) (command : Option TraceState) (slots : Vec (Option (DynBox I Global X)) Global)
    (devices other : List (Option DeviceState)) (before after : Around) → Leaves state s stand product plan command slots devices before after → IsKept state stand → devices ≡ other
    → IsNotPlayed s plan (session_of command) before after ⊎ TracedOn s plan command other before after
left_on state s (stands.NotBooted back) product plan command slots devices other before after leaves kept same = inl leaves.1
left_on state s (stands.Booted board) product plan command slots devices other before after leaves kept same =
    inr (record { board = state board; product = product; traced = subst (λ d. IsTraced s plan command product d (state board) before after) same leaves; good = kept.0; instant = kept.1 })

-- memory ran out before a session
pub session_unmade : (command : Option TraceState) (now : Around) → Session status.NoMemory command now now
session_unmade command now =
    let some = some_plan now.files (session_of command) in
    record {
      plan = some.0;
      planned = some.1;
      leaves = inl (unplayed some.0 (session_of command) _ now.logged);
      usage = λ ne. absurd (ne refl);
      complete = complete_unmade (session_of command) now now;
      read_fault = λ e. cc;
      write_fault = λ e. cc;
    }
