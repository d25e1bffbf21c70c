-- The promises hold of the run that a traced session leaves.
use Rattle.std.proofs.Common.{◌≡◌, ℕ, List, Option, None, Some, refl, sym, subst, inl, inr}
use Rattle.std.specs.Prelude.{◌⊎◌}
use Rattle.tick_file.specs.Schedule.{Timetable}
use Rattle.wind_session.specs.WindMachineState.{State}
use Rattle.wind_session.specs.WindMachineMachine.{opening}
use Rattle.wind_session.specs.Headline.{IsNotPlayed, shelf_of}
use Rattle.wind_session.specs.Keeping.{Around}
use Rattle.wind_session.specs.Outside.{with_inputs}
use Rattle.wind_session.specs.Plan.{Plan, Start, IsPlanOf}
use Rattle.wind_session.specs.Program.{opening_devices}
use Rattle.wind_session.specs.Status.{status_number}
use Rattle.wind_session.specs.declared.ending.Status.{Status}
use Rattle.trace_session.specs.declared.traced.Product.{Product}
use Rattle.session_promises.specs.Promises.{PromiseLaw}
use Rattle.session_promises.specs.Sessions.{IsAsPromised, PlaysAsPromised, Promised}
use Rattle.session_promises.proofs.Promised.{plays_as_promised}
use Rattle.trace_session.specs.Command.{TraceState, session_of}
use Rattle.trace_session.specs.Headline.{IsLeft}
use Rattle.trace_session.specs.Program.{Session, TracedOn}

module _ (law : PromiseLaw) where
  by_left : (s : Status) (plan : Plan) (c : TraceState) (product : Product) (board : State) (before after : Around) → IsPlanOf c.session.source before.files c.session plan
      → (console : List ℕ) (schedule : Timetable) → plan ≡ Start console schedule
      → IsLeft c.form c.choice product s (shelf_of before.files c.session) (opening console schedule opening_devices c.session.profile c.session.board) c.session.limit board (with_inputs c.session before.logged) after.logged
      → PlaysAsPromised plan c.session before after
  by_left s plan c product board before after planned console schedule starts (inl told) =
      plays_as_promised law plan c.session before after planned console schedule starts told.2.said told.2.k told.2.end board told.2.made
  by_left s plan c product board before after planned console schedule starts (inr told) =
      plays_as_promised law plan c.session before after planned console schedule starts told.1.said told.1.k told.1.end board told.1.made

  by_leaves : (s : Status) (plan : Plan) (c : TraceState) (before after : Around) → IsPlanOf c.session.source before.files c.session plan
      → IsNotPlayed s plan (Some c.session) before after ⊎ TracedOn s plan (Some c) opening_devices before after → IsAsPromised s plan (Some c.session) before after
  by_leaves s plan c before after planned (inl unplayed) = inl unplayed
  by_leaves s plan c before after planned (inr on) =
      let t = on.traced in
      inr (by_left s plan c on.product on.board before after planned t.console t.schedule t.planned t.left)

  unplayed : (s : Status) (plan : Plan) (before after : Around) → IsNotPlayed s plan None before after ⊎ TracedOn s plan None opening_devices before after → IsNotPlayed s plan None before after
  unplayed s plan before after (inl h) = h
  unplayed s plan before after (inr on) = absurd on.traced

  as_promised : (s : Status) (before after : Around) (command : Option TraceState) → Session s command before after → Promised (status_number s) (session_of command) before after
  as_promised s before after None session =
      record { ended = s; number_is = refl; plan = session.plan; planned = session.planned; session = unplayed s session.plan before after session.leaves }
  as_promised s before after (Some c) session =
      record { ended = s; number_is = refl; plan = session.plan; planned = session.planned; session = by_leaves s session.plan c before after session.planned session.leaves }

  pub trace_promised : (number : ℕ) (s : Status) (command : Option TraceState) (before after : Around) → number ≡ status_number s → Session s command before after → Promised number (session_of command) before after
  trace_promised number s command before after is session = subst (λ n. Promised n (session_of command) before after) (sym is) (as_promised s before after command session)
