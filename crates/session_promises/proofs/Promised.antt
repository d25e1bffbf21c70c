-- The promises hold of the run that a session leaves.
use Rattle.std.proofs.Common.{◌≡◌, ℕ, List, Option, None, Some, refl, sym, subst, inl, inr}
use Rattle.std.specs.Prelude.{◌⊎◌}
use Rattle.tick_file.specs.Schedule.{Timetable}
use Rattle.wind_machine.specs.State.{State}
use Rattle.wind_machine.specs.Machine.{opening}
use Rattle.wind_machine.specs.Run.{Answers}
use Rattle.wind_session.specs.Command.{CommandState}
use Rattle.wind_session.specs.Headline.{IsLeft, IsNotPlayed, shelf_of}
use Rattle.wind_session.specs.Keeping.{Around}
use Rattle.wind_session.specs.Outside.{with_inputs}
use Rattle.wind_session.specs.Plan.{Plan, Start, IsPlanOf}
use Rattle.wind_session.specs.Program.{opening_devices, PlayedOn, Session}
use Rattle.wind_session.specs.Runs.{Made}
use Rattle.wind_session.specs.Status.{status_number}
use Rattle.wind_session.specs.declared.command.Source.{Source}
use Rattle.wind_session.specs.declared.command.Source.TheVariants as sources
use Rattle.wind_session.specs.declared.ending.Status.{Status}
use Rattle.wind_session.specs.declared.run.RunEnd.{RunEnd}
use Rattle.session_promises.specs.Promises.{Promises, PromiseLaw}
use Rattle.session_promises.specs.Sessions.{IsAsPromised, PlaysAsPromised, Promised}
use Rattle.session_promises.proofs.Planned.{timed}

module _ (law : PromiseLaw) where
  -- a run of a command that was made
  pub plays_as_promised : (plan : Plan) (c : CommandState) (before after : Around) → IsPlanOf c.source before.files c plan → (console : List ℕ) (schedule : Timetable) → plan ≡ Start console schedule
      → (said : Answers) (k : ℕ) (end : RunEnd) (board : State)
      → Made end (shelf_of before.files c) said (opening console schedule opening_devices c.profile c.board) c.limit k board (with_inputs c before.logged).requests after.logged.requests
      → PlaysAsPromised plan c before after
  plays_as_promised plan c before after planned console schedule starts said k end board made =
      let ticks = timed console schedule c.source before.files c plan planned starts in
      record {
        console = console;
        schedule = schedule;
        planned = starts;
        run = record {
          said = said;
          k = k;
          end = end;
          board = board;
          made = made;
          at_each = λ j h. subst (λ t. Promises said console (opening console t opening_devices c.profile c.board) j) (sym ticks.1) (law said console ticks.0 opening_devices c.profile c.board j);
        };
      }

  -- whatever it leaves
  by_source : (s : Status) (plan : Plan) (c : CommandState) (before after : Around) → IsPlanOf c.source before.files c plan → (console : List ℕ) (schedule : Timetable) → plan ≡ Start console schedule
      → (source : Source) (end : RunEnd) (board : State)
      → IsLeft source s end (shelf_of before.files c) (opening console schedule opening_devices c.profile c.board) c.limit board (with_inputs c before.logged) after.logged
      → PlaysAsPromised plan c before after
  by_source s plan c before after planned console schedule starts sources.Files end board left =
      plays_as_promised plan c before after planned console schedule starts left.1.said left.1.k end board left.1.made
  by_source s plan c before after planned console schedule starts (sources.Generated n) end board left =
      plays_as_promised plan c before after planned console schedule starts left.said left.k end board left.made

  played_as_promised : (s : Status) (plan : Plan) (c : CommandState) (before after : Around) → IsPlanOf c.source before.files c plan
      → IsNotPlayed s plan (Some c) before after ⊎ PlayedOn s plan (Some c) opening_devices before after → IsAsPromised s plan (Some c) before after
  played_as_promised s plan c before after planned (inl unplayed) = inl unplayed
  played_as_promised s plan c before after planned (inr on) =
      let p = on.played in
      inr (by_source s plan c before after planned p.console p.schedule p.planned c.source p.end on.board p.left)

  as_promised : (s : Status) (before after : Around) (command : Option CommandState) → Session s command before after → Promised (status_number s) command before after
  as_promised s before after None session = record { ended = s; number_is = refl; plan = session.plan; planned = session.planned; session = unplayed session.leaves }
    where
      unplayed : IsNotPlayed s session.plan None before after ⊎ PlayedOn s session.plan None opening_devices before after → IsNotPlayed s session.plan None before after
      unplayed (inl h) = h
      unplayed (inr on) = absurd on.played
  as_promised s before after (Some c) session =
      record { ended = s; number_is = refl; plan = session.plan; planned = session.planned; session = played_as_promised s session.plan c before after session.planned session.leaves }

  pub promised : (number : ℕ) (s : Status) (command : Option CommandState) (before after : Around) → number ≡ status_number s → Session s command before after → Promised number command before after
  promised number s command before after is session = subst (λ n. Promised n command before after) (sym is) (as_promised s before after command session)
