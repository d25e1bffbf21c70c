-- A session that is played has the events of a tick file.
use Rattle.std.proofs.Common.{◌≡◌, ℕ, List, Option, None, Some, true, false, cond, sym, ◌∙◌, length}
use Rattle.std.specs.Prelude.{nat_lt}
use Rattle.wind_base.specs.Limits.{longest_text_file}
use Rattle.wind_outside.specs.Files.{Files}
use Rattle.tick_file.specs.Lines.{first_bad_line}
use Rattle.tick_file.specs.Schedule.{Timetable, timetable_of}
use Rattle.generated_session.specs.Session.{generated_console, generated_ticks}
use Rattle.wind_session.specs.Command.{CommandState}
use Rattle.wind_session.specs.Plan.{Plan, Refuse, Start, IsPlanOf, plan_file, plan_lines, plan_ticks}
use Rattle.wind_session.specs.declared.command.Source.{Source}
use Rattle.wind_session.specs.declared.command.Source.TheVariants as sources
use Rattle.wind_session.specs.declared.ending.Status.TheVariants as status
use Rattle.wind_session.specs.declared.ending.Which.{Which}
use Rattle.wind_session.specs.declared.ending.Which.TheVariants as which

module _ (console : List ℕ) (schedule : Timetable) where
  -- some tick file gives the schedule
  abbrev pub IsTimed : Type 0
  IsTimed = (ticks : List ℕ) × (schedule ≡ timetable_of ticks)

  by_schedule : (file : List ℕ) (t : Timetable) → Start file t ≡ Start console schedule → schedule ≡ t
  by_schedule file t e = cc

  by_lines : (file ticks : List ℕ) (bad : Option ℕ) → plan_lines file ticks bad ≡ Start console schedule → schedule ≡ timetable_of ticks
  by_lines file ticks None e = by_schedule file (timetable_of ticks) e
  by_lines file ticks (Some n) e = absurd (cc)

  by_file : (file : Which) (next : List ℕ → Plan) (o : Option (List ℕ)) → plan_file file next o ≡ Start console schedule → (bytes : List ℕ) × (next bytes ≡ Start console schedule)
  by_file file next None e = absurd (cc)
  by_file file next (Some b) e =
      elim (nat_lt longest_text_file (length b)) as (λ t. cond t (Refuse (status.TooLong file)) (next b) ≡ Start console schedule → (bytes : List ℕ) × (next bytes ≡ Start console schedule)) [
        | true ↦ λ q. absurd (cc)
        | false ↦ λ q. (b, q)
      ] e

  pub timed : (source : Source) (files : Option Files) (c : CommandState) (plan : Plan) → IsPlanOf source files c plan → plan ≡ Start console schedule → IsTimed
  timed sources.Files files c plan planned e =
      let first = by_file which.Console (λ bytes. plan_file which.Ticks (plan_ticks bytes) planned.ticks) planned.console (sym planned.plan_is ∙ e) in
      let second = by_file which.Ticks (plan_ticks first.0) planned.ticks first.1 in
      (second.0, by_lines first.0 second.0 (first_bad_line second.0) second.1)
  timed (sources.Generated n) files c plan planned e = (generated_ticks n, by_schedule (generated_console n) (timetable_of (generated_ticks n)) (sym planned ∙ e))
