-- Along the lines of a run, board time never decreases.
use Rattle.std.proofs.Common.{◌≡◌, ℕ, zero, suc, ◌≤◌, List, [], ◌∷◌, map, Option, None, Some, refl, arith}
use Rattle.wind_machine.specs.Extending.{TimeGrows}
use Rattle.wind_machine.specs.Run.{Answers, after}
use Rattle.wind_machine.specs.State.{State}
use Rattle.board_trace.specs.Laws.{AreInTime, TimeLaw, newest_time}
use Rattle.board_trace.specs.Runs.{Line, joined, joined_or, line_in, lines_of, with_line, with_lines}
use Rattle.board_trace.specs.Steps.{happenings}
use Rattle.board_trace.specs.declared.happening.Happening.{Happening}
use Rattle.board_trace.proofs.Observing.{time_up}

-- lines in order of time, none of them after this time
record AreUpTo (time : ℕ) (ls : List Line) : Type 0 where
  order : AreInTime ls
  last : newest_time ls ≤ time

-- one more line at this time joins the newest, or stands alone
one_more : (time : ℕ) (next : Line) (ls : List Line) → next.time ≡ time → AreUpTo time ls → AreUpTo time (with_line next ls)
one_more time next [] at up = record { order = (omega arith, tt); last = omega arith }
one_more time next (newest ∷ older) at up = go (joined newest.what next.what) where
  go : (o : Option Happening) → AreUpTo time (joined_or o next newest older)
  go None = record { order = (omega (arith, up.last, at), up.order); last = omega (arith, at) }
  go (Some h) = record { order = up.order; last = up.last }

-- those of a step
step_more : (u v : State) (hs : List Happening) (ls : List Line) → AreUpTo u.time ls → AreUpTo u.time (with_lines (map (line_in u v) hs) ls)
step_more u v [] ls up = up
step_more u v (h ∷ hs) ls up = step_more u v hs (with_line (line_in u v h) ls) (one_more u.time (line_in u v h) ls refl up)

module _ (grows : TimeGrows) (said : Answers) (s : State) where
  all_up : (k : ℕ) → AreUpTo (after said s k).time (lines_of said s k)
  all_up zero = record { order = tt; last = omega arith }
  all_up (suc k) =
      let u = after said s k in
      let v = after said s (suc k) in
      let later = time_up grows said s k in
      let up = step_more u v (happenings (said k) u v) (lines_of said s k) (all_up k) in
      record { order = up.order; last = omega (arith, up.last, later) }

pub times_rise : TimeGrows → TimeLaw
times_rise grows said s k = (all_up grows said s k).order
