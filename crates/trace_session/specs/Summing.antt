-- The summary of a run.
use Rattle.std.specs.Prelude.{◌≡◌, ℕ, List, Option}
use Rattle.generated_session.specs.Puts.{SinkLog}
use Rattle.wind_machine.specs.State.{State}
use Rattle.wind_machine.specs.Run.{Answers, after}
use Rattle.wind_session.specs.declared.run.RunEnd.{RunEnd}
use Rattle.board_trace.specs.Runs.{lines_of}
use Rattle.board_trace.specs.Snapshots.{snapshot_of}
use Rattle.trace_state.specs.Board.{IsTextOf}
use Rattle.trace_summary.specs.Data.{summary_data}
use Rattle.trace_summary.specs.Summaries.{SummaryState, TallyState, summary_of, summary_state, tally_of}
use Rattle.trace_session.specs.Traced.{IsPutAfter, IsPutOf}
use Rattle.trace_session.specs.Watches.{KeepsWatch}
use Rattle.trace_session.specs.Watching.{span_lists_of, watched_after}
use Rattle.trace_session.specs.declared.traced.Product.{Product}
use Rattle.trace_session.specs.declared.traced.Product.TheVariants as products
use Rattle.trace_session.specs.declared.watch.Watch.{Watch}

-- the summary of the first k steps from s: of the tasks that live in s, and of the lines and spans of these steps
abbrev pub run_summary : Answers → State → ℕ → SummaryState
run_summary said s k = summary_of (snapshot_of s.world).tasks (lines_of said s k) (span_lists_of said s k) (after said s k).time (after said s k).steps

-- nothing was put, and the lines of the first k steps were counted, and their spans
abbrev pub CountsLines : TallyState → Watch → SinkLog → SinkLog → Answers → State → ℕ → Type 0
CountsLines tally watch first now said s k = (now ≡ first) × (tally ≡ tally_of (snapshot_of s.world).tasks (lines_of said s k)) × KeepsWatch watch (watched_after said s k)

-- the run ended like this, and this is its summary
abbrev pub IsSummedUp : RunEnd → SummaryState → State → Answers → ℕ → RunEnd → Type 0
IsSummedUp result summary s said k end = (result ≡ end) × (summary ≡ run_summary said s k)

-- the summary was put as JSON
abbrev pub TellsSummary : RunEnd → State → Option (List ℕ) → Option (List ℕ) → Answers → ℕ → RunEnd → Type 0
TellsSummary result s old new said k end = (text : List ℕ) × IsTextOf text (summary_data (run_summary said s k)) × IsPutOf text result end old new

-- a summary is left
abbrev pub HasSummary : Product → SummaryState → Type 0
HasSummary (products.Table summary) figures = summary_state summary ≡ figures
HasSummary products.Text figures = ⊥
HasSummary (products.Picture areas) figures = ⊥

-- the run ended like this, or the put of its table failed; and its summary is left
abbrev pub TellsTable : Product → RunEnd → State → Answers → ℕ → RunEnd → Type 0
TellsTable product result s said k end = IsPutAfter result said k end × HasSummary product (run_summary said s k)
