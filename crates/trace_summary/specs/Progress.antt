-- What is kept of a list while it is gone through.
use Rattle.std.specs.Prelude.{List, [], ◌∷◌, None, Some}
use Rattle.trace_summary.specs.Stretches.{ResponseState, greatest, longest}
use Rattle.trace_summary.specs.declared.response.Responses.{Responses}
use Rattle.trace_summary.specs.declared.stretch.Progress.{Progress}
use Rattle.trace_summary.specs.declared.stretch.Stretch.{Stretch}

-- of stretches the newest, and the longest of those before it
abbrev pub progress_of : List Stretch → Progress
progress_of [] = record { newest = None; longest = None }
progress_of (newest ∷ older) = record { newest = Some newest; longest = longest older }

-- of responses the longest
abbrev pub kept_of : ResponseState → Responses
kept_of r = record { since = r.since; longest = greatest r.times }
