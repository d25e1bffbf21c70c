-- What one line adds to how objects were used.
use Rattle.std.specs.Prelude.{◌-◌, max, if◌then◌else◌, List, [], ◌∷◌, ◌++◌, map, Option, None, Some}
use Rattle.std.specs.List.{list_any}
use Rattle.trace_summary.specs.Adding.{sum_of}
use Rattle.trace_summary.specs.Holds.{ended, holder_after, longer_of}
use Rattle.trace_summary.specs.Usage.{same_object}
use Rattle.trace_summary.specs.declared.usage.Move.{Move}
use Rattle.trace_summary.specs.declared.usage.Object.{Object}
use Rattle.trace_summary.specs.declared.usage.Usage.{Usage}

-- nothing came or left
abbrev pub unused : Object → Usage
unused o = record { object = o; entries = 0; exits = 0; most = 0; holding = None; longest = None }

-- something comes, or leaves
abbrev pub entered : Usage → Usage
entered u = record u { entries = sum_of u.entries 1; most = max (sum_of u.entries 1 - u.exits) u.most }

abbrev pub left : Usage → Usage
left u = record u { exits = sum_of u.exits 1 }

-- the hold that went on ends, and another begins if an owner comes
abbrev pub held : Move → Usage → Usage
held m u = record u { holding = holder_after m; longest = longer_of (ended u.holding m.time) u.longest }

-- after a move, if it is one of this object
abbrev pub moved : Move → Usage → Usage
moved m u = if same_object u.object m.object then held m (if m.enters then entered u else left u) else u

-- adds an object, unless it is among these
abbrev pub with_usage : Object → List Usage → List Usage
with_usage o us = if list_any (λ u. same_object u.object o) us then us else us ++ unused o ∷ []

-- after a move, if there is one
abbrev pub with_move : Option Move → List Usage → List Usage
with_move None us = us
with_move (Some m) us = map (moved m) (with_usage m.object us)
