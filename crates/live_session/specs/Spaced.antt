-- `N every M` of a line for the program, as the program holds it.
use Rattle.live_session.specs.DotLines.{Spaced}
use Rattle.live_session.specs.declared.dot_line.Spaced.{Spaced as SpacedText}

abbrev pub spaced_seen : SpacedText → Spaced
spaced_seen s = record { count = s.count; period = s.period; rest = s.rest.now }
