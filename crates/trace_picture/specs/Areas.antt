-- A picture as a list of areas.
use Rattle.std.specs.Prelude.{if◌then◌else◌, List, [], ◌∷◌, ◌++◌, Option, None, Some}
use Rattle.board_changes.specs.declared.spans.Span.{Span}
use Rattle.trace_picture.specs.declared.areas.Area.{Area}
use Rattle.trace_picture.specs.declared.areas.AreaKind.{AreaKind}
use Rattle.trace_picture.specs.declared.areas.AreaKind.TheVariants.{Bar, Band}

-- the area of this kind that a span has in the row of its task; its title is what the task did
abbrev pub area_of : AreaKind → Span → Area
area_of kind s = record { row = s.who; from = s.from; to = s.to; kind = kind; title = s.look }

-- a band is there if the task inherits a priority
abbrev pub band_of : Span → Option Area
band_of s = if s.look.inherits then Some (area_of Band s) else None

-- a bar, and the band if there is one
abbrev pub with_band : Area → Option Area → List Area
with_band bar None = bar ∷ []
with_band bar (Some band) = bar ∷ band ∷ []

-- the areas of spans, in their order
abbrev pub areas_of : List Span → List Area
areas_of [] = []
areas_of (s ∷ ss) = with_band (area_of Bar s) (band_of s) ++ areas_of ss
