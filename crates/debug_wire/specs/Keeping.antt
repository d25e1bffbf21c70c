-- What a reader holds.
use Rattle.std.specs.Prelude.{ℕ, List}
use Rattle.debug_wire.specs.declared.reader.Part.{Part}
use Rattle.debug_wire.specs.declared.reader.Part.TheVariants.{Start, Body, FirstDigit, SecondDigit}
use Rattle.debug_wire.specs.Frames.{Place, Between, InBody, AfterBody, AfterDigit}

-- the place of a reader: the part of a packet that comes next, and the body so far
abbrev pub place_of : Part → List ℕ → Place
place_of Start body = Between
place_of Body body = InBody body
place_of FirstDigit body = AfterBody body
place_of (SecondDigit high) body = AfterDigit body high
