-- What a step of the code answers and leaves.
use Rattle.std.specs.Prelude.{◌≡◌, List, Option, Some, None}
use Rattle.shell_parse.specs.declared.allowed.Mode.{Mode}
use Rattle.shell_parse.specs.declared.frames.Frame.{Frame}
use Rattle.shell_parse.specs.Allowed.{Place, at}

-- the mode and the frames are those after the token; if it isn't allowed, the frames don't matter
abbrev pub Steps : Option Mode → List Frame → Option Place → Type 0
Steps None frames place = place ≡ None
Steps (Some mode) frames place = place ≡ at mode frames
