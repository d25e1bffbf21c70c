-- What a reader of the code answers, compared with what the definitions read.
use Rattle.std.specs.Prelude.{◌≡◌, Option, Some, None, Result, Ok, Err}
use Rattle.shell_parse.specs.declared.descent.ReadErr.{ReadErr}
use Rattle.shell_parse.specs.declared.descent.ReadErr.TheVariants.{NoTree, NoMemory}

-- nothing is read; an answer that memory ran out says nothing
abbrev pub Fails : {Y : Type 0} → ReadErr → Option Y → Type 0
Fails NoTree read = read ≡ None
Fails NoMemory read = Unit {0}

-- a reader answers what is read, as plain data
abbrev pub Gives : {X Y : Type 0} → (X → Y) → Result X ReadErr → Option Y → Type 0
Gives see (Ok x) read = read ≡ Some (see x)
Gives see (Err e) read = Fails e read
