-- What the arguments of ppcasm ask for, and how a call ends.
use Rattle.std.specs.Prelude.{◌≡◌, ◌⊎◌, ℕ, ◌<◌, ◌≤◌, Bool, true, not, ◌==◌, ◌&&◌, if◌then◌else◌, List, [], ◌∷◌, length, Option, Some, None, IfSome, IsSomeAnd, Ok, Err, bytes_eq, codes}
use Prim.Native.Char.{code}
use Rattle.wind_base.specs.Limits.{longest_text_file}
use Rattle.wind_outside.specs.Files.{Files}
use Rattle.wind_outside.specs.Appending.{Appended, AppendedPrefix}
use Rattle.elf_read.specs.declared.module.Module.{Module}
use Rattle.elf_read.specs.Contents.{ModuleOf}
use Rattle.elf_read.specs.Rules.{Refused}
use Rattle.ppc_asm.specs.declared.status.AsmStatus.{AsmStatus}
use Rattle.ppc_asm.specs.declared.status.AsmStatus.TheVariants as status
use Rattle.ppc_asm.specs.Assembly.{assembly}
use Rattle.ppc_asm.specs.Listing.{listing}
use Rattle.ppc_asm.specs.Words.{HasWords}

-- ---- words
-- a file's name doesn't begin with `-`
abbrev pub is_file : List ℕ → Bool
is_file [] = true
is_file (b ∷ bs) = not (b == code "-")

-- the file to be assembled: it is the only word after the program's name
abbrev pub to_assemble : List (List ℕ) → Option (List ℕ)
to_assemble (program ∷ file ∷ []) = if is_file file then Some file else None
to_assemble _ = None

-- the file to be listed: `--list` stands before it
abbrev pub to_list : List (List ℕ) → Option (List ℕ)
to_list (program ∷ option ∷ file ∷ []) = if bytes_eq option (codes "--list") && is_file file then Some file else None
to_list _ = None

-- the program's exit status
abbrev pub number_of : AsmStatus → ℕ
number_of status.Done = 0
number_of status.Usage = 1
number_of status.Absent = 2
number_of status.ReadFault = 4
number_of status.WriteFault = 5
number_of status.NoMemory = 6
number_of (status.BadSource line cause) = 7
number_of status.TooLong = 8
number_of (status.BadObject error) = 10

-- ---- the bytes of a file
-- there is a file of the module of this text, whose words decode to the text's instructions, and `Added` says how much
-- of it the output has got
pub record Adds (Added : Option (List ℕ) → Option (List ℕ) → List ℕ → Type 0) (text : List ℕ) (old new : Option (List ℕ)) : Type 0 where
  pub it : Module
  pub file : List ℕ
  pub assembled : assembly text ≡ Ok it
  pub holds : ModuleOf file it
  pub words : HasWords text file
  pub added : Added old new file

-- a file of this text's module is added to the output, or a prefix of one
abbrev pub Written : List ℕ → Option (List ℕ) → Option (List ℕ) → Type 0
Written = Adds Appended

abbrev pub WrittenPrefix : List ℕ → Option (List ℕ) → Option (List ℕ) → Type 0
WrittenPrefix = Adds AppendedPrefix

-- how a call that assembles this text ends; `rose` says that the sink's count of faults rose
abbrev pub Assembles : Option (List ℕ) → Option (List ℕ) → Type 0 → List ℕ → AsmStatus → Type 0
Assembles old new rose text status.Done = Written text old new
Assembles old new rose text status.WriteFault = WrittenPrefix text old new × rose
Assembles old new rose text (status.BadSource line cause) = (assembly text ≡ Err (line, cause)) × (new ≡ old)
Assembles old new rose text status.NoMemory = new ≡ old
Assembles old new rose text _ = ⊥

-- the listing of this file's module is added to the output
pub record Listed (bytes : List ℕ) (old new : Option (List ℕ)) : Type 0 where
  pub it : Module
  pub holds : ModuleOf bytes it
  pub added : Appended old new (listing it)

-- a prefix of the listing of this file's module is added to the output
pub record ListedPrefix (bytes : List ℕ) (old new : Option (List ℕ)) : Type 0 where
  pub it : Module
  pub holds : ModuleOf bytes it
  pub added : AppendedPrefix old new (listing it)

-- how a call that lists the module of these bytes ends
abbrev pub Lists : Option (List ℕ) → Option (List ℕ) → Type 0 → List ℕ → AsmStatus → Type 0
Lists old new rose bytes status.Done = Listed bytes old new
Lists old new rose bytes status.WriteFault = ListedPrefix bytes old new × rose
Lists old new rose bytes (status.BadObject error) = Refused bytes error × (new ≡ old)
Lists old new rose bytes status.NoMemory = new ≡ old
Lists old new rose bytes _ = ⊥

-- ---- a file
-- why the bytes of the file with this name can't be had; `rose` says that the folder's count of faults rose
abbrev pub Unread : Option Files → List ℕ → Type 0 → AsmStatus → Type 0
Unread files name rose status.Absent = IfSome files (λ held. held name ≡ None)
Unread files name rose status.TooLong = IfSome files (λ held. IsSomeAnd (held name) (λ bytes. longest_text_file < length bytes))
Unread files name rose status.ReadFault = rose
Unread files name rose status.NoMemory = Unit {0}
Unread files name rose _ = ⊥

-- the file with this name has these bytes, which are at most 1 MiB
abbrev pub HasBytes : Option Files → List ℕ → List ℕ → Type 0
HasBytes files name bytes = IfSome files (λ held. held name ≡ Some bytes) × (length bytes ≤ longest_text_file)

-- how a call that reads the file with this name ends: it has no bytes and adds nothing, or it goes on with the bytes
abbrev pub ReadsFile : (List ℕ → AsmStatus → Type 0) → Option Files → List ℕ → Type 0 → Option (List ℕ) → Option (List ℕ) → AsmStatus → Type 0
ReadsFile GoesOn files name rose old new end = (Unread files name rose end × (new ≡ old)) ⊎ ((bytes : List ℕ) × HasBytes files name bytes × GoesOn bytes end)

-- how a call that assembles the file with this name ends
abbrev pub AssemblesFile : Option Files → List ℕ → Type 0 → Option (List ℕ) → Option (List ℕ) → Type 0 → AsmStatus → Type 0
AssemblesFile files name read_rose old new rose end = ReadsFile (Assembles old new rose) files name read_rose old new end

-- how a call that lists the file with this name ends
abbrev pub ListsFile : Option Files → List ℕ → Type 0 → Option (List ℕ) → Option (List ℕ) → Type 0 → AsmStatus → Type 0
ListsFile files name read_rose old new rose end = ReadsFile (Lists old new rose) files name read_rose old new end
