-- The undefined names of modules that are linked, and the lines that tell them.
use Rattle.std.specs.Prelude.{◌≡◌, ℕ, ◌+◌, List, [], ◌∷◌, ◌++◌, map, codes, Option, Ok}
use Rattle.std.specs.Fmt.{decimal}
use Rattle.std.specs.List.{flat_map}
use Rattle.wind_base.specs.Limits.{longest_text_file}
use Rattle.wind_outside.specs.Files.{Files}
use Rattle.wind_outside.specs.declared.sink.Put.{Put}
use Rattle.program_main.specs.Messages.{PutsText}
use Rattle.symbol_table.specs.declared.symbol.Symbol.{Symbol}
use Rattle.module_image.specs.Binding.{unbound}
use Rattle.module_image.specs.Exports.{exports}
use Rattle.module_image.specs.Link.{Load}
use Rattle.module_image.specs.Opening.{opening_blocks}
use Rattle.wind_link.specs.declared.undefined.Undefined.{Undefined as CodeUndefined}
use Rattle.wind_link.specs.Command.{HasBytes, AreRowLoads}
use Rattle.wind_link.specs.Linking.{opening_symbols}
use Rattle.wind_link.specs.Lists.{Row, rows_of}

-- the symbols after a load; the group doesn't matter
abbrev pub with_exports : List Symbol → Load → List Symbol
with_exports tab l = tab ++ exports l.body l.mode l.at 0

-- each undefined name with the line of its module, module by module, in symbol order; the first module has line n
abbrev pub undefined_from : ℕ → List Symbol → List Load → List (ℕ × List ℕ)
undefined_from n tab [] = []
undefined_from n tab (l ∷ ls) = map (λ name. (n, name)) (unbound tab l.body.symbols) ++ undefined_from (n + 1) (with_exports tab l) ls

abbrev pub undefined : List Load → List (ℕ × List ℕ)
undefined ls = undefined_from 1 opening_symbols ls

-- the line that tells an undefined name of this list
abbrev pub undefined_line : List ℕ → ℕ × List ℕ → List ℕ
undefined_line list one =
    codes "windlink: " ++ list ++ codes ": line " ++ decimal one.0 ++ codes ": undefined symbol: " ++ one.1 ++ codes "\n"

-- the lines of several
abbrev pub undefined_text : List ℕ → List (ℕ × List ℕ) → List ℕ
undefined_text list names = flat_map (undefined_line list) names

-- the lines of the undefined names of modules were put, or a prefix of them and a put failed
abbrev pub TellsUndefined : List ℕ → List Load → Option (List ℕ) → Option (List ℕ) → ℕ → ℕ → Type 0
TellsUndefined list ls old new faults_old faults_new =
    (end : Put) × PutsText (undefined_text list (undefined ls)) end old new faults_old faults_new

-- the modules of these rows have undefined names, whose lines were put
pub record TellsRows (files : Option Files) (list dir : List ℕ) (rows : List Row) (old new : Option (List ℕ)) (faults_old faults_new : ℕ) : Type 0 where
  pub loads : List Load
  pub placed : AreRowLoads files dir opening_blocks rows loads
  pub told : TellsUndefined list loads old new faults_old faults_new

-- the same for the rows of a list with this text, and of the list with this name
pub record TellsText (files : Option Files) (list dir text : List ℕ) (old new : Option (List ℕ)) (faults_old faults_new : ℕ) : Type 0 where
  pub rows : List Row
  pub are : rows_of text ≡ Ok rows
  pub told : TellsRows files list dir rows old new faults_old faults_new

pub record TellsList (files : Option Files) (list dir : List ℕ) (old new : Option (List ℕ)) (faults_old faults_new : ℕ) : Type 0 where
  pub text : List ℕ
  pub bytes : HasBytes longest_text_file files list text
  pub told : TellsText files list dir text old new faults_old faults_new

-- an undefined name as the code keeps it
abbrev pub pair_of : CodeUndefined → ℕ × List ℕ
pair_of u = (u.line, u.name.now)
