-- What a contract sees of a folder in memory.
use Rattle.std.specs.Option.{option_map}
use Rattle.std.specs.BTreeMap.{get_by_text}
use Rattle.wind_outside.specs.Calls.{CallLog}
use Rattle.wind_outside.specs.Files.{Files}
use Rattle.wind_outside.specs.declared.mem_folder.MemFolder.{MemFolder}

-- its files
abbrev pub files_of : MemFolder → Files
files_of f name = option_map (λ v. v.items) (get_by_text f.files name)

-- its calls
abbrev pub calls_of : MemFolder → CallLog
calls_of f = f.calls
