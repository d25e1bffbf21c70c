-- What a contract sees of a folder in memory.
use Rattle.std.specs.Option.{option_map}
use Rattle.std.specs.BTreeMap.{get_by_text}
use Rattle.wind_outside.specs.Files.{Files}
use Rattle.live_session.specs.declared.memory.MemRecordFolder.{MemRecordFolder}

-- its files
abbrev pub files_of : MemRecordFolder → Files
files_of f name = option_map (λ v. v.items) (get_by_text f.files name)
