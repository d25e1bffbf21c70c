-- The folder's answer about the file that a load needs.
use Rattle.std.specs.Prelude.{ℕ, List, length, nat_lt, if◌then◌else◌, Option, None, Some}
use Rattle.wind_base.specs.Limits.{longest_module_file}
use Rattle.live_loading.specs.declared.answer.FileAnswer.{FileAnswer}
use Rattle.live_loading.specs.declared.answer.FileAnswer.TheVariants as answers

-- the file holds these bytes; or it doesn't exist; or it has more bytes than a module file may have
pub data FileSaid : Type 0 where
  Held : List ℕ → FileSaid
  Missing : FileSaid
  TooLong : FileSaid

-- what an answer says
abbrev pub said_of : FileAnswer → FileSaid
said_of (answers.File bytes) = Held bytes.items
said_of answers.NoFile = Missing
said_of answers.LongFile = TooLong

-- the answer about an entry of a folder
abbrev pub said_by : Option (List ℕ) → FileSaid
said_by None = Missing
said_by (Some bytes) = if nat_lt longest_module_file (length bytes) then TooLong else Held bytes
