-- Why nothing is loaded.
use Rattle.std.specs.Prelude.{ℕ, List, codes}
use Rattle.live_loading.specs.declared.text.Cause.{Cause}
use Rattle.live_loading.specs.declared.text.Cause.TheVariants as causes
use Rattle.live_loading.specs.Texts.{reason}

-- the words for it in the text of a refused load
abbrev pub cause_text : Cause → List ℕ
cause_text causes.NotFound = codes "not found"
cause_text causes.LongFile = codes "too long"
cause_text (causes.Refused e) = reason e
