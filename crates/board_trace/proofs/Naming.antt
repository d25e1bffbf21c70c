-- Each error is found by its number.
use Rattle.std.proofs.Common.{refl}
use Rattle.wind_base.specs.declared.errno.Errno.TheVariants as errors
use Rattle.board_trace.specs.Laws.{ErrorLaw}

pub errors_named : ErrorLaw
errors_named errors.NoSuchModule = refl
errors_named e = refl
