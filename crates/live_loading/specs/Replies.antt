-- How the caller of a load is answered: with the module's id, or as a refusal.
use Rattle.std.specs.Prelude.{ℕ, Result, Ok, Err}
use Rattle.wind_base.specs.declared.errno.Errno.TheVariants as errors
use Rattle.module_image.specs.declared.segments.Places.{Places}
use Rattle.module_loader.specs.declared.module.LoadErr.{LoadErr}
use Rattle.module_loader.specs.Loading.{file_verdict}
use Rattle.kernel_calls.specs.KernelWorldState.{WorldState}
use Rattle.kernel_calls.specs.KernelWorldReplies.{left_gate}
use Rattle.kernel_calls.specs.KernelWorldReply.{Reply}
use Rattle.kernel_calls.specs.KernelWorldReply.TheVariants.{Answer, Refusal}
use Rattle.live_loading.specs.Said.{FileSaid, Held, Missing, TooLong}
use Rattle.live_loading.specs.Loading.{shell, loader_state, mode_wanted}

-- by the verdict on a module
abbrev pub verdict_reply : WorldState → Result Places LoadErr → Reply
verdict_reply w (Ok at) = Answer w.kern.next_id
verdict_reply w (Err e) = Refusal errors.LoadFailed

-- in a mode, by what the folder answered of the file
abbrev pub reply_in : WorldState → ℕ → FileSaid → Reply
reply_in w mode (Held file) = verdict_reply w (file_verdict (loader_state w) file mode)
reply_in w mode Missing = Refusal errors.LoadFailed
reply_in w mode TooLong = Refusal errors.LoadFailed

-- the reply of the call, in its mode
unfoldable pub load_reply : WorldState → FileSaid → Reply
load_reply w said = reply_in (left_gate w shell) (mode_wanted w) said
