-- The call that loads a module, given the folder's answer about its file.
use Rattle.std.specs.Prelude.{ℕ, List, ◌++◌, Option, None, Some, Result, Ok, Err, codes}
use Rattle.wind_base.specs.Limits.{ok_word}
use Rattle.wind_base.specs.Errno.{errno_number}
use Rattle.wind_base.specs.declared.errno.Errno.TheVariants as errors
use Rattle.wind_base.specs.declared.gate.Gate.TheVariants as gates
use Rattle.elf_read.specs.declared.module.Module.{Module}
use Rattle.elf_read.specs.Contents.{module_at}
use Rattle.module_image.specs.declared.segments.Places.{Places}
use Rattle.module_loader.specs.declared.module.LoadErr.{LoadErr}
use Rattle.module_loader.specs.Loading.{LoaderState, file_verdict, loaded, loaded_answer}
use Rattle.kernel_calls.specs.KernelWorldState.{WorldState}
use Rattle.id_table.specs.Idents.{shell_id}
use Rattle.kernel_calls.specs.Calls.{load_wanted}
use Rattle.kernel_calls.specs.declared.files.Load.{Load}
use Rattle.kernel_calls.specs.KernelWorldReplies.{left_gate, with_answer, with_errno}
use Rattle.kernel_calls.specs.KernelWorldActor.{Actor}
use Rattle.kernel_calls.specs.KernelWorldActor.TheVariants.{Task}
use Rattle.live_loading.specs.Said.{FileSaid, Held, Missing, TooLong}
use Rattle.live_loading.specs.Texts.{reason, refused_text, undefined_text}

-- the shell's task makes the call
abbrev pub shell : Actor
shell = Task shell_id

-- the parts of the world that a load reads and changes, and the world with other ones
abbrev pub loader_state : WorldState → LoaderState
loader_state w = record { kern = w.kern; symbols = w.symbols; modules = w.modules; part = w.part; ram = w.ram }

abbrev pub with_loader : WorldState → LoaderState → WorldState
with_loader w s = record w { kern = s.kern; symbols = s.symbols; modules = s.modules; part = s.part; ram = s.ram }

-- the world after it has also written a text
abbrev pub writing : WorldState → List ℕ → WorldState
writing w text = record w { output = w.output ++ text }

-- the module is loaded at these places: the undefined names are written, and the answer is the module's id
abbrev pub accepted : WorldState → List ℕ → ℕ → Module → Places → WorldState
accepted w name mode m at =
    with_answer (writing (with_loader w (loaded (loader_state w) name m mode at)) (undefined_text (loaded_answer (loader_state w) m).undefined)) shell w.kern.next_id

-- nothing is loaded: the reason is written, and the answer is 0
abbrev pub refused : WorldState → List ℕ → List ℕ → WorldState
refused w name words = with_answer (with_errno (writing w (refused_text name words)) shell (errno_number errors.LoadFailed)) shell ok_word

abbrev pub by_verdict : WorldState → List ℕ → ℕ → Module → Result Places LoadErr → WorldState
by_verdict w name mode m (Ok at) = accepted w name mode m at
by_verdict w name mode m (Err e) = refused w name (reason e)

-- the effect of the call with a name, in a mode
abbrev pub effect : WorldState → List ℕ → ℕ → FileSaid → WorldState
effect w name mode (Held file) = by_verdict w name mode (module_at file) (file_verdict (loader_state w) file mode)
effect w name mode Missing = refused w name (codes "not found")
effect w name mode TooLong = refused w name (codes "too long")

-- the mode of a load
abbrev pub mode_in : Option Load → ℕ
mode_in None = 0
mode_in (Some load) = load.mode

-- the mode of the load that the shell's task wants at the gate of ld
abbrev pub mode_wanted : WorldState → ℕ
mode_wanted w = mode_in (load_wanted gates.Ld w shell)

-- the call: the shell's task goes on after its gate, and the call has its effect
unfoldable pub load_call : WorldState → List ℕ → FileSaid → WorldState
load_call w name said = effect (left_gate w shell) name (mode_wanted w) said
