-- The row of unld.
use Rattle.std.specs.Prelude.{ℕ, if◌then◌else◌, List, Option, None, Some, is_some}
use Rattle.wind_base.specs.Limits.{ok_word}
use Rattle.wind_base.specs.declared.errno.Errno.TheVariants as errors
use Rattle.id_table.specs.Rows.{object_of, without}
use Rattle.board_mem.specs.Memory.{string_at}
use Rattle.mem_partition.specs.State.{PartState}
use Rattle.symbol_table.specs.declared.symbol.Symbol.{Symbol}
use Rattle.symbol_table.specs.State.{without_group}
use Rattle.module_loader.specs.declared.module.LoadedModule.{LoadedModule}
use Rattle.module_loader.specs.Modules.{newest_named, without_segments}
use Rattle.call_rows.specs.KernelWorldReply.{Reply}
use Rattle.call_rows.specs.KernelWorldReply.TheVariants.{Answer, Refusal}

-- the symbols, the modules and the partition after the effect of a call, and how its caller is answered
pub record ModuleRow : Type 0 where
  pub symbols : List Symbol
  pub modules : List (ℕ × LoadedModule)
  pub part : PartState
  pub reply : Reply

abbrev pub newest_of : List (ℕ × LoadedModule) → Option (List ℕ) → Option ℕ
newest_of ms None = None
newest_of ms (Some name) = newest_named ms name

-- the module that a word means: the one with this id, else the newest one with the name at this address
abbrev pub meant_module : List (ℕ × LoadedModule) → List ℕ → ℕ → Option ℕ
meant_module ms ram x = if is_some (object_of ms x) then Some x else newest_of ms (string_at ram x)

-- its symbols and its record are removed, and its blocks are freed
abbrev pub unload_meant : List Symbol → List (ℕ × LoadedModule) → PartState → Option ℕ → ModuleRow
unload_meant ss ms p None = record { symbols = ss; modules = ms; part = p; reply = Refusal errors.NoSuchModule }
unload_meant ss ms p (Some id) = record {
  symbols = without_group id ss;
  modules = without ms id;
  part = without_segments p (object_of ms id);
  reply = Answer ok_word;
}

-- unld: no byte of RAM changes, and the options aren't used
abbrev pub unload_row : List Symbol → List (ℕ × LoadedModule) → PartState → List ℕ → ℕ → ModuleRow
unload_row ss ms p ram x = unload_meant ss ms p (meant_module ms ram x)
