use Rattle.std.proofs.Common.{◌≡◌, ℕ, List, drop}
use Rattle.symbol_table.specs.Newest.{find_global}
use Rattle.elf_read.specs.declared.module.Sect.{Sect}
use Rattle.module_image.specs.Exports.{exports_from}
use Rattle.wind_link.specs.Values.{entry_of, entry_else}
use Rattle.wind_link.proofs.values.Values.add_symbols.Given as goal

abbrev pub invariant-loop-i : goal.invariant-loop-i
invariant-loop-i l = (sections : List Sect) (q : List ℕ)
    → entry_else (find_global (exports_from sections l.mode 0 (drop l.i l.symbols) (drop l.i l.values)) q) (entry_of l.self q)
    ≡ entry_else (find_global (exports_from sections l.mode 0 l.symbols l.values) q) (entry_of l.fn.self q)
