-- How a call ends that lists a file.
use Rattle.std.proofs.Common.{◌≡◌, ℕ, List, Option, Ok, refl}
use Rattle.wind_outside.specs.Appending.{Appended, AppendedPrefix}
use Rattle.elf_read.specs.Contents.{module_at}
use Rattle.elf_read.specs.Rules.{checked}
use Rattle.ppc_asm.specs.Command.{Listed, ListedPrefix}
use Rattle.ppc_asm.specs.Listing.{listing}

pub listed : (bytes : List ℕ) (old new : Option (List ℕ)) → checked bytes ≡ Ok tt → Appended old new (listing (module_at bytes)) → Listed bytes old new
listed bytes old new passes added = record { it = module_at bytes; holds = record { passes = passes; holds = refl }; added = added }

pub listed_part : (bytes : List ℕ) (old new : Option (List ℕ)) → checked bytes ≡ Ok tt → AppendedPrefix old new (listing (module_at bytes)) → ListedPrefix bytes old new
listed_part bytes old new passes added = record { it = module_at bytes; holds = record { passes = passes; holds = refl }; added = added }
