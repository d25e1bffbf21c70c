-- The sections of a module that a load placed.
use Rattle.std.proofs.Common.{◌≡◌, true, Result, Ok, Err, refl}
use Rattle.std.specs.Prelude.{is_ok}
use Rattle.elf_read.specs.Rules.{checked}
use Rattle.elf_read.specs.declared.error.ElfErr.{ElfErr}
use Rattle.module_image.specs.declared.segments.Places.{Places}
use Rattle.module_loader.specs.Loading.{file_by, file_verdict}
use Rattle.module_loader.specs.declared.module.LoadErr.{LoadErr}
use Rattle.debug_view.specs.Laws.{PlacesLaw}

-- the file of an accepted load is an object file
is_object : (r : Result Unit ElfErr) (v : Result Places LoadErr) (at : Places) → file_by r v ≡ Ok at → is_ok r ≡ true
is_object (Ok u) v at e = refl
is_object (Err x) v at e = absurd (cc)

pub placed : PlacesLaw
unfolding file_verdict
placed s name file mode at accepted = let passes : is_ok (checked file) ≡ true = is_object (checked file) _ at accepted in rw passes refl
