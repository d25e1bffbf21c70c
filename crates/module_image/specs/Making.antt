-- What a load prepares before it writes anything.
use Rattle.std.specs.Prelude.{◌≡◌, ℕ, ◌+◌, List, take, drop, length, Option, Some, None}
use Rattle.reloc_link.specs.declared.patching.RelocErr.{RelocErr}
use Rattle.reloc_link.specs.Patched.{Patched}
use Rattle.module_image.specs.declared.making.PrepareErr.{PrepareErr}
use Rattle.module_image.specs.declared.making.PrepareErr.TheVariants as errors
use Rattle.module_image.specs.declared.segments.Needs.{Needs}
use Rattle.module_image.specs.Image.{Images}

-- no relocation of the image is refused; its text is the first part of the bytes, and its data the rest
pub record IsMade (i : Images) (z : Needs) (bytes : List ℕ) : Type 0 where
  pub text : i.text ≡ take z.text.size bytes
  pub «data» : i.«data» ≡ drop z.text.size bytes
  pub fault : i.fault ≡ None
  pub size : length bytes ≡ z.text.size + z.«data».size

-- the refused relocation, or memory ran out
abbrev pub IsRefusal : Option RelocErr → PrepareErr → Type 0
IsRefusal fault (errors.Reloc e) = fault ≡ Some e
IsRefusal fault errors.NoMemory = Unit {0}

-- these are the given number of bytes after every relocation, and none is refused
pub record IsPatched (p : Patched) (total : ℕ) (bytes : List ℕ) : Type 0 where
  pub image : bytes ≡ p.image
  pub fault : p.fault ≡ None
  pub size : length bytes ≡ total
