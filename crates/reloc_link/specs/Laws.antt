-- What follows from the types, and from writing fields in order, alone.
use Rattle.std.specs.Prelude.{◌≡◌, ◌⊎◌, ℕ, ◌+◌, ◌<◌, ◌≤◌, List, length, take, slice_index, slice_index_or, None, Some, Ok, Err}
use Rattle.std.specs.List.{All, AllPairs}
use Rattle.byteorder.specs.Endian.{big_bytes}
use Rattle.reloc_link.specs.declared.kind.RelocType.{RelocType}
use Rattle.reloc_link.specs.declared.fields.FieldFault.{FieldFault}
use Rattle.reloc_link.specs.declared.patching.Binding.{Binding}
use Rattle.reloc_link.specs.declared.patching.RelocErr.{RelocErr}
use Rattle.reloc_link.specs.Types.{type_number, type_of, width_of}
use Rattle.reloc_link.specs.Patched.{LiesWithin, asked, numbered, patched}

-- each type has a number of its own
abbrev pub TypesLaw : Type 0
TypesLaw = (t : RelocType) → type_of (type_number t) ≡ Some t

-- the byte is outside the binding's field
abbrev pub IsOutside : ℕ → Binding → Type 0
IsOutside at b = (at < b.offset) ⊎ (b.offset + width_of b.kind ≤ at)

-- the fields of two bindings have no byte in common
abbrev pub Apart : Binding → Binding → Type 0
Apart b c = (b.offset + width_of b.kind ≤ c.offset) ⊎ (c.offset + width_of c.kind ≤ b.offset)

-- the field of the binding holds a number, highest byte first
abbrev pub Holds : List ℕ → Binding → ℕ → Type 0
Holds image b v = (k : ℕ) → k < width_of b.kind → slice_index image (b.offset + k) ≡ slice_index (big_bytes (width_of b.kind) v) k

-- in the new image, the field of the binding holds what the binding computes from the old image
abbrev pub IsDone : List ℕ → List ℕ → Binding → Type 0
IsDone old new b = (v : ℕ) × (asked old b ≡ Ok v) × Holds new b v

-- the refusal is that of the first refused binding, with numbers counted from `first`
pub record IsFirstRefused (first : ℕ) (image : List ℕ) (list : List Binding) (e : RelocErr) : Type 0 where
  pub place : ℕ
  pub within : place < length list
  -- all bindings before it are written
  pub before : (patched first image (take place list)).fault ≡ None
  -- it is refused over what they left, and the image stays like that
  pub fault : FieldFault
  pub refused : (d : Binding) → asked (patched first image (take place list)).image (slice_index_or list place d) ≡ Err fault
  pub held : (patched first image list).image ≡ (patched first image (take place list)).image
  pub named : e ≡ numbered fault (first + place)

-- the final image, and the refusal
pub record PatchLaw : Type 0 where
  -- if a binding is refused, the refusal is that of the first such binding
  pub first : (image : List ℕ) (list : List Binding) (e : RelocErr)
      → (patched 0 image list).fault ≡ Some e → IsFirstRefused 0 image list e
  -- if none is refused and no two fields overlap, each field holds what its binding computes
  pub each : (image : List ℕ) (list : List Binding) → All (LiesWithin (length image)) list → AllPairs Apart list
      → (patched 0 image list).fault ≡ None → All (IsDone image (patched 0 image list).image) list
  -- a byte outside all fields stays, and the size stays
  pub outside : (image : List ℕ) (list : List Binding) (at : ℕ) → All (LiesWithin (length image)) list
      → All (IsOutside at) list → slice_index (patched 0 image list).image at ≡ slice_index image at
  pub size : (image : List ℕ) (list : List Binding) → All (LiesWithin (length image)) list
      → length (patched 0 image list).image ≡ length image
