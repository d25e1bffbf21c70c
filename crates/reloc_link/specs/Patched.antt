-- Writing bindings into an image in order, up to the first that is refused.
use Rattle.std.specs.Prelude.{ℕ, ◌+◌, ◌≤◌, List, [], ◌∷◌, ◌++◌, take, drop, Option, Some, None, Result, Ok, Err}
use Rattle.byteorder.specs.Endian.{big_number, big_bytes}
use Rattle.reloc_link.specs.declared.fields.FieldFault.{FieldFault}
use Rattle.reloc_link.specs.declared.fields.FieldFault.TheVariants.{Range, Unaligned, Unsupported}
use Rattle.reloc_link.specs.declared.patching.Binding.{Binding}
use Rattle.reloc_link.specs.declared.patching.RelocErr.{RelocErr}
use Rattle.reloc_link.specs.declared.patching.RelocErr.TheVariants as errors
use Rattle.reloc_link.specs.Types.{width_of}
use Rattle.reloc_link.specs.Formula.{field}

-- the binding's field is inside an image of this many bytes
abbrev pub LiesWithin : ℕ → Binding → Type 0
LiesWithin size b = b.offset + width_of b.kind ≤ size

-- the content of a binding's field
abbrev pub content : List ℕ → Binding → ℕ
content image b = big_number (width_of b.kind) (drop b.offset image)

-- what a binding writes over that content, or why it can't
unfoldable pub asked : List ℕ → Binding → Result ℕ FieldFault
asked image b = field b.kind b.s b.a b.p (content image b)

-- the image with another number in a binding's field
unfoldable pub written : List ℕ → Binding → ℕ → List ℕ
written image b v = take b.offset image ++ big_bytes (width_of b.kind) v ++ drop (b.offset + width_of b.kind) image

-- the image after one binding
abbrev pub after_one : List ℕ → Binding → Result ℕ FieldFault → List ℕ
after_one image b (Ok v) = written image b v
after_one image b (Err e) = image

-- whether the binding was written
abbrev pub answered : Result ℕ FieldFault → Result Unit FieldFault
answered (Ok v) = Ok tt
answered (Err e) = Err e

-- the error for the binding with this number
abbrev pub numbered : FieldFault → ℕ → RelocErr
numbered Range i = errors.Range i
numbered Unaligned i = errors.Unaligned i
numbered Unsupported i = errors.Unsupported i

-- an image, and the first refusal
pub record Patched : Type 0 where
  pub image : List ℕ
  pub fault : Option RelocErr

-- what comes after a field: the rest, or the end
abbrev pub after_field : Result ℕ FieldFault → (ℕ → Patched) → (FieldFault → Patched) → Patched
after_field (Ok v) next stop = next v
after_field (Err e) next stop = stop e

-- the image after the bindings, the first of which has number i, and the first refusal
abbrev pub patched : ℕ → List ℕ → List Binding → Patched
patched i image [] = record { image = image; fault = None }
patched i image (b ∷ bs) =
    after_field (asked image b) (λ v. patched (i + 1) (written image b v) bs)
    (λ e. record { image = image; fault = Some (numbered e i) })

-- the refusal that was answered
abbrev pub fault_of : Result Unit RelocErr → Option RelocErr
fault_of (Ok _) = None
fault_of (Err e) = Some e
