-- How a call ends, by its parts.
use Rattle.std.proofs.Common.{◌≡◌, ℕ, ◌+◌, List, [], ◌∷◌, Option, Some, None, Err, length, inl, inr, refl, ◌∙◌, subst}
use Rattle.mem_partition.specs.declared.block.Block.{Block}
use Rattle.wind_outside.specs.Files.{Files}
use Rattle.wind_link.specs.declared.status.LinkStatus.{LinkStatus}
use Rattle.wind_link.specs.declared.status.LinkStatus.TheVariants as status
use Rattle.wind_link.specs.Lists.{Row}
use Rattle.module_image.specs.Link.{Load}
use Rattle.wind_link.specs.declared.linking.LinkErr.{LinkErr}
use Rattle.wind_link.specs.declared.linking.LinkErr.TheVariants as refusal
use Rattle.module_image.specs.Image.{Images}
use Rattle.module_image.specs.declared.segments.SegmentKind.{SegmentKind}
use Rattle.wind_link.specs.Linking.{relocation_or, wrong_relocation, related_or, images, linked, IsRefusal}
use Rattle.wind_link.specs.Flat.{segments, flat}
use Rattle.wind_link.specs.Placing.{taken_by, wrong_place}
use Rattle.wind_link.specs.Command.{status_of, Faults, FirstRefused, Links, NoModules, RefusesRow, Unread}
use Rattle.module_image.specs.Opening.{opening_blocks}
use Rattle.wind_link.proofs.Joining.{rightly_placed}

-- a refused relocation is no wrong place
relocation_only : (n : ℕ) (is : List Images) (index : ℕ) (kind : SegmentKind) → wrong_relocation n is ≡ Some (refusal.BadPlace index kind) → ⊥
relocation_only n [] index kind h = cc
relocation_only n (i ∷ is) index kind h = elim i.fault as (λ f. relocation_or n f (wrong_relocation (n + 1) is) ≡ Some (refusal.BadPlace index kind) → ⊥) [
  | None ↦ λ e. relocation_only (n + 1) is index kind e
  | Some e ↦ λ h2. cc
] h

related_only : (w : Option LinkErr) (bytes : List ℕ) (e : LinkErr) → related_or w bytes ≡ Err e → w ≡ Some e
related_only None bytes e h = absurd (cc)
related_only (Some f) bytes e h = cc

pub no_place : (ls : List Load) (index : ℕ) (kind : SegmentKind) → linked ls ≡ Err (refusal.BadPlace index kind) → ⊥
unfolding linked
no_place ls index kind h =
    relocation_only 0 (images ls) index kind (related_only (wrong_relocation 0 (images ls)) (flat (segments ls (images ls))) (refusal.BadPlace index kind) h)

-- a refused link ends the call so
pub refused : (old : Option (List ℕ)) (rose : Type 0) (ls : List Load) (e : LinkErr) → wrong_place 0 opening_blocks ls ≡ None → IsRefusal (linked ls) e → Links old old rose ls (status_of e)
refused old rose ls (refusal.BadPlace n kind) p h = absurd (no_place ls n kind h)
refused old rose ls (refusal.BadReloc n k e) p h = (n, refl, rightly_placed ls p ∙ h, refl)
refused old rose ls refusal.NoMemory p h = refl

-- ---- a refused call isn't done
pub refused_done : (e : LinkErr) → status_of e ≡ status.Done → ⊥
refused_done (refusal.BadPlace n kind) h = cc
refused_done (refusal.BadReloc n k e) h = cc
refused_done refusal.NoMemory h = cc

row_done : (files : Option Files) (dir : List ℕ) (taken : List Block) (n : ℕ) (r : Row) (f : Faults) → RefusesRow files dir taken n r f status.Done → ⊥
row_done files dir taken n r f (inl h) = h
row_done files dir taken n r f (inr (m, has, h)) = h

pub rows_done : (files : Option Files) (dir : List ℕ) (rows : List Row) (f : Faults) (s : LinkStatus) → NoModules files dir rows f s → s ≡ status.Done → ⊥
rows_done files dir rows f s h e =
    let k : FirstRefused files dir rows f status.Done = subst (λ x. NoModules files dir rows f x) e h in
    row_done files dir (taken_by opening_blocks k.loads) (length k.before + 1) k.row f k.refuses

pub list_done : (most : ℕ) (files : Option Files) (name : List ℕ) (f : Faults) (s : LinkStatus) → Unread most files name 0 f s → s ≡ status.Done → ⊥
list_done most files name f s h e = subst (λ x. Unread most files name 0 f x) e h
