-- Loads one after the other, and the static link.
use Rattle.std.specs.Prelude.{◌≡◌, ◌⊎◌, ℕ, ◌+◌, ◌≤◌, ◌<◌, List, [], ◌∷◌, ◌++◌, length, map, slice_index, Ok}
use Rattle.mem_partition.specs.State.{IsPart}
use Rattle.elf_read.specs.Contents.{module_at}
use Rattle.module_image.specs.declared.segments.Places.{Places}
use Rattle.module_image.specs.Image.{Images, image}
use Rattle.module_image.specs.Link.{Load, link}
use Rattle.module_loader.specs.Loading.{LoaderState, Piece, pieces_of, file_verdict, loaded}

-- a module's name and file, the mode of its load, and its places
pub record Job : Type 0 where
  pub name : List ℕ
  pub file : List ℕ
  pub mode : ℕ
  pub at : Places

-- the same load, as a part of the static link
abbrev pub load_of : Job → Load
load_of j = record { body = module_at j.file; mode = j.mode; at = j.at }

abbrev pub after_job : LoaderState → Job → LoaderState
after_job s j = loaded s j.name (module_at j.file) j.mode j.at

-- each load is accepted at its places, starting from what the load before it left, and t is what the last one leaves
abbrev pub Runs : LoaderState → List Job → LoaderState → Type 0
Runs s [] t = t ≡ s
Runs s (j ∷ js) t = (file_verdict s j.file j.mode ≡ Ok j.at) × Runs (after_job s j) js t

-- the images that they write
abbrev pub written_by : LoaderState → List Job → List Images
written_by s [] = []
written_by s (j ∷ js) = image (module_at j.file) s.symbols j.at ∷ written_by (after_job s j) js

-- where these images are written
abbrev pub all_pieces : List Load → List Images → List Piece
all_pieces [] is = []
all_pieces (l ∷ ls) [] = []
all_pieces (l ∷ ls) (i ∷ is) = pieces_of l.at i ++ all_pieces ls is

-- each byte of the piece is at its address
abbrev pub IsHeld : List ℕ → Piece → Type 0
IsHeld ram p = (k : ℕ) → k < length p.1 → slice_index ram (p.0 + k) ≡ slice_index p.1 k

abbrev pub IsPiece : Piece → List Piece → Type 0
IsPiece p [] = ⊥
IsPiece p (q ∷ qs) = (p ≡ q) ⊎ IsPiece p qs

abbrev pub AllHeld : List ℕ → List Piece → Type 0
AllHeld ram ps = (p : Piece) → IsPiece p ps → IsHeld ram p

-- the partition keeps its invariant, and its pool is inside RAM
pub record IsLoader (s : LoaderState) : Type 0 where
  pub part : IsPart s.part
  pub pool : s.part.end ≤ length s.ram

-- for any list of accepted loads with nothing else in between: what they write is the static link at the same
-- places over
-- the symbols before, and RAM holds it all at the end
abbrev pub LiveLaw : Type 0
LiveLaw = (s t : LoaderState) (js : List Job) → IsLoader s → Runs s js t
    → (written_by s js ≡ link s.symbols (map load_of js))
    × AllHeld t.ram (all_pieces (map load_of js) (written_by s js))
