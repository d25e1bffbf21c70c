-- Loads on a board, and the image of the same modules.
use Rattle.std.specs.Prelude.{◌≡◌, ℕ, ◌+◌, ◌-◌, ◌<◌, List, [], ◌∷◌, length, map, slice_index, Ok}
use Rattle.symbol_table.specs.declared.symbol.Symbol.{Symbol}
use Rattle.mem_partition.specs.Laws.{IsIn}
use Rattle.elf_read.specs.Modules.{IsModule}
use Rattle.module_image.specs.Image.{Images, image}
use Rattle.module_image.specs.Link.{Load, link}
use Rattle.module_loader.specs.Loading.{LoaderState, Piece, pieces_of, verdict, loaded}
use Rattle.module_loader.specs.Live.{IsPiece, IsLoader, AllHeld, all_pieces}
use Rattle.wind_link.specs.Flat.{Segment, segments, lowest}
use Rattle.wind_link.specs.Linking.{opening_symbols, images, static_image}

-- a load on a board: what it found there, and the name of the module
pub record BoardLoad : Type 0 where
  pub found : LoaderState
  pub name : List ℕ
  pub load : Load

-- the board accepted it at its places
pub record IsAccepted (b : BoardLoad) : Type 0 where
  pub board : IsLoader b.found
  pub sound : IsModule b.load.body
  pub at : verdict b.found b.load.body b.load.mode ≡ Ok b.load.at

-- what it left, and what it wrote
abbrev pub left_by : BoardLoad → LoaderState
left_by b = loaded b.found b.name b.load.body b.load.mode b.load.at

abbrev pub written_by : BoardLoad → Images
written_by b = image b.load.body b.found.symbols b.load.at

-- accepted loads: the first found these symbols, and each other one those that the load before it left
abbrev pub Follow : List Symbol → List BoardLoad → Type 0
Follow tab [] = Unit {0}
Follow tab (b ∷ bs) = IsAccepted b × (b.found.symbols ≡ tab) × Follow (left_by b).symbols bs

-- RAM still has what the load left in its blocks
abbrev pub Stays : List ℕ → BoardLoad → Type 0
Stays ram b = (p : Piece) (a : ℕ) → IsPiece p (pieces_of b.load.at (written_by b)) → IsIn a p.0 (length p.1)
    → slice_index ram a ≡ slice_index (left_by b).ram a

abbrev pub AllStay : List ℕ → List BoardLoad → Type 0
AllStay ram [] = Unit {0}
AllStay ram (b ∷ bs) = Stays ram b × AllStay ram bs

-- live linking over symbols and written images, whatever happens between the loads to tasks, ids and other blocks:
-- what accepted loads wrote is the static link of the same modules at the same places over the symbols that the first
-- one found, and RAM holds it all if nothing else wrote into their blocks
abbrev pub LinkedLaw : Type 0
LinkedLaw = (tab : List Symbol) (bs : List BoardLoad) (ram : List ℕ) → Follow tab bs → AllStay ram bs
    → (map written_by bs ≡ link tab (map (λ b. b.load) bs))
    × AllHeld ram (all_pieces (map (λ b. b.load) bs) (map written_by bs))

-- each byte of the segments is in RAM at its address, and in the bytes from `low` on
abbrev pub HoldBoth : List ℕ → List ℕ → ℕ → List Segment → Type 0
HoldBoth ram bytes low [] = Unit {0}
HoldBoth ram bytes low (s ∷ ss) =
    ((k : ℕ) → k < length s.1 → slice_index ram (s.0 + k) ≡ slice_index bytes (s.0 + k - low))
    × HoldBoth ram bytes low ss

-- loads on a board, from the symbols at the start and with no other change of symbols in between, and nothing else
-- that wrote into their blocks: each byte of their segments is the byte of the static image at its address
abbrev pub BoardLaw : Type 0
BoardLaw = (bs : List BoardLoad) (ram bytes : List ℕ) → Follow opening_symbols bs → AllStay ram bs
    → static_image (map (λ b. b.load) bs) ≡ Ok bytes
    → HoldBoth ram bytes (lowest (segments (map (λ b. b.load) bs) (images (map (λ b. b.load) bs))))
    (segments (map (λ b. b.load) bs) (images (map (λ b. b.load) bs)))
