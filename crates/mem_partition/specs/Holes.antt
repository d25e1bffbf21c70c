-- The holes of a pool: what its blocks leave free, in order of address.
use Rattle.std.specs.Prelude.{◌≡◌, ℕ, ◌+◌, ◌-◌, ◌*◌, ◌/◌, ◌≤◌, ◌<◌, nat_le, nat_lt, ◌==◌, ◌&&◌, Bool, if◌then◌else◌, List, [], ◌∷◌, ◌++◌, Option, Some, None}
use Rattle.std.specs.List.{All, list_any, insert}
use Rattle.std.specs.Option.{option_or}
use Rattle.wind_base.specs.declared.board_kind.Side.{Side}
use Rattle.wind_base.specs.declared.board_kind.Side.TheVariants.{Low, High}
use Rattle.mem_partition.specs.declared.block.Block.{Block}
use Rattle.mem_partition.specs.declared.hole.Hole.{Hole}
use Rattle.mem_partition.specs.Place.{aligned}
use Rattle.mem_partition.specs.State.{PartState, IsPart, most_room, is_free}

-- the hole from lo to hi, unless it is empty
abbrev pub gap : ℕ → ℕ → List Hole
gap lo hi = if nat_lt lo hi then record { start = lo; end = hi } ∷ [] else []

-- the holes between these blocks, from lo to hi
abbrev pub holes_of : ℕ → ℕ → List Block → List Hole
holes_of lo hi [] = gap lo hi
holes_of lo hi (b ∷ bs) = gap lo b.addr ++ holes_of (b.addr + b.size) hi bs

-- a partition with its holes
pub record HolesState : Type 0 where
  pub part : PartState
  pub holes : List Hole

-- the partition with its holes, the parts of its pool that are in no block
abbrev pub with_holes : PartState → HolesState
with_holes s = record { part = s; holes = holes_of s.start s.end s.blocks }

-- the holes are those that the blocks leave, in a partition with its invariant
pub record AreHoles (s : HolesState) : Type 0 where
  pub part : IsPart s.part
  pub room : s.part.room ≤ most_room
  pub exact : s.holes ≡ holes_of s.part.start s.part.end s.part.blocks

-- no hole is empty, they are in order of address, and no two of them touch
abbrev pub Rise : List Hole → Type 0
Rise [] = Unit {0}
Rise (h ∷ hs) = (h.start < h.end) × All (λ g. h.end < g.start) hs × Rise hs

-- the address is in one of the holes
abbrev pub is_in_hole : List Hole → ℕ → Bool
is_in_hole hs at = list_any (λ h. nat_le h.start at && nat_lt at h.end) hs

-- what always holds for the holes
pub record HolesLaw : Type 0 where
  pub rise : (s : HolesState) → AreHoles s → Rise s.holes
  -- each is inside the pool, and together with the blocks they make it up
  pub inside : (s : HolesState) → AreHoles s → All (λ h. (s.part.start ≤ h.start) × (h.end ≤ s.part.end)) s.holes
  pub exact : (s : HolesState) (at : ℕ) → AreHoles s → s.part.start ≤ at → at < s.part.end
      → is_in_hole s.holes at ≡ is_free s.part.blocks at

-- the only multiple of align in question for size bytes in a hole: the first from its start on, or the last with size
-- bytes before its end
abbrev pub nearest : Side → ℕ → ℕ → Hole → ℕ
nearest Low size align h = aligned h.start align
nearest High size align h = (h.end - size) / align * align

-- it is in the hole, and so are size bytes from there on
abbrev pub is_inside : ℕ → ℕ → Hole → Bool
is_inside at size h = nat_le h.start at && nat_le (at + size) h.end

-- the address of size bytes in a hole that is nearest to a side
abbrev pub in_hole : Side → ℕ → ℕ → Hole → Option ℕ
in_hole side size align h =
    if is_inside (nearest side size align h) size h then Some (nearest side size align h) else None

-- of an address in a lower hole and one in the holes above it, the nearer to a side
abbrev pub nearer : Side → Option ℕ → Option ℕ → Option ℕ
nearer Low a b = option_or a b
nearer High a b = option_or b a

-- the address in the first hole that has room, or in the last
abbrev pub hole_on : Side → ℕ → ℕ → List Hole → Option ℕ
hole_on side size align [] = None
hole_on side size align (h ∷ hs) = nearer side (in_hole side size align h) (hole_on side size align hs)

-- the holes with the one from lo to hi inserted at a position, unless it is empty
abbrev pub put_gap : ℕ → ℕ → ℕ → List Hole → List Hole
put_gap at lo hi hs = if nat_lt lo hi then insert hs at (record { start = lo; end = hi }) else hs

-- the holes with lo to hi cut out of the one that contains it
abbrev pub cut_out : ℕ → ℕ → List Hole → List Hole
cut_out lo hi [] = []
cut_out lo hi (h ∷ hs) =
    if nat_le hi h.end then gap h.start lo ++ (gap hi h.end ++ hs) else h ∷ cut_out lo hi hs

-- the holes from hi up with the one from lo to hi: the hole that begins at hi becomes part of it
abbrev pub joined : ℕ → ℕ → List Hole → List Hole
joined lo hi [] = record { start = lo; end = hi } ∷ []
joined lo hi (h ∷ hs) =
    if h.start == hi then record { start = lo; end = h.end } ∷ hs else record { start = lo; end = hi } ∷ h ∷ hs

-- the holes with lo to hi added: one hole replaces it and the holes that touch it
abbrev pub merged : ℕ → ℕ → List Hole → List Hole
merged lo hi [] = joined lo hi []
merged lo hi (h ∷ hs) =
    if nat_le lo h.end then (if h.end == lo then joined h.start hi hs else joined lo hi (h ∷ hs)) else
    h ∷ merged lo hi hs
