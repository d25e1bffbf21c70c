-- What is stored is held, and stays held while other bytes apart from it are stored.
use Rattle.std.proofs.Common.{◌≡◌, ℕ, ◌+◌, ◌≤◌, ◌<◌, ◌⊎◌, inl, inr, List, [], ◌∷◌, ◌++◌, length, get_or, refl, sym, ◌∙◌, subst, arith}
use Rattle.std.proofs.lemmas.List.{places}
use Rattle.module_image.specs.Image.{Images}
use Rattle.module_image.specs.Link.{Load}
use Rattle.module_loader.specs.Loading.{Piece, stored, stored_all, pieces_of}
use Rattle.module_loader.specs.Live.{IsHeld, IsPiece, AllHeld, all_pieces}

-- a block's address and size
abbrev pub Block : Type 0
Block = ℕ × ℕ

abbrev pub block_of : Piece → Block
block_of p = (p.0, length p.1)

abbrev pub Apart : Block → Block → Type 0
Apart a b = (a.0 + a.1 ≤ b.0) ⊎ (b.0 + b.1 ≤ a.0)

abbrev pub IsAmong : Block → List Block → Type 0
IsAmong b [] = ⊥
IsAmong b (c ∷ cs) = (b ≡ c) ⊎ IsAmong b cs

-- the block holds all of the piece
abbrev pub Covers : Block → Piece → Type 0
Covers b p = (b.0 ≤ p.0) × (p.0 + length p.1 ≤ b.0 + b.1)

-- the piece is empty, or one of the blocks holds it
abbrev pub IsHeldBy : List Block → Piece → Type 0
IsHeldBy blocks p = (length p.1 ≡ 0) ⊎ ((b : Block) × IsAmong b blocks × Covers b p)

-- the pieces are inside RAM, and overlap neither a block nor each other; an empty one overlaps nothing
abbrev pub Clear : ℕ → List Block → List Piece → Type 0
Clear size blocks [] = Unit {0}
Clear size blocks (p ∷ ps) =
    (p.0 + length p.1 ≤ size) × ((b : Block) → IsAmong b blocks → (length p.1 ≡ 0) ⊎ Apart (block_of p) b)
    × Clear size (block_of p ∷ blocks) ps

-- what a load finds and leaves
pub record Stand : Type 0 where
  pub blocks : List Block
  pub ram : List ℕ

-- a load to blocks of its own writes these pieces
pub record Accepted (old : Stand) (ps : List Piece) (new : Stand) : Type 0 where
  pub clear : Clear (length old.ram) old.blocks ps
  pub older_blocks : (b : Block) → IsAmong b old.blocks → IsAmong b new.blocks
  pub blocks : (p : Piece) → IsPiece p ps → IsHeldBy new.blocks p
  pub ram : new.ram ≡ stored_all old.ram ps

-- the loads, each from what the one before left
abbrev pub Loads : Stand → List Load → List Images → Stand → Type 0
Loads old [] [] new = new ≡ old
Loads old (l ∷ ls) (i ∷ is) new = (mid : Stand) × Accepted old (pieces_of l.at i) mid × Loads mid ls is new
Loads old _ _ new = ⊥

pub length-stored : (ram : List ℕ) (p : Piece) → p.0 + length p.1 ≤ length ram → length (stored ram p) ≡ length ram
unfolding stored
length-stored ram p fits = grind (arith, places)

pub byte_before : (ram : List ℕ) (q : Piece) (i : ℕ) → q.0 + length q.1 ≤ length ram → i < q.0 → get_or (stored ram q) i 0 ≡ get_or ram i 0
unfolding stored
byte_before ram q i fits h = grind (arith, places)

pub byte_after : (ram : List ℕ) (q : Piece) (i : ℕ) → q.0 + length q.1 ≤ length ram → q.0 + length q.1 ≤ i → get_or (stored ram q) i 0 ≡ get_or ram i 0
unfolding stored
byte_after ram q i fits h = grind (arith, places)

pub stored_is_held : (ram : List ℕ) (p : Piece) → p.0 + length p.1 ≤ length ram → IsHeld (stored ram p) p
unfolding stored
stored_is_held ram p fits k h = grind (arith, places)

-- two pieces, one of which is empty, or that don't overlap
abbrev pub Free : Piece → Piece → Type 0
Free p q = (length p.1 ≡ 0) ⊎ ((length q.1 ≡ 0) ⊎ Apart (block_of p) (block_of q))

pub empty_stored : (ram : List ℕ) (q : Piece) (i : ℕ) → length q.1 ≡ 0 → get_or (stored ram q) i 0 ≡ get_or ram i 0
unfolding stored
empty_stored ram q i h = grind (arith, places)

pub held_apart : (ram : List ℕ) (p q : Piece) → q.0 + length q.1 ≤ length ram → Free p q → IsHeld ram p → IsHeld (stored ram q) p
held_apart ram p q fits (inl empty) held k h = absurd (omega arith)
held_apart ram p q fits (inr (inl empty)) held k h = empty_stored ram q (p.0 + k) empty ∙ held k h
held_apart ram p q fits (inr (inr (inl before))) held k h = byte_before ram q (p.0 + k) fits (omega arith) ∙ held k h
held_apart ram p q fits (inr (inr (inr after))) held k h = byte_after ram q (p.0 + k) fits (omega arith) ∙ held k h

-- a piece is nothing or is held by a block
abbrev pub Has : List Block → Piece → Type 0
Has = IsHeldBy

Has-more : (b : Block) (blocks : List Block) (p : Piece) → Has blocks p → Has (b ∷ blocks) p
Has-more b blocks p (inl h) = inl h
Has-more b blocks p (inr (c, among, covers)) = inr (c, inr among, covers)

-- what is apart from a block is apart from what it holds
apart_held : (p q : Piece) (b : Block) → Covers b p → Apart (block_of q) b → Apart (block_of p) (block_of q)
apart_held p q b covers (inl h) = inr (omega arith)
apart_held p q b covers (inr h) = inl (omega arith)

free_by : (blocks : List Block) (p q : Piece) → ((b : Block) → IsAmong b blocks → (length q.1 ≡ 0) ⊎ Apart (block_of q) b) → Has blocks p → Free p q
free_by blocks p q clear (inl h) = inl h
free_by blocks p q clear (inr (b, among, covers)) = elim (clear b among) [ inl e ↦ inr (inl e) | inr a ↦ inr (inr (apart_held p q b covers a)) ]

pub fits_at : (size : ℕ) (ram : List ℕ) (p : Piece) → length ram ≡ size → p.0 + length p.1 ≤ size → p.0 + length p.1 ≤ length ram
fits_at size ram p e h = omega arith

pub same_size : (size : ℕ) (ram : List ℕ) (p : Piece) → length ram ≡ size → p.0 + length p.1 ≤ size → length (stored ram p) ≡ size
same_size size ram p e h = length-stored ram p (fits_at size ram p e h) ∙ e

whole : (p : Piece) → Covers (block_of p) p
whole p = (omega arith, omega arith)

kept_all : (size : ℕ) (blocks : List Block) (qs : List Piece) (ram : List ℕ) (p : Piece) →
    length ram ≡ size → Clear size blocks qs → Has blocks p → IsHeld ram p → IsHeld (stored_all ram qs) p
kept_all size blocks [] ram p e clear has held = held
kept_all size blocks (q ∷ qs) ram p e (fits, apart, clear) has held =
    kept_all size (block_of q ∷ blocks) qs (stored ram q) p (same_size size ram q e fits) clear (Has-more (block_of q) blocks p has)
    (held_apart ram p q (fits_at size ram q e fits) (free_by blocks p q apart has) held)

pub size_all : (size : ℕ) (blocks : List Block) (qs : List Piece) (ram : List ℕ) → length ram ≡ size → Clear size blocks qs → length (stored_all ram qs) ≡ size
size_all size blocks [] ram e clear = e
size_all size blocks (q ∷ qs) ram e (fits, apart, clear) = size_all size (block_of q ∷ blocks) qs (stored ram q) (same_size size ram q e fits) clear

all_held : (size : ℕ) (blocks : List Block) (qs : List Piece) (ram : List ℕ) → length ram ≡ size → Clear size blocks qs → AllHeld (stored_all ram qs) qs
all_held size blocks [] ram e clear p h = absurd h
all_held size blocks (q ∷ qs) ram e (fits, apart, clear) p (inl same) =
    let first : IsHeld (stored_all (stored ram q) qs) q =
    kept_all size (block_of q ∷ blocks) qs (stored ram q) q (same_size size ram q e fits) clear (inr (block_of q, inl refl, whole q)) (stored_is_held ram q (fits_at size ram q e fits)) in
    subst (λ x. IsHeld (stored_all (stored ram q) qs) x) (sym same) first
all_held size blocks (q ∷ qs) ram e (fits, apart, clear) p (inr h) = all_held size (block_of q ∷ blocks) qs (stored ram q) (same_size size ram q e fits) clear p h

IsPiece-append : (p : Piece) (ps qs : List Piece) → IsPiece p (ps ++ qs) → IsPiece p ps ⊎ IsPiece p qs
IsPiece-append p [] qs h = inr h
IsPiece-append p (x ∷ ps) qs (inl e) = inl (inl e)
IsPiece-append p (x ∷ ps) qs (inr h) = elim (IsPiece-append p ps qs h) [ inl a ↦ inl (inr a) | inr b ↦ inr b ]

-- an accepted load keeps what is held in a block
kept_by_load : (old mid : Stand) (ps : List Piece) (p : Piece) → Accepted old ps mid → Has old.blocks p → IsHeld old.ram p → IsHeld mid.ram p
kept_by_load old mid ps p one has held =
    subst (λ r. IsHeld r p) (sym one.ram) (kept_all (length old.ram) old.blocks ps old.ram p refl one.clear has held)

has_later : (old mid : Stand) (ps : List Piece) (p : Piece) → Accepted old ps mid → Has old.blocks p → Has mid.blocks p
has_later old mid ps p one (inl e) = inl e
has_later old mid ps p one (inr (b, among, covers)) = inr (b, one.older_blocks b among, covers)

kept_by_loads : (old new : Stand) (ls : List Load) (is : List Images) (p : Piece) → Loads old ls is new → Has old.blocks p → IsHeld old.ram p → IsHeld new.ram p
kept_by_loads old new [] [] p h has held = subst (λ (s : Stand). IsHeld s.ram p) (sym h) held
kept_by_loads old new (l ∷ ls) (i ∷ is) p (mid, one, rest) has held =
    kept_by_loads mid new ls is p rest (has_later old mid (pieces_of l.at i) p one has) (kept_by_load old mid (pieces_of l.at i) p one has held)
kept_by_loads old new [] (i ∷ is) p h has held = absurd h
kept_by_loads old new (l ∷ ls) [] p h has held = absurd h

pub held_at_the_end : (old new : Stand) (ls : List Load) (is : List Images) → Loads old ls is new → AllHeld new.ram (all_pieces ls is)
held_at_the_end old new [] [] h p in_none = absurd in_none
held_at_the_end old new (l ∷ ls) (i ∷ is) (mid, one, rest) p h =
    elim (IsPiece-append p (pieces_of l.at i) (all_pieces ls is) h) [
      | inl here ↦ kept_by_loads mid new ls is p rest (one.blocks p here)
          (subst (λ r. IsHeld r p) (sym one.ram) (all_held (length old.ram) old.blocks (pieces_of l.at i) old.ram refl one.clear p here))
      | inr later ↦ held_at_the_end mid new ls is rest p later
    ]
held_at_the_end old new [] (i ∷ is) h p e = absurd h
held_at_the_end old new (l ∷ ls) [] h p e = absurd h
