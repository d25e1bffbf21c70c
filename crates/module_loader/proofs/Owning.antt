-- An accepted load writes into blocks of its own, and nothing else.
use Rattle.std.proofs.Common.{◌≡◌, ℕ, zero, suc, ◌+◌, ◌<◌, ◌≤◌, true, false, cond, ltb, List, [], ◌∷◌, length, get_or, Ok, refl, sym, ◌∙◌, subst, inl, inr, ◌⊎◌, arith}
use Rattle.std.specs.List.{Contains}
use Rattle.std.proofs.lemmas.Bool.{cases_lt}
use Rattle.wind_base.specs.declared.board_kind.Side.{Side}
use Rattle.mem_partition.specs.declared.block.Block.{Block as PartBlock}
use Rattle.mem_partition.specs.Laws.{IsIn, Meets}
use Rattle.mem_partition.specs.State.{PartState, with_block}
use Rattle.elf_read.specs.declared.module.Module.{Module}
use Rattle.elf_read.specs.Modules.{IsModule}
use Rattle.module_image.specs.declared.segments.Need.{Need}
use Rattle.module_image.specs.declared.segments.Needs.{Needs}
use Rattle.module_image.specs.declared.segments.Places.{Places}
use Rattle.module_image.specs.Needs.{needs_of}
use Rattle.module_image.specs.Image.{Images, image}
use Rattle.module_image.proofs.Known.{linkable}
use Rattle.module_image.proofs.Lengths.{size_law}
use Rattle.module_loader.specs.Placing.{with_seg, with_text, with_data, with_needs}
use Rattle.module_loader.specs.Loading.{LoaderState, side_of, Piece, block_size, in_blocks, stored, stored_all, pieces_of, verdict, loaded}
use Rattle.module_loader.specs.Steps.{three_pieces}
use Rattle.module_loader.specs.Live.{IsPiece, IsLoader}
use Rattle.module_loader.specs.Writes.{HasBlock, WriteLaw}
use Rattle.module_loader.proofs.Ram.{Block, block_of, Apart, IsAmong, Clear, byte_before, byte_after, fits_at, same_size, size_all}
use Rattle.module_loader.proofs.Standing.{Stands, block_none, total_small}
use Rattle.module_loader.proofs.Applying.{is_accepted, pair_of, pairs, AllStand, FillBlocks, all_stand, fill_blocks, clear_all}

-- ---- blocks of its own
contains_new : (b : PartBlock) (bs : List PartBlock) → Contains (with_block b bs) b
contains_new b [] = (0, omega arith, refl)
contains_new b (c ∷ cs) = elim (ltb b.addr c.addr) as (λ t. Contains (cond t (b ∷ c ∷ cs) (c ∷ with_block b cs)) b) [
  | true ↦ (0, omega arith, refl)
  | false ↦ (let (k, h, e) = contains_new b cs in (suc k, omega arith, e))
]

contains_kept : (b : PartBlock) (bs : List PartBlock) (x : PartBlock) → Contains bs x → Contains (with_block b bs) x
contains_kept b [] x (k, h, e) = absurd (omega arith)
contains_kept b (c ∷ cs) x (zero, h, e) = elim (ltb b.addr c.addr) as (λ t. Contains (cond t (b ∷ c ∷ cs) (c ∷ with_block b cs)) x) [
  | true ↦ (1, omega arith, e)
  | false ↦ (0, omega arith, e)
]
contains_kept b (c ∷ cs) x (suc k, h, e) = elim (ltb b.addr c.addr) as (λ t. Contains (cond t (b ∷ c ∷ cs) (c ∷ with_block b cs)) x) [
  | true ↦ (suc (suc k), omega arith, e)
  | false ↦ (let (j, l, f) = contains_kept b cs x (k, omega arith, e) in (suc j, omega arith, f))
]

-- a segment is empty, or has its block
abbrev Owns : PartState → Piece → Type 0
Owns s p = (length p.1 ≡ 0) ⊎ HasBlock s p

owns_seg : (side : Side) (s : PartState) (n : Need) (at : ℕ) (bytes : List ℕ) → Stands side s n at → length bytes ≡ block_size n.size → Owns (with_seg side s n) (at, bytes)
owns_seg side s n at bytes (inl h) e = let z = block_none n.size h.0 in inl (omega arith)
owns_seg side s n at bytes (inr (b, h)) e =
    inr (b, subst (λ (t : PartState). Contains t.blocks b) (sym h.after) (contains_new b s.blocks), h.class, h.addr, h.full ∙ sym e)

owns_later : (side : Side) (s : PartState) (n : Need) (at : ℕ) (p : Piece) → Stands side s n at → Owns s p → Owns (with_seg side s n) p
owns_later side s n at p st (inl z) = inl z
owns_later side s n at p (inl h) (inr owned) = inr (subst (λ (t : PartState). HasBlock t p) (sym h.1) owned)
owns_later side s n at p (inr (b, h)) (inr (c, has, class, addr, fits)) =
    inr (c, subst (λ (t : PartState). Contains t.blocks c) (sym h.after) (contains_kept b s.blocks c has), class, addr, fits)

owns_all : (side : Side) (s : PartState) (z : Needs) (at : Places) (i : Images) (p : Piece) → AllStand side s z at → FillBlocks i z → IsPiece p (three_pieces at i.text i.«data» i.bss)
    → Owns (with_needs side s z) p
owns_all side s z at i p k b (inl e) =
    subst (λ (q : Piece). Owns (with_needs side s z) q) (sym e)
    (owns_later side (with_data side s z) z.bss at.bss (at.text, i.text) k.bss (owns_later side (with_text side s z) z.«data» at.«data» (at.text, i.text) k.«data» (owns_seg side s z.text at.text i.text k.text b.text)))
owns_all side s z at i p k b (inr (inl e)) =
    subst (λ (q : Piece). Owns (with_needs side s z) q) (sym e)
    (owns_later side (with_data side s z) z.bss at.bss (at.«data», i.«data») k.bss (owns_seg side (with_text side s z) z.«data» at.«data» i.«data» k.«data» b.«data»))
owns_all side s z at i p k b (inr (inr (inl e))) = subst (λ (q : Piece). Owns (with_needs side s z) q) (sym e) (owns_seg side (with_data side s z) z.bss at.bss i.bss k.bss b.bss)
owns_all side s z at i p k b (inr (inr (inr h))) = absurd h

-- ---- apart from the blocks before
apart_of : (size : ℕ) (blocks : List Block) (ps : List Piece) (p : Piece) (x : Block) → Clear size blocks ps → IsPiece p ps → IsAmong x blocks
    → (length p.1 ≡ 0) ⊎ Apart (block_of p) x
apart_of size blocks [] p x clear h among = absurd h
apart_of size blocks (q ∷ qs) p x (fits, apart, clear) (inl e) among =
    subst (λ (y : Piece). (length y.1 ≡ 0) ⊎ Apart (block_of y) x) (sym e) (apart x among)
apart_of size blocks (q ∷ qs) p x (fits, apart, clear) (inr h) among = apart_of size (block_of q ∷ blocks) qs p x clear h (inr among)

among_at : (bs : List PartBlock) (k : ℕ) (d : PartBlock) → k < length bs → IsAmong (pair_of (get_or bs k d)) (pairs bs)
among_at [] k d h = absurd (omega arith)
among_at (b ∷ bs) zero d h = inl refl
among_at (b ∷ bs) (suc k) d h = inr (among_at bs k d (omega arith))

no_meeting : (p : Piece) (b : PartBlock) → (length p.1 ≡ 0) ⊎ Apart (block_of p) (pair_of b) → Meets (length p.1) p.0 b → ⊥
no_meeting p b (inl z) (a, one, two) = omega (arith, one.0, one.1)
no_meeting p b (inr (inl h)) (a, one, two) = omega (arith, one.1, two.0)
no_meeting p b (inr (inr h)) (a, one, two) = omega (arith, one.0, two.1)

-- ---- nothing else
outside_one : (ram : List ℕ) (q : Piece) (a : ℕ) → q.0 + length q.1 ≤ length ram → (IsIn a q.0 (length q.1) → ⊥) → get_or (stored ram q) a 0 ≡ get_or ram a 0
outside_one ram q a fits out = elim (cases_lt a q.0) [
  | inl low ↦ byte_before ram q a fits low
  | inr high ↦ elim (cases_lt a (q.0 + length q.1)) [
    | inl inside ↦ absurd (out (omega arith, inside))
    | inr later ↦ byte_after ram q a fits (omega arith)
  ]
]

outside_all : (size : ℕ) (blocks : List Block) (qs : List Piece) (ram : List ℕ) (a : ℕ) → length ram ≡ size → Clear size blocks qs
    → ((p : Piece) → IsPiece p qs → IsIn a p.0 (length p.1) → ⊥) → get_or (stored_all ram qs) a 0 ≡ get_or ram a 0
outside_all size blocks [] ram a e clear out = refl
outside_all size blocks (q ∷ qs) ram a e (fits, apart, clear) out =
    outside_all size (block_of q ∷ blocks) qs (stored ram q) a (same_size size ram q e fits) clear (λ p h. out p (inr h))
    ∙ outside_one ram q a (fits_at size ram q e fits) (out q (inl refl))

-- ---- the law
clear_of : (s : LoaderState) (m : Module) (mode : ℕ) (at : Places) → IsLoader s → IsModule m → verdict s m mode ≡ Ok at
    → Clear (length s.ram) (pairs s.part.blocks) (pieces_of at (image m s.symbols at))
clear_of s m mode at k km h =
    let places = (is_accepted s m mode at h).places in
    clear_all (side_of s) s.part (needs_of m) at (in_blocks (image m s.symbols at)) (length s.ram) (all_stand (side_of s) s.part (needs_of m) at k.part places)
    (fill_blocks (image m s.symbols at) (needs_of m) (size_law m s.symbols at (linkable m km) (total_small (side_of s) s.part (needs_of m) at k.part places))) k.pool

own : (s : LoaderState) (name : List ℕ) (m : Module) (mode : ℕ) (at : Places) (p : Piece) → IsLoader s → IsModule m → verdict s m mode ≡ Ok at
    → IsPiece p (pieces_of at (image m s.symbols at)) → Owns (loaded s name m mode at).part p
unfolding loaded
own s name m mode at p k km h in_it =
    let places = (is_accepted s m mode at h).places in
    owns_all (side_of s) s.part (needs_of m) at (in_blocks (image m s.symbols at)) p (all_stand (side_of s) s.part (needs_of m) at k.part places)
    (fill_blocks (image m s.symbols at) (needs_of m) (size_law m s.symbols at (linkable m km) (total_small (side_of s) s.part (needs_of m) at k.part places))) in_it

outside : (s : LoaderState) (name : List ℕ) (m : Module) (mode : ℕ) (at : Places) (a : ℕ) → IsLoader s → IsModule m → verdict s m mode ≡ Ok at
    → ((p : Piece) → IsPiece p (pieces_of at (image m s.symbols at)) → IsIn a p.0 (length p.1) → ⊥)
    → get_or (loaded s name m mode at).ram a 0 ≡ get_or s.ram a 0
unfolding loaded
outside s name m mode at a k km h out =
    outside_all (length s.ram) (pairs s.part.blocks) (pieces_of at (image m s.symbols at)) s.ram a refl (clear_of s m mode at k km h) out

same_bytes : (s : LoaderState) (name : List ℕ) (m : Module) (mode : ℕ) (at : Places) → IsLoader s → IsModule m → verdict s m mode ≡ Ok at
    → length (loaded s name m mode at).ram ≡ length s.ram
unfolding loaded
same_bytes s name m mode at k km h =
    size_all (length s.ram) (pairs s.part.blocks) (pieces_of at (image m s.symbols at)) s.ram refl (clear_of s m mode at k km h)

pub write_law : WriteLaw
write_law = record {
  own = own;
  fresh = λ s m mode at p k km h in_it i d low.
      no_meeting p (get_or s.part.blocks i d)
      (apart_of (length s.ram) (pairs s.part.blocks) (pieces_of at (image m s.symbols at)) p (pair_of (get_or s.part.blocks i d)) (clear_of s m mode at k km h) in_it
      (among_at s.part.blocks i d low));
  outside = outside;
  size = same_bytes;
}
