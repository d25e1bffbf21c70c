-- A partition with its holes, after a block is added and after one is removed.
use Rattle.std.proofs.Common.{◌≡◌, ℕ, ◌+◌, ◌<◌, ◌≤◌, List, length, get_or, sym, ap, ◌∙◌, subst, arith}
use Rattle.std.specs.List.{remove}
use Rattle.mem_partition.specs.declared.block.Block.{Block}
use Rattle.mem_partition.specs.declared.block.Class.{Class}
use Rattle.mem_partition.specs.declared.hole.Hole.{Hole}
use Rattle.mem_partition.specs.Place.{Lies}
use Rattle.mem_partition.specs.State.{PartState, IsPart, with_block, without_block, after_free}
use Rattle.mem_partition.specs.Own.{IsOwn}
use Rattle.mem_partition.specs.Holes.{HolesState, AreHoles, holes_of, with_holes, cut_out, merged}
use Rattle.mem_partition.proofs.Keeping.{length-without, part_with, part_without, own_removed, freed_is}
use Rattle.mem_partition.proofs.Splitting.{split}
use Rattle.mem_partition.proofs.Merging.{taken_out, length-holes}

-- the partition with these blocks and holes
abbrev pub holding : PartState → List Block → List Hole → HolesState
holding s bs hs = record { part = record s { blocks = bs }; holes = hs }

pub whole_is : (s : HolesState) → AreHoles s → s ≡ with_holes s.part
whole_is s k = ap (holding s.part s.part.blocks) k.exact

pub holes_few : (s : HolesState) → AreHoles s → length s.holes ≤ length s.part.blocks + 1
holes_few s k = subst (λ (hs : List Hole). length hs ≤ length s.part.blocks + 1) (sym k.exact) (length-holes s.part.start s.part.end s.part.blocks)

-- ---- a block is added

pub put_exact : (s : HolesState) (b : Block) (bs : List Block) (hs : List Hole) → AreHoles s → 0 < b.size → Lies s.part.start s.part.end s.part.blocks b.size b.addr
    → bs ≡ with_block b s.part.blocks → hs ≡ cut_out b.addr (b.addr + b.size) s.holes → hs ≡ holes_of s.part.start s.part.end bs
put_exact s b bs hs k some lies blocks holes =
    holes
    ∙ ap (cut_out b.addr (b.addr + b.size)) k.exact
    ∙ split s.part.start s.part.end s.part.blocks b k.part.laid some lies
    ∙ sym (ap (holes_of s.part.start s.part.end) blocks)

pub put_holes : (s : HolesState) (b : Block) (bs : List Block) (hs : List Hole) → AreHoles s → 0 < b.size → Lies s.part.start s.part.end s.part.blocks b.size b.addr
    → length s.part.blocks < s.part.room → bs ≡ with_block b s.part.blocks → hs ≡ cut_out b.addr (b.addr + b.size) s.holes → AreHoles (holding s.part bs hs)
put_holes s b bs hs k some lies room blocks holes = record {
  part = subst (λ (x : List Block). IsPart (record s.part { blocks = x })) (sym blocks) (part_with s.part b k.part lies some room);
  room = k.room;
  exact = put_exact s b bs hs k some lies blocks holes;
}

-- ---- a block that is taken out

pub free_exact : (s : HolesState) (at : ℕ) (class : Class) (k : ℕ) (b : Block) (bs : List Block) (hs : List Hole) → AreHoles s → IsOwn s.part.blocks at class k
    → b ≡ get_or s.part.blocks k b → bs ≡ remove s.part.blocks k → hs ≡ merged b.addr (b.addr + b.size) s.holes → hs ≡ holes_of s.part.start s.part.end bs
free_exact s at class k b bs hs are own is blocks holes =
    let c = get_or s.part.blocks k b in
    holes
    ∙ ap (merged b.addr (b.addr + b.size)) are.exact
    ∙ ap (λ (x : Block). merged x.addr (x.addr + x.size) (holes_of s.part.start s.part.end s.part.blocks)) is
    ∙ taken_out s.part.start s.part.end s.part.blocks k b are.part.laid own.within
    ∙ ap (λ n. holes_of s.part.start s.part.end (without_block n s.part.blocks)) (own.same b)
    ∙ sym (ap (holes_of s.part.start s.part.end) (own_removed s.part at class k bs are.part own blocks))

pub free_holes : (s : HolesState) (at : ℕ) (class : Class) (k : ℕ) (b : Block) (bs : List Block) (hs : List Hole) → AreHoles s → IsOwn s.part.blocks at class k
    → b ≡ get_or s.part.blocks k b → bs ≡ remove s.part.blocks k → hs ≡ merged b.addr (b.addr + b.size) s.holes → AreHoles (holding s.part bs hs)
free_holes s at class k b bs hs are own is blocks holes = record {
  part = subst (λ (x : List Block). IsPart (record s.part { blocks = x })) (sym (own_removed s.part at class k bs are.part own blocks)) (part_without s.part at are.part);
  room = are.room;
  exact = free_exact s at class k b bs hs are own is blocks holes;
}

pub free_is_whole : (s : HolesState) (at : ℕ) (class : Class) (k : ℕ) (b : Block) (bs : List Block) (hs : List Hole) → AreHoles s → IsOwn s.part.blocks at class k
    → b ≡ get_or s.part.blocks k b → bs ≡ remove s.part.blocks k → hs ≡ merged b.addr (b.addr + b.size) s.holes
    → holding s.part bs hs ≡ with_holes (after_free s.part at class)
free_is_whole s at class k b bs hs are own is blocks holes =
    whole_is (holding s.part bs hs) (free_holes s at class k b bs hs are own is blocks holes)
    ∙ ap with_holes (freed_is s.part at class k bs are.part own blocks)

-- there is room for the holes after a block is removed
pub merged_few : (s : HolesState) (k : ℕ) (b : Block) → AreHoles s → k < length s.part.blocks → b ≡ get_or s.part.blocks k b → length (merged b.addr (b.addr + b.size) s.holes) ≤ s.part.room + 1
merged_few s k b are less is =
    let bs = s.part.blocks in
    let whole : merged b.addr (b.addr + b.size) s.holes ≡ holes_of s.part.start s.part.end (without_block b.addr bs) =
    ap (merged b.addr (b.addr + b.size)) are.exact
    ∙ subst (λ (x : Block). merged x.addr (x.addr + x.size) (holes_of s.part.start s.part.end bs) ≡ holes_of s.part.start s.part.end (without_block x.addr bs)) (sym is) (taken_out s.part.start s.part.end bs k b are.part.laid less) in
    let same = ap (λ (hs : List Hole). length hs) whole in
    let holes = length-holes s.part.start s.part.end (without_block b.addr bs) in
    let fewer = length-without b.addr bs in
    let few = are.part.few in
    omega arith
