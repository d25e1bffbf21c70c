-- The three segments of an accepted load: where they are, and that they overlap nothing.
use Rattle.std.proofs.Common.{◌≡◌, ℕ, ◌+◌, ◌≤◌, true, false, cond, ltb, List, [], ◌∷◌, length, map, Option, Some, None, Result, Ok, Err, refl, sym, ap, ◌∙◌, subst, inl, inr, ◌⊎◌, arith}
use Rattle.std.proofs.lemmas.Bool.{and_parts}
use Rattle.reloc_link.specs.declared.patching.RelocErr.{RelocErr}
use Rattle.symbol_table.specs.declared.symbol.Symbol.{Symbol}
use Rattle.wind_base.specs.declared.board_kind.Side.{Side}
use Rattle.mem_partition.specs.declared.block.Block.{Block as PartBlock}
use Rattle.mem_partition.specs.declared.block.PartErr.{PartErr}
use Rattle.mem_partition.specs.Place.{is_apart, meets_none}
use Rattle.mem_partition.specs.State.{PartState, IsPart, with_block}
use Rattle.mem_partition.proofs.Keeping.{apart_cases}
use Rattle.elf_read.specs.declared.module.Module.{Module}
use Rattle.module_image.specs.declared.segments.Need.{Need}
use Rattle.module_image.specs.declared.segments.Needs.{Needs}
use Rattle.module_image.specs.declared.segments.Places.{Places}
use Rattle.module_image.specs.Needs.{needs_of}
use Rattle.module_image.specs.Image.{Images, image}
use Rattle.module_image.specs.Laws.{HasSizes}
use Rattle.module_loader.specs.declared.module.LoadErr.{LoadErr}
use Rattle.module_loader.specs.Placing.{with_seg, with_text, with_data, with_needs, places_of}
use Rattle.module_loader.specs.Loading.{LoaderState, side_of, Piece, block_size, in_blocks, count_refusal, reloc_verdict, place_verdict, verdict_by, verdict}
use Rattle.module_loader.specs.Live.{IsPiece}
use Rattle.module_loader.proofs.Ram.{Block, Apart, IsAmong, IsHeldBy, Clear}
use Rattle.module_loader.proofs.Taking.{seg_kept, are_places}
use Rattle.module_loader.specs.Steps.{three_pieces}
use Rattle.module_loader.proofs.Standing.{Stands, stands, same_end, block_none, block_in_pool}
use Rattle.module_loader.proofs.Filling.{length-in_block}

-- ---- what an accepted verdict says

pub record IsAccepted (s : LoaderState) (m : Module) (mode : ℕ) (at : Places) : Type 0 where
  pub counts : count_refusal s m mode ≡ None
  pub places : places_of (side_of s) s.part (needs_of m) ≡ Ok at
  pub fault : (image m s.symbols at).fault ≡ None

reloc_none : (at to : Places) (f : Option RelocErr) → reloc_verdict at f ≡ Ok to → (at ≡ to) × (f ≡ None)
reloc_none at to None e = (cc, refl)
reloc_none at to (Some f) e = absurd (cc)

place_some : (m : Module) (tab : List Symbol) (r : Result Places PartErr) (at : Places) → place_verdict m tab r ≡ Ok at → (r ≡ Ok at) × ((image m tab at).fault ≡ None)
place_some m tab (Err e) at h = absurd (cc)
place_some m tab (Ok a) at h =
    let two = reloc_none a at (image m tab a).fault h in
    (ap Ok two.0, subst (λ x. (image m tab x).fault ≡ None) two.0 two.1)

verdict_some : (o : Option LoadErr) (r : Result Places LoadErr) (at : Places) → verdict_by o r ≡ Ok at → (o ≡ None) × (r ≡ Ok at)
verdict_some None r at h = (refl, h)
verdict_some (Some e) r at h = absurd (cc)

pub is_accepted : (s : LoaderState) (m : Module) (mode : ℕ) (at : Places) → verdict s m mode ≡ Ok at → IsAccepted s m mode at
unfolding verdict
is_accepted s m mode at h =
    let one = verdict_some (count_refusal s m mode) (place_verdict m s.symbols (places_of (side_of s) s.part (needs_of m))) at h in
    let two = place_some m s.symbols (places_of (side_of s) s.part (needs_of m)) at one.1 in
    record { counts = one.0; places = two.0; fault = two.1 }

-- ---- where the pieces are

abbrev pub pair_of : PartBlock → Block
pair_of b = (b.addr, b.size)

abbrev pub pairs : List PartBlock → List Block
pairs bs = map pair_of bs

apart_among : (bs : List PartBlock) (size at : ℕ) (x : Block) → meets_none bs size at ≡ true → IsAmong x (pairs bs) → Apart (at, size) x
apart_among [] size at x free h = absurd h
apart_among (b ∷ bs) size at x free (inl e) =
    let parts = and_parts (is_apart size at b) (meets_none bs size at) free in
    subst (λ (y : Block). Apart (at, size) y) (sym e) (apart_cases size at b parts.0)
apart_among (b ∷ bs) size at x free (inr h) = apart_among bs size at x (and_parts (is_apart size at b) (meets_none bs size at) free).1 h

shrink : (at size len : ℕ) (x : Block) → len ≤ size → Apart (at, size) x → Apart (at, len) x
shrink at size len x k (inl h) = inl (omega arith)
shrink at size len x k (inr h) = inr h

-- the bytes of a segment overlap no block before it
seg_apart : (side : Side) (s : PartState) (n : Need) (at : ℕ) (bytes : List ℕ) → Stands side s n at → length bytes ≡ block_size n.size → (x : Block) → IsAmong x (pairs s.blocks) → (length bytes ≡ 0) ⊎ Apart (at, length bytes) x
seg_apart side s n at bytes (inl h) e x among = let z = block_none n.size h.0 in inl (omega arith)
seg_apart side s n at bytes (inr (b, h)) e x among =
    let full = h.full in
    inr (shrink at b.size (length bytes) x (omega arith) (apart_among s.blocks b.size at x (subst (λ a. meets_none s.blocks b.size a ≡ true) h.addr h.lies.apart) among))

among_kept : (b : PartBlock) (bs : List PartBlock) (x : Block) → IsAmong x (pairs bs) → IsAmong x (pairs (with_block b bs))
among_kept b [] x h = absurd h
among_kept b (c ∷ cs) x h =
    elim (ltb b.addr c.addr) as (λ t. IsAmong x (pairs (cond t (b ∷ c ∷ cs) (c ∷ with_block b cs)))) [
      | true ↦ inr h
      | false ↦ elim h [ inl e ↦ inl e | inr k ↦ inr (among_kept b cs x k) ]
    ]

among_new : (b : PartBlock) (bs : List PartBlock) → IsAmong (pair_of b) (pairs (with_block b bs))
among_new b [] = inl refl
among_new b (c ∷ cs) =
    elim (ltb b.addr c.addr) as (λ t. IsAmong (pair_of b) (pairs (cond t (b ∷ c ∷ cs) (c ∷ with_block b cs)))) [
      | true ↦ inl refl
      | false ↦ inr (among_new b cs)
    ]

seg_keeps : (side : Side) (s : PartState) (n : Need) (at : ℕ) (x : Block) → Stands side s n at → IsAmong x (pairs s.blocks) → IsAmong x (pairs (with_seg side s n).blocks)
seg_keeps side s n at x (inl h) among = subst (λ (t : PartState). IsAmong x (pairs t.blocks)) (sym h.1) among
seg_keeps side s n at x (inr (b, h)) among = subst (λ (t : PartState). IsAmong x (pairs t.blocks)) (sym h.after) (among_kept b s.blocks x among)

seg_held : (side : Side) (s : PartState) (n : Need) (at : ℕ) (bytes : List ℕ) → Stands side s n at → length bytes ≡ block_size n.size → IsHeldBy (pairs (with_seg side s n).blocks) (at, bytes)
seg_held side s n at bytes (inl h) e = let z = block_none n.size h.0 in inl (omega arith)
seg_held side s n at bytes (inr (b, h)) e =
    let full = h.full in
    let addr = h.addr in
    inr (pair_of b, subst (λ (t : PartState). IsAmong (pair_of b) (pairs t.blocks)) (sym h.after) (among_new b s.blocks), (omega arith, omega arith))

held_later : (side : Side) (s : PartState) (n : Need) (at : ℕ) (p : Piece) → Stands side s n at → IsHeldBy (pairs s.blocks) p → IsHeldBy (pairs (with_seg side s n).blocks) p
held_later side s n at p st (inl h) = inl h
held_later side s n at p st (inr (b, among, covers)) = inr (b, seg_keeps side s n at b st among, covers)

-- a later segment is apart from the bytes of an earlier one
apart_earlier : (side : Side) (s t : PartState) (n1 n2 : Need) (at1 at2 : ℕ) (b1 b2 : List ℕ) → Stands side s n1 at1 → length b1 ≡ block_size n1.size → Stands side t n2 at2 → length b2 ≡ block_size n2.size
    → ((x : Block) → IsAmong x (pairs (with_seg side s n1).blocks) → IsAmong x (pairs t.blocks)) → (length b2 ≡ 0) ⊎ Apart (at2, length b2) (at1, length b1)
apart_earlier side s t n1 n2 at1 at2 b1 b2 (inl h) e1 st e2 keeps = let z = block_none n1.size h.0 in let a = h.2 in inr (inr (omega arith))
apart_earlier side s t n1 n2 at1 at2 b1 b2 (inr (b, h)) e1 st e2 keeps =
    let full = h.full in
    let addr = h.addr in
    elim (seg_apart side t n2 at2 b2 st e2 (pair_of b) (keeps (pair_of b) (subst (λ (u : PartState). IsAmong (pair_of b) (pairs u.blocks)) (sym h.after) (among_new b s.blocks)))) [
      | inl z ↦ inl z
      | inr apart ↦ inr (elim apart [ inl k ↦ inl (omega arith) | inr k ↦ inr (omega arith) ])
    ]

-- the three segments
pub record AllStand (side : Side) (s : PartState) (z : Needs) (at : Places) : Type 0 where
  pub text : Stands side s z.text at.text
  pub «data» : Stands side (with_text side s z) z.«data» at.«data»
  pub bss : Stands side (with_data side s z) z.bss at.bss

pub all_stand : (side : Side) (s : PartState) (z : Needs) (at : Places) → IsPart s → places_of side s z ≡ Ok at → AllStand side s z at
all_stand side s z at k e =
    let p = are_places side s z at e in
    let kt = seg_kept side s z.text k in
    record {
      text = stands side s z.text at.text k p.text;
      «data» = stands side (with_text side s z) z.«data» at.«data» kt p.«data»;
      bss = stands side (with_data side s z) z.bss at.bss (seg_kept side (with_text side s z) z.«data» kt) p.bss;
    }

-- where the segments' blocks end
pub record AllFit (size : ℕ) (z : Needs) (at : Places) : Type 0 where
  pub text : at.text + block_size z.text.size ≤ size
  pub «data» : at.«data» + block_size z.«data».size ≤ size
  pub bss : at.bss + block_size z.bss.size ≤ size

-- bytes as many as the segments' blocks have
pub record FillBlocks (i : Images) (z : Needs) : Type 0 where
  pub text : length i.text ≡ block_size z.text.size
  pub «data» : length i.«data» ≡ block_size z.«data».size
  pub bss : length i.bss ≡ block_size z.bss.size

pub fill_blocks : (i : Images) (z : Needs) → HasSizes i z → FillBlocks (in_blocks i) z
fill_blocks i z b = record {
  text = length-in_block i.text ∙ ap block_size b.text;
  «data» = length-in_block i.«data» ∙ ap block_size b.«data»;
  bss = length-in_block i.bss ∙ ap block_size b.bss;
}

pub all_fit : (side : Side) (s : PartState) (z : Needs) (at : Places) (size : ℕ) → AllStand side s z at → s.end ≤ size → AllFit size z at
all_fit side s z at size k h =
    let one = block_in_pool side s z.text at.text k.text in
    let two = block_in_pool side (with_text side s z) z.«data» at.«data» k.«data» in
    let three = block_in_pool side (with_data side s z) z.bss at.bss k.bss in
    let e1 = same_end side s z.text at.text k.text in
    let e2 = same_end side (with_text side s z) z.«data» at.«data» k.«data» in
    record { text = omega arith; «data» = omega arith; bss = omega arith }

pub clear_all : (side : Side) (s : PartState) (z : Needs) (at : Places) (i : Images) (size : ℕ) → AllStand side s z at → FillBlocks i z → s.end ≤ size
    → Clear size (pairs s.blocks) (three_pieces at i.text i.«data» i.bss)
clear_all side s z at i size k b h =
    let fit = all_fit side s z at size k h in
    let bt = b.text in
    let bv = b.«data» in
    let bb = b.bss in
    let ft = fit.text in
    let fv = fit.«data» in
    let fb = fit.bss in
    let t1 : at.text + length i.text ≤ size = omega arith in
    let t2 : at.«data» + length i.«data» ≤ size = omega arith in
    let t3 : at.bss + length i.bss ≤ size = omega arith in (
      t1,
      (λ x among. seg_apart side s z.text at.text i.text k.text b.text x among),
      (
        t2,
        (λ x among. elim among [
          | inl e ↦ subst (λ (y : Block). (length i.«data» ≡ 0) ⊎ Apart (at.«data», length i.«data») y) (sym e)
              (apart_earlier side s (with_text side s z) z.text z.«data» at.text at.«data» i.text i.«data» k.text b.text k.«data» b.«data» (λ y m. m))
          | inr m ↦ seg_apart side (with_text side s z) z.«data» at.«data» i.«data» k.«data» b.«data» x (seg_keeps side s z.text at.text x k.text m)
        ]),
        (
          t3,
          (λ x among. elim among [
            | inl e ↦ subst (λ (y : Block). (length i.bss ≡ 0) ⊎ Apart (at.bss, length i.bss) y) (sym e)
                (apart_earlier side (with_text side s z) (with_data side s z) z.«data» z.bss at.«data» at.bss i.«data» i.bss k.«data» b.«data» k.bss b.bss (λ y m. m))
            | inr (inl e) ↦ subst (λ (y : Block). (length i.bss ≡ 0) ⊎ Apart (at.bss, length i.bss) y) (sym e)
                (apart_earlier side s (with_data side s z) z.text z.bss at.text at.bss i.text i.bss k.text b.text k.bss b.bss (λ y m. seg_keeps side (with_text side s z) z.«data» at.«data» y k.«data» m))
            | inr (inr m) ↦ seg_apart side (with_data side s z) z.bss at.bss i.bss k.bss b.bss x (seg_keeps side (with_text side s z) z.«data» at.«data» x k.«data» (seg_keeps side s z.text at.text x k.text m))
          ]),
          tt,
        ),
      ),
    )

pub held_all : (side : Side) (s : PartState) (z : Needs) (at : Places) (i : Images) → AllStand side s z at → FillBlocks i z
    → (p : Piece) → IsPiece p (three_pieces at i.text i.«data» i.bss) → IsHeldBy (pairs (with_needs side s z).blocks) p
held_all side s z at i k b p (inl e) =
    subst (λ (q : Piece). IsHeldBy (pairs (with_needs side s z).blocks) q) (sym e)
    (held_later side (with_data side s z) z.bss at.bss (at.text, i.text) k.bss (held_later side (with_text side s z) z.«data» at.«data» (at.text, i.text) k.«data» (seg_held side s z.text at.text i.text k.text b.text)))
held_all side s z at i k b p (inr (inl e)) =
    subst (λ (q : Piece). IsHeldBy (pairs (with_needs side s z).blocks) q) (sym e)
    (held_later side (with_data side s z) z.bss at.bss (at.«data», i.«data») k.bss (seg_held side (with_text side s z) z.«data» at.«data» i.«data» k.«data» b.«data»))
held_all side s z at i k b p (inr (inr (inl e))) =
    subst (λ (q : Piece). IsHeldBy (pairs (with_needs side s z).blocks) q) (sym e) (seg_held side (with_data side s z) z.bss at.bss i.bss k.bss b.bss)
held_all side s z at i k b p (inr (inr (inr h))) = absurd h

pub keeps_all : (side : Side) (s : PartState) (z : Needs) (at : Places) (x : Block) → AllStand side s z at → IsAmong x (pairs s.blocks) → IsAmong x (pairs (with_needs side s z).blocks)
keeps_all side s z at x k among = seg_keeps side (with_data side s z) z.bss at.bss x k.bss (seg_keeps side (with_text side s z) z.«data» at.«data» x k.«data» (seg_keeps side s z.text at.text x k.text among))

pub end_all : (side : Side) (s : PartState) (z : Needs) (at : Places) → AllStand side s z at → (with_needs side s z).end ≡ s.end
end_all side s z at k = same_end side (with_data side s z) z.bss at.bss k.bss ∙ (same_end side (with_text side s z) z.«data» at.«data» k.«data» ∙ same_end side s z.text at.text k.text)
