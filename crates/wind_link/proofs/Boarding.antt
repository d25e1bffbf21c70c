-- What loads on a board leave in RAM is the image of the same modules.
use Rattle.std.proofs.Common.{◌≡◌, ◌⊎◌, ℕ, ◌+◌, ◌-◌, ◌≤◌, ◌<◌, inl, inr, List, [], ◌∷◌, ◌++◌, Option, Some, None, Result, Ok, length, map, get_or, replicate, refl, sym, ap, ◌∙◌, subst, arith}
use Rattle.std.specs.List.{range_with_len}
use Rattle.std.proofs.lemmas.List.{get_or_append_left, length-append}
use Rattle.std.proofs.lemmas.List.FromFn.{get_or-map-range_with_len}
use Rattle.symbol_table.specs.declared.symbol.Symbol.{Symbol}
use Rattle.module_image.specs.declared.segments.SegmentKind.{SegmentKind}
use Rattle.module_image.specs.Exports.{exports}
use Rattle.module_image.specs.Image.{image}
use Rattle.module_image.specs.Link.{Load, link, images_of}
use Rattle.module_image.specs.Opening.{opening_blocks}
use Rattle.module_image.proofs.Known.{linkable}
use Rattle.module_image.proofs.Linking.{link_law}
use Rattle.module_loader.specs.Loading.{Piece, block_size, in_block, pieces_of, loaded}
use Rattle.module_loader.specs.Live.{IsPiece, AllHeld, all_pieces}
use Rattle.module_loader.proofs.Ram.{held_at_the_end}
use Rattle.module_loader.proofs.Running.{stand_of, accepted}
use Rattle.wind_link.specs.declared.linking.LinkErr.{LinkErr}
use Rattle.wind_link.specs.Boards.{BoardLoad, IsAccepted, left_by, written_by, Follow, Stays, AllStay, HoldBoth, BoardLaw, LinkedLaw}
use Rattle.wind_link.specs.Flat.{Segment, segments, byte_at, lowest, highest, flat}
use Rattle.wind_link.specs.Linking.{opening_symbols, related_or, placed_or, images, linked, wrong_relocation, static_image}
use Rattle.wind_link.specs.Placing.{wrong_place}
use Rattle.wind_link.proofs.Covering.{AllRead, all_read}
use Rattle.wind_link.proofs.Extents.{AreSized, segments_inside}
use Rattle.wind_link.proofs.Flattening.{AllInside}
use Rattle.wind_link.proofs.Joining.{images_are}
use Rattle.wind_link.proofs.Placement.{AllLinkable, all_placed, sized}

-- ---- the images are the static link
abbrev the_loads : List BoardLoad → List Load
the_loads bs = map (λ b. b.load) bs

abbrev with_ids : List BoardLoad → List (ℕ × Load)
with_ids bs = map (λ b. (b.found.kern.next_id, b.load)) bs

symbols_left : (b : BoardLoad) → (left_by b).symbols ≡ b.found.symbols ++ exports b.load.body b.load.mode b.load.at b.found.kern.next_id
unfolding loaded
symbols_left b = refl

written_is : (tab : List Symbol) (bs : List BoardLoad) → Follow tab bs → map written_by bs ≡ images_of tab (with_ids bs)
written_is tab [] f = refl
written_is tab (b ∷ bs) (one, found, rest) =
    let after : (left_by b).symbols ≡ tab ++ exports b.load.body b.load.mode b.load.at b.found.kern.next_id =
    symbols_left b ∙ ap (λ x. x ++ exports b.load.body b.load.mode b.load.at b.found.kern.next_id) found in
    ap (λ x. image b.load.body x b.load.at ∷ map written_by bs) found
    ∙ ap (λ is. image b.load.body tab b.load.at ∷ is) (written_is (left_by b).symbols bs rest ∙ ap (λ x. images_of x (with_ids bs)) after)

loads_are : (bs : List BoardLoad) → map (λ (l : ℕ × Load). l.1) (with_ids bs) ≡ the_loads bs
loads_are [] = refl
loads_are (b ∷ bs) = ap (λ ls. b.load ∷ ls) (loads_are bs)

written_images : (bs : List BoardLoad) → Follow opening_symbols bs → map written_by bs ≡ images (the_loads bs)
written_images bs f = written_is opening_symbols bs f ∙ link_law opening_symbols (with_ids bs) ∙ ap (link opening_symbols) (loads_are bs)

all_linkable : (tab : List Symbol) (bs : List BoardLoad) → Follow tab bs → AllLinkable (the_loads bs)
all_linkable tab [] f = tt
all_linkable tab (b ∷ bs) (one, found, rest) = (linkable b.load.body one.sound, all_linkable (left_by b).symbols bs rest)

-- ---- RAM
held : (b : BoardLoad) → IsAccepted b → AllHeld (left_by b).ram (pieces_of b.load.at (written_by b))
held b one p h =
    held_at_the_end (stand_of b.found) (stand_of (left_by b)) (b.load ∷ []) (written_by b ∷ [])
    (stand_of (left_by b), accepted b.found b.name b.load.body b.load.mode b.load.at one.board one.sound one.at, refl)
    p h

fills : (bytes : List ℕ) → length bytes ≤ length (in_block bytes)
unfolding in_block
fills bytes = omega (arith, length-append bytes (replicate (block_size (length bytes) - length bytes) 0))

first_in : (bytes : List ℕ) (k : ℕ) → k < length bytes → get_or (in_block bytes) k 0 ≡ get_or bytes k 0
unfolding in_block
first_in bytes k h = get_or_append_left bytes (replicate (block_size (length bytes) - length bytes) 0) 0 k h

-- RAM holds what one load wrote
one_held : (ram : List ℕ) (b : BoardLoad) → IsAccepted b → Stays ram b → AllHeld ram (pieces_of b.load.at (written_by b))
one_held ram b one stays p h k small = stays p (p.0 + k) h (omega arith, omega (arith, small)) ∙ held b one p h k small

of_either : (p : Piece) (ps qs : List Piece) → IsPiece p (ps ++ qs) → IsPiece p ps ⊎ IsPiece p qs
of_either p [] qs h = inr h
of_either p (q ∷ ps) qs (inl same) = inl (inl same)
of_either p (q ∷ ps) qs (inr later) = elim (of_either p ps qs later) [ inl mine ↦ inl (inr mine) | inr theirs ↦ inr theirs ]

all_held : (tab : List Symbol) (ram : List ℕ) (bs : List BoardLoad) → Follow tab bs → AllStay ram bs → AllHeld ram (all_pieces (the_loads bs) (map written_by bs))
all_held tab ram [] f s p h = absurd h
all_held tab ram (b ∷ bs) (one, found, rest) (stays, others) p h =
    elim (of_either p (pieces_of b.load.at (written_by b)) (all_pieces (the_loads bs) (map written_by bs)) h)
    [ inl mine ↦ one_held ram b one stays p mine | inr theirs ↦ all_held (left_by b).symbols ram bs rest others p theirs ]

pub linked_law : LinkedLaw
linked_law tab bs ram f s = (written_is tab bs f ∙ link_law tab (with_ids bs) ∙ ap (link tab) (loads_are bs), all_held tab ram bs f s)

stays_read : (ram : List ℕ) (b : BoardLoad) (at : ℕ) (bytes : List ℕ) → IsAccepted b → Stays ram b → IsPiece (at, in_block bytes) (pieces_of b.load.at (written_by b))
    → (k : ℕ) → k < length bytes → get_or ram (at + k) 0 ≡ get_or bytes k 0
stays_read ram b at bytes one stays p k h =
    let full = fills bytes in
    stays (at, in_block bytes) (at + k) p (omega arith, omega arith)
    ∙ held b one (at, in_block bytes) p k (omega arith)
    ∙ first_in bytes k h

ram_read : (tab : List Symbol) (ram : List ℕ) (bs : List BoardLoad) → Follow tab bs → AllStay ram bs → AllRead (λ a. get_or ram a 0) (segments (the_loads bs) (map written_by bs))
ram_read tab ram [] f s = tt
ram_read tab ram (b ∷ bs) (one, found, rest) (stays, others) = (
  stays_read ram b b.load.at.text (written_by b).text one stays (inl refl),
  (
    stays_read ram b b.load.at.«data» (written_by b).«data» one stays (inr (inl refl)),
    (stays_read ram b b.load.at.bss (written_by b).bss one stays (inr (inr (inl refl))), ram_read (left_by b).symbols ram bs rest others),
  ),
)

-- ---- the image
placed_ok : (o : Option (ℕ × SegmentKind)) (r : Result (List ℕ) LinkErr) (bytes : List ℕ) → placed_or o r ≡ Ok bytes → (o ≡ None) × (r ≡ Ok bytes)
placed_ok None r bytes h = (refl, h)
placed_ok (Some wrong) r bytes h = absurd (cc)

related_ok : (w : Option LinkErr) (all bytes : List ℕ) → related_or w all ≡ Ok bytes → bytes ≡ all
related_ok None all bytes h = cc
related_ok (Some e) all bytes h = absurd (cc)

linked_ok : (ls : List Load) (bytes : List ℕ) → static_image ls ≡ Ok bytes → (wrong_place 0 opening_blocks ls ≡ None) × (bytes ≡ flat (segments ls (images ls)))
unfolding static_image linked
linked_ok ls bytes h =
    let both = placed_ok (wrong_place 0 opening_blocks ls) (related_or (wrong_relocation 0 (images ls)) (flat (segments ls (images ls)))) bytes h in
    (both.0, related_ok (wrong_relocation 0 (images ls)) (flat (segments ls (images ls))) bytes both.1)

both_hold : (ram bytes : List ℕ) (low n : ℕ) (all ss : List Segment) → bytes ≡ map (byte_at all) (range_with_len low n) → AllInside low n ss
    → AllRead (λ a. get_or ram a 0) ss → AllRead (byte_at all) ss → HoldBoth ram bytes low ss
both_hold ram bytes low n all [] e inside r s = tt
both_hold ram bytes low n all (s ∷ ss) e (one, inside) (mine, r) (theirs, others) = (
  λ k h.
      (let (a, b) = one (omega arith) in
      let there : get_or bytes (s.0 + k - low) 0 ≡ byte_at all (s.0 + k) =
      ap (λ xs. get_or xs (s.0 + k - low) 0) e ∙ get_or-map-range_with_len (byte_at all) low n (s.0 + k - low) (s.0 + k) 0 (omega arith) (omega arith) in
      mine k h ∙ sym (theirs k h) ∙ sym there),
  both_hold ram bytes low n all ss e inside r others,
)

flat_is : (ss : List Segment) → flat ss ≡ map (byte_at ss) (range_with_len (lowest ss) (highest ss - lowest ss))
unfolding flat
flat_is ss = refl

pub board_law : BoardLaw
board_law bs ram bytes f s h =
    let ls = the_loads bs in
    let is = images ls in
    let ok = linked_ok ls bytes h in
    let placed = all_placed 0 opening_blocks ls ok.0 in
    let sizes : AreSized ls is = subst (AreSized ls) (sym (images_are ls)) (sized opening_symbols [] opening_blocks ls (all_linkable opening_symbols bs f) placed) in
    let in_ram : AllRead (λ a. get_or ram a 0) (segments ls is) = subst (λ x. AllRead (λ a. get_or ram a 0) (segments ls x)) (written_images bs f) (ram_read opening_symbols ram bs f s) in
    both_hold ram bytes (lowest (segments ls is)) (highest (segments ls is) - lowest (segments ls is)) (segments ls is) (segments ls is)
    (ok.1 ∙ flat_is (segments ls is)) (segments_inside ls is sizes) in_ram (all_read [] opening_blocks ls is sizes placed)
