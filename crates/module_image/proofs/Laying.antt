-- Each section is in its segment, in order.
use Rattle.std.proofs.Common.{◌≡◌, ℕ, zero, suc, ◌+◌, ◌-◌, ◌%◌, ◌<◌, ◌≤◌, true, false, cond, List, [], ◌∷◌, ◌++◌, length, get_or, replicate, refl, sym, ap, ◌∙◌, subst, arith}
use Rattle.std.specs.List.{All}
use Rattle.std.proofs.lemmas.List.{places, length-replicate}
use Rattle.elf_read.specs.declared.module.Module.{Module}
use Rattle.elf_read.specs.declared.module.Sect.{Sect}
use Rattle.elf_read.specs.Modules.{size_of}
use Rattle.module_image.specs.Linkable.{IsLinkable}
use Rattle.mem_partition.specs.Place.{aligned}
use Rattle.mem_partition.proofs.Places.{aligned_multiple, aligned_above}
use Rattle.module_image.specs.declared.segments.SegmentKind.{SegmentKind}
use Rattle.module_image.specs.declared.segments.SegmentKind.TheVariants.{Text, Data, Bss}
use Rattle.module_image.specs.declared.segments.Places.{Places}
use Rattle.module_image.specs.declared.segments.Ends.{Ends}
use Rattle.module_image.specs.Layout.{segment_of, place_of, end_in, after_section, offset_in, addresses_from, addresses, ends_from, no_ends, IsSectRoom}
use Rattle.module_image.specs.Needs.{same_segment}
use Rattle.module_image.specs.Image.{body_bytes, padded, laid}
use Rattle.module_image.specs.LayoutLaw.{nowhere, offset_at, LiesIn, LayoutLaw}
use Rattle.module_image.proofs.Fitting.{same_refl, end_after, grows, small_tail, small_head, length-padded}

-- where section number k begins, if the segments are used up to e
abbrev off : Ends → List Sect → ℕ → ℕ
off e ss k = get_or (addresses_from nowhere e ss) k 0

no_place : (g : SegmentKind) → place_of nowhere g ≡ 0
no_place Text = refl
no_place Data = refl
no_place Bss = refl

no_end : (g : SegmentKind) → end_in no_ends g ≡ 0
no_end Text = refl
no_end Data = refl
no_end Bss = refl

moved : (at : Places) (e : Ends) (ss : List Sect) (k : ℕ) (d : Sect) → k < length ss
    → get_or (addresses_from at e ss) k 0 ≡ place_of at (segment_of (get_or ss k d)) + off e ss k
moved at e [] k d h = absurd (omega arith)
moved at e (s ∷ ss) zero d h = let z = no_place (segment_of s) in omega arith
moved at e (s ∷ ss) (suc k) d h = moved at (after_section e s) ss k d (omega arith)

multiple : (e : Ends) (ss : List Sect) (k : ℕ) (d : Sect) → All IsSectRoom ss → k < length ss → off e ss k % (get_or ss k d).align ≡ 0
multiple e [] k d all h = absurd (omega arith)
multiple e (s ∷ ss) zero d all h =
    let z : place_of nowhere (segment_of s) + offset_in e s ≡ offset_in e s = (let p = no_place (segment_of s) in omega arith) in
    ap (λ n. n % s.align) z ∙ aligned_multiple (end_in e (segment_of s)) s.align ((small_head s ss all).least)
multiple e (s ∷ ss) (suc k) d all h = multiple (after_section e s) ss k d (small_tail s ss all) (omega arith)

-- how far a section takes its own segment
own_end : (e : Ends) (s : Sect) → end_in (after_section e s) (segment_of s) ≡ offset_in e s + size_of s.body
own_end e s =
    end_after e s (segment_of s)
    ∙ ap (λ b. cond b (aligned (end_in e (segment_of s)) s.align + size_of s.body) (end_in e (segment_of s))) (same_refl (segment_of s))

-- no segment shrinks by one section
grows_one : (e : Ends) (s : Sect) (g : SegmentKind) → IsSectRoom s → end_in e g ≤ end_in (after_section e s) g
grows_one e s g room =
    let up = aligned_above (end_in e g) s.align room.least in
    elim (same_segment g (segment_of s)) as (λ b. end_in (after_section e s) g ≡ cond b (aligned (end_in e g) s.align + size_of s.body) (end_in e g) → end_in e g ≤ end_in (after_section e s) g) [
      | true ↦ λ q. omega arith
      | false ↦ λ q. omega arith
    ] (end_after e s g)

above : (e : Ends) (ss : List Sect) (k : ℕ) (d : Sect) → All IsSectRoom ss → k < length ss → end_in e (segment_of (get_or ss k d)) ≤ off e ss k
above e [] k d all h = absurd (omega arith)
above e (s ∷ ss) zero d all h = let up = aligned_above (end_in e (segment_of s)) s.align ((small_head s ss all).least) in omega arith
above e (s ∷ ss) (suc k) d all h =
    let one = grows_one e s (segment_of (get_or ss k d)) (small_head s ss all) in
    let rest = above (after_section e s) ss k d (small_tail s ss all) (omega arith) in
    omega arith

within : (e : Ends) (ss : List Sect) (k : ℕ) (d : Sect) → All IsSectRoom ss → k < length ss
    → off e ss k + size_of (get_or ss k d).body ≤ end_in (ends_from e ss) (segment_of (get_or ss k d))
within e [] k d all h = absurd (omega arith)
within e (s ∷ ss) zero d all h =
    let same = own_end e s in
    let z = no_place (segment_of s) in
    let up = grows (after_section e s) ss (segment_of s) (small_tail s ss all) in
    omega arith
within e (s ∷ ss) (suc k) d all h = within (after_section e s) ss k d (small_tail s ss all) (omega arith)

order : (e : Ends) (ss : List Sect) (i j : ℕ) (d : Sect) → All IsSectRoom ss → i < j → j < length ss
    → segment_of (get_or ss i d) ≡ segment_of (get_or ss j d) → off e ss i + size_of (get_or ss i d).body ≤ off e ss j
order e [] i j d all h low same = absurd (omega arith)
order e (s ∷ ss) i zero d all h low same = absurd (omega arith)
order e (s ∷ ss) zero (suc j) d all h low same =
    let rest = above (after_section e s) ss j d (small_tail s ss all) (omega arith) in
    let own = own_end e s in
    let z = no_place (segment_of s) in
    let one : end_in (after_section e s) (segment_of (get_or ss j d)) ≡ end_in (after_section e s) (segment_of s) = ap (end_in (after_section e s)) (sym same) in
    omega arith
order e (s ∷ ss) (suc i) (suc j) d all h low same = order (after_section e s) ss i j d (small_tail s ss all) (omega arith) (omega arith) same

-- bytes after others, and after zeros
bss_after : (xs ys : List ℕ) (n k : ℕ) → n ≡ length xs + k → get_or (xs ++ ys) n 0 ≡ get_or ys k 0
bss_after xs ys n k e = grind (arith, places)

before : (xs ys : List ℕ) (k : ℕ) → k < length xs → get_or (xs ++ ys) k 0 ≡ get_or xs k 0
before xs ys k h = grind (arith, places)

in_padded : (from : ℕ) (s : Sect) (n k : ℕ) → n ≡ aligned from s.align - from + k → get_or (padded from s) n 0 ≡ get_or (body_bytes s.body) k 0
in_padded from s n k e =
    bss_after (replicate (aligned from s.align - from) 0) (body_bytes s.body) n k
    (let z : length (replicate {A = ℕ} (aligned from s.align - from) 0) ≡ aligned from s.align - from = length-replicate (aligned from s.align - from) 0 in omega arith)

held : (e : Ends) (ss : List Sect) (k : ℕ) (d : Sect) (n j : ℕ) → All IsSectRoom ss → k < length ss → j < size_of (get_or ss k d).body
    → n + end_in e (segment_of (get_or ss k d)) ≡ off e ss k + j
    → get_or (laid (segment_of (get_or ss k d)) (end_in e (segment_of (get_or ss k d))) ss) n 0 ≡ get_or (body_bytes (get_or ss k d).body) j 0
held e [] k d n j all h low at = absurd (omega arith)
held e (s ∷ ss) zero d n j all h low at =
    let g = segment_of s in
    let from = end_in e g in
    let z = no_place g in
    let up = aligned_above from s.align ((small_head s ss all).least) in
    let size = length-padded from s ((small_head s ss all).least) in
    let rest = laid g (aligned from s.align + size_of s.body) ss in
    ap (λ b. get_or (cond b (padded from s ++ rest) (laid g from ss)) n 0) (same_refl g)
    ∙ before (padded from s) rest n (omega arith)
    ∙ in_padded from s n j (omega arith)
held e (s ∷ ss) (suc k) d n j all h low at =
    let g = segment_of (get_or ss k d) in
    let from = end_in e g in
    let next = aligned from s.align + size_of s.body in
    let body = get_or (body_bytes (get_or ss k d).body) j 0 in
    let size = length-padded from s ((small_head s ss all).least) in
    let far = above (after_section e s) ss k d (small_tail s ss all) (omega arith) in
    elim (same_segment g (segment_of s)) as (λ b. end_in (after_section e s) g ≡ cond b next from → get_or (cond b (padded from s ++ laid g next ss) (laid g from ss)) n 0 ≡ body) [
      | true ↦ λ q.
          bss_after (padded from s) (laid g next ss) n (n - length (padded from s)) (omega arith)
          ∙ subst (λ t. get_or (laid g t ss) (n - length (padded from s)) 0 ≡ body) q
          (held (after_section e s) ss k d (n - length (padded from s)) j (small_tail s ss all) (omega arith) low (omega arith))
      | false ↦ λ q. subst (λ t. get_or (laid g t ss) n 0 ≡ body) q (held (after_section e s) ss k d n j (small_tail s ss all) (omega arith) low (omega arith))
    ] (end_after e s g)

lies_in : (m : Module) (i : ℕ) (d : Sect) → IsLinkable m → i < length m.sections → LiesIn m i (get_or m.sections i d)
unfolding addresses
lies_in m i d k h =
    let g = segment_of (get_or m.sections i d) in
    let room = k.sections in
    record {
      address = λ at. moved at no_ends m.sections i d h;
      multiple = multiple no_ends m.sections i d room h;
      within = within no_ends m.sections i d room h;
      held = λ j low.
          (let z = no_end g in
          subst (λ t. get_or (laid g t m.sections) (off no_ends m.sections i + j) 0 ≡ get_or (body_bytes (get_or m.sections i d).body) j 0) z
          (held no_ends m.sections i d (off no_ends m.sections i + j) j room h low (omega arith)));
    }

in_order : (m : Module) (i j : ℕ) (d : Sect) → IsLinkable m → i < j → j < length m.sections
    → segment_of (get_or m.sections i d) ≡ segment_of (get_or m.sections j d) → offset_at m i + size_of (get_or m.sections i d).body ≤ offset_at m j
unfolding addresses
in_order m i j d k h low same = order no_ends m.sections i j d k.sections h low same

pub layout_law : LayoutLaw
layout_law = record { each = lies_in; order = in_order }
