-- A load and an unload keep the modules' blocks.
use Rattle.std.proofs.Common.{◌≡◌, ℕ, ◌+◌, ◌<◌, ◌≤◌, Bool, true, false, cond, eqb, ltb, not, ◌&&◌, is_some, List, [], ◌∷◌, ◌++◌, Option, Some, None, Result, Ok, Err, refl, sym, ap, ◌∙◌, subst, inl, inr, arith}
use Rattle.std.specs.List.{find, All}
use Rattle.std.specs.Prelude.{OnOk, OnErr, IsSome}
use Rattle.std.proofs.lemmas.List.Elements.{All-cons, All-head, All-tail, All-push}
use Rattle.std.proofs.lemmas.Bool.{and_parts, and_from, and_left, eqb-true, eq-eqb, ne_eqb, cases_eq}
use Rattle.std.specs.Option.{option_map}
use Rattle.id_table.specs.Records.{of_id}
use Rattle.id_table.specs.Rows.{row_id, row_object, object_of, without, IdsBelow}
use Rattle.wind_base.specs.declared.board_kind.Side.{Side}
use Rattle.mem_partition.specs.declared.block.Block.{Block}
use Rattle.mem_partition.specs.declared.block.Class.TheVariants.{Kernel}
use Rattle.mem_partition.specs.Place.{is_apart, meets_none}
use Rattle.mem_partition.specs.State.{PartState, IsPart, Laid, with_block, without_block, same_class, own_block, size_or, freed, after_free}
use Rattle.mem_partition.proofs.Allocs.{find_with}
use Rattle.mem_partition.proofs.Keeping.{apart_cases, with_blocks}
use Rattle.mem_partition.proofs.Owners.{find-with_block}
use Rattle.elf_read.specs.declared.module.Module.{Module}
use Rattle.elf_read.specs.Modules.{IsModule}
use Rattle.module_image.specs.declared.segments.Need.{Need}
use Rattle.module_image.specs.declared.segments.Needs.{Needs}
use Rattle.module_image.specs.declared.segments.Places.{Places}
use Rattle.module_image.specs.Needs.{needs_of}
use Rattle.module_loader.specs.declared.module.LoadErr.{LoadErr}
use Rattle.module_loader.specs.declared.module.Loaded.{Loaded}
use Rattle.module_loader.specs.declared.module.LoadedModule.{LoadedModule}
use Rattle.module_loader.specs.declared.module.Segment.{Segment}
use Rattle.module_loader.specs.Placing.{with_seg, with_text, with_data, with_needs}
use Rattle.module_loader.specs.Loading.{LoaderState, side_of, block_size, segment_at, segments_at, record_of, verdict, loaded, IsLoaded}
use Rattle.module_loader.specs.Modules.{without_segment, without_segments, without_all}
use Rattle.module_loader.specs.Holding.{addr_of, addrs_of, held_by, occurs, is_kernel_block, HasItsBlock, AreHeld, KeepsModules, unloaded, HoldLaw}
use Rattle.module_loader.proofs.Taking.{seg_kept}
use Rattle.module_loader.proofs.Standing.{Stands}
use Rattle.module_loader.proofs.Applying.{is_accepted, AllStand, all_stand}
use Rattle.module_loader.proofs.Running.{kept}

-- ---- counts

pub occurs-append : (a : ℕ) (xs ys : List ℕ) → occurs a (xs ++ ys) ≡ occurs a xs + occurs a ys
occurs-append a [] ys = omega arith
occurs-append a (x ∷ xs) ys = let rest = occurs-append a xs ys in omega arith

pub held_by-append : (a : ℕ) (rs ts : List (ℕ × LoadedModule)) → occurs a (held_by (rs ++ ts)) ≡ occurs a (held_by rs) + occurs a (held_by ts)
held_by-append a [] ts = omega arith
held_by-append a (r ∷ rs) ts =
    let rest = held_by-append a rs ts in
    let one = occurs-append a (addrs_of r.1.segments) (held_by (rs ++ ts)) in
    let two = occurs-append a (addrs_of r.1.segments) (held_by rs) in
    omega arith

occurs_one : (x a : ℕ) → x ≡ a → occurs a (x ∷ []) ≡ 1
occurs_one x a e = ap (λ t. cond t 1 0 + 0) (eq-eqb x a e)

occurs_none : (x a : ℕ) → (x ≡ a → ⊥) → occurs a (x ∷ []) ≡ 0
occurs_none x a e = ap (λ t. cond t 1 0 + 0) (ne_eqb x a e)

-- ---- look-ups

found_with : (p : Block → Bool) (b : Block) (bs : List Block) → is_some (find p bs) ≡ true → is_some (find p (with_block b bs)) ≡ true
found_with p b [] h = absurd (cc)
found_with p b (c ∷ cs) h =
    elim (ltb b.addr c.addr) as (λ t. is_some (find p (cond t (b ∷ c ∷ cs) (c ∷ with_block b cs))) ≡ true) [
      | true ↦ elim (p b) as (λ t. is_some (cond t (Some b) (find p (c ∷ cs))) ≡ true) [ true ↦ refl | false ↦ h ]
      | false ↦ elim (p c) as (λ t. is_some (cond t (Some c) (find p cs)) ≡ true → is_some (cond t (Some c) (find p (with_block b cs))) ≡ true) [ true ↦ λ k. refl | false ↦ λ k. found_with p b cs k ] h
    ]

-- a found block doesn't begin where bytes overlap no block
found_apart : (bs : List Block) (lo hi a size at : ℕ) → Laid lo hi bs → is_some (own_block bs a Kernel) ≡ true → 0 < size → meets_none bs size at ≡ true → a ≡ at → ⊥
found_apart [] lo hi a size at laid h some free e = cc
found_apart (c ∷ cs) lo hi a size at (low, c_some, high, laid) h some free e =
    let parts = and_parts (is_apart size at c) (meets_none cs size at) free in
    elim (eqb c.addr a && same_class c.class Kernel) as (λ t. (eqb c.addr a && same_class c.class Kernel) ≡ t → is_some (cond t (Some c) (own_block cs a Kernel)) ≡ true → ⊥) [
      | true ↦ λ q k.
          let same = eqb-true c.addr a ((and_parts (eqb c.addr a) (same_class c.class Kernel) q).0) in
          elim (apart_cases size at c parts.0) [ inl x ↦ omega arith | inr x ↦ omega arith ]
      | false ↦ λ q k. found_apart cs (c.addr + c.size) hi a size at laid k some parts.1 e
    ] refl h

-- without the block of another address
found_without : (bs : List Block) (a at : ℕ) → (at ≡ a → ⊥) → own_block (without_block at bs) a Kernel ≡ own_block bs a Kernel
found_without [] a at h = refl
found_without (c ∷ cs) a at h =
    elim (cases_eq c.addr at) [
      | inl same ↦
          ap (λ t. own_block (cond (not t) (c ∷ without_block at cs) (without_block at cs)) a Kernel) (eq-eqb c.addr at same)
          ∙ (found_without cs a at h
          ∙ sym (ap (λ t. cond t (Some c) (own_block cs a Kernel)) (and_left (eqb c.addr a) (same_class c.class Kernel) (ne_eqb c.addr a (λ q. h (sym same ∙ q))))))
      | inr other ↦
          ap (λ t. own_block (cond (not t) (c ∷ without_block at cs) (without_block at cs)) a Kernel) (ne_eqb c.addr at other)
          ∙ ap (λ o. cond (eqb c.addr a && same_class c.class Kernel) (Some c) o) (found_without cs a at h)
    ]

gone_without : (bs : List Block) (at : ℕ) → own_block (without_block at bs) at Kernel ≡ None
gone_without [] at = refl
gone_without (c ∷ cs) at =
    elim (eqb c.addr at) as (λ t. eqb c.addr at ≡ t → own_block (cond (not t) (c ∷ without_block at cs) (without_block at cs)) at Kernel ≡ None) [
      | true ↦ λ q. gone_without cs at
      | false ↦ λ q. ap (λ t. cond t (Some c) (own_block (without_block at cs) at Kernel)) (and_left (eqb c.addr at) (same_class c.class Kernel) q) ∙ gone_without cs at
    ] refl

-- ---- freeing

free_other : (s : PartState) (a at : ℕ) → (at ≡ a → ⊥) → own_block (after_free s at Kernel).blocks a Kernel ≡ own_block s.blocks a Kernel
unfolding after_free
free_other s a at h =
    elim (own_block s.blocks at Kernel) as (λ o. own_block (freed s at (size_or o)).blocks a Kernel ≡ own_block s.blocks a Kernel) [
      | None ↦ refl
      | Some b ↦ found_without s.blocks a at h
    ]

free_own : (s : PartState) (at : ℕ) → is_kernel_block (after_free s at Kernel) at ≡ false
unfolding after_free
free_own s at =
    elim (own_block s.blocks at Kernel) as (λ o. own_block s.blocks at Kernel ≡ o → is_kernel_block (freed s at (size_or o)) at ≡ false) [
      | None ↦ λ q. ap is_some q
      | Some b ↦ λ q. ap is_some (gone_without s.blocks at)
    ] refl

-- a block at another address stays, and where there is none there still is none
segment_other : (s : PartState) (g : Segment) (a : ℕ) → occurs a (addr_of g) ≡ 0 → own_block (without_segment s g).blocks a Kernel ≡ own_block s.blocks a Kernel
segment_other s g a h =
    elim (eqb g.size 0) as (λ t. occurs a (cond t [] (g.addr ∷ [])) ≡ 0 → own_block (cond t s (after_free s g.addr Kernel)).blocks a Kernel ≡ own_block s.blocks a Kernel) [
      | true ↦ λ k. refl
      | false ↦ λ k. free_other s a g.addr (λ e.
          let one : occurs a (g.addr ∷ []) ≡ 1 = occurs_one g.addr a e in omega arith)
    ] h

pub others_stay : (gs : List Segment) (s : PartState) (a : ℕ) → occurs a (addrs_of gs) ≡ 0 → own_block (without_all s gs).blocks a Kernel ≡ own_block s.blocks a Kernel
others_stay [] s a h = refl
others_stay (g ∷ gs) s a h =
    let n = occurs-append a (addr_of g) (addrs_of gs) in
    others_stay gs (without_segment s g) a (omega arith) ∙ segment_other s g a (omega arith)

free_none : (s : PartState) (a at : ℕ) → is_kernel_block s a ≡ false → is_kernel_block (after_free s at Kernel) a ≡ false
free_none s a at h = elim (cases_eq at a) [
  | inl same ↦ subst (λ x. is_kernel_block (after_free s at Kernel) x ≡ false) same (free_own s at)
  | inr other ↦ ap is_some (free_other s a at other) ∙ h
]

none_stay : (gs : List Segment) (s : PartState) (a : ℕ) → is_kernel_block s a ≡ false → is_kernel_block (without_all s gs) a ≡ false
none_stay [] s a h = h
none_stay (g ∷ gs) s a h = none_stay gs (without_segment s g) a
    (elim (eqb g.size 0) as (λ t. is_kernel_block (cond t s (after_free s g.addr Kernel)) a ≡ false) [ true ↦ h | false ↦ free_none s a g.addr h ])

segment_gone : (s : PartState) (g : Segment) (a : ℕ) → 0 < occurs a (addr_of g) → is_kernel_block (without_segment s g) a ≡ false
segment_gone s g a h =
    elim (eqb g.size 0) as (λ t. 0 < occurs a (cond t [] (g.addr ∷ [])) → is_kernel_block (cond t s (after_free s g.addr Kernel)) a ≡ false) [
      | true ↦ λ k. absurd (omega arith)
      | false ↦ λ k. elim (cases_eq g.addr a) [
        | inl same ↦ subst (λ x. is_kernel_block (after_free s g.addr Kernel) x ≡ false) same (free_own s g.addr)
        | inr other ↦ let none : occurs a (g.addr ∷ []) ≡ 0 = occurs_none g.addr a other in absurd (omega arith)
      ]
    ] h

pub all_gone : (gs : List Segment) (s : PartState) (a : ℕ) → 0 < occurs a (addrs_of gs) → is_kernel_block (without_all s gs) a ≡ false
all_gone [] s a h = absurd (omega arith)
all_gone (g ∷ gs) s a h =
    let n = occurs-append a (addr_of g) (addrs_of gs) in
    elim (cases_eq (occurs a (addr_of g)) 0) [
      | inl none ↦ all_gone gs (without_segment s g) a (omega arith)
      | inr some ↦ none_stay gs (without_segment s g) a (segment_gone s g a (omega arith))
    ]

-- ---- blocks with their sizes

own_occurs : (g : Segment) → 0 < g.size → occurs g.addr (addr_of g) ≡ 1
own_occurs g some = ap (λ t. occurs g.addr (cond t [] (g.addr ∷ []))) (ne_eqb g.size 0 (λ e. omega arith)) ∙ occurs_one g.addr g.addr refl

-- the blocks of segments stay if what begins at their addresses does
segments_stay : (gs : List Segment) (p q : PartState) → ((a : ℕ) → 0 < occurs a (addrs_of gs) → own_block q.blocks a Kernel ≡ own_block p.blocks a Kernel)
    → All (HasItsBlock p) gs → All (HasItsBlock q) gs
segments_stay [] p q stays all = λ i d within. absurd (omega arith)
segments_stay (g ∷ gs) p q stays all =
    All-cons (HasItsBlock q) g gs
    (λ some. (let own = own_occurs g some in
    let n = occurs-append g.addr (addr_of g) (addrs_of gs) in
    stays g.addr (omega arith) ∙ All-head (HasItsBlock p) g gs all some))
    (segments_stay gs p q (λ a some. (let n = occurs-append a (addr_of g) (addrs_of gs) in stays a (omega arith))) (All-tail (HasItsBlock p) g gs all))

pub rows_stay : (rs : List (ℕ × LoadedModule)) (p q : PartState) → ((a : ℕ) → 0 < occurs a (held_by rs) → own_block q.blocks a Kernel ≡ own_block p.blocks a Kernel)
    → All (λ r. All (HasItsBlock p) r.1.segments) rs → All (λ r. All (HasItsBlock q) r.1.segments) rs
rows_stay [] p q stays all = λ i d within. absurd (omega arith)
rows_stay (r ∷ rs) p q stays all =
    All-cons (λ x. All (HasItsBlock q) x.1.segments) r rs
    (segments_stay r.1.segments p q (λ a some. (let n = occurs-append a (addrs_of r.1.segments) (held_by rs) in stays a (omega arith)))
    (All-head (λ x. All (HasItsBlock p) x.1.segments) r rs all))
    (rows_stay rs p q (λ a some. (let n = occurs-append a (addrs_of r.1.segments) (held_by rs) in stays a (omega arith)))
    (All-tail (λ x. All (HasItsBlock p) x.1.segments) r rs all))

all_without : (P : ℕ × LoadedModule → Type 0) (rs : List (ℕ × LoadedModule)) (id : ℕ) → All P rs → All P (without rs id)
all_without P [] id all = all
all_without P (r ∷ rs) id all =
    let rest = all_without P rs id (All-tail P r rs all) in
    elim (eqb r.0 id) as (λ t. All P (cond (not t) (r ∷ without rs id) (without rs id))) [
      | true ↦ rest
      | false ↦ All-cons P r (without rs id) (All-head P r rs all) rest
    ]

-- an address of a segment's block is that of a Kernel block
segment_held : (g : Segment) (s : PartState) (a : ℕ) → HasItsBlock s g → 0 < occurs a (addr_of g) → is_kernel_block s a ≡ true
segment_held g s a has h =
    elim (cases_eq g.size 0) [
      | inl none ↦ let z : occurs a (addr_of g) ≡ 0 = ap (λ t. occurs a (cond t [] (g.addr ∷ []))) (eq-eqb g.size 0 none) in absurd (omega arith)
      | inr some ↦ elim (cases_eq g.addr a) [
        | inl same ↦ subst (λ x. is_kernel_block s x ≡ true) same (ap is_some (has (omega arith)))
        | inr other ↦
            let z : occurs a (addr_of g) ≡ 0 = ap (λ t. occurs a (cond t [] (g.addr ∷ []))) (ne_eqb g.size 0 some) ∙ occurs_none g.addr a other in
            absurd (omega arith)
      ]
    ]

segments_held : (gs : List Segment) (s : PartState) (a : ℕ) → All (HasItsBlock s) gs → 0 < occurs a (addrs_of gs) → is_kernel_block s a ≡ true
segments_held [] s a all h = absurd (omega arith)
segments_held (g ∷ gs) s a all h =
    let n = occurs-append a (addr_of g) (addrs_of gs) in
    elim (cases_eq (occurs a (addr_of g)) 0) [
      | inl none ↦ segments_held gs s a (All-tail (HasItsBlock s) g gs all) (omega arith)
      | inr some ↦ segment_held g s a (All-head (HasItsBlock s) g gs all) (omega arith)
    ]

pub rows_held : (rs : List (ℕ × LoadedModule)) (s : PartState) (a : ℕ) → All (λ r. All (HasItsBlock s) r.1.segments) rs → 0 < occurs a (held_by rs) → is_kernel_block s a ≡ true
rows_held [] s a all h = absurd (omega arith)
rows_held (r ∷ rs) s a all h =
    let n = occurs-append a (addrs_of r.1.segments) (held_by rs) in
    elim (cases_eq (occurs a (addrs_of r.1.segments)) 0) [
      | inl none ↦ rows_held rs s a (All-tail (λ x. All (HasItsBlock s) x.1.segments) r rs all) (omega arith)
      | inr some ↦ segments_held r.1.segments s a (All-head (λ x. All (HasItsBlock s) x.1.segments) r rs all) (omega arith)
    ]

-- ---- an unload

pub fewer : (rs : List (ℕ × LoadedModule)) (id a : ℕ) → occurs a (held_by (without rs id)) ≤ occurs a (held_by rs)
fewer [] id a = omega arith
fewer (r ∷ rs) id a =
    let rest = fewer rs id a in
    let n = occurs-append a (addrs_of r.1.segments) (held_by rs) in
    elim (eqb r.0 id) as (λ t. occurs a (held_by (cond (not t) (r ∷ without rs id) (without rs id))) ≤ occurs a (held_by (r ∷ rs))) [
      | true ↦ omega arith
      | false ↦ let k = occurs-append a (addrs_of r.1.segments) (held_by (without rs id)) in omega arith
    ]

same_module : (x m : LoadedModule) (a : ℕ) → Some x ≡ Some m → occurs a (addrs_of x.segments) ≡ occurs a (addrs_of m.segments)
same_module x m a e = let q : x ≡ m = cc in ap (λ (y : LoadedModule). occurs a (addrs_of y.segments)) q

pub parted : (rs : List (ℕ × LoadedModule)) (id a : ℕ) (m : LoadedModule) → object_of rs id ≡ Some m
    → occurs a (addrs_of m.segments) + occurs a (held_by (without rs id)) ≤ occurs a (held_by rs)
parted [] id a m e = absurd (cc)
parted (r ∷ rs) id a m e =
    let less = fewer rs id a in
    let n = occurs-append a (addrs_of r.1.segments) (held_by rs) in
    elim (eqb r.0 id) as (λ t. option_map row_object (cond t (Some r) (of_id row_id rs id)) ≡ Some m
    → occurs a (addrs_of m.segments) + occurs a (held_by (cond (not t) (r ∷ without rs id) (without rs id))) ≤ occurs a (held_by (r ∷ rs))) [
      | true ↦ λ q. let same = same_module r.1 m a q in omega arith
      | false ↦ λ q.
          let rest = parted rs id a m q in
          let k = occurs-append a (addrs_of r.1.segments) (held_by (without rs id)) in
          omega arith
    ] e

pub unload_holds : (rows : List (ℕ × LoadedModule)) (s : PartState) (id : ℕ) (m : LoadedModule) → AreHeld rows s → object_of rows id ≡ Some m → AreHeld (without rows id) (without_all s m.segments)
unload_holds rows s id m k e = record {
  blocks = rows_stay (without rows id) s (without_all s m.segments)
      (λ a some. (let p = parted rows id a m e in let d = k.distinct a in others_stay m.segments s a (omega arith)))
      (all_without (λ r. All (HasItsBlock s) r.1.segments) rows id k.blocks);
  distinct = λ a. (let p = fewer rows id a in let d = k.distinct a in omega arith);
}

-- ---- a load

-- counted addresses are Kernel blocks, and none is counted twice
pub record Holds (s : PartState) (count : ℕ → ℕ) : Type 0 where
  pub blocks : (a : ℕ) → 0 < count a → is_kernel_block s a ≡ true
  pub distinct : (a : ℕ) → count a ≤ 1

own_passes : (b : Block) → b.class ≡ Kernel → (eqb b.addr b.addr && same_class b.class Kernel) ≡ true
own_passes b e = and_from (eqb b.addr b.addr) (same_class b.class Kernel) (eq-eqb b.addr b.addr refl) (ap (λ c. same_class c Kernel) e)

new_block : (s : PartState) (b : Block) → IsPart s → b.class ≡ Kernel → 0 < b.size → meets_none s.blocks b.size b.addr ≡ true → is_kernel_block (with_blocks s (with_block b s.blocks)) b.addr ≡ true
new_block s b k e some free =
    ap is_some (find_with (λ c. eqb c.addr b.addr && same_class c.class Kernel) b s.start s.end s.blocks k.laid some free (own_passes b e)
    (λ c q. and_left (eqb c.addr b.addr) (same_class c.class Kernel) (ne_eqb c.addr b.addr q)))

count_of : (n : Need) (at a : ℕ) → ℕ
count_of n at a = occurs a (addr_of (segment_at n at))

no_count : (n : Need) (at a : ℕ) → n.size ≡ 0 → occurs a (addr_of (segment_at n at)) ≡ 0
no_count n at a e = ap (λ t. occurs a (cond t [] (at ∷ []))) (eq-eqb n.size 0 e)

count_small : (n : Need) (at a : ℕ) → occurs a (addr_of (segment_at n at)) ≤ 1
count_small n at a = elim (eqb n.size 0) as (λ t. occurs a (cond t [] (at ∷ [])) ≤ 1) [
  | true ↦ omega arith
  | false ↦ elim (eqb at a) as (λ t. cond t 1 0 + 0 ≤ 1) [ true ↦ omega arith | false ↦ omega arith ]
]

other_count : (n : Need) (at a : ℕ) → (at ≡ a → ⊥) → occurs a (addr_of (segment_at n at)) ≡ 0
other_count n at a h = elim (eqb n.size 0) as (λ t. occurs a (cond t [] (at ∷ [])) ≡ 0) [
  | true ↦ refl
  | false ↦ ap (λ t. cond t 1 0 + 0) (ne_eqb at a h)
]

step : (side : Side) (s : PartState) (n : Need) (at : ℕ) (count : ℕ → ℕ) → IsPart s → Stands side s n at → Holds s count → Holds (with_seg side s n) (λ a. count a + occurs a (addr_of (segment_at n at)))
step side s n at count k (inl h) held = record {
  blocks = λ a p. (let z = no_count n at a h.0 in subst (λ (t : PartState). is_kernel_block t a ≡ true) (sym h.1) (held.blocks a (omega arith)));
  distinct = λ a. (let z = no_count n at a h.0 in let d = held.distinct a in omega arith);
}
step side s n at count k (inr (b, h)) held = record {
  blocks = λ a p. elim (cases_eq at a) [
    | inl same ↦ subst (λ (t : PartState). is_kernel_block t a ≡ true) (sym h.after)
        (subst (λ x. is_kernel_block (with_blocks s (with_block b s.blocks)) x ≡ true) (h.addr ∙ same) (new_block s b k h.class h.some h.lies.apart))
    | inr other ↦
        (let z = other_count n at a other in
        subst (λ (t : PartState). is_kernel_block t a ≡ true) (sym h.after)
        (found_with (λ c. eqb c.addr a && same_class c.class Kernel) b s.blocks (held.blocks a (omega arith))))
  ];
  distinct = λ a. elim (cases_eq at a) [
    | inl same ↦
        (let one = count_small n at a in
        elim (cases_eq (count a) 0) [
          | inl none ↦ omega arith
          | inr some ↦ absurd (found_apart s.blocks s.start s.end a b.size b.addr k.laid (held.blocks a (omega arith)) h.some h.lies.apart (sym same ∙ sym h.addr))
        ])
    | inr other ↦ (let z = other_count n at a other in let d = held.distinct a in omega arith)
  ];
}

three : (z : Needs) (at : Places) (a : ℕ) → occurs a (addrs_of (segments_at z at))
    ≡ occurs a (addr_of (segment_at z.text at.text)) + occurs a (addr_of (segment_at z.«data» at.«data»)) + occurs a (addr_of (segment_at z.bss at.bss))
three z at a =
    let one = occurs-append a (addr_of (segment_at z.text at.text)) (addr_of (segment_at z.«data» at.«data») ++ (addr_of (segment_at z.bss at.bss) ++ [])) in
    let two = occurs-append a (addr_of (segment_at z.«data» at.«data»)) (addr_of (segment_at z.bss at.bss) ++ []) in
    let last = occurs-append a (addr_of (segment_at z.bss at.bss)) [] in
    omega arith

same_counts : (s : PartState) (f g : ℕ → ℕ) → ((a : ℕ) → f a ≡ g a) → Holds s f → Holds s g
same_counts s f g e k = record {
  blocks = λ a h. (let q = e a in k.blocks a (omega arith));
  distinct = λ a. (let q = e a in let d = k.distinct a in omega arith);
}

pub needs_hold : (side : Side) (s : PartState) (z : Needs) (at : Places) (count : ℕ → ℕ) → IsPart s → AllStand side s z at → Holds s count
    → Holds (with_needs side s z) (λ a. count a + occurs a (addrs_of (segments_at z at)))
needs_hold side s z at count k st held =
    let kt = seg_kept side s z.text k in
    let kv = seg_kept side (with_text side s z) z.«data» kt in
    let one = step side s z.text at.text count k st.text held in
    let two = step side (with_text side s z) z.«data» at.«data» (λ a. count a + occurs a (addr_of (segment_at z.text at.text))) kt st.«data» one in
    let last = step side (with_data side s z) z.bss at.bss (λ a. count a + occurs a (addr_of (segment_at z.text at.text)) + occurs a (addr_of (segment_at z.«data» at.«data»))) kv st.bss two in
    same_counts (with_needs side s z) (λ a. count a + occurs a (addr_of (segment_at z.text at.text)) + occurs a (addr_of (segment_at z.«data» at.«data»)) + occurs a (addr_of (segment_at z.bss at.bss)))
    (λ a. count a + occurs a (addrs_of (segments_at z at))) (λ a. (let q = three z at a in omega arith)) last

-- what begins at the address of a Kernel block stays when a segment's block is given
seg_keeps : (side : Side) (s : PartState) (n : Need) (at a : ℕ) → IsPart s → Stands side s n at → is_kernel_block s a ≡ true → own_block (with_seg side s n).blocks a Kernel ≡ own_block s.blocks a Kernel
seg_keeps side s n at a k (inl h) there = ap (λ (t : PartState). own_block t.blocks a Kernel) h.1
seg_keeps side s n at a k (inr (b, h)) there =
    ap (λ (t : PartState). own_block t.blocks a Kernel) h.after
    ∙ find-with_block (λ c. eqb c.addr a && same_class c.class Kernel) b s.blocks
    (and_left (eqb b.addr a) (same_class b.class Kernel)
    (ne_eqb b.addr a (λ same. found_apart s.blocks s.start s.end a b.size b.addr k.laid there h.some h.lies.apart (sym same))))

block_is : (b : Block) (at n : ℕ) → b.addr ≡ at → b.size ≡ n → b.class ≡ Kernel → b ≡ record { addr = at; size = n; class = Kernel }
block_is b at n one two three =
    ap (λ a. record b { addr = a }) one ∙ (ap (λ m. record b { addr = at; size = m }) two ∙ ap (λ c. record b { addr = at; size = n; class = c }) three)

-- a segment with bytes gets its block
seg_own : (side : Side) (s : PartState) (n : Need) (at : ℕ) → IsPart s → Stands side s n at → HasItsBlock (with_seg side s n) (segment_at n at)
seg_own side s n at k (inl h) some = absurd (omega (arith, h.0, some))
seg_own side s n at k (inr (b, h)) some =
    ap (λ (t : PartState). own_block t.blocks at Kernel) h.after
    ∙ (ap (λ x. own_block (with_block b s.blocks) x Kernel) (sym h.addr)
    ∙ (find_with (λ c. eqb c.addr b.addr && same_class c.class Kernel) b s.start s.end s.blocks k.laid h.some h.lies.apart (own_passes b h.class)
    (λ c q. and_left (eqb c.addr b.addr) (same_class c.class Kernel) (ne_eqb c.addr b.addr q))
    ∙ ap Some (block_is b at (block_size n.size) h.addr h.full h.class)))

-- and a segment keeps its block when another's is allocated
own_keeps : (side : Side) (s : PartState) (g : Segment) (n : Need) (at : ℕ) → IsPart s → Stands side s n at → HasItsBlock s g → HasItsBlock (with_seg side s n) g
own_keeps side s g n at k st has some = seg_keeps side s n at g.addr k st (ap is_some (has some)) ∙ has some

needs_own : (side : Side) (s : PartState) (z : Needs) (at : Places) → IsPart s → AllStand side s z at → All (HasItsBlock (with_needs side s z)) (segments_at z at)
needs_own side s z at k st =
    let kt = seg_kept side s z.text k in
    let kv = seg_kept side (with_text side s z) z.«data» kt in
    let text = segment_at z.text at.text in
    let «data» = segment_at z.«data» at.«data» in
    let bss = segment_at z.bss at.bss in
    let text_then = own_keeps side (with_text side s z) text z.«data» at.«data» kt st.«data» (seg_own side s z.text at.text k st.text) in
    let text_last = own_keeps side (with_data side s z) text z.bss at.bss kv st.bss text_then in
    let data_last = own_keeps side (with_data side s z) «data» z.bss at.bss kv st.bss (seg_own side (with_text side s z) z.«data» at.«data» kt st.«data») in
    let bss_last = seg_own side (with_data side s z) z.bss at.bss kv st.bss in
    let P = HasItsBlock (with_needs side s z) in
    All-cons P text («data» ∷ bss ∷ []) text_last (All-cons P «data» (bss ∷ []) data_last (All-cons P bss [] bss_last (λ i d within. absurd (omega arith))))

-- what begins at the address of a Kernel block stays in a load
needs_keep : (side : Side) (s : PartState) (z : Needs) (at : Places) (a : ℕ) → IsPart s → AllStand side s z at → is_kernel_block s a ≡ true
    → own_block (with_needs side s z).blocks a Kernel ≡ own_block s.blocks a Kernel
needs_keep side s z at a k st there =
    let kt = seg_kept side s z.text k in
    let kv = seg_kept side (with_text side s z) z.«data» kt in
    let one = seg_keeps side s z.text at.text a k st.text there in
    let two = seg_keeps side (with_text side s z) z.«data» at.«data» a kt st.«data» (ap is_some one ∙ there) in
    let last = seg_keeps side (with_data side s z) z.bss at.bss a kv st.bss (ap is_some two ∙ (ap is_some one ∙ there)) in
    last ∙ (two ∙ one)

pub load_holds : (s : LoaderState) (name : List ℕ) (m : Module) (mode : ℕ) (at : Places) → IsPart s.part → AreHeld s.modules.rows s.part → verdict s m mode ≡ Ok at
    → AreHeld (loaded s name m mode at).modules.rows (loaded s name m mode at).part
unfolding loaded
load_holds s name m mode at k held h =
    let st = all_stand (side_of s) s.part (needs_of m) at k ((is_accepted s m mode at h).places) in
    let all = needs_hold (side_of s) s.part (needs_of m) at (λ a. occurs a (held_by s.modules.rows)) k st
    (record { blocks = λ a some. rows_held s.modules.rows s.part a held.blocks some; distinct = held.distinct }) in
    let row : ℕ × LoadedModule = (s.kern.next_id, record_of name (needs_of m) at) in
    let after = with_needs (side_of s) s.part (needs_of m) in
    record {
      blocks = All-push (λ r. All (HasItsBlock after) r.1.segments) s.modules.rows row
          (rows_stay s.modules.rows s.part after (λ a some. needs_keep (side_of s) s.part (needs_of m) at a k st (rows_held s.modules.rows s.part a held.blocks some)) held.blocks)
          (needs_own (side_of s) s.part (needs_of m) at k st);
      distinct = λ a.
          (let n = held_by-append a s.modules.rows (row ∷ []) in
          let e = occurs-append a (addrs_of (segments_at (needs_of m) at)) [] in
          let d = all.distinct a in omega arith);
    }

-- the addresses of the modules' blocks after a load
pub held_by-loaded : (s : LoaderState) (name : List ℕ) (m : Module) (mode : ℕ) (at : Places) (a : ℕ)
    → occurs a (held_by (loaded s name m mode at).modules.rows) ≡ occurs a (held_by s.modules.rows) + occurs a (addrs_of (segments_at (needs_of m) at))
unfolding loaded
held_by-loaded s name m mode at a =
    let row : ℕ × LoadedModule = (s.kern.next_id, record_of name (needs_of m) at) in
    let n = held_by-append a s.modules.rows (row ∷ []) in
    let e = occurs-append a (addrs_of (segments_at (needs_of m) at)) [] in
    omega arith

-- none of the module's blocks begins where there was a Kernel block before
pub none_before : (s : LoaderState) (m : Module) (mode : ℕ) (at : Places) (a : ℕ) → IsPart s.part → verdict s m mode ≡ Ok at → is_kernel_block s.part a ≡ true
    → occurs a (addrs_of (segments_at (needs_of m) at)) ≡ 0
none_before s m mode at a k h there =
    let st = all_stand (side_of s) s.part (needs_of m) at k ((is_accepted s m mode at h).places) in
    let all = needs_hold (side_of s) s.part (needs_of m) at (λ b. occurs b (a ∷ [])) k st (record { blocks = one; distinct = once }) in
    let d = all.distinct a in
    let e = occurs_one a a refl in
    omega arith
  where
    one : (b : ℕ) → 0 < occurs b (a ∷ []) → is_kernel_block s.part b ≡ true
    one b some = elim (cases_eq a b) [
      | inl same ↦ subst (λ x. is_kernel_block s.part x ≡ true) same there
      | inr other ↦ (let none = occurs_none a b other in absurd (omega arith))
    ]

    once : (b : ℕ) → occurs b (a ∷ []) ≤ 1
    once b = elim (eqb a b) as (λ t. cond t 1 0 + 0 ≤ 1) [ true ↦ omega arith | false ↦ omega arith ]

below_more : (rows : List (ℕ × LoadedModule)) (id : ℕ) (m : LoadedModule) → IdsBelow id rows → IdsBelow (id + 1) (rows ++ (id, m) ∷ [])
below_more [] id m all = All-cons (λ r. r.0 < id + 1) (id, m) [] (omega arith) (λ k d h. absurd (omega arith))
below_more (r ∷ rs) id m all =
    let one = All-head (λ r. r.0 < id) r rs all in
    All-cons (λ r. r.0 < id + 1) r (rs ++ (id, m) ∷ []) (omega arith) (below_more rs id m (All-tail (λ r. r.0 < id) r rs all))

pub load_keeps : (s : LoaderState) (name : List ℕ) (m : Module) (mode : ℕ) (at : Places) → IsPart s.part → IsModule m → KeepsModules s → verdict s m mode ≡ Ok at
    → KeepsModules (loaded s name m mode at)
unfolding loaded
load_keeps s name m mode at k km keeps h = record {
  ids = keeps.ids;
  below = below_more s.modules.rows s.kern.next_id (record_of name (needs_of m) at) keeps.below;
  pool = (kept s name m mode at (record { part = k; pool = keeps.pool }) km h).pool;
  held = load_holds s name m mode at k keeps.held h;
}

none_held : (s : PartState) → AreHeld [] s
none_held s = record { blocks = λ i d within. absurd (omega arith); distinct = λ a. omega arith }

-- an unload leaves the pool, and the ids below the next
end_freed : (s : PartState) (at : ℕ) → (after_free s at Kernel).end ≡ s.end
unfolding after_free
end_freed s at = elim (own_block s.blocks at Kernel) as (λ o. (freed s at (size_or o)).end ≡ s.end) [ None ↦ refl | Some b ↦ refl ]

pub end_without : (gs : List Segment) (s : PartState) → (without_all s gs).end ≡ s.end
end_without [] s = refl
end_without (g ∷ gs) s =
    end_without gs (without_segment s g)
    ∙ elim (eqb g.size 0) as (λ t. (cond t s (after_free s g.addr Kernel)).end ≡ s.end) [ true ↦ refl | false ↦ end_freed s g.addr ]

pub below_without : (rows : List (ℕ × LoadedModule)) (next id : ℕ) → IdsBelow next rows → IdsBelow next (without rows id)
below_without [] next id all = all
below_without (r ∷ rs) next id all =
    let rest = below_without rs next id (All-tail (λ r. r.0 < next) r rs all) in
    elim (eqb r.0 id) as (λ t. IdsBelow next (cond (not t) (r ∷ without rs id) (without rs id))) [
      | true ↦ rest
      | false ↦ All-cons (λ r. r.0 < next) r (without rs id) (All-head (λ r. r.0 < next) r rs all) rest
    ]

unload_keeps : (s : LoaderState) (id : ℕ) (m : LoadedModule) → KeepsModules s → object_of s.modules.rows id ≡ Some m → KeepsModules (unloaded s id m)
unload_keeps s id m keeps e = record {
  ids = keeps.ids;
  below = below_without s.modules.rows s.kern.next_id id keeps.below;
  pool = (let end = end_without m.segments s.part in let pool = keeps.pool in omega arith);
  held = unload_holds s.modules.rows s.part id m keeps.held e;
}

pub hold_law : HoldLaw
hold_law = record {
  none = none_held;
  load = load_keeps;
  unload = unload_keeps;
  gone = λ s m a h. all_gone m.segments s a h;
  stays = λ s m a h. others_stay m.segments s a h;
}

-- ---- the same for what the calls answer
of_module_verdict : (s t : LoaderState) (name : List ℕ) (m : Module) (mode : ℕ) (v : Result Places LoadErr) → IsPart s.part → IsModule m → KeepsModules s → verdict s m mode ≡ v
    → IsLoaded v s name m mode t → KeepsModules t
of_module_verdict s t name m mode (Ok at) k known keeps e h = subst (λ (x : LoaderState). KeepsModules x) (sym h) (load_keeps s name m mode at k known keeps e)
of_module_verdict s t name m mode (Err e) k known keeps q h = absurd h

pub kept_after_module : (r : Result Loaded LoadErr) (s t : LoaderState) (name : List ℕ) (m : Module) (mode : ℕ) → IsModule m → KeepsModules s
    → OnOk r (IsPart s.part) → OnOk r (IsLoaded (verdict s m mode) s name m mode t) → OnErr r (t ≡ s) → KeepsModules t
kept_after_module (Ok l) s t name m mode known keeps part ok err = of_module_verdict s t name m mode (verdict s m mode) part known keeps refl ok
kept_after_module (Err e) s t name m mode known keeps part ok err = subst (λ (x : LoaderState). KeepsModules x) (sym err) keeps

pub of_module : (rows : List (ℕ × LoadedModule)) (s : PartState) (id : ℕ) (o : Option LoadedModule) → AreHeld rows s → object_of rows id ≡ o → IsSome o
    → AreHeld (without rows id) (without_segments s o)
of_module rows s id (Some m) held e h = unload_holds rows s id m held e
of_module rows s id None held e h = absurd (cc)
