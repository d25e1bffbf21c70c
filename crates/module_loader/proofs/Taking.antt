-- The blocks of segments: freed again, they leave the partition as it was.
use Rattle.std.proofs.Common.{◌≡◌, ℕ, min, true, false, cond, eqb, Result, Ok, Err, refl, sym, ap, ◌∙◌, subst}
use Rattle.wind_base.specs.declared.board_kind.Side.{Side}
use Rattle.mem_partition.specs.declared.block.Class.TheVariants.{Kernel}
use Rattle.mem_partition.specs.declared.block.PartErr.{PartErr}
use Rattle.mem_partition.specs.State.{PartState, IsPart, alloc_on, after_alloc_on, taken_at, after_free}
use Rattle.mem_partition.proofs.Allocs.{alloc_on_back, alloc_on_kept}
use Rattle.module_image.specs.declared.segments.Need.{Need}
use Rattle.module_image.specs.declared.segments.Needs.{Needs}
use Rattle.module_image.specs.declared.segments.Places.{Places}
use Rattle.wind_base.specs.Limits.{greatest_word}
use Rattle.module_loader.specs.Placing.{place_seg, with_seg, without_seg, with_text, with_data, with_needs, without_needs, places_by, places_of}

pub seg_back : (side : Side) (s : PartState) (n : Need) (at : ℕ) → IsPart s → place_seg side s n ≡ Ok at → without_seg (with_seg side s n) n at ≡ s
seg_back side s n at k e =
    elim (eqb n.size 0) as (λ t. cond t (Ok 0) (alloc_on side s (min n.size greatest_word) n.align) ≡ Ok at
    → cond t (cond t s (after_alloc_on side s (min n.size greatest_word) n.align Kernel)) (after_free (cond t s (after_alloc_on side s (min n.size greatest_word) n.align Kernel)) at Kernel) ≡ s) [
      | true ↦ λ h. refl
      | false ↦ λ h. alloc_on_back side s (min n.size greatest_word) n.align at Kernel k h
    ] e

alloc_refused : (side : Side) (s : PartState) (n align : ℕ) (e : PartErr) → alloc_on side s n align ≡ Err e → after_alloc_on side s n align Kernel ≡ s
unfolding after_alloc_on
alloc_refused side s n align e h = ap (taken_at s n Kernel) h

pub seg_refused : (side : Side) (s : PartState) (n : Need) (e : PartErr) → place_seg side s n ≡ Err e → with_seg side s n ≡ s
seg_refused side s n e h =
    elim (eqb n.size 0) as (λ t. cond t (Ok 0) (alloc_on side s (min n.size greatest_word) n.align) ≡ Err e → cond t s (after_alloc_on side s (min n.size greatest_word) n.align Kernel) ≡ s) [
      | true ↦ λ q. refl
      | false ↦ λ q. alloc_refused side s (min n.size greatest_word) n.align e q
    ] h

pub seg_kept : (side : Side) (s : PartState) (n : Need) → IsPart s → IsPart (with_seg side s n)
seg_kept side s n k =
    elim (eqb n.size 0) as (λ t. IsPart (cond t s (after_alloc_on side s (min n.size greatest_word) n.align Kernel))) [
      | true ↦ k
      | false ↦ alloc_on_kept side s (min n.size greatest_word) n.align Kernel k
    ]

-- what the three places were
pub record ArePlaces (side : Side) (s : PartState) (z : Needs) (at : Places) : Type 0 where
  pub text : place_seg side s z.text ≡ Ok at.text
  pub «data» : place_seg side (with_text side s z) z.«data» ≡ Ok at.«data»
  pub bss : place_seg side (with_data side s z) z.bss ≡ Ok at.bss

parts_of : (t v b : Result ℕ PartErr) (at : Places) → places_by t v b ≡ Ok at → (t ≡ Ok at.text) × (v ≡ Ok at.«data») × (b ≡ Ok at.bss)
parts_of (Err e) v b at h = absurd (cc)
parts_of (Ok t) (Err e) b at h = absurd (cc)
parts_of (Ok t) (Ok v) (Err e) at h = absurd (cc)
parts_of (Ok t) (Ok v) (Ok b) at h =
    let same : ◌≡◌ {A = Places} (record { text = t; «data» = v; bss = b }) at = cc in
    (ap (λ p. Ok p.text) same, ap (λ p. Ok p.«data») same, ap (λ p. Ok p.bss) same)

pub are_places : (side : Side) (s : PartState) (z : Needs) (at : Places) → places_of side s z ≡ Ok at → ArePlaces side s z at
unfolding places_of
are_places side s z at h =
    let p = parts_of (place_seg side s z.text) (place_seg side (with_text side s z) z.«data») (place_seg side (with_data side s z) z.bss) at h in
    record { text = p.0; «data» = p.1; bss = p.2 }

pub needs_back : (side : Side) (s : PartState) (z : Needs) (at : Places) → IsPart s → places_of side s z ≡ Ok at → without_needs (with_needs side s z) z at ≡ s
needs_back side s z at k h =
    let p = are_places side s z at h in
    let kt = seg_kept side s z.text k in
    let kv = seg_kept side (with_text side s z) z.«data» kt in
    ap (λ t. without_seg (without_seg t z.«data» at.«data») z.text at.text) (seg_back side (with_data side s z) z.bss at.bss kv p.bss)
    ∙ (ap (λ t. without_seg t z.text at.text) (seg_back side (with_text side s z) z.«data» at.«data» kt p.«data»)
    ∙ seg_back side s z.text at.text k p.text)

-- two blocks are freed if the third was refused
pub two_back : (side : Side) (s : PartState) (z : Needs) (a b : ℕ) (e : PartErr) (p q r t u : PartState) → IsPart s
    → p ≡ with_seg side s z.text → place_seg side s z.text ≡ Ok a → q ≡ with_seg side p z.«data» → place_seg side p z.«data» ≡ Ok b → r ≡ with_seg side q z.bss → place_seg side q z.bss ≡ Err e
    → t ≡ without_seg r z.«data» b → u ≡ without_seg t z.text a → u ≡ s
two_back side s z a b e p q r t u k p_is a_is q_is b_is r_is e_is t_is u_is =
    let kp : IsPart p = subst IsPart (sym p_is) (seg_kept side s z.text k) in
    let r_same : r ≡ with_seg side p z.«data» = r_is ∙ (seg_refused side q z.bss e e_is ∙ q_is) in
    let t_same : t ≡ p = t_is ∙ (ap (λ x. without_seg x z.«data» b) r_same ∙ seg_back side p z.«data» b kp b_is) in
    u_is ∙ (ap (λ x. without_seg x z.text a) (t_same ∙ p_is) ∙ seg_back side s z.text a k a_is)
