-- A range in one page, in the store and among the bytes.
use Rattle.std.proofs.Common.{◌≡◌, ℕ, ◌+◌, ◌-◌, ◌*◌, ◌%◌, ◌<◌, ◌≤◌, List, length, get_or, take, drop, ◌⊎◌, sym, ap, ◌∙◌, arith, inl, inr}
use Rattle.std.proofs.lemmas.Bool.{cases_eq, cases_lt}
use Rattle.std.proofs.lemmas.List.{ext_get_or, get_or-take, get_or-drop, length-take-le, length-drop}
use Rattle.board_mem.specs.Memory.{bytes_at, with_bytes}
use Rattle.board_mem.specs.Pages.{PagesState, page_of, page_bytes}
use Rattle.board_mem.specs.Store.{offset_of, bytes_of, made_of, IsStore}
use Rattle.board_mem.proofs.Sizes.{length-with_bytes}
use Rattle.board_mem.proofs.Splices.{get_or-with_inside, get_or-with_below, get_or-with_after}
use Rattle.board_mem.proofs.Stores.{get_or-bytes_of, length-bytes_of, bytes_of-is}

-- the n bytes from an address on exist, and are in one page
pub record IsWindow (size : ℕ) (index store : List ℕ) (capacity at n : ℕ) : Type 0 where
  pub kept : IsStore size index store capacity
  pub some : 0 < n
  pub page : at % page_bytes + n ≤ page_bytes
  pub there : at + n ≤ size

-- the pages of a store
abbrev pub pages_of : ℕ → List ℕ → List ℕ → PagesState
pages_of size index store = record { bytes = bytes_of size index store; made = made_of index }

-- a range of the pages' bytes that is in one page
pub window_in : {size : ℕ} {index store : List ℕ} {capacity at n : ℕ} (s : PagesState) → IsStore size index store capacity → pages_of size index store ≡ s → 0 < n
    → at % page_bytes + n ≤ page_bytes → at + n ≤ length s.bytes → IsWindow size index store capacity at n
window_in {size} {index} {store} s kept is some page there = record {
  kept = kept;
  some = some;
  page = page;
  there = omega (arith, there, ap (λ (p : PagesState). length p.bytes) is, length-bytes_of size index store);
}

-- their page is in the index
pub window_page : {size : ℕ} {index store : List ℕ} {capacity at n : ℕ} → IsWindow size index store capacity at n → page_of at < length index
window_page w = omega (arith, w.kept.cover, w.some, w.there)

-- they are consecutive in the store
pub window_end : {size : ℕ} {index store : List ℕ} {capacity at n : ℕ} → IsWindow size index store capacity at n → offset_of index at + n ≤ length store
window_end {at = at} w = omega (arith, w.kept.stored.within (page_of at) (window_page w), w.page)

-- the place of one of them
window_place : {size : ℕ} {index store : List ℕ} {capacity at n : ℕ} → IsWindow size index store capacity at n → (i : ℕ) → i < n → offset_of index (at + i) ≡ offset_of index at + i
window_place {index = index} {at = at} w i h =
    let same : page_of (at + i) ≡ page_of at = omega (arith, w.page) in
    let rest : (at + i) % page_bytes ≡ at % page_bytes + i = omega (arith, w.page) in
    ap (λ k. page_bytes * get_or index k 0 + (at + i) % page_bytes) same ∙ omega (arith, rest)

-- the bytes of a window are those of the store
pub bytes_at-window : {size : ℕ} {index store : List ℕ} {capacity at n : ℕ} → IsWindow size index store capacity at n → take n (drop (offset_of index at) store) ≡ bytes_at (bytes_of size index store) at n
bytes_at-window {size} {index} {store} {capacity} {at} {n} w =
    let start = offset_of index at in
    let bytes = bytes_of size index store in
    let stop = window_end w in
    let ours : length (take n (drop start store)) ≡ n = length-take-le n (drop start store) (omega (arith, length-drop start store)) in
    let theirs : length (bytes_at bytes at n) ≡ n = length-take-le n (drop at bytes) (omega (arith, length-drop at bytes, length-bytes_of size index store, w.there)) in
    ext_get_or 0 (take n (drop start store)) (bytes_at bytes at n) (ours ∙ sym theirs) (λ i h.
    let within : i < n = omega (arith, ours) in
    get_or-take n (drop start store) i 0 within ∙ get_or-drop start store i 0
    ∙ sym (get_or-take n (drop at bytes) i 0 within ∙ get_or-drop at bytes i 0 ∙ get_or-bytes_of size index store (at + i) (omega (arith, w.there))
    ∙ ap (λ k. get_or store k 0) (window_place w i within)))

-- an address outside the window isn't in its part of the store
place_outside : {size : ℕ} {index store : List ℕ} {capacity at n : ℕ} → IsWindow size index store capacity at n → 0 < get_or index (page_of at) 0 → (k : ℕ) → k < size → (k < at) ⊎ (at + n ≤ k) → (offset_of index k < offset_of index at) ⊎ (offset_of index at + n ≤ offset_of index k)
place_outside {index = index} {at = at} {n = n} w made k h out =
    let here = window_page w in
    let there : page_of k < length index = omega (arith, w.kept.cover) in
    elim (cases_eq (page_of k) (page_of at)) [
      | inl e ↦
          let same : get_or index (page_of k) 0 ≡ get_or index (page_of at) 0 = ap (λ p. get_or index p 0) e in
          elim out [ inl below ↦ inl (omega (arith, same)) | inr after ↦ inr (omega (arith, same, w.page)) ]
      | inr other ↦ elim (cases_lt (get_or index (page_of k) 0) (get_or index (page_of at) 0)) [
        | inl less ↦ inl (omega arith)
        | inr more ↦ elim (cases_eq (get_or index (page_of at) 0) (get_or index (page_of k) 0)) [
          | inl e ↦ absurd (other (sym (w.kept.stored.apart (page_of at) (page_of k) here there made e)))
          | inr apart ↦ inr (omega (arith, w.page))
        ]
      ]
    ]

-- a write to the store keeps the bytes outside the window
put_outside : {size : ℕ} {index store : List ℕ} {capacity at n : ℕ} → IsWindow size index store capacity at n → 0 < get_or index (page_of at) 0 → (src : List ℕ) → length src ≡ n → (k : ℕ) → k < size → (k < at) ⊎ (at + n ≤ k) → get_or (with_bytes store (offset_of index at) src) (offset_of index k) 0 ≡ get_or (bytes_of size index store) k 0
put_outside {size} {index} {store} {at = at} w made src n k h out =
    let le : offset_of index at ≤ length store = omega (arith, window_end w) in
    let same = sym (get_or-bytes_of size index store k h) in
    elim (place_outside w made k h out) [
      | inl below ↦ get_or-with_below store (offset_of index at) src (offset_of index k) below le ∙ same
      | inr after ↦ get_or-with_after store (offset_of index at) src (offset_of index k) (omega (arith, n)) le ∙ same
    ]

-- bytes written to a window's part of the store are written to the bytes
pub bytes_of-put : {size : ℕ} {index store : List ℕ} {capacity at n : ℕ} → IsWindow size index store capacity at n → 0 < get_or index (page_of at) 0 → (src : List ℕ) → length src ≡ n → bytes_of size index (with_bytes store (offset_of index at) src) ≡ with_bytes (bytes_of size index store) at src
bytes_of-put {size} {index} {store} {capacity} {at} {n} w made src len =
    let bytes = bytes_of size index store in
    let start = offset_of index at in
    let size_is = length-bytes_of size index store in
    let le : at ≤ length bytes = omega (arith, size_is, w.there) in
    bytes_of-is size index (with_bytes store start src) (with_bytes bytes at src) (length-with_bytes bytes at src (omega (arith, size_is, w.there, len)) ∙ size_is) (λ k h.
    elim (cases_lt k at) [
      | inl below ↦ put_outside w made src len k h (inl below) ∙ sym (get_or-with_below bytes at src k below le)
      | inr from ↦ elim (cases_lt k (at + n)) [
        | inl within ↦
            let i : k - at < n = omega arith in
            let place : offset_of index k ≡ start + (k - at) = ap (offset_of index) (omega arith) ∙ window_place w (k - at) i in
            ap (λ p. get_or (with_bytes store start src) p 0) place
            ∙ get_or-with_inside store start src (start + (k - at)) (omega arith) (omega (arith, len)) (omega (arith, window_end w))
            ∙ ap (λ p. get_or src p 0) (omega arith)
            ∙ sym (get_or-with_inside bytes at src k from (omega (arith, len)) le)
        | inr after ↦ put_outside w made src len k h (inr after) ∙ sym (get_or-with_after bytes at src k (omega (arith, len)) le)
      ]
    ])

-- and the store's invariant still holds
pub IsStore-put : {size : ℕ} {index store : List ℕ} {capacity at n : ℕ} → IsWindow size index store capacity at n → 0 < get_or index (page_of at) 0 → (src : List ℕ) → length src ≡ n → IsStore size index (with_bytes store (offset_of index at) src) capacity
IsStore-put {size} {index} {store} {capacity} {at} {n} w made src len =
    let kept = w.kept.stored in
    let size_is : length (with_bytes store (offset_of index at) src) ≡ length store = length-with_bytes store (offset_of index at) src (omega (arith, len, window_end w)) in
    record {
      stored = record {
        within = λ page h. omega (arith, size_is, kept.within page h);
        zeros = λ i h. get_or-with_below store (offset_of index at) src i (omega arith) (omega (arith, window_end w)) ∙ kept.zeros i h;
        apart = kept.apart;
        exact = size_is ∙ kept.exact;
        room = kept.room;
        short = kept.short;
      };
      cover = w.kept.cover;
      addressed = w.kept.addressed;
    }
