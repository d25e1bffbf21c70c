-- The bytes and pages of an index and its store, byte by byte, and what creating a page does to them.
use Rattle.std.proofs.Common.{◌≡◌, ℕ, zero, suc, ◌+◌, ◌-◌, ◌*◌, ◌/◌, ◌%◌, ◌<◌, ◌≤◌, ◌^◌, true, cond, List, ◌++◌, length, get_or, set, map, replicate, refl, sym, ap, ◌∙◌, arith, inl, inr}
use Rattle.std.specs.Prelude.{nat_lt}
use Rattle.std.proofs.lemmas.Bool.Decides.{nat_tests}
use Rattle.std.proofs.lemmas.Bool.{cases_eq}
use Rattle.std.proofs.lemmas.List.{ext_get_or, get_or-set_same, get_or-set_other, get_or_append_left, get_or-append_right, length-append, length-replicate, length-map, length-set, map-set, set-get_or}
use Rattle.std.proofs.lemmas.List.Sums.{count_by-le-length, sum_by-set}
use Rattle.std.proofs.lemmas.List.FromFn.{length-map-range_with_len, get_or-map-range_with_len}
use Rattle.board_mem.specs.Pages.{page_of, page_bytes}
use Rattle.board_mem.specs.Store.{offset_of, bytes_of, made_of, numbered, AreStored}

-- a byte by its address
pub get_or-bytes_of : (size : ℕ) (index store : List ℕ) (at : ℕ) → at < size → get_or (bytes_of size index store) at 0 ≡ get_or store (offset_of index at) 0
unfolding bytes_of
get_or-bytes_of size index store at h =
    get_or-map-range_with_len (λ (a : ℕ). get_or store (offset_of index a) 0) 0 size at at 0 h (omega arith)

pub length-bytes_of : (size : ℕ) (index store : List ℕ) → length (bytes_of size index store) ≡ size
unfolding bytes_of
length-bytes_of size index store = length-map-range_with_len (λ (a : ℕ). get_or store (offset_of index a) 0) 0 size

pub length-made_of : (index : List ℕ) → length (made_of index) ≡ length index
unfolding made_of
length-made_of index = length-map index (λ number. nat_lt 0 number)

-- a list of bytes is the one that the pages spell
pub bytes_of-is : (size : ℕ) (index store bytes : List ℕ) → length bytes ≡ size → ((at : ℕ) → at < size → get_or store (offset_of index at) 0 ≡ get_or bytes at 0) → bytes_of size index store ≡ bytes
bytes_of-is size index store bytes n same =
    ext_get_or 0 (bytes_of size index store) bytes (length-bytes_of size index store ∙ sym n) (λ at h.
    let within : at < size = omega (arith, length-bytes_of size index store) in
    get_or-bytes_of size index store at within ∙ same at within)

-- zeros after a list's end, and in a list of zeros
get_or-zeros : (n i : ℕ) → get_or (replicate n zero) i zero ≡ zero
get_or-zeros zero i = refl
get_or-zeros (suc n) zero = refl
get_or-zeros (suc n) (suc i) = get_or-zeros n i

-- one page more has a number
numbered-set : (index : List ℕ) (page n : ℕ) → page < length index → get_or index page 0 ≡ 0 → 0 < n → numbered (set index page n) ≡ numbered index + 1
numbered-set index page n h e some =
    let counts : ℕ → ℕ = λ x. cond (nat_lt 0 x) 1 0 in
    let old : counts (get_or index page 0) ≡ 0 = ap counts e in
    let now : counts n ≡ 1 = grind (arith, nat_tests) in
    omega (arith, sum_by-set counts index page n 0 h, old, now)

-- if a page wasn't created, there are fewer numbers than pages
numbered_below : (index : List ℕ) (page : ℕ) → page < length index → get_or index page 0 ≡ 0 → numbered index + 1 ≤ length index
numbered_below index page h e =
    omega (arith, numbered-set index page 1 h e (omega arith), count_by-le-length (λ n. nat_lt 0 n) (set index page 1), length-set index page 1)

-- a page is created with the next number, at the end of the store
pub record IsMaking (index store after : List ℕ) (capacity page number count : ℕ) : Type 0 where
  pub stored : AreStored index store capacity
  pub there : page < length index
  pub unmade : get_or index page 0 ≡ 0
  pub is_number : page_bytes * number ≡ length store
  pub is_after : after ≡ store ++ replicate count 0
  pub is_count : count ≡ page_bytes

-- the store's old part afterwards
after-old : {index store after : List ℕ} {capacity page number count : ℕ} → IsMaking index store after capacity page number count → (i : ℕ) → i < length store → get_or after i 0 ≡ get_or store i 0
after-old {store = store} {count = count} m i h = rw m.is_after (get_or_append_left store (replicate count 0) 0 i h)

after-new : {index store after : List ℕ} {capacity page number count : ℕ} → IsMaking index store after capacity page number count → (i : ℕ) → length store ≤ i → get_or after i 0 ≡ 0
after-new {store = store} {count = count} m i h =
    rw m.is_after (get_or-append_right store (replicate count 0) (length store) i 0 refl h ∙ get_or-zeros count (i - length store))

length-after : {index store after : List ℕ} {capacity page number count : ℕ} → IsMaking index store after capacity page number count → length after ≡ length store + page_bytes
length-after {store = store} {count = count} m =
    rw m.is_after (omega (arith, length-append store (replicate count 0), length-replicate count zero, m.is_count))

-- the number of a page afterwards
number-same : (index : List ℕ) (page number k : ℕ) → page < length index → k ≡ page → get_or (set index page number) k 0 ≡ number
number-same index page number k h e = rw e (get_or-set_same index page number 0 h)

number-other : (index : List ℕ) (page number k : ℕ) → (k ≡ page → ⊥) → get_or (set index page number) k 0 ≡ get_or index k 0
number-other index page number k other = get_or-set_other index page k number 0 other

-- creating a page changes no byte
pub bytes_of-making : {index store after : List ℕ} {capacity page number count : ℕ} → IsMaking index store after capacity page number count → (size : ℕ) → size ≤ page_bytes * length index → bytes_of size (set index page number) after ≡ bytes_of size index store
bytes_of-making {index} {store} {after} {capacity} {page} {number} {count} m size le =
    bytes_of-is size (set index page number) after (bytes_of size index store) (length-bytes_of size index store) (λ at h.
    let old = get_or-bytes_of size index store at h in
    let here : page_of at < length index = omega arith in
    let inside = m.stored.within (page_of at) here in
    elim (cases_eq (page_of at) page) as (λ _. get_or after (offset_of (set index page number) at) 0 ≡ get_or (bytes_of size index store) at 0) [
      | inl e ↦
          let n = number-same index page number (page_of at) m.there e in
          let was : get_or index (page_of at) 0 ≡ 0 = rw e m.unmade in
          let start : offset_of index at ≡ at % page_bytes = omega (arith, was) in
          let blank : get_or store (offset_of index at) 0 ≡ 0 = ap (λ k. get_or store k 0) start ∙ m.stored.zeros (at % page_bytes) (omega arith) in
          after-new m (offset_of (set index page number) at) (omega (arith, n, m.is_number)) ∙ sym (old ∙ blank)
      | inr other ↦
          let n = number-other index page number (page_of at) other in
          ap (λ k. get_or after (page_bytes * k + at % page_bytes) 0) n ∙ after-old m (offset_of index at) (omega (arith, inside)) ∙ sym old
    ])

-- no page had the new number
number-fresh : {index store after : List ℕ} {capacity page number count : ℕ} → IsMaking index store after capacity page number count → (k : ℕ) → k < length index → get_or index k 0 < number
number-fresh m k h = omega (arith, m.stored.within k h, m.is_number)

-- creating a page keeps the store's invariant
pub AreStored-making : {index store after : List ℕ} {capacity page number count : ℕ} → IsMaking index store after capacity page number count → (more : ℕ) → capacity ≤ more → AreStored (set index page number) after more
AreStored-making {index} {store} {after} {capacity} {page} {number} {count} m more le =
    let size = length-set index page number in
    let grown = length-after m in
    let positive : 0 < number = omega (arith, m.is_number, m.stored.exact) in
    record {
      within = λ k h. elim (cases_eq k page) [
        | inl e ↦ omega (arith, number-same index page number k m.there e, m.is_number, grown)
        | inr other ↦ omega (arith, number-other index page number k other, m.stored.within k (omega (arith, size)), grown)
      ];
      zeros = λ i h. after-old m i (omega (arith, m.stored.exact)) ∙ m.stored.zeros i h;
      apart = λ j k hj hk some e. elim (cases_eq j page) [
        | inl ej ↦ elim (cases_eq k page) [
          | inl ek ↦ ej ∙ sym ek
          | inr ok ↦ absurd (omega (arith, number-same index page number j m.there ej, number-other index page number k ok, number-fresh m k (omega (arith, size))))
        ]
        | inr oj ↦ elim (cases_eq k page) [
          | inl ek ↦ absurd (omega (arith, number-same index page number k m.there ek, number-other index page number j oj, number-fresh m j (omega (arith, size))))
          | inr ok ↦
              let nj = number-other index page number j oj in let nk = number-other index page number k ok in
              m.stored.apart j k (omega (arith, size)) (omega (arith, size)) (omega (arith, nj)) (sym nj ∙ e ∙ nk)
        ]
      ];
      exact = omega (arith, grown, m.stored.exact, numbered-set index page number m.there m.unmade positive);
      room = omega (arith, size, m.stored.room);
      short = omega (arith, size, m.stored.short);
    }

-- and the page is then created
pub made_of-set : (index : List ℕ) (page number : ℕ) → 0 < number → made_of (set index page number) ≡ set (made_of index) page true
unfolding made_of
made_of-set index page number some =
    map-set (λ n. nat_lt 0 n) index page number ∙ ap (λ b. set (map (λ n. nat_lt 0 n) index) page b) (grind (arith, nat_tests))

-- a page that was created stays so
pub made_of-again : (index : List ℕ) (page : ℕ) → page < length index → 0 < get_or index page 0 → set (made_of index) page true ≡ made_of index
made_of-again index page h some =
    sym (made_of-set index page (get_or index page 0) some) ∙ ap made_of (set-get_or index page 0)

-- there is room for one more page, and its number fits the store's length
pub room_for_page : (index store : List ℕ) (capacity page : ℕ) → AreStored index store capacity → page < length index → get_or index page 0 ≡ 0 → (length store + page_bytes ≤ capacity) × (page_bytes * (length store / page_bytes) ≡ length store) × (length store / page_bytes ≤ 2 ^ 20)
room_for_page index store capacity page s h e =
    let below = numbered_below index page h e in
    (omega (arith, s.exact, s.room), omega (arith, s.exact), omega (arith, s.exact, s.short))
