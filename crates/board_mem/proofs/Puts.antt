-- Bytes written into one page: the store and the pages afterwards.
use Rattle.std.proofs.Common.{◌≡◌, ℕ, ◌+◌, ◌*◌, ◌/◌, ◌%◌, ◌^◌, ◌<◌, ◌≤◌, Bool, true, List, Some, None, length, get_or, set, refl, sym, ap, ap₂, ◌∙◌, subst, arith}
use Rattle.std.specs.Prelude.{nat_le, if◌then◌else◌}
use Rattle.std.proofs.lemmas.Bool.Decides.{nat_tests}
use Rattle.byteorder.specs.Endian.{big_bytes}
use Rattle.byteorder.specs.Numbers.{length-bytes_high_first}
use Rattle.ppc_word.specs.declared.decoded.Decoded.{Decoded}
use Rattle.board_mem.specs.Code.{page_words, AreCode, AreDecoded, AreSlots, AreWritable, SameElsewhere}
use Rattle.board_mem.specs.Memory.{number_at, read, with_bytes, word_at}
use Rattle.board_mem.proofs.Codes.{decoded_over, same_elsewhere, slots_over}
use Rattle.board_mem.proofs.Sizes.{length-with_bytes}
use Rattle.board_mem.proofs.Words.{word_at-same}
use Rattle.board_mem.specs.Pages.{PagesState, made_with, page_bytes, page_of, written_at}
use Rattle.board_mem.specs.Store.{offset_of, bytes_of, made_of, IsMade, IsStore}
use Rattle.board_mem.proofs.Stores.{length-made_of, length-bytes_of, made_of-again}
use Rattle.board_mem.proofs.Windows.{IsWindow, pages_of, window_page, bytes_of-put, IsStore-put}
use Rattle.board_mem.proofs.Writings.{made_with-page}

-- bytes are written at an address, in a page that was created for it: from index and store over index₁ and store₁ to index₂ and store₂
pub record IsPut (size : ℕ) (index store index₁ store₁ index₂ store₂ : List ℕ) (capacity capacity₁ at : ℕ) (src : List ℕ) : Type 0 where
  pub window : IsWindow size index store capacity at (length src)
  pub page : IsMade index store index₁ store₁ capacity₁ (page_of at)
  pub size_same : length index₁ ≡ length index
  pub index_same : index₂ ≡ index₁
  pub put : store₂ ≡ with_bytes store₁ (offset_of index₁ at) src

-- the page of the range is created, and then the bytes are written at its offset
pub put_made : {size : ℕ} {index store index₁ store₁ index₂ store₂ : List ℕ} {capacity capacity₁ at start : ℕ} {src held : List ℕ} → IsWindow size index store capacity at (length src)
    → IsMade index store index₁ store₁ capacity₁ (page_of at) → length index₁ ≡ length index → index₂ ≡ index₁ → store₂ ≡ with_bytes held start src → held ≡ store₁ → start ≡ offset_of index₁ at
    → IsPut size index store index₁ store₁ index₂ store₂ capacity capacity₁ at src
put_made {src = src} window page size_same index_same put same place = record {
  window = window;
  page = page;
  size_same = size_same;
  index_same = index_same;
  put = put ∙ ap₂ (λ (store : List ℕ) (start : ℕ). with_bytes store start src) same place;
}

-- the range is still a window
window_after : {size : ℕ} {index store index₁ store₁ index₂ store₂ : List ℕ} {capacity capacity₁ at : ℕ} {src : List ℕ} → IsPut size index store index₁ store₁ index₂ store₂ capacity capacity₁ at src → IsWindow size index₁ store₁ capacity₁ at (length src)
window_after p = record {
  kept = record { stored = p.page.stored; cover = p.size_same ∙ p.window.kept.cover; addressed = p.window.kept.addressed };
  some = p.window.some;
  page = p.window.page;
  there = p.window.there;
}

-- the invariant of the store holds afterwards
pub IsStore-after : {size : ℕ} {index store index₁ store₁ index₂ store₂ : List ℕ} {capacity capacity₁ at : ℕ} {src : List ℕ} → IsPut size index store index₁ store₁ index₂ store₂ capacity capacity₁ at src → (capacity₂ : ℕ) → capacity₂ ≡ capacity₁ → IsStore size index₂ store₂ capacity₂
IsStore-after {src = src} p capacity₂ e =
    rw (p.index_same, p.put, e) (IsStore-put (window_after p) p.page.numbered src refl)

-- and the pages are those with the bytes written
pub pages_after : {size : ℕ} {index store index₁ store₁ index₂ store₂ : List ℕ} {capacity capacity₁ at : ℕ} {src : List ℕ} → IsPut size index store index₁ store₁ index₂ store₂ capacity capacity₁ at src → (s : PagesState) → s.bytes ≡ bytes_of size index store → s.made ≡ made_of index → bytes_of size index₂ store₂ ≡ (written_at s at src).bytes
pages_after {size} {index} {store} {index₁} {store₁} {index₂} {store₂} {at = at} {src = src} p s b m =
    let w = window_after p in
    ap₂ (bytes_of size) p.index_same p.put ∙ bytes_of-put w p.page.numbered src refl
    ∙ ap (λ bytes. with_bytes bytes at src) (p.page.bytes size (omega (arith, p.window.kept.cover)) ∙ sym b)

pub made_after : {size : ℕ} {index store index₁ store₁ index₂ store₂ : List ℕ} {capacity capacity₁ at : ℕ} {src : List ℕ} → IsPut size index store index₁ store₁ index₂ store₂ capacity capacity₁ at src → (s : PagesState) → s.bytes ≡ bytes_of size index store → s.made ≡ made_of index → made_of index₂ ≡ (written_at s at src).made
made_after {index = index} {at = at} {src = src} p s b m =
    let here = window_page p.window in
    ap made_of p.index_same ∙ p.page.made
    ∙ sym (ap (λ made. made_with made at (length src)) m ∙ made_with-page (made_of index) at (length src) p.window.some p.window.page (omega (arith, here, length-made_of index)))

-- both together
pub put_pages : {size : ℕ} {index store index₁ store₁ index₂ store₂ : List ℕ} {capacity capacity₁ at : ℕ} {src : List ℕ} → IsPut size index store index₁ store₁ index₂ store₂ capacity capacity₁ at src → (s : PagesState) → pages_of size index store ≡ s → pages_of size index₂ store₂ ≡ written_at s at src
put_pages p s is =
    let bytes = ap (λ (q : PagesState). q.bytes) (sym is) in
    let made = ap (λ (q : PagesState). q.made) (sym is) in
    let b = pages_after p s bytes made in
    let m = made_after p s bytes made in
    λ i. record { bytes = b i; made = m i }

-- and the decoded words are still those of their pages
pub code_put : {size : ℕ} {index store index₁ store₁ index₂ store₂ : List ℕ} {capacity capacity₁ at : ℕ} {src : List ℕ} → IsPut size index store index₁ store₁ index₂ store₂ capacity capacity₁ at src
    → (writes₁ writes₂ slots owners : List ℕ) (entries : List Decoded) (used oldest room : ℕ) (entries₀ : List Decoded) (slots₀ : List ℕ) → writes₂ ≡ writes₁
    → AreWritable index₁ writes₁ slots → AreSlots slots owners entries used oldest room
    → ((b a : List ℕ) → SameElsewhere b a at (length src) → AreDecoded slots₀ entries₀ b → AreDecoded slots entries a) → AreDecoded slots₀ entries₀ (bytes_of size index store)
    → AreCode index₂ writes₂ slots owners entries used oldest room (bytes_of size index₂ store₂)
code_put {size} {index} {store} {at = at} {src = src} p writes₁ writes₂ slots owners entries used oldest room entries₀ slots₀ same writable slotted dropped decoded =
    let old = bytes_of size index store in
    let is = pages_after p (record { bytes = old; made = made_of index }) refl refl in
    let fits : at + length src ≤ length old = omega (arith, p.window.there, length-bytes_of size index store) in
    record {
      writable = rw (p.index_same, same) writable;
      slotted = slotted;
      decoded = rw is (dropped old (with_bytes old at src) (same_elsewhere old at src fits) decoded);
    }

-- the page of the range was created before
pub put_there : {size : ℕ} {index store store₂ : List ℕ} {capacity at start : ℕ} {src held : List ℕ} → IsWindow size index store capacity at (length src) → 0 < get_or index (page_of at) 0
    → store₂ ≡ with_bytes held start src → held ≡ store → start ≡ offset_of index at → IsPut size index store index store index store₂ capacity capacity at src
put_there {index = index} {at = at} window some put same place =
    put_made window (record { stored = window.kept.stored; numbered = some; made = sym (made_of-again index (page_of at) (window_page window) some); numbers = λ other h. refl; bytes = λ size fits. refl }) refl refl put same place

-- a word is read back
word_back : (ram : List ℕ) (at v : ℕ) → at + 4 ≤ length ram → v < 2 ^ 32 → read 4 (with_bytes ram at (big_bytes 4 v)) at ≡ Some v
word_back ram at v fits below =
    let after = with_bytes ram at (big_bytes 4 v) in
    let size = length-with_bytes ram at (big_bytes 4 v) (omega (arith, fits, length-bytes_high_first 4 v)) in
    let there : nat_le (at + 4) (length after) ≡ true = grind (arith, nat_tests, size, fits) in
    let whole : v % 256 ^ 4 ≡ v = omega arith in
    let same : word_at after at ≡ v = subst (λ (n : ℕ). word_at (with_bytes ram at (big_bytes 4 n)) at ≡ v) whole (word_at-same ram at v (omega arith) below) in
    ap (λ (b : Bool). if b then Some (number_at 4 after at) else None) there ∙ ap Some same

-- a word is written over a decoded one, and its decoded word is kept
pub code_over : {size : ℕ} {index store store₂ : List ℕ} {capacity at v : ℕ} → IsPut size index store index store index store₂ capacity capacity at (big_bytes 4 v)
    → (writes slots owners : List ℕ) (entries : List Decoded) (used oldest room slot place : ℕ) (d : Decoded) → AreCode index writes slots owners entries used oldest room (bytes_of size index store)
    → at % 4 ≡ 0 → get_or slots (page_of at) 0 ≡ slot + 1 → place ≡ page_words * slot + at % page_bytes / 4 → d.word ≡ v → v < 2 ^ 32
    → AreCode index writes slots owners (set entries place d) used oldest room (bytes_of size index store₂)
code_over {size} {index} {store} {at = at} {v = v} p writes slots owners entries used oldest room slot place d code aligned given is word below =
    let old = bytes_of size index store in
    let after = with_bytes old at (big_bytes 4 v) in
    let bytes = pages_after p (record { bytes = old; made = made_of index }) refl refl in
    let four : length (big_bytes 4 v) ≡ 4 = length-bytes_high_first 4 v in
    let there : at + 4 ≤ length old = omega (arith, p.window.there, four, length-bytes_of size index store) in
    let same = subst (λ (n : ℕ). SameElsewhere old after at n) four (same_elsewhere old at (big_bytes 4 v) (omega (arith, there, four))) in
    record {
      writable = code.writable;
      slotted = slots_over slots owners entries used oldest room place d code.slotted;
      decoded = rw bytes (decoded_over slots owners entries used oldest room old after at slot place d code.slotted aligned given is same (word_back old at v there below ∙ ap Some (sym word)) code.decoded);
    }
