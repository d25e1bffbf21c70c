-- Decoded words beside the bytes: the pages that instructions were executed in have a slot, with an entry for each of their words.
use Rattle.std.specs.Prelude.{◌≡◌, ◌≢◌, ℕ, ◌+◌, ◌*◌, ◌<◌, ◌≤◌, ◌⊎◌, List, length, slice_index, slice_index_or, Some}
use Rattle.ppc_word.specs.declared.decoded.Decoded.{Decoded}
use Rattle.ppc_word.specs.declared.op.Op.TheVariants as ops
use Rattle.board_mem.specs.Memory.{read}
use Rattle.board_mem.specs.Pages.{page_bytes}

-- the number of words in a page
abbrev pub page_words : ℕ
page_words = 1024

-- the greatest number of slots
abbrev pub most_code_slots : ℕ
most_code_slots = 64

-- an entry is empty, or it is the decoded word at an address
abbrev pub Agrees : Decoded → List ℕ → ℕ → Type 0
Agrees d bytes at = (d.op ≡ ops.Empty) ⊎ (read 4 bytes at ≡ Some d.word)

-- the entries from one on agree with the words of a page
abbrev pub AreWords : List Decoded → List ℕ → ℕ → Type 0
AreWords entries bytes page = (k : ℕ) (d : Decoded) → k < length entries → Agrees (slice_index_or entries k d) bytes (page_bytes * page + 4 * k)

-- the number of a page in `slots` is one more than its slot, or 0 if it has none; the entries of each slot agree with the words of its page
abbrev pub AreDecoded : List ℕ → List Decoded → List ℕ → Type 0
AreDecoded slots entries bytes = (page slot k : ℕ) (d : Decoded) → slice_index slots page ≡ slot + 1 → k < page_words → Agrees (slice_index_or entries (page_words * slot + k) d) bytes (page_bytes * page + 4 * k)

-- slots and pages belong together: each of the used slots has at most one page, and 1,024 entries; and there is room for all
pub record AreSlots (slots owners : List ℕ) (entries : List Decoded) (used oldest capacity : ℕ) : Type 0 where
  pub owned : (page slot : ℕ) → slice_index slots page ≡ slot + 1 → (slot < used) × (slice_index owners slot ≡ page)
  pub pages : length owners ≡ most_code_slots
  pub exact : length entries ≡ page_words * used
  pub few : used ≤ most_code_slots
  pub next : oldest < most_code_slots
  pub room : page_words * most_code_slots ≤ capacity

-- a used slot is free: no page has it, and its entries are empty; other pages lost theirs at most
pub record IsFree (slots slots_after : List ℕ) (entries_after : List Decoded) (used_after slot : ℕ) : Type 0 where
  pub size : length slots_after ≡ length slots
  pub others : (page : ℕ) → (slice_index slots_after page ≡ 0) ⊎ (slice_index slots_after page ≡ slice_index slots page)
  pub unowned : (page : ℕ) → slice_index slots_after page ≢ slot + 1
  pub empty : (k : ℕ) (d : Decoded) → k < page_words → (slice_index_or entries_after (page_words * slot + k) d).op ≡ ops.Empty
  pub within : slot < used_after

-- a page has this slot; other pages lost theirs at most
pub record IsGiven (slots slots_after : List ℕ) (page slot : ℕ) : Type 0 where
  pub size : length slots_after ≡ length slots
  pub given : slice_index slots_after page ≡ slot + 1
  pub others : (other : ℕ) → other ≢ page → (slice_index slots_after other ≡ 0) ⊎ (slice_index slots_after other ≡ slice_index slots other)

-- a page's number for writing: its number in the index; 0, so that the writer looks further, if the page isn't made or has a slot
pub record AreWritable (index writes slots : List ℕ) : Type 0 where
  pub pages : length writes ≡ length index
  pub slotted : length slots ≡ length index
  pub number : (page : ℕ) → 0 < slice_index writes page → slice_index writes page ≡ slice_index index page
  pub plain : (page : ℕ) → 0 < slice_index writes page → slice_index slots page ≡ 0

-- the words outside the n bytes from an address on stay
abbrev pub SameElsewhere : List ℕ → List ℕ → ℕ → ℕ → Type 0
SameElsewhere before after at n = (j : ℕ) → (j + 4 ≤ at) ⊎ (at + n ≤ j) → read 4 after j ≡ read 4 before j

-- what is known of the decoded words of pages
pub record AreCode (index writes slots owners : List ℕ) (entries : List Decoded) (used oldest capacity : ℕ) (bytes : List ℕ) : Type 0 where
  pub writable : AreWritable index writes slots
  pub slotted : AreSlots slots owners entries used oldest capacity
  pub decoded : AreDecoded slots entries bytes
