-- Memory in pages, each created at its first write.
use Rattle.std.specs.Prelude.{◌≡◌, ℕ, ◌+◌, ◌-◌, ◌/◌, ◌<◌, Bool, false, ◌&&◌, ◌||◌, if◌then◌else◌, nat_lt, nat_le, List, length, map, replicate, slice_index, slice_index_or, count_by}
use Rattle.std.specs.List.{range_with_len}
use Rattle.board_mem.specs.Memory.{has, with_bytes}

-- the size of a page in bytes
abbrev pub page_bytes : ℕ
page_bytes = 4096

-- the page of an address
abbrev pub page_of : ℕ → ℕ
page_of at = at / page_bytes

-- the number of pages for the given number of bytes; the last page may have bytes to spare
abbrev pub pages_for : ℕ → ℕ
pages_for size = (size + (page_bytes - 1)) / page_bytes

-- the bytes, and whether each page was created
pub record PagesState : Type 0 where
  pub bytes : List ℕ
  pub made : List Bool

-- whether a page was created
abbrev pub was_made : List Bool → ℕ → Bool
was_made made page = slice_index_or made page false

-- whether one of the n bytes from an address on is in a page
abbrev pub meets : ℕ → ℕ → ℕ → Bool
meets at n page = nat_lt 0 n && (nat_le (page_of at) page && nat_le page (page_of (at + n - 1)))

-- the created pages, and those that the n bytes from an address on are in
unfoldable pub made_with : List Bool → ℕ → ℕ → List Bool
made_with made at n = map (λ page. was_made made page || meets at n page) (range_with_len 0 (length made))

-- the pages created after a write of n bytes at an address: those that its range meets too, or no new one if a byte of it is outside RAM
abbrev pub made_by : PagesState → ℕ → ℕ → List Bool
made_by s at n = if has s.bytes at n then made_with s.made at n else s.made

-- the given number of zeros, with no page created
abbrev pub unmade : ℕ → PagesState
unmade size = record { bytes = replicate size 0; made = replicate (pages_for size) false }

-- the pages after these bytes are written from an address on
abbrev pub written_at : PagesState → ℕ → List ℕ → PagesState
written_at s at bytes = record { bytes = with_bytes s.bytes at bytes; made = made_with s.made at (length bytes) }

-- the number of created pages
abbrev pub made_count : List Bool → ℕ
made_count made = count_by (λ m. m) made

-- the invariant of pages
pub record ArePages (s : PagesState) : Type 0 where
  -- there are as many pages as the bytes need
  pub cover : length s.made ≡ pages_for (length s.bytes)
  -- a page that wasn't created reads as zeros
  pub blank : (at : ℕ) → at < length s.bytes → was_made s.made (page_of at) ≡ false → slice_index s.bytes at ≡ 0
