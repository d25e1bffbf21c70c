-- What is inside pages: a store, which is a page of zeros and then the created pages; and an index, which has
-- the number in the store of each page of addresses, and 0 for a page that wasn't created.
use Rattle.std.specs.Prelude.{◌≡◌, ℕ, ◌+◌, ◌*◌, ◌%◌, ◌<◌, ◌≤◌, ◌^◌, Bool, true, nat_lt, List, length, map, slice_index, slice_set, count_by}
use Rattle.std.specs.List.{range_with_len}
use Rattle.board_mem.specs.Pages.{page_bytes, page_of, pages_for}

-- the index in the store of the byte at an address
abbrev pub offset_of : List ℕ → ℕ → ℕ
offset_of index at = page_bytes * slice_index index (page_of at) + at % page_bytes

-- the bytes that the index and the store spell
unfoldable pub bytes_of : ℕ → List ℕ → List ℕ → List ℕ
bytes_of size index store = map (λ at. slice_index store (offset_of index at)) (range_with_len 0 size)

-- whether each page was created
unfoldable pub made_of : List ℕ → List Bool
made_of index = map (λ number. nat_lt 0 number) index

-- the number of created pages in the index
abbrev pub numbered : List ℕ → ℕ
numbered index = count_by (λ number. nat_lt 0 number) index

-- the invariant of an index, its store, and the store's capacity in bytes
pub record AreStored (index store : List ℕ) (capacity : ℕ) : Type 0 where
  -- each number names a page of the store
  pub within : (page : ℕ) → page < length index → page_bytes * slice_index index page + page_bytes ≤ length store
  -- the first page of the store is all zeros
  pub zeros : (i : ℕ) → i < page_bytes → slice_index store i ≡ 0
  -- no two created pages are the same page of the store
  pub apart : (j k : ℕ) → j < length index → k < length index → 0 < slice_index index j → slice_index index j ≡ slice_index index k → j ≡ k
  -- the store has exactly the page of zeros and the created pages
  pub exact : length store ≡ page_bytes * numbered index + page_bytes
  -- the capacity is enough for all pages
  pub room : page_bytes * length index + page_bytes ≤ capacity
  -- addresses have 32 bits
  pub short : length index ≤ 2 ^ 20

-- the same for the pages of the given number of bytes
pub record IsStore (size : ℕ) (index store : List ℕ) (capacity : ℕ) : Type 0 where
  pub stored : AreStored index store capacity
  pub cover : length index ≡ pages_for size
  pub addressed : size < 2 ^ 32

-- a page is created, if it wasn't yet, and no byte changes
pub record IsMade (index store index_after store_after : List ℕ) (capacity page : ℕ) : Type 0 where
  pub stored : AreStored index_after store_after capacity
  pub numbered : 0 < slice_index index_after page
  pub made : made_of index_after ≡ slice_set (made_of index) page true
  pub numbers : (other : ℕ) → 0 < slice_index index other → slice_index index_after other ≡ slice_index index other
  pub bytes : (size : ℕ) → size ≤ page_bytes * length index → bytes_of size index_after store_after ≡ bytes_of size index store
