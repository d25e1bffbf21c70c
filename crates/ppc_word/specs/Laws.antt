-- What follows from the table alone.
use Rattle.std.specs.Prelude.{◌≡◌, ℕ, ◌<◌, true, IsTrue, length}
use Rattle.ppc_word.specs.declared.row.Row.{Row}
use Rattle.ppc_word.specs.Words.{whole, meets}
use Rattle.ppc_word.specs.Table.{table, form_at, form_of}

-- the table has one answer: a word matches at most one form, so the order of its lines doesn't matter
pub record TableLaw : Type 0 where
  -- each form has 32 bits, and at most six fields
  pub words : (k : ℕ) → k < length table → IsTrue (whole (form_at k).pieces)
  -- each instruction has its form
  pub own : (row : Row) → (form_of row).row ≡ row
  -- no word matches two forms
  pub one :
      (j k w : ℕ) → j < length table → k < length table →
      meets (form_at j).pieces w ≡ true → meets (form_at k).pieces w ≡ true → j ≡ k
