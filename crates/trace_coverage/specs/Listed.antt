-- Which words the coverage of a run lists.
use Rattle.std.specs.Prelude.{◌≡◌, ◌↔◌, ℕ, zero, suc, ◌-◌, ◌<◌, ◌/◌, Bool, false, ◌&&◌, ◌==◌, List, [], ◌++◌, length, get_or, Option, Some, IsTrue}
use Rattle.std.specs.List.{list_any}
use Rattle.module_loader.specs.declared.module.LoadedModule.{LoadedModule}
use Rattle.trace_coverage.specs.Covered.{CoverageState, CoveredState, is_word_among, text_start, text_words, with_executed, with_table}

-- the coverage of the first k steps of a run: step j begins with the modules `rows j` in the table of modules, and executes
-- the instruction at the address `executed j`, if it executes one
abbrev pub covered : (ℕ → List (ℕ × LoadedModule)) → (ℕ → Option ℕ) → ℕ → CoverageState
covered rows executed zero = with_table (rows zero) (record { live = []; gone = [] })
covered rows executed (suc k) = with_table (rows (suc k)) (with_executed (executed k) (covered rows executed k))

-- the module has a word at this address, and it was executed
abbrev pub is_executed : ℕ → CoveredState → Bool
is_executed at m = is_word_among m.start (length m.executed) at && get_or m.executed ((at - m.start) / 4) false

-- the word at this address is listed for a module with this id
abbrev pub is_listed : CoverageState → ℕ → ℕ → Bool
is_listed c id at = list_any (λ m. m.id == id && is_executed at m) (c.gone ++ c.live)

-- the table has the module with this id, and its text segment has a word at this address
abbrev pub has_word : List (ℕ × LoadedModule) → ℕ → ℕ → Bool
has_word rows id at = list_any (λ r. r.0 == id && is_word_among (text_start r.1) (text_words r.1) at) rows

-- a word is listed for a module exactly if one of the first k steps executed the instruction at its address while the module
-- was in the table, and it is a word of the module's text segment
abbrev pub ListsExecuted : (ℕ → List (ℕ × LoadedModule)) → (ℕ → Option ℕ) → Type 0
ListsExecuted rows executed = (k id at : ℕ) →
    IsTrue (is_listed (covered rows executed k) id at)
    ↔ ((j : ℕ) × (j < k) × (executed j ≡ Some at) × IsTrue (has_word (rows j) id at))
