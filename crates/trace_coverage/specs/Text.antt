-- A coverage as text.
use Rattle.std.specs.Prelude.{◌≡◌, ℕ, ◌+◌, Bool, true, false, if◌then◌else◌, List, [], ◌∷◌, ◌++◌, length, count_by, Option, None, Some, codes}
use Rattle.std.specs.Fmt.{decimal}
use Rattle.module_loader.specs.declared.module.LoadedModule.{LoadedModule}
use Rattle.trace_text.specs.Pieces.{escaped, word_hex}
use Rattle.trace_coverage.specs.Covered.{CoverageState, CoveredState, is_live}
use Rattle.trace_coverage.specs.declared.coverage.Coverage.{Coverage}

-- words that follow each other and were executed: the address of the first, and the address after the last
pub record Range : Type 0 where
  pub from : ℕ
  pub to : ℕ

-- where a range begins that has a word at this address: there, or where the words before it began
abbrev pub begun_at : Option ℕ → ℕ → ℕ
begun_at None at = at
begun_at (Some from) at = from

-- the range that ends before this address, if one does
abbrev pub ended_at : Option ℕ → ℕ → List Range
ended_at None at = []
ended_at (Some from) at = record { from = from; to = at } ∷ []

-- the longest ranges among these words, the first at this address. The executed words just before it began at `begun`
abbrev pub ranges_from : Option ℕ → ℕ → List Bool → List Range
ranges_from begun at [] = ended_at begun at
ranges_from begun at (true ∷ words) = ranges_from (Some (begun_at begun at)) (at + 4) words
ranges_from begun at (false ∷ words) = ended_at begun at ++ ranges_from None (at + 4) words

abbrev pub ranges_of : CoveredState → List Range
ranges_of m = ranges_from None m.start m.executed

-- the line of a range
abbrev pub range_line : Range → List ℕ
range_line r = codes "  " ++ (word_hex r.from ++ (codes ".." ++ (word_hex r.to ++ codes "\n")))

abbrev pub range_lines : List Range → List ℕ
range_lines [] = []
range_lines (r ∷ rs) = range_line r ++ range_lines rs

-- how many of how many words were executed
abbrev pub count_text : List Bool → List ℕ
count_text words = decimal (count_by (λ word. word) words) ++ (codes " of " ++ (decimal (length words) ++ codes " words\n"))

-- the line of a module: its id, its name, the address of its text segment, and how many of its words were executed
abbrev pub module_line : CoveredState → List ℕ
module_line m =
    codes "module " ++ (decimal m.id ++ (codes " \"" ++ (escaped m.name ++ (codes "\" text " ++ (word_hex m.start ++ (codes ": "
    ++ count_text m.executed))))))

-- a module, with its ranges in the lines after it
abbrev pub module_text : CoveredState → List ℕ
module_text m = module_line m ++ range_lines (ranges_of m)

abbrev pub modules_text : List CoveredState → List ℕ
modules_text [] = []
modules_text (m ∷ ms) = module_text m ++ modules_text ms

-- the modules that were unloaded come first
abbrev pub coverage_text : CoverageState → List ℕ
coverage_text c = modules_text c.gone ++ modules_text c.live

-- ---- under way
-- the text of a module if it isn't in the table
abbrev pub text_if_gone : List (ℕ × LoadedModule) → CoveredState → List ℕ
text_if_gone rows m = if is_live rows m then [] else module_text m

abbrev pub texts_of_gone : List (ℕ × LoadedModule) → List CoveredState → List ℕ
texts_of_gone rows [] = []
texts_of_gone rows (m ∷ ms) = text_if_gone rows m ++ texts_of_gone rows ms

-- a coverage is kept: its modules that are in the table, and of the text of those that were unloaded what follows this
-- given part
pub record Holds (coverage : Coverage) (given : List ℕ) (c : CoverageState) : Type 0 where
  pub live : coverage.live.items ≡ c.live
  pub gone : given ++ coverage.gone.items ≡ modules_text c.gone
