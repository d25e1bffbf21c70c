-- Which words of modules were executed.
use Rattle.std.specs.Prelude.{ℕ, ◌+◌, ◌-◌, ◌/◌, ◌%◌, Bool, true, false, not, ◌&&◌, ◌==◌, nat_le, nat_lt, if◌then◌else◌, List, ◌++◌, length, map, replicate, slice_index, slice_set, Option, None, Some}
use Rattle.std.specs.List.{filter, list_any}
use Rattle.module_loader.specs.declared.module.LoadedModule.{LoadedModule}

-- a module by its id and name, the address of the first word of its text segment, and for each word of this segment
-- whether it was executed
pub record CoveredState : Type 0 where
  pub id : ℕ
  pub name : List ℕ
  pub start : ℕ
  pub executed : List Bool

-- the address of a module's text segment, and its size in whole words
abbrev pub text_start : LoadedModule → ℕ
text_start m = slice_index (map (λ g. g.addr) m.segments) 0

abbrev pub text_words : LoadedModule → ℕ
text_words m = slice_index (map (λ g. g.size) m.segments) 0 / 4

-- one of these words, which begin at `start`, is at this address
abbrev pub is_word_among : ℕ → ℕ → ℕ → Bool
is_word_among start words at = nat_le start at && ((at - start) % 4 == 0 && nat_lt ((at - start) / 4) words)

-- a module before any of its words is executed
abbrev pub unexecuted : ℕ × LoadedModule → CoveredState
unexecuted r = record { id = r.0; name = r.1.name; start = text_start r.1; executed = replicate (text_words r.1) false }

-- the word at this address was executed too, if it is one of the module's
abbrev pub with_word : ℕ → CoveredState → CoveredState
with_word at m =
    if is_word_among m.start (length m.executed) at then record m { executed = slice_set m.executed ((at - m.start) / 4) true }
    else m

-- ---- the modules of a run
-- the modules that are in the table of modules, in the order in which they came, and those that were unloaded, in the order
-- in which they went
pub record CoverageState : Type 0 where
  pub live : List CoveredState
  pub gone : List CoveredState

-- a row of the table is this module
abbrev pub is_of : CoveredState → ℕ × LoadedModule → Bool
is_of m r = r.0 == m.id && (text_start r.1 == m.start && text_words r.1 == length m.executed)

-- a module is in the table
abbrev pub is_live : List (ℕ × LoadedModule) → CoveredState → Bool
is_live rows m = list_any (is_of m) rows

-- a row is one of these modules
abbrev pub is_among : List CoveredState → ℕ × LoadedModule → Bool
is_among ms r = list_any (λ m. is_of m r) ms

-- those that are still in the table, those that aren't, and with the modules that are new in it
abbrev pub staying : List (ℕ × LoadedModule) → List CoveredState → List CoveredState
staying rows ms = filter (is_live rows) ms

abbrev pub leaving : List (ℕ × LoadedModule) → List CoveredState → List CoveredState
leaving rows ms = filter (λ m. not (is_live rows m)) ms

abbrev pub with_new : List (ℕ × LoadedModule) → List CoveredState → List CoveredState
with_new rows ms = ms ++ map unexecuted (filter (λ r. not (is_among ms r)) rows)

-- the coverage when the table has these modules
abbrev pub with_table : List (ℕ × LoadedModule) → CoverageState → CoverageState
with_table rows c = record { live = with_new rows (staying rows c.live); gone = c.gone ++ leaving rows c.live }

-- the coverage after an instruction at this address
abbrev pub with_executed : Option ℕ → CoverageState → CoverageState
with_executed None c = c
with_executed (Some at) c = record c { live = map (with_word at) c.live }
