-- The draft of the lines so far.
use Rattle.std.specs.Prelude.{◌≡◌, ℕ, ◌+◌, ◌≤◌, Bool, ◌||◌, nat_lt, List, Option, is_some, length}
use Rattle.std.specs.BTreeMap.{get_by}
use Rattle.std.specs.Cmp.Lexicographic.{slice_cmp}
use Rattle.std.specs.Ordering.{nat_cmp}
use Rattle.asm_lines.specs.declared.section.Section.{Section}
use Rattle.asm_lines.specs.declared.name_map.NameMap.{NameMap}
use Rattle.asm_lines.specs.declared.names.Names.{Names}
use Rattle.asm_lines.specs.declared.draft.Draft.{Draft}
use Rattle.asm_lines.specs.Items.{Placed, section_at, section_bytes}
use Rattle.asm_lines.specs.Names.{has_name, defined, globals, mentions, first_names, labels, fixes}
use Rattle.asm_lines.specs.Causes.{longest_section, most_names}

-- the number that a map has for a name
unfoldable pub number_at : NameMap → List ℕ → Option ℕ
number_at m name = get_by (λ k. slice_cmp nat_cmp name k.now) m.kept

-- a map has exactly these names
abbrev pub Has : NameMap → List (List ℕ) → Type 0
Has m names = (q : List ℕ) → is_some (number_at m q) ≡ has_name names q

-- the names are ns, in the order in which they are first mentioned; ls are those of labels, and gs the global ones
pub record AreNames (n : Names) (ns ls gs : List (List ℕ)) : Type 0 where
  pub entries : n.entries.items ≡ first_names ns
  pub mentioned : Has n.mentioned ns
  pub labelled : Has n.labelled ls
  pub global : Has n.global gs

-- a section has the bytes and the relocated addresses of these lines
pub record IsSection (which : ℕ) (ps : List Placed) (s : Section) : Type 0 where
  pub bytes : s.bytes.items ≡ section_bytes which ps
  pub fixes : s.fixes.items ≡ fixes which ps

-- a draft is that of these lines
pub record IsDraft (d : Draft) (ps : List Placed) : Type 0 where
  pub section : d.section ≡ section_at ps
  pub known : d.section ≤ 1
  pub in_text : IsSection 0 ps d.text_part
  pub in_data : IsSection 1 ps d.data_part
  pub labels : d.labels.items ≡ labels ps
  pub names : AreNames d.names (mentions ps) (defined ps) (globals ps)

-- a draft is within the limits of a module
pub record IsSmall (d : Draft) : Type 0 where
  pub small_text : length d.text_part.bytes.items ≤ longest_section
  pub small_data : length d.data_part.bytes.items ≤ longest_section
  pub few_names : length d.names.entries.items ≤ most_names
  pub few_labels : length d.labels.items ≤ most_names

-- a draft exceeds a limit of a module
unfoldable pub exceeds : Draft → Bool
exceeds d =
    nat_lt longest_section (length d.text_part.bytes.items) || (nat_lt longest_section (length d.data_part.bytes.items)
    || (nat_lt most_names (length d.names.entries.items) || (nat_lt most_names (length d.labels.items)
    || nat_lt most_names (length d.text_part.fixes.items + length d.data_part.fixes.items))))
