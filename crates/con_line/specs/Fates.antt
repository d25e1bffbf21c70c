-- What becomes of each byte that arrives at the console.
use Rattle.std.specs.Prelude.{◌≡◌, ◌⊎◌, ℕ, ◌+◌, ◌-◌, List, [], ◌∷◌, ◌++◌, Bool, not, nat_lt, if◌then◌else◌, length}
use Rattle.con_line.specs.State.{ConsoleState}
use Rattle.con_line.specs.Keys.{key_of, erased, has_room, after_byte}
use Rattle.con_line.specs.Lines.{is_kept}
use Rattle.con_line.specs.declared.key.Key.{Key}
use Rattle.con_line.specs.declared.key.Key.TheVariants as keys

-- why a byte is dropped
pub data Reason : Type 0 where
  -- the edited line is full
  LineFull : Reason
  -- its line ended, and there was no room for it among the finished lines
  LinesFull : Reason
  -- an edit erased it
  Erased : Reason
  -- an abort cleared its line
  Aborted : Reason
  -- it is itself an edit or the abort
  Control : Reason
  -- it is a 0x0A directly after a 0x0D, and the two are one end
  SameEnd : Reason
  -- it has no use
  Ignored : Reason

-- a byte is in a line as it came, or ended a line and is its 0x0A, or was dropped
pub data Fate : Type 0 where
  Typed : Fate
  Ended : Fate
  Dropped : Reason → Fate

-- a byte that arrives, from the console file or as a newline that is supplied
pub record Arrival : Type 0 where
  pub byte : ℕ
  pub is_supplied : Bool

-- a byte that has arrived, and what became of it
pub record Entry : Type 0 where
  pub byte : ℕ
  pub is_supplied : Bool
  pub fate : Fate

abbrev pub entry : Arrival → Fate → Entry
entry a fate = record { byte = a.byte; is_supplied = a.is_supplied; fate = fate }

-- ---- what a journal of bytes says; it lists them in the order in which they arrived
-- the bytes that are supplied or not, as this test asks
abbrev pub bytes_if : (Bool → Bool) → List Entry → List ℕ
bytes_if test [] = []
bytes_if test (e ∷ es) = if test e.is_supplied then e.byte ∷ bytes_if test es else bytes_if test es

-- the bytes of the console file, and the newlines that were supplied
abbrev pub from_file : List Entry → List ℕ
from_file es = bytes_if not es

abbrev pub from_supply : List Entry → List ℕ
from_supply es = bytes_if (λ is_supplied. is_supplied) es

-- what a byte is in its line, if it is in one
abbrev pub in_line : Fate → ℕ → List ℕ
in_line Typed b = b ∷ []
in_line Ended b = 10 ∷ []
in_line (Dropped why) b = []

-- the bytes that are in lines
abbrev pub in_lines : List Entry → List ℕ
in_lines [] = []
in_lines (e ∷ es) = in_line e.fate e.byte ++ in_lines es

-- what becomes of a byte later: one that is in a line may be dropped, one that was dropped stays so for its reason
abbrev pub Becomes : Fate → Fate → Type 0
Becomes (Dropped why) later = later ≡ Dropped why
Becomes fate later = (later ≡ fate) ⊎ ((why : Reason) × (later ≡ Dropped why))

-- a later journal begins with the same bytes
abbrev pub Continues : List Entry → List Entry → Type 0
Continues [] later = Unit {0}
Continues (e ∷ es) [] = ⊥
Continues (e ∷ es) (f ∷ fs) =
    (f.byte ≡ e.byte) × (f.is_supplied ≡ e.is_supplied) × Becomes e.fate f.fate × Continues es fs

-- ---- what a byte changes in the journal
-- a byte that is in a line is dropped; what was dropped before stays so, for its own reason
abbrev pub dropped_for : Reason → Fate → Fate
dropped_for why Typed = Dropped why
dropped_for why Ended = Dropped why
dropped_for why (Dropped before) = Dropped before

-- the last n bytes that are in lines are dropped: those after which fewer than n such bytes came
abbrev pub without_last : ℕ → Reason → List Entry → List Entry
without_last n why [] = []
without_last n why (e ∷ es) =
    record e { fate = if nat_lt (length (in_lines es)) n then dropped_for why e.fate else e.fate }
    ∷ without_last n why es

-- a byte arrives, and this becomes of it
abbrev pub with_entry : Arrival → Fate → List Entry → List Entry
with_entry a fate es = es ++ entry a fate ∷ []

-- it ends the edited line, which is dropped if the finished lines have no room for it
abbrev pub journal_after_end : ConsoleState → Arrival → List Entry → List Entry
journal_after_end c a es =
    if is_kept c.finished c.edited then with_entry a Ended es
    else with_entry a (Dropped LinesFull) (without_last (length c.edited) LinesFull es)

-- the journal after a key, by what the key does to a console in this state
abbrev pub journal_after_key : Key → ConsoleState → Arrival → List Entry → List Entry
journal_after_key keys.Return c a es = journal_after_end c a es
journal_after_key keys.NewLine c a es =
    if c.after_return then with_entry a (Dropped SameEnd) es else journal_after_end c a es
journal_after_key keys.Erase c a es =
    with_entry a (Dropped Control) (without_last (length c.edited - length (erased c.edited)) Erased es)
journal_after_key keys.Kill c a es = with_entry a (Dropped Control) (without_last (length c.edited) Erased es)
journal_after_key keys.Interrupt c a es =
    with_entry a (Dropped Control) (without_last (length c.finished + length c.edited) Aborted es)
journal_after_key keys.Text c a es = with_entry a (if has_room c.edited then Typed else Dropped LineFull) es
journal_after_key keys.Ignored c a es = with_entry a (Dropped Ignored) es

-- bytes arrive, one after another
abbrev pub journal_after : ConsoleState → List Arrival → List Entry → List Entry
journal_after c [] es = es
journal_after c (a ∷ more) es = journal_after (after_byte c a.byte) more (journal_after_key (key_of a.byte) c a es)
