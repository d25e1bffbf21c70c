-- What the members of a family are, apart from how they are made.
use Rattle.std.specs.Prelude.{ℕ, ◌<◌, ◌≤◌, ◌≡◌, List, [], ◌∷◌, length, map, None, Ok}
use Rattle.wind_base.specs.Limits.{longest_text_file}
use Rattle.tick_file.specs.Lines.{first_bad_line}
use Rattle.tick_file.specs.Schedule.{at, timetable_of}
use Rattle.tick_file.specs.Writing.{numbered, bring_no_bytes}
use Rattle.tick_family.specs.declared.entry.Entry.{Entry}
use Rattle.tick_family.specs.Members.{choices, members_of, choice_of, member_events, member_text}
use Rattle.tick_family.specs.Reading.{family_of}

-- each entry chooses one of its numbers
abbrev pub IsChoice : List Entry → List ℕ → Type 0
IsChoice [] [] = Unit {0}
IsChoice [] (k ∷ ks) = ⊥
IsChoice (x ∷ xs) [] = ⊥
IsChoice (x ∷ xs) (k ∷ ks) = (k < choices x) × IsChoice xs ks

-- each choice is that of exactly one member, and each member makes a choice
pub record ChoiceLaw : Type 0 where
  pub choice : (xs : List Entry) (i : ℕ) → i < members_of xs → IsChoice xs (choice_of xs i)
  pub member : (xs : List Entry) (ks : List ℕ) → IsChoice xs ks → (i : ℕ) × (i < members_of xs) × (choice_of xs i ≡ ks)
  pub one : (xs : List Entry) (i j : ℕ) → i < members_of xs → j < members_of xs → choice_of xs i ≡ choice_of xs j → i ≡ j

-- the tick file of a member: it is valid, at most 1 MiB, and reads back as the member's events
pub record IsTickFile (xs : List Entry) (i : ℕ) : Type 0 where
  pub valid : first_bad_line (member_text xs i) ≡ None
  pub short : length (member_text xs i) ≤ longest_text_file
  pub events : timetable_of (member_text xs i) ≡ record { events = numbered 1 (member_events xs i); on_demand = bring_no_bytes (member_events xs i) }

abbrev pub MemberLaw : Type 0
MemberLaw = (text : List ℕ) (xs : List Entry) (i : ℕ) → family_of text ≡ Ok xs → i < members_of xs → IsTickFile xs i

-- a plain tick file that is read as a family has one member, with the same events, and with input on demand alike
pub record IsOfOne (text : List ℕ) (xs : List Entry) : Type 0 where
  pub one : members_of xs ≡ 1
  pub events : member_events xs 0 ≡ map at (timetable_of text).events
  pub demand : (timetable_of (member_text xs 0)).on_demand ≡ (timetable_of text).on_demand

abbrev pub PlainLaw : Type 0
PlainLaw = (text : List ℕ) (xs : List Entry) → first_bad_line text ≡ None → family_of text ≡ Ok xs → IsOfOne text xs
