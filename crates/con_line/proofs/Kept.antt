-- A byte and the dropping of a line keep the invariant of the lines.
use Rattle.std.proofs.Common.{◌≡◌, ◌≢◌, ℕ, ◌+◌, ◌-◌, ◌<◌, ◌≤◌, List, [], ◌∷◌, ◌++◌, Bool, true, false, refl, ap, sym, ◌∙◌, arith, length, length-append, length-drop}
use Rattle.std.specs.Prelude.{if◌then◌else◌, All}
use Rattle.std.proofs.lemmas.Bool.Decides.{nat_tests}
use Rattle.std.proofs.lemmas.List.{length-take-le}
use Rattle.std.proofs.lemmas.List.Elements.{All-take, All-append, All-cons}
use Rattle.std.proofs.lemmas.List.Sums.{prefix_len-le-length}
use Rattle.wind_base.specs.Lines.{line_length}
use Rattle.con_line.specs.State.{ConsoleState}
use Rattle.con_line.specs.Keys.{key_of, has_room, line_ended, after_key}
use Rattle.con_line.specs.Lines.{are_lines, KeepsLines, is_kept, with_end, first_line}
use Rattle.con_line.specs.Laws.{Keeps, StartLaw, ByteLaw, DropLaw}
use Rattle.con_line.specs.declared.key.Key.{Key}
use Rattle.con_line.specs.declared.key.Key.TheVariants as keys
use Rattle.con_line.proofs.Endings.{lines_more, lines_less, line_within}

-- what holds with a test at each of its answers
pub by_test : (P : Bool → Type 0) (b : Bool) → (b ≡ true → P true) → (b ≡ false → P false) → P b
by_test P true p q = p refl
by_test P false p q = q refl

-- another edited line
retyped : (old new finished : List ℕ) → KeepsLines old finished → length new ≤ 255 → All (λ b. b ≢ 10) new → KeepsLines new finished
retyped old new finished h short unended = record { short = short; unended = unended; lines = h.lines; within = h.within }

no_bytes : All (λ (b : ℕ). b ≢ 10) []
no_bytes k d below = absurd (omega arith)

no_lines : KeepsLines [] []
no_lines = record { short = omega arith; unended = no_bytes; lines = refl; within = omega arith }

-- a line that is added
line_kept : (edited finished : List ℕ) → KeepsLines edited finished → length finished + length (edited ++ 10 ∷ []) ≤ 4096 → KeepsLines [] (finished ++ (edited ++ 10 ∷ []))
line_kept edited finished h room = record {
  short = omega arith;
  unended = no_bytes;
  lines = lines_more 0 finished edited h.lines h.unended h.short;
  within = omega (arith, length-append finished (edited ++ 10 ∷ []));
}

-- the edited line ends
line_keeps : (c : ConsoleState) → Keeps c → Keeps (line_ended c)
line_keeps c h =
    by_test
    (λ t. KeepsLines [] (if t then c.finished ++ with_end c.edited else c.finished))
    (is_kept c.finished c.edited)
    (λ e. line_kept c.edited c.finished h (grind (arith, nat_tests, e)))
    (λ e. retyped c.edited [] c.finished h (omega arith) no_bytes)

-- a key is pressed
pub key_keeps : (k : Key) (c : ConsoleState) (b : ℕ) → (k ≡ keys.Text → b ≢ 10) → Keeps c → Keeps (after_key k c b)
key_keeps keys.Return c b plain h = line_keeps c h
key_keeps keys.NewLine c b plain h = by_test (λ t. Keeps (if t then c else line_ended c)) c.after_return (λ e. h) (λ e. line_keeps c h)
key_keeps keys.Erase c b plain h =
    retyped c.edited _ c.finished h (omega (arith, length-take-le (length c.edited - 1) c.edited (omega arith), h.short)) (All-take (λ x. x ≢ 10) (length c.edited - 1) c.edited h.unended)
key_keeps keys.Kill c b plain h = retyped c.edited [] c.finished h (omega arith) no_bytes
key_keeps keys.Interrupt c b plain h = no_lines
key_keeps keys.Text c b plain h =
    by_test
    (λ t. KeepsLines (if t then c.edited ++ b ∷ [] else c.edited) c.finished)
    (has_room c.edited)
    (λ e. let room : length c.edited < 255 = grind (arith, nat_tests, e) in retyped c.edited (c.edited ++ b ∷ []) c.finished h (omega (arith, length-append c.edited (b ∷ []))) (All-append (λ x. x ≢ 10) c.edited (b ∷ []) h.unended (All-cons (λ x. x ≢ 10) b [] (plain refl) no_bytes)))
    (λ e. h)
key_keeps keys.Ignored c b plain h = h

-- a typed byte is no end of line
pub text_key : (b : ℕ) → key_of b ≡ keys.Text → b ≢ 10
text_key b e ten = let bad : keys.NewLine ≡ keys.Text = ap key_of (sym ten) ∙ e in cc

pub start_keeps : StartLaw
start_keeps = no_lines

pub byte_keeps : ByteLaw
byte_keeps c b h = key_keeps (key_of b) c b (text_key b) h

pub drop_keeps : DropLaw
drop_keeps c h = record {
  short = h.short;
  unended = h.unended;
  lines = lines_less 0 c.finished h.lines;
  within = omega (arith, length-drop (line_length c.finished + 1) c.finished, h.within);
}

-- a finished line has at most 255 bytes
pub first_short : (c : ConsoleState) → are_lines 0 c.finished ≡ true → length (first_line c) ≤ 255
first_short c lines =
    omega (arith, length-take-le (line_length c.finished) c.finished (prefix_len-le-length _ c.finished), line_within 0 c.finished lines)
