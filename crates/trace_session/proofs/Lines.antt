-- The lines of a list of happenings.
use Rattle.std.proofs.Common.{◌≡◌, Bool, false, ℕ, zero, suc, ◌+◌, ◌<◌, ◌&&◌, true, arith, ap₂, le-leb, Option, List, [], ◌∷◌, ◌++◌, map, take, get_or, length, refl, sym, ap, subst, ◌∙◌}
use Rattle.std.specs.Prelude.{cond}
use Rattle.std.specs.List.{filter}
use Rattle.std.proofs.lemmas.List.{map-append, take_more}
use Rattle.kernel_world.specs.declared.reply.Reply.{Reply}
use Rattle.wind_machine.specs.LiveLoadingSaid.{FileSaid}
use Rattle.wind_machine.specs.State.{State}
use Rattle.wind_machine.specs.Replies.{step_reply}
use Rattle.board_trace.specs.Before.{before_step}
use Rattle.wind_machine.specs.Run.{Answers, after}
use Rattle.board_trace.specs.Runs.{Line, line_in, lines_of, step_lines, with_lines}
use Rattle.board_trace.specs.Snapshots.{snapshot_of}
use Rattle.board_trace.specs.Steps.{happenings}
use Rattle.board_trace.specs.Subjects.{subject_name}
use Rattle.board_trace.specs.Views.{SnapshotState}
use Rattle.board_trace.specs.declared.happening.Happening.{Happening}
use Rattle.board_trace.specs.declared.moment.BeforeStep.{BeforeStep}
use Rattle.trace_text.specs.Pages.{Ends, PageState}
use Rattle.trace_session.specs.Choice.{ChoiceState, chosen, chosen_lines, everything, is_chosen, with_if}
use Rattle.trace_session.specs.Steps.{happenings_read, line_of}

-- a line that is told or not, before others
kept : (b : Bool) (l : Line) (ls made : List Line) → with_lines (cond b (l ∷ ls) ls) made ≡ with_lines ls (with_if b l made)
kept true l ls made = refl
kept false l ls made = refl

-- lines, and one line after them
with_both : (c : ChoiceState) (ls : List Line) (l : Line) (made : List Line) → with_if (is_chosen c l) l (with_lines (filter (is_chosen c) ls) made) ≡ with_lines (filter (is_chosen c) (ls ++ l ∷ [])) made
with_both c [] l made = sym (kept (is_chosen c l) l [] made)
with_both c (g ∷ gs) l made =
    ap (with_if (is_chosen c l) l) (kept (is_chosen c g) g (filter (is_chosen c) gs) made)
    ∙ with_both c gs l (with_if (is_chosen c g) g made)
    ∙ sym (kept (is_chosen c g) g (filter (is_chosen c) (gs ++ l ∷ [])) made)

one_more : (c : ChoiceState) (line : Happening → Line) (hs : List Happening) (i : ℕ) (h : Happening) (made : List Line) → i < length hs → h ≡ get_or hs i h
    → with_if (is_chosen c (line h)) (line h) (with_lines (filter (is_chosen c) (map line (take i hs))) made) ≡ with_lines (filter (is_chosen c) (map line (take (i + 1) hs))) made
one_more c line hs i h made below at =
    with_both c (map line (take i hs)) (line h) made
    ∙ ap (λ ls. with_lines (filter (is_chosen c) ls) made) (sym (map-append line (take i hs) (h ∷ [])))
    ∙ ap (λ g. with_lines (filter (is_chosen c) (map line (take i hs ++ g ∷ []))) made) at
    ∙ ap (λ gs. with_lines (filter (is_chosen c) (map line gs)) made) (sym (take_more hs i h below))

-- the lines of what was read of a step are its lines
pub lines_read : (said : FileSaid) (s t : State) (b : BeforeStep) (old before after : SnapshotState) (reply : Option Reply) (hs : List Happening) → hs ≡ happenings_read b old reply t → b ≡ before_step s → before ≡ old → old ≡ snapshot_of s.world
    → after ≡ snapshot_of t.world → reply ≡ step_reply said s → map (line_of b before after) hs ≡ step_lines said s t
unfolding happenings
lines_read said s t b old before after reply hs read is same from to replied =
    ap (map (line_of b before after)) read
    ∙ ap (λ v. map (line_of b v after) (happenings_read b old reply t)) same
    ∙ ap (λ v. map (line_of b old v) (happenings_read b old reply t)) to
    ∙ ap (λ v. map (line_of b v (snapshot_of t.world)) (happenings_read b v reply t)) from
    ∙ ap (λ r. map (line_of b (snapshot_of s.world) (snapshot_of t.world)) (happenings_read b (snapshot_of s.world) r t)) replied
    ∙ ap (λ c. map (line_of c (snapshot_of s.world) (snapshot_of t.world)) (happenings_read c (snapshot_of s.world) (step_reply said s) t)) is

-- and what was read is what happens in it
pub happenings_are : (said : FileSaid) (s t : State) (b : BeforeStep) (old : SnapshotState) (reply : Option Reply) (hs : List Happening) → hs ≡ happenings_read b old reply t → b ≡ before_step s → old ≡ snapshot_of s.world
    → reply ≡ step_reply said s → hs ≡ happenings said s t
unfolding happenings
happenings_are said s t b old reply hs read is from replied =
    read
    ∙ ap (λ v. happenings_read b v reply t) from
    ∙ ap (λ r. happenings_read b (snapshot_of s.world) r t) replied
    ∙ ap (λ c. happenings_read c (snapshot_of s.world) (step_reply said s) t) is

-- the page has one line more
pub added : (is_line : Line → List ℕ → Type 0) (c : ChoiceState) (b : BeforeStep) (before after : SnapshotState) (hs : List Happening) (i : ℕ) (h : Happening) (given : List ℕ) (made : List Line) (page : PageState) (name : List ℕ) → i < length hs → h ≡ get_or hs i h
    → name ≡ subject_name before after h
    → Ends is_line given page (with_if (chosen c b.step h) (record { time = b.time; step = b.step; name = name; what = h }) (with_lines (filter (is_chosen c) (map (line_of b before after) (take i hs))) made))
    → Ends is_line given page (with_lines (filter (is_chosen c) (map (line_of b before after) (take (i + 1) hs))) made)
added is_line c b before after hs i h given made page name below at name_is ends =
    let P : List ℕ → Type 0 = λ n. Ends is_line given page (with_if (chosen c b.step h) (record { time = b.time; step = b.step; name = n; what = h }) (with_lines (filter (is_chosen c) (map (line_of b before after) (take i hs))) made)) in
    subst (Ends is_line given page) (one_more c (line_of b before after) hs i h made below at) (subst P name_is ends)

-- ---- everything
pub all_in : (s t : State) (hs : List Happening) → filter (is_chosen everything) (map (line_in s t) hs) ≡ map (line_in s t) hs
all_in s t [] = refl
all_in s t (h ∷ hs) =
    let rest = filter (is_chosen everything) (map (line_in s t) hs) in
    ap (λ b. cond ((b && true) && true) (line_in s t h ∷ rest) rest) (le-leb 1 (s.steps + 1) (omega arith)) ∙ ap (λ ls. line_in s t h ∷ ls) (all_in s t hs)

pub all_lines : (said : Answers) (s : State) (k : ℕ) → chosen_lines everything said s k ≡ lines_of said s k
all_lines said s zero = refl
all_lines said s (suc k) =
    ap₂ with_lines (all_in (after said s k) (after said s (suc k)) (happenings (said k) (after said s k) (after said s (suc k)))) (all_lines said s k)
