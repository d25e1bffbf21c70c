-- A figure after one more line.
use Rattle.std.proofs.Common.{◌≡◌, ℕ, ◌+◌, ◌-◌, ◌^◌, Bool, true, false, if◌then◌else◌, List, [], ◌∷◌, Option, None, Some, refl, sym, ap, ◌∙◌, arith}
use Rattle.std.specs.Prelude.{min}
use Rattle.board_trace.specs.Runs.{Line, joined, joined_or, with_line}
use Rattle.board_trace.specs.Subjects.{subject_of}
use Rattle.board_trace.specs.declared.happening.Happening.{Happening}
use Rattle.trace_summary.specs.Adding.{sum_of}
use Rattle.trace_summary.specs.Figures.{calls_in, exceptions_in, idle_in, is_task, part_of, refusals_in, steps_in, sum_over, switches_in, ticks_in, total}
use Rattle.trace_summary.proofs.Joining.{AddsUp, joined_idle, joined_subject, joined_sum}

-- ---- sums
-- a figure of a joined line is the sum of those of both
abbrev pub LinesAddUp : (Line → ℕ) → Type 0
LinesAddUp f = (newest l : Line) (x : Happening) → joined newest.what l.what ≡ Some x → f (record newest { what = x }) ≡ f newest + f l

module _ (f : Line → ℕ) (l newest : Line) (older : List Line) where
  sum_or : (j : Option Happening) → ((x : Happening) → j ≡ Some x → f (record newest { what = x }) ≡ f newest + f l) → sum_over f (joined_or j l newest older) ≡ f l + (f newest + sum_over f older)
  sum_or None is = refl
  sum_or (Some x) is = omega (arith, is x refl)

pub sum_line : (f : Line → ℕ) → LinesAddUp f → (l : Line) (made : List Line) → sum_over f (with_line l made) ≡ f l + sum_over f made
sum_line f adds l [] = refl
sum_line f adds l (newest ∷ older) = sum_or f l newest older (joined newest.what l.what) (adds newest l)

-- the least of a sum, step by step
sum_within : (a b m : ℕ) → min (a + b) m ≡ min (min b m + a) m
sum_within a b m = omega arith

pub none_more : (a m : ℕ) → min (min a m + 0) m ≡ min a m
none_more a m = omega arith

pub total_line : (f : Line → ℕ) → LinesAddUp f → (l : Line) (made : List Line) → total f (with_line l made) ≡ sum_of (total f made) (f l)
total_line f adds l made = ap (λ n. min n (2 ^ 64 - 1)) (sum_line f adds l made) ∙ sum_within (f l) (sum_over f made) (2 ^ 64 - 1)

-- ---- the figures
pub steps_add : AddsUp steps_in
steps_add who other n m = refl

pub switches_add : AddsUp switches_in
switches_add who other n m = refl

pub calls_add : AddsUp calls_in
calls_add who other n m = refl

pub refusals_add : AddsUp refusals_in
refusals_add who other n m = refl

pub exceptions_add : AddsUp exceptions_in
exceptions_add who other n m = refl

ticks_add : AddsUp ticks_in
ticks_add who other n m = refl

-- of the run
pub ticks_line : (l : Line) (made : List Line) → total (λ l. ticks_in l.what) (with_line l made) ≡ sum_of (total (λ l. ticks_in l.what) made) (ticks_in l.what)
ticks_line l made = total_line (λ l. ticks_in l.what) (λ newest next x e. joined_sum ticks_in ticks_add newest.what next.what x e) l made

pub calls_line : (l : Line) (made : List Line) → total (λ l. calls_in l.what) (with_line l made) ≡ sum_of (total (λ l. calls_in l.what) made) (calls_in l.what)
calls_line l made = total_line (λ l. calls_in l.what) (λ newest next x e. joined_sum calls_in calls_add newest.what next.what x e) l made

pub idle_line : (l : Line) (made : List Line) → total (λ l. idle_in l.time l.what) (with_line l made) ≡ sum_of (total (λ l. idle_in l.time l.what) made) (idle_in l.time l.what)
idle_line l made = total_line (λ l. idle_in l.time l.what) (λ newest next x e. joined_idle newest.time next.time newest.what next.what x e) l made

-- of a task
if_adds : (b : Bool) (p q r : ℕ) → p ≡ q + r → (if b then p else 0) ≡ (if b then q else 0) + (if b then r else 0)
if_adds true p q r e = e
if_adds false p q r e = refl

part_adds : (id : ℕ) (f : Happening → ℕ) → AddsUp f → LinesAddUp (part_of id f)
part_adds id f adds newest l x e =
    let s = joined_subject newest.what l.what x e in
    let mine = is_task id (subject_of newest.what) in
    ap (λ w. if is_task id w then f x else 0) s.0
    ∙ if_adds mine (f x) (f newest.what) (f l.what) (joined_sum f adds newest.what l.what x e)
    ∙ ap (λ w. (if mine then f newest.what else 0) + (if is_task id w then f l.what else 0)) (sym s.1)

-- the line tells of it, or not
pub part_line : (b : Bool) (id : ℕ) (f : Happening → ℕ) → AddsUp f → (l : Line) (made : List Line) → is_task id (subject_of l.what) ≡ b
    → total (part_of id f) (with_line l made) ≡ sum_of (total (part_of id f) made) (if b then f l.what else 0)
part_line b id f adds l made is =
    total_line (part_of id f) (part_adds id f adds) l made ∙ ap (λ x. sum_of (total (part_of id f) made) (if x then f l.what else 0)) is
