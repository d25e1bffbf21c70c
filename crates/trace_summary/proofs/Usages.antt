-- How objects were used after one more line.
use Rattle.std.proofs.Common.{◌≡◌, ℕ, ◌+◌, ◌-◌, ◌≤◌, ◌^◌, Bool, true, false, if◌then◌else◌, List, [], ◌∷◌, ◌++◌, map, Option, None, Some, refl, sym, ap, ap₂, ◌∙◌, arith}
use Rattle.std.specs.Prelude.{max, min, not, ◌&&◌, ◌||◌, ◌==◌}
use Rattle.std.specs.List.{list_any}
use Rattle.std.proofs.lemmas.Bool.{and_parts, eq-eqb, eqb-true, or_parts}
use Rattle.std.proofs.lemmas.List.{map-append}
use Rattle.board_trace.specs.Runs.{Line, joined, joined_or, same_actor, with_line}
use Rattle.board_trace.specs.declared.happening.Happening.{Happening}
use Rattle.board_trace.specs.declared.happening.Happening.TheVariants as told
use Rattle.trace_summary.specs.Adding.{sum_of}
use Rattle.trace_summary.specs.Figures.{sum_over, total}
use Rattle.trace_summary.specs.Holds.{HoldState, ended, held_after, holder_after, longer_of, longest_hold, unheld, with_hold}
use Rattle.trace_summary.specs.Usage.{entries, entry_in, exit_in, exits, held_by, holds_of, most, move_in, move_of, objects_in, present, same_kind, same_object, usage_of, usages, with_mover, with_object}
use Rattle.trace_summary.specs.Using.{entered, held, left, moved, unused, with_move, with_usage}
use Rattle.trace_summary.specs.declared.hold.Hold.{Hold}
use Rattle.trace_summary.specs.declared.hold.Holding.{Holding}
use Rattle.trace_summary.specs.declared.usage.Move.{Move}
use Rattle.trace_summary.specs.declared.usage.Object.{Object}
use Rattle.trace_summary.specs.declared.usage.ObjectKind.{ObjectKind}
use Rattle.trace_summary.specs.declared.usage.ObjectKind.TheVariants as kinds
use Rattle.trace_summary.specs.declared.usage.Usage.{Usage}
use Rattle.trace_summary.proofs.Joining.{if_same}
use Rattle.trace_summary.proofs.Sums.{total_line}

-- ---- the same object
kind_is : (a b : ObjectKind) → same_kind a b ≡ true → a ≡ b
kind_is kinds.Mutex kinds.Mutex e = refl
kind_is kinds.Queue kinds.Queue e = refl
kind_is kinds.Slot kinds.Slot e = refl
kind_is kinds.Mutex kinds.Queue e = absurd (cc)
kind_is kinds.Mutex kinds.Slot e = absurd (cc)
kind_is kinds.Queue kinds.Mutex e = absurd (cc)
kind_is kinds.Queue kinds.Slot e = absurd (cc)
kind_is kinds.Slot kinds.Mutex e = absurd (cc)
kind_is kinds.Slot kinds.Queue e = absurd (cc)

own_kind : (a : ObjectKind) → same_kind a a ≡ true
own_kind kinds.Mutex = refl
own_kind kinds.Queue = refl
own_kind kinds.Slot = refl

abbrev object : ObjectKind → ℕ → Object
object kind id = record { kind = kind; id = id }

object_is : (a b : Object) → same_object a b ≡ true → a ≡ b
object_is a b e =
    let p = and_parts (same_kind a.kind b.kind) (a.id == b.id) e in
    ap₂ object (kind_is a.kind b.kind p.0) (eqb-true a.id b.id p.1)

itself : (a : Object) → same_object a a ≡ true
itself a = ap₂ (λ x y. x && y) (own_kind a.kind) (eq-eqb a.id a.id refl)

turned_by : (b : Bool) (x y : Object) → same_object y x ≡ b → same_object x y ≡ false → same_object y x ≡ false
turned_by false x y is e = is
turned_by true x y is e =
    let bad : true ≡ false = sym (itself x) ∙ ap (same_object x) (sym (object_is y x is)) ∙ e in
    absurd (cc)

turned : (x y : Object) → same_object x y ≡ false → same_object y x ≡ false
turned x y e = turned_by (same_object y x) x y refl e

-- ---- joined lines tell of no move
still : (t u : ℕ) (h g x : Happening) → joined h g ≡ Some x → (move_of t x ≡ None) × (move_of t h ≡ None) × (move_of u g ≡ None)
still t u (told.Instructions who n) (told.Instructions other m) x e =
    let s = if_same (same_actor who other) (told.Instructions who (n + m)) x e in
    (ap (move_of t) (sym s.1), refl, refl)
still t u (told.Instructions who n) g x e = absurd (cc)
still t u h g x e = absurd (cc)

-- ---- sums
none_moves : (f : Option Move → ℕ) → f None ≡ 0 → (newest next : Line) (x : Happening) → joined newest.what next.what ≡ Some x
    → f (move_in (record newest { what = x })) ≡ f (move_in newest) + f (move_in next)
none_moves f zero newest next x e =
    let s = still newest.time next.time newest.what next.what x e in
    ap f s.0 ∙ zero ∙ sym (ap₂ (λ a b. f a + f b) s.1 s.2 ∙ ap₂ (λ a b. a + b) zero zero)

entries_line : (o : Object) (l : Line) (made : List Line) → entries o (with_line l made) ≡ sum_of (entries o made) (entry_in o (move_in l))
entries_line o l made = total_line (λ l. entry_in o (move_in l)) (none_moves (entry_in o) refl) l made

exits_line : (o : Object) (l : Line) (made : List Line) → exits o (with_line l made) ≡ sum_of (exits o made) (exit_in o (move_in l))
exits_line o l made = total_line (λ l. exit_in o (move_in l)) (none_moves (exit_in o) refl) l made

-- ---- the most at one time
abbrev present_with : Object → List Line → Option Move → ℕ
present_with o older mv =
    min (entry_in o mv + sum_over (λ l. entry_in o (move_in l)) older) (2 ^ 64 - 1) - min (exit_in o mv + sum_over (λ l. exit_in o (move_in l)) older) (2 ^ 64 - 1)

max_again : (p q m : ℕ) → q ≡ p → max p m ≡ max p (max q m)
max_again p q m is = omega (arith, is)

module _ (o : Object) (l newest : Line) (older : List Line) where
  most_or : (j : Option Happening) → ((x : Happening) → j ≡ Some x → (move_of newest.time x ≡ None) × (move_in newest ≡ None) × (move_in l ≡ None))
      → most o (joined_or j l newest older) ≡ max (present o (joined_or j l newest older)) (most o (newest ∷ older))
  most_or None is = refl
  most_or (Some x) is =
      let s = is x refl in
      max_again (present_with o older (move_of newest.time x)) (present_with o older (move_in newest)) (most o older) (ap (present_with o older) (s.1 ∙ sym s.0))

most_line : (o : Object) (l : Line) (made : List Line) → most o (with_line l made) ≡ max (present o (with_line l made)) (most o made)
most_line o l [] = refl
most_line o l (newest ∷ older) = most_or o l newest older (joined newest.what l.what) (still newest.time l.time newest.what l.what)

covers : (o : Object) (lines : List Line) → present o lines ≤ most o lines
covers o [] = omega arith
covers o (l ∷ older) = omega arith

-- ---- holds
module _ (o : Object) (l newest : Line) (older : List Line) where
  holds_or : (j : Option Happening) → ((x : Happening) → j ≡ Some x → (move_of newest.time x ≡ None) × (move_in newest ≡ None) × (move_in l ≡ None))
      → holds_of o (joined_or j l newest older) ≡ held_by o (move_in l) (holds_of o (newest ∷ older))
  holds_or None is = refl
  holds_or (Some x) is =
      let s = is x refl in
      ap (λ mv. held_by o mv (holds_of o older)) (s.0 ∙ sym s.1)
      ∙ ap (λ mv. held_by o mv (holds_of o (newest ∷ older))) (sym s.2)

holds_line : (o : Object) (l : Line) (made : List Line) → holds_of o (with_line l made) ≡ held_by o (move_in l) (holds_of o made)
holds_line o l [] = refl
holds_line o l (newest ∷ older) = holds_or o l newest older (joined newest.what l.what) (still newest.time l.time newest.what l.what)

longest_with : (h : Option Hold) (holds : List Hold) → longest_hold (with_hold h holds) ≡ longer_of h (longest_hold holds)
longest_with None holds = refl
longest_with (Some h) holds = refl

-- ---- one object
abbrev usage : Object → ℕ → ℕ → ℕ → Option Holding → Option Hold → Usage
usage o a b c g h = record { object = o; entries = a; exits = b; most = c; holding = g; longest = h }

module _ (o : Object) (g : Option Holding) (h : Option Hold) where
  abbrev with_numbers : ℕ → ℕ → ℕ → Usage
  with_numbers a b c = usage o a b c g h

  same_usage : (a b c x y z : ℕ) → a ≡ x → b ≡ y → c ≡ z → with_numbers a b c ≡ with_numbers x y z
  same_usage a b c x y z p q r = ap (λ n. with_numbers n b c) p ∙ ap (λ n. with_numbers x n c) q ∙ ap (with_numbers x y) r

  -- nothing comes or leaves, something comes, something leaves
  at_rest : (a b c : ℕ) → a ≤ 2 ^ 64 - 1 → b ≤ 2 ^ 64 - 1 → a - b ≤ c → with_numbers (sum_of a 0) (sum_of b 0) (max (sum_of a 0 - sum_of b 0) c) ≡ with_numbers a b c
  at_rest a b c low least covered =
      same_usage (sum_of a 0) (sum_of b 0) (max (sum_of a 0 - sum_of b 0) c) a b c (omega (arith, low)) (omega (arith, least)) (omega (arith, low, least, covered))

  at_entry : (a b c : ℕ) → b ≤ 2 ^ 64 - 1 → with_numbers (sum_of a 1) (sum_of b 0) (max (sum_of a 1 - sum_of b 0) c) ≡ entered (with_numbers a b c)
  at_entry a b c least = let same : sum_of b 0 ≡ b = omega (arith, least) in ap (λ n. with_numbers (sum_of a 1) n (max (sum_of a 1 - n) c)) same

  at_exit : (a b c : ℕ) → a ≤ 2 ^ 64 - 1 → a - b ≤ c → with_numbers (sum_of a 0) (sum_of b 1) (max (sum_of a 0 - sum_of b 1) c) ≡ left (with_numbers a b c)
  at_exit a b c low covered =
      same_usage (sum_of a 0) (sum_of b 1) (max (sum_of a 0 - sum_of b 1) c) a (sum_of b 1) c (omega (arith, low)) refl (omega (arith, low, covered))

  module _ (a b c : ℕ) (low : a ≤ 2 ^ 64 - 1) (least : b ≤ 2 ^ 64 - 1) (covered : a - b ≤ c) where
    move_by : (mine enters : Bool) → with_numbers (sum_of a (if mine && enters then 1 else 0)) (sum_of b (if mine && not enters then 1 else 0)) (max (sum_of a (if mine && enters then 1 else 0) - sum_of b (if mine && not enters then 1 else 0)) c)
        ≡ (if mine then (if enters then entered (with_numbers a b c) else left (with_numbers a b c)) else with_numbers a b c)
    move_by true true = at_entry a b c least
    move_by true false = at_exit a b c low covered
    move_by false true = at_rest a b c low least covered
    move_by false false = at_rest a b c low least covered

-- after a move, or none
abbrev after : Option Move → Usage → Usage
after None u = u
after (Some m) u = moved m u

within : (f : Line → ℕ) (lines : List Line) → total f lines ≤ 2 ^ 64 - 1
within f lines = omega arith

-- the holds of a use
abbrev with_holds : HoldState → Usage → Usage
with_holds hs u = record u { holding = hs.holding; longest = longest_hold hs.holds }

held_is : (m : Move) (hs : HoldState) (u : Usage) → with_holds (held_after m hs) u ≡ held m (with_holds hs u)
held_is m hs u = ap (λ h. record u { holding = holder_after m; longest = h }) (longest_with (ended hs.holding m.time) hs.holds)

entered_held : (enters : Bool) (m : Move) (hs : HoldState) (u : Usage)
    → held m (with_holds hs (if enters then entered u else left u)) ≡ held m (if enters then entered (with_holds hs u) else left (with_holds hs u))
entered_held true m hs u = refl
entered_held false m hs u = refl

move_held : (mine : Bool) (m : Move) (hs : HoldState) (u : Usage)
    → with_holds (if mine then held_after m hs else hs) (if mine then (if m.enters then entered u else left u) else u)
    ≡ (if mine then held m (if m.enters then entered (with_holds hs u) else left (with_holds hs u)) else with_holds hs u)
move_held true m hs u = held_is m hs (if m.enters then entered u else left u) ∙ entered_held m.enters m hs u
move_held false m hs u = refl

module _ (o : Object) (hs : HoldState) (a b c : ℕ) (low : a ≤ 2 ^ 64 - 1) (least : b ≤ 2 ^ 64 - 1) (covered : a - b ≤ c) where
  abbrev plain : ℕ → ℕ → ℕ → Usage
  plain x y z = usage o x y z None None

  usage_by : (mv : Option Move)
      → with_holds (held_by o mv hs) (plain (sum_of a (entry_in o mv)) (sum_of b (exit_in o mv)) (max (sum_of a (entry_in o mv) - sum_of b (exit_in o mv)) c)) ≡ after mv (with_holds hs (plain a b c))
  usage_by None = ap (with_holds hs) (at_rest o None None a b c low least covered)
  usage_by (Some m) =
      ap (with_holds (held_by o (Some m) hs)) (move_by o None None a b c low least covered (same_object o m.object) m.enters)
      ∙ move_held (same_object o m.object) m hs (plain a b c)

usage_line : (o : Object) (l : Line) (made : List Line) → usage_of (with_line l made) o ≡ after (move_in l) (usage_of made o)
usage_line o l made =
    ap (λ (hs : HoldState). usage o (entries o (with_line l made)) (exits o (with_line l made)) (most o (with_line l made)) hs.holding (longest_hold hs.holds)) (holds_line o l made)
    ∙ ap (with_holds (held_by o (move_in l) (holds_of o made)))
    (same_usage o None None _ _ _ _ _ _ (entries_line o l made) (exits_line o l made)
    (most_line o l made ∙ ap₂ (λ a b. max (a - b) (most o made)) (entries_line o l made) (exits_line o l made)))
    ∙ usage_by o (holds_of o made) (entries o made) (exits o made) (most o made) (within (λ l. entry_in o (move_in l)) made) (within (λ l. exit_in o (move_in l)) made) (covers o made) (move_in l)

-- ---- objects
abbrev is_among : Object → List Object → Bool
is_among o os = list_any (λ p. same_object p o) os

module _ (l newest : Line) (older : List Line) where
  objects_or : (j : Option Happening) → ((x : Happening) → j ≡ Some x → (move_of newest.time x ≡ None) × (move_in newest ≡ None) × (move_in l ≡ None))
      → objects_in (joined_or j l newest older) ≡ with_mover (move_in l) (objects_in (newest ∷ older))
  objects_or None is = refl
  objects_or (Some x) is =
      let s = is x refl in
      ap (λ mv. with_mover mv (objects_in older)) (s.0 ∙ sym s.1)
      ∙ ap (λ mv. with_mover mv (objects_in (newest ∷ older))) (sym s.2)

objects_line : (l : Line) (made : List Line) → objects_in (with_line l made) ≡ with_mover (move_in l) (objects_in made)
objects_line l [] = refl
objects_line l (newest ∷ older) = objects_or l newest older (joined newest.what l.what) (still newest.time l.time newest.what l.what)

-- ---- an object to which nothing came
gone_before : (o : Object) (os : List Object) (p : Object) → is_among o (os ++ p ∷ []) ≡ false → (is_among o os ≡ false) × (same_object p o ≡ false)
gone_before o [] p e = (refl, (or_parts (same_object p o) false e).0)
gone_before o (q ∷ os) p e =
    let s = or_parts (same_object q o) (is_among o (os ++ p ∷ [])) e in
    let r = gone_before o os p s.1 in
    (ap₂ (λ a b. a || b) s.0 r.0, r.1)

other_by : (b : Bool) (o p : Object) (os : List Object) → same_object p o ≡ b → is_among p os ≡ true → is_among o os ≡ false → same_object p o ≡ false
other_by false o p os is here gone = is
other_by true o p os is here gone =
    let bad : true ≡ false = sym here ∙ ap (λ q. is_among q os) (object_is p o is) ∙ gone in
    absurd (cc)

not_there_by : (b : Bool) (o p : Object) (os : List Object) → is_among p os ≡ b → is_among o (if b then os else os ++ p ∷ []) ≡ false → (is_among o os ≡ false) × (same_object p o ≡ false)
not_there_by true o p os is e = (e, other_by (same_object p o) o p os refl is e)
not_there_by false o p os is e = gone_before o os p e

unmoved : (o : Object) (mv : Option Move) (os : List Object) → is_among o (with_mover mv os) ≡ false → (is_among o os ≡ false) × (entry_in o mv ≡ 0) × (exit_in o mv ≡ 0) × ((hs : HoldState) → held_by o mv hs ≡ hs)
unmoved o None os e = (e, refl, refl, λ hs. refl)
unmoved o (Some m) os e =
    let s = not_there_by (is_among m.object os) o m.object os refl e in
    let other = turned m.object o s.1 in
    (s.0, ap (λ b. if b && m.enters then 1 else 0) other, ap (λ b. if b && not m.enters then 1 else 0) other, λ hs. ap (λ b. if b then held_after m hs else hs) other)

abbrev came : Object → List Line → ℕ
came o lines = sum_over (λ l. entry_in o (move_in l)) lines

abbrev gone : Object → List Line → ℕ
gone o lines = sum_over (λ l. exit_in o (move_in l)) lines

none_moved : (o : Object) (lines : List Line) → is_among o (objects_in lines) ≡ false → (came o lines ≡ 0) × (gone o lines ≡ 0) × (most o lines ≡ 0) × (holds_of o lines ≡ unheld)
none_moved o [] e = (refl, refl, refl, refl)
none_moved o (l ∷ older) e =
    let s = unmoved o (move_in l) (objects_in older) e in
    let r = none_moved o older s.0 in
    let c : came o (l ∷ older) ≡ 0 = omega (arith, s.1, r.0) in
    let g : gone o (l ∷ older) ≡ 0 = omega (arith, s.2, r.1) in
    (c, g, omega (arith, c, r.2), s.3 (holds_of o older) ∙ r.3)

never_used : (o : Object) (lines : List Line) → is_among o (objects_in lines) ≡ false → unused o ≡ usage_of lines o
never_used o lines e =
    let s = none_moved o lines e in
    same_usage o None None _ _ _ _ _ _ (ap (λ n. min n (2 ^ 64 - 1)) (sym s.0)) (ap (λ n. min n (2 ^ 64 - 1)) (sym s.1)) (sym s.2)
    ∙ ap (λ (hs : HoldState). usage o (entries o lines) (exits o lines) (most o lines) hs.holding (longest_hold hs.holds)) (sym s.3)

-- ---- all objects
rows_among : (lines : List Line) (o : Object) (os : List Object) → list_any (λ u. same_object u.object o) (map (usage_of lines) os) ≡ is_among o os
rows_among lines o [] = refl
rows_among lines o (p ∷ os) = ap (λ b. same_object p o || b) (rows_among lines o os)

row_by : (b : Bool) (lines : List Line) (o : Object) (os : List Object) → is_among o os ≡ b → (is_among o os ≡ false → unused o ≡ usage_of lines o)
    → (if b then map (usage_of lines) os else map (usage_of lines) os ++ unused o ∷ []) ≡ map (usage_of lines) (if b then os else os ++ o ∷ [])
row_by true lines o os is new = refl
row_by false lines o os is new =
    ap (λ u. map (usage_of lines) os ++ u ∷ []) (new is) ∙ sym (map-append (usage_of lines) os (o ∷ []))

row_more : (lines : List Line) (o : Object) → with_usage o (usages lines) ≡ map (usage_of lines) (with_object o (objects_in lines))
row_more lines o =
    let os = objects_in lines in
    ap (λ b. if b then usages lines else usages lines ++ unused o ∷ []) (rows_among lines o os) ∙ row_by (is_among o os) lines o os refl (never_used o lines)

rows_moved : (lines : List Line) (l : Line) (m : Move) → move_in l ≡ Some m → (os : List Object) → map (moved m) (map (usage_of lines) os) ≡ map (usage_of (with_line l lines)) os
rows_moved lines l m is [] = refl
rows_moved lines l m is (o ∷ os) =
    ap₂ (λ u us. u ∷ us) (sym (usage_line o l lines ∙ ap (λ mv. after mv (usage_of lines o)) is)) (rows_moved lines l m is os)

rows_still : (lines : List Line) (l : Line) → move_in l ≡ None → (os : List Object) → map (usage_of lines) os ≡ map (usage_of (with_line l lines)) os
rows_still lines l is [] = refl
rows_still lines l is (o ∷ os) =
    ap₂ (λ u us. u ∷ us) (sym (usage_line o l lines ∙ ap (λ mv. after mv (usage_of lines o)) is)) (rows_still lines l is os)

usages_by : (lines : List Line) (l : Line) (mv : Option Move) → move_in l ≡ mv → with_move mv (usages lines) ≡ map (usage_of (with_line l lines)) (with_mover mv (objects_in lines))
usages_by lines l None is = rows_still lines l is (objects_in lines)
usages_by lines l (Some m) is = ap (map (moved m)) (row_more lines m.object) ∙ rows_moved lines l m is (with_object m.object (objects_in lines))

-- after one more line
pub usages_line : (l : Line) (lines : List Line) → with_move (move_in l) (usages lines) ≡ usages (with_line l lines)
usages_line l lines = usages_by lines l (move_in l) refl ∙ ap (map (usage_of (with_line l lines))) (sym (objects_line l lines))
