-- The lines of a record, and the events that they ask for.
use Rattle.std.proofs.Common.{◌≡◌, ◌≢◌, ℕ, ◌+◌, ◌-◌, ◌≤◌, ◌<◌, Bool, true, false, cond, List, [], ◌∷◌, ◌++◌, length, take, drop, None, Some, refl, sym, ap, ◌∙◌, subst, arith}
use Rattle.std.specs.Prelude.{◌==◌, ◌||◌, nat_le}
use Rattle.std.specs.List.{list_any}
use Rattle.std.specs.Option.{option_map}
use Rattle.std.proofs.lemmas.Bool.Decides.{nat_tests}
use Rattle.std.proofs.lemmas.List.Sums.{sum_by_push}
use Rattle.std.proofs.lemmas.List.{append_assoc, append_cancel_left, append-nil, length-append, length-take-le}
use Rattle.id_table.specs.Sorting.{first}
use Rattle.wind_base.specs.Limits.{greatest_word}
use Rattle.tick_file.specs.declared.event.Event.{Event}
use Rattle.tick_file.specs.Schedule.{Timed, Timetable, at, timetable_of}
use Rattle.tick_file.specs.Writing.{AreRecordable, IsInRange, MoreLaw, WritingLaw, event_line, numbered, recorded}
use Rattle.wind_machine.specs.Extending.{bytes_asked}
use Rattle.live_session.specs.Cutting.{IsCut, IsServed, IsTextOf, bytes_of, served, whole_lines}
use Rattle.live_session.specs.Record.{last_time}
use Rattle.live_session.proofs.Recording.{last_added, recordable, text_added}

-- ---- a text up to its last 0x0A
or_true : (b : Bool) → (b || true) ≡ true
or_true true = refl
or_true false = refl

any_end : (xs : List ℕ) → list_any (λ x. x == 10) (xs ++ 10 ∷ []) ≡ true
any_end [] = refl
any_end (x ∷ xs) = ap (λ t. (x == 10) || t) (any_end xs) ∙ or_true (x == 10)

pub ends_whole : (xs : List ℕ) → whole_lines (xs ++ 10 ∷ []) ≡ xs ++ 10 ∷ []
ends_whole [] = refl
ends_whole (x ∷ xs) = ap (λ b. cond b (x ∷ whole_lines (xs ++ 10 ∷ [])) []) (any_end (x ∷ xs)) ∙ ap (λ (l : List ℕ). x ∷ l) (ends_whole xs)

pub other_byte : (b : ℕ) → b ≢ 10 → (b == 10) ≡ false
other_byte b other = grind (arith, nat_tests)

any_more : (xs : List ℕ) (b : ℕ) → (b == 10) ≡ false → list_any (λ x. x == 10) (xs ++ b ∷ []) ≡ list_any (λ x. x == 10) xs
any_more [] b other = ap (λ t. t || false) other
any_more (x ∷ xs) b other = ap (λ t. (x == 10) || t) (any_more xs b other)

pub ends_torn : (xs : List ℕ) (b : ℕ) → (b == 10) ≡ false → whole_lines (xs ++ b ∷ []) ≡ whole_lines xs
ends_torn [] b other = ap (λ t. cond t (b ∷ []) []) (any_more [] b other)
ends_torn (x ∷ xs) b other =
    ap (λ t. cond t (x ∷ whole_lines (xs ++ b ∷ [])) []) (any_more (x ∷ xs) b other)
    ∙ ap (λ (l : List ℕ). cond (list_any (λ y. y == 10) (x ∷ xs)) (x ∷ l) []) (ends_torn xs b other)

pub whole_short : (xs : List ℕ) → length (whole_lines xs) ≤ length xs
whole_short [] = omega arith
whole_short (x ∷ xs) =
    elim (list_any (λ y. y == 10) (x ∷ xs)) as (λ t. length (cond t (x ∷ whole_lines xs) []) ≤ length (x ∷ xs))
    [ true ↦ (let rest = whole_short xs in omega (arith, rest)) | false ↦ omega arith ]

-- ---- events that are read one after another
-- these events follow in the timetable of some lines: the lines of what was read, and of what follows
pub record Reading (lines rest : List ℕ) (read : List (ℕ × Event)) (least : ℕ) (coming : List Timed) : Type 0 where
  pub text : lines ≡ recorded read ++ rest
  pub fits : AreRecordable 1 read
  pub least_is : least ≡ last_time 1 read
  pub whole : (xs : List (ℕ × Event)) → AreRecordable 1 xs → lines ≡ recorded xs → (ys : List (ℕ × Event)) × (xs ≡ read ++ ys) × (coming ≡ numbered (1 + length read) ys)

pub later_start : (xs : List (ℕ × Event)) → AreRecordable 1 xs → AreRecordable 0 xs
later_start [] h = tt
later_start (x ∷ xs) h = (omega (arith, h.0), h.1, h.2, h.3)

pub reading_begins : (lines : List ℕ) (coming : List Timed) → ((xs : List (ℕ × Event)) → AreRecordable 0 xs → lines ≡ recorded xs → coming ≡ numbered 1 xs) → Reading lines lines [] 1 coming
reading_begins lines coming same = record {
  text = refl;
  fits = tt;
  least_is = refl;
  whole = λ xs h is. (xs, refl, same xs (later_start xs h) is);
}

-- what comes next
next_is : (n : ℕ) (ys : List (ℕ × Event)) (coming : List Timed) (time : ℕ) (event : Event) → coming ≡ numbered n ys → option_map at (first coming) ≡ Some (time, event)
    → (zs : List (ℕ × Event)) × (ys ≡ (time, event) ∷ zs) × (drop 1 coming ≡ numbered (n + 1) zs)
next_is n [] coming time event same next = let none : option_map at (first coming) ≡ None = ap (λ (es : List Timed). option_map at (first es)) same in absurd (cc)
next_is n (y ∷ zs) coming time event same next =
    let some : option_map at (first coming) ≡ Some (y.0, y.1) = ap (λ (es : List Timed). option_map at (first es)) same in
    let is : (y.0, y.1) ≡ (time, event) = cc in
    (zs, ap (λ (x : ℕ × Event). x ∷ zs) is, ap (λ (es : List Timed). drop 1 es) same)

none_left : (n : ℕ) (ys : List (ℕ × Event)) (coming : List Timed) → coming ≡ numbered n ys → option_map at (first coming) ≡ None → ys ≡ []
none_left n [] coming same next = refl
none_left n (y ∷ zs) coming same next = let some : option_map at (first coming) ≡ Some (y.0, y.1) = ap (λ (es : List Timed). option_map at (first es)) same in absurd (cc)

-- an event among others that can be recorded
fits_there : (least : ℕ) (xs : List (ℕ × Event)) (time : ℕ) (event : Event) (zs : List (ℕ × Event)) → AreRecordable least (xs ++ (time, event) ∷ zs) → (last_time least xs ≤ time) × (time ≤ greatest_word) × IsInRange event
fits_there least [] time event zs h = (h.0, h.1, h.2)
fits_there least (x ∷ xs) time event zs h = fits_there x.0 xs time event zs h.3

module _ (more : MoreLaw) (lines rest : List ℕ) (read : List (ℕ × Event)) (least : ℕ) (coming : List Timed) (r : Reading lines rest read least coming) where
  -- the lines that are left
  left : (xs ys : List (ℕ × Event)) → lines ≡ recorded xs → xs ≡ read ++ ys → rest ≡ recorded ys
  left xs ys is split = append_cancel_left (recorded read) rest (recorded ys) (sym r.text ∙ is ∙ ap recorded split ∙ (more 1 read ys).1)

  -- nothing is left
  pub reading_done : rest ≡ [] → lines ≡ recorded read
  reading_done none = r.text ∙ ap (λ (bytes : List ℕ). recorded read ++ bytes) none ∙ append-nil (recorded read)

  pub reading_short : option_map at (first coming) ≡ None → rest ≢ [] → (xs : List (ℕ × Event)) → AreRecordable 1 xs → lines ≢ recorded xs
  reading_short next some xs h is =
      let w = r.whole xs h is in
      let none : w.0 ≡ [] = none_left (1 + length read) w.0 coming w.2 next in
      some (left xs w.0 is w.1 ∙ ap recorded none)

  module _ (time : ℕ) (event : Event) (next : option_map at (first coming) ≡ Some (time, event)) where
    goes_on : (xs : List (ℕ × Event)) → AreRecordable 1 xs → lines ≡ recorded xs → (zs : List (ℕ × Event)) × (xs ≡ read ++ (time, event) ∷ zs) × (drop 1 coming ≡ numbered (1 + length read + 1) zs)
    goes_on xs h is =
        let w = r.whole xs h is in
        let n = next_is (1 + length read) w.0 coming time event w.2 next in
        (n.0, w.1 ∙ ap (λ (ys : List (ℕ × Event)). read ++ ys) n.1, n.2)

    pub reading_unfit : ((least ≤ time) × (time ≤ greatest_word) × IsInRange event → ⊥) → (xs : List (ℕ × Event)) → AreRecordable 1 xs → lines ≢ recorded xs
    reading_unfit unfit xs h is =
        let w = goes_on xs h is in
        let there = fits_there 1 read time event w.0 (subst (λ (es : List (ℕ × Event)). AreRecordable 1 es) w.1 h) in
        unfit (subst (λ n. n ≤ time) (sym r.least_is) there.0, there.1, there.2)

    pub reading_other : (line : List ℕ) → line ≡ event_line time event ++ 10 ∷ [] → ((after : List ℕ) → rest ≢ line ++ after) → (xs : List (ℕ × Event)) → AreRecordable 1 xs → lines ≢ recorded xs
    reading_other line line_is other xs h is =
        let w = goes_on xs h is in
        let whole : rest ≡ (event_line time event ++ 10 ∷ []) ++ recorded w.0 = left xs ((time, event) ∷ w.0) is w.1 ∙ sym (append_assoc (event_line time event) (10 ∷ []) (recorded w.0)) in
        other (recorded w.0) (whole ∙ ap (λ (l : List ℕ). l ++ recorded w.0) (sym line_is))

    pub reading_more : (line after : List ℕ) → line ≡ event_line time event ++ 10 ∷ [] → rest ≡ line ++ after → least ≤ time → time ≤ greatest_word → IsInRange event
        → Reading lines after (read ++ (time, event) ∷ []) time (drop 1 coming)
    reading_more line after line_is rest_is late fits range = record {
      text =
          r.text ∙ ap (λ (bytes : List ℕ). recorded read ++ bytes) rest_is ∙ sym (append_assoc (recorded read) line after)
          ∙ ap (λ (bytes : List ℕ). bytes ++ after) (ap (λ (l : List ℕ). recorded read ++ l) line_is ∙ sym (text_added more read time event));
      fits = recordable 1 read time event r.fits (subst (λ n. n ≤ time) r.least_is late) fits range;
      least_is = sym (last_added 1 read time event);
      whole = λ xs h is.
          let w = goes_on xs h is in
          let number : 1 + length read + 1 ≡ 1 + length (read ++ (time, event) ∷ []) = omega (arith, length-append read ((time, event) ∷ [])) in
          (w.0, w.1 ∙ sym (append_assoc read ((time, event) ∷ []) w.0), w.2 ∙ ap (λ n. numbered n w.0) number);
    }

-- fewer are left
pub fewer_left : (coming : List Timed) (x : ℕ × Event) → option_map at (first coming) ≡ Some x → length (drop 1 coming) < length coming
fewer_left [] x some = absurd (cc)
fewer_left (t ∷ ts) x some = omega arith

-- ---- events whose bytes are there
-- none is served
pub none_served : (left : ℕ) (rest : List (ℕ × Event)) → length rest ≡ 0 → served left rest ≡ []
none_served left [] e = refl
none_served left (x ∷ xs) e = absurd (omega (arith, e))

pub short_served : (left : ℕ) (rest : List (ℕ × Event)) (x : ℕ × Event) (xs : List (ℕ × Event)) → rest ≡ x ∷ xs → left < bytes_asked x.1 → served left rest ≡ []
short_served left rest x xs is short =
    let few : nat_le (bytes_asked x.1) left ≡ false = grind (arith, nat_tests) in
    ap (λ (es : List (ℕ × Event)). served left es) is ∙ ap (λ b. cond b (x ∷ served (left - bytes_asked x.1) xs) []) few

pub served_few : (len : ℕ) (xs : List (ℕ × Event)) → length (served len xs) ≤ length xs
served_few len [] = omega arith
served_few len (x ∷ xs) =
    elim (nat_le (bytes_asked x.1) len) as (λ b. length (cond b (x ∷ served (len - bytes_asked x.1) xs) []) ≤ length (x ∷ xs))
    [ true ↦ (let rest = served_few (len - bytes_asked x.1) xs in omega (arith, rest)) | false ↦ omega arith ]

pub record Serving (len : ℕ) (events rest : List (ℕ × Event)) (ticks : List ℕ) (bytes last : ℕ) : Type 0 where
  pub done : List (ℕ × Event)
  pub whole : events ≡ done ++ rest
  pub split : served len events ≡ done ++ served (len - bytes) rest
  pub text : ticks ≡ recorded done
  pub sum : bytes ≡ bytes_of done
  pub within : bytes ≤ len
  pub last_is : last ≡ last_time 0 done

pub serving_begins : (len : ℕ) (events : List (ℕ × Event)) → Serving len events events [] 0 0
serving_begins len events = record { done = []; whole = refl; split = (let all : len ≡ len - 0 = omega arith in ap (λ n. served n events) all); text = refl; sum = refl; within = omega arith; last_is = refl }

bytes_more : (xs : List (ℕ × Event)) (x : ℕ × Event) → bytes_of (xs ++ x ∷ []) ≡ bytes_of xs + bytes_asked x.1
bytes_more xs x = sum_by_push (λ y. bytes_asked y.1) xs x

module _ (len : ℕ) (events rest : List (ℕ × Event)) (ticks : List ℕ) (bytes last : ℕ) (s : Serving len events rest ticks bytes last) where
  -- the next one is served too
  pub serving_more : MoreLaw → (time : ℕ) (event : Event) (later : List (ℕ × Event)) (line : List ℕ) → rest ≡ (time, event) ∷ later → bytes_asked event ≤ len - bytes → line ≡ event_line time event ++ 10 ∷ []
      → Serving len events later (ticks ++ line) (bytes + bytes_asked event) time
  serving_more more time event later line rest_is room line_is =
      let x : ℕ × Event = (time, event) in
      let enough : nat_le (bytes_asked event) (len - bytes) ≡ true = grind (arith, nat_tests) in
      let left : len - bytes - bytes_asked event ≡ len - (bytes + bytes_asked event) = omega arith in
      let first_served : served (len - bytes) (x ∷ later) ≡ x ∷ served (len - (bytes + bytes_asked event)) later =
      ap (λ b. cond b (x ∷ served (len - bytes - bytes_asked event) later) []) enough ∙ ap (λ n. x ∷ served n later) left in
      record {
        done = s.done ++ x ∷ [];
        whole = s.whole ∙ ap (λ (es : List (ℕ × Event)). s.done ++ es) rest_is ∙ sym (append_assoc s.done (x ∷ []) later);
        split =
            s.split ∙ ap (λ (es : List (ℕ × Event)). s.done ++ served (len - bytes) es) rest_is ∙ ap (λ (es : List (ℕ × Event)). s.done ++ es) first_served
            ∙ sym (append_assoc s.done (x ∷ []) (served (len - (bytes + bytes_asked event)) later));
        text = ap (λ (t : List ℕ). t ++ line) s.text ∙ ap (λ (l : List ℕ). recorded s.done ++ l) line_is ∙ sym (text_added more s.done time event);
        sum = ap (λ n. n + bytes_asked event) s.sum ∙ sym (bytes_more s.done x);
        within = omega (arith, s.within, room);
        last_is = sym (last_added 0 s.done time event);
      }

  -- no more is
  served_all : served len events ≡ s.done → IsServed len events ticks bytes (length events - length rest) last
  served_all same =
      let all : length events ≡ length s.done + length rest = ap length s.whole ∙ length-append s.done rest in
      let number : length events - length rest ≡ length s.done = omega (arith, all) in
      record {
        text = s.text ∙ ap recorded (sym same);
        sum = s.sum ∙ ap bytes_of (sym same);
        within = s.within;
        count = number ∙ ap length (sym same);
        last_is = s.last_is ∙ ap (λ (es : List (ℕ × Event)). last_time 0 es) (sym same);
      }

  pub serving_ends : served (len - bytes) rest ≡ [] → IsServed len events ticks bytes (length events - length rest) last
  serving_ends none = served_all (s.split ∙ ap (λ (es : List (ℕ × Event)). s.done ++ es) none ∙ append-nil s.done)

pub served_as : (len n : ℕ) (events es : List (ℕ × Event)) (text : List ℕ) (bytes count last : ℕ) → n ≡ len → es ≡ events → IsServed n es text bytes count last → IsServed len events text bytes count last
served_as len n events es text bytes count last same is s =
    subst (λ (k : ℕ). IsServed k events text bytes count last) same (subst (λ (xs : List (ℕ × Event)). IsServed n xs text bytes count last) is s)

-- ---- what is kept
served_fits : (len least : ℕ) (xs : List (ℕ × Event)) → AreRecordable least xs → AreRecordable least (served len xs)
served_fits len least [] h = tt
served_fits len least (x ∷ xs) h =
    elim (nat_le (bytes_asked x.1) len) as (λ b. AreRecordable least (cond b (x ∷ served (len - bytes_asked x.1) xs) []))
    [ true ↦ (h.0, h.1, h.2, served_fits (len - bytes_asked x.1) x.0 xs h.3) | false ↦ tt ]

served_short : (len : ℕ) (xs : List (ℕ × Event)) → length (recorded (served len xs)) ≤ length (recorded xs)
served_short len [] = omega arith
served_short len (x ∷ xs) =
    let line = event_line x.0 x.1 in
    elim (nat_le (bytes_asked x.1) len) as (λ b. length (recorded (cond b (x ∷ served (len - bytes_asked x.1) xs) [])) ≤ length (line ++ 10 ∷ recorded xs))
    [ true ↦ (let rest = served_short (len - bytes_asked x.1) xs in omega (arith, rest, length-append line (10 ∷ recorded (served (len - bytes_asked x.1) xs)), length-append line (10 ∷ recorded xs))) | false ↦ omega arith ]

-- two lists with the same lines are the same
numbered_same : (n : ℕ) (xs ys : List (ℕ × Event)) → numbered n xs ≡ numbered n ys → xs ≡ ys
numbered_same n [] [] e = refl
numbered_same n [] (y ∷ ys) e = absurd (cc)
numbered_same n (x ∷ xs) [] e = absurd (cc)
numbered_same n (x ∷ xs) (y ∷ ys) e =
    let rest : numbered (n + 1) xs ≡ numbered (n + 1) ys = ap (λ (es : List Timed). drop 1 es) e in
    let heads : Some (x.0, x.1) ≡ Some (y.0, y.1) = ap (λ (es : List Timed). option_map at (first es)) e in
    let head : (x.0, x.1) ≡ (y.0, y.1) = cc in
    ap (λ (z : ℕ × Event). z ∷ xs) head ∙ ap (λ (zs : List (ℕ × Event)). y ∷ zs) (numbered_same (n + 1) xs ys rest)

same_events : WritingLaw → (xs ys : List (ℕ × Event)) → AreRecordable 1 xs → AreRecordable 1 ys → recorded xs ≡ recorded ys → xs ≡ ys
same_events law xs ys h k same =
    numbered_same 1 xs ys
    (sym (ap (λ (t : Timetable). t.events) (law xs (later_start xs h)).0) ∙ ap (λ (text : List ℕ). (timetable_of text).events) same ∙ ap (λ (t : Timetable). t.events) (law ys (later_start ys k)).0)

module _ (law : WritingLaw) (console ticks : List ℕ) (events : List (ℕ × Event)) (lines : whole_lines ticks ≡ recorded events) (fits : AreRecordable 1 events) (text : List ℕ) (bytes count last : ℕ) (s : IsServed (length console) events text bytes count last) where
  pub cut_done : length events - count ≤ 1 → (kept : List ℕ) → kept ≡ take bytes console → IsCut console ticks kept text × IsTextOf kept text count last
  cut_done most kept kept_is =
      let len = length console in (
        record {
          events = events;
          lines = lines;
          fits = fits;
          kept_ticks_is = s.text;
          kept_console_is = kept_is ∙ ap (λ n. take n console) s.sum;
          last = omega (arith, most, s.count);
        },
        record {
          events = served len events;
          text = s.text;
          fits = served_fits len 1 events fits;
          count = s.count;
          last_is = s.last_is;
          bytes = ap length kept_is ∙ length-take-le bytes console s.within ∙ s.sum;
        },
      )

  pub text_short : length text ≤ length ticks
  text_short = omega (arith, ap length s.text, served_short (length console) events, ap length lines, whole_short ticks)

  pub cut_not : 1 < length events - count → (kept_console kept_ticks : List ℕ) → IsCut console ticks kept_console kept_ticks → ⊥
  cut_not few kept_console kept_ticks c =
      let same : events ≡ c.events = same_events law events c.events fits c.fits (sym lines ∙ c.lines) in
      let last : length events ≤ length (served (length console) events) + 1 = subst (λ (es : List (ℕ × Event)). length es ≤ length (served (length console) es) + 1) (sym same) c.last in
      absurd (omega (arith, few, last, s.count))
