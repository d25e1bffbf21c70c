-- Gaps between tasks: what a contract sees of them, as one is added and one removed.
use Rattle.std.proofs.Common.{◌≡◌, ℕ, suc, ◌+◌, ◌-◌, ◌<◌, ◌≤◌, ◌^◌, max, Bool, true, false, cond, not, eqb, leb, List, [], ◌∷◌, ◌++◌, length, Option, None, Some, is_some, refl, sym, ap, ◌∙◌, subst, arith, append_assoc}
use Rattle.std.specs.Prelude.{IsSome, IsSomeAnd}
use Rattle.std.specs.Option.{is_none, option_map}
use Rattle.std.specs.List.{All}
use Rattle.std.proofs.lemmas.Bool.{eq-eqb, le-leb, lt-leb}
use Rattle.std.proofs.lemmas.List.{append-nil, length-append}
use Rattle.std.proofs.lemmas.List.Elements.{All-cons, All-head, All-tail}
use Rattle.std.proofs.lemmas.Option.{same_Some}
use Rattle.linked_lists.specs.IdTableRecords.{of_id, without}
use Rattle.linked_lists.proofs.IdTablePlaces.{none_without, not_there, gone}
use Rattle.linked_lists.specs.Chains.{Chains, cell_key, all_cells, chain_at, first_key, first_value, is_key, put_before, value_in, value_of, with_cell, without_cell, hold, NextIs, Apart}
use Rattle.linked_lists.proofs.Links.{Absent, absent_cons, absent_append, apart_middle, apart_back, apart_insert, apart_remove, without_middle}
use Rattle.linked_lists.proofs.Keeping.{found_list, value_there}
use Rattle.delay_queue.specs.Wakes.{Order, task_id, task_wake, wake_of, put_in, taken_out, due_at}
use Rattle.delay_queue.specs.Inside.{wakes_from, total, last_left, IsTimed, IsPosition, gap_put, with_gap}

abbrev Cells : Type 0
Cells = List (ℕ × ℕ)

-- ---- look-ups
pub has_wake : (b who : ℕ) (c : Cells) → is_some (wake_of (wakes_from b c) who) ≡ is_some (value_in c who)
has_wake b who [] = refl
has_wake b who (x ∷ xs) =
    elim (eqb x.0 who) as (λ t. is_some (option_map task_wake (cond t (Some (x.0, b + x.1)) (of_id task_id (wakes_from (b + x.1) xs) who))) ≡ is_some (option_map (λ (y : ℕ × ℕ). y.1) (cond t (Some x) (of_id cell_key xs who)))) [
      | true ↦ refl
      | false ↦ has_wake (b + x.1) who xs
    ]

no_option : {X : Type 0} (o : Option X) → is_some o ≡ false → o ≡ None
no_option None e = refl
no_option (Some x) e = absurd (cc)

unmapped : (o : Option (ℕ × ℕ)) → option_map (λ (c : ℕ × ℕ). c.1) o ≡ None → o ≡ None
unmapped None e = refl
unmapped (Some c) e = absurd (cc)

pub no_value : (b who : ℕ) (c : Cells) → wake_of (wakes_from b c) who ≡ None → value_in c who ≡ None
no_value b who c none = no_option (value_in c who) (sym (has_wake b who c) ∙ ap is_some none)

pub no_wake : (b who : ℕ) (c : Cells) → value_in c who ≡ None → wake_of (wakes_from b c) who ≡ None
no_wake b who c none = no_option (wake_of (wakes_from b c) who) (has_wake b who c ∙ ap is_some none)

pub length-wakes : (b : ℕ) (c : Cells) → length (wakes_from b c) ≡ length c
length-wakes b [] = refl
length-wakes b (x ∷ xs) = ap suc (length-wakes (b + x.1) xs)

-- ---- the only list
pub one_chain : (cs : List Cells) → length cs ≡ 1 → cs ≡ chain_at cs 0 ∷ []
one_chain [] e = absurd (omega (arith, e))
one_chain (c ∷ []) e = refl
one_chain (c ∷ d ∷ cs) e = absurd (omega (arith, e))

pub one_cells : (cs : List Cells) → length cs ≡ 1 → all_cells cs ≡ chain_at cs 0
one_cells cs e = ap all_cells (one_chain cs e) ∙ append-nil (chain_at cs 0)

pub value_at : (xs : Cells) (k g : ℕ) (ys : Cells) → Absent k xs → value_in (xs ++ (k, g) ∷ ys) k ≡ Some g
value_at [] k g ys none = rw (eq-eqb k k refl) refl
value_at (x ∷ xs) k g ys none = let here = absent_cons k x xs none in rw here.0 (value_at xs k g ys here.1)

hold_at : (xs : Cells) (k g h : ℕ) (ys : Cells) → Absent k xs → Absent k ys → hold k h (xs ++ (k, g) ∷ ys) ≡ xs ++ (k, h) ∷ ys
hold_at [] k g h ys prefix back = rw (eq-eqb k k refl) (ap (λ zs. (k, h) ∷ zs) (not_there cell_key ys k (λ x. (x.0, h)) back))
hold_at (x ∷ xs) k g h ys prefix back = let here = absent_cons k x xs prefix in rw here.0 (ap (λ zs. x ∷ zs) (hold_at xs k g h ys here.1 back))

put_at : (xs : Cells) (next : Option ℕ) (cell : ℕ × ℕ) (ys : Cells) → next ≡ first_key ys → Apart (xs ++ ys) → put_before next cell (xs ++ ys) ≡ xs ++ cell ∷ ys
put_at [] next cell [] e a = refl
put_at [] next cell (y ∷ ys) e a = ap (λ o. cond (is_key o y.0) (cell ∷ y ∷ ys) (y ∷ put_before next cell ys)) e ∙ ap (λ b. cond b (cell ∷ y ∷ ys) (y ∷ put_before next cell ys)) (eq-eqb y.0 y.0 refl)
put_at (x ∷ xs) next cell ys e a =
    ap (λ b. cond b (cell ∷ x ∷ xs ++ ys) (x ∷ put_before next cell (xs ++ ys))) (other ys e (absent_append x.0 xs ys a.0).1) ∙ ap (λ zs. x ∷ zs) (put_at xs next cell ys e a.1)
  where
    other : (zs : Cells) → next ≡ first_key zs → Absent x.0 zs → is_key next x.0 ≡ false
    other [] q none = ap (λ o. is_key o x.0) q
    other (z ∷ zs) q none = ap (λ o. is_key o x.0) q ∙ (absent_cons x.0 z zs none).0

-- ---- the position of a wake
-- the given number of tasks was passed: `next` is the first of the rest, and the wake is `left` ticks after the last one passed
pub record Passed (c : Cells) (wake : ℕ) (next : Option ℕ) (left passed : ℕ) : Type 0 where
  pub prefix : Cells
  pub back : Cells
  pub whole : c ≡ prefix ++ back
  pub next_is : next ≡ first_key back
  pub sum : total prefix + left ≡ wake
  pub count : length prefix ≡ passed

-- ---- a task is added
-- the list with a smaller or greater gap before its first task
abbrev less_first : ℕ → Cells → Cells
less_first n [] = []
less_first n (c ∷ cs) = (c.0, c.1 - n) ∷ cs

abbrev more_first : ℕ → Cells → Cells
more_first n [] = []
more_first n (c ∷ cs) = (c.0, c.1 + n) ∷ cs

came : (b who left wake : ℕ) (xs ys : Cells) → b + (total xs + left) ≡ wake → ((gap : ℕ) → first_value ys ≡ Some gap → left < gap)
    → wakes_from b (xs ++ (who, left) ∷ less_first left ys) ≡ put_in (wakes_from b (xs ++ ys)) (who, wake)
came b who left wake [] [] e later = let same : b + left ≡ wake = omega (arith, e) in ap (λ n. (who, n) ∷ []) same
came b who left wake [] (y ∷ ys) e later =
    let same : b + left ≡ wake = omega (arith, e) in
    let less : left < y.1 = later y.1 refl in
    let next : b + left + (y.1 - left) ≡ b + y.1 = omega (arith, less) in
    (λ i. (who, same i) ∷ (y.0, next i) ∷ wakes_from (next i) ys)
    ∙ sym (ap (λ t. cond t ((y.0, b + y.1) ∷ put_in (wakes_from (b + y.1) ys) (who, wake)) ((who, wake) ∷ (y.0, b + y.1) ∷ wakes_from (b + y.1) ys)) (lt-leb (b + y.1) wake (omega (arith, same, less))))
came b who left wake (x ∷ xs) ys e later =
    ap (λ zs. (x.0, b + x.1) ∷ zs) (came (b + x.1) who left wake xs ys (omega (arith, e)) later)
    ∙ sym (ap (λ t. cond t ((x.0, b + x.1) ∷ put_in (wakes_from (b + x.1) (xs ++ ys)) (who, wake)) ((who, wake) ∷ (x.0, b + x.1) ∷ wakes_from (b + x.1) (xs ++ ys))) (le-leb (b + x.1) wake (omega (arith, e))))

total-append : (xs ys : Cells) → total (xs ++ ys) ≡ total xs + total ys
total-append [] ys = omega arith
total-append (x ∷ xs) ys = omega (arith, total-append xs ys)

last_came : (who left wake : ℕ) (xs ys : Cells) → total xs + left ≡ wake → ((gap : ℕ) → first_value ys ≡ Some gap → left < gap)
    → total (xs ++ (who, left) ∷ less_first left ys) ≡ max (total (xs ++ ys)) wake
last_came who left wake xs [] e later = omega (arith, e, total-append xs ((who, left) ∷ []), total-append xs [])
last_came who left wake xs (y ∷ ys) e later =
    let less : left < y.1 = later y.1 refl in
    omega (arith, e, less, total-append xs ((who, left) ∷ (y.0, y.1 - left) ∷ ys), total-append xs (y ∷ ys))

-- the list after a task is added, and what a contract sees of it
pub record Came (t : Chains ℕ) (who wake : ℕ) (next : Option ℕ) (left : ℕ) : Type 0 where
  pub list : Cells
  pub chains : with_gap (with_cell t 0 next (who, left)) next (λ gap. gap - left) ≡ record { chains = list ∷ []; room = t.room }
  pub wakes : wakes_from 0 list ≡ put_in (wakes_from 0 (chain_at t.chains 0)) (who, wake)
  pub last : total list ≡ max (total (chain_at t.chains 0)) wake

pub shift_first : (f : ℕ → ℕ) (room : ℕ) (xs : Cells) (y : ℕ × ℕ) (ys : Cells) → Apart (xs ++ y ∷ ys)
    → with_gap (record { chains = (xs ++ y ∷ ys) ∷ []; room = room }) (Some y.0) f ≡ record { chains = (xs ++ (y.0, f y.1) ∷ ys) ∷ []; room = room }
shift_first f room xs y ys a =
    let c = xs ++ y ∷ ys in
    let t : Chains ℕ = record { chains = c ∷ []; room = room } in
    let value : value_of (c ∷ []) y.0 ≡ Some y.1 = ap (λ zs. value_in zs y.0) (append-nil c) ∙ value_at xs y.0 y.1 ys (apart_middle xs y ys a) in
    ap (gap_put t y.0 f) value
    ∙ ap {B = Chains ℕ} (λ zs. record { chains = zs ∷ []; room = room }) (hold_at xs y.0 y.1 (f y.1) ys (apart_middle xs y ys a) (apart_back xs (y ∷ ys) a).0)

pub task_came : (c : Cells) (room who wake : ℕ) (next : Option ℕ) (left : ℕ) → Apart c → Absent who c → IsPosition c wake next left → Came (record { chains = c ∷ []; room = room }) who wake next left
task_came c room who wake next left a none place =
    let xs = place.prefix in
    let t : Chains ℕ = record { chains = c ∷ []; room = room } in
    let a' = subst Apart place.whole a in
    let put : with_cell t 0 next (who, left) ≡ record { chains = (xs ++ (who, left) ∷ place.back) ∷ []; room = room } =
    ap {B = Chains ℕ} (λ zs. record { chains = zs ∷ []; room = room }) (ap (put_before next (who, left)) place.whole ∙ put_at xs next (who, left) place.back place.next_is a') in
    let more = apart_insert xs (who, left) place.back a' (subst (Absent who) place.whole none) in
    record {
      list = xs ++ (who, left) ∷ less_first left place.back;
      chains = (λ i. with_gap (put i) (place.next_is i) (λ gap. gap - left)) ∙ shifted place.back more;
      wakes = came 0 who left wake xs place.back (omega (arith, place.sum)) place.later ∙ ap (λ zs. put_in (wakes_from 0 zs) (who, wake)) (sym place.whole);
      last = last_came who left wake xs place.back place.sum place.later ∙ ap (λ zs. max (total zs) wake) (sym place.whole);
    }
  where
    shifted : (ys : Cells) → Apart (place.prefix ++ (who, left) ∷ ys)
        → with_gap (record { chains = (place.prefix ++ (who, left) ∷ ys) ∷ []; room = room }) (first_key ys) (λ gap. gap - left) ≡ record { chains = (place.prefix ++ (who, left) ∷ less_first left ys) ∷ []; room = room }
    shifted [] b = refl
    shifted (y ∷ ys) b =
        let e = append_assoc place.prefix ((who, left) ∷ []) (y ∷ ys) in
        ap {A = Cells} (λ zs. with_gap (record { chains = zs ∷ []; room = room }) (Some y.0) (λ gap. gap - left)) (sym e)
        ∙ shift_first (λ gap. gap - left) room (place.prefix ++ (who, left) ∷ []) y ys (subst Apart (sym e) b)
        ∙ ap {B = Chains ℕ} (λ zs. record { chains = zs ∷ []; room = room }) (append_assoc place.prefix ((who, left) ∷ []) ((y.0, y.1 - left) ∷ ys))

-- ---- a task is removed
went : (b who gap : ℕ) (xs ys : Cells) → Absent who xs → Absent who ys → wakes_from b (xs ++ more_first gap ys) ≡ taken_out (wakes_from b (xs ++ (who, gap) ∷ ys)) who
went b who gap [] [] prefix back = rw (eq-eqb who who refl) refl
went b who gap [] (y ∷ ys) prefix back =
    let same : b + (y.1 + gap) ≡ b + gap + y.1 = omega arith in
    let others : of_id task_id (wakes_from (b + gap) (y ∷ ys)) who ≡ None = unmapped (of_id task_id (wakes_from (b + gap) (y ∷ ys)) who) (no_wake (b + gap) who (y ∷ ys) (ap (option_map (λ (c : ℕ × ℕ). c.1)) back)) in
    (λ i. (y.0, same i) ∷ wakes_from (same i) ys)
    ∙ sym (none_without task_id (wakes_from (b + gap) (y ∷ ys)) who others)
    ∙ sym (ap (λ t. cond (not t) ((who, b + gap) ∷ taken_out (wakes_from (b + gap) (y ∷ ys)) who) (taken_out (wakes_from (b + gap) (y ∷ ys)) who)) (eq-eqb who who refl))
went b who gap (x ∷ xs) ys prefix back =
    let here = absent_cons who x xs prefix in
    ap (λ zs. (x.0, b + x.1) ∷ zs) (went (b + x.1) who gap xs ys here.1 back)
    ∙ sym (ap (λ t. cond (not t) ((x.0, b + x.1) ∷ taken_out (wakes_from (b + x.1) (xs ++ (who, gap) ∷ ys)) who) (taken_out (wakes_from (b + x.1) (xs ++ (who, gap) ∷ ys)) who)) here.0)

last_went : (who gap : ℕ) (xs ys : Cells) → total (xs ++ more_first gap ys) ≡ last_left (total (xs ++ (who, gap) ∷ ys)) (is_none (first_key ys)) gap
last_went who gap xs [] = omega (arith, total-append xs [], total-append xs ((who, gap) ∷ []))
last_went who gap xs (y ∷ ys) = omega (arith, total-append xs ((y.0, y.1 + gap) ∷ ys), total-append xs ((who, gap) ∷ y ∷ ys))

pub record Went (t : Chains ℕ) (who : ℕ) (next : Option ℕ) (gap : ℕ) : Type 0 where
  pub list : Cells
  pub chains : with_gap (without_cell t who) next (λ g. g + gap) ≡ record { chains = list ∷ []; room = t.room }
  pub wakes : wakes_from 0 list ≡ taken_out (wakes_from 0 (chain_at t.chains 0)) who
  pub last : total list ≡ last_left (total (chain_at t.chains 0)) (is_none next) gap
  pub within : is_none next ≡ true → gap ≤ total (chain_at t.chains 0)

pub task_went : (c : Cells) (room who gap : ℕ) (next : Option ℕ) (xs ys : Cells) → Apart c → c ≡ xs ++ (who, gap) ∷ ys → next ≡ first_key ys → Went (record { chains = c ∷ []; room = room }) who next gap
task_went c room who gap next xs ys a whole next_is =
    let t : Chains ℕ = record { chains = c ∷ []; room = room } in
    let a' = subst Apart whole a in
    let prefix = apart_middle xs (who, gap) ys a' in
    let back = (apart_back xs ((who, gap) ∷ ys) a').0 in
    let gone : without_cell t who ≡ record { chains = (xs ++ ys) ∷ []; room = room } =
    ap {B = Chains ℕ} (λ zs. record { chains = zs ∷ []; room = room }) (ap (λ zs. without cell_key zs who) whole ∙ without_middle xs (who, gap) ys a') in
    record {
      list = xs ++ more_first gap ys;
      chains = (λ i. with_gap (gone i) (next_is i) (λ g. g + gap)) ∙ shifted ys (apart_remove xs (who, gap) ys a');
      wakes = went 0 who gap xs ys prefix back ∙ ap (λ zs. taken_out (wakes_from 0 zs) who) (sym whole);
      last = last_went who gap xs ys ∙ (λ i. last_left (total (sym whole i)) (is_none (sym next_is i)) gap);
      within = λ e. subst (λ zs. gap ≤ total zs) (sym whole) (omega (arith, total-append xs ((who, gap) ∷ ys)));
    }
  where
    shifted : (zs : Cells) → Apart (xs ++ zs) → with_gap (record { chains = (xs ++ zs) ∷ []; room = room }) (first_key zs) (λ g. g + gap) ≡ record { chains = (xs ++ more_first gap zs) ∷ []; room = room }
    shifted [] b = refl
    shifted (z ∷ zs) b = shift_first (λ g. g + gap) room xs z zs b

-- ---- wakes of 64 bits
pub all_put : (P : ℕ × ℕ → Type 0) (t : ℕ × ℕ) (ts : Cells) → P t → All P ts → All P (put_in ts t)
all_put P t [] p ps = All-cons P t [] p ps
all_put P t (u ∷ us) p ps =
    elim (leb u.1 t.1) as (λ b. All P (cond b (u ∷ put_in us t) (t ∷ u ∷ us))) [
      | true ↦ All-cons P u (put_in us t) (All-head P u us ps) (all_put P t us p (All-tail P u us ps))
      | false ↦ All-cons P t (u ∷ us) p ps
    ]

-- two consecutive gaps are together at most the wake after them
pub two_gaps : (b bound : ℕ) (xs : Cells) (c d : ℕ × ℕ) (ys : Cells) → All (λ t. t.1 < bound) (wakes_from b (xs ++ c ∷ d ∷ ys)) → d.1 + c.1 < bound
two_gaps b bound [] c d ys all =
    let second : b + c.1 + d.1 < bound = all 1 (0, 0) (omega arith) in
    omega (arith, second)
two_gaps b bound (x ∷ xs) c d ys all = two_gaps (b + x.1) bound xs c d ys (All-tail (λ (t : ℕ × ℕ). t.1 < bound) (x.0, b + x.1) (wakes_from (b + x.1) (xs ++ c ∷ d ∷ ys)) all)

-- ---- the list as a whole
abbrev pub single : Cells → ℕ → Chains ℕ
single c room = record { chains = c ∷ []; room = room }

pub is_single : (t : Chains ℕ) → length t.chains ≡ 1 → t ≡ single (chain_at t.chains 0) t.room
is_single t one = λ i. record { chains = one_chain t.chains one i; room = t.room }

pub absent_from : (t : Chains ℕ) (who : ℕ) → length t.chains ≡ 1 → value_of t.chains who ≡ None → Absent who (chain_at t.chains 0)
absent_from t who one none = unmapped (of_id cell_key (chain_at t.chains 0) who) (ap (λ c. value_in c who) (sym (one_cells t.chains one)) ∙ none)

some_and : (P : ℕ → Type 0) (o : Option ℕ) (n : ℕ) → o ≡ Some n → P n → IsSomeAnd o P
some_and P o n e p = subst (λ q. IsSomeAnd q P) (sym e) p

-- what is known of a list while a task is added
pub record Coming (t : Chains ℕ) (who wake : ℕ) (next : Option ℕ) (left : ℕ) : Type 0 where
  pub follows : (r : Option ℕ) → NextIs (with_cell t 0 next (who, left)).chains who r → r ≡ next
  pub fits : (x : ℕ) → next ≡ Some x → IsSomeAnd (value_of (with_cell t 0 next (who, left)).chains x) (λ gap. left ≤ gap)
  pub came : Came t who wake next left

coming_single : (c : Cells) (room who wake : ℕ) (next : Option ℕ) (left : ℕ) → Apart c → Absent who c → IsPosition c wake next left → Coming (single c room) who wake next left
coming_single c room who wake next left a none place =
    let xs = place.prefix in
    let a' = subst Apart place.whole a in
    let list : put_before next (who, left) c ≡ xs ++ (who, left) ∷ place.back = ap (put_before next (who, left)) place.whole ∙ put_at xs next (who, left) place.back place.next_is a' in
    let more = apart_insert xs (who, left) place.back a' (subst (Absent who) place.whole none) in
    record {
      follows = λ r after. after 0 xs place.back left list ∙ sym place.next_is;
      fits = λ x e.
          subst (λ zs. IsSomeAnd (value_in zs x) (λ gap. left ≤ gap)) (sym (append-nil (put_before next (who, left) c) ∙ list))
          (there place.back (λ gap q. place.later gap q) (sym place.next_is ∙ e) more);
      came = task_came c room who wake next left a none place;
    }
  where
    there : {x : ℕ} (ys : Cells) → ((gap : ℕ) → first_value ys ≡ Some gap → left < gap) → first_key ys ≡ Some x → Apart (place.prefix ++ (who, left) ∷ ys) → IsSomeAnd (value_in (place.prefix ++ (who, left) ∷ ys) x) (λ gap. left ≤ gap)
    there {x} [] later e b = absurd (cc)
    there {x} (y ∷ ys) later e b =
        let joined = append_assoc place.prefix ((who, left) ∷ []) (y ∷ ys) in
        let less : left < y.1 = later y.1 refl in
        subst (λ k. IsSomeAnd (value_in (place.prefix ++ (who, left) ∷ y ∷ ys) k) (λ gap. left ≤ gap)) (same_Some y.0 x e)
        (some_and (λ gap. left ≤ gap) (value_in (place.prefix ++ (who, left) ∷ y ∷ ys) y.0) y.1
        (ap (λ zs. value_in zs y.0) (sym joined) ∙ value_at (place.prefix ++ (who, left) ∷ []) y.0 y.1 ys (apart_middle (place.prefix ++ (who, left) ∷ []) y ys (subst Apart (sym joined) b)))
        (omega (arith, less)))

pub coming : (t : Chains ℕ) (who wake : ℕ) (next : Option ℕ) (left : ℕ) → length t.chains ≡ 1 → Apart (chain_at t.chains 0) → value_of t.chains who ≡ None → IsPosition (chain_at t.chains 0) wake next left → Coming t who wake next left
coming t who wake next left one a none place =
    subst (λ u. Coming u who wake next left) (sym (is_single t one)) (coming_single (chain_at t.chains 0) t.room who wake next left a (absent_from t who one none) place)

-- the next key is in the list
pub next_there : (c : Cells) (wake : ℕ) (next : Option ℕ) (left x : ℕ) → IsPosition c wake next left → next ≡ Some x → IsSome (value_in c x)
next_there c wake next left x place e = subst (λ zs. IsSome (value_in zs x)) (sym place.whole) (there place.back (sym place.next_is ∙ e))
  where
    there : (ys : Cells) → first_key ys ≡ Some x → IsSome (value_in (place.prefix ++ ys) x)
    there [] q = absurd (cc)
    there (y ∷ ys) q = subst (λ k. IsSome (value_in (place.prefix ++ y ∷ ys) k)) (same_Some y.0 x q) (value_there place.prefix y.0 y.1 ys)

-- what is known of a list while a task is removed
pub record Going (t : Chains ℕ) (who : ℕ) (next : Option ℕ) (gap : ℕ) : Type 0 where
  pub fits : (x : ℕ) → next ≡ Some x → IsSomeAnd (value_of (without_cell t who).chains x) (λ g. g + gap < 2 ^ 64)
  pub went : Went t who next gap

going_single : (c : Cells) (room who gap : ℕ) (next : Option ℕ) (xs ys : Cells) → Apart c → c ≡ xs ++ (who, gap) ∷ ys → next ≡ first_key ys → All (λ t. t.1 < 2 ^ 64) (wakes_from 0 c) → Going (single c room) who next gap
going_single c room who gap next xs ys a whole next_is all =
    let a' = subst Apart whole a in
    let list : without cell_key c who ≡ xs ++ ys = ap (λ zs. without cell_key zs who) whole ∙ without_middle xs (who, gap) ys a' in
    record {
      fits = λ x e.
          subst (λ zs. IsSomeAnd (value_in zs x) (λ g. g + gap < 2 ^ 64)) (sym (append-nil (without cell_key c who) ∙ list))
          (there x ys (sym next_is ∙ e) (apart_remove xs (who, gap) ys a') (subst (λ zs. All (λ t. t.1 < 2 ^ 64) (wakes_from 0 zs)) whole all));
      went = task_went c room who gap next xs ys a whole next_is;
    }
  where
    there : (x : ℕ) (zs : Cells) → first_key zs ≡ Some x → Apart (xs ++ zs) → All (λ t. t.1 < 2 ^ 64) (wakes_from 0 (xs ++ (who, gap) ∷ zs)) → IsSomeAnd (value_in (xs ++ zs) x) (λ g. g + gap < 2 ^ 64)
    there x [] e b bound = absurd (cc)
    there x (z ∷ zs) e b bound =
        subst (λ k. IsSomeAnd (value_in (xs ++ z ∷ zs) k) (λ g. g + gap < 2 ^ 64)) (same_Some z.0 x e)
        (some_and (λ g. g + gap < 2 ^ 64) (value_in (xs ++ z ∷ zs) z.0) z.1 (value_at xs z.0 z.1 zs (apart_middle xs z zs b)) (two_gaps 0 (2 ^ 64) xs (who, gap) z zs bound))

pub going : (t : Chains ℕ) (who gap : ℕ) (next : Option ℕ) → IsTimed t.chains → Apart (chain_at t.chains 0) → value_of t.chains who ≡ Some gap → NextIs t.chains who next → Going t who next gap
going t who gap next is a value after =
    let found = found_list t.chains who gap value in
    let zero_is : found.list ≡ 0 = omega (arith, found.within, is.one) in
    let whole = subst (λ l. chain_at t.chains l ≡ found.spot.prefix ++ (who, gap) ∷ found.spot.back) zero_is found.spot.whole in
    subst (λ u. Going u who next gap) (sym (is_single t is.one))
    (going_single (chain_at t.chains 0) t.room who gap next found.spot.prefix found.spot.back a whole (after 0 found.spot.prefix found.spot.back gap whole) is.wakes)

-- the answer of `is_none`, from its contract
pub none_is : (r : Bool) (o : Option ℕ) → is_some o ≡ not r → r ≡ is_none o
none_is true o e = sym (ap not e)
none_is false o e = sym (ap not e)

-- removing a task that isn't there changes nothing
pub none_goes : (t : Chains ℕ) (who : ℕ) → length t.chains ≡ 1 → value_of t.chains who ≡ None → without_cell t who ≡ t
none_goes t who one none =
    let c = chain_at t.chains 0 in
    ap (λ u. without_cell u who) (is_single t one)
    ∙ ap {B = Chains ℕ} (λ zs. single zs t.room) (none_without cell_key c who (absent_from t who one none))
    ∙ sym (is_single t one)

-- ---- the invariant
pub timed_single : (t : Chains ℕ) (list : Cells) (room : ℕ) → t ≡ single list room → All (λ d. d.1 < 2 ^ 64) (wakes_from 0 list) → IsTimed t.chains
timed_single t list room e all = subst (λ u. IsTimed u.chains) (sym e) (record { one = refl; wakes = all })

pub order_alike : (ts us : Cells) (room : ℕ) → ts ≡ us → ◌≡◌ {A = Order} (record { tasks = ts; room = room }) (record { tasks = us; room = room })
order_alike ts us room e = λ i. record { tasks = e i; room = room }

pub none_taken : (ts : Cells) (who : ℕ) → wake_of ts who ≡ None → ts ≡ taken_out ts who
none_taken ts who none = sym (none_without task_id ts who (unmapped (of_id task_id ts who) none))

-- a removed task isn't there
pub taken_absent : (ts : Cells) (who : ℕ) → wake_of (taken_out ts who) who ≡ None
taken_absent ts who = ap (option_map task_wake) (gone task_id ts who)

-- ---- which task is due
pub first_due : (b tick : ℕ) (c : Cells) (gap who : ℕ) → first_value c ≡ Some gap → first_key c ≡ Some who → b + gap ≤ tick → due_at (wakes_from b c) tick ≡ Some who
first_due b tick [] gap who e k h = absurd (cc)
first_due b tick (x ∷ xs) gap who e k h =
    let same : x.1 ≡ gap = same_Some x.1 gap e in
    ap (λ t. cond t (Some x.0) None) (le-leb (b + x.1) tick (omega (arith, h, same))) ∙ k

pub none_due : (b tick : ℕ) (c : Cells) (gap : ℕ) → first_value c ≡ Some gap → tick < b + gap → due_at (wakes_from b c) tick ≡ None
none_due b tick [] gap e h = absurd (cc)
none_due b tick (x ∷ xs) gap e h =
    let same : x.1 ≡ gap = same_Some x.1 gap e in
    ap (λ t. cond t (Some x.0) None) (lt-leb (b + x.1) tick (omega (arith, h, same)))

pub nobody_due : (b tick : ℕ) (c : Cells) → first_value c ≡ None → due_at (wakes_from b c) tick ≡ None
nobody_due b tick [] e = refl
nobody_due b tick (x ∷ xs) e = absurd (cc)

-- ---- the position of a wake, one task further
pub passed_value : (cs : List Cells) (wake : ℕ) (next : Option ℕ) (left passed id : ℕ) → length cs ≡ 1 → Passed (chain_at cs 0) wake next left passed → next ≡ Some id → IsSome (value_of cs id)
passed_value cs wake next left passed id one p e =
    subst (λ zs. IsSome (value_in zs id)) (sym (one_cells cs one ∙ p.whole)) (there p.back (sym p.next_is ∙ e))
  where
    there : (ys : Cells) → first_key ys ≡ Some id → IsSome (value_in (p.prefix ++ ys) id)
    there [] q = absurd (cc)
    there (y ∷ ys) q = subst (λ k. IsSome (value_in (p.prefix ++ y ∷ ys) k)) (same_Some y.0 id q) (value_there p.prefix y.0 y.1 ys)

-- the first task that wasn't passed, with its gap
pub record Further (c prefix : Cells) (id gap : ℕ) (back : Cells) : Type 0 where
  pub rest : Cells
  pub back_is : back ≡ (id, gap) ∷ rest

pub further : (cs : List Cells) (wake : ℕ) (next : Option ℕ) (left passed id gap : ℕ) → length cs ≡ 1 → Apart (chain_at cs 0) → (p : Passed (chain_at cs 0) wake next left passed) → next ≡ Some id → value_of cs id ≡ Some gap
    → Further (chain_at cs 0) p.prefix id gap p.back
further cs wake next left passed id gap one a p e value =
    seen p.back (sym p.next_is ∙ e) (subst Apart p.whole a) (ap (λ zs. value_in zs id) (sym (one_cells cs one ∙ p.whole)) ∙ value)
  where
    seen : (ys : Cells) → first_key ys ≡ Some id → Apart (p.prefix ++ ys) → value_in (p.prefix ++ ys) id ≡ Some gap → Further (chain_at cs 0) p.prefix id gap ys
    seen [] q b v = absurd (cc)
    seen (y ∷ ys) q b v =
        let key = same_Some y.0 id q in
        let held = same_Some y.1 gap (sym (value_at p.prefix y.0 y.1 ys (apart_middle p.prefix y ys b)) ∙ ap (value_in (p.prefix ++ y ∷ ys)) key ∙ v) in
        record { rest = ys; back_is = λ i. (key i, held i) ∷ ys }

total-push : (xs : Cells) (y : ℕ × ℕ) → total (xs ++ y ∷ []) ≡ total xs + y.1
total-push [] y = omega arith
total-push (x ∷ xs) y = omega (arith, total-push xs y)

pub passed_more : (cs : List Cells) (wake : ℕ) (next after : Option ℕ) (left passed id gap : ℕ) → length cs ≡ 1 → Apart (chain_at cs 0) → Passed (chain_at cs 0) wake next left passed → next ≡ Some id → value_of cs id ≡ Some gap
    → gap ≤ left → NextIs cs id after → Passed (chain_at cs 0) wake after (left - gap) (passed + 1)
passed_more cs wake next after left passed id gap one a p e value few follows =
    let f = further cs wake next left passed id gap one a p e value in
    let whole = p.whole ∙ ap (λ zs. p.prefix ++ zs) f.back_is in
    record {
      prefix = p.prefix ++ (id, gap) ∷ [];
      back = f.rest;
      whole = whole ∙ sym (append_assoc p.prefix ((id, gap) ∷ []) f.rest);
      next_is = follows 0 p.prefix f.rest gap whole;
      sum = omega (arith, p.sum, few, total-push p.prefix (id, gap));
      count = omega (arith, p.count, length-append p.prefix ((id, gap) ∷ []));
    }

pub placed : (cs : List Cells) (wake : ℕ) (next : Option ℕ) (left passed id gap : ℕ) → length cs ≡ 1 → Apart (chain_at cs 0) → Passed (chain_at cs 0) wake next left passed → next ≡ Some id → value_of cs id ≡ Some gap → left < gap
    → IsPosition (chain_at cs 0) wake next left
placed cs wake next left passed id gap one a p e value less =
    let f = further cs wake next left passed id gap one a p e value in
    record {
      prefix = p.prefix;
      back = p.back;
      whole = p.whole;
      next_is = p.next_is;
      sum = p.sum;
      later = λ g q. let same = same_Some gap g (sym (ap first_value f.back_is) ∙ q) in omega (arith, less, same);
    }

-- a wake that isn't before the last one goes to the end
pub placed_last : (c : Cells) (wake last : ℕ) → last ≡ total c → last ≤ wake → IsPosition c wake None (wake - last)
placed_last c wake last is after = record {
  prefix = c;
  back = [];
  whole = sym (append-nil c);
  next_is = refl;
  sum = omega (arith, is, after);
  later = λ gap e. absurd (cc);
}

-- a task is inserted at its position, before the gap after it is lessened
module _ (t : Chains ℕ) (who wake : ℕ) (next after : Option ℕ) (left : ℕ) (inserted : Chains ℕ) (one : length t.chains ≡ 1) (apart : Apart (chain_at t.chains 0))
    (absent : wake_of (wakes_from 0 (chain_at t.chains 0)) who ≡ None) (place : IsPosition (chain_at t.chains 0) wake next left)
    (is : inserted ≡ with_cell t 0 next (who, left)) (goes_on : NextIs inserted.chains who after) where
  comes : Coming t who wake next left
  comes = coming t who wake next left one apart (ap (λ zs. value_in zs who) (one_cells t.chains one) ∙ no_value 0 who (chain_at t.chains 0) absent) place

  follows : after ≡ next
  follows = comes.follows after (subst (λ u. NextIs u.chains who after) is goes_on)

  pub lessened_fits : (x : ℕ) → after ≡ Some x → IsSomeAnd (value_of inserted.chains x) (λ gap. left ≤ gap)
  lessened_fits x e = subst (λ u. IsSomeAnd (value_of u.chains x) (λ gap. left ≤ gap)) (sym is) (comes.fits x (sym follows ∙ e))

  lessened : (new : Chains ℕ) → new ≡ with_gap inserted after (λ gap. gap - left) → new ≡ single comes.came.list t.room
  lessened new e = e ∙ (λ i. with_gap (is i) (follows i) (λ gap. gap - left)) ∙ comes.came.chains

  pub put_timed : (new : Chains ℕ) → new ≡ with_gap inserted after (λ gap. gap - left) → wake < 2 ^ 64 → All (λ d. d.1 < 2 ^ 64) (wakes_from 0 (chain_at t.chains 0)) → IsTimed new.chains
  put_timed new e fits all =
      timed_single new comes.came.list t.room (lessened new e)
      (subst (All (λ d. d.1 < 2 ^ 64)) (sym comes.came.wakes) (all_put (λ d. d.1 < 2 ^ 64) (who, wake) (wakes_from 0 (chain_at t.chains 0)) fits all))

  pub put_last : (new : Chains ℕ) (last : ℕ) → new ≡ with_gap inserted after (λ gap. gap - left) → last ≡ total (chain_at t.chains 0) → max last wake ≡ total (chain_at new.chains 0)
  put_last new last e last_is = ap (λ n. max n wake) last_is ∙ sym comes.came.last ∙ ap (λ u. total (chain_at u.chains 0)) (sym (lessened new e))

  pub put_order : (new : Chains ℕ) → new ≡ with_gap inserted after (λ gap. gap - left)
      → ◌≡◌ {A = Order} (record { tasks = wakes_from 0 (chain_at new.chains 0); room = new.room }) (record { tasks = put_in (wakes_from 0 (chain_at t.chains 0)) (who, wake); room = t.room })
  put_order new e =
      ap (λ u. record { tasks = wakes_from 0 (chain_at u.chains 0); room = u.room }) (lessened new e)
      ∙ order_alike (wakes_from 0 comes.came.list) (put_in (wakes_from 0 (chain_at t.chains 0)) (who, wake)) t.room comes.came.wakes
