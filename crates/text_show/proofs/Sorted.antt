-- Tasks by rising id, priority by priority, are the tasks in order of priority and id.
use Rattle.std.proofs.Common.{◌≡◌, ℕ, zero, suc, ◌+◌, ◌<◌, ◌≤◌, Bool, true, false, List, [], ◌∷◌, ◌++◌, refl, ap, sym, ◌∙◌, arith}
use Rattle.std.specs.Prelude.{if◌then◌else◌, ◌==◌, length, take, slice_index_or}
use Rattle.std.specs.List.{filter}
use Rattle.std.proofs.lemmas.Bool.Decides.{nat_tests}
use Rattle.id_table.specs.Sorting.{sorted, insert_sorted}
use Rattle.task_block.specs.declared.task.Task.{Task}
use Rattle.text_show.specs.Tasks.{has_priority, from_priority, stands_before, AreLow}
use Rattle.text_show.proofs.Order.{take_one_more}
use Rattle.id_table.specs.Records.{Rising}
use Rattle.wind_core.specs.State.{task_id}

abbrev pub AllOf : (Task → Type 0) → List Task → Type 0
AllOf P [] = Unit {0}
AllOf P (t ∷ ts) = P t × AllOf P ts

-- the ids rise along the list
abbrev pub Rises : List Task → Type 0
Rises [] = Unit {0}
Rises (t ∷ ts) = AllOf (λ u. t.id < u.id) ts × Rises ts

all_append : (P : Task → Type 0) (xs ys : List Task) → AllOf P xs → AllOf P ys → AllOf P (xs ++ ys)
all_append P [] ys a b = b
all_append P (x ∷ xs) ys a b = (a.0, all_append P xs ys a.1 b)

all_filter : (P Q : Task → Type 0) (p : Task → Bool) (xs : List Task) → ((u : Task) → P u → p u ≡ true → Q u) → AllOf P xs → AllOf Q (filter p xs)
all_filter P Q p [] f a = tt
all_filter P Q p (x ∷ xs) f a = by (all_filter P Q p xs f a.1) (p x) refl
  where
    by : AllOf Q (filter p xs) → (b : Bool) → p x ≡ b → AllOf Q (if b then x ∷ filter p xs else filter p xs)
    by rest true e = (f x a.0 e, rest)
    by rest false e = rest

all_from : (P Q : Task → Type 0) (k pri : ℕ) (ts : List Task) → ((u : Task) → P u → pri ≤ u.pri → Q u) → AllOf P ts → AllOf Q (from_priority k pri ts)
all_from P Q zero pri ts f a = tt
all_from P Q (suc k) pri ts f a =
    all_append Q (filter (has_priority pri) ts) (from_priority k (suc pri) ts)
    (all_filter P Q (has_priority pri) ts (λ u p e. f u p (let same : u.pri ≡ pri = grind (arith, nat_tests) in omega arith)) a)
    (all_from P Q k (suc pri) ts (λ u p le. f u p (omega arith)) a)

stops : (t : Task) (xs : List Task) → AllOf (λ u. stands_before u t ≡ false) xs → insert_sorted stands_before t xs ≡ t ∷ xs
stops t [] a = refl
stops t (x ∷ xs) a = ap (λ b. if b then x ∷ insert_sorted stands_before t xs else t ∷ x ∷ xs) a.0

passes : (t : Task) (xs ys : List Task) → AllOf (λ u. stands_before u t ≡ true) xs → insert_sorted stands_before t (xs ++ ys) ≡ xs ++ insert_sorted stands_before t ys
passes t [] ys a = refl
passes t (x ∷ xs) ys a = ap (λ b. if b then x ∷ insert_sorted stands_before t (xs ++ ys) else t ∷ x ∷ (xs ++ ys)) a.0 ∙ ap (λ l. x ∷ l) (passes t xs ys a.1)

before_lower : (t u : Task) → u.pri < t.pri → stands_before u t ≡ true
before_lower t u lt = grind (arith, nat_tests)

not_before : (t u : Task) → t.pri ≤ u.pri → t.id < u.id → stands_before u t ≡ false
not_before t u le lt = grind (arith, nat_tests)

skips : (t : Task) (ts : List Task) (k pri : ℕ) → t.pri < pri → from_priority k pri (t ∷ ts) ≡ from_priority k pri ts
skips t ts zero pri lt = refl
skips t ts (suc k) pri lt =
    let other : (t.pri == pri) ≡ false = grind (arith, nat_tests) in
    let next : t.pri < suc pri = omega arith in
    ap (λ b. (if b then t ∷ filter (has_priority pri) ts else filter (has_priority pri) ts) ++ from_priority k (suc pri) (t ∷ ts)) other
    ∙ ap (λ l. filter (has_priority pri) ts ++ l) (skips t ts k (suc pri) next)

has_it : (t : Task) (pri : ℕ) (e : (t.pri == pri) ≡ true) → t.pri ≡ pri
has_it t pri e = grind (arith, nat_tests)

inserts : (t : Task) (ts : List Task) (k pri : ℕ) → pri ≤ t.pri → t.pri < pri + k → AllOf (λ u. t.id < u.id) ts → insert_sorted stands_before t (from_priority k pri ts) ≡ from_priority k pri (t ∷ ts)
inserts t ts zero pri low high rise = absurd (omega arith)
inserts t ts (suc k) pri low high rise = by (λ (above : pri < t.pri). inserts t ts k (suc pri) (omega arith) (omega arith) rise) (t.pri == pri) refl
  where
    by : (pri < t.pri → insert_sorted stands_before t (from_priority k (suc pri) ts) ≡ from_priority k (suc pri) (t ∷ ts)) → (b : Bool) → (t.pri == pri) ≡ b → insert_sorted stands_before t (from_priority (suc k) pri ts) ≡ (if b then t ∷ filter (has_priority pri) ts else filter (has_priority pri) ts) ++ from_priority k (suc pri) (t ∷ ts)
    by more true e =
        let same = has_it t pri e in
        let after : t.pri < suc pri = omega arith in
        stops t (from_priority (suc k) pri ts) (all_from (λ u. t.id < u.id) (λ u. stands_before u t ≡ false) (suc k) pri ts (λ u lt le. not_before t u (omega arith) lt) rise)
        ∙ ap (λ l. (t ∷ filter (has_priority pri) ts) ++ l) (sym (skips t ts k (suc pri) after))
    by more false e =
        let above : pri < t.pri = grind (arith, nat_tests) in
        passes t (filter (has_priority pri) ts) (from_priority k (suc pri) ts)
        (all_filter (λ u. t.id < u.id) (λ u. stands_before u t ≡ true) (has_priority pri) ts (λ u lt h. before_lower t u (let same = has_it u pri h in omega arith)) rise)
        ∙ ap (λ l. filter (has_priority pri) ts ++ l) (more above)

none_from : (k pri : ℕ) → from_priority k pri [] ≡ []
none_from zero pri = refl
none_from (suc k) pri = none_from k (suc pri)

by_priority_of : (ts : List Task) → AreLow ts → AllOf (λ t. t.pri < 256) ts
by_priority_of [] a = tt
by_priority_of (t ∷ ts) a = (a.0, by_priority_of ts a.1)

-- the rows of the task table are by priority, then by id
pub by_priority : (ts : List Task) → Rises ts → AllOf (λ t. t.pri < 256) ts → sorted stands_before ts ≡ from_priority 256 0 ts
by_priority [] r a = sym (none_from 256 0)
by_priority (t ∷ ts) r a = ap (insert_sorted stands_before t) (by_priority ts r.1 a.1) ∙ inserts t ts 256 0 (omega arith) (omega arith) r.0

low_append : (xs ys : List Task) → AreLow xs → AreLow ys → AreLow (xs ++ ys)
low_append [] ys a b = b
low_append (x ∷ xs) ys a b = (a.0, low_append xs ys a.1 b)

-- one more task has been looked at
pub low_more : (ts : List Task) (i : ℕ) (t : Task) → i < length ts → t ≡ slice_index_or ts i t
    → AreLow (take i ts) → t.pri < 256 → AreLow (take (i + 1) ts)
low_more ts i t below at a b =
    let next : suc i ≡ i + 1 = omega arith in
    rw (← next, take_one_more i ts t below at) (low_append (take i ts) (t ∷ []) a (b, tt))

head_below : (t : Task) (ts us : List Task) → ((k : ℕ) (d : Task) → k < length us → t.id < (slice_index_or us k d).id) → AllOf (λ u. t.id < u.id) us
head_below t ts [] f = tt
head_below t ts (u ∷ us) f = (f 0 u (omega arith), head_below t ts us (λ k d lt. f (suc k) d (omega arith)))

rises : (ts : List Task) → Rising task_id ts → Rises ts
rises [] r = tt
rises (t ∷ ts) r = (head_below t ts ts (λ k d lt. r 0 (suc k) d (omega arith) (omega arith)), rises ts (λ i j d lt in_range. r (suc i) (suc j) d (omega arith) (omega arith)))

-- the tasks of all priorities, one after another, are the tasks in order
pub by_order : (ts : List Task) → Rising task_id ts → AreLow ts → sorted stands_before ts ≡ from_priority 256 0 ts
by_order ts r a = by_priority ts (rises ts r) (by_priority_of ts a)
