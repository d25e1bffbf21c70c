-- What is inside the line: one list, in which waiters are in order of place, then of key, and the first waiter of each place.
use Rattle.std.specs.Prelude.{◌≡◌, ℕ, Bool, true, false, nat_lt, if◌then◌else◌, List, [], ◌∷◌, ◌++◌, map, Option, None, Some}
use Rattle.std.specs.Cmp.Lexicographic.{slice_cmp}
use Rattle.std.specs.Ordering.{is_lt, nat_cmp}
use Rattle.std.specs.Option.{option_map}
use Rattle.std.specs.List.{All, filter}
use Rattle.linked_lists.specs.IdTablePlace.{Place}
use Rattle.linked_lists.specs.IdTableSorting.{first, insert_sorted, sorted}
use Rattle.linked_lists.specs.Chains.{cell_value, chain_at, Apart}
use Rattle.wait_order.specs.declared.waits.Waiter.{Waiter}
use Rattle.wait_order.specs.declared.fronts.Front.{Front}
use Rattle.wait_order.specs.Line.{waiter_id, waiter_of, key, stands_at}
use Rattle.wait_order.specs.Fronts.{place_key, Rises, front_of}

-- a waiter precedes another: by place, then by key
abbrev pub precedes : Waiter → Waiter → Bool
precedes v w = is_lt (slice_cmp nat_cmp (place_key v.place ++ key v) (place_key w.place ++ key w))

-- sorted waiters with one more, before the first that doesn't precede it
abbrev pub put_in : List Waiter → Waiter → List Waiter
put_in ws w = insert_sorted precedes w ws

-- a waiter as a cell of the list, with its id as the key
abbrev pub cell_of : Waiter → ℕ × Waiter
cell_of w = (w.who, w)

-- the waiters of the list, in the list's order
abbrev pub waiters_in : List (List (ℕ × Waiter)) → List Waiter
waiters_in cs = map cell_value (chain_at cs 0)

-- the same waiters by rising id
abbrev pub by_id : List Waiter → List Waiter
by_id ws = sorted (λ v w. nat_lt v.who w.who) ws

-- the id of the first waiter of a list
abbrev pub first_who : List Waiter → Option ℕ
first_who ws = option_map waiter_id (first ws)

-- the waiters of a place, in the list's order
abbrev pub run : List Waiter → Place → List Waiter
run ws place = filter (stands_at place) ws

-- the index has the first waiter of each place in use, by place
pub record AreFronts (ws : List Waiter) (fronts : List Front) : Type 0 where
  pub rising : Rises fronts
  pub firsts : (place : Place) → front_of fronts place ≡ first_who (run ws place)

-- there is one list, in which each waiter's key is its id
abbrev pub IsOwn : List (List (ℕ × Waiter)) → Type 0
IsOwn cs = cs ≡ map cell_of (waiters_in cs) ∷ []

-- the waiters of the list are sorted, and the index has the first of each place
pub record IsKept (cs : List (List (ℕ × Waiter))) (fronts : List Front) : Type 0 where
  pub own : IsOwn cs
  pub order : waiters_in cs ≡ sorted precedes (waiters_in cs)
  pub ahead : AreFronts (waiters_in cs) fronts

-- all waiters ahead of `next` precede this waiter
pub record IsAfter (ws : List Waiter) (next : Option ℕ) (w : Waiter) : Type 0 where
  pub prefix : List Waiter
  pub back : List Waiter
  pub whole : ws ≡ prefix ++ back
  pub next_is : next ≡ first_who back
  pub before : All (λ v. precedes v w ≡ true) prefix

-- `next` is the first that doesn't precede this waiter
pub record IsPlace (ws : List Waiter) (next : Option ℕ) (w : Waiter) : Type 0 where
  pub preceded : IsAfter ws next w
  pub later : (v : Waiter) → first preceded.back ≡ Some v → precedes v w ≡ false

-- a waiter, if there is one, precedes another
abbrev pub is_after : Option Waiter → Waiter → Bool
is_after None w = false
is_after (Some v) w = precedes v w

-- the first waiter at this waiter's place precedes it
abbrev pub stays : List Waiter → Waiter → Bool
stays ws w = is_after (first (run ws w.place)) w

-- the waiter before `next` was removed, and the index isn't updated yet
pub record IsGone (cs : List (List (ℕ × Waiter))) (fs : List Front) (w : Waiter) (next : Option ℕ) : Type 0 where
  pub prefix : List Waiter
  pub back : List Waiter
  pub left : cs ≡ map cell_of (prefix ++ back) ∷ []
  pub next_is : next ≡ first_who back
  pub order : prefix ++ w ∷ back ≡ sorted precedes (prefix ++ w ∷ back)
  pub apart : Apart (map cell_of (prefix ++ w ∷ back))
  pub ahead : AreFronts (prefix ++ w ∷ back) fs

-- this waiter, if it waits at a place
abbrev pub if_there : Place → ℕ → Option Waiter → Option ℕ
if_there place id None = None
if_there place id (Some v) = if stands_at place v then Some id else None

-- the next waiter, if there is one and it waits at a place
abbrev pub next_there : List Waiter → Option ℕ → Place → Option ℕ
next_there ws None place = None
next_there ws (Some id) place = if_there place id (waiter_of ws id)
