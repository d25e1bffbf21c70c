-- How deep values nest.
use Rattle.std.proofs.Common.{ℕ, suc, ◌≤◌, List, [], ◌∷◌, ◌++◌, Option, None, Some, Ordering, Less, Equal, Greater, arith}
use Rattle.std.specs.Ordering.{match_ordering}
use Rattle.serde_json.specs.Data.{Data, Members, no_members, member, put, array, object, depth, members_depth}
use Rattle.serde_json.specs.View.{items_of}
use Rattle.trace_state.specs.Json.{list_of, number_or_null, with_member}

-- ---- members
chosen_within : (o : Ordering) (a b c : Members) (n : ℕ) → members_depth a ≤ n → members_depth b ≤ n → members_depth c ≤ n → members_depth (match_ordering o a b c) ≤ n
chosen_within Less a b c n p q r = p
chosen_within Equal a b c n p q r = q
chosen_within Greater a b c n p q r = r

put_within : (k : List ℕ) (d : Data) (ms : Members) (n : ℕ) → depth d ≤ n → members_depth ms ≤ n → members_depth (put k d ms) ≤ n
put_within k d no_members n p q = omega (arith, p)
put_within k d (member l e ms) n p q =
    let rest : members_depth ms ≤ n = omega (arith, q) in
    let here : depth e ≤ n = omega (arith, q) in
    let more = put_within k d ms n p rest in
    chosen_within _ (member k d (member l e ms)) (member l d ms) (member l e (put k d ms)) n (omega (arith, p, q)) (omega (arith, p, rest)) (omega (arith, here, more))

pub member_within : (k : List ℕ) (d : Data) (ms : Members) (n : ℕ) → depth d ≤ n → members_depth ms ≤ n → members_depth (with_member k d ms) ≤ n
unfolding with_member
member_within k d ms n p q = put_within k d ms n p q

-- an object nests one level deeper than its members
pub object_within : (ms : Members) (n : ℕ) → members_depth ms ≤ n → depth (object ms) ≤ suc n
object_within ms n h = omega (arith, h)

-- ---- lists
-- no item nests deeper than n
abbrev pub AreWithin : ℕ → List Data → Type 0
AreWithin n [] = Unit {0}
AreWithin n (d ∷ ds) = (depth d ≤ n) × AreWithin n ds

pub both_within : (n : ℕ) (ds es : List Data) → AreWithin n ds → AreWithin n es → AreWithin n (ds ++ es)
both_within n [] es h g = g
both_within n (d ∷ ds) es h g = (h.0, both_within n ds es h.1 g)

pub items_within : (n : ℕ) (ds : List Data) → AreWithin n ds → depth (array (items_of ds)) ≤ suc n
items_within n [] h = omega arith
items_within n (d ∷ ds) h = let first : depth d ≤ n = h.0 in let rest = items_within n ds h.1 in omega (arith, first, rest)

pub list_within : {X : Type 0} (n : ℕ) (f : X → Data) (xs : List X) → ((x : X) → depth (f x) ≤ n) → depth (list_of f xs) ≤ suc n
list_within n f [] h = omega arith
list_within n f (x ∷ xs) h = let here = h x in let rest = list_within n f xs h in omega (arith, here, rest)

pub maybe_within : (n : ℕ) (o : Option ℕ) → depth (number_or_null o) ≤ n
maybe_within n None = omega arith
maybe_within n (Some m) = omega arith
