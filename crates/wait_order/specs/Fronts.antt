-- What is inside the index of first waiters: an entry for each place in use, by place.
use Rattle.std.specs.Prelude.{◌≡◌, ℕ, suc, zero, Bool, true, false, ◌&&◌, ◌==◌, not, if◌then◌else◌, List, [], ◌∷◌, Option}
use Rattle.std.specs.Bool.{⊤}
use Rattle.std.specs.Cmp.Lexicographic.{slice_cmp}
use Rattle.std.specs.Ordering.{is_lt, nat_cmp}
use Rattle.std.specs.Option.{option_map}
use Rattle.std.specs.List.{AllByRecursion, find}
use Rattle.std.specs.List.Sorted.{IsPartitionPoint}
use Rattle.linked_lists.specs.IdTablePlace.{Place}
use Rattle.wait_order.specs.declared.fronts.Front.{Front}

-- two places are the same
abbrev pub same_place : Place → Place → Bool
same_place p q = p.side == q.side && p.id == q.id

-- the numbers that decide the order of places: the side, then the object
abbrev pub place_key : Place → List ℕ
place_key p = p.side ∷ p.id ∷ []

-- a place comes before another: the first differing number decides
abbrev pub place_before : Place → Place → Bool
place_before p q = is_lt (slice_cmp nat_cmp (place_key p) (place_key q))

-- each place comes before all later ones in the list
abbrev pub Rises : List Front → Type 0
Rises [] = ⊤
Rises (f ∷ fs) = AllByRecursion (λ g. place_before f.place g.place ≡ true) fs × Rises fs

-- the first waiter of an entry
abbrev pub first_id : Front → ℕ
first_id f = f.first

-- the first waiter in the entry of a place
abbrev pub front_of : List Front → Place → Option ℕ
front_of fs place = option_map first_id (find (λ f. same_place f.place place) fs)

-- the first waiter in the first entry whose place isn't before this one
abbrev pub first_from : List Front → Place → Option ℕ
first_from fs place = option_map first_id (find (λ f. not (place_before f.place place)) fs)

-- the first entries, as many as the rank, are of places before this one, and the others are not
abbrev pub IsRank : List Front → Place → ℕ → Type 0
IsRank fs place rank =
    IsPartitionPoint (λ f. place_before f.place place ≡ true) (λ f. place_before f.place place ≡ false) fs rank

-- the entry of a place is at this index
abbrev pub StandsHere : List Front → Place → ℕ → Type 0
StandsHere [] place at = ⊥
StandsHere (f ∷ fs) place zero = same_place f.place place ≡ true
StandsHere (f ∷ fs) place (suc at) = (place_before f.place place ≡ true) × StandsHere fs place at

-- a place without an entry belongs at this index
abbrev pub GoesHere : List Front → Place → ℕ → Type 0
GoesHere fs place zero = AllByRecursion (λ f. place_before place f.place ≡ true) fs
GoesHere [] place (suc at) = ⊥
GoesHere (f ∷ fs) place (suc at) = (place_before f.place place ≡ true) × GoesHere fs place at

-- a place has another first waiter now, or none, and the others keep theirs
pub record IsPut (fs : List Front) (place : Place) (first : Option ℕ) (after : List Front) : Type 0 where
  pub rising : Rises after
  pub found : (p : Place) → front_of after p ≡ (if same_place place p then first else front_of fs p)
