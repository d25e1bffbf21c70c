-- Members and the choices that they make.
use Rattle.std.proofs.Common.{◌≡◌, ℕ, zero, suc, ◌+◌, ◌*◌, ◌/◌, ◌%◌, ◌<◌, List, [], ◌∷◌, ◌++◌, refl, sym, ap, ◌∙◌, subst, arith}
use Rattle.std.specs.List.{AllByRecursion}
use Rattle.std.proofs.Math.Nat.{div-add-mod, mul_comm, one-le-mul, mul-div_cancel_left}
use Rattle.std.proofs.lemmas.List.{append_assoc}
use Rattle.std.proofs.lemmas.Nat.{mul-add-lt, div-mul-add, mod-mul-add, div_below, mod_below}
use Rattle.tick_family.specs.declared.entry.Entry.{Entry}
use Rattle.tick_file.specs.declared.event.Event.{Event}
use Rattle.tick_family.specs.Members.{choices, members_of, choice_of, shift_below, entry_events, chosen_events}
use Rattle.tick_family.specs.Ranges.{chosen_time, chosen_times}
use Rattle.tick_family.specs.Inside.{IsEntry}
use Rattle.tick_family.specs.Laws.{IsChoice, ChoiceLaw}

-- a number below a product is made of a place and a rest
pub some_below : (c m i : ℕ) → i < c * m → 0 < m
some_below c zero i h = absurd (omega (arith, h))
some_below c (suc m) i h = omega arith

pub place_below : (c m i : ℕ) → 0 < m → i < c * m → i / m < c
place_below c m i pos h = div_below i m c pos h

pub rest_below : (m i : ℕ) → 0 < m → i % m < m
rest_below m i pos = mod_below i m pos

pub makes_choice : (xs : List Entry) (i : ℕ) → i < members_of xs → IsChoice xs (choice_of xs i)
makes_choice [] i h = tt
makes_choice (x ∷ xs) i h =
    let pos = some_below (choices x) (members_of xs) i h in
    (place_below (choices x) (members_of xs) i pos h, makes_choice xs (i % members_of xs) (rest_below (members_of xs) i pos))

of_choice : (xs : List Entry) (ks : List ℕ) → IsChoice xs ks → (i : ℕ) × (i < members_of xs) × (choice_of xs i ≡ ks)
of_choice [] [] h = (0, omega arith, refl)
of_choice [] (k ∷ ks) h = absurd h
of_choice (x ∷ xs) [] h = absurd h
of_choice (x ∷ xs) (k ∷ ks) h =
    let r = of_choice xs ks h.1 in
    let m = members_of xs in (
      k * m + r.0,
      subst (λ n. k * m + r.0 < n) (mul_comm m (choices x)) (mul-add-lt k m r.0 (choices x) h.0 r.1),
      ap (λ q. q ∷ choice_of xs ((k * m + r.0) % m)) (div-mul-add k m r.0 r.1) ∙ ap (λ q. k ∷ choice_of xs q) (mod-mul-add k m r.0 r.1) ∙ ap (λ v. k ∷ v) r.2,
    )

divided : (m i : ℕ) → 0 < m → i ≡ m * (i / m) + i % m
divided m i pos = sym (div-add-mod i m)

one_member : (xs : List Entry) (i j : ℕ) → i < members_of xs → j < members_of xs → choice_of xs i ≡ choice_of xs j → i ≡ j
one_member [] i j h k e = omega arith
one_member (x ∷ xs) i j h k e =
    let m = members_of xs in
    let pos = some_below (choices x) m i h in
    let place : i / m ≡ j / m = cc in
    let rests : choice_of xs (i % m) ≡ choice_of xs (j % m) = cc in
    let rest = one_member xs (i % m) (j % m) (rest_below m i pos) (rest_below m j pos) rests in
    divided m i pos ∙ ap (λ q. m * q + i % m) place ∙ ap (λ r. m * (j / m) + r) rest ∙ sym (divided m j pos)

pub all_choices : ChoiceLaw
all_choices = record { choice = makes_choice; member = of_choice; one = one_member }

-- ---- one entry after another
pub some_members : (xs : List Entry) → AllByRecursion IsEntry xs → 0 < members_of xs
some_members [] h = omega arith
some_members (x ∷ xs) h = one-le-mul h.0.some (some_members xs h.1)

module _ (xs rest : List Entry) (x : Entry) (is : xs ≡ x ∷ rest) (entry : IsEntry x) (others : AllByRecursion IsEntry rest) where
  -- the members below an entry
  pub below_is : (below : ℕ) → below ≡ members_of xs → below / choices x ≡ members_of rest
  below_is below e = ap (λ n. n / choices x) (e ∙ ap members_of is) ∙ mul-div_cancel_left (members_of rest) entry.some

  -- the place of the number that it chooses
  pub place_is : (below left : ℕ) → below ≡ members_of xs → left < below → left / members_of rest < choices x
  place_is below left e h = place_below (choices x) (members_of rest) left (some_members rest others) (subst (λ n. left < n) (e ∙ ap members_of is) h)

  pub left_is : (left : ℕ) → left % members_of rest < members_of rest
  left_is left = rest_below (members_of rest) left (some_members rest others)

  -- its events, and those of the entries below it
  pub events_step : (shift left : ℕ) (events more : List (ℕ × Event)) → more ≡ events ++ entry_events shift x (left / members_of rest)
      → more ++ chosen_events (shift_below shift x (left / members_of rest)) rest (choice_of rest (left % members_of rest)) ≡ events ++ chosen_events shift xs (choice_of xs left)
  events_step shift left events more e =
      let k = left / members_of rest in
      let below = chosen_events (shift_below shift x k) rest (choice_of rest (left % members_of rest)) in
      ap (λ (v : List (ℕ × Event)). v ++ below) e
      ∙ append_assoc events (entry_events shift x k) below
      ∙ sym (ap (λ (ys : List Entry). events ++ chosen_events shift ys (choice_of ys left)) is)

  -- its time, and those of the entries below it
  pub times_step : (left : ℕ) (times more : List ℕ) → more ≡ times ++ chosen_time x (left / members_of rest)
      → more ++ chosen_times rest (choice_of rest (left % members_of rest)) ≡ times ++ chosen_times xs (choice_of xs left)
  times_step left times more e =
      let own = chosen_time x (left / members_of rest) in
      let below = chosen_times rest (choice_of rest (left % members_of rest)) in
      ap (λ (v : List ℕ). v ++ below) e
      ∙ append_assoc times own below
      ∙ sym (ap (λ (ys : List Entry). times ++ chosen_times ys (choice_of ys left)) is)
