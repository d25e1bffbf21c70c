-- Tests of the elements of lists.
use Rattle.std.proofs.Common.{◌≡◌, ℕ, zero, suc, ◌+◌, ◌<◌, Bool, true, false, not, ◌&&◌, ◌||◌, cond, List, [], ◌∷◌, ◌++◌, drop, get_or, length, map, set, take, inl, inr, refl, sym, ap, ap₂, ◌∙◌, arith, add-one}
use Rattle.std.specs.List.{filter, list_any}
use Rattle.std.proofs.lemmas.Bool.{or_cases, or_from, or_left, or_right}

-- ---- tests
pub or_false : (h : Bool) → (h || false) ≡ h
or_false true = refl
or_false false = refl

pub or_assoc : (a b c : Bool) → (a || (b || c)) ≡ ((a || b) || c)
or_assoc true b c = refl
or_assoc false b c = refl

swap_or : (q b r s t : Bool) → ((q || (b && r)) || (s || (b && t))) ≡ ((q || s) || (b && (r || t)))
swap_or true b r s t = refl
swap_or false true true true t = refl
swap_or false true true false t = refl
swap_or false true false true t = refl
swap_or false true false false t = refl
swap_or false false r true t = refl
swap_or false false r false t = refl

-- two tests that follow from each other
pub same_tests : (a b : Bool) → (a ≡ true → b ≡ true) → (b ≡ true → a ≡ true) → a ≡ b
same_tests true b f g = sym (f refl)
same_tests false true f g = g refl
same_tests false false f g = refl

-- a test with two parts
parted : (q p s t u : Bool) → (s || t) ≡ u → (((not q && p) || s) || ((q && p) || t)) ≡ (p || u)
parted true true true t u e = refl
parted true true false t u e = refl
parted true false s t u e = e
parted false true s t u e = refl
parted false false s t u e = e

module _ {X : Type 0} where
  -- what each element that passes shows
  pub some_passes : (p : X → Bool) (Q : Type 0) (xs : List X) → list_any p xs ≡ true → ((x : X) → p x ≡ true → Q) → Q
  some_passes p Q [] h f = absurd (cc)
  some_passes p Q (x ∷ xs) h f =
      elim (or_cases (p x) (list_any p xs) h) [
        | inl here ↦ f x here
        | inr later ↦ some_passes p Q xs later f
      ]

  -- a test that follows from another
  pub any_implies : (p q : X → Bool) → ((x : X) → p x ≡ true → q x ≡ true) → (xs : List X) → list_any p xs ≡ true → list_any q xs ≡ true
  any_implies p q f [] h = h
  any_implies p q f (x ∷ xs) h =
      elim (or_cases (p x) (list_any p xs) h) [
        | inl here ↦ or_left (q x) (list_any q xs) (f x here)
        | inr later ↦ or_right (q x) (list_any q xs) (any_implies p q f xs later)
      ]

  -- the elements that pass another test
  pub any_filter : (p q : X → Bool) (xs : List X) → list_any p (filter q xs) ≡ list_any (λ x. q x && p x) xs
  any_filter p q [] = refl
  any_filter p q (x ∷ xs) =
      elim (q x) as (λ v. list_any p (cond v (x ∷ filter q xs) (filter q xs)) ≡ ((v && p x) || list_any (λ y. q y && p y) xs))
      [ true ↦ ap (λ v. p x || v) (any_filter p q xs) | false ↦ any_filter p q xs ]

  -- the two parts of a list
  pub any_parts : (p q : X → Bool) (xs : List X) → (list_any p (filter (λ x. not (q x)) xs) || list_any p (filter q xs)) ≡ list_any p xs
  any_parts p q [] = refl
  any_parts p q (x ∷ xs) =
      ap₂ (λ v w. v || w) (any_filter p (λ y. not (q y)) (x ∷ xs)) (any_filter p q (x ∷ xs))
      ∙ parted (q x) (p x) (list_any (λ y. not (q y) && p y) xs) (list_any (λ y. q y && p y) xs) (list_any p xs)
      (ap₂ (λ v w. v || w) (sym (any_filter p (λ y. not (q y)) xs)) (sym (any_filter p q xs)) ∙ any_parts p q xs)

  -- no image passes
  pub any_never : {Y : Type 0} (p : Y → Bool) (f : X → Y) → ((x : X) → p (f x) ≡ false) → (xs : List X) → list_any p (map f xs) ≡ false
  any_never p f none [] = refl
  any_never p f none (x ∷ xs) = or_from (p (f x)) (list_any p (map f xs)) (none x) (any_never p f none xs)

  -- images that pass a test as the elements pass another
  pub any_map : {Y : Type 0} (p : Y → Bool) (q : X → Bool) (f : X → Y) → ((x : X) → p (f x) ≡ q x) → (xs : List X) → list_any p (map f xs) ≡ list_any q xs
  any_map p q f same [] = refl
  any_map p q f same (x ∷ xs) = ap₂ (λ v w. v || w) (same x) (any_map p q f same xs)

  -- images that pass a test if the elements pass one or, if b holds, another
  pub any_more : (p q r : X → Bool) (f : X → X) (b : Bool) → ((x : X) → p (f x) ≡ (q x || (b && r x))) → (xs : List X)
      → list_any p (map f xs) ≡ (list_any q xs || (b && list_any r xs))
  any_more p q r f true each [] = refl
  any_more p q r f false each [] = refl
  any_more p q r f b each (x ∷ xs) =
      ap₂ (λ v w. v || w) (each x) (any_more p q r f b each xs) ∙ swap_or (q x) b (r x) (list_any q xs) (list_any r xs)

  -- ---- one element after another is replaced
  -- the next one is as it was
  pub next_is : (f : X → X) (xs : List X) (i : ℕ) (d : X) → get_or (map f (take i xs) ++ drop i xs) i d ≡ get_or xs i d
  next_is f [] zero d = refl
  next_is f [] (suc i) d = refl
  next_is f (x ∷ xs) zero d = refl
  next_is f (x ∷ xs) (suc i) d = next_is f xs i d

  one_set : (f : X → X) (xs : List X) (i : ℕ) (y d : X) → i < length xs → y ≡ f (get_or xs i d)
      → set (map f (take i xs) ++ drop i xs) i y ≡ map f (take (suc i) xs) ++ drop (suc i) xs
  one_set f [] i y d less e = absurd (omega (arith, less))
  one_set f (x ∷ xs) zero y d less e = ap (λ v. v ∷ xs) e
  one_set f (x ∷ xs) (suc i) y d less e = ap (λ ys. f x ∷ ys) (one_set f xs i y d (omega (arith, less)) e)

  -- the next one is replaced
  pub next_set : (f : X → X) (xs : List X) (i : ℕ) (y d : X) → i < length xs → y ≡ f (get_or xs i d)
      → set (map f (take i xs) ++ drop i xs) i y ≡ map f (take (i + 1) xs) ++ drop (i + 1) xs
  next_set f xs i y d less e = one_set f xs i y d less e ∙ ap (λ n. map f (take n xs) ++ drop n xs) (sym (add-one i))
