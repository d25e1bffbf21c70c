-- The elements of a list.
use Rattle.std.proofs.Common.{◌≡◌, ◌<◌, true, false, cond, List, [], ◌∷◌, ◌++◌, Bool, map, length, get_or, None, Some, refl, sym, ap, ◌∙◌, arith}
use Rattle.std.specs.List.{All, Contains, filter, find}
use Rattle.std.proofs.lemmas.List.{length-map, get_or-map}
use Rattle.std.proofs.lemmas.List.Elements.{All-contains_itself, All-head, All-tail}
use Rattle.std.proofs.lemmas.Option.{same_Some}

module _ {X : Type 0} where
  -- a property of each element of a list
  pub each : (P : X → Type 0) (xs : List X) → ((x : X) → Contains xs x → P x) → All P xs
  each P xs h = λ k d within. h (get_or xs k d) (All-contains_itself xs k d within)

  pub contains_map : (g : X → X) (xs : List X) (t : X) → Contains (map g xs) t → (u : X) × Contains xs u × (t ≡ g u)
  contains_map g xs t at =
      let within : at.0 < length xs = omega (arith, at.1, length-map xs g) in
      (get_or xs at.0 t, All-contains_itself xs at.0 t within, sym at.2 ∙ get_or-map g xs at.0 t t within)

  -- ---- the first that passes a test
  pub find_passes : (p : X → Bool) (xs : List X) (y : X) → find p xs ≡ Some y → p y ≡ true
  find_passes p [] y e = absurd (cc)
  find_passes p (x ∷ xs) y e =
      elim (p x) as (λ b. p x ≡ b → cond b (Some x) (find p xs) ≡ Some y → p y ≡ true) [
        | true ↦ λ b q. sym (ap p (same_Some x y q)) ∙ b
        | false ↦ λ b q. find_passes p xs y q
      ] refl e

  -- it stays the first if elements that fail another test, which it passes, are left out, and others are added after
  pub find_kept : (p c : X → Bool) (xs zs : List X) (y : X) → find p xs ≡ Some y → c y ≡ true → find p (filter c xs ++ zs) ≡ Some y
  find_kept p c [] zs y e h = absurd (cc)
  find_kept p c (x ∷ xs) zs y e h =
      elim (p x) as (λ b. p x ≡ b → cond b (Some x) (find p xs) ≡ Some y → find p (cond (c x) (x ∷ filter c xs) (filter c xs) ++ zs) ≡ Some y) [
        | true ↦ λ b q.
            let same = same_Some x y q in
            ap (λ v. find p (cond v (x ∷ filter c xs) (filter c xs) ++ zs)) (ap c same ∙ h) ∙ ap (λ v. cond v (Some x) (find p (filter c xs ++ zs))) b ∙ q
        | false ↦ λ b q.
            elim (c x) as (λ v. find p (cond v (x ∷ filter c xs) (filter c xs) ++ zs) ≡ Some y) [
              | true ↦ ap (λ v. cond v (Some x) (find p (filter c xs ++ zs))) b ∙ find_kept p c xs zs y q h
              | false ↦ find_kept p c xs zs y q h
            ]
      ] refl e

  -- after others that don't pass
  pub find_after : (p : X → Bool) (xs : List X) (y : X) → All (λ x. p x ≡ false) xs → p y ≡ true → find p (xs ++ y ∷ []) ≡ Some y
  find_after p [] y none e = ap (λ b. cond b (Some y) None) e
  find_after p (x ∷ xs) y none e =
      ap (λ b. cond b (Some x) (find p (xs ++ y ∷ []))) (All-head (λ v. p v ≡ false) x xs none) ∙ find_after p xs y (All-tail (λ v. p v ≡ false) x xs none) e
