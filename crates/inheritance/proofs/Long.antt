-- A walk with more steps than there are tasks meets no further task.
use Rattle.std.proofs.Common.{◌≡◌, ℕ, zero, suc, ◌+◌, ◌<◌, ◌≤◌, Bool, true, false, cond, not, eqb, List, [], ◌∷◌, map, length, get_or, Option, Some, refl, sym, ap, ◌∙◌, subst, arith, ◌⊎◌, inl, inr, ⊎_elim}
use Rattle.std.specs.List.{filter}
use Rattle.std.proofs.lemmas.Bool.{cases_eq, ne_eqb, eq-eqb}
use Rattle.inheritance.specs.Reach.{path, is_on, reaches, urgency, most}
use Rattle.inheritance.specs.Laws.{StaysIn, OwnerLaw}
use Rattle.inheritance.proofs.Walk.{on_cases, on_here, on_later, path_cases, path_step, most_of}

abbrev but : ℕ → List ℕ → List ℕ
but c ids = filter (λ v. not (eqb v c)) ids

on_but : (c z : ℕ) (ids : List ℕ) → is_on ids z ≡ true → (z ≡ c → ⊥) → is_on (but c ids) z ≡ true
on_but c z [] h ne = absurd (cc)
on_but c z (v ∷ vs) h ne =
    ⊎_elim
    (λ (e : v ≡ z). let other : eqb v c ≡ false = ne_eqb v c (λ q. ne (sym e ∙ q)) in
    ap (λ b. is_on (cond (not b) (v ∷ but c vs) (but c vs)) z) other ∙ subst (λ u. is_on (v ∷ but c vs) u ≡ true) e (on_here v (but c vs)))
    (λ (r : is_on vs z ≡ true). let ih = on_but c z vs r ne in
    elim (eqb v c) as (λ b. is_on (cond (not b) (v ∷ but c vs) (but c vs)) z ≡ true) [ true ↦ ih | false ↦ on_later v z (but c vs) ih ])
    (on_cases v z vs h)

length_but : (c : ℕ) (ids : List ℕ) → length (but c ids) ≤ length ids
length_but c [] = omega arith
length_but c (v ∷ vs) = let ih = length_but c vs in elim (eqb v c) as (λ b. length (cond (not b) (v ∷ but c vs) (but c vs)) ≤ suc (length vs)) [ true ↦ omega arith | false ↦ omega arith ]

fewer_but : (c : ℕ) (ids : List ℕ) → is_on ids c ≡ true → length (but c ids) + 1 ≤ length ids
fewer_but c [] h = absurd (cc)
fewer_but c (v ∷ vs) h =
    ⊎_elim
    (λ (e : v ≡ c). let le = length_but c vs in subst (λ b. length (cond (not b) (v ∷ but c vs) (but c vs)) + 1 ≤ suc (length vs)) (sym (eq-eqb v c e)) (omega arith))
    (λ (r : is_on vs c ≡ true). let ih = fewer_but c vs r in
    elim (eqb v c) as (λ b. length (cond (not b) (v ∷ but c vs) (but c vs)) + 1 ≤ suc (length vs)) [ true ↦ omega arith | false ↦ omega arith ])
    (on_cases v c vs h)

module _ (up : ℕ → Option ℕ) where
  -- x is met in at most k steps from y, through only these ids
  abbrev Walks : List ℕ → ℕ → ℕ → ℕ → Type 0
  Walks ids zero y x = ⊥
  Walks ids (suc k) y x = (z : ℕ) × (up y ≡ Some z) × (is_on ids z ≡ true) × ((z ≡ x) ⊎ Walks ids k z x)

  walks_from : (ids : List ℕ) → StaysIn up ids → (k y x : ℕ) → is_on (path up k y) x ≡ true → Walks ids k y x
  walks_from ids stays zero y x h = absurd (cc)
  walks_from ids stays (suc k) y x h =
      let s = path_cases up k y x h in
      (s.0, s.1, stays y s.0 s.1, ⊎_elim (λ (e : s.0 ≡ x). inl e) (λ (r : is_on (path up k s.0) x ≡ true). inr (walks_from ids stays k s.0 x r)) s.2)

  -- a walk avoids c, or ends at it, or can begin again at it
  avoid : (c : ℕ) (ids : List ℕ) (k y x : ℕ) → Walks ids k y x → (x ≡ c) ⊎ (((j : ℕ) × Walks (but c ids) j c x) ⊎ Walks (but c ids) k y x)
  avoid c ids zero y x h = absurd h
  avoid c ids (suc k) y x h =
      ⊎_elim
      (λ (at : h.0 ≡ c). ⊎_elim
      (λ (e : h.0 ≡ x). inl (sym e ∙ at))
      (λ (r : Walks ids k h.0 x). ⊎_elim
      (λ (e : x ≡ c). inl e)
      (λ (q : ((j : ℕ) × Walks (but c ids) j c x) ⊎ Walks (but c ids) k h.0 x). inr (inl (⊎_elim
      (λ (p : (j : ℕ) × Walks (but c ids) j c x). p)
      (λ (p : Walks (but c ids) k h.0 x). (k, subst (λ v. Walks (but c ids) k v x) at p))
      q)))
      (avoid c ids k h.0 x r))
      h.3)
      (λ (ne : h.0 ≡ c → ⊥).
      let on = on_but c h.0 ids h.2 ne in
      ⊎_elim
      (λ (e : h.0 ≡ x). inr (inr (h.0, h.1, on, inl e)))
      (λ (r : Walks ids k h.0 x). ⊎_elim
      (λ (e : x ≡ c). inl e)
      (λ (q : ((j : ℕ) × Walks (but c ids) j c x) ⊎ Walks (but c ids) k h.0 x). inr (⊎_elim
      (λ (p : (j : ℕ) × Walks (but c ids) j c x). inl p)
      (λ (p : Walks (but c ids) k h.0 x). inr (h.0, h.1, on, inr p))
      q))
      (avoid c ids k h.0 x r))
      h.3)
      (cases_eq h.0 c)

  -- as many steps as there are ids suffice
  short : (m : ℕ) (ids : List ℕ) → length ids ≤ m → (k y x : ℕ) → Walks ids k y x → is_on (path up m y) x ≡ true
  short m ids le zero y x h = absurd h
  short zero ids le (suc k) y x h = let few = fewer_but h.0 ids h.2 in absurd (omega arith)
  short (suc m) ids le (suc k) y x h =
      let few = fewer_but h.0 ids h.2 in
      path_step up m y h.0 x h.1 ∙ ⊎_elim
      (λ (e : h.0 ≡ x). subst (λ v. is_on (h.0 ∷ path up m h.0) v ≡ true) e (on_here h.0 (path up m h.0)))
      (λ (r : Walks ids k h.0 x). ⊎_elim
      (λ (e : x ≡ h.0). subst (λ v. is_on (h.0 ∷ path up m h.0) v ≡ true) (sym e) (on_here h.0 (path up m h.0)))
      (λ (q : ((j : ℕ) × Walks (but h.0 ids) j h.0 x) ⊎ Walks (but h.0 ids) k h.0 x). on_later h.0 x (path up m h.0) (⊎_elim
      (λ (p : (j : ℕ) × Walks (but h.0 ids) j h.0 x). short m (but h.0 ids) (omega arith) p.0 h.0 x p.1)
      (λ (p : Walks (but h.0 ids) k h.0 x). short m (but h.0 ids) (omega arith) k h.0 x p)
      q))
      (avoid h.0 ids k h.0 x r))
      h.3

  pub long_path : (ids : List ℕ) → StaysIn up ids → (m k y x : ℕ) → length ids ≤ m → is_on (path up k y) x ≡ true → is_on (path up m y) x ≡ true
  long_path ids stays m k y x le h = short m ids le k y x (walks_from ids stays k y x h)

  -- a task that reaches y reaches y's boss in one step more
  pub reach_on : (n z y x : ℕ) → is_on (path up n z) y ≡ true → up y ≡ Some x → is_on (path up (suc n) z) x ≡ true
  reach_on zero z y x h e = absurd (cc)
  reach_on (suc n) z y x h e =
      let s = path_cases up n z y h in
      path_step up (suc n) z s.0 x s.1 ∙ on_later s.0 x (path up (suc n) s.0) (⊎_elim
      (λ (q : s.0 ≡ y). path_step up n s.0 x x (ap up q ∙ e) ∙ on_here x (path up n x))
      (λ (r : is_on (path up n s.0) y ≡ true). reach_on n s.0 y x r e)
      s.2)

-- a bound of the priorities of the ids that pass is a bound of the most urgent of them
pub most_each : (pri : ℕ → ℕ) (b p : ℕ) (r : ℕ → Bool) (ids : List ℕ) → b ≤ p → ((k v : ℕ) → k < length ids → get_or ids k v ≡ v → r v ≡ true → b ≤ pri v) → b ≤ most p (map pri (filter r ids))
most_each pri b p r [] hp h = hp
most_each pri b p r (y ∷ ys) hp h =
    let ih = most_each pri b p r ys hp (λ k v hk e. h (suc k) v (omega arith) e) in
    elim (r y) as (λ t. r y ≡ t → b ≤ most p (map pri (cond t (y ∷ filter r ys) (filter r ys)))) [ true ↦ λ e. let hy = h 0 y (omega arith) refl e in omega arith | false ↦ λ e. ih ] refl

pub owner_law : OwnerLaw
owner_law up pri n ids stays le y x e there =
    let own : urgency up pri n ids x ≤ pri y =
    most_of pri (pri x) (λ z. reaches up n z x) ids there.0 y there.1 there.2 (long_path up ids stays n 1 y x le (path_step up 0 y x x e ∙ on_here x [])) in
    most_each pri (urgency up pri n ids x) (pri y) (λ z. reaches up n z y) ids own (λ k v hk q r.
    most_of pri (pri x) (λ z. reaches up n z x) ids k v hk q (long_path up ids stays n (suc n) v x le (reach_on up n v y x r e)))
