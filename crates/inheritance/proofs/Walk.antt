-- The walk from owner to owner.
use Rattle.std.proofs.Common.{◌≡◌, ℕ, zero, suc, ◌<◌, ◌≤◌, min, Bool, true, false, cond, eqb, ltb, List, [], ◌∷◌, map, length, get_or, Option, None, Some, refl, sym, ap, ◌∙◌, subst, arith, ◌⊎◌, inl, inr, ⊎_elim}
use Rattle.std.specs.List.{filter, Contains}
use Rattle.std.proofs.lemmas.Bool.{cases_eq, cases_lt, eqb-true, eq-eqb, ltb-true, lt-ltb, or_cases}
use Rattle.inheritance.specs.Reach.{path, is_on, reaches, urgency, most, prefix_while}
use Rattle.inheritance.specs.Laws.{GoodBut, WalkLaw}

-- ---- on a list
pub on_cases : (z x : ℕ) (zs : List ℕ) → is_on (z ∷ zs) x ≡ true → (z ≡ x) ⊎ (is_on zs x ≡ true)
on_cases z x zs h = ⊎_elim (λ (e : eqb z x ≡ true). inl (eqb-true z x e)) (λ (r : is_on zs x ≡ true). inr r) (or_cases (eqb z x) (is_on zs x) h)

pub on_here : (x : ℕ) (zs : List ℕ) → is_on (x ∷ zs) x ≡ true
on_here x zs = rw (eq-eqb x x refl) refl

pub on_later : (z x : ℕ) (zs : List ℕ) → is_on zs x ≡ true → is_on (z ∷ zs) x ≡ true
on_later z x zs h = grind arith

module _ (up : ℕ → Option ℕ) where
  -- one step of a path
  pub path_cases : (n y x : ℕ) → is_on (path up (suc n) y) x ≡ true → (z : ℕ) × (up y ≡ Some z) × ((z ≡ x) ⊎ (is_on (path up n z) x ≡ true))
  path_cases n y x =
      elim (up y) as (λ o. up y ≡ o → is_on (elim o [ None ↦ [] | Some z ↦ z ∷ path up n z ]) x ≡ true → (z : ℕ) × (up y ≡ Some z) × ((z ≡ x) ⊎ (is_on (path up n z) x ≡ true))) [
        | None ↦ λ e h. absurd (cc)
        | Some z ↦ λ e h. (z, e, on_cases z x (path up n z) h)
      ] refl

  pub path_step : (n y z x : ℕ) → up y ≡ Some z → is_on (path up (suc n) y) x ≡ is_on (z ∷ path up n z) x
  path_step n y z x e = ap (λ o. is_on (elim o [ None ↦ [] | Some v ↦ v ∷ path up n v ]) x) e

  -- a longer walk meets what a shorter one meets
  pub path_more : (n y x : ℕ) → is_on (path up n y) x ≡ true → is_on (path up (suc n) y) x ≡ true
  path_more zero y x h = absurd (cc)
  path_more (suc n) y x h =
      let s = path_cases n y x h in
      path_step (suc n) y s.0 x s.1 ∙ ⊎_elim
      (λ (e : s.0 ≡ x). subst (λ v. is_on (s.0 ∷ path up (suc n) s.0) v ≡ true) e (on_here s.0 (path up (suc n) s.0)))
      (λ (r : is_on (path up n s.0) x ≡ true). on_later s.0 x (path up (suc n) s.0) (path_more n s.0 x r))
      s.2

module _ (pri : ℕ → ℕ) where
  -- ---- the most urgent of those that reach x
  pub most_least : (b p : ℕ) (r : ℕ → Bool) (ids : List ℕ) → b ≤ p → ((y : ℕ) → r y ≡ true → b ≤ pri y) → b ≤ most p (map pri (filter r ids))
  most_least b p r [] hp h = hp
  most_least b p r (y ∷ ys) hp h =
      let ih = most_least b p r ys hp h in
      elim (r y) as (λ t. r y ≡ t → b ≤ most p (map pri (cond t (y ∷ filter r ys) (filter r ys)))) [ true ↦ λ e. let hy = h y e in omega arith | false ↦ λ e. ih ] refl

  pub most_own : (p : ℕ) (qs : List ℕ) → most p qs ≤ p
  most_own p [] = omega arith
  most_own p (q ∷ qs) = let ih = most_own p qs in omega arith

  pub most_of : (p : ℕ) (r : ℕ → Bool) (ids : List ℕ) (k v : ℕ) → k < length ids → get_or ids k v ≡ v → r v ≡ true → most p (map pri (filter r ids)) ≤ pri v
  most_of p r [] k v hk e h = absurd (omega arith)
  most_of p r (y ∷ ys) zero v hk e h =
      let hy : r y ≡ true = subst (λ u. r u ≡ true) (sym e) h in
      subst (λ t. most p (map pri (cond t (y ∷ filter r ys) (filter r ys))) ≤ pri v) (sym hy) (subst (λ u. min (pri y) (most p (map pri (filter r ys))) ≤ pri u) e (omega arith))
  most_of p r (y ∷ ys) (suc k) v hk e h =
      let ih = most_of p r ys k v (omega arith) e h in
      elim (r y) as (λ t. most p (map pri (cond t (y ∷ filter r ys) (filter r ys))) ≤ pri v) [ true ↦ omega arith | false ↦ ih ]

module _ (up : ℕ → Option ℕ) (pri : ℕ → ℕ) (w : ℕ) (good : GoodBut up pri w) where
  abbrev lower : ℕ → Bool
  lower z = ltb (pri w) (pri z)

  -- a task that reaches x is at most as urgent as x, or reaches it through w and is at most as urgent as w
  pub through : (n y x : ℕ) → is_on (path up n y) x ≡ true → (pri x ≤ pri y) ⊎ ((pri w ≤ pri y) × (is_on (path up n w) x ≡ true))
  through zero y x h = absurd (cc)
  through (suc n) y x h =
      ⊎_elim
      (λ (e : y ≡ w). inr (subst (λ v. pri w ≤ pri v) (sym e) (omega arith), subst (λ v. is_on (path up (suc n) v) x ≡ true) e h))
      (λ (ne : y ≡ w → ⊥).
      let s = path_cases up n y x h in
      let step : pri s.0 ≤ pri y = good y s.0 ne s.1 in
      ⊎_elim
      (λ (e : s.0 ≡ x). inl (subst (λ v. pri v ≤ pri y) e step))
      (λ (r : is_on (path up n s.0) x ≡ true). ⊎_elim
      (λ (l : pri x ≤ pri s.0). inl (omega arith))
      (λ (p : (pri w ≤ pri s.0) × (is_on (path up n w) x ≡ true)). inr (omega (arith, p.0), path_more up n w x p.1))
      (through n s.0 x r))
      s.2)
      (cases_eq y w)

  -- from a task that is at least as urgent as w, a less urgent one is met only through w
  from_urgent : (n y x : ℕ) → is_on (path up n y) x ≡ true → pri y ≤ pri w → (y ≡ w → ⊥) → pri w < pri x → (k : ℕ) × (k < n) × (is_on (path up k w) x ≡ true)
  from_urgent zero y x h low ne less = absurd (cc)
  from_urgent (suc n) y x h low ne less =
      let s = path_cases up n y x h in
      let step : pri s.0 ≤ pri y = good y s.0 ne s.1 in
      ⊎_elim
      (λ (e : s.0 ≡ x). let l : pri x ≤ pri y = subst (λ v. pri v ≤ pri y) e step in absurd (omega arith))
      (λ (r : is_on (path up n s.0) x ≡ true). ⊎_elim
      (λ (e : s.0 ≡ w). (n, omega arith, subst (λ v. is_on (path up n v) x ≡ true) e r))
      (λ (other : s.0 ≡ w → ⊥). let ih = from_urgent n s.0 x r (omega arith) other less in (ih.0, omega (arith, ih.1), ih.2))
      (cases_eq s.0 w))
      s.2

  -- the walk that stops at the first one at least as urgent as w
  abbrev pub prefix : ℕ → ℕ → List ℕ
  prefix n y = prefix_while lower (path up n y)

  pub prefix_step : (n y z x : ℕ) → up y ≡ Some z → pri w < pri z → is_on (prefix (suc n) y) x ≡ is_on (z ∷ prefix n z) x
  prefix_step n y z x e h =
      ap (λ o. is_on (prefix_while lower (elim o [ None ↦ [] | Some v ↦ v ∷ path up n v ])) x) e
      ∙ ap (λ b. is_on (cond b (z ∷ prefix n z) []) x) (lt-ltb (pri w) (pri z) h)

  prefix_or_through : (n y x : ℕ) → is_on (path up n y) x ≡ true → pri w < pri x → (is_on (prefix n y) x ≡ true) ⊎ ((k : ℕ) × (k < n) × (is_on (path up k w) x ≡ true))
  prefix_or_through zero y x h less = absurd (cc)
  prefix_or_through (suc n) y x h less =
      let s = path_cases up n y x h in
      ⊎_elim
      (λ (l : pri w < pri s.0). ⊎_elim
      (λ (e : s.0 ≡ x). inl (prefix_step n y s.0 x s.1 l ∙ subst (λ v. is_on (s.0 ∷ prefix n s.0) v ≡ true) e (on_here s.0 (prefix n s.0))))
      (λ (r : is_on (path up n s.0) x ≡ true). ⊎_elim
      (λ (f : is_on (prefix n s.0) x ≡ true). inl (prefix_step n y s.0 x s.1 l ∙ on_later s.0 x (prefix n s.0) f))
      (λ (p : (k : ℕ) × (k < n) × (is_on (path up k w) x ≡ true)). inr (p.0, omega (arith, p.1), p.2))
      (prefix_or_through n s.0 x r less))
      s.2)
      (λ (g : pri s.0 ≤ pri w). ⊎_elim
      (λ (e : s.0 ≡ x). let l : pri x ≤ pri w = subst (λ v. pri v ≤ pri w) e g in absurd (omega arith))
      (λ (r : is_on (path up n s.0) x ≡ true). ⊎_elim
      (λ (e : s.0 ≡ w). inr (n, omega arith, subst (λ v. is_on (path up n v) x ≡ true) e r))
      (λ (other : s.0 ≡ w → ⊥). let d = from_urgent n s.0 x r g other less in inr (d.0, omega (arith, d.1), d.2))
      (cases_eq s.0 w))
      s.2)
      (cases_lt (pri w) (pri s.0))

  pub prefix_cases : (n y x : ℕ) → is_on (prefix (suc n) y) x ≡ true → (z : ℕ) × (up y ≡ Some z) × (pri w < pri z) × ((z ≡ x) ⊎ (is_on (prefix n z) x ≡ true))
  prefix_cases n y x =
      elim (up y) as (λ o. up y ≡ o → is_on (prefix_while lower (elim o [ None ↦ [] | Some z ↦ z ∷ path up n z ])) x ≡ true → (z : ℕ) × (up y ≡ Some z) × (pri w < pri z) × ((z ≡ x) ⊎ (is_on (prefix n z) x ≡ true))) [
        | None ↦ λ e h. absurd (cc)
        | Some z ↦ λ e. elim (lower z) as (λ b. lower z ≡ b → is_on (cond b (z ∷ prefix n z) []) x ≡ true → (v : ℕ) × (up y ≡ Some v) × (pri w < pri v) × ((v ≡ x) ⊎ (is_on (prefix n v) x ≡ true))) [
          | true ↦ λ l h. (z, e, ltb-true (pri w) (pri z) l, on_cases z x (prefix n z) h)
          | false ↦ λ l h. absurd (cc)
        ] refl
      ] refl

  prefix_more : (n y x : ℕ) → is_on (prefix n y) x ≡ true → is_on (prefix (suc n) y) x ≡ true
  prefix_more zero y x h = absurd (cc)
  prefix_more (suc n) y x h =
      let s = prefix_cases n y x h in
      prefix_step (suc n) y s.0 x s.1 s.2 ∙ ⊎_elim
      (λ (e : s.0 ≡ x). subst (λ v. is_on (s.0 ∷ prefix (suc n) s.0) v ≡ true) e (on_here s.0 (prefix (suc n) s.0)))
      (λ (r : is_on (prefix n s.0) x ≡ true). on_later s.0 x (prefix (suc n) s.0) (prefix_more n s.0 x r))
      s.3

  prefix_upto : (n k x : ℕ) → k ≤ n → is_on (prefix k w) x ≡ true → is_on (prefix n w) x ≡ true
  prefix_upto zero k x le h = let e : k ≡ 0 = omega arith in subst (λ m. is_on (prefix m w) x ≡ true) e h
  prefix_upto (suc n) k x le h =
      ⊎_elim
      (λ (e : k ≡ suc n). subst (λ m. is_on (prefix m w) x ≡ true) e h)
      (λ (ne : k ≡ suc n → ⊥). prefix_more n w x (prefix_upto n k x (omega arith) h))
      (cases_eq k (suc n))

  -- a task that w reaches and that is less urgent than w comes before the first one at least as urgent as w, even in cycles
  pub in_prefix : (fuel n x : ℕ) → n ≤ fuel → is_on (path up n w) x ≡ true → pri w < pri x → is_on (prefix n w) x ≡ true
  in_prefix zero n x le h less =
      let e : n ≡ 0 = omega arith in
      let none : is_on [] x ≡ true = subst (λ m. is_on (path up m w) x ≡ true) e h in
      absurd (cc)
  in_prefix (suc fuel) n x le h less =
      ⊎_elim
      (λ (f : is_on (prefix n w) x ≡ true). f)
      (λ (p : (k : ℕ) × (k < n) × (is_on (path up k w) x ≡ true)). prefix_upto n p.0 x (omega (arith, p.1)) (in_prefix fuel p.0 x (omega (arith, p.1)) p.2 less))
      (prefix_or_through n w x h less)

  -- and conversely
  pub from_prefix : (n y x : ℕ) → is_on (prefix n y) x ≡ true → (is_on (path up n y) x ≡ true) × (pri w < pri x)
  from_prefix zero y x h = absurd (cc)
  from_prefix (suc n) y x h =
      let s = prefix_cases n y x h in
      ⊎_elim
      (λ (e : s.0 ≡ x). (path_step up n y s.0 x s.1 ∙ subst (λ v. is_on (s.0 ∷ path up n s.0) v ≡ true) e (on_here s.0 (path up n s.0)), subst (λ v. pri w < pri v) e s.2))
      (λ (r : is_on (prefix n s.0) x ≡ true). let ih = from_prefix n s.0 x r in (path_step up n y s.0 x s.1 ∙ on_later s.0 x (path up n s.0) ih.0, ih.1))
      s.3

  pub walk : (n : ℕ) (ids : List ℕ) → Contains ids w → (x : ℕ) → urgency up pri n ids x ≡ cond (is_on (prefix n w) x) (pri w) (pri x)
  walk n ids there x =
      elim (is_on (prefix n w) x) as (λ b. is_on (prefix n w) x ≡ b → urgency up pri n ids x ≡ cond b (pri w) (pri x)) [
        | true ↦ λ f.
            let on = from_prefix n w x f in
            let low = most_of pri (pri x) (λ y. reaches up n y x) ids there.0 w there.1 there.2 on.0 in
            let high = most_least pri (pri w) (pri x) (λ y. reaches up n y x) ids (omega (arith, on.1)) (λ y r.
            ⊎_elim (λ (l : pri x ≤ pri y). let less = on.1 in omega arith) (λ (p : (pri w ≤ pri y) × (is_on (path up n w) x ≡ true)). p.0) (through n y x r)) in
            omega arith
        | false ↦ λ f.
            let high = most_least pri (pri x) (pri x) (λ y. reaches up n y x) ids (omega arith) (λ y r.
            ⊎_elim (λ (l : pri x ≤ pri y). l) (λ (p : (pri w ≤ pri y) × (is_on (path up n w) x ≡ true)).
            let not_less : pri w < pri x → ⊥ = λ l. let g = in_prefix n n x (omega arith) p.1 l in cc in
            let below = p.0 in omega arith) (through n y x r)) in
            let low = most_own pri (pri x) (map pri (filter (λ y. reaches up n y x) ids)) in
            omega arith
      ] refl

pub walk_law : WalkLaw
walk_law up pri w n ids good there x = walk up pri w good n ids there x
