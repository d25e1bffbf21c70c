-- The place on a side of the pool: of the addresses that fit, and of the holes.
use Rattle.std.proofs.Common.{◌≡◌, ℕ, zero, suc, ◌+◌, ◌-◌, ◌*◌, ◌/◌, ◌%◌, ◌<◌, ◌≤◌, Bool, true, false, cond, leb, ltb, eqb, ◌&&◌, List, [], ◌∷◌, ◌++◌, length, get_or, drop, reverse, is_some, Option, Some, None, refl, sym, ap, ◌∙◌, subst, inl, inr, ◌⊎◌, arith}
use Rattle.std.specs.List.{find, range_with_len}
use Rattle.std.specs.Option.{option_or}
use Rattle.std.proofs.lemmas.Bool.{leb-true, le-leb, lt-leb, ltb-false, eqb-true, eq-eqb, and_parts, and_from, and_left, and_right, or_left, or_right, or_cases, cases_lt, cases_eq}
use Rattle.std.proofs.lemmas.List.{reverse-append}
use Rattle.std.proofs.lemmas.List.Folds.{find-append}
use Rattle.std.proofs.lemmas.Nat.{mod-mul-add, div-add-mod', div_below, mul-le}
use Rattle.std.proofs.Math.Nat.{suc-mul, lt-div-mul-add, div-mul-le_self, le-div_iff_mul-le}
use Rattle.wind_base.specs.declared.board_kind.Side.{Side}
use Rattle.wind_base.specs.declared.board_kind.Side.TheVariants.{Low, High}
use Rattle.mem_partition.specs.declared.block.Block.{Block}
use Rattle.mem_partition.specs.declared.hole.Hole.{Hole}
use Rattle.mem_partition.specs.Place.{aligned, is_apart, meets_none, fits, first_fit, last_fit, fit_on, Fits, IsNearer, IsPlace, Lies}
use Rattle.mem_partition.specs.State.{Laid}
use Rattle.mem_partition.specs.Holes.{gap, holes_of, nearest, is_inside, in_hole, nearer, hole_on}

-- ---- multiples

pub aligned_multiple : (n align : ℕ) → 1 ≤ align → aligned n align % align ≡ 0
unfolding aligned
aligned_multiple n align h =
    let q = (n + align - 1) / align in
    let e : q * align ≡ q * align + 0 = omega arith in
    subst (λ x. x % align ≡ 0) (sym e) (mod-mul-add q align 0 h)

pub aligned_above : (n align : ℕ) → 1 ≤ align → n ≤ aligned n align
unfolding aligned
aligned_above n align h =
    let k : n + align - 1 < (n + align - 1) / align * align + align = lt-div-mul-add h in omega arith

pub aligned_least : (n align c : ℕ) → 1 ≤ align → n ≤ c → c % align ≡ 0 → aligned n align ≤ c
unfolding aligned
aligned_least n align c h up zero_rest =
    let q = (n + align - 1) / align in
    let d = c / align in
    let whole : d * align + c % align ≡ c = div-add-mod' c align in
    let more : suc d * align ≡ d * align + align = suc-mul d align in
    let below : n + align - 1 < suc d * align = omega arith in
    let less : q < suc d = div_below (n + align - 1) align (suc d) h below in
    let times : q * align ≤ d * align = mul-le q align d align (omega arith) (omega arith) in
    omega arith

-- the greatest multiple that is at most n
down_multiple : (n align : ℕ) → 1 ≤ align → n / align * align % align ≡ 0
down_multiple n align h =
    let e : n / align * align ≡ n / align * align + 0 = omega arith in
    subst (λ x. x % align ≡ 0) (sym e) (mod-mul-add (n / align) align 0 h)

down_greatest : (n align c : ℕ) → 1 ≤ align → c ≤ n → c % align ≡ 0 → c ≤ n / align * align
down_greatest n align c h low zero_rest =
    let whole : c / align * align + c % align ≡ c = div-add-mod' c align in
    let under : c / align * align ≤ n = omega arith in
    let less : c / align ≤ n / align = (le-div_iff_mul-le {k = align} {x = c / align} {y = n} (omega arith)).1 under in
    let times : c / align * align ≤ n / align * align = mul-le (c / align) align (n / align) align less (omega arith) in
    omega arith

-- ---- the best on a side of those that pass

abbrev pub Best : Side → (ℕ → Type 0) → Option ℕ → Type 0
Best side P None = (c : ℕ) → P c → ⊥
Best side P (Some a) = P a × ((c : ℕ) → P c → IsNearer side a c)

pub best_like : (side : Side) (P Q : ℕ → Type 0) (o : Option ℕ) → ((c : ℕ) → P c → Q c) → ((c : ℕ) → Q c → P c) → Best side P o → Best side Q o
best_like side P Q None to from h = λ c q. h c (from c q)
best_like side P Q (Some a) to from h = (to a h.0, λ c q. h.1 c (from c q))

-- addresses that are each as near as the other are the same
pub one_place : (side : Side) (a b : ℕ) → IsNearer side a b → IsNearer side b a → a ≡ b
one_place Low a b h k = omega arith
one_place High a b h k = omega arith

pub best_only : (side : Side) (P : ℕ → Type 0) (o p : Option ℕ) → Best side P o → Best side P p → o ≡ p
best_only side P None None h k = refl
best_only side P None (Some b) h k = absurd (h b k.0)
best_only side P (Some a) None h k = absurd (k a h.0)
best_only side P (Some a) (Some b) h k = ap Some (one_place side a b (h.1 b k.0) (k.1 a h.0))

-- the best of lower and higher numbers
best_two : (side : Side) (P Q : ℕ → Type 0) (o p : Option ℕ) → ((a b : ℕ) → P a → Q b → a ≤ b) → Best side P o → Best side Q p → Best side (λ c. P c ⊎ Q c) (nearer side o p)
best_two Low P Q None p below h k = best_like Low Q (λ c. P c ⊎ Q c) p (λ c q. inr q) (λ c w. elim w [ inl x ↦ absurd (h c x) | inr y ↦ y ]) k
best_two Low P Q (Some a) p below h k = (inl h.0, λ c w. elim w [ inl x ↦ h.1 c x | inr y ↦ below a c h.0 y ])
best_two High P Q o None below h k = best_like High P (λ c. P c ⊎ Q c) o (λ c q. inl q) (λ c w. elim w [ inl x ↦ x | inr y ↦ absurd (k c y) ]) h
best_two High P Q o (Some b) below h k = (inr k.0, λ c w. elim w [ inl x ↦ below c b x k.0 | inr y ↦ k.1 c y ])

nearer_left : (side : Side) (o : Option ℕ) → nearer side o None ≡ o
nearer_left Low None = refl
nearer_left Low (Some a) = refl
nearer_left High o = refl

nearer_right : (side : Side) (o : Option ℕ) → nearer side None o ≡ o
nearer_right Low o = refl
nearer_right High None = refl
nearer_right High (Some a) = refl

-- ---- the first of the pool that passes, or the last

abbrev sided : Side → List ℕ → List ℕ
sided Low xs = xs
sided High xs = reverse xs

find_sided : (side : Side) (p : ℕ → Bool) (x : ℕ) (xs : List ℕ) → find p (sided side (x ∷ xs)) ≡ nearer side (find p (x ∷ [])) (find p (sided side xs))
find_sided Low p x xs = find-append p (x ∷ []) xs
find_sided High p x xs = ap (find p) (reverse-append (x ∷ []) xs) ∙ find-append p (reverse xs) (x ∷ [])

find_none : (side : Side) (p : ℕ → Bool) → find p (sided side []) ≡ None
find_none Low p = refl
find_none High p = refl

-- within n numbers from s on
abbrev Passes : (ℕ → Bool) → ℕ → ℕ → ℕ → Type 0
Passes p s n c = (s ≤ c) × (c < s + n) × (p c ≡ true)

abbrev PassesAt : (ℕ → Bool) → ℕ → ℕ → Type 0
PassesAt p s c = (c ≡ s) × (p c ≡ true)

nearest_itself : (side : Side) (a c : ℕ) → c ≡ a → IsNearer side a c
nearest_itself Low a c e = omega arith
nearest_itself High a c e = omega arith

best_one : (side : Side) (p : ℕ → Bool) (s : ℕ) → Best side (PassesAt p s) (find p (s ∷ []))
best_one side p s =
    elim (p s) as (λ b. p s ≡ b → Best side (PassesAt p s) (cond b (Some s) None)) [
      | true ↦ λ e. ((refl, e), λ c h. nearest_itself side s c h.0)
      | false ↦ λ e. λ c h. let bad : false ≡ true = sym e ∙ (ap p (sym h.0) ∙ h.1) in absurd (cc)
    ] refl

found_best : (side : Side) (p : ℕ → Bool) (s n : ℕ) → Best side (Passes p s n) (find p (sided side (range_with_len s n)))
found_best side p s zero = subst (Best side (Passes p s 0)) (sym (find_none side p)) (λ c h. omega arith)
found_best side p s (suc n) =
    let rest = range_with_len (s + 1) n in
    let o = nearer side (find p (s ∷ [])) (find p (sided side rest)) in
    subst (Best side (Passes p s (suc n))) (sym (find_sided side p s rest))
    (best_like side (λ c. PassesAt p s c ⊎ Passes p (s + 1) n c) (Passes p s (suc n)) o
    (λ c w. elim w [ inl x ↦ (omega arith, omega arith, x.1) | inr y ↦ (omega arith, omega arith, y.2) ])
    (λ c h. elim (cases_eq s c) [ inl same ↦ inl (sym same, h.2) | inr other ↦ inr (omega arith, omega arith, h.2) ])
    (best_two side (PassesAt p s) (Passes p (s + 1) n) (find p (s ∷ [])) (find p (sided side rest))
    (λ a b x y. omega arith) (best_one side p s) (found_best side p (s + 1) n)))

fit_is : (side : Side) (start end : ℕ) (blocks : List Block) (size align : ℕ) → fit_on side start end blocks size align ≡ find (fits end blocks size align) (sided side (range_with_len start (end - start)))
unfolding first_fit last_fit
fit_is Low start end blocks size align = refl
fit_is High start end blocks size align = refl

ends_of : (end : ℕ) (blocks : List Block) (size align at : ℕ) → fits end blocks size align at ≡ true → at + size ≤ end
ends_of end blocks size align at e =
    let two = and_parts (eqb (at % align) 0) (leb (at + size) end && meets_none blocks size at) e in
    let three = and_parts (leb (at + size) end) (meets_none blocks size at) two.1 in
    leb-true (at + size) end three.0

fit_is_best : (side : Side) (start end : ℕ) (blocks : List Block) (size align : ℕ) → 0 < size → Best side (Fits start end blocks size align) (fit_on side start end blocks size align)
fit_is_best side start end blocks size align h =
    let p = fits end blocks size align in
    subst (Best side (Fits start end blocks size align)) (sym (fit_is side start end blocks size align))
    (best_like side (Passes p start (end - start)) (Fits start end blocks size align) (find p (sided side (range_with_len start (end - start))))
    (λ c k. (k.0, k.2))
    (λ c k. let ends = ends_of end blocks size align c k.1 in (k.0, omega arith, k.1))
    (found_best side p start (end - start)))

place_from : (side : Side) (start end : ℕ) (blocks : List Block) (size align : ℕ) (o : Option ℕ) → Best side (Fits start end blocks size align) o → IsPlace start end blocks size align side o
place_from side start end blocks size align None h = h
place_from side start end blocks size align (Some a) h = h

place_to : (side : Side) (start end : ℕ) (blocks : List Block) (size align : ℕ) (o : Option ℕ) → IsPlace start end blocks size align side o → Best side (Fits start end blocks size align) o
place_to side start end blocks size align None h = h
place_to side start end blocks size align (Some a) h = h

pub fit_is_place : (side : Side) (start end : ℕ) (blocks : List Block) (size align : ℕ) → 0 < size → IsPlace start end blocks size align side (fit_on side start end blocks size align)
fit_is_place side start end blocks size align h = place_from side start end blocks size align (fit_on side start end blocks size align) (fit_is_best side start end blocks size align h)

pub only_place : (side : Side) (start end : ℕ) (blocks : List Block) (size align : ℕ) (o p : Option ℕ) → IsPlace start end blocks size align side o → IsPlace start end blocks size align side p → o ≡ p
only_place side start end blocks size align o p h k =
    best_only side (Fits start end blocks size align) o p (place_to side start end blocks size align o h) (place_to side start end blocks size align p k)

-- ---- in one hole

abbrev hole : ℕ → ℕ → Hole
hole lo hi = record { start = lo; end = hi }

record InGap (lo hi size align at : ℕ) : Type 0 where
  pub above : lo ≤ at
  pub multiple : at % align ≡ 0
  pub ends : at + size ≤ hi

nearest_multiple : (side : Side) (h : Hole) (size align : ℕ) → 1 ≤ align → nearest side size align h % align ≡ 0
nearest_multiple Low h size align some = aligned_multiple h.start align some
nearest_multiple High h size align some = down_multiple (h.end - size) align some

-- where any multiple has room, the nearest has
record Nearest (side : Side) (lo hi size align c : ℕ) : Type 0 where
  pub above : lo ≤ nearest side size align (hole lo hi)
  pub ends : nearest side size align (hole lo hi) + size ≤ hi
  pub nearer : IsNearer side (nearest side size align (hole lo hi)) c

nearest_is : (side : Side) (lo hi size align c : ℕ) → 1 ≤ align → InGap lo hi size align c → Nearest side lo hi size align c
nearest_is Low lo hi size align c h g =
    let up = aligned_above lo align h in
    let least = aligned_least lo align c h g.above g.multiple in
    let ends = g.ends in record { above = up; ends = omega arith; nearer = least }
nearest_is High lo hi size align c h g =
    let ends = g.ends in
    let above = g.above in
    let down : (hi - size) / align * align ≤ hi - size = div-mul-le_self (hi - size) align in
    let greatest = down_greatest (hi - size) align c h (omega arith) g.multiple in
    record { above = omega arith; ends = omega arith; nearer = greatest }

best_gap : (side : Side) (lo hi size align : ℕ) → 1 ≤ align → Best side (InGap lo hi size align) (in_hole side size align (hole lo hi))
best_gap side lo hi size align h =
    let at = nearest side size align (hole lo hi) in
    elim (is_inside at size (hole lo hi)) as (λ t. is_inside at size (hole lo hi) ≡ t → Best side (InGap lo hi size align) (cond t (Some at) None)) [
      | true ↦ λ e.
          let parts = and_parts (leb lo at) (leb (at + size) hi) e in (
            record {
              above = leb-true lo at parts.0;
              multiple = nearest_multiple side (hole lo hi) size align h;
              ends = leb-true (at + size) hi parts.1;
            },
            λ c g. (nearest_is side lo hi size align c h g).nearer,
          )
      | false ↦ λ e. λ c g.
          let n = nearest_is side lo hi size align c h g in
          let yes : is_inside at size (hole lo hi) ≡ true = and_from (leb lo at) (leb (at + size) hi) (le-leb lo at n.above) (le-leb (at + size) hi n.ends) in
          absurd (cc)
    ] refl

-- an empty gap has no room
no_gap : (side : Side) (lo hi size align : ℕ) → 0 < size → hi ≤ lo → in_hole side size align (hole lo hi) ≡ None
no_gap side lo hi size align some empty =
    let at = nearest side size align (hole lo hi) in
    let none : is_inside at size (hole lo hi) ≡ false = elim (cases_lt at lo) [
      | inl less ↦ and_left (leb lo at) (leb (at + size) hi) (lt-leb lo at less)
      | inr more ↦ and_right (leb lo at) (leb (at + size) hi) (lt-leb (at + size) hi (omega arith))
    ] in
    ap (λ t. cond t (Some at) None) none

gap_on : (side : Side) (lo hi size align : ℕ) (hs : List Hole) → 0 < size → hole_on side size align (gap lo hi ++ hs) ≡ nearer side (in_hole side size align (hole lo hi)) (hole_on side size align hs)
gap_on side lo hi size align hs some =
    elim (ltb lo hi) as (λ t. ltb lo hi ≡ t → hole_on side size align (cond t (hole lo hi ∷ []) [] ++ hs) ≡ nearer side (in_hole side size align (hole lo hi)) (hole_on side size align hs)) [
      | true ↦ λ e. refl
      | false ↦ λ e.
          sym (ap (λ o. nearer side o (hole_on side size align hs)) (no_gap side lo hi size align some (ltb-false lo hi e))
          ∙ nearer_right side (hole_on side size align hs))
    ] refl

-- ---- from the last down

stays : (o p r : Option ℕ) → is_some o ≡ true → o ≡ p → o ≡ option_or p r
stays None p r h e = absurd (cc)
stays (Some a) p r h e = ap (λ x. option_or x r) e

-- the first that is found from the last hole down
pub found_down : (size align i k : ℕ) (hs : List Hole) (d : Hole) (o : Option ℕ) → k < length hs → i ≡ suc k → hole_on High size align (drop i hs) ≡ None
    → o ≡ in_hole High size align (get_or hs k d) → is_some o ≡ true → o ≡ hole_on High size align hs
found_down size align i k [] d o within next none is some = absurd (omega arith)
found_down size align i zero (h ∷ hs) d o within next none is some =
    let rest : hole_on High size align hs ≡ None = subst (λ j. hole_on High size align (drop j (h ∷ hs)) ≡ None) next none in
    is ∙ sym (ap (λ x. option_or x (in_hole High size align h)) rest)
found_down size align i (suc k) (h ∷ hs) d o within next none is some =
    let rest : hole_on High size align (drop (suc k) hs) ≡ None = subst (λ j. hole_on High size align (drop j (h ∷ hs)) ≡ None) next none in
    stays o (hole_on High size align hs) (in_hole High size align h) some
    (found_down size align (suc k) k hs d o (omega arith) refl rest is some)

-- ---- in all of them

record Good (lo hi : ℕ) (blocks : List Block) (size align at : ℕ) : Type 0 where
  pub above : lo ≤ at
  pub multiple : at % align ≡ 0
  pub ends : at + size ≤ hi
  pub apart : meets_none blocks size at ≡ true

-- what ends before the blocks overlaps none of them
pub ends_before : (size at lo hi : ℕ) (bs : List Block) → Laid lo hi bs → at + size ≤ lo → meets_none bs size at ≡ true
ends_before size at lo hi [] laid h = refl
ends_before size at lo hi (b ∷ bs) (low, some, high, laid) h =
    and_from (is_apart size at b) (meets_none bs size at)
    (or_left (leb (at + size) b.addr) (leb (b.addr + b.size) at) (le-leb (at + size) b.addr (omega arith)))
    (ends_before size at (b.addr + b.size) hi bs laid (omega arith))

pub nothing_more : (hs : List Hole) → hs ++ [] ≡ hs
nothing_more [] = refl
nothing_more (h ∷ hs) = ap (λ x. h ∷ x) (nothing_more hs)

-- before the first block, or after it
good_cases : (lo hi : ℕ) (b : Block) (bs : List Block) (size align c : ℕ) → Good lo hi (b ∷ bs) size align c → InGap lo b.addr size align c ⊎ Good (b.addr + b.size) hi bs size align c
good_cases lo hi b bs size align c g =
    let parts = and_parts (is_apart size c b) (meets_none bs size c) g.apart in
    elim (or_cases (leb (c + size) b.addr) (leb (b.addr + b.size) c) parts.0) [
      | inl before ↦ inl (record { above = g.above; multiple = g.multiple; ends = leb-true (c + size) b.addr before })
      | inr after ↦ inr (record { above = leb-true (b.addr + b.size) c after; multiple = g.multiple; ends = g.ends; apart = parts.1 })
    ]

good_before : (lo hi : ℕ) (b : Block) (bs : List Block) (size align c : ℕ) → Laid lo hi (b ∷ bs) → InGap lo b.addr size align c → Good lo hi (b ∷ bs) size align c
good_before lo hi b bs size align c (low, some, high, laid) g =
    let ends = g.ends in record {
      above = g.above;
      multiple = g.multiple;
      ends = omega arith;
      apart = and_from (is_apart size c b) (meets_none bs size c)
          (or_left (leb (c + size) b.addr) (leb (b.addr + b.size) c) (le-leb (c + size) b.addr g.ends))
          (ends_before size c (b.addr + b.size) hi bs laid (omega arith));
    }

good_after : (lo hi : ℕ) (b : Block) (bs : List Block) (size align c : ℕ) → Laid lo hi (b ∷ bs) → Good (b.addr + b.size) hi bs size align c → Good lo hi (b ∷ bs) size align c
good_after lo hi b bs size align c (low, some, high, laid) g =
    let above = g.above in record {
      above = omega arith;
      multiple = g.multiple;
      ends = g.ends;
      apart = and_from (is_apart size c b) (meets_none bs size c)
          (or_right (leb (c + size) b.addr) (leb (b.addr + b.size) c) (le-leb (b.addr + b.size) c above)) g.apart;
    }

holes_best : (side : Side) (lo hi : ℕ) (bs : List Block) (size align : ℕ) → 1 ≤ align → 0 < size → Laid lo hi bs → Best side (Good lo hi bs size align) (hole_on side size align (holes_of lo hi bs))
holes_best side lo hi [] size align h some laid =
    let is = ap (hole_on side size align) (sym (nothing_more (gap lo hi))) ∙ gap_on side lo hi size align [] some ∙ nearer_left side (in_hole side size align (hole lo hi)) in
    subst (Best side (Good lo hi [] size align)) (sym is)
    (best_like side (InGap lo hi size align) (Good lo hi [] size align) (in_hole side size align (hole lo hi))
    (λ c g. record { above = g.above; multiple = g.multiple; ends = g.ends; apart = refl })
    (λ c g. record { above = g.above; multiple = g.multiple; ends = g.ends })
    (best_gap side lo hi size align h))
holes_best side lo hi (b ∷ bs) size align h some (low, full, high, laid) =
    let rest = holes_of (b.addr + b.size) hi bs in
    let first = in_hole side size align (hole lo b.addr) in
    subst (Best side (Good lo hi (b ∷ bs) size align)) (sym (gap_on side lo b.addr size align rest some))
    (best_like side (λ c. InGap lo b.addr size align c ⊎ Good (b.addr + b.size) hi bs size align c) (Good lo hi (b ∷ bs) size align) (nearer side first (hole_on side size align rest))
    (λ c w. elim w [
      | inl g ↦ good_before lo hi b bs size align c (low, full, high, laid) g
      | inr g ↦ good_after lo hi b bs size align c (low, full, high, laid) g
    ])
    (λ c g. good_cases lo hi b bs size align c g)
    (best_two side (InGap lo b.addr size align) (Good (b.addr + b.size) hi bs size align) first (hole_on side size align rest)
    (λ x y g k. let ends = g.ends in let above = k.above in omega arith)
    (best_gap side lo b.addr size align h) (holes_best side (b.addr + b.size) hi bs size align h some laid)))

good_fits : (start end : ℕ) (blocks : List Block) (size align c : ℕ) → Good start end blocks size align c → Fits start end blocks size align c
good_fits start end blocks size align c g = (
  g.above,
  and_from (eqb (c % align) 0) (leb (c + size) end && meets_none blocks size c) (eq-eqb (c % align) 0 g.multiple)
      (and_from (leb (c + size) end) (meets_none blocks size c) (le-leb (c + size) end g.ends) g.apart),
)

fits_good : (start end : ℕ) (blocks : List Block) (size align c : ℕ) → Fits start end blocks size align c → Good start end blocks size align c
fits_good start end blocks size align c f =
    let two = and_parts (eqb (c % align) 0) (leb (c + size) end && meets_none blocks size c) f.1 in
    let three = and_parts (leb (c + size) end) (meets_none blocks size c) two.1 in
    record { above = f.0; multiple = eqb-true (c % align) 0 two.0; ends = leb-true (c + size) end three.0; apart = three.1 }

-- the place in the holes is the place in the pool
pub hole_place : (side : Side) (lo hi : ℕ) (bs : List Block) (size align : ℕ) → 1 ≤ align → 0 < size → Laid lo hi bs → hole_on side size align (holes_of lo hi bs) ≡ fit_on side lo hi bs size align
hole_place side lo hi bs size align h some laid =
    best_only side (Fits lo hi bs size align) (hole_on side size align (holes_of lo hi bs)) (fit_on side lo hi bs size align)
    (best_like side (Good lo hi bs size align) (Fits lo hi bs size align) (hole_on side size align (holes_of lo hi bs))
    (λ c g. good_fits lo hi bs size align c g) (λ c f. fits_good lo hi bs size align c f)
    (holes_best side lo hi bs size align h some laid))
    (fit_is_best side lo hi bs size align some)

-- the place is inside the pool and overlaps no block
pub fit_lies : (side : Side) (start end : ℕ) (blocks : List Block) (size align at : ℕ) → 0 < size → fit_on side start end blocks size align ≡ Some at → Lies start end blocks size at
fit_lies side start end blocks size align at h e =
    let f = (subst (λ o. Best side (Fits start end blocks size align) o) e (fit_is_best side start end blocks size align h)).0 in
    let g = fits_good start end blocks size align at f in
    record { low = g.above; high = g.ends; apart = g.apart }
