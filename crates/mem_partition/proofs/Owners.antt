-- Which blocks begin where after a block is allocated or freed.
use Rattle.std.proofs.Common.{◌≡◌, ℕ, zero, suc, ◌+◌, ◌<◌, ◌≤◌, Bool, true, false, cond, ltb, eqb, not, ◌&&◌, List, [], ◌∷◌, Some, None, IsSome, inl, inr, refl, sym, ap, ◌∙◌, subst, arith}
use Rattle.std.specs.List.{find, Contains}
use Rattle.std.proofs.lemmas.Bool.{eqb-true, ne_eqb, and_parts}
use Rattle.mem_partition.specs.declared.block.Block.{Block}
use Rattle.mem_partition.specs.declared.block.Class.{Class}
use Rattle.mem_partition.specs.declared.block.Class.TheVariants.{User, Kernel}
use Rattle.mem_partition.specs.Place.{is_apart, meets_none}
use Rattle.mem_partition.specs.State.{Laid, with_block, without_block, same_class, own_block}
use Rattle.mem_partition.proofs.Keeping.{apart_cases}

-- the block of this class begins at this address
abbrev pub is_own : ℕ → Class → Block → Bool
is_own at class b = eqb b.addr at && same_class b.class class

-- a block that doesn't pass is passed over
pub find-with_block : (p : Block → Bool) (b : Block) (bs : List Block) → p b ≡ false → find p (with_block b bs) ≡ find p bs
find-with_block p b [] h = ap (λ t. cond t (Some b) None) h
find-with_block p b (c ∷ cs) h =
    elim (ltb b.addr c.addr) as (λ t. find p (cond t (b ∷ c ∷ cs) (c ∷ with_block b cs)) ≡ find p (c ∷ cs)) [
      | true ↦ ap (λ t. cond t (Some b) (find p (c ∷ cs))) h
      | false ↦ ap (λ o. cond (p c) (Some c) o) (find-with_block p b cs h)
    ]

-- no block begins at the beginning of a range that overlaps none
pub fresh_address : (lo hi : ℕ) (bs : List Block) (size at a : ℕ) (class : Class) → Laid lo hi bs → 0 < size → meets_none bs size at ≡ true → IsSome (own_block bs a class) → a ≡ at → ⊥
fresh_address lo hi [] size at a class laid some free found same = absurd (cc)
fresh_address lo hi (b ∷ bs) size at a class (low, b_some, high, laid) some free found same =
    let parts = and_parts (is_apart size at b) (meets_none bs size at) free in
    let apart = apart_cases size at b parts.0 in
    elim (is_own a class b) as (λ t. is_own a class b ≡ t → IsSome (cond t (Some b) (find (is_own a class) bs)) → ⊥) [
      | true ↦ λ e h.
          let begins : b.addr ≡ a = eqb-true b.addr a (and_parts (eqb b.addr a) (same_class b.class class) e).0 in
          elim apart [ inl k ↦ absurd (omega arith) | inr k ↦ absurd (omega arith) ]
      | false ↦ λ e h. fresh_address (b.addr + b.size) hi bs size at a class laid some parts.1 h same
    ] refl found

-- without the block at another address, the same block is found
pub own-without : (x a : ℕ) (class : Class) (bs : List Block) → (a ≡ x → ⊥) → own_block (without_block x bs) a class ≡ own_block bs a class
own-without x a class [] apart = refl
own-without x a class (b ∷ bs) apart =
    elim (eqb b.addr x) as (λ t. eqb b.addr x ≡ t → find (is_own a class) (cond (not t) (b ∷ without_block x bs) (without_block x bs)) ≡ find (is_own a class) (b ∷ bs)) [
      | true ↦ λ e.
          let other : eqb b.addr a ≡ false = ne_eqb b.addr a (λ same. apart (sym same ∙ eqb-true b.addr x e)) in
          own-without x a class bs apart ∙ ap (λ t. cond (t && same_class b.class class) (Some b) (find (is_own a class) bs)) (sym other)
      | false ↦ λ e. ap (λ o. cond (is_own a class b) (Some b) o) (own-without x a class bs apart)
    ] refl

-- a found block begins at or after the beginning of the list
found_above : (lo hi : ℕ) (bs : List Block) (a : ℕ) (class : Class) → Laid lo hi bs → IsSome (own_block bs a class) → lo ≤ a
found_above lo hi [] a class laid found = absurd (cc)
found_above lo hi (b ∷ bs) a class (low, some, high, laid) found =
    elim (is_own a class b) as (λ t. is_own a class b ≡ t → IsSome (cond t (Some b) (find (is_own a class) bs)) → lo ≤ a) [
      | true ↦ λ e h. let begins : b.addr ≡ a = eqb-true b.addr a (and_parts (eqb b.addr a) (same_class b.class class) e).0 in omega arith
      | false ↦ λ e h. omega (arith, found_above (b.addr + b.size) hi bs a class laid h)
    ] refl found

-- a block of the list is the one that is found at its address
pub only_block : (lo hi : ℕ) (bs : List Block) (b : Block) (a : ℕ) (class : Class) → Laid lo hi bs → Contains bs b → is_own a class b ≡ true → own_block bs a class ≡ Some b
only_block lo hi [] b a class laid (k, within, e) own = absurd (omega arith)
only_block lo hi (c ∷ cs) b a class (low, some, high, laid) (zero, within, e) own =
    ap (λ t. cond t (Some c) (own_block cs a class)) (ap (is_own a class) e ∙ own) ∙ ap Some e
only_block lo hi (c ∷ cs) b a class (low, some, high, laid) (suc k, within, e) own =
    let rest = only_block (c.addr + c.size) hi cs b a class laid (k, omega arith, e) own in
    elim (is_own a class c) as (λ t. is_own a class c ≡ t → cond t (Some c) (own_block cs a class) ≡ Some b) [
      | true ↦ λ h.
          let begins : c.addr ≡ a = eqb-true c.addr a (and_parts (eqb c.addr a) (same_class c.class class) h).0 in
          let above = found_above (c.addr + c.size) hi cs a class laid (subst IsSome (sym rest) refl) in
          absurd (omega arith)
      | false ↦ λ h. rest
    ] refl

two_classes : (c d e : Class) → same_class c d ≡ true → same_class c e ≡ true → same_class d e ≡ true
two_classes User User e h k = k
two_classes Kernel Kernel e h k = k
two_classes User Kernel e h k = cc
two_classes Kernel User e h k = cc

-- blocks of different classes begin at different addresses
pub classes_apart : (lo hi : ℕ) (bs : List Block) (x a : ℕ) (c d : Class) → Laid lo hi bs → same_class c d ≡ false → IsSome (own_block bs x c) → IsSome (own_block bs a d) → a ≡ x → ⊥
classes_apart lo hi [] x a c d laid differ hx ha same = absurd (cc)
classes_apart lo hi (b ∷ bs) x a c d (low, some, high, laid) differ hx ha same =
    elim (is_own x c b) as (λ t. is_own x c b ≡ t → IsSome (cond t (Some b) (find (is_own x c) bs)) → ⊥) [
      | true ↦ λ e h.
          let px = and_parts (eqb b.addr x) (same_class b.class c) e in
          let bx : b.addr ≡ x = eqb-true b.addr x px.0 in
          elim (is_own a d b) as (λ t. is_own a d b ≡ t → IsSome (cond t (Some b) (find (is_own a d) bs)) → ⊥) [
            | true ↦ λ f k.
                let pa = and_parts (eqb b.addr a) (same_class b.class d) f in
                absurd (not_both (same_class c d) differ (two_classes b.class c d px.1 pa.1))
            | false ↦ λ f k. absurd (omega (arith, found_above (b.addr + b.size) hi bs a d laid k))
          ] refl ha
      | false ↦ λ e h.
          elim (is_own a d b) as (λ t. is_own a d b ≡ t → IsSome (cond t (Some b) (find (is_own a d) bs)) → ⊥) [
            | true ↦ λ f k.
                let pa = and_parts (eqb b.addr a) (same_class b.class d) f in
                let ba : b.addr ≡ a = eqb-true b.addr a pa.0 in
                absurd (omega (arith, found_above (b.addr + b.size) hi bs x c laid h))
            | false ↦ λ f k. classes_apart (b.addr + b.size) hi bs x a c d laid differ h k same
          ] refl ha
    ] refl hx
  where
    not_both : (t : Bool) → t ≡ false → t ≡ true → ⊥
    not_both true e f = cc
    not_both false e f = cc
