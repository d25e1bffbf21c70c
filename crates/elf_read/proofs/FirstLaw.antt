-- The first rule that fails.
use Rattle.std.proofs.Common.{◌≡◌, ℕ, zero, suc, ◌+◌, ◌<◌, List, [], ◌∷◌, Ok, Err, Some, refl, sym, ◌∙◌, ap, arith}
use Rattle.std.specs.Prelude.{slice_get}
use Rattle.elf_read.specs.declared.error.ElfErr.{ElfErr}
use Rattle.elf_read.specs.Rule.{Rule, ◌and_then◌, each, first_of}
use Rattle.elf_read.specs.Rules.{rules_of, checked}
use Rattle.elf_read.specs.First.{IsFirst, EachFails, RefusedFirst}

before_more : (rs : List Rule) (n : ℕ) → ((i : ℕ) → i < n → slice_get rs i ≡ Some (Ok tt)) → (i : ℕ) → i < suc n → slice_get (Ok tt ∷ rs) i ≡ Some (Ok tt)
before_more rs n h zero l = refl
before_more rs n h (suc i) l = h i (omega arith)

-- one rule before others
one_earlier : (r : Rule) (rs : List Rule) (e : ElfErr) → (first_of rs ≡ Err e → IsFirst rs e) → (r and_then first_of rs) ≡ Err e → IsFirst (r ∷ rs) e
one_earlier (Err d) rs e more h = record { number = 0; fails = ap Some h; before = λ i l. absurd (omega arith) }
one_earlier (Ok tt') rs e more h =
    let m = more h in
    record { number = suc m.number; fails = m.fails; before = before_more rs m.number m.before }

first_fails : (rules : List Rule) (e : ElfErr) → first_of rules ≡ Err e → IsFirst rules e
first_fails [] e h = cc
first_fails (r ∷ rs) e h = one_earlier r rs e (first_fails rs e) h

abbrev Stops : ℕ → ℕ → (ℕ → Rule) → ElfErr → Type 0
Stops a n rule e = (k : ℕ) × ((k < n) × ((rule (a + k) ≡ Err e) × ((i : ℕ) → i < k → rule (a + i) ≡ Ok tt)))

each_by : (a n : ℕ) (rule : ℕ → Rule) (e : ElfErr) (r : Rule) → rule a ≡ r → (each (a + 1) n rule ≡ Err e → Stops (a + 1) n rule e) → (r and_then each (a + 1) n rule) ≡ Err e → Stops a (suc n) rule e
each_by a n rule e (Err d) is more h = (0, (omega arith, (ap rule (plus_none a) ∙ (is ∙ h), (λ i l. absurd (omega arith)))))
  where
    plus_none : (a : ℕ) → a + 0 ≡ a
    plus_none a = omega arith
each_by a n rule e (Ok u) is more h =
    let m = more h in
    (suc m.0, (omega (arith, m.1.0), (ap rule (shift a m.0) ∙ m.1.1.0, earlier a n rule m.0 is m.1.1.1)))
  where
    shift : (a k : ℕ) → a + suc k ≡ a + 1 + k
    shift a k = omega arith

    earlier : (a n : ℕ) (rule : ℕ → Rule) (k : ℕ) → rule a ≡ Ok tt → ((i : ℕ) → i < k → rule (a + 1 + i) ≡ Ok tt) → (i : ℕ) → i < suc k → rule (a + i) ≡ Ok tt
    earlier a n rule k is h zero l = let e : a + 0 ≡ a = omega arith in ap rule e ∙ is
    earlier a n rule k is h (suc i) l = let e : a + suc i ≡ a + 1 + i = omega arith in ap rule e ∙ h i (omega arith)

each_stops : (n a : ℕ) (rule : ℕ → Rule) (e : ElfErr) → each a n rule ≡ Err e → Stops a n rule e
each_stops zero a rule e h = cc
each_stops (suc n) a rule e h = each_by a n rule e (rule a) refl (each_stops n (a + 1) rule e) h

pub each_fails : EachFails
each_fails n rule e h =
    let s = each_stops n 0 rule e h in
    let z : 0 + s.0 ≡ s.0 = omega arith in
    record { at = s.0; within = s.1.0; fails = ap rule (sym z) ∙ s.1.1.0; before = λ i l. let y : i ≡ 0 + i = omega arith in ap rule y ∙ s.1.1.1 i l }

pub refused_first : RefusedFirst
unfolding checked
refused_first bytes e h = first_fails (rules_of bytes) e h
