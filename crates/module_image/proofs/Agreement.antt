-- What an object file may say is what relocation and the partition take.
use Rattle.std.proofs.Common.{◌≡◌, ℕ, zero, suc, ◌+◌, ◌/◌, ◌%◌, ◌<◌, ◌≤◌, ◌^◌, Bool, true, false, cond, List, [], ◌∷◌, Some, None, inl, inr, refl, sym, ◌∙◌, ap, subst, arith}
use Rattle.std.specs.Prelude.{◌==◌, ◌||◌, nat_le, count_ones}
use Rattle.std.specs.Int.{is_power_of_two}
use Rattle.std.specs.List.{AllByRecursion, find, range_with_len}
use Rattle.std.proofs.lemmas.Bool.{cases_lt, cases_eq, ne_eqb, eq-eqb, eqb-true, leb-true, le-leb, and_parts, and_from}
use Rattle.std.proofs.lemmas.Nat.{zero_from_ones, ones_le_self}
use lib.Count.{ones_step}
use Rattle.std.proofs.Math.Nat.{pow-suc}
use Rattle.elf_read.specs.Standard.{half_types, word_types}
use Rattle.elf_read.specs.Tables.{width, has_number}
use Rattle.elf_read.specs.Rules.{is_alignment}
use Rattle.elf_read.proofs.AlignmentLemmas.{alignment_law}
use Rattle.mem_partition.specs.State.{is_align}
use Rattle.reloc_link.specs.declared.kind.RelocType.{RelocType}
use Rattle.reloc_link.specs.Types.{type_number, types, type_of, width_or, width_of}
use Rattle.module_image.specs.Laws.{AgreementLaw}

-- ---- widths
-- what holds of each of n numbers from i on
of_range : (P : ℕ → Type 0) (n i k : ℕ) → AllByRecursion P (range_with_len i n) → k < n → P (i + k)
of_range P zero i k all h = absurd (omega arith)
of_range P (suc n) i zero (one, others) h = let e : i ≡ i + 0 = omega arith in subst P e one
of_range P (suc n) i (suc k) (one, others) h =
    let e : i + 1 + k ≡ i + suc k = omega arith in subst P e (of_range P n (i + 1) k others (omega arith))

abbrev Agrees : ℕ → Type 0
Agrees k = width k ≡ width_of k

small_agree : AllByRecursion Agrees (range_with_len 0 27)
unfolding width width_of
small_agree = (refl, (refl, (refl, (refl, (refl, (refl, (refl, (refl, (refl, (refl, (refl, (refl, (refl, (refl, (refl, (refl, (refl, (refl, (refl, (refl, (refl, (refl, (refl, (refl, (refl, (refl, (refl, tt)))))))))))))))))))))))))))

none_there : (ns : List ℕ) (k : ℕ) → AllByRecursion (λ n. n < k) ns → has_number ns k ≡ false
none_there [] k all = refl
none_there (n ∷ ns) k (one, others) = ap (λ b. b || has_number ns k) (ne_eqb n k (λ e. omega arith)) ∙ none_there ns k others

no_type : (ts : List RelocType) (k : ℕ) → AllByRecursion (λ t. type_number t < k) ts → find (λ t. k == type_number t) ts ≡ None
no_type [] k all = refl
no_type (t ∷ ts) k (one, others) = ap (λ b. cond b (Some t) (find (λ t. k == type_number t) ts)) (ne_eqb k (type_number t) (λ e. omega arith)) ∙ no_type ts k others

large_agree : (k : ℕ) → 27 ≤ k → Agrees k
unfolding width width_of
large_agree k h =
    let half : has_number half_types k ≡ false = none_there half_types k (omega arith, (omega arith, (omega arith, (omega arith, (omega arith, tt))))) in
    let word : has_number word_types k ≡ false =
    none_there word_types k (omega arith, (omega arith, (omega arith, (omega arith, (omega arith, (omega arith, (omega arith, (omega arith, (omega arith, (omega arith, (omega arith, tt))))))))))) in
    let none : type_of k ≡ None =
    no_type types k (omega arith, (omega arith, (omega arith, (omega arith, (omega arith, (omega arith, (omega arith, (omega arith, (omega arith, (omega arith, (omega arith, (omega arith, (omega arith, (omega arith, (omega arith, (omega arith, (omega arith, tt))))))))))))))))) in
    let read : width k ≡ 0 = ap (λ b. cond b 2 (cond (has_number word_types k) 4 0)) half ∙ ap (λ b. cond b 4 0) word in
    let made : width_of k ≡ 0 = ap width_or none in
    read ∙ sym made

pub widths : (k : ℕ) → Agrees k
widths k = elim (cases_lt k 27) [
  | inl low ↦ (let e : 0 + k ≡ k = omega arith in subst Agrees e (of_range Agrees 27 0 k small_agree low))
  | inr high ↦ large_agree k high
]

-- ---- alignments
-- a number with one bit is a power of two
abbrev IsPower : ℕ → ℕ → Type 0
IsPower b n = (k : ℕ) × ((k < b) × (n ≡ 2 ^ k))

one_bit : (b n : ℕ) → n < 2 ^ b → count_ones n ≡ 1 → IsPower b n
one_bit zero n h e = let few = ones_le_self n in absurd (omega arith)
one_bit (suc b) n h e =
    let s = ones_step n in
    let p = pow-suc 2 b in
    elim (cases_eq (n % 2) 0) [
      | inl even ↦
          let rest = one_bit b (n / 2) (omega arith) (omega arith) in
          let low = rest.1.0 in
          let half = rest.1.1 in
          let q = pow-suc 2 rest.0 in
          (suc rest.0, (omega arith, omega arith))
      | inr odd ↦ let none = zero_from_ones (n / 2) (omega arith) in (0, (omega arith, omega arith))
    ]

power_bits : (k : ℕ) → count_ones (2 ^ k) ≡ 1
power_bits zero = let s = ones_step 1 in let few = ones_le_self 0 in omega arith
power_bits (suc k) =
    let p = pow-suc 2 k in
    let s = ones_step (2 ^ suc k) in
    let half : 2 ^ suc k / 2 ≡ 2 ^ k = omega arith in
    let same = ap count_ones half in
    let rest = power_bits k in
    omega arith

given : (n : ℕ) → is_alignment n ≡ true → is_align n ≡ true
given n h =
    let (k, (low, is)) = alignment_law.only n h in
    let most = (alignment_law.between n h).1 in
    let one : count_ones n ≡ 1 = ap count_ones is ∙ power_bits k in
    and_from (is_power_of_two n) (nat_le n 65536) (eq-eqb (count_ones n) 1 one) (le-leb n 65536 most)

taken : (n : ℕ) → is_align n ≡ true → is_alignment n ≡ true
taken n h =
    let parts = and_parts (is_power_of_two n) (nat_le n 65536) h in
    let one = eqb-true (count_ones n) 1 parts.0 in
    let most : n ≤ 65536 = leb-true n 65536 parts.1 in
    let (k, (low, is)) = one_bit 17 n (omega arith) one in
    subst (λ x. is_alignment x ≡ true) (sym is) (alignment_law.powers k (omega arith))

same_tests : (a b : Bool) → (a ≡ true → b ≡ true) → (b ≡ true → a ≡ true) → a ≡ b
same_tests true b f g = sym (f refl)
same_tests false true f g = g refl
same_tests false false f g = refl

pub agreement_law : AgreementLaw
agreement_law = record { widths = widths; alignments = λ n. same_tests (is_alignment n) (is_align n) (given n) (taken n) }
