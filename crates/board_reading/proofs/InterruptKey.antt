-- The interrupt key among the bytes that arrive.
use Rattle.std.proofs.Common.{◌≡◌, ℕ, Bool, true, false, cond, eqb, List, [], ◌∷◌, ◌++◌, refl, sym, ap, ap₂, ◌∙◌, subst}
use Rattle.std.specs.Prelude.{◌||◌, ◌==◌}
use Rattle.std.specs.List.{list_any}
use Rattle.std.proofs.lemmas.Bool.{eqb-true}
use Rattle.std.proofs.lemmas.List.Folds.{list_any-append}
use Rattle.con_line.specs.State.{opening_console}
use Rattle.con_line.specs.Keys.{done_by, is_text, key_of}
use Rattle.board_trace.specs.WindMachineFeed.{supplied}
use Rattle.board_trace.specs.Before.{has_aborted, is_interrupt_byte}

-- both choices have it, so what is chosen has it
chosen : {K : Type 0} (f : K → Bool) (t : Bool) (x y : K) → f x ≡ false → f y ≡ false → f (cond t x y) ≡ false
chosen f true x y fx fy = fx
chosen f false x y fx fy = fy

-- the second choice
other : {K : Type 0} (f : K → Bool) (t : Bool) (x y : K) → t ≡ false → f y ≡ false → f (cond t x y) ≡ false
other f t x y off fy = ap (λ u. f (cond u x y)) off ∙ fy

-- of seven choices, the fifth isn't made and the others have it
of_seven : {K : Type 0} (f : K → Bool) (p q r s t u : Bool) (a b c d e g h : K) → t ≡ false
    → f a ≡ false → f b ≡ false → f c ≡ false → f d ≡ false → f g ≡ false → f h ≡ false
    → f (cond p a (cond q b (cond r c (cond s d (cond t e (cond u g h)))))) ≡ false
of_seven f p q r s t u a b c d e g h off fa fb fc fd fg fh =
    chosen f p a _ fa (chosen f q b _ fb (chosen f r c _ fc (chosen f s d _ fd (other f t e _ off (chosen f u g h fg fh)))))

other_byte : (b : ℕ) → eqb b 3 ≡ false → is_interrupt_byte b ≡ false
other_byte b differs =
    of_seven (λ k. has_aborted (done_by k opening_console)) (eqb b 13) (eqb b 10) (eqb b 8 || eqb b 127) (eqb b 21) (eqb b 3) (is_text b)
    (key_of 13) (key_of 10) (key_of 8) (key_of 21) (key_of 3) (key_of 9) (key_of 0) differs refl refl refl refl refl refl

-- it is 0x03
interrupt_byte : (b : ℕ) → eqb b 3 ≡ is_interrupt_byte b
interrupt_byte b = elim (eqb b 3) as (λ t. eqb b 3 ≡ t → t ≡ is_interrupt_byte b) [
  | true ↦ λ e. subst (λ n. true ≡ is_interrupt_byte n) (sym (eqb-true b 3 e)) refl
  | false ↦ λ e. sym (other_byte b e)
] refl

-- so a list has it if it has a byte 0x03
pub in_bytes : (xs : List ℕ) → list_any (λ b. b == 3) xs ≡ list_any is_interrupt_byte xs
in_bytes [] = refl
in_bytes (x ∷ xs) = ap₂ (λ a b. a || b) (interrupt_byte x) (in_bytes xs)

no_end : (is : Bool) → list_any is_interrupt_byte (supplied is) ≡ false
no_end true = refl
no_end false = refl

or_false : (a : Bool) → (a || false) ≡ a
or_false true = refl
or_false false = refl

-- a supplied newline isn't it
pub in_chunk : (taken chunk : List ℕ) (is : Bool) → chunk ≡ taken ++ supplied is → list_any is_interrupt_byte taken ≡ list_any is_interrupt_byte chunk
in_chunk taken chunk is e =
    sym (ap (λ xs. list_any is_interrupt_byte xs) e ∙ list_any-append is_interrupt_byte taken (supplied is)
    ∙ ap (λ a. list_any is_interrupt_byte taken || a) (no_end is) ∙ or_false (list_any is_interrupt_byte taken))
