-- A reader, which cuts a body that is too long, completes what its input completes.
use Rattle.std.proofs.Common.{◌≡◌, ℕ, ◌+◌, ◌<◌, ◌≤◌, true, false, cond, List, [], ◌∷◌, ◌++◌, length, take, Some, None, refl, sym, ap, ◌∙◌, arith, inl, inr, length-append}
use Rattle.std.specs.Prelude.{◌==◌, nat_le, option_to_list}
use Rattle.std.proofs.lemmas.Bool.{cases_lt}
use Rattle.std.proofs.lemmas.Bool.Decides.{nat_tests}
use Rattle.std.proofs.lemmas.List.{append-nil, length-take-le, take-append-le, take-take, take_all}
use Rattle.debug_wire.specs.Frames.{Place, Between, InBody, AfterBody, AfterDigit, after, completed, frame_of, frames, frames_from, kept, longest_body, moved, place_from}
use Rattle.debug_wire.specs.Laws.{ReaderLaw}
use Rattle.debug_wire.proofs.FrameLemmas.{frames_append, place_append}

-- the beginning of a list that is cut twice
pub cut_twice : (m : ℕ) (xs ys : List ℕ) → take m (take m xs ++ ys) ≡ take m (xs ++ ys)
cut_twice m xs ys =
    elim (cases_lt (length xs) m) [
      | inl short ↦ ap (λ zs. take m (zs ++ ys)) (take_all m xs (omega arith))
      | inr long ↦
          take-append-le m (take m xs) ys (omega (arith, length-take-le m xs long)) ∙ take-take m m xs (omega arith) ∙ sym (take-append-le m xs ys long)
    ]

too_long : (n most : ℕ) → most < n → nat_le n most ≡ false
too_long n most more = grind (arith, nat_tests)

-- a body that is cut is too long, if it was
frame_cut : (body : List ℕ) (high low : ℕ) → frame_of (take (longest_body + 1) body) high low ≡ frame_of body high low
frame_cut body high low =
    elim (cases_lt (length body) (longest_body + 1)) [
      | inl short ↦ ap (λ bs. frame_of bs high low) (take_all (longest_body + 1) body (omega arith))
      | inr long ↦
          let cut : nat_le (length (take (longest_body + 1) body)) longest_body ≡ false = too_long _ longest_body (omega (arith, length-take-le (longest_body + 1) body long)) in
          let whole : nat_le (length body) longest_body ≡ false = too_long (length body) longest_body (omega arith) in
          rw (cut, whole) refl
    ]

kept_ended : (p : Place) (b : ℕ) → completed (kept p) b ≡ completed p b
kept_ended Between b = refl
kept_ended (InBody body) b = refl
kept_ended (AfterBody body) b = refl
kept_ended (AfterDigit body high) b = ap (λ f. cond (b == 36) None (Some f)) (frame_cut body high b)

kept_moved : (p : Place) (b : ℕ) → kept (moved (kept p) b) ≡ kept (moved p b)
kept_moved Between b = refl
kept_moved (InBody body) b =
    elim (b == 35) as (λ t.
    kept (cond t (AfterBody (take (longest_body + 1) body)) (InBody (take (longest_body + 1) body ++ b ∷ []))) ≡ kept (cond t (AfterBody body) (InBody (body ++ b ∷ [])))) [
      | true ↦ ap AfterBody (take-take (longest_body + 1) (longest_body + 1) body (omega arith))
      | false ↦ ap InBody (cut_twice (longest_body + 1) body (b ∷ []))
    ]
kept_moved (AfterBody body) b = ap (λ bs. AfterDigit bs b) (take-take (longest_body + 1) (longest_body + 1) body (omega arith))
kept_moved (AfterDigit body high) b = refl

kept_after : (p : Place) (b : ℕ) → kept (after (kept p) b) ≡ kept (after p b)
kept_after p b =
    elim (b == 36) as (λ t. kept (cond t (InBody []) (moved (kept p) b)) ≡ kept (cond t (InBody []) (moved p b))) [
      | true ↦ refl
      | false ↦ kept_moved p b
    ]

one_byte : (p : Place) (b : ℕ) → frames_from p (b ∷ []) ≡ option_to_list (completed p b)
unfolding frames_from
one_byte p b = append-nil (option_to_list (completed p b))

one_place : (p : Place) (b : ℕ) → place_from p (b ∷ []) ≡ after p b
unfolding place_from
one_place p b = refl

pub reads_on : ReaderLaw
reads_on input b =
    let p = place_from Between input in (
      frames_append Between input (b ∷ []) ∙ ap (λ fs. frames input ++ fs) (one_byte p b ∙ ap option_to_list (sym (kept_ended p b))),
      ap kept (place_append Between input (b ∷ []) ∙ one_place p b) ∙ sym (kept_after p b),
    )

-- a body that is short enough is kept whole
pub body_cut : (body : List ℕ) → length body ≤ longest_body + 1 → take (longest_body + 1) body ≡ body
body_cut body short = take_all (longest_body + 1) body short

-- what a reader keeps of a body with one more byte: all of it, or the bytes of one that is too long already
pub body_more : (body : List ℕ) (b : ℕ) → length body ≤ longest_body → take (longest_body + 1) (body ++ b ∷ []) ≡ body ++ b ∷ []
body_more body b short = take_all (longest_body + 1) (body ++ b ∷ []) (simp length-append (omega arith))

pub body_full : (body : List ℕ) (b : ℕ) → length body ≡ longest_body + 1 → take (longest_body + 1) (body ++ b ∷ []) ≡ body
body_full body b full = take-append-le (longest_body + 1) body (b ∷ []) (omega arith) ∙ take_all (longest_body + 1) body (omega arith)
