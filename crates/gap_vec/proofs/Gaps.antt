-- Lists with a gap before them.
use Rattle.std.proofs.Common.{◌≡◌, ℕ, suc, ◌+◌, ◌-◌, ◌≤◌, ◌<◌, List, ◌∷◌, ◌++◌, length, take, drop, set, sym, ap, ◌∙◌, arith, append_assoc}
use Rattle.std.specs.List.{insert, remove, copy_within}
use Rattle.std.proofs.lemmas.List.{drop-drop, drop-take, drop-append-le, length-take-le, length-drop}
use Rattle.std.proofs.lemmas.List.Edits.{length-paste, take-paste, drop-paste}
use Rattle.std.proofs.Math.Seq.{drop-append_seam, set_split}

module _ {X : Type 0} (xs : List X) (start at : ℕ) where
  -- what is before a position after the gap
  before_at : start + at ≤ length xs → (ys : List X) → drop start (take (start + at) xs ++ ys) ≡ take at (drop start xs) ++ ys
  before_at h ys =
      drop-append-le start (take (start + at) xs) ys (omega (arith, h, length-take-le (start + at) xs h))
      ∙ ap (λ zs. zs ++ ys) (drop-take start at xs)

  pub put_after_gap : (x : X) → start + at ≤ length xs → drop start (insert xs (start + at) x) ≡ insert (drop start xs) at x
  put_after_gap x h = before_at h (x ∷ drop (start + at) xs) ∙ ap (λ zs. take at (drop start xs) ++ x ∷ zs) (sym (drop-drop at start xs))

  -- what is after it
  past : (n : ℕ) → n ≡ start + suc at → drop n xs ≡ drop (suc at) (drop start xs)
  past n is = ap (λ k. drop k xs) is ∙ sym (drop-drop (suc at) start xs)

  pub put_in_gap : (x : X) → 0 < start → start + at ≤ length xs → drop (start - 1) (set (copy_within xs start (start + at) (start - 1)) (start + at - 1) x) ≡ insert (drop start xs) at x
  put_in_gap x some h =
      let from = start - 1 in
      let count = start + at - start in
      let ys = copy_within xs start (start + at) (start - 1) in
      let low : count ≤ length (drop start xs) = omega (arith, h, length-drop start xs) in
      let here : start + at - 1 ≡ from + count = omega (arith, some) in
      let next : suc (start + at - 1) ≡ start + at = omega (arith, some) in
      let after : suc (start + at - 1) ≡ from + count + 1 = omega (arith, some) in
      let first = take from xs in
      let between = take count (drop start xs) in
      let rest = x ∷ drop (start + at) xs in
      let size : length ys ≡ length xs = length-paste xs from (drop start xs) count (omega (arith, some, h)) low in
      let past : drop (suc (start + at - 1)) ys ≡ drop (start + at) xs =
      ap (λ n. drop n ys) after
      ∙ sym (drop-drop 1 (from + count) ys)
      ∙ ap (drop 1) (drop-paste xs from (drop start xs) count (omega (arith, some, h)) low)
      ∙ drop-drop 1 (from + count) xs
      ∙ ap (λ n. drop n xs) (sym after ∙ next) in
      let before : take (start + at - 1) ys ≡ first ++ between =
      ap (λ n. take n ys) here ∙ take-paste xs from (drop start xs) count (omega (arith, some, h)) low in
      ap (drop from) (set_split ys (start + at - 1) x (omega (arith, some, h, size)) ∙ ap (λ zs. zs ++ x ∷ drop (suc (start + at - 1)) ys) before ∙ ap (λ zs. (first ++ between) ++ x ∷ zs) past)
      ∙ ap (λ n. drop n ((first ++ between) ++ rest)) (sym (length-take-le from xs (omega (arith, some, h))))
      ∙ ap (drop (length first)) (append_assoc first between rest)
      ∙ drop-append_seam first (between ++ rest)
      ∙ ap (λ n. take n (drop start xs) ++ rest) (omega arith)
      ∙ ap (λ zs. take at (drop start xs) ++ x ∷ zs) (sym (drop-drop at start xs))

  pub moved_down : start + at < length xs → drop start (remove xs (start + at)) ≡ remove (drop start xs) at
  moved_down h = before_at (omega (arith, h)) (drop (suc (start + at)) xs) ∙ ap (λ zs. take at (drop start xs) ++ zs) (past (suc (start + at)) (omega arith))

  pub moved_up : start + at < length xs → drop (start + 1) (copy_within xs start (start + at) (start + 1)) ≡ remove (drop start xs) at
  moved_up h =
      let count = start + at - start in
      let first = take (start + 1) xs in
      let moved = take count (drop start xs) in
      let rest = drop (start + 1 + count) xs in
      ap (λ n. drop n (first ++ moved ++ rest)) (sym (length-take-le (start + 1) xs (omega (arith, h))))
      ∙ ap (drop (length first)) (append_assoc first moved rest)
      ∙ drop-append_seam first (moved ++ rest)
      ∙ ap (λ n. take n (drop start xs) ++ rest) (omega arith)
      ∙ ap (λ zs. take at (drop start xs) ++ zs) (past (start + 1 + count) (omega arith))
