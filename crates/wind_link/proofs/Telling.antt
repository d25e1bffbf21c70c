-- The lines of undefined names, one after another.
use Rattle.std.proofs.Common.{◌≡◌, ℕ, ◌+◌, ◌<◌, List, [], ◌∷◌, ◌++◌, Option, length, map, get_or, take, drop, sym, ap, ◌∙◌}
use Rattle.std.specs.List.{flat_map}
use Rattle.std.proofs.lemmas.List.{append-nil, take_more, take-append-drop}
use Rattle.wind_outside.specs.declared.sink.Put.TheVariants.{Done, Failed}
use Rattle.program_main.specs.Messages.{PutsText}
use Rattle.program_main.proofs.Putting.{puts_as, puts_both, puts_cut}
use Rattle.wind_link.specs.declared.undefined.Undefined.{Undefined}
use Rattle.wind_link.specs.Undefined.{pair_of, undefined_line}
use Rattle.wind_link.proofs.Rowing.{map-append}
use Rattle.wind_link.proofs.Unbinding.{flat_both}

abbrev lines : List ℕ → List Undefined → List ℕ
lines list us = flat_map (undefined_line list) (map pair_of us)

lines_both : (list : List ℕ) (us ws : List Undefined) → lines list (us ++ ws) ≡ lines list us ++ lines list ws
lines_both list us ws = ap (flat_map (undefined_line list)) (map-append pair_of us ws) ∙ flat_both (undefined_line list) (map pair_of us) (map pair_of ws)

module _ (list : List ℕ) (us : List Undefined) (i : ℕ) (d : Undefined) (lt : i < length us) (old mid new : Option (List ℕ)) (k m n : ℕ) (before : PutsText (lines list (take i us)) Done old mid k m) where
  one_more : lines list (take i us) ++ undefined_line list (pair_of (get_or us i d)) ≡ lines list (take (i + 1) us)
  one_more =
      ap (λ t. lines list (take i us) ++ t) (sym (append-nil (undefined_line list (pair_of (get_or us i d)))))
      ∙ sym (lines_both list (take i us) (get_or us i d ∷ []))
      ∙ ap (lines list) (sym (take_more us i d lt))

  pub line_put : PutsText (undefined_line list (pair_of (get_or us i d))) Done mid new m n → PutsText (lines list (take (i + 1) us)) Done old new k n
  line_put one =
      puts_as old new k n (lines list (take i us) ++ undefined_line list (pair_of (get_or us i d))) (lines list (take (i + 1) us)) Done one_more
      (puts_both old mid new k m n (lines list (take i us)) (undefined_line list (pair_of (get_or us i d))) Done before one)

  pub line_cut : PutsText (undefined_line list (pair_of (get_or us i d))) Failed mid new m n → PutsText (lines list us) Failed old new k n
  line_cut one =
      let first = lines list (take i us) ++ undefined_line list (pair_of (get_or us i d)) in
      puts_as old new k n (first ++ lines list (drop (i + 1) us)) (lines list us) Failed
      (ap (λ t. t ++ lines list (drop (i + 1) us)) one_more ∙ sym (lines_both list (take (i + 1) us) (drop (i + 1) us)) ∙ ap (lines list) (take-append-drop (i + 1) us))
      (puts_cut old new k n first (lines list (drop (i + 1) us)) (puts_both old mid new k m n (lines list (take i us)) (undefined_line list (pair_of (get_or us i d))) Failed before one))
