use Rattle.std.proofs.Common.{◌≡◌, ◌∙◌, ℕ, ◌-◌, List, ◌++◌, ◌≤◌, length, take, drop, ap, append_assoc, arith, length-drop}
use Rattle.std.proofs.lemmas.List.{take_all}
use Rattle.tick_file.specs.Grammar.{first_word, after_word}
use Rattle.tick_family.specs.Times.{before_byte}
use Rattle.tick_family.specs.Entries.{with_first}
use Rattle.tick_family.proofs.entry.with_first.Goals as goal

in_pieces : (line rest range head before whole : List ℕ) → rest ≡ after_word line → range ≡ first_word rest → head ≡ take (length line - length rest) line
    → before ≡ head ++ before_byte 46 range → whole ≡ before ++ drop (length range) rest → whole ≡ with_first line
in_pieces line rest range head before whole r g h b w =
    w
    ∙ ap (λ v. v ++ drop (length range) rest) (b ∙ ap (λ v. v ++ before_byte 46 range) h)
    ∙ append_assoc (take (length line - length rest) line) (before_byte 46 range) (drop (length range) rest)
    ∙ ap (λ v. take (length line - length rest) line ++ (before_byte 46 v ++ drop (length v) rest)) g
    ∙ ap (λ v. take (length line - length v) line ++ (before_byte 46 (first_word v) ++ drop (length (first_word v)) v)) r

-- a slice to the end
to_end : (xs : List ℕ) (n : ℕ) → length xs ≤ n → take n xs ≡ xs
to_end xs n h = take_all n xs h

pub returns : goal.returns
returns c =
    in_pieces c.args.line.now c.after_word-rest.result.now c.first_word-range.result.now c.in_ok-text.text.items c.extend_from_slice.new.self.items c.extend_from_slice-2.new.self.items
    c.after_word-rest.ensures c.first_word-range.ensures c.in_ok-text.ensures.items
    (c.in_ok-extend_from_slice.ensures.items ∙ ap (λ v. c.in_ok-text.text.items ++ v) c.before_byte.ensures)
    (c.in_ok-extend_from_slice-2.ensures.items ∙ ap (λ v. c.extend_from_slice.new.self.items ++ v) (to_end (drop (length c.first_word-range.result.now) c.after_word-rest.result.now) (length c.after_word-rest.result.now - length c.first_word-range.result.now) (omega (arith, length-drop (length c.first_word-range.result.now) c.after_word-rest.result.now))))
