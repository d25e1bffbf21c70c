-- Words, which blanks part.
use Rattle.std.specs.Prelude.{ℕ, Bool, ◌==◌, ◌||◌, List, take, drop}
use Rattle.std.specs.List.{position_or_len, prefix_len}
use Rattle.source_text.specs.declared.words.Blanks.{Blanks}
use Rattle.source_text.specs.declared.words.Blanks.TheVariants as blanks

-- a byte that parts words: a space, or also a tab
abbrev pub is_blank : Blanks → ℕ → Bool
is_blank blanks.Spaces b = b == 32
is_blank blanks.SpacesAndTabs b = b == 32 || b == 9

-- the first word
abbrev pub first_word : (ℕ → Bool) → List ℕ → List ℕ
first_word is_blank text = take (position_or_len is_blank text) text

-- what comes after the first word and the blanks after it
abbrev pub after_word : (ℕ → Bool) → List ℕ → List ℕ
after_word is_blank text =
    let rest = drop (position_or_len is_blank text) text in
    drop (prefix_len is_blank rest) rest
