-- A file that is set aside.
use Rattle.std.proofs.Common.{◌≡◌, ◌≢◌, ℕ, ◌+◌, Bool, true, false, List, ◌++◌, length, Option, None, Some, refl, sym, ap, ◌∙◌, cond, arith}
use Rattle.std.specs.Prelude.{codes}
use Rattle.std.specs.Option.{option_or}
use Rattle.std.specs.Str.{bytes_eq}
use Rattle.std.proofs.lemmas.List.{length-append}
use Rattle.std.proofs.lemmas.Slice.Eq.{bytes_eq-Decides}
use Rattle.wind_outside.specs.Files.{Files, with_file}
use Rattle.live_session.specs.Folder.{IsMoved, aside_path}

false_of : (b : Bool) → (b ≡ true → ⊥) → b ≡ false
false_of true h = absurd (h refl)
false_of false h = refl

pub bytes_differ : (a b : List ℕ) → a ≢ b → bytes_eq a b ≡ false
bytes_differ a b differ = false_of (bytes_eq a b) (λ e. differ ((bytes_eq-Decides a b).0 e))

-- the longer name is another
four_more : length (codes ".old") ≡ 4
four_more = refl

other_name : (name : List ℕ) → aside_path name ≢ name
other_name name same =
    let longer : length (name ++ codes ".old") ≡ length name + length (codes ".old") = length-append name (codes ".old") in
    let equal : length (name ++ codes ".old") ≡ length name = ap length same in
    absurd (omega (arith, longer, equal, four_more))

-- there is no such file
pub not_moved : (files : Files) (name : List ℕ) → files name ≡ None → IsMoved files files name
not_moved files name none = record { gone = none; aside = ap (λ (o : Option (List ℕ)). option_or o (files (aside_path name))) (sym none); others = λ other differs apart. refl }

-- a copy was put under the longer name, and the file was taken away
pub moved : (old mid new : Files) (name bytes : List ℕ) → old name ≡ Some bytes → ((other : List ℕ) → mid other ≡ with_file old (aside_path name) bytes other)
    → new name ≡ None → ((other : List ℕ) → other ≢ name → new other ≡ mid other) → IsMoved old new name
moved old mid new name bytes has put gone others =
    let path = aside_path name in
    record {
      gone = gone;
      aside =
          others path (other_name name) ∙ put path ∙ ap (λ b. cond b (Some bytes) (old path)) ((bytes_eq-Decides path path).1 refl)
          ∙ ap (λ (o : Option (List ℕ)). option_or o (old path)) (sym has);
      others = λ other differs apart. others other differs ∙ put other ∙ ap (λ b. cond b (Some bytes) (old other)) (bytes_differ other path apart);
    }
