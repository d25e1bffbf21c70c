-- Answers that are kept: they stay, and they are true.
use Rattle.std.proofs.Common.{◌≡◌, ℕ, ◌<◌, ◌≤◌, Bool, true, false, cond, List, length, Option, Some, None, refl, sym, ap, ◌∙◌, subst, arith}
use Rattle.std.specs.Prelude.{IfSome, IsSomeAnd, nat_lt}
use Rattle.std.specs.Str.{bytes_eq}
use Rattle.std.proofs.lemmas.Slice.Eq.{bytes_eq-Decides}
use Rattle.std.proofs.lemmas.Bool.Decides.{nat_tests}
use Rattle.wind_base.specs.Limits.{longest_module_file}
use Rattle.wind_outside.specs.Files.{Files, IsFetchOf}
use Rattle.wind_outside.specs.declared.folder.Fetched.{Fetched}
use Rattle.wind_outside.specs.declared.folder.Fetched.TheVariants as fetched
use Rattle.live_loading.specs.Said.{FileSaid, Held, Missing, TooLong, said_by as said_of_entry}
use Rattle.kept_files.specs.Kept.{Grows, IsTrue, Kept, said_by, with_kept}

-- ---- nothing is added
same : (o : Option FileSaid) → IfSome o (λ said. o ≡ Some said)
same None = tt
same (Some said) = refl

pub grows_same : (old new : Kept) → new ≡ old → Grows old new
grows_same old new e = λ path. subst (λ (k : Kept). IfSome (old path) (λ said. k path ≡ Some said)) (sym e) (same (old path))

-- what stays twice stays
stays : (old mid new : Option FileSaid) → IfSome old (λ x. mid ≡ Some x) → ((x : FileSaid) → mid ≡ Some x → new ≡ Some x) → IfSome old (λ x. new ≡ Some x)
stays None mid new first then = tt
stays (Some x) mid new first then = then x first

kept_on : (mid new : Option FileSaid) → IfSome mid (λ x. new ≡ Some x) → (x : FileSaid) → mid ≡ Some x → new ≡ Some x
kept_on None new h x e = absurd (cc)
kept_on (Some y) new h x e = h ∙ e

pub grows_both : (old mid new : Kept) → Grows old mid → Grows mid new → Grows old new
grows_both old mid new first then = λ path. stays (old path) (mid path) (new path) (first path) (kept_on (mid path) (new path) (then path))

pub true_same : (files : Option Files) (old new : Kept) → new ≡ old → IsTrue files old → IsTrue files new
true_same files old new e h = subst (IsTrue files) (sym e) h

-- ---- one is added, of a file of which none was kept
module _ (name : List ℕ) (said : FileSaid) (old new : Kept) (none : old name ≡ None) (adds : (other : List ℕ) → new other ≡ with_kept old name said other) where
  -- an answer that is kept is the one added, or was kept before
  grows_by : (path : List ℕ) (b : Bool) → bytes_eq path name ≡ b → new path ≡ cond b (Some said) (old path) → IfSome (old path) (λ x. new path ≡ Some x)
  grows_by path true e added = subst (λ (o : Option FileSaid). IfSome o (λ x. new path ≡ Some x)) (sym (ap old ((bytes_eq-Decides path name).0 e) ∙ none)) tt
  grows_by path false e added = subst (λ (o : Option FileSaid). IfSome (old path) (λ x. o ≡ Some x)) (sym added) (same (old path))

  pub grows_one : Grows old new
  grows_one path = grows_by path (bytes_eq path name) refl (adds path)

  true_by : (held : Files) → said ≡ said_of_entry (held name) → ((path : List ℕ) → IfSome (old path) (λ x. x ≡ said_of_entry (held path)))
      → (path : List ℕ) (b : Bool) → bytes_eq path name ≡ b → new path ≡ cond b (Some said) (old path) → IfSome (new path) (λ x. x ≡ said_of_entry (held path))
  true_by held own before path true e added =
      subst (λ (o : Option FileSaid). IfSome o (λ x. x ≡ said_of_entry (held path))) (sym added)
      (own ∙ ap (λ p. said_of_entry (held p)) (sym ((bytes_eq-Decides path name).0 e)))
  true_by held own before path false e added = subst (λ (o : Option FileSaid). IfSome o (λ x. x ≡ said_of_entry (held path))) (sym added) (before path)

  true_held : (files : Option Files) → IfSome files (λ held. said ≡ said_of_entry (held name)) → IsTrue files old → IsTrue files new
  true_held None own before = tt
  true_held (Some held) own before = λ path. true_by held own before path (bytes_eq path name) refl (adds path)

-- ---- what a fetch says is true of its file
says_long : (file : Option (List ℕ)) → IsSomeAnd file (λ bytes. longest_module_file < length bytes) → TooLong ≡ said_of_entry file
says_long None h = elim h [ ]
says_long (Some bytes) h = let long : nat_lt longest_module_file (length bytes) ≡ true = grind (arith, nat_tests, h) in sym (ap (λ b. cond b TooLong (Held bytes)) long)

says_held : (file : Option (List ℕ)) (bytes : List ℕ) → file ≡ Some bytes → length bytes ≤ longest_module_file → Held bytes ≡ said_of_entry file
says_held file bytes e within =
    let short : nat_lt longest_module_file (length bytes) ≡ false = grind (arith, nat_tests, within) in
    sym (ap (λ b. cond b TooLong (Held bytes)) short) ∙ ap said_of_entry (sym e)

fetch_true : (file : Option (List ℕ)) (answer : Fetched) (said : FileSaid) → said_by answer ≡ Some said → IsFetchOf file longest_module_file answer → said ≡ said_of_entry file
fetch_true file (fetched.Found bytes) said e h = let same : said ≡ Held bytes.items = cc in same ∙ says_held file bytes.items h.0 h.1
fetch_true file fetched.Missing said e h = let same : said ≡ Missing = cc in same ∙ ap said_of_entry (sym h)
fetch_true file fetched.TooLong said e h = let same : said ≡ TooLong = cc in same ∙ says_long file h
fetch_true file fetched.Failed said e h = absurd (cc)
fetch_true file fetched.NoMemory said e h = absurd (cc)

fetches_true : (files : Option Files) (name : List ℕ) (answer : Fetched) (said : FileSaid) → said_by answer ≡ Some said → IfSome files (λ held. IsFetchOf (held name) longest_module_file answer) → IfSome files (λ held. said ≡ said_of_entry (held name))
fetches_true None name answer said e h = tt
fetches_true (Some held) name answer said e h = fetch_true (held name) answer said e h

-- ---- so a fetch whose answer is kept keeps what is kept true
pub true_one : (name : List ℕ) (said : FileSaid) (old new : Kept) (none : old name ≡ None) (adds : (other : List ℕ) → new other ≡ with_kept old name said other) (before after : Option Files) (answer : Fetched)
    → after ≡ before → said_by answer ≡ Some said → IfSome before (λ held. IsFetchOf (held name) longest_module_file answer) → IsTrue before old → IsTrue after new
true_one name said old new none adds before after answer stays e h old_true =
    subst (λ (files : Option Files). IsTrue files new) (sym stays)
    (true_held name said old new none adds before (fetches_true before name answer said e h) old_true)
