-- A family's text, read from its beginning line by line.
use Rattle.std.proofs.Common.{◌≡◌, ℕ, ◌+◌, ◌*◌, Bool, true, false, cond, List, [], ◌∷◌, ◌++◌, length, refl, sym, ap, ◌∙◌, subst, arith}
use Rattle.std.specs.Prelude.{Result, Ok, Err, nat_lt, ◌&&◌}
use Rattle.std.specs.List.{AllByRecursion}
use Rattle.std.proofs.Math.Nat.{mul_assoc}
use Rattle.std.proofs.lemmas.Bool.{cases_lt}
use Rattle.std.proofs.lemmas.List.{append_assoc}
use Rattle.std.proofs.lemmas.List.Elements.{All-from_recursion}
use mathlib.Core.Logic.{⊎_elim}
use Rattle.wind_base.specs.Limits.{longest_text_file}
use Rattle.wind_base.specs.Lines.{line_length}
use Rattle.source_text.specs.Lines.{after_line}
use Rattle.tick_file.specs.declared.event.Said.TheVariants as said_of
use Rattle.tick_file.specs.Grammar.{said}
use Rattle.tick_file.specs.Lines.{first_line, tick_lines}
use Rattle.tick_file.proofs.LineLemmas.{line_and_others, last_line}
use Rattle.tick_family.specs.declared.fault.Fault.{Fault}
use Rattle.tick_family.specs.declared.fault.Fault.TheVariants.{TooManyMembers, TimeTooLate, TextTooLong}
use Rattle.tick_family.specs.declared.fault.FamilyErr.{FamilyErr}
use Rattle.tick_family.specs.declared.fault.FamilyErr.TheVariants.{BadLine, NoMemory}
use Rattle.tick_family.specs.declared.entry.Entry.{Entry}
use Rattle.tick_family.specs.declared.entry.Content.{Content}
use Rattle.tick_family.specs.declared.entry.Content.TheVariants.{Nothing, Asks, Bad}
use Rattle.tick_family.specs.declared.extent.Extent.{Extent}
use Rattle.tick_family.specs.Entries.{content_by, content_of}
use Rattle.tick_family.specs.Members.{choices, members_of}
use Rattle.tick_family.specs.Reading.{most_members, is_late, last_events, text_length, start, extended, grown, onto, after_entry, after_content, read_from, family_of, Tells}
use Rattle.tick_family.specs.Inside.{IsEntry, is_accepted, are_accepted, IsFamily, before_all}
use Rattle.tick_family.proofs.EntryLemmas.{content_fits}

abbrev pub Read : Type 0
Read = Result (List Entry) (ℕ × Fault)

-- a blank line has nothing
silent : said [] ≡ said_of.Nothing
unfolding said
silent = refl

blank : content_of [] ≡ Nothing
unfolding content_of
blank = ap (content_by []) silent

read_blank : (n : ℕ) (extent : Extent) → read_from n extent ([] ∷ []) ≡ Ok []
read_blank n extent = ap (λ c. after_content n extent c (λ next. Ok [])) blank

-- nothing left
pub read_done : (n : ℕ) (extent : Extent) → read_from n extent (tick_lines []) ≡ Ok []
unfolding tick_lines
read_done n extent = read_blank n extent

-- what follows a line depends only on what follows
module _ (more more' : Extent → Read) (same : (extent : Extent) → more extent ≡ more' extent) where
  entry_same : (n : ℕ) (x : Entry) (r : Result Extent Fault) → after_entry n x r more ≡ after_entry n x r more'
  entry_same n x (Ok extent) = ap (onto x) (same extent)
  entry_same n x (Err fault) = refl

  pub content_same : (n : ℕ) (extent : Extent) (c : Content) → after_content n extent c more ≡ after_content n extent c more'
  content_same n extent Nothing = same extent
  content_same n extent (Asks x) = entry_same n x (grown extent x)
  content_same n extent (Bad fault) = refl

-- the first line, and the lines after it
pub read_step : (n : ℕ) (extent : Extent) (text : List ℕ) → read_from n extent (tick_lines text) ≡ read_from n extent (first_line text ∷ tick_lines (after_line text))
read_step n extent text =
    ⊎_elim
    (λ h. ap (read_from n extent) (line_and_others text h))
    (λ h.
    ap (read_from n extent) (last_line text h).0
    ∙ content_same (λ next. Ok []) (λ next. read_from (n + 1) next (tick_lines (after_line text)))
    (λ next. sym (ap (read_from (n + 1) next) (last_line text h).1 ∙ read_blank (n + 1) next)) n extent (content_of (first_line text)))
    (cases_lt (line_length text) (length text))

-- ---- one line more
pub before_onto : (xs : List Entry) (x : Entry) (r : Read) → before_all (xs ++ x ∷ []) r ≡ before_all xs (onto x r)
before_onto xs x (Ok ys) = ap Ok (append_assoc xs (x ∷ []) ys)
before_onto xs x (Err bad) = refl

pub before_none : (r : Read) → before_all [] r ≡ r
before_none (Ok ys) = refl
before_none (Err bad) = refl

pub nothing_step : (n : ℕ) (extent : Extent) (line : List ℕ) (more : List (List ℕ)) → content_of line ≡ Nothing → read_from (n + 1) extent more ≡ read_from n extent (line ∷ more)
nothing_step n extent line more e = sym (ap (λ c. after_content n extent c (λ next. read_from (n + 1) next more)) e)

pub entry_step : (n : ℕ) (extent next : Extent) (x : Entry) (line : List ℕ) (more : List (List ℕ)) → content_of line ≡ Asks x → grown extent x ≡ Ok next
    → onto x (read_from (n + 1) next more) ≡ read_from n extent (line ∷ more)
entry_step n extent next x line more e g =
    sym (ap (λ c. after_content n extent c (λ next. read_from (n + 1) next more)) e ∙ ap (λ r. after_entry n x r (λ next. read_from (n + 1) next more)) g)

pub bad_step : (n : ℕ) (extent : Extent) (fault : Fault) (line : List ℕ) (more : List (List ℕ)) → content_of line ≡ Bad fault → read_from n extent (line ∷ more) ≡ Err (n, fault)
bad_step n extent fault line more e = ap (λ c. after_content n extent c (λ next. read_from (n + 1) next more)) e

pub refused_step : (n : ℕ) (extent : Extent) (x : Entry) (fault : Fault) (line : List ℕ) (more : List (List ℕ)) → content_of line ≡ Asks x → grown extent x ≡ Err fault
    → read_from n extent (line ∷ more) ≡ Err (n, fault)
refused_step n extent x fault line more e g =
    ap (λ c. after_content n extent c (λ next. read_from (n + 1) next more)) e ∙ ap (λ r. after_entry n x r (λ next. read_from (n + 1) next more)) g

-- an error of the lines that are left is one of the whole text
pub tells_before : (xs : List Entry) (r whole : Read) (e : FamilyErr) → before_all xs r ≡ whole → Tells r e → Tells whole e
tells_before xs (Ok ys) whole (BadLine n fault) same tells = absurd (cc)
tells_before xs (Ok ys) whole NoMemory same tells = tt
tells_before xs (Err bad) whole e same tells = subst (λ w. Tells w e) same tells

-- ---- the entries that were read
-- an accepted entry extends the extent as `extended` says
abbrev refusal : Fault → Result Extent Fault
refusal fault = Err fault

accepted_cond : (a b c : Bool) (next got : Extent) → cond a (refusal TooManyMembers) (cond b (Err TimeTooLate) (cond c (Err TextTooLong) (Ok next))) ≡ Ok got → got ≡ next
accepted_cond true b c next got e = absurd (cc)
accepted_cond false true c next got e = absurd (cc)
accepted_cond false false true next got e = absurd (cc)
accepted_cond false false false next got e = cc

pub grown_is : (extent got : Extent) (x : Entry) → grown extent x ≡ Ok got → got ≡ extended extent x
unfolding grown
grown_is extent got x e =
    accepted_cond (nat_lt most_members (extent.members * choices x)) (is_late (last_events extent x)) (nat_lt longest_text_file (extent.bytes + text_length (last_events extent x))) (extended extent x) got e

-- the entries of lines are accepted one after another
abbrev pub AreGood : Extent → List Entry → Type 0
AreGood extent xs = AllByRecursion IsEntry xs × (are_accepted extent xs ≡ true)

pub onto_is : (x : Entry) (r : Read) (xs : List Entry) → onto x r ≡ Ok xs → (ys : List Entry) × (r ≡ Ok ys) × (xs ≡ x ∷ ys)
onto_is x (Ok ys) xs e = (ys, refl, cc)
onto_is x (Err bad) xs e = absurd (cc)

good_more : (extent : Extent) (x : Entry) (ys xs : List Entry) (next : Extent) → grown extent x ≡ Ok next → xs ≡ x ∷ ys → IsEntry x → AreGood next ys → AreGood extent xs
good_more extent x ys xs next g e h more =
    subst (AreGood extent) (sym e) ((h, more.0), ap (λ r. is_accepted r && are_accepted (extended extent x) ys) g ∙ ap (λ t. are_accepted t ys) (sym (grown_is extent next x g)) ∙ more.1)

after_good : (n : ℕ) (extent : Extent) (x : Entry) (r : Result Extent Fault) (more : Extent → Read) (xs : List Entry) → IsEntry x → grown extent x ≡ r
    → ((next : Extent) (ys : List Entry) → more next ≡ Ok ys → AreGood next ys) → after_entry n x r more ≡ Ok xs → AreGood extent xs
after_good n extent x (Ok next) more xs h g rest e =
    let k = onto_is x (more next) xs e in good_more extent x k.0 xs next g k.2 h (rest next k.0 k.1)
after_good n extent x (Err fault) more xs h g rest e = absurd (cc)

content_good : (n : ℕ) (extent : Extent) (line : List ℕ) (c : Content) (more : Extent → Read) (xs : List Entry) → content_of line ≡ c
    → ((next : Extent) (ys : List Entry) → more next ≡ Ok ys → AreGood next ys) → after_content n extent c more ≡ Ok xs → AreGood extent xs
content_good n extent line Nothing more xs is rest e = rest extent xs e
content_good n extent line (Asks x) more xs is rest e = after_good n extent x (grown extent x) more xs (content_fits line x is) refl rest e
content_good n extent line (Bad fault) more xs is rest e = absurd (cc)

pub read_good : (n : ℕ) (extent : Extent) (lines : List (List ℕ)) (xs : List Entry) → read_from n extent lines ≡ Ok xs → AreGood extent xs
read_good n extent [] xs e = let same : [] ≡ xs = cc in subst (AreGood extent) same (tt, refl)
read_good n extent (line ∷ lines) xs e = content_good n extent line (content_of line) (λ next. read_from (n + 1) next lines) xs refl (λ next ys k. read_good (n + 1) next lines ys k) e

pub family_good : (text : List ℕ) (xs : List Entry) → family_of text ≡ Ok xs → AreGood start xs
unfolding family_of
family_good text xs e = read_good 1 start (tick_lines text) xs e

pub is_family : (text : List ℕ) (xs : List Entry) (members : ℕ) → family_of text ≡ Ok xs → members ≡ members_of xs → IsFamily xs members
is_family text xs members e m = let good = family_good text xs e in record { entries = All-from_recursion IsEntry xs good.0; accepted = good.1; counted = m }

-- one entry more multiplies the members
pub members_more : (xs : List Entry) (x : Entry) → members_of (xs ++ x ∷ []) ≡ members_of xs * choices x
members_more [] x = omega arith
members_more (y ∷ ys) x = ap (λ n. choices y * n) (members_more ys x) ∙ sym (mul_assoc (choices y) (members_of ys) (choices x))
