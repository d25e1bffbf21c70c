-- A byte that arrives keeps the journal of the console in agreement with the console.
use Rattle.std.proofs.Common.{◌≡◌, ℕ, suc, ◌+◌, ◌-◌, ◌<◌, ◌≤◌, Bool, true, false, cond, List, [], ◌∷◌, ◌++◌, length, take, drop, refl, sym, ap, ◌∙◌, subst, inl, inr, arith, append_assoc, append-nil, length-append}
use Rattle.std.specs.Prelude.{nat_lt}
use Rattle.std.proofs.lemmas.Bool.Decides.{nat_tests}
use Rattle.std.proofs.lemmas.List.{take-append-drop}
use Rattle.std.proofs.Math.Seq.{take-append_seam}
use Rattle.con_line.specs.State.{ConsoleState}
use Rattle.con_line.specs.Keys.{key_of, erased, has_room, line_ended, after_key, after_byte}
use Rattle.con_line.specs.Lines.{is_kept, with_end}
use Rattle.con_line.specs.declared.key.Key.{Key}
use Rattle.con_line.specs.declared.key.Key.TheVariants as keys
use Rattle.con_line.proofs.Kept.{by_test}
use Rattle.con_line.specs.Fates.{Reason, LineFull, LinesFull, Erased, Aborted, Control, SameEnd, Ignored, Fate, Typed, Ended, Dropped, Arrival, Entry, entry, bytes_if, in_line, in_lines, Becomes, Continues, dropped_for, without_last, with_entry, journal_after_end, journal_after_key, journal_after}

-- ---- the journal and another after it
in_lines-append : (es fs : List Entry) → in_lines (es ++ fs) ≡ in_lines es ++ in_lines fs
in_lines-append [] fs = refl
in_lines-append (e ∷ es) fs = ap (λ bs. in_line e.fate e.byte ++ bs) (in_lines-append es fs) ∙ sym (append_assoc (in_line e.fate e.byte) (in_lines es) (in_lines fs))

bytes_if-append : (test : Bool → Bool) (es fs : List Entry) → bytes_if test (es ++ fs) ≡ bytes_if test es ++ bytes_if test fs
bytes_if-append test [] fs = refl
bytes_if-append test (e ∷ es) fs =
    elim (test e.is_supplied) as (λ b. cond b (e.byte ∷ bytes_if test (es ++ fs)) (bytes_if test (es ++ fs)) ≡ cond b (e.byte ∷ bytes_if test es) (bytes_if test es) ++ bytes_if test fs) [
      | true ↦ ap (λ bs. e.byte ∷ bs) (bytes_if-append test es fs)
      | false ↦ bytes_if-append test es fs
    ]

-- ---- the last bytes that are in lines are dropped
-- one byte, before others of which `out` are left
shorter : (b n : ℕ) (rest out : List ℕ) (t : Bool) → nat_lt (length rest) n ≡ t → out ≡ take (length rest - n) rest → cond t out (b ∷ out) ≡ take (suc (length rest) - n) (b ∷ rest)
shorter b n rest out true few e =
    let past : length rest < n = grind (arith, nat_tests, few) in
    let none : length rest - n ≡ 0 = omega arith in
    let all : suc (length rest) - n ≡ 0 = omega arith in
    e ∙ ap (λ m. take m rest) none ∙ sym (ap (λ m. take m (b ∷ rest)) all)
shorter b n rest out false many e =
    let within : n ≤ length rest = grind (arith, nat_tests, many) in
    let more : suc (length rest) - n ≡ suc (length rest - n) = omega arith in
    ap (λ bs. b ∷ bs) e ∙ sym (ap (λ m. take m (b ∷ rest)) more)

one_less : (fate : Fate) (why : Reason) (b n : ℕ) (rest out : List ℕ) → out ≡ take (length rest - n) rest
    → in_line (cond (nat_lt (length rest) n) (dropped_for why fate) fate) b ++ out ≡ take (length (in_line fate b ++ rest) - n) (in_line fate b ++ rest)
one_less Typed why b n rest out e =
    by_test (λ t. in_line (cond t (Dropped why) Typed) b ++ out ≡ take (suc (length rest) - n) (b ∷ rest)) (nat_lt (length rest) n)
    (λ few. shorter b n rest out true few e) (λ many. shorter b n rest out false many e)
one_less Ended why b n rest out e =
    by_test (λ t. in_line (cond t (Dropped why) Ended) b ++ out ≡ take (suc (length rest) - n) (10 ∷ rest)) (nat_lt (length rest) n)
    (λ few. shorter 10 n rest out true few e) (λ many. shorter 10 n rest out false many e)
one_less (Dropped before) why b n rest out e =
    by_test (λ t. in_line (cond t (Dropped before) (Dropped before)) b ++ out ≡ take (length rest - n) rest) (nat_lt (length rest) n) (λ few. e) (λ many. e)

less : (n : ℕ) (why : Reason) (es : List Entry) → in_lines (without_last n why es) ≡ take (length (in_lines es) - n) (in_lines es)
less n why [] = let none : 0 - n ≡ 0 = omega arith in sym (ap {B = List ℕ} (λ m. take m []) none)
less n why (e ∷ es) = one_less e.fate why e.byte n (in_lines es) (in_lines (without_last n why es)) (less n why es)

-- the bytes of y, which came last, are dropped
without_back : (n : ℕ) (why : Reason) (es : List Entry) (x y : List ℕ) → in_lines es ≡ x ++ y → n ≡ length y → in_lines (without_last n why es) ≡ x
without_back n why es x y e long =
    let rest : length (x ++ y) - n ≡ length x = omega (arith, length-append x y) in
    less n why es ∙ ap (λ bs. take (length bs - n) bs) e ∙ ap (λ m. take m (x ++ y)) rest ∙ take-append_seam x y

bytes_stay : (test : Bool → Bool) (n : ℕ) (why : Reason) (es : List Entry) → bytes_if test (without_last n why es) ≡ bytes_if test es
bytes_stay test n why [] = refl
bytes_stay test n why (e ∷ es) =
    elim (test e.is_supplied) as (λ b. cond b (e.byte ∷ bytes_if test (without_last n why es)) (bytes_if test (without_last n why es)) ≡ cond b (e.byte ∷ bytes_if test es) (bytes_if test es)) [
      | true ↦ ap (λ bs. e.byte ∷ bs) (bytes_stay test n why es)
      | false ↦ bytes_stay test n why es
    ]

-- ---- a byte arrives
-- the bytes in lines are those of these lines, the finished ones and the edited one
abbrev pub Agrees : List ℕ → ConsoleState → List Entry → Type 0
Agrees before c es = in_lines es ≡ before ++ (c.finished ++ c.edited)

module _ (before : List ℕ) (c : ConsoleState) (a : Arrival) (es : List Entry) (is : Agrees before c es) where
  -- it is dropped
  drops : (why : Reason) (fs : List Entry) (bytes : List ℕ) → in_lines fs ≡ bytes → in_lines (with_entry a (Dropped why) fs) ≡ bytes
  drops why fs bytes e = in_lines-append fs (entry a (Dropped why) ∷ []) ∙ append-nil (in_lines fs) ∙ e

  -- it is in a line
  joins : (fate : Fate) → in_lines (with_entry a fate es) ≡ before ++ (c.finished ++ (c.edited ++ in_line fate a.byte))
  joins fate =
      in_lines-append es (entry a fate ∷ [])
      ∙ ap (λ bs. in_lines es ++ bs) (append-nil (in_line fate a.byte))
      ∙ ap (λ bs. bs ++ in_line fate a.byte) is
      ∙ append_assoc before (c.finished ++ c.edited) (in_line fate a.byte)
      ∙ ap (λ bs. before ++ bs) (append_assoc c.finished c.edited (in_line fate a.byte))

  -- the last bytes of the edited line are dropped, and these are left
  cuts : (n : ℕ) (why : Reason) (x y : List ℕ) → c.edited ≡ x ++ y → n ≡ length y → in_lines (without_last n why es) ≡ before ++ (c.finished ++ x)
  cuts n why x y e long =
      without_back n why es (before ++ (c.finished ++ x)) y
      (is ∙ ap (λ bs. before ++ (c.finished ++ bs)) e ∙ ap (λ bs. before ++ bs) (sym (append_assoc c.finished x y)) ∙ sym (append_assoc before (c.finished ++ x) y)) long

  end_agrees : Agrees before (line_ended c) (journal_after_end c a es)
  end_agrees =
      by_test
      (λ t. in_lines (cond t (with_entry a Ended es) (with_entry a (Dropped LinesFull) (without_last (length c.edited) LinesFull es))) ≡ before ++ (cond t (c.finished ++ with_end c.edited) c.finished ++ []))
      (is_kept c.finished c.edited)
      (λ yes. joins Ended ∙ ap (λ bs. before ++ bs) (sym (append-nil (c.finished ++ with_end c.edited))))
      (λ no. drops LinesFull (without_last (length c.edited) LinesFull es) (before ++ (c.finished ++ [])) (cuts (length c.edited) LinesFull [] c.edited refl refl))

  key_agrees : (k : Key) → Agrees before (after_key k c a.byte) (journal_after_key k c a es)
  key_agrees keys.Return = end_agrees
  key_agrees keys.NewLine =
      by_test (λ t. Agrees before (cond t c (line_ended c)) (cond t (with_entry a (Dropped SameEnd) es) (journal_after_end c a es))) c.after_return
      (λ yes. drops SameEnd es (before ++ (c.finished ++ c.edited)) is) (λ no. end_agrees)
  key_agrees keys.Erase =
      let n : ℕ = length c.edited - 1 in
      let split : take n c.edited ++ drop n c.edited ≡ c.edited = take-append-drop n c.edited in
      let long : length c.edited - length (erased c.edited) ≡ length (drop n c.edited) = omega (arith, length-append (take n c.edited) (drop n c.edited), ap length split) in
      drops Control (without_last (length c.edited - length (erased c.edited)) Erased es) (before ++ (c.finished ++ take n c.edited))
      (cuts (length c.edited - length (erased c.edited)) Erased (take n c.edited) (drop n c.edited) (sym split) long)
  key_agrees keys.Kill =
      drops Control (without_last (length c.edited) Erased es) (before ++ (c.finished ++ [])) (cuts (length c.edited) Erased [] c.edited refl refl)
  key_agrees keys.Interrupt =
      drops Control (without_last (length c.finished + length c.edited) Aborted es) (before ++ [])
      (without_back (length c.finished + length c.edited) Aborted es before (c.finished ++ c.edited) is (sym (length-append c.finished c.edited)) ∙ sym (append-nil before))
  key_agrees keys.Text =
      by_test (λ t. Agrees before (record c { edited = cond t (c.edited ++ a.byte ∷ []) c.edited }) (with_entry a (cond t Typed (Dropped LineFull)) es)) (has_room c.edited)
      (λ yes. joins Typed) (λ no. drops LineFull es (before ++ (c.finished ++ c.edited)) is)
  key_agrees keys.Ignored = drops Ignored es (before ++ (c.finished ++ c.edited)) is

-- ---- bytes arrive, one after another
-- the console after them
abbrev pub console_after : ConsoleState → List Arrival → ConsoleState
console_after c [] = c
console_after c (a ∷ more) = console_after (after_byte c a.byte) more

pub all_agree : (before : List ℕ) (c : ConsoleState) (arrivals : List Arrival) (es : List Entry) → Agrees before c es → Agrees before (console_after c arrivals) (journal_after c arrivals es)
all_agree before c [] es is = is
all_agree before c (a ∷ more) es is = all_agree before (after_byte c a.byte) more (journal_after_key (key_of a.byte) c a es) (key_agrees before c a es is (key_of a.byte))

-- ---- the bytes that are supplied or not
-- those among arrivals
abbrev pub part_if : (Bool → Bool) → List Arrival → List ℕ
part_if test [] = []
part_if test (a ∷ more) = cond (test a.is_supplied) (a.byte ∷ part_if test more) (part_if test more)

module _ (test : Bool → Bool) (a : Arrival) (es : List Entry) where
  abbrev with_it : List ℕ
  with_it = bytes_if test es ++ part_if test (a ∷ [])

  last_bytes : (fate : Fate) (fs : List Entry) → bytes_if test fs ≡ bytes_if test es → bytes_if test (with_entry a fate fs) ≡ with_it
  last_bytes fate fs e = bytes_if-append test fs (entry a fate ∷ []) ∙ ap (λ bs. bs ++ part_if test (a ∷ [])) e

  end_bytes : (c : ConsoleState) → bytes_if test (journal_after_end c a es) ≡ with_it
  end_bytes c =
      by_test (λ t. bytes_if test (cond t (with_entry a Ended es) (with_entry a (Dropped LinesFull) (without_last (length c.edited) LinesFull es))) ≡ with_it) (is_kept c.finished c.edited)
      (λ yes. last_bytes Ended es refl) (λ no. last_bytes (Dropped LinesFull) (without_last (length c.edited) LinesFull es) (bytes_stay test (length c.edited) LinesFull es))

  key_bytes : (k : Key) (c : ConsoleState) → bytes_if test (journal_after_key k c a es) ≡ with_it
  key_bytes keys.Return c = end_bytes c
  key_bytes keys.NewLine c =
      by_test (λ t. bytes_if test (cond t (with_entry a (Dropped SameEnd) es) (journal_after_end c a es)) ≡ with_it) c.after_return
      (λ yes. last_bytes (Dropped SameEnd) es refl) (λ no. end_bytes c)
  key_bytes keys.Erase c = last_bytes (Dropped Control) _ (bytes_stay test (length c.edited - length (erased c.edited)) Erased es)
  key_bytes keys.Kill c = last_bytes (Dropped Control) _ (bytes_stay test (length c.edited) Erased es)
  key_bytes keys.Interrupt c = last_bytes (Dropped Control) _ (bytes_stay test (length c.finished + length c.edited) Aborted es)
  key_bytes keys.Text c = last_bytes (cond (has_room c.edited) Typed (Dropped LineFull)) es refl
  key_bytes keys.Ignored c = last_bytes (Dropped Ignored) es refl

pub part_if-append : (test : Bool → Bool) (first more : List Arrival) → part_if test (first ++ more) ≡ part_if test first ++ part_if test more
part_if-append test [] more = refl
part_if-append test (a ∷ first) more =
    elim (test a.is_supplied) as (λ b. cond b (a.byte ∷ part_if test (first ++ more)) (part_if test (first ++ more)) ≡ cond b (a.byte ∷ part_if test first) (part_if test first) ++ part_if test more) [
      | true ↦ ap (λ bs. a.byte ∷ bs) (part_if-append test first more)
      | false ↦ part_if-append test first more
    ]

pub all_bytes : (test : Bool → Bool) (c : ConsoleState) (arrivals : List Arrival) (es : List Entry) → bytes_if test (journal_after c arrivals es) ≡ bytes_if test es ++ part_if test arrivals
all_bytes test c [] es = sym (append-nil (bytes_if test es))
all_bytes test c (a ∷ more) es =
    all_bytes test (after_byte c a.byte) more (journal_after_key (key_of a.byte) c a es)
    ∙ ap (λ bs. bs ++ part_if test more) (key_bytes test a es (key_of a.byte) c)
    ∙ append_assoc (bytes_if test es) (part_if test (a ∷ [])) (part_if test more)
    ∙ ap (λ bs. bytes_if test es ++ bs) (sym (part_if-append test (a ∷ []) more))

-- ---- what was dropped stays so
becomes_same : (fate : Fate) → Becomes fate fate
becomes_same Typed = inl refl
becomes_same Ended = inl refl
becomes_same (Dropped why) = refl

becomes_dropped : (why : Reason) (fate : Fate) → Becomes fate (dropped_for why fate)
becomes_dropped why Typed = inr (why, refl)
becomes_dropped why Ended = inr (why, refl)
becomes_dropped why (Dropped before) = refl

becomes_then : (f g h : Fate) → Becomes f g → Becomes g h → Becomes f h
becomes_then (Dropped why) g h p q = subst (λ x. Becomes x h) p q
becomes_then Typed Typed h p q = q
becomes_then Typed Ended h p q = elim p [ inl e ↦ absurd (cc) | inr e ↦ let bad = e.1 in absurd (cc) ]
becomes_then Typed (Dropped why) h p q = inr (why, q)
becomes_then Ended Typed h p q = elim p [ inl e ↦ absurd (cc) | inr e ↦ let bad = e.1 in absurd (cc) ]
becomes_then Ended Ended h p q = q
becomes_then Ended (Dropped why) h p q = inr (why, q)

same_on : (es more : List Entry) → Continues es (es ++ more)
same_on [] more = tt
same_on (e ∷ es) more = (refl, refl, becomes_same e.fate, same_on es more)

less_on : (n : ℕ) (why : Reason) (es more : List Entry) → Continues es (without_last n why es ++ more)
less_on n why [] more = tt
less_on n why (e ∷ es) more = (
  refl,
  refl,
  by_test (λ t. Becomes e.fate (cond t (dropped_for why e.fate) e.fate)) (nat_lt (length (in_lines es)) n) (λ few. becomes_dropped why e.fate) (λ many. becomes_same e.fate),
  less_on n why es more,
)

then_on : (es fs gs : List Entry) → Continues es fs → Continues fs gs → Continues es gs
then_on [] fs gs p q = tt
then_on (e ∷ es) [] gs p q = absurd p
then_on (e ∷ es) (f ∷ fs) [] p q = absurd q
then_on (e ∷ es) (f ∷ fs) (g ∷ gs) p q = (q.0 ∙ p.0, q.1 ∙ p.1, becomes_then e.fate f.fate g.fate p.2 q.2, then_on es fs gs p.3 q.3)

end_on : (c : ConsoleState) (a : Arrival) (es : List Entry) → Continues es (journal_after_end c a es)
end_on c a es =
    by_test (λ t. Continues es (cond t (with_entry a Ended es) (with_entry a (Dropped LinesFull) (without_last (length c.edited) LinesFull es)))) (is_kept c.finished c.edited)
    (λ yes. same_on es _) (λ no. less_on (length c.edited) LinesFull es _)

key_on : (k : Key) (c : ConsoleState) (a : Arrival) (es : List Entry) → Continues es (journal_after_key k c a es)
key_on keys.Return c a es = end_on c a es
key_on keys.NewLine c a es =
    by_test (λ t. Continues es (cond t (with_entry a (Dropped SameEnd) es) (journal_after_end c a es))) c.after_return (λ yes. same_on es _) (λ no. end_on c a es)
key_on keys.Erase c a es = less_on (length c.edited - length (erased c.edited)) Erased es _
key_on keys.Kill c a es = less_on (length c.edited) Erased es _
key_on keys.Interrupt c a es = less_on (length c.finished + length c.edited) Aborted es _
key_on keys.Text c a es = same_on es _
key_on keys.Ignored c a es = same_on es _

self_on : (es : List Entry) → Continues es es
self_on [] = tt
self_on (e ∷ es) = (refl, refl, becomes_same e.fate, self_on es)

pub all_on : (c : ConsoleState) (arrivals : List Arrival) (es : List Entry) → Continues es (journal_after c arrivals es)
all_on c [] es = self_on es
all_on c (a ∷ more) es =
    let fs : List Entry = journal_after_key (key_of a.byte) c a es in
    then_on es fs (journal_after (after_byte c a.byte) more fs) (key_on (key_of a.byte) c a es) (all_on (after_byte c a.byte) more fs)
