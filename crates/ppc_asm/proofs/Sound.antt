-- The invariant of the lines of each assembled text.
use Rattle.std.proofs.Common.{◌≡◌, ℕ, ◌+◌, ◌%◌, ◌≤◌, ◌<◌, ◌^◌, Bool, true, false, List, [], ◌∷◌, ◌++◌, length, map, Option, Some, None, Result, Ok, refl, sym, ap, ◌∙◌, subst, arith, length-append}
use Rattle.std.specs.Prelude.{if◌then◌else◌, ◌==◌, ◌&&◌, ◌||◌, nat_le, bytes_eq}
use Rattle.std.specs.List.{All, AllByRecursion, IsDistinct, flat_map, list_any}
use Rattle.std.specs.Int.{bytes_high_first}
use Rattle.std.proofs.lemmas.List.Elements.{All-nil, All-cons, All-head, All-tail, All-append}
use Rattle.std.proofs.lemmas.List.Folds.{list_any-append}
use Rattle.ppc_text.specs.declared.token.Reference.{Reference}
use Rattle.ppc_text.specs.declared.values.Value.{Value}
use Rattle.ppc_text.specs.declared.values.Value.TheVariants.{Number, Address}
use Rattle.ppc_text.specs.declared.line.Item.{Item}
use Rattle.ppc_text.specs.declared.line.Item.TheVariants.{Nothing, Text, Data, Global, Long, Ascii, Space, Align, Instruction}
use Rattle.ppc_text.specs.declared.line.Line.{Line}
use Rattle.ppc_text.specs.Lines.{line_of}
use Rattle.source_text.specs.Lines.{pieces}
use Rattle.asm_lines.specs.declared.error.Cause.{Cause}
use Rattle.asm_lines.specs.declared.error.Cause.TheVariants.{Twice, TooLarge}
use Rattle.asm_lines.specs.declared.section.Fix.{Fix}
use Rattle.asm_lines.specs.declared.names.Label.{Label}
use Rattle.asm_lines.specs.Items.{Placed, section_from, section_at, next, value_bytes, item_bytes, section_bytes, size}
use Rattle.asm_lines.specs.Names.{value_names, reference_names, item_names, label_names, defined, mentions, first_names, has_name, label_at, line_label, labels, address_kind, reference_offset, fix, value_fixes, reference_fixes, item_fixes, fixes}
use Rattle.asm_lines.specs.Causes.{is_twice, is_too_large, item_cause, cause_or, cause_of, or_refused, judged, items}
use Rattle.asm_lines.proofs.Placing.{known_after}
use Rattle.asm_lines.proofs.Steps.{section_grows, section_stays, fixes_grow, fixes_stay, labels-snoc, mentions-snoc, defined-snoc}
use Rattle.ppc_text.proofs.Naming.{IsName, Holds, GoodReference, GoodMaybe, GoodValue, GoodItem, GoodLine, good_line}

-- ---- the invariant
abbrev pub IsKnown : Placed → Type 0
IsKnown p = (p.before ≤ 1) × (p.section ≤ 1)

-- the number of bytes that a relocation fills, at most
unfoldable pub reach : ℕ → ℕ
reach kind = if nat_le 4 kind && nat_le kind 6 then 2 else 4

-- a label stands in a section or at its end
pub record LabelIn (ps : List Placed) (l : Label) : Type 0 where
  pub known : l.section ≤ 1
  pub inside : l.offset ≤ size l.section ps
  pub name : IsName l.name

-- a relocation fills bytes of its section
pub record FixIn (bytes : ℕ) (f : Fix) : Type 0 where
  pub inside : f.offset + reach f.kind ≤ bytes
  pub addend : f.addend < 2 ^ 32
  pub kind : f.kind < 2 ^ 8

pub record Sound (ps : List Placed) : Type 0 where
  pub known : All IsKnown ps
  pub distinct : IsDistinct bytes_eq (defined ps)
  pub small : is_too_large ps ≡ false
  pub labelled : All (LabelIn ps) (labels ps)
  pub count : length (labels ps) ≡ length (defined ps)
  pub in_text : All (FixIn (size 0 ps)) (fixes 0 ps)
  pub in_data : All (FixIn (size 1 ps)) (fixes 1 ps)
  pub names : All IsName (mentions ps)
  pub mentioned : (q : List ℕ) → has_name (defined ps) q ≡ true → has_name (mentions ps) q ≡ true

All_then : {A : Type 0} (P Q : A → Type 0) (xs : List A) → ((x : A) → P x → Q x) → All P xs → All Q xs
All_then P Q xs f h = λ k d lt. f _ (h k d lt)

one : {A : Type 0} (P : A → Type 0) (x : A) → P x → All P (x ∷ [])
one P x h = All-cons P x [] h (All-nil P)

-- ---- no label is defined twice
all_snoc : {K : Type 0} (P : K → Type 0) (xs : List K) (x : K) → AllByRecursion P xs → P x → AllByRecursion P (xs ++ x ∷ [])
all_snoc P [] x h p = (p, tt)
all_snoc P (y ∷ ys) x h p = (h.0, all_snoc P ys x h.1 p)

or_parts : (a b : Bool) → (a || b) ≡ false → (a ≡ false) × (b ≡ false)
or_parts true b h = cc
or_parts false b h = (refl, h)

distinct_snoc : (xs : List (List ℕ)) (x : List ℕ) → IsDistinct bytes_eq xs → list_any (λ other. bytes_eq other x) xs ≡ false → IsDistinct bytes_eq (xs ++ x ∷ [])
unfolding IsDistinct
distinct_snoc [] x d h = (tt, tt)
distinct_snoc (y ∷ ys) x d h =
    let e = or_parts (bytes_eq y x) (list_any (λ other. bytes_eq other x) ys) h in
    (all_snoc (λ z. bytes_eq y z ≡ false) ys x d.0 e.0, distinct_snoc ys x d.1 e.1)

append_nil : {A : Type 0} (xs : List A) → xs ++ [] ≡ xs
append_nil [] = refl
append_nil (x ∷ xs) = ap (λ ys. x ∷ ys) (append_nil xs)

distinct_label : (ps : List Placed) (o : Option (List ℕ)) → IsDistinct bytes_eq (defined ps) → is_twice ps o ≡ false → IsDistinct bytes_eq (defined ps ++ label_names o)
unfolding has_name IsDistinct
distinct_label ps (Some n) d h = distinct_snoc (defined ps) n d h
distinct_label ps None d h = subst (IsDistinct bytes_eq) (sym (append_nil (defined ps))) d

-- ---- sections
known_from : (s : ℕ) (ps : List Placed) → s ≤ 1 → All IsKnown ps → section_from s ps ≤ 1
known_from s [] h a = h
known_from s (p ∷ ps) h a = let k : IsKnown p = All-head IsKnown p ps a in known_from p.section ps k.1 (All-tail IsKnown p ps a)

known_at : (ps : List Placed) → All IsKnown ps → section_at ps ≤ 1
unfolding section_at
known_at ps a = known_from 0 ps (omega arith) a

-- a section doesn't shrink
grows_by : (w : ℕ) (ps : List Placed) (p : Placed) (b : Bool) → (p.section == w) ≡ b → size w ps ≤ size w (ps ++ p ∷ [])
grows_by w ps p true h =
    let e : size w (ps ++ p ∷ []) ≡ length (section_bytes w ps ++ item_bytes (size w ps) p.item) = ap length (section_grows w ps p h) in
    let n = length-append (section_bytes w ps) (item_bytes (size w ps) p.item) in
    omega arith
grows_by w ps p false h = let e : size w (ps ++ p ∷ []) ≡ size w ps = ap length (section_stays w ps p h) in omega arith

grows : (w : ℕ) (ps : List Placed) (p : Placed) → size w ps ≤ size w (ps ++ p ∷ [])
grows w ps p = grows_by w ps p (p.section == w) refl

-- ---- labels
label_later : (ps : List Placed) (p : Placed) (l : Label) → LabelIn ps l → LabelIn (ps ++ p ∷ []) l
label_later ps p l h = let g = grows l.section ps p in let i = h.inside in record { known = h.known; inside = omega arith; name = h.name }

label_here : (ps : List Placed) (p : Placed) (o : Option (List ℕ)) (s : ℕ) → s ≤ 1 → Holds IsName o → All (LabelIn (ps ++ p ∷ [])) (label_at o s (size s ps))
label_here ps p (Some n) s k h =
    let l : Label = record { name = n; section = s; offset = size s ps } in
    one (LabelIn (ps ++ p ∷ [])) l (record { known = k; inside = grows s ps p; name = h })
label_here ps p None s k h = All-nil (LabelIn (ps ++ p ∷ []))

same_count : (o : Option (List ℕ)) (s off : ℕ) → length (label_at o s off) ≡ length (label_names o)
same_count (Some n) s off = refl
same_count None s off = refl

-- ---- relocations
fix_later : (m n : ℕ) (f : Fix) → m ≤ n → FixIn m f → FixIn n f
fix_later m n f le h = let i = h.inside in record { inside = omega arith; addend = h.addend; kind = h.kind }

all_later : (m n : ℕ) (fs : List Fix) → m ≤ n → All (FixIn m) fs → All (FixIn n) fs
all_later m n fs le a = All_then (FixIn m) (FixIn n) fs (λ f h. fix_later m n f le h) a

word_kind : (off : ℕ) → address_kind off < 2 ^ 8
word_kind off = go (off % 4 == 0) where
  go : (b : Bool) → (if b then 1 else 24) < 2 ^ 8
  go true = omega arith
  go false = omega arith

word_reach : (off : ℕ) → reach (address_kind off) ≡ 4
unfolding reach
word_reach off = go (off % 4 == 0) where
  go : (b : Bool) → reach (if b then 1 else 24) ≡ 4
  go true = refl
  go false = refl

values_in : (off : ℕ) (vs : List Value) → All GoodValue vs → All (FixIn (off + length (flat_map value_bytes vs))) (value_fixes off vs)
values_in off [] h = All-nil (FixIn (off + 0))
values_in off (Number w ∷ vs) h =
    let n = length-append (bytes_high_first 4 w) (flat_map value_bytes vs) in
    all_later ((off + 4) + length (flat_map value_bytes vs)) (off + length (flat_map value_bytes (Number w ∷ vs))) (value_fixes (off + 4) vs) (omega arith) (values_in (off + 4) vs (All-tail GoodValue (Number w) vs h))
values_in off (Address r ∷ vs) h =
    let n = length-append (bytes_high_first 4 0) (flat_map value_bytes vs) in
    let g : GoodReference r = All-head GoodValue (Address r) vs h in
    let t = word_reach off in
    let m = off + length (flat_map value_bytes (Address r ∷ vs)) in
    All-cons (FixIn m) (fix off (address_kind off) r) (value_fixes (off + 4) vs)
    (record { inside = omega arith; addend = g.addend; kind = word_kind off })
    (all_later ((off + 4) + length (flat_map value_bytes vs)) m (value_fixes (off + 4) vs) (omega arith) (values_in (off + 4) vs (All-tail GoodValue (Address r) vs h)))

half_inside : (off kind : ℕ) → reference_offset off kind + reach kind ≤ off + 4
unfolding reach
half_inside off kind = go (nat_le 4 kind && nat_le kind 6) where
  go : (b : Bool) → (if b then off + 2 else off) + (if b then 2 else 4) ≤ off + 4
  go true = omega arith
  go false = omega arith

reference_in : (off : ℕ) (o : Option Reference) → GoodMaybe o → All (FixIn (off + 4)) (reference_fixes off o)
reference_in off (Some r) h = one (FixIn (off + 4)) (fix (reference_offset off r.kind) r.kind r) (record { inside = half_inside off r.kind; addend = h.addend; kind = h.kind })
reference_in off None h = All-nil (FixIn (off + 4))

item_in : (off : ℕ) (item : Item) → GoodItem item → All (FixIn (off + length (item_bytes off item))) (item_fixes off item)
unfolding item_fixes item_bytes
item_in off Nothing h = All-nil _
item_in off Text h = All-nil _
item_in off Data h = All-nil _
item_in off (Global name) h = All-nil _
item_in off (Long vs) h = values_in off vs h
item_in off (Ascii bs) h = All-nil _
item_in off (Space n) h = All-nil _
item_in off (Align n) h = All-nil _
item_in off (Instruction i) h = reference_in off i.reference h

fixes_by : (w : ℕ) (ps : List Placed) (p : Placed) (b : Bool) → (p.section == w) ≡ b → GoodItem p.item → All (FixIn (size w ps)) (fixes w ps) → All (FixIn (size w (ps ++ p ∷ []))) (fixes w (ps ++ p ∷ []))
fixes_by w ps p true h g a =
    let e : size w (ps ++ p ∷ []) ≡ length (section_bytes w ps ++ item_bytes (size w ps) p.item) = ap length (section_grows w ps p h) in
    let n = length-append (section_bytes w ps) (item_bytes (size w ps) p.item) in
    subst (All (FixIn (size w (ps ++ p ∷ [])))) (sym (fixes_grow w ps p h))
    (All-append (FixIn (size w (ps ++ p ∷ []))) (fixes w ps) (item_fixes (size w ps) p.item)
    (all_later (size w ps) (size w (ps ++ p ∷ [])) (fixes w ps) (omega arith) a)
    (all_later (size w ps + length (item_bytes (size w ps) p.item)) (size w (ps ++ p ∷ [])) (item_fixes (size w ps) p.item) (omega arith) (item_in (size w ps) p.item g)))
fixes_by w ps p false h g a =
    let e : size w (ps ++ p ∷ []) ≡ size w ps = ap length (section_stays w ps p h) in
    subst (All (FixIn (size w (ps ++ p ∷ [])))) (sym (fixes_stay w ps p h)) (all_later (size w ps) (size w (ps ++ p ∷ [])) (fixes w ps) (omega arith) a)

-- ---- names
names_value : (vs : List Value) → All GoodValue vs → All IsName (flat_map value_names vs)
names_value [] h = All-nil IsName
names_value (Number w ∷ vs) h = names_value vs (All-tail GoodValue (Number w) vs h)
names_value (Address r ∷ vs) h = let g : GoodReference r = All-head GoodValue (Address r) vs h in All-cons IsName r.symbol (flat_map value_names vs) g.name (names_value vs (All-tail GoodValue (Address r) vs h))

names_reference : (o : Option Reference) → GoodMaybe o → All IsName (reference_names o)
names_reference (Some r) h = one IsName r.symbol h.name
names_reference None h = All-nil IsName

names_item : (item : Item) → GoodItem item → All IsName (item_names item)
unfolding item_names
names_item Nothing h = All-nil IsName
names_item Text h = All-nil IsName
names_item Data h = All-nil IsName
names_item (Global name) h = one IsName name h
names_item (Long vs) h = names_value vs h
names_item (Ascii bs) h = All-nil IsName
names_item (Space n) h = All-nil IsName
names_item (Align n) h = All-nil IsName
names_item (Instruction i) h = names_reference i.reference h

names_label : (o : Option (List ℕ)) → Holds IsName o → All IsName (label_names o)
names_label (Some n) h = one IsName n h
names_label None h = All-nil IsName

no : false ≡ true → ⊥
no e = cc

more_mentioned : (a b c : Bool) (d : Bool) → (a ≡ true → c ≡ true) → (a || b) ≡ true → (c || (b || d)) ≡ true
more_mentioned true b true d h e = refl
more_mentioned true b false d h e = absurd (no (h refl))
more_mentioned false true true d h e = refl
more_mentioned false true false d h e = refl
more_mentioned false false c d h e = cc

mentioned_next : (ps : List Placed) (p : Placed) → ((q : List ℕ) → has_name (defined ps) q ≡ true → has_name (mentions ps) q ≡ true) → (q : List ℕ) → has_name (defined (ps ++ p ∷ [])) q ≡ true → has_name (mentions (ps ++ p ∷ [])) q ≡ true
unfolding has_name
mentioned_next ps p h q e =
    let t = λ (other : List ℕ). bytes_eq other q in
    let d : list_any t (defined (ps ++ p ∷ [])) ≡ (list_any t (defined ps) || list_any t (label_names p.label)) = ap (list_any t) (defined-snoc ps p) ∙ list_any-append t (defined ps) (label_names p.label) in
    let m : list_any t (mentions (ps ++ p ∷ [])) ≡ (list_any t (mentions ps) || (list_any t (label_names p.label) || list_any t (item_names p.item))) =
    ap (list_any t) (mentions-snoc ps p) ∙ list_any-append t (mentions ps) (label_names p.label ++ item_names p.item) ∙ ap (λ b. list_any t (mentions ps) || b) (list_any-append t (label_names p.label) (item_names p.item)) in
    m ∙ more_mentioned (list_any t (defined ps)) (list_any t (label_names p.label)) (list_any t (mentions ps)) (list_any t (item_names p.item)) (h q) (sym d ∙ e)

-- ---- one more line
twice_of : (ps : List Placed) (l : Line) → cause_of ps l ≡ None → (is_twice ps l.label ≡ false) × (is_too_large (ps ++ next ps l ∷ []) ≡ false)
unfolding cause_of
twice_of ps l = go (item_cause ps l.item) (is_twice ps l.label) (is_too_large (ps ++ next ps l ∷ [])) where
  go : (o : Option Cause) (t s : Bool) → cause_or o (if t then Some Twice else (if s then Some TooLarge else None)) ≡ None → (t ≡ false) × (s ≡ false)
  go (Some c) t s e = cc
  go None true s e = cc
  go None false true e = cc
  go None false false e = (refl, refl)

sound_next : (ps : List Placed) (l : Line) → Sound ps → GoodLine l → cause_of ps l ≡ None → Sound (ps ++ next ps l ∷ [])
sound_next ps l a g e =
    let p = next ps l in
    let none = twice_of ps l e in
    let k : section_at ps ≤ 1 = known_at ps a.known in
    record {
      known = All-append IsKnown ps (p ∷ []) a.known (one IsKnown p (k, known_after l.item (section_at ps) k));
      distinct = subst (IsDistinct bytes_eq) (sym (defined-snoc ps p)) (distinct_label ps l.label a.distinct none.0);
      small = none.1;
      labelled = subst (All (LabelIn (ps ++ p ∷ []))) (sym (labels-snoc ps p))
          (All-append (LabelIn (ps ++ p ∷ [])) (labels ps) (line_label ps p) (All_then (LabelIn ps) (LabelIn (ps ++ p ∷ [])) (labels ps) (λ x h. label_later ps p x h) a.labelled) (label_here ps p l.label (section_at ps) k g.label));
      count = ap length (labels-snoc ps p) ∙ length-append (labels ps) (line_label ps p) ∙ ap (λ n. n + length (line_label ps p)) a.count ∙ ap (λ n. length (defined ps) + n) (same_count l.label (section_at ps) (size (section_at ps) ps))
          ∙ sym (ap length (defined-snoc ps p) ∙ length-append (defined ps) (label_names l.label));
      in_text = fixes_by 0 ps p (p.section == 0) refl g.item a.in_text;
      in_data = fixes_by 1 ps p (p.section == 1) refl g.item a.in_data;
      names = subst (All IsName) (sym (mentions-snoc ps p)) (All-append IsName (mentions ps) (label_names l.label ++ item_names l.item) a.names (All-append IsName (label_names l.label) (item_names l.item) (names_label l.label g.label) (names_item l.item g.item)));
      mentioned = mentioned_next ps p a.mentioned;
    }

-- ---- all lines
ok_same : (r : Result (List Placed) (ℕ × Cause)) (x y : List Placed) → r ≡ Ok x → r ≡ Ok y → x ≡ y
ok_same r x y e f = cc

sound_found : (ps : List Placed) (n : ℕ) (ls : List (Option Line)) (qs : List Placed) → Sound ps → (l : Line) (o : Option Cause) → GoodLine l → cause_of ps l ≡ o
    → ((rs : List Placed) → Sound rs → judged rs (n + 1) ls ≡ Ok qs → Sound qs) → or_refused n o (judged (ps ++ next ps l ∷ []) (n + 1) ls) ≡ Ok qs → Sound qs
sound_found ps n ls qs a l (Some c) g h more r = cc
sound_found ps n ls qs a l None g h more r = more (ps ++ next ps l ∷ []) (sound_next ps l a g h) r

sound_line : (ps : List Placed) (n : ℕ) (ls : List (Option Line)) (qs : List Placed) → Sound ps → (o : Option Line) → Holds GoodLine o
    → ((rs : List Placed) → Sound rs → judged rs (n + 1) ls ≡ Ok qs → Sound qs) → judged ps n (o ∷ ls) ≡ Ok qs → Sound qs
sound_line ps n ls qs a None g more r = cc
sound_line ps n ls qs a (Some l) g more r = sound_found ps n ls qs a l (cause_of ps l) g refl more r

sound_judged : (ps : List Placed) (n : ℕ) (bs : List (List ℕ)) (qs : List Placed) → Sound ps → judged ps n (map line_of bs) ≡ Ok qs → Sound qs
sound_judged ps n [] qs a e = subst Sound (ok_same (judged ps n []) ps qs refl e) a
sound_judged ps n (b ∷ bs) qs a e = sound_line ps n (map line_of bs) qs a (line_of b) (good_line b) (λ rs s r. sound_judged rs (n + 1) bs qs s r) e

sound_nil : Sound []
unfolding defined is_too_large labels fixes mentions first_names has_name section_bytes IsDistinct
sound_nil = record {
  known = All-nil IsKnown;
  distinct = tt;
  small = refl;
  labelled = All-nil (LabelIn []);
  count = refl;
  in_text = All-nil (FixIn 0);
  in_data = All-nil (FixIn 0);
  names = All-nil IsName;
  mentioned = λ q e. cc;
}

-- the lines of each assembled text meet the invariant
pub sound_items : (text : List ℕ) (ps : List Placed) → items text ≡ Ok ps → Sound ps
unfolding items
sound_items text ps e = sound_judged [] 1 (pieces text) ps sound_nil e
