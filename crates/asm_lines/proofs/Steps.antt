-- What one more line or one more name adds to the others.
use Rattle.std.proofs.Common.{◌≡◌, ℕ, ◌+◌, Bool, true, false, List, [], ◌∷◌, ◌++◌, length, length-append, take, get_or, ◌<◌, Option, Some, refl, sym, ap, ◌∙◌, subst, arith, append_assoc, zero-add}
use Rattle.std.proofs.lemmas.List.{append-nil, take_more}
use Rattle.std.specs.Int.{bytes_high_first}
use Rattle.ppc_text.specs.declared.values.Value.{Value}
use Rattle.ppc_text.specs.declared.values.Value.TheVariants.{Number, Address}
use Rattle.std.specs.Prelude.{if◌then◌else◌, ◌==◌, ◌||◌, is_some}
use Rattle.std.specs.Str.{bytes_eq}
use Rattle.std.specs.List.{flat_map, list_any}
use Rattle.std.proofs.lemmas.List.Folds.{list_any-append}
use Rattle.std.proofs.lemmas.Slice.Eq.{bytes_eq-Decides}
use Rattle.asm_lines.specs.declared.name_map.NameMap.{NameMap}
use Rattle.asm_lines.specs.declared.names.Names.{Names}
use Rattle.asm_lines.specs.declared.section.Fix.{Fix}
use Rattle.asm_lines.specs.Gather.{gather}
use Rattle.asm_lines.specs.Items.{Placed, section_from, section_at, item_bytes, bytes_from, section_bytes, size, value_bytes}
use Rattle.asm_lines.specs.Names.{label_names, item_names, global_names, defined, globals, mentions, has_name, new_name, first_names, line_label, labels, item_fixes, line_fixes, fixes, fix, address_kind, value_fixes}
use Rattle.asm_lines.specs.Drafts.{number_at, Has, AreNames}

pub gather-snoc : {A B : Type 0} (f : List A → A → List B) (before xs : List A) (x : A) → gather f before (xs ++ x ∷ []) ≡ gather f before xs ++ f (before ++ xs) x
gather-snoc f before [] x = append-nil (f before x) ∙ ap (λ b. f b x) (sym (append-nil before))
gather-snoc f before (y ∷ ys) x =
    ap (λ t. f before y ++ t) (gather-snoc f (before ++ y ∷ []) ys x)
    ∙ ap (λ b. f before y ++ (gather f (before ++ y ∷ []) ys ++ f b x)) (append_assoc before (y ∷ []) ys)
    ∙ sym (append_assoc (f before y) (gather f (before ++ y ∷ []) ys) (f (before ++ y ∷ ys) x))

flat_map-snoc : {A B : Type 0} (f : A → List B) (xs : List A) (x : A) → flat_map f (xs ++ x ∷ []) ≡ flat_map f xs ++ f x
flat_map-snoc f [] x = append-nil (f x)
flat_map-snoc f (y ∷ ys) x = ap (λ t. f y ++ t) (flat_map-snoc f ys x) ∙ sym (append_assoc (f y) (flat_map f ys) (f x))

-- what one more pass of a loop adds
pub flat_more : {A B : Type 0} (f : A → List B) (before : List B) (xs : List A) (i : ℕ) (x : A) → i < length xs → x ≡ get_or xs i x → (before ++ flat_map f (take i xs)) ++ f x ≡ before ++ flat_map f (take (i + 1) xs)
flat_more f before xs i x lt e =
    append_assoc before (flat_map f (take i xs)) (f x)
    ∙ ap (λ t. before ++ t) (sym (flat_map-snoc f (take i xs) x) ∙ ap (λ y. flat_map f (take i xs ++ y ∷ [])) e ∙ ap (flat_map f) (sym (take_more xs i x lt)))

value_fixes-snoc : (off : ℕ) (vs : List Value) (v : Value) → value_fixes off (vs ++ v ∷ []) ≡ value_fixes off vs ++ value_fixes (off + length (flat_map value_bytes vs)) (v ∷ [])
value_fixes-snoc off [] v = let e : off ≡ off + 0 = omega arith in ap (λ k. value_fixes k (v ∷ [])) e
value_fixes-snoc off (Number w ∷ vs) v =
    let n : (off + 4) + length (flat_map value_bytes vs) ≡ off + length (flat_map value_bytes (Number w ∷ vs)) = omega (arith, length-append (bytes_high_first 4 w) (flat_map value_bytes vs)) in
    value_fixes-snoc (off + 4) vs v ∙ ap (λ k. value_fixes (off + 4) vs ++ value_fixes k (v ∷ [])) n
value_fixes-snoc off (Address r ∷ vs) v =
    let n : (off + 4) + length (flat_map value_bytes vs) ≡ off + length (flat_map value_bytes (Address r ∷ vs)) = omega (arith, length-append (bytes_high_first 4 0) (flat_map value_bytes vs)) in
    ap (λ fs. fix off (address_kind off) r ∷ fs) (value_fixes-snoc (off + 4) vs v ∙ ap (λ k. value_fixes (off + 4) vs ++ value_fixes k (v ∷ [])) n)

pub fixes_more : (before : List Fix) (bytes : List ℕ) (off : ℕ) (start : List ℕ) (vs : List Value) (i : ℕ) (v : Value) → i < length vs → v ≡ get_or vs i v → off ≡ length start → bytes ≡ start ++ flat_map value_bytes (take i vs)
    → (before ++ value_fixes off (take i vs)) ++ value_fixes (length bytes) (v ∷ []) ≡ before ++ value_fixes off (take (i + 1) vs)
fixes_more before bytes off start vs i v lt e o b =
    let n : length bytes ≡ off + length (flat_map value_bytes (take i vs)) = omega (arith, ap length b, length-append start (flat_map value_bytes (take i vs))) in
    append_assoc before (value_fixes off (take i vs)) (value_fixes (length bytes) (v ∷ []))
    ∙ ap (λ t. before ++ t) (ap (λ k. value_fixes off (take i vs) ++ value_fixes k (v ∷ [])) n ∙ sym (value_fixes-snoc off (take i vs) v)
    ∙ ap (λ y. value_fixes off (take i vs ++ y ∷ [])) e ∙ ap (value_fixes off) (sym (take_more vs i v lt)))

-- ---- sections
section_from-snoc : (s : ℕ) (ps : List Placed) (p : Placed) → section_from s (ps ++ p ∷ []) ≡ p.section
section_from-snoc s [] p = refl
section_from-snoc s (q ∷ qs) p = section_from-snoc q.section qs p

pub section_at-snoc : (ps : List Placed) (p : Placed) → section_at (ps ++ p ∷ []) ≡ p.section
unfolding section_at
section_at-snoc ps p = section_from-snoc 0 ps p

if_nil : {A : Type 0} (b : Bool) (xs : List A) → (if b then xs ++ [] else []) ≡ (if b then xs else [])
if_nil true xs = append-nil xs
if_nil false xs = refl

further : (w off : ℕ) (p : Placed) (here rest rest' : List ℕ) → rest' ≡ rest ++ (if p.section == w then item_bytes ((off + length here) + length rest) p.item else [])
    → here ++ rest' ≡ (here ++ rest) ++ (if p.section == w then item_bytes (off + length (here ++ rest)) p.item else [])
further w off p here rest rest' e =
    let n : (off + length here) + length rest ≡ off + length (here ++ rest) = omega (arith, length-append here rest) in
    ap (λ t. here ++ t) e ∙ sym (append_assoc here rest (if p.section == w then item_bytes ((off + length here) + length rest) p.item else []))
    ∙ ap (λ k. (here ++ rest) ++ (if p.section == w then item_bytes k p.item else [])) n

either_way : (w off : ℕ) (p q : Placed) (qs : List Placed) (b : Bool)
    → bytes_from w (off + length (item_bytes off q.item)) (qs ++ p ∷ []) ≡ bytes_from w (off + length (item_bytes off q.item)) qs ++ (if p.section == w then item_bytes ((off + length (item_bytes off q.item)) + length (bytes_from w (off + length (item_bytes off q.item)) qs)) p.item else [])
    → bytes_from w off (qs ++ p ∷ []) ≡ bytes_from w off qs ++ (if p.section == w then item_bytes (off + length (bytes_from w off qs)) p.item else [])
    → (if b then item_bytes off q.item ++ bytes_from w (off + length (item_bytes off q.item)) (qs ++ p ∷ []) else bytes_from w off (qs ++ p ∷ []))
    ≡ (if b then item_bytes off q.item ++ bytes_from w (off + length (item_bytes off q.item)) qs else bytes_from w off qs)
    ++ (if p.section == w then item_bytes (off + length (if b then item_bytes off q.item ++ bytes_from w (off + length (item_bytes off q.item)) qs else bytes_from w off qs)) p.item else [])
either_way w off p q qs true r s = further w off p (item_bytes off q.item) (bytes_from w (off + length (item_bytes off q.item)) qs) (bytes_from w (off + length (item_bytes off q.item)) (qs ++ p ∷ [])) r
either_way w off p q qs false r s = s

bytes_from-snoc : (w off : ℕ) (ps : List Placed) (p : Placed) → bytes_from w off (ps ++ p ∷ []) ≡ bytes_from w off ps ++ (if p.section == w then item_bytes (off + length (bytes_from w off ps)) p.item else [])
bytes_from-snoc w off [] p =
    let e : off ≡ off + 0 = omega arith in if_nil (p.section == w) (item_bytes off p.item) ∙ ap (λ k. if p.section == w then item_bytes k p.item else []) e
bytes_from-snoc w off (q ∷ qs) p = either_way w off p q qs (q.section == w) (bytes_from-snoc w (off + length (item_bytes off q.item)) qs p) (bytes_from-snoc w off qs p)

section_bytes-snoc : (w : ℕ) (ps : List Placed) (p : Placed) → section_bytes w (ps ++ p ∷ []) ≡ section_bytes w ps ++ (if p.section == w then item_bytes (size w ps) p.item else [])
unfolding section_bytes
section_bytes-snoc w ps p = bytes_from-snoc w 0 ps p ∙ ap (λ k. bytes_from w 0 ps ++ (if p.section == w then item_bytes k p.item else [])) (zero-add (length (bytes_from w 0 ps)))

pub section_grows : (w : ℕ) (ps : List Placed) (p : Placed) → (p.section == w) ≡ true → section_bytes w (ps ++ p ∷ []) ≡ section_bytes w ps ++ item_bytes (size w ps) p.item
section_grows w ps p h = section_bytes-snoc w ps p ∙ ap (λ b. section_bytes w ps ++ (if b then item_bytes (size w ps) p.item else [])) h

pub section_stays : (w : ℕ) (ps : List Placed) (p : Placed) → (p.section == w) ≡ false → section_bytes w (ps ++ p ∷ []) ≡ section_bytes w ps
section_stays w ps p h = section_bytes-snoc w ps p ∙ ap (λ b. section_bytes w ps ++ (if b then item_bytes (size w ps) p.item else [])) h ∙ append-nil (section_bytes w ps)

pub fixes_grow : (w : ℕ) (ps : List Placed) (p : Placed) → (p.section == w) ≡ true → fixes w (ps ++ p ∷ []) ≡ fixes w ps ++ item_fixes (size w ps) p.item
unfolding fixes
fixes_grow w ps p h = gather-snoc (line_fixes w) [] ps p ∙ ap (λ b. gather (line_fixes w) [] ps ++ (if b then item_fixes (size w ps) p.item else [])) h

pub fixes_stay : (w : ℕ) (ps : List Placed) (p : Placed) → (p.section == w) ≡ false → fixes w (ps ++ p ∷ []) ≡ fixes w ps
unfolding fixes
fixes_stay w ps p h =
    gather-snoc (line_fixes w) [] ps p ∙ ap (λ b. gather (line_fixes w) [] ps ++ (if b then item_fixes (size w ps) p.item else [])) h ∙ append-nil (gather (line_fixes w) [] ps)

-- ---- labels and names
pub labels-snoc : (ps : List Placed) (p : Placed) → labels (ps ++ p ∷ []) ≡ labels ps ++ line_label ps p
unfolding labels
labels-snoc ps p = gather-snoc line_label [] ps p

pub mentions-snoc : (ps : List Placed) (p : Placed) → mentions (ps ++ p ∷ []) ≡ mentions ps ++ (label_names p.label ++ item_names p.item)
unfolding mentions
mentions-snoc ps p = flat_map-snoc (λ (p : Placed). label_names p.label ++ item_names p.item) ps p

pub defined-snoc : (ps : List Placed) (p : Placed) → defined (ps ++ p ∷ []) ≡ defined ps ++ label_names p.label
unfolding defined
defined-snoc ps p = flat_map-snoc (λ (p : Placed). label_names p.label) ps p

pub globals-snoc : (ps : List Placed) (p : Placed) → globals (ps ++ p ∷ []) ≡ globals ps ++ global_names p.item
unfolding globals
globals-snoc ps p = flat_map-snoc (λ (p : Placed). global_names p.item) ps p

or_false : (a b : Bool) → (a || (b || false)) ≡ (a || b)
or_false true b = refl
or_false false true = refl
or_false false false = refl

pub has_name-snoc : (ns : List (List ℕ)) (n q : List ℕ) → has_name (ns ++ n ∷ []) q ≡ (has_name ns q || bytes_eq n q)
unfolding has_name
has_name-snoc ns n q = list_any-append (λ other. bytes_eq other q) ns (n ∷ []) ∙ or_false (list_any (λ other. bytes_eq other q) ns) (bytes_eq n q)

set_here : (b h : Bool) (v : ℕ) (o : Option ℕ) → is_some o ≡ h → is_some (if b then Some v else o) ≡ (h || b)
set_here true true v o e = refl
set_here true false v o e = refl
set_here false true v o e = e
set_here false false v o e = e

-- a map with one more name
pub has_more : (m m' : NameMap) (n : List ℕ) (v : ℕ) (ns : List (List ℕ)) → Has m ns → ((q : List ℕ) → number_at m' q ≡ (if bytes_eq n q then Some v else number_at m q)) → Has m' (ns ++ n ∷ [])
has_more m m' n v ns h e q = ap is_some (e q) ∙ set_here (bytes_eq n q) (has_name ns q) v (number_at m q) (h q) ∙ sym (has_name-snoc ns n q)

absorbs : (a b : Bool) → (b ≡ true → a ≡ true) → (a || b) ≡ a
absorbs true b h = refl
absorbs false true h = sym (h refl)
absorbs false false h = refl

same_name : (n q : List ℕ) → bytes_eq n q ≡ true → n ≡ q
same_name n q h = (bytes_eq-Decides n q).0 h

-- a map that already has the name
pub has_again : (m : NameMap) (n : List ℕ) (ns : List (List ℕ)) → Has m ns → has_name ns n ≡ true → Has m (ns ++ n ∷ [])
has_again m n ns h e q =
    h q ∙ sym (has_name-snoc ns n q ∙ absorbs (has_name ns q) (bytes_eq n q) (λ s. subst (λ k. has_name ns k ≡ true) (same_name n q s) e))

pub first_new : (ns : List (List ℕ)) (n : List ℕ) → has_name ns n ≡ false → first_names (ns ++ n ∷ []) ≡ first_names ns ++ n ∷ []
unfolding first_names
first_new ns n h = gather-snoc new_name [] ns n ∙ ap (λ b. gather new_name [] ns ++ (if b then [] else n ∷ [])) h

pub first_again : (ns : List (List ℕ)) (n : List ℕ) → has_name ns n ≡ true → first_names (ns ++ n ∷ []) ≡ first_names ns
unfolding first_names
first_again ns n h = gather-snoc new_name [] ns n ∙ ap (λ b. gather new_name [] ns ++ (if b then [] else n ∷ [])) h ∙ append-nil (gather new_name [] ns)

-- ---- the names of a draft
pub names_again : (n : Names) (ns ls gs : List (List ℕ)) (w : List ℕ) → AreNames n ns ls gs → is_some (number_at n.mentioned w) ≡ true → AreNames n (ns ++ w ∷ []) ls gs
names_again n ns ls gs w a h =
    let known : has_name ns w ≡ true = sym (a.mentioned w) ∙ h in
    record { entries = a.entries ∙ sym (first_again ns w known); mentioned = has_again n.mentioned w ns a.mentioned known; labelled = a.labelled; global = a.global }

pub names_new : (n n' : Names) (ns ls gs : List (List ℕ)) (w : List ℕ) (v : ℕ) → AreNames n ns ls gs → is_some (number_at n.mentioned w) ≡ false → n'.entries.items ≡ n.entries.items ++ w ∷ []
    → ((q : List ℕ) → number_at n'.mentioned q ≡ (if bytes_eq w q then Some v else number_at n.mentioned q)) → n'.labelled ≡ n.labelled → n'.global ≡ n.global → AreNames n' (ns ++ w ∷ []) ls gs
names_new n n' ns ls gs w v a h e s l g =
    let unknown : has_name ns w ≡ false = sym (a.mentioned w) ∙ h in
    record {
      entries = e ∙ ap (λ (es : List (List ℕ)). es ++ w ∷ []) a.entries ∙ sym (first_new ns w unknown);
      mentioned = has_more n.mentioned n'.mentioned w v ns a.mentioned s;
      labelled = λ q. ap (λ (m : NameMap). is_some (number_at m q)) l ∙ a.labelled q;
      global = λ q. ap (λ (m : NameMap). is_some (number_at m q)) g ∙ a.global q;
    }

pub names_global : (n n' : Names) (ns ls gs : List (List ℕ)) (w : List ℕ) (v : ℕ) → AreNames n ns ls gs → n'.entries ≡ n.entries → n'.mentioned ≡ n.mentioned → n'.labelled ≡ n.labelled
    → ((q : List ℕ) → number_at n'.global q ≡ (if bytes_eq w q then Some v else number_at n.global q)) → AreNames n' ns ls (gs ++ w ∷ [])
names_global n n' ns ls gs w v a e m l s =
    record {
      entries = rw e a.entries;
      mentioned = λ q. ap (λ (k : NameMap). is_some (number_at k q)) m ∙ a.mentioned q;
      labelled = λ q. ap (λ (k : NameMap). is_some (number_at k q)) l ∙ a.labelled q;
      global = has_more n.global n'.global w v gs a.global s;
    }

pub names_labelled : (n n' : Names) (ns ls gs : List (List ℕ)) (w : List ℕ) (v : ℕ) → AreNames n ns ls gs → n'.entries ≡ n.entries → n'.mentioned ≡ n.mentioned → n'.global ≡ n.global
    → ((q : List ℕ) → number_at n'.labelled q ≡ (if bytes_eq w q then Some v else number_at n.labelled q)) → AreNames n' ns (ls ++ w ∷ []) gs
names_labelled n n' ns ls gs w v a e m g s =
    record {
      entries = rw e a.entries;
      mentioned = λ q. ap (λ (k : NameMap). is_some (number_at k q)) m ∙ a.mentioned q;
      labelled = has_more n.labelled n'.labelled w v ls a.labelled s;
      global = λ q. ap (λ (k : NameMap). is_some (number_at k q)) g ∙ a.global q;
    }
