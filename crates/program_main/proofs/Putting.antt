-- Texts that are put to a sink, one after another.
use Rattle.std.proofs.Common.{◌≡◌, ℕ, ◌+◌, ◌-◌, ◌^◌, ◌≤◌, List, [], ◌∷◌, ◌++◌, Option, Some, None, Bor, map, length, take, drop, refl, ap, sym, subst, ◌∙◌, append_assoc, arith, inl, inr}
use Rattle.std.specs.List.{concat}
use Rattle.std.specs.Option.{option_map}
use Rattle.std.proofs.lemmas.Bool.{cases_eq}
use Rattle.std.proofs.lemmas.List.{append-nil, take_at, take-append-drop}
use Rattle.wind_outside.specs.Counts.{Rose}
use Rattle.wind_outside.specs.Appending.{Appended, AppendedPrefix}
use Rattle.wind_outside.specs.declared.sink.Put.{Put}
use Rattle.wind_outside.specs.declared.sink.Put.TheVariants.{Done, Failed}
use Rattle.program_main.specs.Messages.{PutsText}

-- ---- counts
pub rose_later : (a b c : ℕ) → Rose a b → b ≤ c → Rose a c
rose_later a b c (inl lt) le = inl (omega arith)
rose_later a b c (inr e) le = inr e

pub rose_earlier : (a b c : ℕ) → a ≤ b → b ≤ c → Rose b c → Rose a c
rose_earlier a b c h k (inl lt) = inl (omega arith)
rose_earlier a b c h k (inr e) =
    elim (cases_eq a (2 ^ 64 - 1)) [
      | inl same ↦ inr same
      | inr below ↦ inl (omega arith)
    ]

-- ---- bytes
appended_both : (old mid new : Option (List ℕ)) (a b : List ℕ) → Appended old mid a → Appended mid new b → Appended old new (a ++ b)
appended_both None mid new a b p q = q ∙ ap (option_map (λ bytes. bytes ++ b)) p
appended_both (Some x) mid new a b p q = q ∙ ap (option_map (λ bytes. bytes ++ b)) p ∙ ap Some (append_assoc x a b)

appended_none : (old : Option (List ℕ)) → Appended old old []
appended_none None = refl
appended_none (Some x) = ap Some (sym (append-nil x))

prefix_of : (old new : Option (List ℕ)) (prefix rest text : List ℕ) → prefix ++ rest ≡ text → Appended old new prefix → AppendedPrefix old new text
prefix_of old new prefix rest text whole gained =
    (length prefix, subst (Appended old new) (sym (take_at prefix rest (length prefix) refl) ∙ ap (take (length prefix)) whole) gained)

prefix_after : (old mid new : Option (List ℕ)) (a b : List ℕ) → Appended old mid a → AppendedPrefix mid new b → AppendedPrefix old new (a ++ b)
prefix_after old mid new a b p q =
    prefix_of old new (a ++ take q.0 b) (drop q.0 b) (a ++ b) (append_assoc a (take q.0 b) (drop q.0 b) ∙ ap (λ t. a ++ t) (take-append-drop q.0 b)) (appended_both old mid new a (take q.0 b) p q.1)

prefix_before : (old new : Option (List ℕ)) (a b : List ℕ) → AppendedPrefix old new a → AppendedPrefix old new (a ++ b)
prefix_before old new a b q =
    prefix_of old new (take q.0 a) (drop q.0 a ++ b) (a ++ b) (sym (append_assoc (take q.0 a) (drop q.0 a) b) ∙ ap (λ t. t ++ b) (take-append-drop q.0 a)) q.1

-- ---- one put, and none
pub put_done : (old new : Option (List ℕ)) (k n : ℕ) (a : List ℕ) → Appended old new a → k ≤ n → PutsText a Done old new k n
put_done old new k n a h le = record { done = λ e. h; part = prefix_of old new a [] a (append-nil a) h; failed = λ e. cc; never_falls = le }

pub put_failed : (old new : Option (List ℕ)) (k n : ℕ) (a : List ℕ) → AppendedPrefix old new a → Rose k n → k ≤ n → PutsText a Failed old new k n
put_failed old new k n a h rose le = record { done = λ e. cc; part = h; failed = λ e. rose; never_falls = le }

pub puts_none : (old : Option (List ℕ)) (k : ℕ) → PutsText [] Done old old k k
puts_none old k = put_done old old k k [] (appended_none old) (omega arith)

-- ---- several
pub puts_both : (old mid new : Option (List ℕ)) (k m n : ℕ) (a b : List ℕ) (end : Put) → PutsText a Done old mid k m → PutsText b end mid new m n → PutsText (a ++ b) end old new k n
puts_both old mid new k m n a b end p q = record {
  done = λ e. appended_both old mid new a b (p.done refl) (q.done e);
  part = prefix_after old mid new a b (p.done refl) q.part;
  failed = λ e. rose_earlier k m n p.never_falls q.never_falls (q.failed e);
  never_falls = omega (arith, p.never_falls, q.never_falls);
}

pub puts_cut : (old new : Option (List ℕ)) (k n : ℕ) (a b : List ℕ) → PutsText a Failed old new k n → PutsText (a ++ b) Failed old new k n
puts_cut old new k n a b p = record { done = λ e. cc; part = prefix_before old new a b p.part; failed = p.failed; never_falls = p.never_falls }

pub puts_as : (old new : Option (List ℕ)) (k n : ℕ) (a b : List ℕ) (end : Put) → a ≡ b → PutsText a end old new k n → PutsText b end old new k n
puts_as old new k n a b end e p = subst (λ t. PutsText t end old new k n) e p

-- ---- pieces
-- the bytes of some pieces
abbrev pub bytes_of : List (Bor (List ℕ)) → List ℕ
bytes_of ps = concat (map {A = Bor (List ℕ)} {B = List ℕ} (λ p. p.now) ps)

bytes_both : (ps qs : List (Bor (List ℕ))) → bytes_of (ps ++ qs) ≡ bytes_of ps ++ bytes_of qs
bytes_both [] qs = refl
bytes_both (p ∷ ps) qs = ap (λ bytes. p.now ++ bytes) (bytes_both ps qs) ∙ sym (append_assoc p.now (bytes_of ps) (bytes_of qs))

bytes_more : (ps : List (Bor (List ℕ))) (p : Bor (List ℕ)) → bytes_of (ps ++ p ∷ []) ≡ bytes_of ps ++ p.now
bytes_more ps p = bytes_both ps (p ∷ []) ∙ ap (λ bytes. bytes_of ps ++ bytes) (append-nil p.now)

module _ (ps : List (Bor (List ℕ))) (i : ℕ) (p : Bor (List ℕ)) (on : take (i + 1) ps ≡ take i ps ++ p ∷ []) (old mid new : Option (List ℕ)) (k m n : ℕ)
    (before : PutsText (bytes_of (take i ps)) Done old mid k m) where
  -- one more piece was put
  pub piece_put : Appended mid new p.now → m ≤ n → PutsText (bytes_of (take (i + 1) ps)) Done old new k n
  piece_put more le =
      puts_as old new k n (bytes_of (take i ps) ++ p.now) (bytes_of (take (i + 1) ps)) Done (sym (bytes_more (take i ps) p) ∙ ap bytes_of (sym on))
      (puts_both old mid new k m n (bytes_of (take i ps)) p.now Done before (put_done mid new m n p.now more le))

  -- a put failed inside the next piece
  pub piece_cut : AppendedPrefix mid new p.now → Rose m n → m ≤ n → PutsText (bytes_of ps) Failed old new k n
  piece_cut cut rose le =
      let first = bytes_of (take i ps) in
      let after = bytes_of (drop (i + 1) ps) in
      puts_as old new k n ((first ++ p.now) ++ after) (bytes_of ps) Failed
      (ap (λ bytes. bytes ++ after) (sym (bytes_more (take i ps) p) ∙ ap bytes_of (sym on))
      ∙ sym (bytes_both (take (i + 1) ps) (drop (i + 1) ps))
      ∙ ap bytes_of (take-append-drop (i + 1) ps))
      (puts_cut old new k n (first ++ p.now) after (puts_both old mid new k m n first p.now Failed before (put_failed mid new m n p.now cut rose le)))
