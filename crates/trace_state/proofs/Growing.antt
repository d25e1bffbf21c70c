-- The ranges of RAM under way.
use Rattle.std.proofs.Common.{◌≡◌, ℕ, suc, ◌+◌, ◌-◌, ◌*◌, ◌/◌, ◌<◌, ◌≤◌, ◌^◌, min, true, if◌then◌else◌, List, [], ◌++◌, ◌∷◌, length, Option, None, Some, refl, sym, ap, subst, ◌∙◌, arith}
use Rattle.std.proofs.lemmas.List.{append-nil, length-append}
use Rattle.std.proofs.lemmas.Bool.{le-leb}
use Rattle.board_mem.specs.Memory.{bytes_at, has}
use Rattle.sha2.specs.Hashers.{Holds256}
use Rattle.serde_json.specs.Data.{Data}
use Rattle.trace_state.specs.Held.{items_in}
use Rattle.trace_state.specs.Inside.{HoldsLast, HoldsRanges, IsRange}
use Rattle.trace_state.specs.Memory.{Range as RangeState, Ranges, begun, closed, listed, range_data, ranges_of, with_unit}
use Rattle.trace_state.specs.declared.memory.RamRanges.{RamRanges}
use Rattle.trace_state.specs.declared.memory.Range.{Range}

-- a unit is added at the end of a range
pub range_grown : (at : ℕ) (old new : Range) (r : RangeState) (unit : List ℕ) → at ≤ 2 ^ 32 → length unit ≡ 256 → new.start ≡ old.start → new.bytes ≡ min (old.bytes + 256) (2 ^ 64 - 1)
    → Holds256 new.hasher (r.bytes ++ unit) → IsRange at old r → IsRange (at + 256) new (record r { bytes = r.bytes ++ unit })
range_grown at old new r unit most whole same_start sum hashed is =
    let long : length (r.bytes ++ unit) ≡ length r.bytes + length unit = length-append r.bytes unit in
    record {
      start = same_start ∙ is.start;
      count = omega (arith, sum, is.count, is.few, most, whole, long);
      few = omega (arith, is.few, whole, long);
      hasher = hashed;
    }

-- ---- the last range ends, if there is one
none_held : (at : ℕ) (o : Option RangeState) → HoldsLast at None o → o ≡ None
none_held at None h = refl
none_held at (Some x) h = absurd h

pub none_ends : (at : ℕ) (old new : RamRanges) (r : Ranges) → old.last ≡ None → new.last ≡ None → items_in new.ended ≡ items_in old.ended
    → HoldsRanges at old r → HoldsRanges at new (closed r)
none_ends at old new r none still same holds =
    let P : Option Range → Type 0 = λ o. HoldsLast at o r.last in
    let Q : Option Range → Type 0 = λ o. HoldsLast at o None in
    let is : r.last ≡ None = none_held at r.last (subst P none holds.last) in
    record {
      ended = same ∙ holds.ended ∙ sym (append-nil r.ended) ∙ ap (λ l. r.ended ++ listed l) (sym is);
      last = subst Q (sym still) tt;
    }

-- a held range is one of the state
one_held : (at : ℕ) (held : Range) (d : Data) (o : Option RangeState) → ((r : RangeState) → IsRange at held r → d ≡ range_data r) → HoldsLast at (Some held) o → d ∷ [] ≡ listed o
one_held at held d None shows h = absurd h
one_held at held d (Some r) shows h = ap (λ x. x ∷ []) (shows r h)

pub one_ends : (at : ℕ) (old new : RamRanges) (held : Range) (d : Data) (r : Ranges) → old.last ≡ Some held → new.last ≡ None → items_in new.ended ≡ items_in old.ended ++ d ∷ []
    → ((x : RangeState) → IsRange at held x → d ≡ range_data x) → HoldsRanges at old r → HoldsRanges at new (closed r)
one_ends at old new held d r some still more shows holds =
    let P : Option Range → Type 0 = λ o. HoldsLast at o r.last in
    let Q : Option Range → Type 0 = λ o. HoldsLast at o None in
    record {
      ended = more ∙ ap (λ ds. ds ++ d ∷ []) holds.ended ∙ ap (λ ds. r.ended ++ ds) (one_held at held d r.last shows (subst P some holds.last));
      last = subst Q (sym still) tt;
    }

-- ---- the range that goes on
pub goes_on : (at : ℕ) (held : Range) (start : ℕ) (o : Option RangeState) → HoldsLast at (Some held) o → IsRange at held (begun o start)
goes_on at held start None h = absurd h
goes_on at held start (Some r) h = h

pub begins : (at : ℕ) (new : Range) (start : ℕ) (o : Option RangeState) → IsRange at new (record { start = start; bytes = [] }) → HoldsLast at None o → IsRange at new (begun o start)
begins at new start None is h = is
begins at new start (Some r) is h = absurd h

-- ---- one more unit
-- the unit is in RAM, so it is read
unit_read : (ram unit before : List ℕ) (n : ℕ) → n < length ram / 256 → length before ≡ 256
    → unit ≡ (if has ram (n * 256) (length before) then bytes_at ram (n * 256) (length before) else before) → unit ≡ bytes_at ram (n * 256) 256
unit_read ram unit before n less whole read =
    let inside : n * 256 + 256 ≤ length ram = omega (arith, less) in
    let there : has ram (n * 256) 256 ≡ true = le-leb (n * 256 + 256) (length ram) inside in
    read ∙ ap (λ k. if has ram (n * 256) k then bytes_at ram (n * 256) k else before) whole ∙ ap (λ t. if t then bytes_at ram (n * 256) 256 else before) there

pub unit_added : (ram unit before : List ℕ) (n : ℕ) (old new : RamRanges) → n < length ram / 256 → length before ≡ 256
    → unit ≡ (if has ram (n * 256) (length before) then bytes_at ram (n * 256) (length before) else before)
    → ((r : Ranges) → HoldsRanges (n * 256) old r → HoldsRanges (n * 256 + 256) new (with_unit r (n * 256) unit))
    → HoldsRanges (n * 256) old (ranges_of ram n) → HoldsRanges ((n + 1) * 256) new (ranges_of ram (n + 1))
unit_added ram unit before n old new less whole read adds holds =
    let is = unit_read ram unit before n less whole read in
    let next : n * 256 + 256 ≡ (n + 1) * 256 = omega arith in
    let one : suc n ≡ n + 1 = omega arith in
    subst (λ k. HoldsRanges ((n + 1) * 256) new (ranges_of ram k)) one
    (subst (λ at. HoldsRanges at new (with_unit (ranges_of ram n) (n * 256) (bytes_at ram (n * 256) 256))) next
    (subst (λ u. HoldsRanges (n * 256 + 256) new (with_unit (ranges_of ram n) (n * 256) u)) is (adds (ranges_of ram n) holds)))
