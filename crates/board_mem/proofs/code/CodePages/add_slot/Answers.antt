use Rattle.std.proofs.Common.{◌≡◌, ◌+◌, ◌-◌, ◌*◌, ◌<◌, ◌++◌, replicate, length, ap, ap₂, refl, ◌∙◌, arith, inr}
use Rattle.std.specs.Prelude.{vec_len}
use Rattle.std.proofs.lemmas.List.{take_all}
use Rattle.board_mem.proofs.Codes.{agrees_still, empty_after, entry_before}
use Rattle.board_mem.proofs.code.CodePages.add_slot.Goals as goal

-- the entries afterwards
grown : (c : goal.In-Ok) → c.resize.new.self.items ≡ c.args.self.now.entries.items ++ replicate 1024 c.empty.result
grown c =
    let old = c.args.self.now in
    let most = old.used * 1024 + 1024 in
    let len : length old.entries.items ≡ 1024 * old.used = c.requires.slots.exact in
    c.in-Ok.ensures.items ∙ ap₂ (λ xs ys. xs ++ ys) (take_all most old.entries.items (omega arith)) (ap (λ m. replicate m c.empty.result) (let more : most - vec_len old.entries ≡ 1024 = omega arith in more))

pub returns-clause-slots : goal.returns-clause-slots
returns-clause-slots c =
    let a = c.requires.slots in
    record {
      owned = λ page slot e. let own = a.owned page slot e in (omega (arith, own.0), own.1);
      pages = a.pages;
      exact = omega (arith, c.in-Ok.ensures.len);
      few = omega (arith, c.requires.left);
      next = a.next;
      room = omega (arith, a.room, c.in-Ok.ensures.capacity);
    }

pub returns-clause-free : goal.returns-clause-free
returns-clause-free c =
    let a = c.requires.slots in
    let old = c.args.self.now in
    record {
      size = refl;
      others = λ page. inr refl;
      unowned = λ page e. absurd (omega (arith, (a.owned page old.used e).0));
      empty = λ k d h. empty_after old.entries.items c.resize.new.self.items old.used k (1024 * old.used + k) c.empty.result d (grown c) c.empty.ensures a.exact refl h;
      within = omega arith;
    }

pub returns-clause-decoded : goal.returns-clause-decoded
returns-clause-decoded c = λ bytes decoded page slot k d e h.
    let a = c.requires.slots in
    let old = c.args.self.now in
    let within : 1024 * slot + k < length old.entries.items = omega (arith, (a.owned page slot e).0, a.exact) in
    agrees_still _ _ bytes bytes (4096 * page + 4 * k) (entry_before old.entries.items c.resize.new.self.items (1024 * slot + k) c.empty.result d (grown c) within) refl (decoded page slot k d e h)
