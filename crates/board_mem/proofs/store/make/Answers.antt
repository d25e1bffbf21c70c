use Rattle.std.proofs.Common.{◌≡◌, ◌+◌, ◌/◌, ◌-◌, ◌<◌, ◌++◌, length, refl, ap₂, ◌∙◌, arith, get_or, ap}
use Rattle.std.proofs.lemmas.List.{get_or-set_same, get_or-set_other}
use Rattle.std.specs.Prelude.{vec_len, vec_capacity}
use Rattle.std.proofs.lemmas.Bool.{false≢true}
use Rattle.std.proofs.lemmas.List.{take_all}
use Rattle.board_mem.proofs.Stores.{IsMaking, AreStored-making, bytes_of-making, made_of-set, room_for_page}
use Rattle.board_mem.proofs.store.make.Goals as goal

-- the page that is created
making : (c : goal.In-Ok) → IsMaking c.args.index.now c.args.store.now.items c.resize.new.self.items (vec_capacity c.args.store.now) c.args.page (c.len-len.result / 4096) (c.len-len.result + 4096 - vec_len c.args.store.now)
making c =
    let room = room_for_page c.args.index.now c.args.store.now.items (vec_capacity c.args.store.now) c.args.page c.requires.stored c.requires.there c.requires.unmade in
    let len : c.len-len.result ≡ length c.args.store.now.items = omega arith in
    record {
      stored = c.requires.stored;
      there = c.requires.there;
      unmade = c.requires.unmade;
      is_number = omega arith;
      is_after = c.in-Ok.ensures.items ∙ ap₂ (λ xs ys. xs ++ ys) (take_all (c.len-len.result + 4096) c.args.store.now.items (omega arith)) refl;
      is_count = omega arith;
    }

pub unreachable-requires : goal.unreachable-requires
unreachable-requires c =
    let room = room_for_page c.args.index.now c.args.store.now.items (vec_capacity c.args.store.now) c.args.page c.requires.stored c.requires.there c.requires.unmade in
    false≢true (rw c.in_default.is at (c.resize.ensures.succeeds (omega arith)))

pub overflow_cast-index : goal.overflow_cast-index
overflow_cast-index c =
    let room = room_for_page c.args.index.now c.args.store.now.items (vec_capacity c.args.store.now) c.args.page c.requires.stored c.requires.there c.requires.unmade in
    record { fits = omega arith }

pub returns-clause-made : goal.returns-clause-made
returns-clause-made c =
    let some : 0 < c.len-len.result / 4096 = omega (arith, c.requires.stored.exact) in
    let there : c.args.page < length c.args.index.now = c.requires.there in
    record {
      stored = AreStored-making (making c) (vec_capacity c.resize.new.self) c.resize.ensures.capacity;
      numbered = rw get_or-set_same some;
      made = made_of-set c.args.index.now c.args.page (c.len-len.result / 4096) some;
      numbers = λ other h. get_or-set_other c.args.index.now c.args.page other (c.len-len.result / 4096) 0 (λ e. absurd (omega (arith, ap (λ p. get_or c.args.index.now p 0) e, c.requires.unmade)));
      bytes = bytes_of-making (making c);
    }
