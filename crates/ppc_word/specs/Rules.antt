-- What a word must meet besides its pieces: the registers that an update form allows, and the branches and special registers of the model.
use Rattle.std.specs.Prelude.{ℕ, ◌+◌, ◌*◌, ◌/◌, ◌%◌, ◌^◌, Bool, true, not, ◌&&◌, ◌||◌, nat_eq, nat_lt}
use Rattle.ppc_word.specs.declared.rule.Rule.{Rule}
use Rattle.ppc_word.specs.declared.rule.Rule.TheVariants.{Any, LoadUpdate, StoreUpdate, LoadMultiple, SpecialRegister, NoCount}

-- the target register, bits 6 to 10
abbrev pub rt_of : ℕ → ℕ
rt_of w = w / 2 ^ 21 % 2 ^ 5

-- the base register, bits 11 to 15
abbrev pub ra_of : ℕ → ℕ
ra_of w = w / 2 ^ 16 % 2 ^ 5

-- the number of the special register: its upper half in bits 16 to 20, its lower half in bits 11 to 15
abbrev pub spr_of : ℕ → ℕ
spr_of w = w / 2 ^ 11 % 2 ^ 5 * 2 ^ 5 + w / 2 ^ 16 % 2 ^ 5

-- bit 2 of BO, which is bit 8 of the word: the branch leaves CTR alone
abbrev pub bo2_of : ℕ → ℕ
bo2_of w = w / 2 ^ 23 % 2 ^ 1

-- a load with update needs a base that is neither 0 nor the target, a store with update one that isn't 0, a load of several words one below the target;
-- a special register is XER, LR or CTR; a branch to CTR doesn't decrement it
abbrev pub allowed : Rule → ℕ → Bool
allowed Any w = true
allowed LoadUpdate w = not (nat_eq (ra_of w) 0) && not (nat_eq (ra_of w) (rt_of w))
allowed StoreUpdate w = not (nat_eq (ra_of w) 0)
allowed LoadMultiple w = nat_lt (ra_of w) (rt_of w)
allowed SpecialRegister w = nat_eq (spr_of w) 1 || nat_eq (spr_of w) 8 || nat_eq (spr_of w) 9
allowed NoCount w = nat_eq (bo2_of w) 1
