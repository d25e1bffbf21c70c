-- What a contract sees of a source of ids.
use Rattle.std.specs.Prelude.{ℕ, ◌+◌, Bool}

-- the next id that will be given, and whether the ids are lent to another source; while they are, this source gives none
pub record Ids : Type 0 where
  pub next : ℕ
  pub lent : Bool

-- the same source after one id was given
abbrev pub one_given : Ids → Ids
one_given s = record s { next = s.next + 1 }
