-- What clap finds in the words, and the command.
use Rattle.std.proofs.Common.{◌∙◌, ◌≡◌, ap, refl, ⊎_elim, true, List, [], ◌∷◌, Option, Some, None}
use Rattle.std.specs.Prelude.{◌≢◌, ⊤}
use Rattle.clap.specs.Kinds.{Kinds, HasKind}
use Rattle.clap.specs.Words.{App, Row, is_simple_and_free, kind_of}
use Rattle.clap.specs.declared.error.Error.{Error}
use Rattle.clap.specs.declared.error.kind.ErrorKind.TheVariants.{OutOfMemory}
use Rattle.clap.proofs.OnLiterals.{clap_on_literals}
use Rattle.wind_base.specs.Decimal.{decimal_value}
use Rattle.wind_session.specs.Command.{app, command_of, if_valid, rows_given, unless_fault}

-- clap specifies each match and each error of windplay's command line
is_free : is_simple_and_free app ≡ true
unfolding app clap_on_literals
is_free = refl

pub app_is_free : (a : App) → a ≡ app → is_simple_and_free a ≡ true
app_is_free a same = ap is_simple_and_free same ∙ is_free

-- what a proof unfolds to compute the command of words that are written out
unfoldable pub command_on_literals : ⊤
unfolding app command_of rows_given clap_on_literals decimal_value
command_on_literals = tt

-- ---- a parse
-- it fails for another cause than memory
pub nothing_given : (kinds : Kinds) (rows : List Row) (e : Error) → HasKind kinds e → kind_of e ≢ OutOfMemory → unless_fault kinds rows ≡ None
nothing_given [] rows e h other = absurd (⊎_elim other (λ x. x) h)
nothing_given (k ∷ ks) rows e h other = refl

-- ---- what is made of a value
module _ {V C : Type 0} (value : Option V) (make : V → Option C) where
  pub none_valid : value ≡ None → if_valid value make ≡ None
  none_valid none = ap (λ v. if_valid v make) none

  pub is_valid : (v : V) → value ≡ Some v → if_valid value make ≡ make v
  is_valid v some = ap (λ o. if_valid o make) some
