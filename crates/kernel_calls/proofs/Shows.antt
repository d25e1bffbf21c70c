-- What the calls that write texts do to the output, and to their caller.
use Rattle.std.proofs.Common.{◌≡◌, ℕ, ◌≤◌, List, take, Option, None, Some, refl, sym, subst, arith}
use Rattle.std.specs.Option.{option_map}
use Rattle.std.proofs.lemmas.List.{length-append, length-take}
use Rattle.wind_base.specs.OutBuf.{Output, KeepsSpace}
use Rattle.board_mem.specs.Memory.{string_at}
use Rattle.text_show.specs.Printf.{Source, printf_of, format_text, written}

-- a text of printf fits into room for the longest
pub prints_space : (s : Source) (format : ℕ) (old new : Output) → 4096 ≤ old.room → new ≡ written old (printf_of s format) → KeepsSpace old new
unfolding printf_of
prints_space s format old new room e = subst (KeepsSpace old) (sym e) (go (format_text s (string_at s.ram format)))
  where
    go : (o : Option (List ℕ)) → KeepsSpace old (written old (option_map (take 4096) o))
    go None = refl
    go (Some t) = omega (arith, length-append old.bytes (take 4096 t), length-take 4096 t, room)
