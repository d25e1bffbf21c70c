-- The fields of an instruction word, by their names in the book (Book I 1.7).
unfoldable pub use Rattle.ppc_word.specs.Fields.{rt, ra, rb, ui, high_ui, si, mb, me, oe, rc, bf, bfa, spr, li, bd, aa, lk}
pub use Rattle.ppc_word.specs.Fields.{bo, fxm}
