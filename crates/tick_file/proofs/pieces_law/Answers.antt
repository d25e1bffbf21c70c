use Rattle.tick_file.proofs.TimetableLemmas.{all_pieces}
use Rattle.tick_file.proofs.pieces_law.Goals as goal

pub returns : goal.returns
returns c = all_pieces
