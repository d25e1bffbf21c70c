use Rattle.hex.proofs.HexLemmas.{decode_of-encode_lower}
use Rattle.debug_wire.proofs.laws.bytes_law.Goals as goal

pub returns : goal.returns
returns c = decode_of-encode_lower
