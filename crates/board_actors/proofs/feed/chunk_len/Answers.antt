use Rattle.std.proofs.Common.{sym}
use Rattle.board_actors.proofs.FeedLemmas.{long_chunk, long_after}
use Rattle.board_actors.proofs.feed.chunk_len.Goals as goal

pub returns-in-None-clause-chunk : goal.returns-in-None-clause-chunk
returns-in-None-clause-chunk c = long_chunk _ (sym c.in-None.ensures.exact) c.if-left-gt-CHUNK_BYTES.true

pub returns-in-None-clause-after : goal.returns-in-None-clause-after
returns-in-None-clause-after c = long_after c.args.left.now (sym c.in-None.ensures.exact)
