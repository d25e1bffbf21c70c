use Rattle.mem_partition.proofs.Places.{only_place}
use Rattle.mem_partition.proofs.Allocs.{place_is}
use Rattle.mem_partition.proofs.Meeting.{nearer_meets, aligned_is_next}
use Rattle.mem_partition.proofs.laws.place_law.Goals as goal

pub returns : goal.returns
returns c = record {
  nearest = place_is;
  only = λ start end blocks size align side o p. only_place side start end blocks size align o p;
  nearer = nearer_meets;
  next = aligned_is_next;
}
