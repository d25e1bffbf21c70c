use Rattle.mem_partition.proofs.Allocs.{alloc_on_lies, rounded_holds, alloc_on_back}
use Rattle.mem_partition.proofs.Meeting.{alloc_apart, alloc_multiple}
use Rattle.mem_partition.proofs.laws.alloc_law.Goals as goal

pub returns : goal.returns
returns c = record {
  lies = alloc_on_lies;
  apart = alloc_apart;
  multiple = alloc_multiple;
  holds = rounded_holds;
  back = alloc_on_back;
}
