use Rattle.std.proofs.Common.{◌++◌, take}
use Rattle.trace_summary.specs.Keeping.{KeepsTimes}
use Rattle.trace_summary.specs.Times.{SpanLists}
use Rattle.trace_summary.proofs.times.LongestTimes.add.Given as goal

-- the first spans were added
abbrev pub invariant-loop-span : goal.invariant-loop-span
invariant-loop-span l = (before : SpanLists) → KeepsTimes l.fn.self before → KeepsTimes l.self (record before { all = before.all ++ take l.span-index l.spans })
