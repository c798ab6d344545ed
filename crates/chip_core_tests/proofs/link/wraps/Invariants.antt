-- The head takes at most one message in each pass of a loop, so it stays far below its maximum.
use Rattle.std.proofs.Common.{◌+◌, ◌≤◌}
use Rattle.chip_core_tests.proofs.link.wraps.Given as goal

abbrev pub invariant-loop-place : goal.invariant-loop-place
invariant-loop-place g l = l.wire.head.taken ≤ l.place

abbrev pub invariant-loop-left : goal.invariant-loop-left
invariant-loop-left g l = l.wire.head.taken ≤ 300 + l.left
