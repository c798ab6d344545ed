use Rattle.chip_trace.proofs.Names.{◌≡◌, ◌++◌, map, take, string_bytes, header, lines_from}
use Rattle.chip_trace.proofs.writing.text_of.Given as goal

abbrev pub invariant-loop-vertex : goal.invariant-loop-vertex
invariant-loop-vertex l = string_bytes l.text ≡ header ++ lines_from 0 (take l.vertex (map (λ t. t.now) l.traces))
