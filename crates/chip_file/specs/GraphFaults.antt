-- The faults of graphs among those of files.
use Rattle.chip_graph.specs.declared.fault.GraphFault.{GraphFault}
use Rattle.chip_graph.specs.declared.fault.GraphFault.TheVariants as graph_fault
use Rattle.chip_file.specs.declared.fault.FileFault.{FileFault}
use Rattle.chip_file.specs.declared.fault.FileFault.TheVariants as fault

-- want of memory is one fault, wherever it comes from
abbrev pub of_graph_fault : GraphFault → FileFault
of_graph_fault graph_fault.NoMemory = fault.NoMemory
of_graph_fault f = fault.Graph f
