-- The numbers of faults in the table of faults.
use Rattle.std.specs.Prelude.{ℕ}
use Rattle.chip_report.specs.declared.fault.ReportFault.{ReportFault}
use Rattle.chip_report.specs.declared.fault.ReportFault.TheVariants.{NotReport, NoMemory}

-- the number of a fault of a report
abbrev pub report_fault_number : ReportFault → ℕ
report_fault_number NotReport = 50
report_fault_number NoMemory = 90

-- the number of a write that failed
abbrev pub write_fault_number : ℕ
write_fault_number = 93
