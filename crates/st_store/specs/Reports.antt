-- What is kept of two reports.
use Rattle.std.specs.Prelude.{nat_lt, if◌then◌else◌}
use Rattle.st_net.specs.declared.message.Report.{Report}
use Rattle.st_store.specs.declared.reports.Keep.{Keep}
use Rattle.st_store.specs.declared.reports.Keep.TheVariants.{Taken, Old}

-- a report is taken exactly where its number is above that of the kept one
abbrev pub keep_answer : Report → Report → Keep
keep_answer kept report = if nat_lt kept.number report.number then Taken else Old kept.number
