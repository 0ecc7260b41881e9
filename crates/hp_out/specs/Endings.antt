-- How a run of a walk ends.
use Rattle.hp_syntax.specs.Report as report
use Rattle.hp_out.specs.declared.ending.Ending.{Ending}
use Rattle.hp_out.specs.declared.ending.Ending.TheVariants.{Stopped, End, Cut, Fault}

abbrev pub ending_of : Ending → report.Ending
ending_of Stopped = report.Stopped
ending_of End = report.AtEnd
ending_of Cut = report.AtCut
ending_of (Fault f) = report.AtFault f
