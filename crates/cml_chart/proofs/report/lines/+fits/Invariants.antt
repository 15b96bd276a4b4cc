use Rattle.std.proofs.Common.{length}
use Rattle.cml_chart.proofs.report.lines.+fits.Given as goal

abbrev pub decreases-fits : goal.decreases-fits
decreases-fits l = length l.form.now
