use Rattle.cml_report.proofs.ObjectLemmas.{AreListed}
use Rattle.cml_report.proofs.objects.list_makers.Given as goal

abbrev pub invariant-loop-declaration : goal.invariant-loop-declaration
invariant-loop-declaration l = AreListed l.script l.declaration-index l.makers.items l.feeds
