-- The exit status of an ending.
use Rattle.std.specs.Prelude.{ℕ}
use Rattle.cml_report.specs.Endings as script
use Rattle.cml_explore.specs.declared.ending.Ending.{Ending}
use Rattle.cml_explore.specs.declared.ending.Ending.TheVariants.{Script, TooMany}

abbrev pub status : Ending → ℕ
status (Script ended) = script.status ended
status (TooMany states) = 8
