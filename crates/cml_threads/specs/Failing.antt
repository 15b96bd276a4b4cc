-- How a call fails on a switchboard that cuts its journal by itself.
use Rattle.std.specs.Prelude.{◌≢◌}
use Rattle.cml_board.specs.{Refusal}
use Rattle.cml_board.specs.declared.outcome.Refusal.TheVariants.{JournalFull}
use Rattle.cml_threads.specs.declared.keeping.failure.Failure.{Failure}
use Rattle.cml_threads.specs.declared.keeping.failure.Failure.TheVariants.{Refused, NotKept}

module _ {E : Type 0} where
  -- the switchboard refused it in a way in which it may, and not since the journal was full; or the sink failed
  abbrev pub MayFail : (Refusal → Type 0) → Failure E → Type 0
  MayFail may (Refused refusal) = may refusal × (refusal ≢ JournalFull)
  MayFail may (NotKept error) = Unit {0}
