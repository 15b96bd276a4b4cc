-- What a switchboard is made from.
use Rattle.std.specs.Prelude.{ℕ, ◌≡◌, ◌^◌}
use Rattle.std.specs.declared.sync.ledger.Blank.{Blank}

-- a blank of the ledger with this name and this many parts, which are enough for a switchboard
pub record IsBlankOf (blank : Blank) (named cut : ℕ) : Type 0 where
  pub name : blank.name ≡ named
  pub parts : blank.parts ≡ cut
  pub enough : blank.parts ≡ 2 ^ 63
