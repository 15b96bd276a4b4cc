use Rattle.hex.specs.Hex.{lower_digits}
use Rattle.hex.proofs.HexLemmas.{IsAscii-encode_with}
use Rattle.std.proofs.lemmas.Str.Ascii.{All-from_ascii}
use Rattle.cml_journal.proofs.DigitsLemmas.{digits_are_ascii}
use Rattle.cml_journal.proofs.sum.Sum.digits.Goals as goal

pub returns-clause-ascii : goal.returns-clause-ascii
returns-clause-ascii c =
    rw c.in-Ok.ensures.written (All-from_ascii _ (IsAscii-encode_with lower_digits c.args.self.now.0 digits_are_ascii))
