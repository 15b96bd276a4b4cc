-- What a board keeps says all that always holds of it.
use Rattle.std.specs.Prelude.{ℕ}
use Rattle.cml_board.specs.Shown.{Shown}
use Rattle.cml_board.specs.{IsSound}
use Rattle.cml_board.specs.Keeps.{Keeps}
use Rattle.cml_board.proofs.MessagesLemmas.{keeps_mailboxes, keeps_ports, keeps_closed}
use Rattle.cml_board.proofs.HoldingLemmas.{keeps_variables}
use Rattle.cml_board.proofs.KeepingLemmas.{keeps_logs}
use Rattle.cml_board.proofs.SinceLemmas.{keeps_since}

module _ {M : Type 0} where
  pub is_sound : (chunk : ℕ) (board : Shown M) → Keeps chunk board → IsSound chunk board
  is_sound chunk board keeps = record {
    lawful = keeps.lawful;
    mailboxes = keeps_mailboxes chunk board keeps;
    ports = keeps_ports chunk board keeps;
    closed = keeps_closed chunk board keeps;
    variables = keeps_variables chunk board keeps;
    logs = keeps_logs chunk board keeps;
    since = keeps_since chunk board keeps;
  }
