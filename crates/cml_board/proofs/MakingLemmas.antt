-- Calls that make an object.
use Rattle.std.proofs.Common.{◌≡◌, ℕ, List, ◌∷◌, Some, refl}
use Rattle.cml_log.specs.Log.{Log}
use Rattle.cml_board.specs.{Name, Who, Object, making_call, Fits, answer, new_name, CanMake, HasSource, AddsMade}
use Rattle.cml_board.specs.declared.board.note.Making.{Making}
use Rattle.cml_board.specs.Shown.{Shown}
use Rattle.cml_board.specs.Keeps.{Keeps}
use Rattle.cml_board.specs.declared.call.Call.TheVariants.{NewPort, CopyPort}
use Rattle.cml_board.specs.declared.board.note.Making.TheVariants as making
use Rattle.cml_board.specs.declared.entry.Reply.TheVariants.{Made}
use Rattle.cml_calls.specs.{is_channel, is_port}
use Rattle.cml_board.proofs.AnsweringLemmas.{fits_by, answer_copied}
use Rattle.cml_board.proofs.HoldingLemmas.{fits_making, answer_making}
use Rattle.cml_board.proofs.SourcesLemmas.{channel_stands, port_origin}
use Rattle.cml_board.proofs.SettingLemmas.{step_variable}
use Rattle.cml_board.proofs.SteppingLemmas.{ShowsAll, step_mailbox, step_channel, step_port, step_copy}
use Rattle.cml_board.proofs.TellingLemmas.{noted}

module _ {M : Type 0} where
  -- a call that can make its object fits
  pub fits_made : (board : Shown M) (m : Making) → CanMake board m → Fits board.history (making_call m)
  fits_made board making.Mailbox can = (tt, tt)
  fits_made board making.Channel can = (tt, tt)
  fits_made board (making.Port channel) can = fits_by is_channel board.history channel (NewPort channel) refl (λ k. refl) can
  fits_made board (making.Copy port channel key) can = fits_by is_port board.history port (CopyPort port) refl (λ k. refl) can.0
  fits_made board (making.Variable form) can = fits_making board.history form

  -- and is answered the next name
  pub answer_made : (board : Shown M) (m : Making) → CanMake board m → answer board.history (making_call m) ≡ Some (new_name board.history)
  answer_made board making.Mailbox can = refl
  answer_made board making.Channel can = refl
  answer_made board (making.Port channel) can = refl
  answer_made board (making.Copy port channel key) can = answer_copied board.history port can.1.opened
  answer_made board (making.Variable form) can = answer_making board.history form

  -- the object that it is made of is there
  pub has_source : (chunk : ℕ) (board : Shown M) (m : Making) → Keeps chunk board → CanMake board m → HasSource board.objects m
  has_source chunk board making.Mailbox keeps can = tt
  has_source chunk board making.Channel keeps can = tt
  has_source chunk board (making.Port channel) keeps can = channel_stands chunk board channel.0 keeps can
  has_source chunk board (making.Copy port channel key) keeps can = can.1.cursor
  has_source chunk board (making.Variable form) keeps can = tt

  -- the objects with the one that it added show the history with its entry
  pub step_made : (chunk : ℕ) (who : Who) (m : Making) (n : Name) (board : Shown M) (after : List (Object M (Log M)))
      → Keeps chunk board → CanMake board m → AddsMade m board.objects after
      → ShowsAll chunk (noted who (making_call m) (Made n) ∷ board.history) after
  step_made chunk who making.Mailbox n board after keeps can adds =
      step_mailbox chunk who n board.history board.objects after keeps.lawful keeps.shows adds
  step_made chunk who making.Channel n board after keeps can adds =
      rw adds (step_channel chunk who n board.history board.objects keeps.lawful keeps.shows)
  step_made chunk who (making.Port channel) n board after keeps can adds =
      step_port chunk who channel n board.history board.objects after keeps.lawful keeps.shows adds
  step_made chunk who (making.Copy port channel key) n board after keeps can adds =
      let begun = port_origin chunk board port.0 channel.0 key keeps can.0 can.1.opened can.1.reads in
      step_copy chunk who port n board.history board.objects after channel.0 begun.0 key keeps.lawful keeps.shows can.1.reads begun.1 adds
  step_made chunk who (making.Variable form) n board after keeps can adds =
      rw adds (step_variable chunk who form n board.history board.objects keeps.lawful keeps.shows)
