-- How many objects and messages a history can have: each entry makes one object or sends one message, and not both.
use Rattle.std.proofs.Common.{ℕ, ◌+◌, ◌≤◌, List, [], ◌∷◌, length, slice_get, Option, Some, arith}
use Rattle.std.proofs.lemmas.List.{length-append}
use Rattle.cml_board.specs.{Call, Reply, Entry, Origin, port, copy_of, made, if_made, begun_by, sent, sent_by, got, entries_in}
use Rattle.cml_board.specs.declared.call.Call.TheVariants.{NewMailbox, NewChannel, NewPort, CopyPort, NewIVar, NewMVar}
use Rattle.cml_board.specs.declared.call.Call.TheVariants.{MVarInit, Send, Cast}
use Rattle.cml_board.specs.declared.entry.Reply.TheVariants.{Made}
use Rattle.cml_board.proofs.ReceivedLemmas.{length-sent_by}

one_copy : (origin : Option Origin) (received : ℕ) → length (copy_of origin received) ≤ 1
one_copy (Some (port source start)) received = omega arith
one_copy origin received = omega arith

module _ {M : Type 0} where
  length-if_made : (reply : Reply M) (origins : List Origin) → length (if_made reply origins) ≤ length origins
  length-if_made (Made name) origins = omega arith
  length-if_made reply origins = omega arith

  -- a call makes an object or sends a message
  one_by : (call : Call M) (origins : List Origin) (before : List (Entry M)) (o : ℕ)
      → length (sent_by call o) + length (begun_by origins before call) ≤ 1
  one_by NewMailbox origins before o = omega arith
  one_by NewChannel origins before o = omega arith
  one_by (NewPort name) origins before o = omega arith
  one_by (CopyPort name) origins before o = omega (arith, one_copy (slice_get origins name.0) (length (got before name.0)))
  one_by NewIVar origins before o = omega arith
  one_by NewMVar origins before o = omega arith
  one_by (MVarInit message) origins before o = omega arith
  one_by (Send name message) origins before o = omega (arith, length-sent_by (Send name message) o)
  one_by (Cast name message) origins before o = omega (arith, length-sent_by (Cast name message) o)
  one_by call origins before o = omega arith

  -- what was sent to an object and all objects are no more than the entries
  pub sent_and_made : (h : List (Entry M)) (o : ℕ) → length (sent h o) + length (made h) ≤ entries_in h
  sent_and_made [] o = omega arith
  sent_and_made (entry ∷ before) o =
      omega (
        arith,
        length-append (sent before o) (sent_by entry.call o),
        length-append (made before) (if_made entry.reply (begun_by (made before) before entry.call)),
        length-if_made entry.reply (begun_by (made before) before entry.call),
        one_by entry.call (made before) before o,
        sent_and_made before o,
      )
