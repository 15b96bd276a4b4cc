-- A base and the entries since give each call the same answer, and together they give the base of the whole history.
use Rattle.std.proofs.Common.{◌≡◌, ℕ, Bool, true, false, cond, List, ◌++◌, length, Option, Some, None, is_some, unwrap_or}
use Rattle.std.proofs.Common.{IsTrue, IsSome, IfSome, refl, ap, ◌∙◌}
use Rattle.std.specs.Option.{option_map_or}
use Rattle.std.proofs.lemmas.Bool.{false≢true}
use Rattle.cml_board.specs.{Name, Call, Reply, Entry, Lawful, Fits, answer, kind_of, is_open, owed, received, given, new_name, where_open}
use Rattle.cml_board.specs.{base_of, name_since, where_open_since, owed_since, answer_since, next_base}
use Rattle.cml_calls.specs.{Kind, is_receiver}
use Rattle.cml_board.specs.declared.call.Call.TheVariants.{NewMailbox, NewChannel, NewPort, CopyPort, ClosePort, NewIVar, NewMVar, MVarInit}
use Rattle.cml_board.specs.declared.call.Call.TheVariants.{Send, Cast, Recv, Poll, Put, Get, GetPoll, Take, TakePoll, Swap}
use Rattle.cml_board.specs.declared.entry.Reply.TheVariants.{Done, Made, Nothing, Closed}
use Rattle.cml_board.specs.declared.entry.Reply.TheVariants as reply
use Rattle.cml_board.proofs.SplittingLemmas.{entries_split, rings_split}
use Rattle.cml_board.proofs.ResumingLemmas.{count_told, open_told, held_told, made_told, place_told}
use Rattle.cml_board.proofs.TrailingLemmas.{messages_told}
use Rattle.cml_board.proofs.ReceivingLemmas.{open_before, owed_told}

-- what takes a receive is a receiver
receiver_kind : (k : Option Kind) → IsSome k → IfSome k (λ kind. IsTrue (is_receiver kind)) → option_map_or is_receiver k false ≡ true
receiver_kind None some is = absurd (false≢true some)
receiver_kind (Some kind) some is = is

module _ {M : Type 0} where
  -- the next object has the same name
  name_told : (chunk : ℕ) (past since : List (Entry M)) → Lawful (since ++ past)
      → name_since (base_of chunk past) since ≡ new_name (since ++ past)
  name_told chunk past since lawful = ap (λ origins. Made (record { 0 = length origins })) (made_told chunk past since lawful)

  -- of a closed port it doesn't matter what it would give
  where_told : (opened : Bool) (one two : Option (Reply M)) → (opened ≡ true → one ≡ two)
      → cond opened one (Some Closed) ≡ cond opened two (Some Closed)
  where_told true one two same = same refl
  where_told false one two same = refl

  where_open_told : (chunk : ℕ) (past since : List (Entry M)) (o : ℕ) (one two : Option (Reply M))
      → (is_open (since ++ past) o ≡ true → one ≡ two)
      → where_open_since (base_of chunk past) since o one ≡ where_open (since ++ past) o two
  where_open_told chunk past since o one two same =
      ap (λ t. cond t one (Some Closed)) (open_told chunk past since o) ∙ where_told (is_open (since ++ past) o) one two same

  -- the first message owed is the same
  received_told : (chunk : ℕ) (past since : List (Entry M)) (name : Name) → Lawful (since ++ past) → IsSome (kind_of (since ++ past) name.0)
      → IfSome (kind_of (since ++ past) name.0) (λ kind. IsTrue (is_receiver kind)) → is_open (since ++ past) name.0 ≡ true
      → received (owed_since (base_of chunk past) since name.0) ≡ received (owed (since ++ past) name.0)
  received_told chunk past since name lawful some is opened =
      ap received (owed_told chunk past since name.0 lawful (receiver_kind (kind_of (since ++ past) name.0) some is)
      (open_before past since name.0 opened))

  -- so is each answer
  pub answer_told : (chunk : ℕ) (past since : List (Entry M)) (call : Call M) → Lawful (since ++ past) → Fits (since ++ past) call
      → answer_since (base_of chunk past) since call ≡ answer (since ++ past) call
  answer_told chunk past since NewMailbox lawful fits = ap Some (name_told chunk past since lawful)
  answer_told chunk past since NewChannel lawful fits = ap Some (name_told chunk past since lawful)
  answer_told chunk past since (NewPort name) lawful fits = ap Some (name_told chunk past since lawful)
  answer_told chunk past since NewIVar lawful fits = ap Some (name_told chunk past since lawful)
  answer_told chunk past since NewMVar lawful fits = ap Some (name_told chunk past since lawful)
  answer_told chunk past since (MVarInit message) lawful fits = ap Some (name_told chunk past since lawful)
  answer_told chunk past since (CopyPort name) lawful fits =
      where_open_told chunk past since name.0 (Some (name_since (base_of chunk past) since)) (Some (new_name (since ++ past)))
      (λ opened. ap Some (name_told chunk past since lawful))
  answer_told chunk past since (ClosePort name) lawful fits =
      where_open_told chunk past since name.0 (Some Done) (Some Done) (λ opened. refl)
  answer_told chunk past since (Send name message) lawful fits = refl
  answer_told chunk past since (Cast name message) lawful fits = refl
  answer_told chunk past since (Recv name) lawful fits =
      where_open_told chunk past since name.0 (received (owed_since (base_of chunk past) since name.0))
      (received (owed (since ++ past) name.0))
      (received_told chunk past since name lawful fits.0 fits.1)
  answer_told chunk past since (Poll name) lawful fits =
      where_open_told chunk past since name.0 (Some (unwrap_or (received (owed_since (base_of chunk past) since name.0)) Nothing))
      (Some (unwrap_or (received (owed (since ++ past) name.0)) Nothing))
      (λ opened. ap (λ first. Some (unwrap_or first Nothing)) (received_told chunk past since name lawful fits.0 fits.1 opened))
  answer_told chunk past since (Put name message) lawful fits =
      ap (λ has. Some (cond (is_some has) reply.Put Done)) (held_told chunk past since name.0)
  answer_told chunk past since (Get name) lawful fits = ap given (held_told chunk past since name.0)
  answer_told chunk past since (GetPoll name) lawful fits =
      ap (λ has. Some (unwrap_or (given has) Nothing)) (held_told chunk past since name.0)
  answer_told chunk past since (Take name) lawful fits = ap given (held_told chunk past since name.0)
  answer_told chunk past since (TakePoll name) lawful fits =
      ap (λ has. Some (unwrap_or (given has) Nothing)) (held_told chunk past since name.0)
  answer_told chunk past since (Swap name message) lawful fits = ap given (held_told chunk past since name.0)

  -- part by part, and for each object, the next base is that of the whole history
  pub next_told : (chunk : ℕ) (past since : List (Entry M)) → Lawful (since ++ past)
      → next_base chunk (base_of chunk past) since ≡ base_of chunk (since ++ past)
  next_told chunk past since lawful = λ i. record {
    entries = entries_split past since i;
    rings = rings_split past since i;
    origins = made_told chunk past since lawful i;
    count = λ o. count_told chunk past since o i;
    kept = λ o. messages_told chunk past since o lawful i;
    place = λ o. place_told chunk past since o lawful i;
    opened = λ o. open_told chunk past since o i;
    held = λ o. held_told chunk past since o i;
  }
