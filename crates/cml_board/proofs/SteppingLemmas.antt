-- The objects that a call leaves show the history with its entry.
use Rattle.std.proofs.Common.{true, ◌≡◌, ℕ, ◌+◌, ◌-◌, List, [], ◌∷◌, ◌++◌, length, slice_get, Some, None, refl, sym, ap, subst, ◌∙◌, arith}
use Rattle.std.specs.Option.{option_and_then}
use Rattle.cml_log.specs.Log.{Log}
use Rattle.cml_log.specs.{empty_log, next_of, place_of}
use Rattle.cml_log.specs.Holds.{Holds}
use Rattle.cml_log.proofs.HoldsLemmas.{Holds-open_cursor, Holds-copy_cursor}
use Rattle.cml_board.specs.{Name, Who, Entry, Object, mailbox, channel, port, start_by, given_call, asked_call, adds, takes_next, asks_port}
use Rattle.cml_board.specs.{Lawful, made, origin_of, sent, got, facts_of, new_facts, log_at, cursor_in, cursor_at, on_log, pushed, advanced}
use Rattle.cml_board.specs.{open_port, HasLog, HasOwed, HasPort, AddsMailbox, AddsPort, ClosesPort}
use Rattle.cml_board.specs.Facts.{Facts}
use Rattle.cml_board.specs.declared.call.Call.TheVariants.{NewMailbox, NewChannel, NewPort, CopyPort, ClosePort, Poll}
use Rattle.cml_calls.specs.{Ask, Give}
use Rattle.cml_board.specs.declared.entry.Reply.TheVariants.{Done, Made, Got, Nothing, Closed}
use Rattle.cml_board.specs.declared.object.Object.TheVariants.{Channel}
use Rattle.cml_board.specs.Keeps.{Shows}
use Rattle.cml_board.proofs.StandingLemmas.{next_is, cursor_is, cursor_opened, place_is}
use Rattle.cml_board.proofs.ShowingLemmas.{shows_same, shows_pushed, shows_advanced, shows_mailbox, shows_channel, shows_port, shows_closed}
use Rattle.cml_board.proofs.TellingLemmas.{noted, put_here, put_other, put_made, taken_here, taken_other, taken_made}
use Rattle.cml_board.proofs.TellingLemmas.{asking_same, asking_made, nothing_same, nothing_made, shut_here, shut_other}
use Rattle.cml_board.proofs.TellingLemmas.{shut_made, makes_here, makes_other, makes_more}
use Rattle.cml_board.proofs.BeginningLemmas.{mailbox_makes, channel_makes, port_makes, copy_makes}

module _ {M : Type 0} where
  -- the objects show all that a history tells
  abbrev pub ShowsAll : ℕ → List (Entry M) → List (Object M (Log M)) → Type 0
  ShowsAll chunk h objects = Shows chunk (length (made h)) (facts_of h) objects

  -- with as many objects as were made
  pub shows_count : (chunk n m : ℕ) (facts : ℕ → Facts M) (objects : List (Object M (Log M))) → m ≡ n
      → Shows chunk n facts objects → Shows chunk m facts objects
  shows_count chunk n m facts objects same shows = subst (λ k. Shows chunk k facts objects) (sym same) shows

  -- a message was put
  pub step_put : (chunk : ℕ) (who : Who) (gives : Give) (name : Name) (message : M) (h : List (Entry M)) (objects : List (Object M (Log M)))
      → adds gives ≡ true → ShowsAll chunk h objects → HasLog objects name.0
      → ShowsAll chunk (noted who (given_call gives name message) Done ∷ h) (on_log (pushed chunk message) objects name.0)
  step_put chunk who gives name message h objects is shows stands =
      let after : List (Entry M) = noted who (given_call gives name message) Done ∷ h in
      shows_count chunk (length (made h)) (length (made after)) (facts_of after) (on_log (pushed chunk message) objects name.0)
      (put_made h who gives name message)
      (shows_pushed chunk (length (made h)) (facts_of h) (facts_of after) objects name.0 message shows stands
      (put_here h who gives name message is) (λ k. put_other h who gives name message k is))

  -- a message was taken
  pub step_taken : (chunk : ℕ) (who : Who) (asks : Ask) (name : Name) (message : M) (h : List (Entry M))
      (objects : List (Object M (Log M))) (source key : ℕ)
      → takes_next asks ≡ true → ShowsAll chunk h objects → cursor_at objects name.0 ≡ Some (source, key) → HasOwed objects source key
      → ShowsAll chunk (noted who (asked_call asks name) (Got message) ∷ h) (on_log (advanced chunk key) objects source)
  step_taken chunk who asks name message h objects source key is shows reads owes =
      let after : List (Entry M) = noted who (asked_call asks name) (Got message) ∷ h in
      shows_count chunk (length (made h)) (length (made after)) (facts_of after) (on_log (advanced chunk key) objects source)
      (taken_made h who asks name message)
      (shows_advanced chunk (length (made h)) (facts_of h) (facts_of after) objects name.0 source key message shows reads owes
      (taken_here h who asks name message is) (λ k. taken_other h who asks name message k is))

  -- a closed port answered
  pub step_asking : (chunk : ℕ) (who : Who) (asks : Ask) (name : Name) (h : List (Entry M)) (objects : List (Object M (Log M)))
      → asks_port asks ≡ true → ShowsAll chunk h objects → ShowsAll chunk (noted who (asked_call asks name) Closed ∷ h) objects
  step_asking chunk who asks name h objects is shows =
      let after : List (Entry M) = noted who (asked_call asks name) Closed ∷ h in
      shows_count chunk (length (made h)) (length (made after)) (facts_of after) objects (asking_made h who asks name)
      (shows_same chunk (length (made h)) (facts_of h) (facts_of after) objects shows (λ k. asking_same h who asks name k is))

  -- a poll found nothing
  pub step_nothing : (chunk : ℕ) (who : Who) (name : Name) (h : List (Entry M)) (objects : List (Object M (Log M)))
      → ShowsAll chunk h objects → ShowsAll chunk (noted who (Poll name) Nothing ∷ h) objects
  step_nothing chunk who name h objects shows =
      let after : List (Entry M) = noted who (Poll name) Nothing ∷ h in
      shows_count chunk (length (made h)) (length (made after)) (facts_of after) objects (nothing_made h who name)
      (shows_same chunk (length (made h)) (facts_of h) (facts_of after) objects shows (nothing_same h who name))

  -- a mailbox was made
  pub step_mailbox : (chunk : ℕ) (who : Who) (n : Name) (h : List (Entry M)) (objects after : List (Object M (Log M)))
      → Lawful h → ShowsAll chunk h objects → AddsMailbox objects after → ShowsAll chunk (noted who NewMailbox (Made n) ∷ h) after
  step_mailbox chunk who n h objects after lawful shows adds =
      let later : List (Entry M) = noted who NewMailbox (Made n) ∷ h in
      let makes = mailbox_makes h n in
      shows_count chunk (length (made h) + 1) (length (made later)) (facts_of later) after
      (makes_more h who NewMailbox n mailbox None makes)
      (subst (λ a. Shows chunk (length (made h) + 1) (facts_of later) a) (sym adds.changed)
      (shows_mailbox chunk (length (made h)) (facts_of h) (facts_of later) objects adds.log adds.key shows adds.opens
      (makes_here h who NewMailbox n mailbox None lawful makes) (λ k. makes_other h who NewMailbox n mailbox None k makes)))

  -- a channel was made
  pub step_channel : (chunk : ℕ) (who : Who) (n : Name) (h : List (Entry M)) (objects : List (Object M (Log M)))
      → Lawful h → ShowsAll chunk h objects → ShowsAll chunk (noted who NewChannel (Made n) ∷ h) (objects ++ Channel empty_log ∷ [])
  step_channel chunk who n h objects lawful shows =
      let later : List (Entry M) = noted who NewChannel (Made n) ∷ h in
      let makes = channel_makes h n in
      shows_count chunk (length (made h) + 1) (length (made later)) (facts_of later) (objects ++ Channel empty_log ∷ [])
      (makes_more h who NewChannel n channel None makes)
      (shows_channel chunk (length (made h)) (facts_of h) (facts_of later) objects shows
      (makes_here h who NewChannel n channel None lawful makes) (λ k. makes_other h who NewChannel n channel None k makes))

  -- a port was made at the end of its channel
  pub step_port : (chunk : ℕ) (who : Who) (name n : Name) (h : List (Entry M)) (objects after : List (Object M (Log M)))
      → Lawful h → ShowsAll chunk h objects → AddsPort objects after name.0 next_of
      → ShowsAll chunk (noted who (NewPort name) (Made n) ∷ h) after
  step_port chunk who name n h objects after lawful shows adds =
      let later : List (Entry M) = noted who (NewPort name) (Made n) ∷ h in
      let old : Log M = adds.opens.stands.log in
      let found : log_at objects name.0 ≡ Some old = adds.opens.stands.found in
      let end : next_of old ≡ length (sent h name.0) = next_is chunk (length (made h)) (facts_of h) objects name.0 old shows found in
      let holds : Holds chunk adds.opens.log (sent h name.0) =
      Holds-open_cursor chunk old adds.opens.log (sent h name.0) adds.key (shows.logs name.0 old found) adds.opens.opens in
      let begun = port name.0 (length (sent h name.0)) in
      let makes = port_makes h name n in
      shows_count chunk (length (made h) + 1) (length (made later)) (facts_of later) after
      (makes_more h who (NewPort name) n begun None makes)
      (subst (λ a. Shows chunk (length (made h) + 1) (facts_of later) a) (sym adds.changed)
      (shows_port chunk (length (made h)) (facts_of h) (facts_of later) objects adds.after name.0 adds.key
      (next_of old) next_of shows adds.opens refl holds
      (makes_here h who (NewPort name) n begun None lawful makes ∙ ap (λ start. new_facts (port name.0 start) None) (sym end))
      (λ k. makes_other h who (NewPort name) n begun None k makes)))

  -- the place of a port's cursor
  port_place : (chunk : ℕ) (h : List (Entry M)) (objects : List (Object M (Log M))) (name source start key : ℕ) (log : Log M)
      → ShowsAll chunk h objects
      → cursor_at objects name ≡ Some (source, key) → origin_of h name ≡ Some (port source start) → log_at objects source ≡ Some log
      → place_of log key ≡ start + length (got h name)
  port_place chunk h objects name source start key log shows reads begun found =
      place_is chunk (length (made h)) (facts_of h) objects name source key log shows reads found
      ∙ ap (λ o. start_by o + length (got h name)) begun

  -- a port was made at another port's place
  pub step_copy : (chunk : ℕ) (who : Who) (p n : Name) (h : List (Entry M)) (objects after : List (Object M (Log M))) (source start key : ℕ)
      → Lawful h → ShowsAll chunk h objects → cursor_at objects p.0 ≡ Some (source, key) → origin_of h p.0 ≡ Some (port source start)
      → AddsPort objects after source (λ log. place_of log key) → ShowsAll chunk (noted who (CopyPort p) (Made n) ∷ h) after
  step_copy chunk who p n h objects after source start key lawful shows reads begun adds =
      let later : List (Entry M) = noted who (CopyPort p) (Made n) ∷ h in
      let old : Log M = adds.opens.stands.log in
      let found : log_at objects source ≡ Some old = adds.opens.stands.found in
      let place : place_of old key ≡ start + length (got h p.0) =
      port_place chunk h objects p.0 source start key old shows reads begun found in
      let holds : Holds chunk adds.opens.log (sent h source) =
      Holds-copy_cursor chunk old adds.opens.log (sent h source) key adds.key (shows.logs source old found)
      (cursor_opened chunk (length (made h)) (facts_of h) objects p.0 source key old shows reads found) adds.opens.opens in
      let began = port source (start + length (got h p.0)) in
      let makes = copy_makes h p n source start begun in
      shows_count chunk (length (made h) + 1) (length (made later)) (facts_of later) after
      (makes_more h who (CopyPort p) n began None makes)
      (subst (λ a. Shows chunk (length (made h) + 1) (facts_of later) a) (sym adds.changed)
      (shows_port chunk (length (made h)) (facts_of h) (facts_of later) objects adds.after source adds.key
      (place_of old key) (λ log. place_of log key)
      shows adds.opens refl holds
      (makes_here h who (CopyPort p) n began None lawful makes ∙ ap (λ at. new_facts (port source at) None) (sym place))
      (λ k. makes_other h who (CopyPort p) n began None k makes)))

  -- an open port began as its object tells
  port_begun : (chunk : ℕ) (h : List (Entry M)) (objects : List (Object M (Log M))) (name source start key : ℕ) → ShowsAll chunk h objects
      → slice_get objects name ≡ Some (open_port source start key) → origin_of h name ≡ Some (port source start)
  port_begun chunk h objects name source start key shows found = (shows.each name (open_port source start key) found).0

  -- and reads its channel by its key
  port_reads : (objects : List (Object M (Log M))) (name source start key : ℕ)
      → slice_get objects name ≡ Some (open_port source start key) → cursor_at objects name ≡ Some (source, key)
  port_reads objects name source start key found = ap (option_and_then (cursor_in name)) found

  -- a port was closed
  pub step_closed : (chunk : ℕ) (who : Who) (name : Name) (h : List (Entry M))
      (objects after : List (Object M (Log M))) (source start key : ℕ)
      → ShowsAll chunk h objects → slice_get objects name.0 ≡ Some (open_port source start key)
      → ClosesPort chunk objects after name.0 source start key
      → ShowsAll chunk (noted who (ClosePort name) Done ∷ h) after
  step_closed chunk who name h objects after source start key shows found closes =
      let later : List (Entry M) = noted who (ClosePort name) Done ∷ h in
      let place : place_of closes.log key ≡ start + length (got h name.0) =
      port_place chunk h objects name.0 source start key closes.log shows (port_reads objects name.0 source start key found)
      (port_begun chunk h objects name.0 source start key shows found) closes.found in
      let received : place_of closes.log key - start ≡ length (got h name.0) = omega (arith, place) in
      shows_count chunk (length (made h)) (length (made later)) (facts_of later) after (shut_made h who name)
      (subst (λ a. Shows chunk (length (made h)) (facts_of later) a) (sym closes.changed)
      (shows_closed chunk (length (made h)) (facts_of h) (facts_of later) objects name.0 source start key (place_of closes.log key - start)
      shows found received (shut_here h who name) (shut_other h who name)))

  -- an open port has a place in its channel, no earlier than its start
  pub has_port : (chunk : ℕ) (h : List (Entry M)) (objects : List (Object M (Log M))) (name source start key : ℕ)
      → ShowsAll chunk h objects → slice_get objects name ≡ Some (open_port source start key) → HasPort objects name source start key
  has_port chunk h objects name source start key shows found =
      let reads = port_reads objects name source start key found in
      let cursor = (cursor_is chunk (length (made h)) (facts_of h) objects name source key shows reads).0 in
      let place = port_place chunk h objects name source start key cursor.stands.log shows reads
      (port_begun chunk h objects name source start key shows found) cursor.stands.found in
      record { found = found; cursor = cursor; past = omega (arith, place) }
