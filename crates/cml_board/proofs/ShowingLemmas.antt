-- A board's objects go on showing what its history tells, through each change of a call.
use Rattle.std.proofs.Common.{◌≡◌, ◌≢◌, inl, inr, ℕ, ◌+◌, false, List, [], ◌∷◌, ◌++◌, length, slice_get, slice_set, Some}
use Rattle.std.proofs.Common.{None, refl, sym, ap, subst, ◌∙◌, arith}
use Rattle.std.specs.Option.{option_and_then}
use Rattle.std.proofs.lemmas.Bool.{cases_eq}
use Rattle.std.proofs.lemmas.List.{length_push, length-set}
use Rattle.std.proofs.lemmas.Option.{none-some, same_Some}
use Rattle.cml_log.specs.Log.{Log}
use Rattle.cml_log.specs.{empty_log, place_at, place_of, Opens}
use Rattle.cml_log.specs.Holds.{Holds}
use Rattle.cml_log.proofs.LogLemmas.{place_at-with_place_other}
use Rattle.cml_log.proofs.HoldsLemmas.{Holds-empty, Holds-push, Holds-advance, Holds-open_cursor}
use Rattle.cml_board.specs.{Object, mailbox, channel, port, place_by, new_facts, log_in, cursor_in, log_at, cursor_at, on_log, pushed}
use Rattle.cml_board.specs.{advanced, shut, HasLog, HasOwed, OpensAt, Agrees}
use Rattle.cml_board.specs.Facts.{Facts}
use Rattle.cml_board.specs.declared.object.Object.TheVariants.{Mailbox, Channel, Port}
use Rattle.cml_board.specs.declared.object.Reading.TheVariants.{Open, Closed}
use Rattle.cml_board.specs.Keeps.{Shows}
use Rattle.cml_board.proofs.ListLemmas.{slice_get-set_same, slice_get-set_other}
use Rattle.cml_board.proofs.LogsLemmas.{same_source, length-on_log, get-on_log_other, log_at-on_log_other, log_at-on_log_same}
use Rattle.cml_board.proofs.LogsLemmas.{cursor_at-on_log, log_at-pushed_other, cursor_at-pushed_other, log_at-pushed, cursor_at-pushed}
use Rattle.cml_board.proofs.LogsLemmas.{log_at-set_other, log_at-set_same, cursor_at-set_other, cursor_at-set_same}
use Rattle.cml_board.proofs.AgreeingLemmas.{Agrees-on_log, Agrees-sent, Agrees-got, told, Agrees_told, Agrees_pushed}
use Rattle.cml_board.proofs.ChangingLemmas.{cursor_place, shows_changed, same_apart, advanced_place, no_log, no_cursor, no_reader}
use Rattle.cml_board.proofs.ChangingLemmas.{Joins, Joins-changes, Leaves, Leaves-changes}

module _ {M : Type 0} where
  -- equal facts are shown alike
  pub shows_same : (chunk n : ℕ) (f g : ℕ → Facts M) (objects : List (Object M (Log M)))
      → Shows chunk n f objects → ((k : ℕ) → g k ≡ f k) → Shows chunk n g objects
  shows_same chunk n f g objects shows same = record {
    all = shows.all;
    each = λ k object found. subst (λ facts. Agrees facts object) (sym (same k)) (shows.each k object found);
    logs = λ k log found. subst (λ facts. Holds chunk log facts.sent) (sym (same k)) (shows.logs k log found);
    cursors = λ k source key reads.
        let own = shows.cursors k source key reads in
        (own.0, own.1, own.2 ∙ ap (λ facts. Some (place_by facts)) (sym (same k)));
    owners = shows.owners;
    distinct = shows.distinct;
  }

  -- a message more is sent
  pub shows_pushed : (chunk n : ℕ) (f g : ℕ → Facts M) (objects : List (Object M (Log M))) (name : ℕ) (message : M)
      → Shows chunk n f objects → HasLog objects name
      → g name ≡ record (f name) { sent = (f name).sent ++ message ∷ [] } → ((k : ℕ) → k ≢ name → g k ≡ f k)
      → Shows chunk n g (on_log (pushed chunk message) objects name)
  shows_pushed chunk n f g objects name message shows stands more others =
      let change : Log M → Log M = pushed chunk message in
      let reads : (k : ℕ) → cursor_at (on_log change objects name) k ≡ cursor_at objects k = cursor_at-on_log change objects name in
      let places : (k : ℕ) → place_by (g k) ≡ place_by (f k) = told (λ x. place_by x) f g name (ap (λ x. place_by x) more) others in
      shows_changed chunk n n f g objects (on_log change objects name) name (change stands.log) shows
      (record {
        stands = log_at-on_log_same change objects name stands.log stands.found;
        holds = subst (λ s. Holds chunk (change stands.log) s) (sym (ap (λ x. x.sent) more))
            (Holds-push chunk stands.log (change stands.log) (f name).sent message (shows.logs name stands.log stands.found) refl);
        others = log_at-on_log_other change objects name;
        other_sent = λ k log other found. ap (λ x. x.sent) (others k other);
        placed = λ k key own.
            cursor_place chunk n f objects k name key stands.log shows (sym (reads k) ∙ own) stands.found
            ∙ ap (λ p. Some p) (sym (places k));
        other_placed = λ k from key other own. (sym (reads k) ∙ own, places k);
        owned = λ key at placed.
            let own = shows.owners name stands.log key at stands.found placed in
            (own.0, reads own.0 ∙ own.1);
        other_owned = λ k from key other own. reads k ∙ own;
        apart = same_apart chunk n f objects (on_log change objects name) shows reads;
      })
      (length-on_log change objects name ∙ shows.all)
      (Agrees-on_log g change objects name
      (Agrees_told f g name objects
      (λ object found agrees. subst (λ facts. Agrees facts object) (sym more)
      (Agrees-sent (f name) ((f name).sent ++ message ∷ []) object agrees))
      others shows.each))

  -- a message is received
  pub shows_advanced : (chunk n : ℕ) (f g : ℕ → Facts M) (objects : List (Object M (Log M))) (name source key : ℕ) (message : M)
      → Shows chunk n f objects → cursor_at objects name ≡ Some (source, key) → HasOwed objects source key
      → g name ≡ record (f name) { got = (f name).got ++ message ∷ [] } → ((k : ℕ) → k ≢ name → g k ≡ f k)
      → Shows chunk n g (on_log (advanced chunk key) objects source)
  shows_advanced chunk n f g objects name source key message shows reader owes more others =
      let log : Log M = owes.cursor.stands.log in
      let found : log_at objects source ≡ Some log = owes.cursor.stands.found in
      let change : Log M → Log M = advanced chunk key in
      let reads : (k : ℕ) → cursor_at (on_log change objects source) k ≡ cursor_at objects k = cursor_at-on_log change objects source in
      let sends : (k : ℕ) → (g k).sent ≡ (f k).sent = told (λ x. x.sent) f g name (ap (λ x. x.sent) more) others in
      let placed : (k own : ℕ) → cursor_at objects k ≡ Some (source, own) → place_at (change log) own ≡ Some (place_by (g k)) =
      advanced_place chunk n f g objects name source key message log shows reader found more others in
      shows_changed chunk n n f g objects (on_log change objects source) source (change log) shows
      (record {
        stands = log_at-on_log_same change objects source log found;
        holds = subst (λ s. Holds chunk (change log) s) (sym (sends source))
            (Holds-advance chunk log (change log) (f source).sent key (shows.logs source log found) owes.cursor.opened owes.owed refl);
        others = log_at-on_log_other change objects source;
        other_sent = λ k log other at. sends k;
        placed = λ k own at. placed k own (sym (reads k) ∙ at);
        other_placed = λ k from own other at.
            let before : cursor_at objects k ≡ Some (from, own) = sym (reads k) ∙ at in (
              before,
              ap (λ x. place_by x) (others k (λ is. other (same_source objects name from source own key
                  (subst (λ j. cursor_at objects j ≡ Some (from, own)) is before) reader))),
            );
        owned = λ own at stands. elim (cases_eq own key) [
          | inl same ↦ (name, reads name ∙ reader ∙ ap (λ (j : ℕ). Some (source, j)) (sym same))
          | inr differs ↦
              let before : place_at log own ≡ Some at =
              sym (place_at-with_place_other log key own (Some (place_of log key + 1)) differs) ∙ stands in
              let owner = shows.owners source log own at found before in
              (owner.0, reads owner.0 ∙ owner.1)
        ];
        other_owned = λ k from own other at. reads k ∙ at;
        apart = same_apart chunk n f objects (on_log change objects source) shows reads;
      })
      (length-on_log change objects source ∙ shows.all)
      (Agrees-on_log g change objects source
      (Agrees_told f g name objects
      (λ object at agrees. subst (λ facts. Agrees facts object) (sym more)
      (Agrees-got (f name) ((f name).got ++ message ∷ []) name source key object
      (sym (ap (option_and_then (cursor_in name)) at) ∙ reader) agrees))
      others shows.each))

  -- a mailbox is made
  pub shows_mailbox : (chunk n : ℕ) (f g : ℕ → Facts M) (objects : List (Object M (Log M))) (log : Log M) (key : ℕ)
      → Shows chunk n f objects → Opens empty_log log key 0
      → g n ≡ new_facts mailbox None → ((k : ℕ) → k ≢ n → g k ≡ f k)
      → Shows chunk (n + 1) g (objects ++ Mailbox log key ∷ [])
  shows_mailbox chunk n f g objects log key shows opens told same =
      let after : List (Object M (Log M)) = objects ++ Mailbox log key ∷ [] in
      let past : (k : ℕ) → k ≢ n → k ≢ length objects = λ k other here. other (here ∙ shows.all) in
      let joins : Joins chunk n f g objects after n key log = record {
        stands = subst (λ j. log_at after j ≡ Some log) shows.all (log_at-pushed objects (Mailbox log key));
        holds = subst (λ s. Holds chunk log s) (sym (ap (λ x. x.sent) told))
            (Holds-open_cursor chunk empty_log log [] key (Holds-empty chunk) opens);
        others = λ k other. log_at-pushed_other objects (Mailbox log key) k (past k other);
        reads = subst (λ j. cursor_at after j ≡ Some (j, key)) shows.all (cursor_at-pushed objects (Mailbox log key));
        other_reads = λ k other. cursor_at-pushed_other objects (Mailbox log key) k (past k other);
        fresh = λ k. no_reader chunk n f objects k key shows;
        placed = opens.opened ∙ ap (λ x. Some (place_by x)) (sym told);
        other_placed = λ k own other at. absurd (no_reader chunk n f objects k own shows at);
        other_owned = λ own at other stands. absurd (none-some at (sym (opens.others own other) ∙ stands));
        same = same;
      } in
      shows_changed chunk n (n + 1) f g objects after n log shows (Joins-changes chunk n f g objects after n key log shows joins)
      (length_push objects (Mailbox log key) ∙ ap (λ k. k + 1) shows.all)
      (Agrees_pushed n f g objects (Mailbox log key) shows.all (ap (λ x. x.origin) told, ap (λ x. x.opened) told) same shows.each)

  -- a channel is made
  pub shows_channel : (chunk n : ℕ) (f g : ℕ → Facts M) (objects : List (Object M (Log M))) → Shows chunk n f objects
      → g n ≡ new_facts channel None → ((k : ℕ) → k ≢ n → g k ≡ f k)
      → Shows chunk (n + 1) g (objects ++ Channel empty_log ∷ [])
  shows_channel chunk n f g objects shows told same =
      let after : List (Object M (Log M)) = objects ++ Channel empty_log ∷ [] in
      let past : (k : ℕ) → k ≢ n → k ≢ length objects = λ k other here. other (here ∙ shows.all) in
      let none : cursor_at after n ≡ None =
      subst (λ j. cursor_at after j ≡ None) shows.all (cursor_at-pushed objects (Channel empty_log)) in
      let reads : (k : ℕ) → cursor_at after k ≡ cursor_at objects k = λ k. elim (cases_eq k n) [
        | inl here ↦ ap (cursor_at after) here ∙ none ∙ sym (ap (cursor_at objects) here ∙ no_cursor chunk n f objects shows)
        | inr other ↦ cursor_at-pushed_other objects (Channel empty_log) k (past k other)
      ] in
      shows_changed chunk n (n + 1) f g objects after n empty_log shows
      (record {
        stands = subst (λ j. log_at after j ≡ Some empty_log) shows.all (log_at-pushed objects (Channel empty_log));
        holds = subst (λ s. Holds chunk empty_log s) (sym (ap (λ x. x.sent) told)) (Holds-empty chunk);
        others = λ k other. log_at-pushed_other objects (Channel empty_log) k (past k other);
        other_sent = λ k log other found. ap (λ x. x.sent) (same k other);
        placed = λ k key at. absurd (no_reader chunk n f objects k key shows (sym (reads k) ∙ at));
        other_placed = λ k from key other at.
            let before : cursor_at objects k ≡ Some (from, key) = sym (reads k) ∙ at in
            let old : k ≢ n =
            λ here. none-some (from, key) (sym (no_cursor chunk n f objects shows) ∙ ap (cursor_at objects) (sym here) ∙ before) in
            (before, ap (λ x. place_by x) (same k old));
        owned = λ key at stands. absurd (none-some at stands);
        other_owned = λ k from key other at. reads k ∙ at;
        apart = same_apart chunk n f objects after shows reads;
      })
      (length_push objects (Channel empty_log) ∙ ap (λ k. k + 1) shows.all)
      (Agrees_pushed n f g objects (Channel empty_log) shows.all (ap (λ x. x.origin) told) same shows.each)

  -- a port is made, whose cursor was opened in a log
  pub shows_port : (chunk n : ℕ) (f g : ℕ → Facts M) (objects after : List (Object M (Log M))) (source key start : ℕ) (from : Log M → ℕ)
      → Shows chunk n f objects → (opens : OpensAt objects after source key from) → start ≡ from opens.stands.log
      → Holds chunk opens.log (f source).sent
      → g n ≡ new_facts (port source start) None → ((k : ℕ) → k ≢ n → g k ≡ f k)
      → Shows chunk (n + 1) g (after ++ Port (record { channel = record { 0 = source }; start = start; reading = Open key }) ∷ [])
  shows_port chunk n f g objects after source key start from shows opens starts holds told same =
      let made : Object M (Log M) = Port (record { channel = record { 0 = source }; start = start; reading = Open key }) in
      let old : Log M = opens.stands.log in
      let change : Log M → Log M = λ _. opens.log in
      let changed : List (Object M (Log M)) = on_log change objects source in
      let last : List (Object M (Log M)) = changed ++ made ∷ [] in
      let all : length changed ≡ n = length-on_log change objects source ∙ shows.all in
      let past : (k : ℕ) → k ≢ n → k ≢ length changed = λ k other here. other (here ∙ all) in
      let earlier : source ≢ n =
      λ here. none-some old (sym (no_log chunk n f objects shows) ∙ ap (log_at objects) (sym here) ∙ opens.stands.found) in
      let joins : Joins chunk n f g objects last source key opens.log = record {
        stands = log_at-pushed_other changed made source (past source earlier)
            ∙ log_at-on_log_same change objects source old opens.stands.found;
        holds = subst (λ s. Holds chunk opens.log s) (sym (ap (λ x. x.sent) (same source earlier))) holds;
        others = λ k other. elim (cases_eq k n) [
          | inl here ↦
              let none : log_at last n ≡ None = subst (λ j. log_at last j ≡ None) all (log_at-pushed changed made) in
              ap (log_at last) here ∙ none ∙ sym (ap (log_at objects) here ∙ no_log chunk n f objects shows)
          | inr old ↦ log_at-pushed_other changed made k (past k old) ∙ log_at-on_log_other change objects source k other
        ];
        reads = subst (λ j. cursor_at last j ≡ Some (source, key)) all (cursor_at-pushed changed made);
        other_reads = λ k other. cursor_at-pushed_other changed made k (past k other) ∙ cursor_at-on_log change objects source k;
        fresh = λ k reads. none-some _ (sym opens.opens.vacant
            ∙ cursor_place chunk n f objects k source key old shows reads opens.stands.found);
        placed = opens.opens.opened ∙ ap (λ p. Some p) (sym starts ∙ from_start start ∙ sym (ap (λ x. place_by x) told));
        other_placed = λ k own other reads. opens.opens.others own other
            ∙ cursor_place chunk n f objects k source own old shows reads opens.stands.found;
        other_owned =
            λ own at other stands. shows.owners source old own at opens.stands.found (sym (opens.opens.others own other) ∙ stands);
        same = same;
      } in
      subst (λ a. Shows chunk (n + 1) g (a ++ made ∷ [])) (sym opens.changed)
      (shows_changed chunk n (n + 1) f g objects last source opens.log shows
      (Joins-changes chunk n f g objects last source key opens.log shows joins)
      (length_push changed made ∙ ap (λ k. k + 1) all)
      (Agrees_pushed n f g changed made all (ap (λ x. x.origin) told, ap (λ x. x.opened) told) same
      (Agrees-on_log f change objects source shows.each)))
    where
      from_start : (start : ℕ) → start ≡ start + 0
      from_start start = omega arith

  -- a port is closed
  pub shows_closed : (chunk n : ℕ) (f g : ℕ → Facts M) (objects : List (Object M (Log M))) (name source start key received : ℕ)
      → Shows chunk n f objects
      → slice_get objects name ≡ Some (Port (record { channel = record { 0 = source }; start = start; reading = Open key }))
      → received ≡ length (f name).got
      → g name ≡ record (f name) { opened = false } → ((k : ℕ) → k ≢ name → g k ≡ f k)
      → Shows chunk n g (slice_set (on_log (shut chunk key) objects source) name
      (Port (record { channel = record { 0 = source }; start = start; reading = Closed received })))
  shows_closed chunk n f g objects name source start key received shows found counts told_here same =
      let was : Object M (Log M) = Port (record { channel = record { 0 = source }; start = start; reading = Open key }) in
      let closed : Object M (Log M) = Port (record { channel = record { 0 = source }; start = start; reading = Closed received }) in
      let change : Log M → Log M = shut chunk key in
      let changed : List (Object M (Log M)) = on_log change objects source in
      let read : cursor_at objects name ≡ Some (source, key) = ap (option_and_then (cursor_in name)) found in
      let no_log_here : log_at objects name ≡ None = ap (option_and_then log_in) found in
      let own = shows.cursors name source key read in
      let other : name ≢ source = λ here. none-some own.0 (sym no_log_here ∙ ap (log_at objects) here ∙ own.1) in
      let there : slice_get changed name ≡ Some was = get-on_log_other change objects source name other ∙ found in
      let leaves : Leaves chunk f g objects (slice_set changed name closed) name source key own.0 = record {
        found = own.1;
        stands = log_at-set_other changed name source closed (λ here. other (sym here))
            ∙ log_at-on_log_same change objects source own.0 own.1;
        others = λ k differs. elim (cases_eq k name) [
          | inl here ↦
              ap (log_at (slice_set changed name closed)) here ∙ log_at-set_same changed name was closed there
              ∙ sym (ap (log_at objects) here ∙ no_log_here)
          | inr apart ↦ log_at-set_other changed name k closed apart ∙ log_at-on_log_other change objects source k differs
        ];
        read = read;
        reads = cursor_at-set_same changed name was closed there;
        other_reads = λ k differs. cursor_at-set_other changed name k closed differs ∙ cursor_at-on_log change objects source k;
        sends = told (λ x. x.sent) f g name (ap (λ x. x.sent) told_here) same;
        places = told (λ x. place_by x) f g name (ap (λ x. place_by x) told_here) same;
      } in
      shows_changed chunk n n f g objects (slice_set changed name closed) source (change own.0) shows
      (Leaves-changes chunk n f g objects (slice_set changed name closed) name source key own.0 shows leaves)
      (length-set changed name closed ∙ length-on_log change objects source ∙ shows.all)
      (λ k object at. elim (cases_eq k name) [
        | inl here ↦
            let is : closed ≡ object = same_Some closed object (sym (slice_get-set_same changed name was closed there)
            ∙ ap (slice_get (slice_set changed name closed)) (sym here) ∙ at) in
            let begun : (g name).origin ≡ Some (port source start) = ap (λ x. x.origin) told_here ∙ (shows.each name was found).0 in
            let agrees : Agrees (g name) closed =
            (begun, (ap (λ x. x.opened) told_here, counts ∙ ap (λ x. length x.got) (sym told_here))) in
            subst (λ j. Agrees (g j) object) (sym here) (subst (Agrees (g name)) is agrees)
        | inr differs ↦
            subst (λ facts. Agrees facts object) (sym (same k differs))
            (Agrees-on_log f change objects source shows.each k object (sym (slice_get-set_other changed name k closed differs) ∙ at))
      ])
