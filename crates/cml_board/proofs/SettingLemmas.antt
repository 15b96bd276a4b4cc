-- The objects that a call on a variable leaves show the history with its entry.
use Rattle.std.proofs.Common.{◌≡◌, ◌≢◌, inl, inr, ℕ, ◌+◌, List, [], ◌∷◌, ◌++◌, length, slice_get, slice_set, Option}
use Rattle.std.proofs.Common.{Some, None, sym, ap, subst, ◌∙◌}
use Rattle.std.specs.Option.{option_and_then}
use Rattle.std.proofs.lemmas.Bool.{cases_eq}
use Rattle.std.proofs.lemmas.List.{length_push, length-set}
use Rattle.std.proofs.lemmas.Option.{none-some, same_Some}
use Rattle.cml_log.specs.Log.{Log}
use Rattle.cml_log.specs.Holds.{Holds}
use Rattle.cml_board.specs.{Name, Call, Who, Reply, Entry, Form, Object, variable_call, Lawful, made, left_by, facts_of, new_facts}
use Rattle.cml_board.specs.{place_by, log_in, cursor_in, log_at, cursor_at, SetsHeld, Agrees, begun_as}
use Rattle.cml_board.specs.Facts.{Facts}
use Rattle.cml_board.specs.declared.call.Call.TheVariants.{MVarInit}
use Rattle.cml_board.specs.declared.entry.Reply.TheVariants.{Made}
use Rattle.cml_board.specs.declared.object.Form.TheVariants.{Mutable}
use Rattle.cml_board.specs.declared.object.Object.TheVariants.{Variable}
use Rattle.cml_board.specs.Keeps.{Shows}
use Rattle.cml_board.proofs.ListLemmas.{slice_get-set_same, slice_get-set_other}
use Rattle.cml_board.proofs.LogsLemmas.{log_at-set_other, log_at-set_same, cursor_at-set_other, cursor_at-set_same, log_at-pushed}
use Rattle.cml_board.proofs.LogsLemmas.{log_at-pushed_other, cursor_at-pushed, cursor_at-pushed_other}
use Rattle.cml_board.proofs.AgreeingLemmas.{told, Agrees_pushed}
use Rattle.cml_board.proofs.ChangingLemmas.{same_apart, no_log, no_cursor}
use Rattle.cml_board.proofs.ShowingLemmas.{shows_same}
use Rattle.cml_board.proofs.TellingLemmas.{noted, Makes, makes_here, makes_other, makes_more}
use Rattle.cml_board.proofs.BeginningLemmas.{variable_makes, full_makes}
use Rattle.cml_board.proofs.LeavingLemmas.{Spares, Sets, spared_made, spared_same, set_here, set_other}
use Rattle.cml_board.proofs.SteppingLemmas.{ShowsAll, shows_count}

module _ {M : Type 0} where
  -- the logs and the cursors are as they were
  record Still (f g : ℕ → Facts M) (objects after : List (Object M (Log M))) : Type 0 where
    pub logs : (k : ℕ) → log_at after k ≡ log_at objects k
    pub reads : (k : ℕ) → cursor_at after k ≡ cursor_at objects k
    pub sends : (k : ℕ) (log : Log M) → log_at objects k ≡ Some log → (g k).sent ≡ (f k).sent
    pub places : (k source key : ℕ) → cursor_at objects k ≡ Some (source, key) → place_by (g k) ≡ place_by (f k)

  -- it is enough, where the objects agree with those facts
  shows_still : (chunk n m : ℕ) (f g : ℕ → Facts M) (objects after : List (Object M (Log M))) → Shows chunk n f objects
      → Still f g objects after → length after ≡ m
      → ((k : ℕ) (object : Object M (Log M)) → slice_get after k ≡ Some object → Agrees (g k) object) → Shows chunk m g after
  shows_still chunk n m f g objects after shows still all each = record {
    all = all;
    each = each;
    logs = λ k log found.
        let before : log_at objects k ≡ Some log = sym (still.logs k) ∙ found in
        subst (λ s. Holds chunk log s) (sym (still.sends k log before)) (shows.logs k log before);
    cursors = λ k source key at.
        let before : cursor_at objects k ≡ Some (source, key) = sym (still.reads k) ∙ at in
        let own = shows.cursors k source key before in
        (own.0, still.logs source ∙ own.1, own.2 ∙ ap (λ p. Some p) (sym (still.places k source key before)));
    owners = λ source log key at found stands.
        let own = shows.owners source log key at (sym (still.logs source) ∙ found) stands in
        (own.0, still.reads own.0 ∙ own.1);
    distinct = same_apart chunk n f objects after shows still.reads;
  }

  -- a variable is given another value
  shows_set : (chunk n : ℕ) (f g : ℕ → Facts M) (objects after : List (Object M (Log M))) (name : ℕ) (was value : Option M)
      → Shows chunk n f objects
      → SetsHeld objects after name was value → g name ≡ record (f name) { held = value }
      → ((k : ℕ) → k ≢ name → g k ≡ f k) → Shows chunk n g after
  shows_set chunk n f g objects after name was value shows sets here others =
      let old : Object M (Log M) = Variable sets.form was in
      let new : Object M (Log M) = Variable sets.form value in
      let changed : List (Object M (Log M)) = slice_set objects name new in
      subst (λ a. Shows chunk n g a) (sym sets.changed)
      (shows_still chunk n n f g objects changed shows
      (record {
        logs = λ k. elim (cases_eq k name) [
          | inl same ↦
              ap (log_at changed) same ∙ log_at-set_same objects name old new sets.found
              ∙ sym (ap (log_at objects) same ∙ ap (option_and_then log_in) sets.found)
          | inr other ↦ log_at-set_other objects name k new other
        ];
        reads = λ k. elim (cases_eq k name) [
          | inl same ↦
              ap (cursor_at changed) same ∙ cursor_at-set_same objects name old new sets.found
              ∙ sym (ap (cursor_at objects) same ∙ ap (option_and_then (cursor_in name)) sets.found)
          | inr other ↦ cursor_at-set_other objects name k new other
        ];
        sends = λ k log found. told (λ x. x.sent) f g name (ap (λ x. x.sent) here) others k;
        places = λ k source key at. told (λ x. place_by x) f g name (ap (λ x. place_by x) here) others k;
      })
      (length-set objects name new ∙ shows.all)
      (λ k object at. elim (cases_eq k name) [
        | inl same ↦
            let is : new ≡ object =
            same_Some new object (sym (slice_get-set_same objects name old new sets.found) ∙ ap (slice_get changed) (sym same) ∙ at) in
            let begun : (g name).origin ≡ Some (begun_as sets.form) = ap (λ x. x.origin) here ∙ (shows.each name old sets.found).0 in
            let agrees : Agrees (g name) new = (begun, ap (λ x. x.held) here) in
            subst (λ j. Agrees (g j) object) (sym same) (subst (Agrees (g name)) is agrees)
        | inr other ↦
            subst (λ facts. Agrees facts object) (sym (others k other))
            (shows.each k object (sym (slice_get-set_other objects name k new other) ∙ at))
      ]))

  -- a variable is made
  shows_variable : (chunk n : ℕ) (f g : ℕ → Facts M) (objects : List (Object M (Log M))) (form : Form) (value : Option M)
      → Shows chunk n f objects
      → g n ≡ new_facts (begun_as form) value → ((k : ℕ) → k ≢ n → g k ≡ f k) → Shows chunk (n + 1) g (objects ++ Variable form value ∷ [])
  shows_variable chunk n f g objects form value shows told same =
      let made : Object M (Log M) = Variable form value in
      let after : List (Object M (Log M)) = objects ++ made ∷ [] in
      let past : (k : ℕ) → k ≢ n → k ≢ length objects = λ k other here. other (here ∙ shows.all) in
      shows_still chunk n (n + 1) f g objects after shows
      (record {
        logs = λ k. elim (cases_eq k n) [
          | inl here ↦
              let none : log_at after n ≡ None = subst (λ j. log_at after j ≡ None) shows.all (log_at-pushed objects made) in
              ap (log_at after) here ∙ none ∙ sym (ap (log_at objects) here ∙ no_log chunk n f objects shows)
          | inr other ↦ log_at-pushed_other objects made k (past k other)
        ];
        reads = λ k. elim (cases_eq k n) [
          | inl here ↦
              let none : cursor_at after n ≡ None = subst (λ j. cursor_at after j ≡ None) shows.all (cursor_at-pushed objects made) in
              ap (cursor_at after) here ∙ none ∙ sym (ap (cursor_at objects) here ∙ no_cursor chunk n f objects shows)
          | inr other ↦ cursor_at-pushed_other objects made k (past k other)
        ];
        sends = λ k log found.
            ap (λ x. x.sent)
            (same k (λ here. none-some log (sym (no_log chunk n f objects shows) ∙ ap (log_at objects) (sym here) ∙ found)));
        places = λ k source key at.
            ap (λ x. place_by x)
            (same k (λ here. none-some (source, key) (sym (no_cursor chunk n f objects shows) ∙ ap (cursor_at objects) (sym here) ∙ at)));
      })
      (length_push objects made ∙ ap (λ k. k + 1) shows.all)
      (Agrees_pushed n f g objects made shows.all (ap (λ x. x.origin) told, ap (λ x. x.held) told) same shows.each)

  -- a variable was filled, emptied or swapped
  pub step_set : (chunk : ℕ) (who : Who) (asked : Call M) (reply : Reply M) (name : Name) (was value : Option M) (h : List (Entry M))
      (objects after : List (Object M (Log M)))
      → Sets asked reply name value → ShowsAll chunk h objects → SetsHeld objects after name.0 was value
      → ShowsAll chunk (noted who asked reply ∷ h) after
  step_set chunk who asked reply name was value h objects after tells shows sets =
      let later : List (Entry M) = noted who asked reply ∷ h in
      shows_count chunk (length (made h)) (length (made later)) (facts_of later) after (spared_made h who asked reply tells.spares)
      (shows_set chunk (length (made h)) (facts_of h) (facts_of later) objects after name.0 was value shows sets
      (set_here h who asked reply name value tells) (λ k. set_other h who asked reply name value k tells))

  -- a call changed nothing
  pub step_spared : (chunk : ℕ) (who : Who) (asked : Call M) (reply : Reply M) (h : List (Entry M)) (objects : List (Object M (Log M)))
      → Spares asked reply → ((k : ℕ) → left_by asked reply k ≡ None) → ShowsAll chunk h objects
      → ShowsAll chunk (noted who asked reply ∷ h) objects
  step_spared chunk who asked reply h objects spares leaves shows =
      let later : List (Entry M) = noted who asked reply ∷ h in
      shows_count chunk (length (made h)) (length (made later)) (facts_of later) objects (spared_made h who asked reply spares)
      (shows_same chunk (length (made h)) (facts_of h) (facts_of later) objects shows
      (λ k. spared_same h who asked reply k spares (leaves k)))

  step_made : (chunk : ℕ) (who : Who) (asked : Call M) (n : Name) (form : Form) (value : Option M) (h : List (Entry M))
      (objects : List (Object M (Log M)))
      → Makes h asked n (begun_as form) value → Lawful h → ShowsAll chunk h objects
      → ShowsAll chunk (noted who asked (Made n) ∷ h) (objects ++ Variable form value ∷ [])
  step_made chunk who asked n form value h objects makes lawful shows =
      let later : List (Entry M) = noted who asked (Made n) ∷ h in
      shows_count chunk (length (made h) + 1) (length (made later)) (facts_of later) (objects ++ Variable form value ∷ [])
      (makes_more h who asked n (begun_as form) value makes)
      (shows_variable chunk (length (made h)) (facts_of h) (facts_of later) objects form value shows
      (makes_here h who asked n (begun_as form) value lawful makes) (λ k. makes_other h who asked n (begun_as form) value k makes))

  -- an empty variable was made
  pub step_variable : (chunk : ℕ) (who : Who) (form : Form) (n : Name) (h : List (Entry M)) (objects : List (Object M (Log M)))
      → Lawful h → ShowsAll chunk h objects
      → ShowsAll chunk (noted who (variable_call form) (Made n) ∷ h) (objects ++ Variable form None ∷ [])
  step_variable chunk who form n h objects lawful shows =
      step_made chunk who (variable_call form) n form None h objects (variable_makes h form n) lawful shows

  -- an m-variable was made that holds something
  pub step_full : (chunk : ℕ) (who : Who) (message : M) (n : Name) (h : List (Entry M)) (objects : List (Object M (Log M)))
      → n.0 ≡ length objects
      → Lawful h → ShowsAll chunk h objects
      → ShowsAll chunk (noted who (MVarInit message) (Made n) ∷ h) (objects ++ Variable Mutable (Some message) ∷ [])
  step_full chunk who message n h objects next lawful shows =
      step_made chunk who (MVarInit message) n Mutable (Some message) h objects (full_makes h message n (next ∙ shows.all)) lawful shows
