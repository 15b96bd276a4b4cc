-- When a changed log, and the cursors in it, still show the facts.
use Rattle.std.proofs.Common.{◌≡◌, ◌≢◌, inl, inr, ℕ, ◌+◌, List, [], ◌∷◌, ◌++◌, length, slice_get, Some, None, refl}
use Rattle.std.proofs.Common.{sym, ap, subst, ◌∙◌, arith}
use Rattle.std.proofs.lemmas.Bool.{cases_eq}
use Rattle.std.proofs.lemmas.List.{length_push}
use Rattle.std.proofs.lemmas.Option.{none-some, same_Some}
use Rattle.cml_log.specs.Log.{Log}
use Rattle.cml_log.specs.{IsOpen, place_at, place_of}
use Rattle.cml_log.specs.Holds.{Holds}
use Rattle.cml_log.proofs.LogLemmas.{place_of-at, IsOpen-at, place_at-with_place_same, place_at-with_place_other}
use Rattle.cml_log.proofs.HoldsLemmas.{Holds-close}
use Rattle.cml_board.specs.{Object, place_by, log_at, cursor_at, advanced, shut, Agrees}
use Rattle.cml_board.specs.Facts.{Facts}
use Rattle.cml_board.specs.Keeps.{Shows}
use Rattle.cml_board.proofs.LogsLemmas.{same_source, same_key, log_at_past, cursor_at_past}

module _ {M : Type 0} where
  -- a cursor's place in its log is the one that the facts give
  pub cursor_place : (chunk n : ℕ) (f : ℕ → Facts M) (objects : List (Object M (Log M))) (name source key : ℕ) (log : Log M)
      → Shows chunk n f objects → cursor_at objects name ≡ Some (source, key) → log_at objects source ≡ Some log
      → place_at log key ≡ Some (place_by (f name))
  cursor_place chunk n f objects name source key log shows reads found =
      let own = shows.cursors name source key reads in
      let is : own.0 ≡ log = same_Some own.0 log (sym own.1 ∙ found) in
      subst (λ l. place_at l key ≡ Some (place_by (f name))) is own.2

  -- what is to hold of a changed log, of the cursors in it and of all others, so that the objects show the new facts
  pub record Changes (chunk : ℕ) (f g : ℕ → Facts M) (objects after : List (Object M (Log M))) (source : ℕ) (new : Log M) : Type 0 where
    pub stands : log_at after source ≡ Some new
    pub holds : Holds chunk new (g source).sent
    pub others : (k : ℕ) → k ≢ source → log_at after k ≡ log_at objects k
    pub other_sent : (k : ℕ) (log : Log M) → k ≢ source → log_at after k ≡ Some log → (g k).sent ≡ (f k).sent
    pub placed : (k key : ℕ) → cursor_at after k ≡ Some (source, key) → place_at new key ≡ Some (place_by (g k))
    pub other_placed : (k other key : ℕ) → other ≢ source → cursor_at after k ≡ Some (other, key)
        → (cursor_at objects k ≡ Some (other, key)) × (place_by (g k) ≡ place_by (f k))
    pub owned : (key at : ℕ) → place_at new key ≡ Some at → (k : ℕ) × (cursor_at after k ≡ Some (source, key))
    pub other_owned : (k other key : ℕ) → other ≢ source → cursor_at objects k ≡ Some (other, key) → cursor_at after k ≡ Some (other, key)
    pub apart : (name other from key : ℕ) → cursor_at after name ≡ Some (from, key)
        → cursor_at after other ≡ Some (from, key) → name ≡ other

  -- it is enough, where the objects agree with those facts
  pub shows_changed : (chunk n m : ℕ) (f g : ℕ → Facts M) (objects after : List (Object M (Log M))) (source : ℕ) (new : Log M)
      → Shows chunk n f objects → Changes chunk f g objects after source new → length after ≡ m
      → ((k : ℕ) (object : Object M (Log M)) → slice_get after k ≡ Some object → Agrees (g k) object) → Shows chunk m g after
  shows_changed chunk n m f g objects after source new shows change all each = record {
    all = all;
    each = each;
    logs = λ k log found. elim (cases_eq k source) [
      | inl same ↦
          let is : new ≡ log = same_Some new log (sym change.stands ∙ ap (log_at after) (sym same) ∙ found) in
          subst (λ j. Holds chunk log (g j).sent) (sym same) (subst (λ l. Holds chunk l (g source).sent) is change.holds)
      | inr other ↦
          subst (λ s. Holds chunk log s) (sym (change.other_sent k log other found))
          (shows.logs k log (sym (change.others k other) ∙ found))
    ];
    cursors = λ k from key reads. elim (cases_eq from source) [
      | inl same ↦
          let own : cursor_at after k ≡ Some (source, key) = subst (λ s. cursor_at after k ≡ Some (s, key)) same reads in
          (new, ap (log_at after) same ∙ change.stands, change.placed k key own)
      | inr other ↦
          let before = change.other_placed k from key other reads in
          let own = shows.cursors k from key before.0 in
          (own.0, change.others from other ∙ own.1, own.2 ∙ ap (λ p. Some p) (sym before.1))
    ];
    owners = λ from log key at found stands. elim (cases_eq from source) [
      | inl same ↦
          let is : new ≡ log = same_Some new log (sym change.stands ∙ ap (log_at after) (sym same) ∙ found) in
          let own = change.owned key at (subst (λ l. place_at l key ≡ Some at) (sym is) stands) in
          (own.0, subst (λ s. cursor_at after own.0 ≡ Some (s, key)) (sym same) own.1)
      | inr other ↦
          let own = shows.owners from log key at (sym (change.others from other) ∙ found) stands in
          (own.0, change.other_owned own.0 from key other own.1)
    ];
    distinct = change.apart;
  }

  -- where each object reads as before, no two read by one cursor
  pub same_apart : (chunk n : ℕ) (f : ℕ → Facts M) (objects after : List (Object M (Log M))) → Shows chunk n f objects
      → ((k : ℕ) → cursor_at after k ≡ cursor_at objects k)
      → (name other from key : ℕ) → cursor_at after name ≡ Some (from, key) → cursor_at after other ≡ Some (from, key) → name ≡ other
  same_apart chunk n f objects after shows same name other from key one two =
      shows.distinct name other from key (sym (same name) ∙ one) (sym (same other) ∙ two)

  -- a cursor's move: its place is one more, and each other's stays
  pub advanced_place : (chunk n : ℕ) (f g : ℕ → Facts M) (objects : List (Object M (Log M)))
      (name source key : ℕ) (message : M) (log : Log M)
      → Shows chunk n f objects → cursor_at objects name ≡ Some (source, key) → log_at objects source ≡ Some log
      → g name ≡ record (f name) { got = (f name).got ++ message ∷ [] } → ((k : ℕ) → k ≢ name → g k ≡ f k)
      → (k own : ℕ) → cursor_at objects k ≡ Some (source, own) → place_at (advanced chunk key log) own ≡ Some (place_by (g k))
  advanced_place chunk n f g objects name source key message log shows reads found more others k own at =
      let stood = cursor_place chunk n f objects name source key log shows reads found in
      elim (cases_eq own key) [
        | inl same ↦
            let it : cursor_at objects k ≡ Some (source, key) = at ∙ ap (λ (j : ℕ). Some (source, j)) same in
            let is : k ≡ name = shows.distinct k name source key it reads in
            let next : place_of log key + 1 ≡ place_by (g name) =
            ap (λ p. p + 1) (place_of-at log key (place_by (f name)) stood)
            ∙ sym (ap (λ x. place_by x) more ∙ one_more (f name) message) in
            subst (λ j. place_at (advanced chunk key log) j ≡ Some (place_by (g k))) (sym same)
            (subst (λ j. place_at (advanced chunk key log) key ≡ Some (place_by (g j))) (sym is)
            (place_at-with_place_same log key (Some (place_of log key + 1)) (IsOpen-at log key (place_by (f name)) stood)
            ∙ ap (λ p. Some p) next))
        | inr differs ↦
            let other : k ≢ name = λ is.
            differs (same_key objects name source source own key (subst (λ j. cursor_at objects j ≡ Some (source, own)) is at) reads) in
            place_at-with_place_other log key own (Some (place_of log key + 1)) differs
            ∙ cursor_place chunk n f objects k source own log shows at found ∙ ap (λ x. Some (place_by x)) (sym (others k other))
      ]
    where
      one_more : (facts : Facts M) (message : M) → place_by (record facts { got = facts.got ++ message ∷ [] }) ≡ place_by facts + 1
      one_more facts message = omega (arith, length_push facts.got message)

  -- there is no log under the next object's name
  pub no_log : (chunk n : ℕ) (f : ℕ → Facts M) (objects : List (Object M (Log M))) → Shows chunk n f objects → log_at objects n ≡ None
  no_log chunk n f objects shows = subst (λ k. log_at objects k ≡ None) shows.all (log_at_past objects)

  -- it has no cursor
  pub no_cursor : (chunk n : ℕ) (f : ℕ → Facts M) (objects : List (Object M (Log M))) → Shows chunk n f objects → cursor_at objects n ≡ None
  no_cursor chunk n f objects shows = subst (λ k. cursor_at objects k ≡ None) shows.all (cursor_at_past objects)

  -- and no object reads it
  pub no_reader : (chunk n : ℕ) (f : ℕ → Facts M) (objects : List (Object M (Log M))) (k key : ℕ)
      → Shows chunk n f objects → cursor_at objects k ≢ Some (n, key)
  no_reader chunk n f objects k key shows = λ reads.
      let own = shows.cursors k n key reads in
      none-some own.0 (sym (no_log chunk n f objects shows) ∙ own.1)

  -- the next object reads a log, by a cursor that no other has
  pub record Joins (chunk n : ℕ) (f g : ℕ → Facts M) (objects after : List (Object M (Log M))) (source key : ℕ) (new : Log M) : Type 0 where
    pub stands : log_at after source ≡ Some new
    pub holds : Holds chunk new (g source).sent
    pub others : (k : ℕ) → k ≢ source → log_at after k ≡ log_at objects k
    pub reads : cursor_at after n ≡ Some (source, key)
    pub other_reads : (k : ℕ) → k ≢ n → cursor_at after k ≡ cursor_at objects k
    pub fresh : (k : ℕ) → cursor_at objects k ≢ Some (source, key)
    pub placed : place_at new key ≡ Some (place_by (g n))
    pub other_placed : (k own : ℕ) → own ≢ key → cursor_at objects k ≡ Some (source, own) → place_at new own ≡ Some (place_by (f k))
    pub other_owned : (own at : ℕ) → own ≢ key → place_at new own ≡ Some at → (k : ℕ) × (cursor_at objects k ≡ Some (source, own))
    pub same : (k : ℕ) → k ≢ n → g k ≡ f k

  -- no two objects then read by one cursor
  Joins-apart : (chunk n : ℕ) (f g : ℕ → Facts M) (objects after : List (Object M (Log M))) (source key : ℕ) (new : Log M)
      → Shows chunk n f objects → Joins chunk n f g objects after source key new
      → (name other from own : ℕ) → cursor_at after name ≡ Some (from, own) → cursor_at after other ≡ Some (from, own) → name ≡ other
  Joins-apart chunk n f g objects after source key new shows joins name other from own one two = elim (cases_eq name n) [
    | inl first ↦ elim (cases_eq other n) [
      | inl second ↦ first ∙ sym second
      | inr differs ↦
          let one_new : cursor_at after n ≡ Some (from, own) = subst (λ j. cursor_at after j ≡ Some (from, own)) first one in
          absurd (joins.fresh other (sym (joins.other_reads other differs) ∙ two ∙ sym one_new ∙ joins.reads))
    ]
    | inr old ↦ elim (cases_eq other n) [
      | inl second ↦
          let two_new : cursor_at after n ≡ Some (from, own) = subst (λ j. cursor_at after j ≡ Some (from, own)) second two in
          absurd (joins.fresh name (sym (joins.other_reads name old) ∙ one ∙ sym two_new ∙ joins.reads))
      | inr differs ↦
          shows.distinct name other from own (sym (joins.other_reads name old) ∙ one) (sym (joins.other_reads other differs) ∙ two)
    ]
  ]

  -- so the objects show the new facts
  pub Joins-changes : (chunk n : ℕ) (f g : ℕ → Facts M) (objects after : List (Object M (Log M))) (source key : ℕ) (new : Log M)
      → Shows chunk n f objects → Joins chunk n f g objects after source key new → Changes chunk f g objects after source new
  Joins-changes chunk n f g objects after source key new shows joins = record {
    stands = joins.stands;
    holds = joins.holds;
    others = joins.others;
    other_sent = λ k log other found. elim (cases_eq k n) [
      | inl same ↦
          let none : log_at objects k ≡ None = ap (log_at objects) same ∙ no_log chunk n f objects shows in
          absurd (none-some log (sym none ∙ sym (joins.others k other) ∙ found))
      | inr old ↦ ap (λ x. x.sent) (joins.same k old)
    ];
    placed = λ k own at. elim (cases_eq k n) [
      | inl same ↦
          let it : cursor_at after n ≡ Some (source, own) = subst (λ j. cursor_at after j ≡ Some (source, own)) same at in
          let is : key ≡ own = same_key after n source source key own joins.reads it in
          subst (λ j. place_at new j ≡ Some (place_by (g k))) is (joins.placed ∙ ap (λ j. Some (place_by (g j))) (sym same))
      | inr old ↦
          let before : cursor_at objects k ≡ Some (source, own) = sym (joins.other_reads k old) ∙ at in
          let differs : own ≢ key = λ is. joins.fresh k (before ∙ ap (λ (j : ℕ). Some (source, j)) is) in
          joins.other_placed k own differs before ∙ ap (λ x. Some (place_by x)) (sym (joins.same k old))
    ];
    other_placed = λ k from own other at.
        let old : k ≢ n =
        λ same. other (same_source after n from source own key (subst (λ j. cursor_at after j ≡ Some (from, own)) same at) joins.reads) in
        (sym (joins.other_reads k old) ∙ at, ap (λ x. place_by x) (joins.same k old));
    owned = λ own at stands. elim (cases_eq own key) [
      | inl same ↦ (n, joins.reads ∙ ap (λ (j : ℕ). Some (source, j)) (sym same))
      | inr differs ↦
          let owner = joins.other_owned own at differs stands in (
            owner.0,
            joins.other_reads owner.0 (λ same. none-some (source, own) (sym (no_cursor chunk n f objects shows)
                ∙ subst (λ j. cursor_at objects j ≡ Some (source, own)) same owner.1)) ∙ owner.1,
          )
    ];
    other_owned = λ k from own other at.
        joins.other_reads k (λ same. none-some (from, own) (sym (no_cursor chunk n f objects shows)
        ∙ subst (λ j. cursor_at objects j ≡ Some (from, own)) same at)) ∙ at;
    apart = Joins-apart chunk n f g objects after source key new shows joins;
  }

  -- an object reads its log no more, and the cursor there is closed
  pub record Leaves (chunk : ℕ) (f g : ℕ → Facts M) (objects after : List (Object M (Log M)))
      (name source key : ℕ) (old : Log M) : Type 0 where
    pub found : log_at objects source ≡ Some old
    pub stands : log_at after source ≡ Some (shut chunk key old)
    pub others : (k : ℕ) → k ≢ source → log_at after k ≡ log_at objects k
    pub read : cursor_at objects name ≡ Some (source, key)
    pub reads : cursor_at after name ≡ None
    pub other_reads : (k : ℕ) → k ≢ name → cursor_at after k ≡ cursor_at objects k
    pub sends : (k : ℕ) → (g k).sent ≡ (f k).sent
    pub places : (k : ℕ) → place_by (g k) ≡ place_by (f k)

  -- each object that reads after it is another, and read before it
  Leaves-still : (chunk : ℕ) (f g : ℕ → Facts M) (objects after : List (Object M (Log M))) (name source key : ℕ) (old : Log M)
      → Leaves chunk f g objects after name source key old → (k from own : ℕ) → cursor_at after k ≡ Some (from, own)
      → (k ≢ name) × (cursor_at objects k ≡ Some (from, own))
  Leaves-still chunk f g objects after name source key old leaves k from own at =
      let other : k ≢ name = λ here. none-some (from, own) (sym leaves.reads ∙ ap (cursor_at after) (sym here) ∙ at) in
      (other, sym (leaves.other_reads k other) ∙ at)

  -- so the objects show the new facts
  pub Leaves-changes : (chunk n : ℕ) (f g : ℕ → Facts M) (objects after : List (Object M (Log M))) (name source key : ℕ) (old : Log M)
      → Shows chunk n f objects → Leaves chunk f g objects after name source key old
      → Changes chunk f g objects after source (shut chunk key old)
  Leaves-changes chunk n f g objects after name source key old shows leaves =
      let stood = cursor_place chunk n f objects name source key old shows leaves.read leaves.found in
      let opened : IsOpen old key = IsOpen-at old key (place_by (f name)) stood in
      let still = Leaves-still chunk f g objects after name source key old leaves in
      record {
        stands = leaves.stands;
        holds = subst (λ s. Holds chunk (shut chunk key old) s) (sym (leaves.sends source))
            (Holds-close chunk old (shut chunk key old) (f source).sent key (shows.logs source old leaves.found) opened refl);
        others = leaves.others;
        other_sent = λ k log other found. leaves.sends k;
        placed = λ k own at.
            let before = still k source own at in
            let differs : own ≢ key =
            λ same. before.0 (shows.distinct k name source key (before.1 ∙ ap (λ (j : ℕ). Some (source, j)) same) leaves.read) in
            place_at-with_place_other old key own None differs
            ∙ cursor_place chunk n f objects k source own old shows before.1 leaves.found ∙ ap (λ p. Some p) (sym (leaves.places k));
        other_placed = λ k from own other at. ((still k from own at).1, leaves.places k);
        owned = λ own at stands. elim (cases_eq own key) [
          | inl same ↦
              let none : place_at (shut chunk key old) key ≡ None = place_at-with_place_same old key None opened in
              absurd (none-some at (sym none ∙ ap (place_at (shut chunk key old)) (sym same) ∙ stands))
          | inr differs ↦
              let owner = shows.owners source old own at leaves.found (sym (place_at-with_place_other old key own None differs) ∙ stands) in
              let other : owner.0 ≢ name = λ here.
              differs (same_key objects name source source own key
              (subst (λ j. cursor_at objects j ≡ Some (source, own)) here owner.1) leaves.read) in
              (owner.0, leaves.other_reads owner.0 other ∙ owner.1)
        ];
        other_owned = λ k from own other at.
            leaves.other_reads k (λ here. other (same_source objects name from source own key
            (subst (λ j. cursor_at objects j ≡ Some (from, own)) here at) leaves.read)) ∙ at;
        apart = λ one two from own first second. shows.distinct one two from own (still one from own first).1 (still two from own second).1;
      }
