-- An entry is added to a board's journal.
use Rattle.std.proofs.Common.{◌≡◌, ℕ, ◌+◌, ◌≤◌, Bool, List, [], ◌∷◌, ◌++◌, length, reverse, Some}
use Rattle.std.proofs.Common.{refl, sym, ap, subst, ◌∙◌, arith}
use Rattle.std.proofs.lemmas.List.{reverse-append}
use Rattle.std.proofs.lemmas.Option.{none-some}
use Rattle.cml_log.specs.Log.{Log}
use Rattle.cml_board.specs.{Call, Who, Reply, Entry, Object, Lawful, Fits, made, answer, new_name, facts_of, HasRoom, Performs, AddsEntry}
use Rattle.cml_board.specs.{IsAsBefore, IsSpared, Response}
use Rattle.cml_board.specs.Shown.{Shown}
use Rattle.cml_board.specs.Keeps.{Keeps}
use Rattle.cml_board.specs.declared.entry.Reply.TheVariants.{Made}
use Rattle.cml_board.specs.declared.outcome.Refusal.TheVariants.{NoMemory}
use Rattle.cml_board.specs.declared.outcome.Response.TheVariants.{Refused}
use Rattle.cml_board.specs.Keeps.{Shows}

module _ {M : Type 0} where
  reverse_noted : (past journal later : List (Entry M)) (entry : Entry M) → later ≡ journal ++ entry ∷ []
      → reverse later ++ past ≡ entry ∷ (reverse journal ++ past)
  reverse_noted past journal later entry e = ap (λ l. reverse l ++ past) e ∙ ap (λ l. l ++ past) (reverse-append journal (entry ∷ []))

  -- what a board shows that has this past, journal, limit, objects and spare room
  abbrev pub board_of : List (Entry M) → List (Entry M) → ℕ → List (Object M (Log M)) → ℕ → Shown M
  board_of past journal limit objects spare =
      record { history = reverse journal ++ past; past = past; limit = limit; objects = objects; reserved = spare }

  -- a board keeps all that it keeps when an entry that is lawful there is noted, and its objects show it
  pub keeps_noted : (chunk : ℕ) {old : Shown M} {past journal reserved later : List (Entry M)} {limit spare left : ℕ}
      {objects after : List (Object M (Log M))} (entry : Entry M)
      → board_of past journal limit objects spare ≡ old → Keeps chunk (board_of past journal limit objects spare)
      → later ≡ reserved ++ entry ∷ [] → reserved ≡ journal
      → HasRoom old → Fits old.history entry.call → answer old.history entry.call ≡ Some entry.reply
      → (Lawful (reverse journal ++ past)
      → Shows chunk (length (made (reverse journal ++ past))) (facts_of (reverse journal ++ past)) objects
      → Shows chunk (length (made (entry ∷ (reverse journal ++ past)))) (facts_of (entry ∷ (reverse journal ++ past))) after)
      → Keeps chunk (board_of past later limit after left)
  keeps_noted chunk {old} {past} {journal} {reserved} {later} {limit} {spare} {left} {objects}
      {after} entry view keeps noted same room fits answers shows =
      subst (λ (h : List (Entry M)). Keeps chunk (record { history = h; past = past; limit = limit; objects = after; reserved = left }))
      (sym (reverse_noted past journal later entry (noted ∙ ap (λ l. l ++ entry ∷ []) same)))
      (record {
        lawful = (
          subst (λ (b : Shown M). Fits b.history entry.call) (sym view) fits,
          subst (λ (b : Shown M). answer b.history entry.call ≡ Some entry.reply) (sym view) answers,
          keeps.lawful,
        );
        shows = shows keeps.lawful keeps.shows;
        room = subst (λ (b : Shown M). HasRoom b) (sym view) room;
        bounded = keeps.bounded;
        holds_one = keeps.holds_one;
        small = keeps.small;
      })

  -- what is reserved is nothing that a board keeps
  keeps_spare : (chunk : ℕ) (past journal : List (Entry M)) (limit : ℕ) (objects : List (Object M (Log M))) (spare left : ℕ)
      → Keeps chunk (board_of past journal limit objects spare) → Keeps chunk (board_of past journal limit objects left)
  keeps_spare chunk past journal limit objects spare left keeps = record {
    lawful = keeps.lawful;
    shows = keeps.shows;
    room = keeps.room;
    bounded = keeps.bounded;
    holds_one = keeps.holds_one;
    small = keeps.small;
  }

  -- a board that is seen alike keeps all that it kept
  pub keeps_same : (chunk : ℕ) {past : List (Entry M)} (journal later : List (Entry M)) (limit : ℕ)
      (objects after : List (Object M (Log M))) {spare left : ℕ}
      → Keeps chunk (board_of past journal limit objects spare) → later ≡ journal → after ≡ objects
      → Keeps chunk (board_of past later limit after left)
  keeps_same chunk {past} journal later limit objects after {spare} {left} keeps same seen =
      subst (λ (os : List (Object M (Log M))). Keeps chunk (board_of past later limit os left)) (sym seen)
      (subst (λ (j : List (Entry M)). Keeps chunk (board_of past j limit objects left)) (sym same)
      (keeps_spare chunk past journal limit objects spare left keeps))

  -- and is as it was
  pub as_before : {old : Shown M} {past journal later : List (Entry M)} {limit spare left : ℕ} {objects after : List (Object M (Log M))}
      → board_of past journal limit objects spare ≡ old → later ≡ journal → after ≡ objects → spare ≤ left
      → IsAsBefore old (board_of past later limit after left)
  as_before {old} {past} {journal} {later} {limit} {spare} {left} {objects} {after} view same seen spares = record {
    history = ap (λ l. reverse l ++ past) same ∙ ap (λ (b : Shown M). b.history) view;
    past = ap (λ (b : Shown M). b.past) view;
    limit = ap (λ (b : Shown M). b.limit) view;
    objects = seen ∙ ap (λ (b : Shown M). b.objects) view;
    reserved = subst (λ (b : Shown M). b.reserved ≤ left) view spares;
  }

  -- so is one that nothing was done to
  pub unchanged : (board : Shown M) → IsAsBefore board board
  unchanged board = record { history = refl; past = refl; limit = refl; objects = refl; reserved = omega arith }

  pub keeps_at : (chunk : ℕ) {a b : Shown M} → a ≡ b → Keeps chunk a → Keeps chunk b
  keeps_at chunk {a} {b} e keeps = subst (λ (s : Shown M). Keeps chunk s) e keeps

  pub adds_entry : {old : Shown M} {past journal reserved later : List (Entry M)} {limit spare left : ℕ}
      {objects after : List (Object M (Log M))} (who : Who) (call noted : Call M) (reply told : Reply M)
      → board_of past journal limit objects spare ≡ old
      → later ≡ reserved ++ record { who = who; call = noted; reply = reply } ∷ [] → reserved ≡ journal
      → noted ≡ call → reply ≡ told → spare ≤ left + 1
      → AddsEntry old (board_of past later limit after left) who call told
  adds_entry {old} {past} {journal} {reserved} {later} {limit} {spare} {left} {objects}
      {after} who call noted reply told view noting same calls replies spares = record {
        history =
            reverse_noted past journal later (record { who = who; call = noted; reply = reply })
            (noting ∙ ap (λ l. l ++ record { who = who; call = noted; reply = reply } ∷ []) same)
            ∙ ap (λ c. record { who = who; call = c; reply = reply } ∷ (reverse journal ++ past)) calls
            ∙ ap (λ r. record { who = who; call = call; reply = r } ∷ (reverse journal ++ past)) replies
            ∙ ap (λ (b : Shown M). record { who = who; call = call; reply = told } ∷ b.history) view;
        past = ap (λ (b : Shown M). b.past) view;
        limit = ap (λ (b : Shown M). b.limit) view;
        reserved = subst (λ (b : Shown M). b.reserved ≤ left + 1) view spares;
      }

  -- a call that is answered may be refused for want of memory, if it needs more than what is reserved. Then it is returned
  pub lacks : (chunk : ℕ) (sure : Bool) (old new : Shown M) (who : Who) (call : Call M) (reply : Reply M)
      (result : Response M) (back : Call M) → result ≡ Refused NoMemory back → back ≡ call
      → answer old.history call ≡ Some reply → ¬ (IsSpared chunk sure old call) → IsAsBefore old new
      → Performs chunk sure old new who call result
  lacks chunk sure old new who call reply result back failed same answers takes before =
      rw failed (refl, λ waits. none-some reply (sym waits ∙ answers), takes, same, before)

  -- the same for a call that was noted as an equal one
  pub keeps_call : (chunk : ℕ) {old : Shown M} {past journal reserved later : List (Entry M)} {limit spare left : ℕ}
      {objects after : List (Object M (Log M))}
      (who : Who) (call noted : Call M) (reply told : Reply M)
      → board_of past journal limit objects spare ≡ old → Keeps chunk (board_of past journal limit objects spare)
      → later ≡ reserved ++ record { who = who; call = noted; reply = told } ∷ [] → reserved ≡ journal → noted ≡ call → told ≡ reply
      → HasRoom old → Fits old.history call → answer old.history call ≡ Some reply
      → (Lawful (reverse journal ++ past)
      → Shows chunk (length (made (reverse journal ++ past))) (facts_of (reverse journal ++ past)) objects
      → Shows chunk (length (made (record { who = who; call = call; reply = reply } ∷ (reverse journal ++ past))))
      (facts_of (record { who = who; call = call; reply = reply } ∷ (reverse journal ++ past))) after)
      → Keeps chunk (board_of past later limit after left)
  unfolding keeps_noted
  keeps_call chunk {old} {past} {journal} {reserved} {later} {limit} {spare} {left} {objects}
      {after} who call noted reply told view keeps noting same calls replies room fits answers shows =
      let entry : Entry M = record { who = who; call = call; reply = reply } in
      keeps_noted chunk {old = old} {past = past} {journal = journal} {reserved = reserved} {later = later} {limit = limit} {spare = spare}
      {left = left} {objects = objects} {after = after} entry view keeps
      (noting ∙ ap (λ c. reserved ++ record { who = who; call = c; reply = told } ∷ []) calls
      ∙ ap (λ r. reserved ++ record { who = who; call = call; reply = r } ∷ []) replies)
      same room fits answers shows

  -- the number of objects is the name of the next
  pub made_name : (chunk : ℕ) {a b : Shown M} → a ≡ b → Keeps chunk a → (n : ℕ) → n ≡ length a.objects
      → new_name b.history ≡ Made (record { 0 = n })
  made_name chunk {a} {b} view keeps n e =
      subst (λ (s : Shown M). new_name s.history ≡ Made (record { 0 = n })) view
      (ap (λ k. Made (record { 0 = k })) (sym (e ∙ keeps.shows.all)))

  -- what holds of the board that is shown holds of what shows it
  pub inside : {a b : Shown M} (P : Shown M → Type 0) → a ≡ b → P b → P a
  inside {a} {b} P view p = subst P (sym view) p
