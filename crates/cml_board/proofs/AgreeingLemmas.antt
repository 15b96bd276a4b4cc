-- An object goes on agreeing with the facts, through each change of a call.
use Rattle.std.proofs.Common.{◌≡◌, ◌≢◌, inl, inr, ℕ, List, [], ◌∷◌, ◌++◌, length, slice_get, Some, sym, ap, subst, ◌∙◌, arith}
use Rattle.std.specs.Option.{option_map}
use Rattle.std.proofs.lemmas.Bool.{cases_eq}
use Rattle.std.proofs.lemmas.Option.{none-some, slice_get_within}
use Rattle.cml_board.specs.{Object, Reading, map_log, key_in, cursor_in, on_log, AgreesReading, Agrees}
use Rattle.cml_board.specs.Facts.{Facts}
use Rattle.cml_board.specs.declared.object.Object.TheVariants.{Mailbox, Channel, Port, Variable}
use Rattle.cml_board.specs.declared.object.Reading.TheVariants.{Open, Closed}
use Rattle.cml_board.proofs.ListLemmas.{pushed_cases}
use Rattle.cml_board.proofs.LogsLemmas.{get-on_log_from}

module _ {M : Type 0} where
  -- a change to a log changes nothing that an object is to agree on
  Agrees-map_log : {A : Type 0} (facts : Facts M) (change : A → A) (object : Object M A) → Agrees facts object
      → Agrees facts (map_log change object)
  Agrees-map_log facts change (Mailbox log key) agrees = agrees
  Agrees-map_log facts change (Channel log) agrees = agrees
  Agrees-map_log facts change (Port p) agrees = agrees
  Agrees-map_log facts change (Variable form held) agrees = agrees

  -- so all objects go on agreeing where one's log changes
  pub Agrees-on_log : {A : Type 0} (facts : ℕ → Facts M) (change : A → A) (objects : List (Object M A)) (name : ℕ)
      → ((k : ℕ) (object : Object M A) → slice_get objects k ≡ Some object → Agrees (facts k) object)
      → (k : ℕ) (object : Object M A) → slice_get (on_log change objects name) k ≡ Some object → Agrees (facts k) object
  Agrees-on_log facts change objects name each k object found =
      let old = get-on_log_from change objects name k object found in
      elim old.2 [
        | inl same ↦ subst (Agrees (facts k)) (sym same) (each k old.0 old.1)
        | inr changed ↦ subst (Agrees (facts k)) (sym changed) (Agrees-map_log (facts k) change old.0 (each k old.0 old.1))
      ]

  -- messages that were sent change nothing of it either
  pub Agrees-sent : {A : Type 0} (facts : Facts M) (messages : List M) (object : Object M A)
      → Agrees facts object → Agrees (record facts { sent = messages }) object
  Agrees-sent facts messages (Mailbox log key) agrees = agrees
  Agrees-sent facts messages (Channel log) agrees = agrees
  Agrees-sent facts messages (Variable form held) agrees = agrees
  Agrees-sent facts messages (Port p) agrees = (agrees.0, by_reading p.reading agrees.1)
    where
      by_reading : (reading : Reading) → AgreesReading facts reading → AgreesReading (record facts { sent = messages }) reading
      by_reading (Open key) agrees = agrees
      by_reading (Closed received) agrees = agrees

  -- nor do messages that were received, where the object has a cursor
  pub Agrees-got : {A : Type 0} (facts : Facts M) (messages : List M) (name source key : ℕ) (object : Object M A)
      → cursor_in name object ≡ Some (source, key) → Agrees facts object → Agrees (record facts { got = messages }) object
  Agrees-got facts messages name source key (Mailbox log own) reads agrees = agrees
  Agrees-got facts messages name source key (Channel log) reads agrees = agrees
  Agrees-got facts messages name source key (Variable form held) reads agrees = agrees
  Agrees-got facts messages name source key (Port p) reads agrees = (agrees.0, by_reading p.reading reads agrees.1)
    where
      by_reading : (reading : Reading) → option_map {U = ℕ × ℕ} (λ k. (p.channel.0, k)) (key_in reading) ≡ Some (source, key)
          → AgreesReading facts reading → AgreesReading (record facts { got = messages }) reading
      by_reading (Open own) reads agrees = agrees
      by_reading (Closed received) reads agrees = absurd (none-some (source, key) reads)

  -- where the facts of one object change, but not in this part, no object's do in it
  pub told : {X : Type 0} (read : Facts M → X) (f g : ℕ → Facts M) (name : ℕ) → read (g name) ≡ read (f name)
      → ((k : ℕ) → k ≢ name → g k ≡ f k) → (k : ℕ) → read (g k) ≡ read (f k)
  told read f g name same others k = elim (cases_eq k name) [
    | inl here ↦ subst (λ j. read (g j) ≡ read (f j)) (sym here) same
    | inr other ↦ ap read (others k other)
  ]

  -- the objects agree with the changed facts where that one does
  pub Agrees_told : {A : Type 0} (f g : ℕ → Facts M) (name : ℕ) (objects : List (Object M A))
      → ((object : Object M A) → slice_get objects name ≡ Some object → Agrees (f name) object → Agrees (g name) object)
      → ((k : ℕ) → k ≢ name → g k ≡ f k)
      → ((k : ℕ) (object : Object M A) → slice_get objects k ≡ Some object → Agrees (f k) object)
      → (k : ℕ) (object : Object M A) → slice_get objects k ≡ Some object → Agrees (g k) object
  Agrees_told f g name objects here others each k object found = elim (cases_eq k name) [
    | inl same ↦
        let at : slice_get objects name ≡ Some object = ap (slice_get objects) (sym same) ∙ found in
        subst (λ j. Agrees (g j) object) (sym same) (here object at (each name object at))
    | inr other ↦ subst (λ facts. Agrees facts object) (sym (others k other)) (each k object found)
  ]

  -- the objects agree with the facts where one more is made that agrees
  pub Agrees_pushed : {A : Type 0} (n : ℕ) (f g : ℕ → Facts M) (objects : List (Object M A)) (new : Object M A)
      → length objects ≡ n → Agrees (g n) new
      → ((k : ℕ) → k ≢ n → g k ≡ f k)
      → ((k : ℕ) (object : Object M A) → slice_get objects k ≡ Some object → Agrees (f k) object)
      → (k : ℕ) (object : Object M A) → slice_get (objects ++ new ∷ []) k ≡ Some object → Agrees (g k) object
  Agrees_pushed n f g objects new all agrees others each k object found = elim (pushed_cases objects new object k found) [
    | inl old ↦
        let other : k ≢ n = λ same. absurd (omega (arith, slice_get_within objects k object old)) in
        subst (λ facts. Agrees facts object) (sym (others k other)) (each k object old)
    | inr made ↦ subst (λ j. Agrees (g j) object) (sym (made.0 ∙ all)) (subst (Agrees (g n)) made.1 agrees)
  ]
