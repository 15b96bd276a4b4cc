-- What an entry for each message does to a history, by what each of them does.
use Rattle.std.proofs.Common.{◌≡◌, ℕ, ◌+◌, ◌≤◌, List, [], ◌∷◌, ◌++◌, length, refl, sym, ap, ◌∙◌, append_assoc, arith, length-append}
use Rattle.std.proofs.lemmas.List.{append-nil}
use Rattle.cml_board.specs.{Entry, IsAsBefore}
use Rattle.cml_board.specs.Shown.{Shown}
use Rattle.cml_lanes.specs.{with_entries, Enters}

module _ {M : Type 0} (entry : M → Entry M) where
  -- what none of them changes stays
  pub unchanged : {A : Type 0} (value : List (Entry M) → A)
      → ((message : M) (history : List (Entry M)) → value (entry message ∷ history) ≡ value history)
      → (messages : List M) (history : List (Entry M)) → value (with_entries entry messages history) ≡ value history
  unchanged value same [] history = refl
  unchanged value same (message ∷ messages) history = unchanged value same messages (entry message ∷ history) ∙ same message history

  -- a list to which each adds its message has all of them in the end
  pub appended : (listed : List (Entry M) → List M)
      → ((message : M) (history : List (Entry M)) → listed (entry message ∷ history) ≡ listed history ++ message ∷ [])
      → (messages : List M) (history : List (Entry M)) → listed (with_entries entry messages history) ≡ listed history ++ messages
  appended listed adds [] history = sym (append-nil (listed history))
  appended listed adds (message ∷ messages) history =
      appended listed adds messages (entry message ∷ history)
      ∙ ap (λ ms. ms ++ messages) (adds message history)
      ∙ append_assoc (listed history) (message ∷ []) messages

  -- a count that each raises by one
  pub counted : (count : List (Entry M) → ℕ)
      → ((message : M) (history : List (Entry M)) → count (entry message ∷ history) ≡ count history + 1)
      → (messages : List M) (history : List (Entry M)) → count (with_entries entry messages history) ≡ count history + length messages
  counted count raises [] history = omega arith
  counted count raises (message ∷ messages) history =
      omega (arith, counted count raises messages (entry message ∷ history), raises message history)

  -- what each keeps holds after all
  pub lasting : (Holds : List (Entry M) → Type 0)
      → ((message : M) (history : List (Entry M)) → Holds history → Holds (entry message ∷ history))
      → (messages : List M) (history : List (Entry M)) → Holds history → Holds (with_entries entry messages history)
  lasting Holds keeps [] history is = is
  lasting Holds keeps (message ∷ messages) history is = lasting Holds keeps messages (entry message ∷ history) (keeps message history is)

  -- the entries of messages and then of more
  pub with_more : (messages more : List M) (history : List (Entry M))
      → with_entries entry (messages ++ more) history ≡ with_entries entry more (with_entries entry messages history)
  with_more [] more history = refl
  with_more (message ∷ messages) more history = with_more messages more (entry message ∷ history)

  -- none were entered
  pub none_entered : (board : Shown M) → Enters entry [] 0 board board
  none_entered board = record { as_many = refl; history = refl; past = refl; limit = refl; reserved = omega arith }

  -- some were entered, and then more
  pub enters_more : {messages later : List M} {count more total : ℕ} {old mid new : Shown M} → count + more ≡ total
      → Enters entry messages count old mid → Enters entry later more mid new → Enters entry (messages ++ later) total old new
  enters_more {messages} {later} {old = old} sum a b = record {
    as_many = omega (arith, length-append messages later, a.as_many, b.as_many, sum);
    history = b.history ∙ ap (with_entries entry later) a.history ∙ sym (with_more messages later old.history);
    past = b.past ∙ a.past;
    limit = b.limit ∙ a.limit;
    reserved = omega (arith, a.reserved, b.reserved, sum);
  }

  -- and then nothing was
  pub enters_before : {messages : List M} {count : ℕ} {old at new : Shown M} → Enters entry messages count old at → IsAsBefore at new
      → Enters entry messages count old new
  enters_before a after = record {
    as_many = a.as_many;
    history = after.history ∙ a.history;
    past = after.past ∙ a.past;
    limit = after.limit ∙ a.limit;
    reserved = omega (arith, a.reserved, after.reserved);
  }

  -- the newest entry is that of the last message
  pub newest : (message : M) (messages : List M) (history : List (Entry M))
      → (last : M) × (rest : List (Entry M)) × (with_entries entry (message ∷ messages) history ≡ entry last ∷ rest)
      × (length history ≤ length rest)
  newest message [] history = (message, history, refl, omega arith)
  newest message (next ∷ messages) history =
      let later = newest next messages (entry message ∷ history) in (later.0, later.1, later.2, omega (arith, later.3))
