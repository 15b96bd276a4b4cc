-- How far a journal was read, and the board that made its calls.
use Rattle.std.proofs.Common.{◌≡◌, ℕ, List, [], ◌∷◌, ◌++◌, Option, None, Ok, sym, ap, subst, ◌∙◌}
use Rattle.std.proofs.lemmas.List.{append-nil, reverse-append}
use Rattle.cml_board.specs.{Entry, Lawful, no_entries}
use Rattle.cml_board.specs.Shown.{Shown}
use Rattle.cml_journal.specs.{State, waiting_at, behind, unended, reading}
use Rattle.cml_journal.proofs.FeedLemmas.{on, reading-append}
use Rattle.cml_chart.specs.{IsReplayed, IsWholeJournal, Replays}

module _ {M : Type 0} (version : ℕ) (meaning : List ℕ → Option M) where
  pub begins : (state : State) (board : Shown M) → state ≡ waiting_at 0 → board.history ≡ no_entries → board.past ≡ no_entries
      → IsReplayed version meaning [] state board
  unfolding reading
  begins state board reader history past = record {
    entries = [];
    read = ap (λ s. Ok (s, [])) (sym reader);
    made = history;
    whole = past;
  }

  -- what is read after the bytes so far
  read_on : (bytes taken : List ℕ) (old next : State) (board : Shown M) (found : List (Entry M))
      (so : IsReplayed version meaning bytes old board) → reading version meaning old taken ≡ Ok (next, found)
      → reading version meaning (waiting_at 0) (bytes ++ taken) ≡ Ok (next, so.entries ++ found)
  read_on bytes taken old next board found so read =
      reading-append version meaning (waiting_at 0) bytes taken ∙ ap (on version meaning taken) so.read ∙ ap (behind so.entries) read

  pub goes_past_line : (old new : State) (board : Shown M) (taken : List ℕ) → reading version meaning old taken ≡ Ok (new, [])
      → Replays version meaning taken old board new board
  goes_past_line old new board taken read bytes so = record {
    entries = so.entries;
    read = read_on bytes taken old new board [] so read ∙ ap (λ (es : List (Entry M)). Ok (new, es)) (append-nil so.entries);
    made = so.made;
    whole = so.whole;
  }

  pub goes_past_entry : (old new : State) (board after : Shown M) (taken : List ℕ) (entry : Entry M)
      → reading version meaning old taken ≡ Ok (new, entry ∷ []) → after.history ≡ entry ∷ board.history → after.past ≡ board.past
      → Replays version meaning taken old board new after
  goes_past_entry old new board after taken entry read history past bytes so = record {
    entries = so.entries ++ entry ∷ [];
    read = read_on bytes taken old new board (entry ∷ []) so read;
    made = history ∙ ap (λ (h : List (Entry M)). entry ∷ h) so.made ∙ sym (reverse-append so.entries (entry ∷ []));
    whole = past ∙ so.whole;
  }

  -- all bytes were read
  pub is_whole : (text taken rest : List ℕ) (state : State) (board : Shown M) → text ≡ taken ++ rest → rest ≡ []
      → IsReplayed version meaning taken state board → unended version state ≡ None → Lawful board.history
      → IsWholeJournal version meaning text board
  is_whole text taken rest state board cut none so ended lawful = record {
    state = state;
    replayed = subst (λ (b : List ℕ). IsReplayed version meaning b state board)
        (sym (cut ∙ ap (λ (b : List ℕ). taken ++ b) none ∙ append-nil taken)) so;
    ended = ended;
    lawful = lawful;
  }
