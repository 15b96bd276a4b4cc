-- How messages are words of a line.
use Rattle.std.specs.Prelude.{◌≡◌, ℕ, Bool, true, List, Option, Some, None, codes}
use Rattle.std.specs.List.{list_all}
use Rattle.cml_calls.specs.{is_text_byte}

-- `text` writes the messages that `fits`, and `read` reads them.
pub record IsWritten {M : Type 0} (text : M → List ℕ) (fits : M → Bool) (read : List ℕ → Option M) : Type 0 where
  -- what was written is read again
  pub again : (message : M) → fits message ≡ true → read (text message) ≡ Some message
  -- a message has no other word
  pub only : (word : List ℕ) (message : M) → read word ≡ Some message → (word ≡ text message) × (fits message ≡ true)
  -- a word has no spaces, and only bytes that are printed
  pub printed : (message : M) → fits message ≡ true → list_all is_text_byte (text message) ≡ true
  -- a message is no reply of another kind
  pub apart : (read (codes "done") ≡ None) × (read (codes "none") ≡ None) × (read (codes "put") ≡ None) × (read (codes "closed") ≡ None)
