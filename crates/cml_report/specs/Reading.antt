-- What of a reader's bytes was read.
use Rattle.std.specs.Prelude.{ℕ, ◌≡◌, List, Option, Some}
use Rattle.std.specs.Io.KnownBytes.{Consumes, IsAtEnd}
use Rattle.cml_grammar.specs.{IsReadUpTo, Fault, fault_of}

-- These were the reader's next bytes, and no byte is left; or there are too many for a script.
-- The lists are what the reader has left and what the writer holds, before and after, where they tell it.
abbrev pub IsRead : Option (List ℕ) → Option (List ℕ) → List ℕ → Type 0
IsRead old new text = IsReadUpTo 1048577 old new text

-- all of the reader's bytes were read, and they are such
pub record AreAll (old new : Option (List ℕ)) (are : List ℕ → Type 0) : Type 0 where
  pub bytes : List ℕ
  pub read : Consumes old new bytes
  pub whole : IsAtEnd new
  pub such : are bytes

-- all of the reader's bytes were read, or more than a script has, and this is their fault
abbrev pub IsFaulty : Option (List ℕ) → Option (List ℕ) → Fault → Type 0
IsFaulty old new fault = (text : List ℕ) × IsRead old new text × (fault_of text ≡ Some fault)
