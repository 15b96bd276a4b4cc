-- A script's messages as words of a journal's line.
use Rattle.std.specs.Prelude.{ℕ, ◌==◌, if◌then◌else◌, List}
use Rattle.cml_journal.specs.Escapes.{bytes_text}

-- a message of a script of this version: bytes in version 2, and in version 1 a number, which is written as in the script
abbrev pub script_word : ℕ → List ℕ → List ℕ
script_word version message = if version == 2 then bytes_text message else message
