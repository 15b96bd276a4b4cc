-- A row of the table, by the bytes of its word and not by where they lie in memory.
use Rattle.cml_calls.specs.declared.shape.Shape.{Shape}
use Rattle.cml_calls.specs.Table.{Row, row}

abbrev pub shown : Shape → Row
shown s = row s.number s.word.now s.takers s.replies.now s.blocks
