-- What a line was taken for, by the bytes of its words and not by where they lie in memory.
use Rattle.std.specs.Prelude.{map}
use Rattle.cml_grammar.specs.Forms.{Form, unknown, declaration, lane, no_step, step}
use Rattle.cml_grammar.specs.declared.forms.Form.{Form as Taken}
use Rattle.cml_grammar.specs.declared.forms.Form.TheVariants as taken

abbrev pub shown : Taken → Form
shown taken.Unknown = unknown
shown (taken.Declaration d rest) = declaration d (map (λ w. w.now) rest.now)
shown (taken.Lane rest) = lane (map (λ w. w.now) rest.now)
shown (taken.NoStep seat) = no_step seat
shown (taken.Step seat v rest) = step seat v (map (λ w. w.now) rest.now)
