-- The inside of `declare`, `audit` and a report: what the declarations of a script make.
use Rattle.std.specs.Prelude.{◌<◌, length, ⊤}
use Rattle.cml_grammar.specs.{Makes, Lines}
use Rattle.cml_grammar.specs.declared.forms.Makes.TheVariants as makes

-- what is made is made of declared names
abbrev pub IsMadeOfDeclared : Lines → Makes → Type 0
IsMadeOfDeclared script (makes.Port channel) = channel < length script.declarations
IsMadeOfDeclared script (makes.Feed feed) = feed.channel < length script.declarations
IsMadeOfDeclared script _ = ⊤
