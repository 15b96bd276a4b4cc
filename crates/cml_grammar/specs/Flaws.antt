-- The tests of a word in its place, by their names.
use Rattle.std.specs.Prelude.{ℕ, Bool, List}
use Rattle.cml_grammar.specs.declared.forms.Place.{Place}
use Rattle.cml_grammar.specs.declared.checks.Flaw.{Flaw}
use Rattle.cml_grammar.specs.declared.checks.Flaw.TheVariants.{BadName, Taken, UnknownName, WrongKind, NotYours, BadNumber, BadText}
use Rattle.cml_grammar.specs.Names.{Given}
use Rattle.cml_grammar.specs.Faults.{is_bad_name, is_taken, is_unknown_name, is_wrong_kind, is_not_yours, is_bad_number, is_bad_text}

abbrev pub has_flaw : List Given → Flaw → Place → List ℕ → Bool
has_flaw names BadName = is_bad_name
has_flaw names Taken = is_taken names
has_flaw names UnknownName = is_unknown_name names
has_flaw names WrongKind = is_wrong_kind names
has_flaw names (NotYours seat) = is_not_yours names seat
has_flaw names (BadNumber version) = is_bad_number version
has_flaw names (BadText version) = is_bad_text version
