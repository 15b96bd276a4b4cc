-- The exit status of a program whose words give no order.
use Rattle.std.specs.Prelude.{ℕ, ◌≡◌, ◌⊎◌}
use Rattle.clap.specs.Words.{kind_of}
use Rattle.clap.specs.declared.error.kind.ErrorKind.{ErrorKind}
use Rattle.clap.specs.declared.error.kind.ErrorKind.TheVariants as kind
use Rattle.cml_grammar.specs.declared.shell.opening.NoOrder.{NoOrder}
use Rattle.cml_grammar.specs.declared.shell.opening.NoOrder.TheVariants as why

-- the exit status for an error of this kind
abbrev pub error_status : ErrorKind → ℕ
error_status kind.OutOfMemory = 5
error_status kind.DisplayHelp = 0
error_status _ = 3

-- .. or that of a write fault, where help or the version goes to standard output and can't be written
abbrev pub IsShowing : ErrorKind → ℕ → Type 0
IsShowing shown status = (status ≡ error_status shown)
    ⊎ ((status ≡ 4) × ((shown ≡ kind.DisplayHelp) ⊎ (shown ≡ kind.DisplayVersion)))

-- the exit status where no order was given
abbrev pub EndsUnordered : NoOrder → ℕ → Type 0
EndsUnordered why.NoMemory status = status ≡ 5
EndsUnordered why.NotUnicode status = status ≡ 3
EndsUnordered (why.Words error) status = IsShowing (kind_of error) status
