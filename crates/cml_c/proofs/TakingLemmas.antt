-- A reading that stops in the bytes that it takes.
use Rattle.std.proofs.Common.{◌≡◌, ◌++◌, ℕ, List, Option, Some, sym, ap, subst, ◌∙◌}
use Rattle.cml_journal.specs.{Halt, Progress, HaltsIn}
use Rattle.cml_c.specs.{number, IsReadTo, told_halt, told_so_far}
use Rattle.cml_c.specs.ReadJournals.{Takes}

pub stops_in : {M : Type 0} (version : ℕ) (meaning : List ℕ → Option M) (bytes : List ℕ) (code : ℕ) (old new : Progress M) (halted : Halt)
    → code ≡ number (told_halt halted) → new.halt ≡ Some halted → HaltsIn version meaning old bytes new halted
    → ((before : Halt) → old.halt ≡ Some before → new ≡ old) → Takes version meaning bytes code old new
stops_in version meaning bytes code old new halted told is halts again = record {
  told = told ∙ ap (λ (h : Option Halt). number (told_so_far h)) (sym is);
  read = λ before so. subst (λ (h : Option Halt). IsReadTo version meaning (before ++ bytes) new h) (sym is) (halts before so);
  spent = again;
}
