-- What a run tells of the reader's bytes, and what it writes.
use Rattle.std.proofs.Common.{◌≡◌, ℕ, List, Option, Result, Ok, Err, inl, sym, subst}
use Rattle.std.specs.Prelude.{IfOk, IfErr, string_bytes}
use Rattle.std.specs.Io.KnownBytes.{Keeps}
use Rattle.cml_grammar.specs.{Lines, IsScript}
use Rattle.cml_report.specs.{Form, Stop, IsRead, AreAll, IsTextOf, IsRefused, History, Tallied, Played, Ending}
use Rattle.cml_script.specs.{EndsUntold, IsRunText, IsUntold, IsUnsettled, AreScript, RunsAs}
use Rattle.cml_board.specs.Shown.{Shown}
use Rattle.cml_report.specs.declared.ending.Ending.TheVariants as ending
use Rattle.cml_report.proofs.ReadLemmas.{all_read}

pub read_run : (form : Form) (limit : ℕ) (old new : Option (List ℕ)) (text : List ℕ) (script : Lines) (history : History) (tally : Tallied)
    (ends : Stop) (r : Result Played Ending) → IsRead old new text → IsScript text script
    → IfOk r (λ p. p.stop ≡ ends) → IfOk r (λ p. IsTextOf form script limit history tally ends (string_bytes p.report))
    → IfOk r (λ p. AreAll old new (IsRunText form limit p.stop (string_bytes p.report)))
read_run form limit old new text script history tally ends (Err ended) read says stops told = tt
read_run form limit old new text script history tally ends (Ok p) read says stops told =
    all_read old new text (IsRunText form limit p.stop (string_bytes p.report)) script read says (record {
      script = script;
      says = says;
      history = history;
      tally = tally;
      told = subst (λ s. IsTextOf form script limit history tally s (string_bytes p.report)) (sym stops) told;
    })

-- what is reported of a board under its own limit
pub text_under : (form : Form) (limit room : ℕ) (script : Lines) (history : History) (tally : Tallied) (ends : Stop)
    (r : Result Played Ending) → room ≡ limit
    → IfOk r (λ p. IsTextOf form script room history tally ends (string_bytes p.report))
    → IfOk r (λ p. IsTextOf form script limit history tally ends (string_bytes p.report))
text_under form limit room script history tally ends r is told =
    subst (λ l. IfOk r (λ p. IsTextOf form script l history tally ends (string_bytes p.report))) is told

pub refused_untold : (script : Lines) (limit : ℕ) (board : Shown (List ℕ)) (tally : Tallied) (ends : Stop) (r : Result Played Ending)
    → board.limit ≡ limit
    → IfErr r (IsRefused script board.limit board.history tally ends) → IfErr r (IsUntold script limit board tally ends)
refused_untold script limit board tally ends (Ok p) is refused = tt
refused_untold script limit board tally ends (Err ending.NoMemory) is refused = tt
refused_untold script limit board tally ends (Err (ending.NotLawful at)) is refused =
    inl (subst (λ l. IsRefused script l board.history tally ends (ending.NotLawful at)) is refused)
refused_untold script limit board tally ends (Err _) is refused = absurd refused

-- what isn't told of a script that was read
pub untold_ends : (script : Lines) (limit : ℕ) (board : Shown (List ℕ)) (tally : Tallied) (ends : Stop) (old new : Option (List ℕ))
    (text : List ℕ) (r : Result Played Ending) → IsRead old new text → IsScript text script
    → IfErr r (IsUntold script limit board tally ends) → IfErr r (EndsUntold old new)
untold_ends script limit board tally ends old new text (Ok p) read says untold = tt
untold_ends script limit board tally ends old new text (Err ending.NoMemory) read says untold = tt
untold_ends script limit board tally ends old new text (Err (ending.NotLawful at)) read says untold =
    all_read old new text AreScript script read says (script, says)
untold_ends script limit board tally ends old new text (Err _) read says untold = absurd untold

pub unsettled_ends : (script : Lines) (old new : Option (List ℕ)) (text : List ℕ) (ended : Ending) → IsRead old new text
    → IsScript text script → IsUnsettled ended → EndsUntold old new ended
unsettled_ends script old new text ending.NoMemory read says unsettled = tt
unsettled_ends script old new text (ending.NotLawful at) read says unsettled =
    all_read old new text AreScript script read says (script, says)
unsettled_ends script old new text _ read says unsettled = absurd unsettled

-- where nothing is reported, nothing is written
pub keeps_untold : (form : Form) (limit : ℕ) (old new held holds : Option (List ℕ)) (ended : Ending) → Keeps held holds
    → EndsUntold old new ended → RunsAs form limit old new held holds ended
keeps_untold form limit old new held holds (ending.Fault fault) keeps why = (why, keeps)
keeps_untold form limit old new held holds ending.ReadFault keeps why = keeps
keeps_untold form limit old new held holds ending.NoMemory keeps why = keeps
keeps_untold form limit old new held holds (ending.NotLawful at) keeps why = (why, keeps)
keeps_untold form limit old new held holds _ keeps why = absurd why
