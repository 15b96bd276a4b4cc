-- What a replay tells of the reader's bytes, and what it writes.
use Rattle.std.proofs.Common.{◌≡◌, ℕ, List, Option, Some, Result, Ok, Err, inl, inr, refl, sym, subst}
use Rattle.std.specs.Prelude.{IfOk, IfErr, string_bytes}
use Rattle.std.specs.Io.KnownBytes.{Keeps}
use Rattle.cml_grammar.specs.declared.fault.What.TheVariants.{NeedsRun}
use Rattle.cml_grammar.specs.{at_line, first_ring, Lines, IsScript}
use Rattle.cml_report.specs.{Form, Stop, IsRead, AreAll, Writes, Played, Ending}
use Rattle.cml_replay.specs.{IsTextForRun, IsPlayedTextAs, EndsUnplayed, EndsUnplayedText, ReplaysAs}
use Rattle.cml_report.specs.declared.stop.Stop.TheVariants as stop
use Rattle.cml_report.specs.declared.ending.Ending.TheVariants as ending
use Rattle.cml_report.proofs.ReadLemmas.{all_read}

-- a script with a lane or a feed is not replayed
pub unplayed : (text : List ℕ) (script : Lines) (line : ℕ) (ended : Ending) → IsScript text script → Some line ≡ first_ring script
    → ended ≡ ending.Fault (at_line line NeedsRun) → EndsUnplayedText text ended
unplayed text script line ended says first is = subst (EndsUnplayedText text) (sym is) (inr (record {
  script = script;
  says = says;
  line = line;
  first = sym first;
  tells = refl;
}))

unplayed_read : (old new : Option (List ℕ)) (text : List ℕ) (ended : Ending) → IsRead old new text
    → EndsUnplayedText text ended → EndsUnplayed old new ended
unplayed_read old new text (ending.Fault fault) read (inl faulty) = inl (text, read, faulty)
unplayed_read old new text (ending.Fault fault) read (inr ends) =
    inr (all_read old new text (IsTextForRun fault) ends.script read ends.says ends)
unplayed_read old new text ending.NoMemory read why = tt
unplayed_read old new text _ read why = absurd why

-- what came of the text came of the reader's bytes, which these are
pub read_played : (form : Form) (limit : ℕ) (old new : Option (List ℕ)) (shown text : List ℕ) (r : Result Played Ending)
    → shown ≡ text → IsRead old new text
    → IfOk r (λ p. IsPlayedTextAs form limit p.stop (string_bytes p.report) shown)
    → IfOk r (λ p. AreAll old new (IsPlayedTextAs form limit p.stop (string_bytes p.report)))
read_played form limit old new shown text (Err ended) is read played = tt
read_played form limit old new shown text (Ok p) is read played =
    let are = IsPlayedTextAs form limit p.stop (string_bytes p.report) in
    let such = subst are is played in
    all_read old new text are such.script read such.says such

pub read_unplayed : (old new : Option (List ℕ)) (shown text : List ℕ) (r : Result Played Ending) → shown ≡ text → IsRead old new text
    → IfErr r (λ ended. EndsUnplayedText shown ended) → IfErr r (λ ended. EndsUnplayed old new ended)
read_unplayed old new shown text (Ok p) is read why = tt
read_unplayed old new shown text (Err ended) is read why =
    unplayed_read old new text ended read (subst (λ (t : List ℕ). EndsUnplayedText t ended) is why)

pub writes_played : (form : Form) (limit : ℕ) (old new held holds : Option (List ℕ)) (ends : Stop) (text : List ℕ) (ended : Ending)
    → Writes held holds ends text ended
    → AreAll old new (IsPlayedTextAs form limit ends text) → ReplaysAs form limit old new held holds ended
writes_played form limit old new held holds ends text ended (inl failed) played =
    subst (ReplaysAs form limit old new held holds) (sym failed) tt
writes_played form limit old new held holds stop.Held text ended (inr wrote) played = absurd played.such.played.scheduled.ends
writes_played form limit old new held holds stop.Done text ended (inr wrote) played =
    subst (ReplaysAs form limit old new held holds) (sym wrote.0) (text, played, wrote.1)
writes_played form limit old new held holds stop.Stalled text ended (inr wrote) played =
    subst (ReplaysAs form limit old new held holds) (sym wrote.0) (text, played, wrote.1)
writes_played form limit old new held holds stop.Full text ended (inr wrote) played =
    subst (ReplaysAs form limit old new held holds) (sym wrote.0) (text, played, wrote.1)

-- where nothing was played nothing is written
pub keeps_unplayed : (form : Form) (limit : ℕ) (old new held holds : Option (List ℕ)) (ended : Ending) → Keeps held holds
    → EndsUnplayed old new ended → ReplaysAs form limit old new held holds ended
keeps_unplayed form limit old new held holds (ending.Fault fault) keeps why = (why, keeps)
keeps_unplayed form limit old new held holds ending.ReadFault keeps why = keeps
keeps_unplayed form limit old new held holds ending.NoMemory keeps why = keeps
keeps_unplayed form limit old new held holds _ keeps why = absurd why
