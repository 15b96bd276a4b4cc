-- What was read and drawn.
use Rattle.std.proofs.Common.{◌≡◌, ◌⊎◌, ℕ, ◌≤◌, ◌||◌, nat_le, inl, inr, true, false, List, length, Option, Some, None, String}
use Rattle.std.proofs.Common.{string_bytes, MatchOption, refl, sym, ap, subst, ◌∙◌, arith, if◌then◌else◌}
use Rattle.std.specs.Option.{option_map}
use Rattle.std.specs.Global.{Global}
use Rattle.std.proofs.lemmas.Bool.{lt-ltb, leb-true, and_parts}
use Rattle.cml_grammar.specs.{Lines, parts_of}
use Rattle.cml_chart.specs.declared.report.faults.What.{What}
use Rattle.cml_chart.specs.declared.report.faults.What.TheVariants as what
use Rattle.cml_chart.specs.declared.report.faults.Fault.{Fault}
use Rattle.cml_chart.specs.declared.ending.Ending.TheVariants as ending
use Rattle.cml_chart.specs.{Report, told, wrong_at, told_from, nothing_yet, shown_report, shown_end, Course}
use Rattle.cml_chart.specs.{IsCourse, IsRead, IsDrawnOf, IsFaultOf, EndsUndrawn, lines_fault, deeds_of, things_of, ending_of_what}
use Rattle.cml_chart.specs.{ending_of_fault, IsReportIn, IsToldBy, is_journal, is_of_numbers, is_of_bytes, report_or}

-- too long a text is no report, and no journal
too_long : (text : List ℕ) (r : Report) → told text ≡ shown_report r → 33554433 ≤ length text → ⊥
too_long text r is long =
    let test = lt-ltb 33554432 (length text) (omega (arith, long)) in
    let bad : wrong_at 0 what.TooLong ≡ shown_report r =
    sym (ap (λ t. if t then wrong_at 0 what.TooLong else told_from nothing_yet 1 (parts_of text)) test) ∙ is in
    cc

short_journal : (text : List ℕ) → is_journal text ≡ true → length text ≤ 33554432
short_journal text is =
    leb-true (length text) 33554432 (and_parts (nat_le (length text) 33554432) (is_of_numbers text || is_of_bytes text) is).0

short : (text shown : List ℕ) (r : Report) → IsReportIn text shown → told shown ≡ shown_report r → 33554433 ≤ length text → ⊥
short text shown r (inl (none, same)) says long = too_long text r (ap told (sym same) ∙ says) long
short text shown r (inr (is, tells)) says long = let most = short_journal text is in omega (arith, most, long)

-- the report is what tells a journal, or the text itself
report_in : (text : List ℕ) (report : Option (String Global))
    → MatchOption report (is_journal text ≡ false) (λ report. (is_journal text ≡ true) × IsToldBy text (string_bytes report))
    → IsReportIn text (report_or text (option_map (λ (s : String Global). string_bytes s) report))
report_in text None none = inl (none, refl)
report_in text (Some report) is = inr (is.0, is.1)

-- .. wherever both were read
pub report_shown : (text first second shown : List ℕ) (report : Option (String Global)) → first ≡ text → second ≡ text
    → MatchOption report (is_journal first ≡ false) (λ told. (is_journal first ≡ true) × IsToldBy first (string_bytes told))
    → shown ≡ report_or second (option_map (λ (s : String Global). string_bytes s) report) → IsReportIn text shown
report_shown text first second shown report one two tells same =
    subst (λ (s : List ℕ). IsReportIn text s)
    (sym (same ∙ ap (λ (t : List ℕ). report_or t (option_map (λ (s : String Global). string_bytes s) report)) two))
    (report_in text report
    (subst (λ (t : List ℕ). MatchOption report (is_journal t ≡ false) (λ told. (is_journal t ≡ true) × IsToldBy t (string_bytes told))) one tells))

pub drawn_of : (script : Option Lines) (old new : Option (List ℕ)) (text shown : List ℕ) (r : Report) (course : Course)
    → IsRead old new text → IsReportIn text shown → told shown ≡ shown_report r → course.report ≡ r → IsCourse script course
    → IsDrawnOf script old new
drawn_of script old new text shown r course read is_in says same is = record {
  text = text;
  read = read.0;
  whole = elim read.1 [ inl end ↦ end | inr long ↦ absurd (short text shown r is_in says long) ];
  report = shown;
  is_in = is_in;
  course = course;
  says = says ∙ ap shown_report (sym same);
  is_course = is;
}

-- how a fault ends the drawing
by_what : (script : Option Lines) (old new : Option (List ℕ)) (fault : Fault) (kind : What)
    → EndsUndrawn script old new (ending.Fault fault) → EndsUndrawn script old new (ending_of_what kind fault)
by_what script old new fault what.NoLineEnd is = is
by_what script old new fault what.BadBytes is = is
by_what script old new fault what.NoReportLine is = is
by_what script old new fault what.OutOfPlace is = is
by_what script old new fault what.NoEndLine is = is
by_what script old new fault what.OtherScript is = is
by_what script old new fault what.NameTaken is = is
by_what script old new fault what.UnknownName is = is
by_what script old new fault what.TooLong is = is
by_what script old new fault what.Memory is = tt

no_memory : (script : Option Lines) (old new : Option (List ℕ)) (fault : Fault) → fault.what ≡ what.Memory
    → EndsUndrawn script old new (ending_of_fault fault)
no_memory script old new fault memory =
    subst (λ (w : What). EndsUndrawn script old new (ending_of_what w fault)) (sym memory) tt

pub undrawn_by_report : (script : Option Lines) (old new : Option (List ℕ)) (text shown : List ℕ) (fault : Fault) → IsRead old new text
    → IsReportIn text shown → IsFaultOf shown fault → EndsUndrawn script old new (ending_of_fault fault)
undrawn_by_report script old new text shown fault read is_in (inl memory) = no_memory script old new fault memory
undrawn_by_report script old new text shown fault read is_in (inr is) =
    by_what script old new fault fault.what (text, read, shown, is_in, inl is)

pub undrawn_by_course : (script : Option Lines) (old new : Option (List ℕ)) (text shown : List ℕ) (r : Report) (fault : Fault)
    → IsRead old new text → IsReportIn text shown → told shown ≡ shown_report r
    → (fault.what ≡ what.Memory) ⊎ (lines_fault script (deeds_of r) (things_of r) ≡ Some fault)
    → EndsUndrawn script old new (ending_of_fault fault)
undrawn_by_course script old new text shown r fault read is_in says (inl memory) = no_memory script old new fault memory
undrawn_by_course script old new text shown r fault read is_in says (inr is) =
    by_what script old new fault fault.what (text, read, shown, is_in, inr (deeds_of r, things_of r, shown_end r.end, says, is))
