use Rattle.std.proofs.Common.{◌≡◌, ℕ, ◌+◌, List, [], ◌++◌, length, Option, Some, string_bytes, sym, ap, subst, ◌∙◌}
use Rattle.std.specs.Prelude.{IfSome}
use Rattle.std.specs.Io.KnownBytes.{Appends}
use Rattle.cml_journal.specs.{Sum, Summed, and_bytes, sum_by, with_line_end, text_of, sealed_end, piece_sum}
use Rattle.cml_journal.proofs.PieceLemmas.{sealed_head, sealed_piece_text}
use Rattle.cml_journal.proofs.PartLemmas.{writes_end}
use Rattle.cml_journal.proofs.SealedLemmas.{piece_in_parts}
use Rattle.cml_journal.proofs.StreamLemmas.{entry_lines}
use Rattle.cml_journal.proofs.sealed.write_short.Goals as goal

pub returns-clause-sum : goal.returns-clause-sum
returns-clause-sum g c =
    let version = g.M.Written.VERSION in
    let text = g.M.Written.text in
    let entries = c.args.entries.now in
    let flat = entry_lines text entries in
    let head = c.in_ok-write_sealed_head.ensures
    ∙ ap (λ (t : List ℕ). t ++ text_of (sealed_head version c.args.after c.args.from)) c.new-text.ensures.bytes in
    let writes = c.in_ok-write_lines.ensures in
    let left = string_bytes c.write_lines.new.text in
    let is = subst (λ (o : Option Summed). IfSome o (λ before. c.in_ok-sum.sum ≡ sum_by (and_bytes before c.deref.result.now))) writes.3
    c.in_ok-sum.ensures in
    is ∙ ap (λ (t : List ℕ). sum_by (and_bytes (and_bytes c.new.result writes.0) t)) c.deref.ensures
    ∙ piece_in_parts version text c.args.after c.args.from entries c.new.result writes.0 left c.new.ensures
    (ap (λ (t : List ℕ). t ++ flat) (sym head) ∙ writes.2)

pub returns-clause-written : goal.returns-clause-written
returns-clause-written g c =
    let version = g.M.Written.VERSION in
    let text = g.M.Written.text in
    let from = c.args.from in
    let entries = c.args.entries.now in
    let flat = entry_lines text entries in
    let left = string_bytes c.write_lines.new.text in
    let end : Sum → List ℕ = λ s. with_line_end (sealed_end (from + length entries) s) in
    let sum = piece_sum version text c.args.after from entries in
    let head = c.in_ok-write_sealed_head.ensures
    ∙ ap (λ (t : List ℕ). t ++ text_of (sealed_head version c.args.after from)) c.new-text.ensures.bytes in
    let whole = ap (λ (t : List ℕ). (t ++ flat) ++ end sum) head ∙ sealed_piece_text version text c.args.after from entries [] in
    let last = c.as_bytes.ensures.value ∙ c.in_ok-write_named.ensures ∙ ap (λ (s : Sum). left ++ end s) (returns-clause-sum g c) in
    subst (Appends (g.W.Write.contents c.args.writer.now) (g.W.Write.contents c.write_whole.new.writer)) whole
    (writes_end _ _ _ (string_bytes c.write_sealed_head.new.text ++ flat) left c.as_bytes.result.now (end sum) (Some c.new.result)
    c.write_lines.new.summing c.in_ok-write_lines.ensures c.in_ok-write_whole.ensures last)
