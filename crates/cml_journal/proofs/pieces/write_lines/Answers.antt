use Rattle.std.specs.List.{flat_map}
use Rattle.std.proofs.Common.{◌≡◌, ℕ, List, [], ◌∷◌, ◌++◌, take, string_bytes, ap, sym, subst, ◌∙◌, append_assoc}
use Rattle.std.proofs.lemmas.List.{append-nil}
use Rattle.cml_board.specs.{Entry}
use Rattle.cml_journal.specs.{line_of, with_line_end, WritesSummed}
use Rattle.cml_journal.proofs.PartLemmas.{writes_none, writes_more, lines_more}
use Rattle.cml_journal.proofs.pieces.write_lines.Goals as goal

pub loop-entry-init : goal.loop-entry-init
loop-entry-init g c =
    let contents = g.W.Write.contents c.args.writer.now in
    let text = string_bytes c.args.text.now in
    subst (λ (t : List ℕ). WritesSummed contents contents t text c.args.summing.now c.args.summing.now) (sym (append-nil text))
    (writes_none contents text c.args.summing.now)

pub loop-entry-preserved : goal.loop-entry-preserved
loop-entry-preserved g c =
    let text = string_bytes c.args.text.now in
    let entries = c.args.entries.now in
    let i = c.loop-entry.entry-index in
    let entry = c.entry-item.result in
    let line = λ (e : Entry g.row.M.Denot). with_line_end (line_of g.M.Written.text e) in
    let added : string_bytes c.push_str.new.self ≡ string_bytes c.loop-entry.text ++ line entry = c.in_ok-push_str.ensures.bytes
    ∙ ap (λ (t : List ℕ). t ++ 10 ∷ []) c.in_ok-write_entry.ensures
    ∙ append_assoc (string_bytes c.loop-entry.text) (line_of g.M.Written.text entry) (10 ∷ []) in
    let more = writes_more _ _ _ _ (string_bytes c.loop-entry.text) (string_bytes c.push_str.new.self) (line entry)
    (string_bytes c.write_much.new.text) _ _ _ c.loop-entry.invariant added c.in_ok-write_much.ensures in
    let next = ap (λ (e : Entry g.row.M.Denot). (text ++ flat_map line (take i entries)) ++ line e) c.entry-item.is
    ∙ lines_more line text entries i entry c.loop-entry-test.true in
    subst (λ (t : List ℕ). WritesSummed (g.W.Write.contents c.args.writer.now) (g.W.Write.contents c.write_much.new.writer) t
    (string_bytes c.write_much.new.text) c.args.summing.now c.write_much.new.summing) next more
