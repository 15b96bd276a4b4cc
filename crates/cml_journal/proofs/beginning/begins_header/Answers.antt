use Rattle.std.proofs.Common.{rules, ◌≡◌, ℕ, ◌≤◌, true, false, ◌&&◌, List, length, take, drop, ap, sym, ◌∙◌, arith}
use Rattle.std.specs.Prelude.{codes, nat_eq}
use Rattle.std.specs.Fmt.{decimal}
use Rattle.std.specs.List.{starts_with}
use Rattle.std.specs.Str.{bytes_eq}
use Rattle.std.proofs.lemmas.List.{take_rest}
use Rattle.cml_journal.proofs.BeginningLemmas.{begins_first, begins_both}
use Rattle.cml_journal.proofs.beginning.begins_header.Goals as goal

abbrev word : List ℕ
word = codes "journal "

pub returns-then-line : goal.returns-then-line
returns-then-line c =
    let line = c.args.line.now in
    let short : length line ≤ length word = omega (arith, c.if-line.true) in
    c.starts_with.ensures.value ∙ sym (begins_first word (decimal c.args.version) line short)

pub returns-then-eq : goal.returns-then-eq
returns-then-eq c =
    let line = c.args.line.now in
    let number = decimal c.args.version in
    let long : length word ≤ length line = omega (arith, c.if-line.false) in
    let same : bytes_eq (take (length word) line) word ≡ true = search rules in
    c.begins_number.ensures
    ∙ ap (λ (rest : List ℕ). starts_with nat_eq number rest) (take_rest line 8)
    ∙ sym (begins_both word number line long ∙ ap (λ t. t && starts_with nat_eq number (drop 8 line)) same)

pub returns-else-eq : goal.returns-else-eq
returns-else-eq c =
    let line = c.args.line.now in
    let number = decimal c.args.version in
    let long : length word ≤ length line = omega (arith, c.if-line.false) in
    let other : bytes_eq (take (length word) line) word ≡ false = search rules in
    let told : c.eq.result ≡ false = search rules in
    told ∙ sym (begins_both word number line long ∙ ap (λ t. t && starts_with nat_eq number (drop 8 line)) other)
