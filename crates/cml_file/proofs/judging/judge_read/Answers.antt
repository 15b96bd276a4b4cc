use Rattle.std.proofs.Common.{ℕ, List, subst}
use Rattle.cml_journal.specs.{IsRestored}
use Rattle.cml_store.specs.Texts.{is_whole_text}
use Rattle.cml_file.specs.{IsNext}
use Rattle.cml_file.proofs.JudgingLemmas.{same_front, same_length}
use Rattle.cml_file.proofs.judging.judge_read.Goals as goal

pub returns-in-Ok-clause-kept : goal.returns-in-Ok-clause-kept
returns-in-Ok-clause-kept g c =
    same_length (is_whole_text g.M.Written.VERSION g.M.Written.meaning) c.args.bytes.now c.args.text.now
    c.kept_of-kept.result c.go_on.result.kept c.requires.text c.kept_of-kept.ensures.kept
    c.kept_of-kept.ensures.within c.go_on.ensures.kept

pub returns-in-Ok-clause-restored : goal.returns-in-Ok-clause-restored
returns-in-Ok-clause-restored g c =
    subst (λ (t : List ℕ). IsRestored g.M.Written.VERSION g.M.Written.meaning t c.args.limit c.go_on.result.restored)
    (same_front c.args.bytes.now c.args.text.now c.kept_of-kept.result c.go_on.result.kept c.requires.text
    c.kept_of-kept.ensures.within c.go_on.ensures.kept)
    c.go_on.ensures.restored

pub returns-in-Ok-clause-next : goal.returns-in-Ok-clause-next
returns-in-Ok-clause-next g c =
    subst (λ (t : List ℕ). IsNext g.M.Written.VERSION g.M.Written.meaning t c.go_on.result.entries c.go_on.result.more)
    (same_front c.args.bytes.now c.args.text.now c.kept_of-kept.result c.go_on.result.kept c.requires.text
    c.kept_of-kept.ensures.within c.go_on.ensures.kept)
    c.go_on.ensures.next
