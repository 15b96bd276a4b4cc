use Rattle.std.proofs.Common.{rules, subst, sym}
use Rattle.cml.specs.{Tells, ending_of}
use Rattle.cml.proofs.check.checking.end_of.Goals as goal

pub returns-in-Compacted : goal.returns-in-Compacted
returns-in-Compacted g c = λ bytes so.
    subst (λ asked. Tells g.M.Written.VERSION g.M.Written.meaning g.M.Written.text asked bytes (ending_of c.compact_of.result))
    (sym c.in-Compacted.is) (c.compact_of.ensures bytes so ((c.unended.ensures.whole bytes so).0 (search rules)))

pub returns-in-Verdict : goal.returns-in-Verdict
returns-in-Verdict g c = λ bytes so. c.verdict_of.ensures bytes so ((c.unended.ensures.whole bytes so).0 (search rules))
