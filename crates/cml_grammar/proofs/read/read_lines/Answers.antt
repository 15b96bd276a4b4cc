use Rattle.std.proofs.Common.{subst, sym}
use Rattle.cml_grammar.specs.{IsFaultOf}
use Rattle.cml_grammar.proofs.LinesLemmas.{reads_on-line, fault-line}
use Rattle.cml_grammar.proofs.ScriptLemmas.{fault_of_text, reads_all, script_short}
use Rattle.cml_grammar.proofs.read.read_lines.Goals as goal

pub returns-in-Err-clause-fault : goal.returns-in-Err-clause-fault
returns-in-Err-clause-fault c =
    let l = c.loop-line in
    subst (IsFaultOf c.args.text.now) (sym c.at.ensures)
    (fault_of_text c.args.text.now _ c.requires
    (fault-line c.args.text.now l.reading l.number l.rest.now c.in-Some.line.now c.in-Some.later.now c.in-Err.what l.invariant
    c.in-Some.ensures.0 c.in-Err.ensures.fault))

pub loop-line-preserved : goal.loop-line-preserved
loop-line-preserved c =
    let l = c.loop-line in
    let read = c.in_default-read_line.ensures in
    reads_on-line c.args.text.now l.reading c.read_line.new.self l.number l.rest.now c.in-Some.line.now c.in-Some.later.now l.invariant
    c.in-Some.ensures.0 c.in-Some.ensures.1 read.fits read.lines read.scope

pub returns-in-None : goal.returns-in-None
returns-in-None c =
    let l = c.loop-line in
    let script =
    reads_all c.args.text.now l.reading l.number l.rest.now c.requires l.invariant c.in_default.ensures (sym c.in-None.ensures) in
    let short = script_short c.args.text.now l.reading script in
    record { script = script; few = short.0; narrow = short.1; short = short.2; fault = tt }
