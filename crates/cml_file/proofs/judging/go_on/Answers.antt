use Rattle.cml_file.proofs.judging.go_on.Goals as goal

pub returns-clause-restored : goal.returns-clause-restored
returns-clause-restored g c = c.in-Some.ensures.restored c.args.text.now c.requires.read
