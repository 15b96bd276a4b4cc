use Rattle.std.proofs.Common.{string_bytes}
use Rattle.cml_journal.proofs.PartLemmas.{writes_none}
use Rattle.cml_journal.proofs.pieces.write_much.Goals as goal

pub returns-then-len-lt-MANY : goal.returns-then-len-lt-MANY
returns-then-len-lt-MANY g c =
    writes_none (g.W.Write.contents c.args.writer.now) (string_bytes c.args.text.now) c.args.summing.now
