use Rattle.std.proofs.lemmas.Result.{on_ok_weaker, on_err_weaker}
use Rattle.cml_board.specs.{advanced}
use Rattle.cml_board.proofs.PlacingLemmas.{seen_set, seen_kept, log_within}
use Rattle.cml_board.proofs.board.objects.take_at.Goals as goal

pub returns-clause-ok : goal.returns-clause-ok
returns-clause-ok g c =
    on_ok_weaker c.take.result
    (λ changed. seen_set g.L.MessageLog.log (advanced g.L.MessageLog.CHUNK c.args.key) c.args.objects.now.items c.args.name.0
    c.index_mut.result.now c.take.new.object
    (log_within g.L.MessageLog.log c.args.objects.now.items c.args.name.0 c.requires.owed.cursor.stands) c.index_mut.ensures.value changed)
    c.take.ensures.ok

pub returns-clause-err : goal.returns-clause-err
returns-clause-err g c =
    on_err_weaker c.take.result
    (λ same. seen_kept g.L.MessageLog.log c.args.objects.now.items c.args.name.0 c.index_mut.result.now c.take.new.object
    (log_within g.L.MessageLog.log c.args.objects.now.items c.args.name.0 c.requires.owed.cursor.stands) c.index_mut.ensures.value same)
    c.take.ensures.err
