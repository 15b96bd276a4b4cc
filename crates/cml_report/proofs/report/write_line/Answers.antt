use Rattle.std.proofs.Common.{◌∙◌, sym}
use Rattle.cml_report.proofs.report.write_line.Goals as goal

pub object-requires : goal.object-requires
object-requires c = (c.requires.object.0, (c.args.name.now, c.args.named, c.requires.named, c.requires.object.1))

pub write_state-requires : goal.write_state-requires
write_state-requires c =
    c.in-Some.ensures.kind c.requires.object.0 (c.args.name.now, c.args.named, c.requires.named, c.requires.object.1)
    ∙ sym c.requires.object.1
