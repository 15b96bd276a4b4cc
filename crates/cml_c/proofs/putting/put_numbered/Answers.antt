use Rattle.cml_c.proofs.PuttingLemmas.{puts_both, puts_byte}
use Rattle.cml_c.proofs.putting.put_numbered.Goals as goal

pub returns : goal.returns
returns c = puts_both c.put_text-at.ensures (puts_byte c.put_byte-at.ensures c.put_number.ensures)
