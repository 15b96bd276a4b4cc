use Rattle.cml_c.proofs.PuttingLemmas.{puts_both, puts_byte}
use Rattle.cml_c.proofs.putting.put_line.Goals as goal

pub returns : goal.returns
returns g c =
    let asked = puts_both c.put_who-at.ensures (puts_byte c.put_byte-at.ensures c.put_call-at.ensures) in
    let replied = puts_both c.put_text-at.ensures c.put_reply-at.ensures in
    puts_both (puts_both asked replied) c.put_byte.ensures
