use Rattle.cml_store.proofs.Counted.{recovers_counted}
use Rattle.cml_store.proofs.histories.kept_is_recovered.Goals as goal

pub returns : goal.returns
returns g c = λ left state entries few is. recovers_counted g.M.Written.VERSION g.M.Written.meaning left state entries few is
