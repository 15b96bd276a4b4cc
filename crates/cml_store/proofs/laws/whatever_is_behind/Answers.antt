use Rattle.cml_store.proofs.Keeping.{behind_sure}
use Rattle.cml_store.proofs.laws.whatever_is_behind.Goals as goal

pub returns : goal.returns
returns c whole text left mark le lc same is_printed is_whole = behind_sure whole text left mark le lc same is_printed is_whole
