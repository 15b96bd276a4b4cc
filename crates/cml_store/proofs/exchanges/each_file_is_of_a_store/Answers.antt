use Rattle.cml_store.proofs.Crossings.{of_stores}
use Rattle.cml_store.proofs.exchanges.each_file_is_of_a_store.Goals as goal

pub returns : goal.returns
returns c whole front limit growth long short p is = of_stores whole front limit growth long short p is
