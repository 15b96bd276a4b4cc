use Rattle.std.proofs.Common.{◌≡◌, ◌⊎◌, inl, inr, Bool, true, false, refl}
use Rattle.cml_store.specs.declared.exchange.Way.{Way}
use Rattle.cml_store.specs.declared.exchange.Way.TheVariants.{Beside, Renaming, Renamed, Naming, Over, Left, Lost}
use Rattle.cml_store.specs.declared.exchange.Move.TheVariants.{Nothing, Rename, SyncFolder}
use Rattle.cml_store.specs.Exchange.{covers, asked_at}
use Rattle.cml_store.proofs.exchanges.exchange_goes_on.Goals as goal

rename_is : Rename ≡ Nothing → ⊥
rename_is e = cc

folder_is : SyncFolder ≡ Nothing → ⊥
folder_is e = cc

by : (way : Way) (b : Bool) → asked_at way b ≡ Nothing
    → (way ≡ Renaming) ⊎ (way ≡ Naming) ⊎ ((way ≡ Beside) × (b ≡ false)) ⊎ (way ≡ Over) ⊎ (way ≡ Left) ⊎ (way ≡ Lost)
by Beside true none = absurd (rename_is none)
by Beside false none = inr (inr (inl (refl, refl)))
by Renaming b none = inl refl
by Renamed b none = absurd (folder_is none)
by Naming b none = inr (inl refl)
by Over b none = inr (inr (inr (inl refl)))
by Left b none = inr (inr (inr (inr (inl refl))))
by Lost b none = inr (inr (inr (inr (inr refl))))

pub returns : goal.returns
returns c e old new none = by e.way (covers e old new) none
