-- How far an exchange has come, and which file the name leads to.
use Rattle.std.proofs.Common.{◌≡◌, Bool, true, false, refl}
use Rattle.cml_store.specs.declared.exchange.Way.{Way}
use Rattle.cml_store.specs.declared.exchange.Way.TheVariants.{Beside, Renaming, Renamed, Naming, Over, Left, Lost}
use Rattle.cml_store.specs.declared.step.Step.{Step}
use Rattle.cml_store.specs.declared.step.Step.TheVariants.{SyncFolder}
use Rattle.cml_store.specs.Exchange.{Holder, Old, Either, New, holder, begun_at, move_of, asked_at, ended_at, cancelled_at}
use Rattle.cml_store.specs.Pair.{Name, IsOld, IsMoving, IsMoved, IsNew, HasName, is_crash, name_begun, name_synced, name_ended, name_opened, name_found, found_by, opened_by}
use Rattle.cml_store.specs.World.{Event, EndsSync, IsKilled, LosesPower}
use Rattle.cml_store.proofs.Holds.{clash}

abbrev pub Fits : Way → Name → Type 0
Fits Beside IsOld = Unit {0}
Fits Renaming IsMoving = Unit {0}
Fits Renamed IsMoved = Unit {0}
Fits Renamed IsNew = Unit {0}
Fits Naming IsMoved = Unit {0}
Fits Naming IsNew = Unit {0}
Fits Over IsNew = Unit {0}
Fits Left IsOld = Unit {0}
Fits Lost IsMoved = Unit {0}
Fits Lost IsNew = Unit {0}
Fits way name = ⊥

-- a file that may be found is in charge
abbrev pub HasHolder : Holder → (is_new : Bool) → Type 0
HasHolder Old false = Unit {0}
HasHolder Old true = ⊥
HasHolder Either is_new = Unit {0}
HasHolder New false = ⊥
HasHolder New true = Unit {0}

pub has : (way : Way) (name : Name) (is_new : Bool) → Fits way name → HasName name is_new → HasHolder (holder way) is_new
has Beside IsOld false f h = tt
has Beside IsOld true f h = h
has Left IsOld false f h = tt
has Left IsOld true f h = h
has Over IsNew false f h = h
has Over IsNew true f h = tt
has Renaming name is_new f h = tt
has Renamed name is_new f h = tt
has Naming name is_new f h = tt
has Lost name is_new f h = tt
has way name is_new f h = absurd f

fits_synced : (way : Way) (name : Name) → Fits way name → Fits way (name_synced name)
fits_synced way IsOld f = f
fits_synced way IsMoving f = f
fits_synced way IsNew f = f
fits_synced Renamed IsMoved f = tt
fits_synced Naming IsMoved f = tt
fits_synced Lost IsMoved f = tt
fits_synced way IsMoved f = absurd f

fits_same : (way : Way) (step : Step) (event : Event) (name : Name) → Fits way name → Fits way (name_opened step event name)
fits_same way SyncFolder (EndsSync true seen next) name f = fits_synced way name f
fits_same way step event name f = f

fits_over : (name : Name) → Fits Lost name → Fits Over (name_synced name)
fits_over IsMoved f = tt
fits_over IsNew f = tt
fits_over name f = absurd f

pub fits_opened : (way : Way) (step : Step) (event : Event) (name : Name) → Fits way name
    → Fits (opened_by way step event) (name_opened step event name)
fits_opened Lost SyncFolder (EndsSync true seen next) name f = fits_over name f
fits_opened Lost step event name f = f
fits_opened Beside step event name f = fits_same Beside step event name f
fits_opened Renaming step event name f = fits_same Renaming step event name f
fits_opened Renamed step event name f = fits_same Renamed step event name f
fits_opened Naming step event name f = fits_same Naming step event name f
fits_opened Over step event name f = fits_same Over step event name f
fits_opened Left step event name f = fits_same Left step event name f

pub fits_begun : (way : Way) (b : Bool) (name : Name) → Fits way name → Fits (begun_at way b) (name_begun (asked_at way b) name)
fits_begun Beside true name f = tt
fits_begun Beside false name f = f
fits_begun Renaming b name f = f
fits_begun Renamed b IsMoved f = tt
fits_begun Renamed b IsNew f = tt
fits_begun Renamed b name f = absurd f
fits_begun Naming b name f = f
fits_begun Over b name f = f
fits_begun Left b name f = f
fits_begun Lost b name f = f

pub fits_ended : (way : Way) (done : Bool) (name : Name) → Fits way name
    → Fits (ended_at way done) (name_ended (move_of way) done name)
fits_ended Beside done name f = f
fits_ended Renaming true name f = tt
fits_ended Renaming false name f = tt
fits_ended Renamed done name f = f
fits_ended Naming true IsMoved f = tt
fits_ended Naming true IsNew f = tt
fits_ended Naming false IsMoved f = tt
fits_ended Naming false IsNew f = tt
fits_ended Naming done name f = absurd f
fits_ended Over done name f = f
fits_ended Left done name f = f
fits_ended Lost done name f = f

pub fits_given : (way : Way) (name : Name) → Fits way name → Fits (cancelled_at way) name
fits_given Beside IsOld f = tt
fits_given Beside name f = absurd f
fits_given Renaming name f = f
fits_given Renamed name f = f
fits_given Naming name f = f
fits_given Over name f = f
fits_given Left name f = f
fits_given Lost name f = f

pub fits_found : (way : Way) (event : Event) (name : Name) → is_crash event ≡ true → Fits way name → HasName name true
    → Fits (found_by event (holder way)) (name_found event name)
fits_found way (LosesPower c) name e f h = tt
fits_found Beside (IsKilled c next) IsOld e f h = absurd h
fits_found Left (IsKilled c next) IsOld e f h = absurd h
fits_found Over (IsKilled c next) IsNew e f h = tt
fits_found Renaming (IsKilled c next) IsMoving e f h = tt
fits_found Renamed (IsKilled c next) IsMoved e f h = tt
fits_found Renamed (IsKilled c next) IsNew e f h = tt
fits_found Naming (IsKilled c next) IsMoved e f h = tt
fits_found Naming (IsKilled c next) IsNew e f h = tt
fits_found Lost (IsKilled c next) IsMoved e f h = tt
fits_found Lost (IsKilled c next) IsNew e f h = tt
fits_found way (IsKilled c next) name e f h = absurd f
fits_found way event name e f h = absurd (clash e)

pub still_old : (step : Step) (event : Event) → name_opened step event IsOld ≡ IsOld
still_old SyncFolder (EndsSync true seen next) = refl
still_old step event = refl
