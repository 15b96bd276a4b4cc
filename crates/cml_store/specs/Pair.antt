-- A journal's file and a new one that takes its name: every schedule of both stores and of the exchange, failures, kills and losses
-- of power.
use Rattle.std.specs.Prelude.{◌≡◌, ℕ, ◌≤◌, Bool, true, false, List, [], ◌∷◌, ◌++◌, length, take, drop}
use Rattle.cml_store.specs.declared.exchange.Move.{Move}
use Rattle.cml_store.specs.declared.exchange.Move.TheVariants.{Nothing, Rename, SyncFolder}
use Rattle.cml_store.specs.declared.exchange.Way.{Way}
use Rattle.cml_store.specs.declared.exchange.Way.TheVariants.{Beside, Over, Left, Lost}
use Rattle.cml_store.specs.declared.stage.Stage.TheVariants.{Open}
use Rattle.cml_store.specs.declared.step.Step.{Step}
use Rattle.cml_store.specs.declared.step.Step.TheVariants.{SyncFolder as SyncsFolder}
use Rattle.cml_store.specs.Exchange.{Crossing, Holder, Old, Either, New, holder, counted, covers, begun_at, move_of, asked_at, ended_at, cancelled_at}
use Rattle.cml_store.specs.Machine.{syncing_of}
use Rattle.cml_store.specs.Recovery.{recovered}
use Rattle.cml_store.specs.Texts.{IsFrontOf}
use Rattle.cml_store.specs.World.{World, Event, Accepts, BeginsStore, BeginsGrowth, EndsStore, BeginsSync, EndsSync, Forgets, IsKilled, LosesPower, KeepsMemory, after, MayHappen, fresh, run, MayRun}

-- Which file the name leads to. It is the old one; the new file is being renamed, which is done or not; that is done, but maybe in
-- memory alone; or it is on the disk.
pub data Name : Type 0 where
  IsOld : Name
  IsMoving : Name
  IsMoved : Name
  IsNew : Name

-- both files, how far the exchange has come, and the name
pub record Pair : Type 0 where
  pub old : World
  pub new : World
  pub way : Way
  pub name : Name

-- What may happen next: something to one of the files, or to the exchange. After a kill or a loss of power the file that has the
-- name is opened.
pub data Happening : Type 0 where
  OnOld : Event → Happening
  OnNew : Event → Happening
  BeginsMove : Happening
  EndsMove : (done : Bool) → Happening
  Cancels : Happening
  Reopens : (is_new : Bool) → Event → Happening

-- whether an event is a kill or a loss of power
abbrev pub is_crash : Event → Bool
is_crash (Accepts piece) = false
is_crash (BeginsStore closing) = false
is_crash (BeginsGrowth to) = false
is_crash (EndsStore done seen next) = false
is_crash BeginsSync = false
is_crash (EndsSync done seen next) = false
is_crash (Forgets seen next) = false
is_crash (IsKilled c next) = true
is_crash (LosesPower c) = true

-- A kill or a loss of power may find this file under the name. A kill finds less once the new file is renamed.
abbrev pub HasName : Name → (is_new : Bool) → Type 0
HasName IsOld false = Unit {0}
HasName IsOld true = ⊥
HasName IsMoving is_new = Unit {0}
HasName IsMoved is_new = Unit {0}
HasName IsNew false = ⊥
HasName IsNew true = Unit {0}

-- a step of the exchange begins, and ends: what it does to the name
abbrev pub name_begun : Move → Name → Name
name_begun Rename name = IsMoving
name_begun Nothing name = name
name_begun SyncFolder name = name

-- a folder that was synced keeps the name
abbrev pub name_synced : Name → Name
name_synced IsOld = IsOld
name_synced IsMoving = IsMoving
name_synced IsMoved = IsNew
name_synced IsNew = IsNew

abbrev pub name_ended : Move → Bool → Name → Name
name_ended Rename true name = IsMoved
name_ended Rename false name = IsOld
name_ended SyncFolder true name = name_synced name
name_ended SyncFolder false name = name
name_ended Nothing done name = name

-- an opening syncs the folder too
abbrev pub name_opened : Step → Event → Name → Name
name_opened SyncsFolder (EndsSync true seen next) name = name_synced name
name_opened step event name = name

-- the new file was found under the name
abbrev pub name_found : Event → Name → Name
name_found (LosesPower c) name = IsNew
name_found event IsNew = IsNew
name_found event name = IsMoved

abbrev pub file_of : Bool → Pair → World
file_of false p = p.old
file_of true p = p.new

-- It counts alone then, if the name is on the disk.
abbrev pub found_by : Event → Holder → Way
found_by (LosesPower c) h = Over
found_by (IsKilled c next) New = Over
found_by event h = Lost

-- An opening of the new file syncs the folder, and ends well: then the name is on the disk.
abbrev pub opened_at : Step → Event → Way
opened_at SyncsFolder (EndsSync true seen next) = Over
opened_at step event = Lost

abbrev pub opened_by : Way → Step → Event → Way
opened_by Lost step event = opened_at step event
opened_by way step event = way

-- The new file begins with the short text, which stands for the long one, with which the old file begins.
module _ (long short : List ℕ) where
  abbrev pub crossing : Way → Crossing
  crossing way = record { taken = length long; short = length short; way = way }

  -- The new file is given the short text, and then what follows the long one in the old file. Once the exchange is over, it is given
  -- its own.
  abbrev pub IsNext : (old new : List ℕ) → Event → Type 0
  IsNext old new (Accepts piece) = IsFrontOf (new ++ piece) (short ++ drop (length long) old)
  IsNext old new event = Unit {0}

  abbrev pub IsCopied : Holder → (old new : List ℕ) → Event → Type 0
  IsCopied Old old new event = IsNext old new event
  IsCopied Either old new event = IsNext old new event
  IsCopied New old new event = Unit {0}

  -- the text that was accepted, as if the old file went on
  abbrev pub text_at : Holder → (old new : List ℕ) → List ℕ
  text_at Old old new = old
  text_at Either old new = old
  text_at New old new = long ++ drop (length short) new

  abbrev pub text_of : Pair → List ℕ
  text_of p = text_at (holder p.way) p.old.text p.new.text

  -- how much of it a kill keeps, and how much a loss of power
  abbrev pub stored_of : Pair → ℕ
  stored_of p = counted (crossing p.way) p.old.stored p.new.stored

  abbrev pub synced_of : Pair → ℕ
  synced_of p = counted (crossing p.way) p.old.synced p.new.synced

module _ (whole front : List ℕ → Bool) (limit growth : ℕ) where
  -- what a store's run leaves
  abbrev pub IsOfStore : World → Type 0
  IsOfStore w =
      (events : List Event) × MayRun whole front limit growth (fresh whole front limit growth) events
      × (run whole front limit growth (fresh whole front limit growth) events ≡ w)

module _ (whole front : List ℕ → Bool) (limit growth : ℕ) (long short : List ℕ) where
  abbrev pub reopened : Bool → Event → Pair → Pair
  reopened false event p = record p { old = after whole front limit growth p.old event; way = Left; name = IsOld }
  reopened true event p =
      record p {
        new = after whole front limit growth p.new event;
        way = found_by event (holder p.way);
        name = name_found event p.name;
      }

  abbrev pub after_pair : Pair → Happening → Pair
  after_pair p (OnOld event) = record p { old = after whole front limit growth p.old event }
  after_pair p (OnNew event) =
      record p {
        new = after whole front limit growth p.new event;
        way = opened_by p.way (syncing_of p.new.store) event;
        name = name_opened (syncing_of p.new.store) event p.name;
      }
  after_pair p BeginsMove =
      record p {
        way = begun_at p.way (covers (crossing long short p.way) p.old.store p.new.store);
        name = name_begun (asked_at p.way (covers (crossing long short p.way) p.old.store p.new.store)) p.name;
      }
  after_pair p (EndsMove done) = record p { way = ended_at p.way done; name = name_ended (move_of p.way) done p.name }
  after_pair p Cancels = record p { way = cancelled_at p.way }
  after_pair p (Reopens is_new event) = reopened is_new event p

  abbrev pub MayBe : Pair → Happening → Type 0
  MayBe p (OnOld event) = (is_crash event ≡ false) × MayHappen whole front limit growth p.old event
  MayBe p (OnNew event) =
      (is_crash event ≡ false) × IsCopied long short (holder p.way) p.old.text p.new.text event × MayHappen whole front limit growth p.new event
  MayBe p BeginsMove = Unit {0}
  MayBe p (EndsMove done) = Unit {0}
  MayBe p Cancels = Unit {0}
  MayBe p (Reopens is_new event) =
      (is_crash event ≡ true) × HasName p.name is_new
      × MayHappen whole front limit growth (file_of is_new p) event

  abbrev pub run_pair : Pair → List Happening → Pair
  run_pair p [] = p
  run_pair p (happening ∷ happenings) = run_pair (after_pair p happening) happenings

  abbrev pub MayRunPair : Pair → List Happening → Type 0
  MayRunPair p [] = Unit {0}
  MayRunPair p (happening ∷ happenings) = MayBe p happening × MayRunPair (after_pair p happening) happenings

  -- an exchange of an open file begins, beside which a new one is made
  abbrev pub pair_of : World → Pair
  pair_of w = record { old = w; new = fresh whole front limit growth; way = Beside; name = IsOld }

  -- What a run of an exchange leaves, which began with an open file.
  pub record IsReached (p : Pair) : Type 0 where
    pub begun : World
    pub is_of_store : IsOfStore whole front limit growth begun
    pub is_open : begun.store.stage ≡ Open
    pub rest : List ℕ
    pub text : begun.text ≡ long ++ rest
    pub happenings : List Happening
    pub may : MayRunPair (pair_of begun) happenings
    pub is : run_pair (pair_of begun) happenings ≡ p

  -- what recovery keeps of a file means the same as a front of the text, with all up to a mark
  abbrev pub StandsFor : (List ℕ → List ℕ) → ℕ → Pair → List ℕ → Type 0
  StandsFor means mark p c =
      (n : ℕ) × (mark ≤ n) × (n ≤ length (text_of long short p)) × (means (recovered whole c) ≡ means (take n (text_of long short p)))

-- the system keeps what it has of both files
abbrev pub KeepsBoth : Happening → Type 0
KeepsBoth (OnOld event) = KeepsMemory event
KeepsBoth (OnNew event) = KeepsMemory event
KeepsBoth BeginsMove = Unit {0}
KeepsBoth (EndsMove done) = Unit {0}
KeepsBoth Cancels = Unit {0}
KeepsBoth (Reopens is_new event) = KeepsMemory event

abbrev pub AllKeepBoth : List Happening → Type 0
AllKeepBoth [] = Unit {0}
AllKeepBoth (happening ∷ happenings) = KeepsBoth happening × AllKeepBoth happenings
