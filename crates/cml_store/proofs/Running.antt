-- An open file goes on: its text is only added to, until it is opened again.
use Rattle.std.proofs.Common.{◌≡◌, ℕ, ◌&&◌, Bool, true, false, cond, nat_lt, Option, Some, None, List, [], ◌++◌, refl, sym, ◌∙◌}
use Rattle.std.proofs.lemmas.List.{append-nil}
use Rattle.cml_store.specs.declared.stage.Stage.{Stage}
use Rattle.cml_store.specs.declared.stage.Stage.TheVariants.{Open, Lost}
use Rattle.cml_store.specs.declared.stage.Work.{Work}
use Rattle.cml_store.specs.declared.stage.Work.TheVariants.{Idle, Cutting, Growing, Storing}
use Rattle.cml_store.specs.Machine.{State, is_open, sync_of, syncing_at, work_begun, open_begun, storing_begun_at, grow_begun, growth_begun_at, work_ended, storing_ended_at, open_sync_begun, syncing_begun_at, open_sync_ended, syncing_ended_at}
use Rattle.cml_store.specs.Pair.{is_crash}
use Rattle.cml_store.specs.World.{World, Event, Accepts, BeginsStore, BeginsGrowth, EndsStore, BeginsSync, EndsSync, Forgets, IsKilled, LosesPower, text_over, accepts_at, after}
use Rattle.cml_store.proofs.Holds.{clash}

abbrev pub runs : Stage → Bool
runs Open = true
runs Lost = true
runs stage = false

work_runs : (a b c : Bool) (growth : ℕ) (s : State) → runs s.stage ≡ true → runs (work_begun a b c growth s).stage ≡ true
work_runs true true c growth s r = refl
work_runs true false c growth s r = refl
work_runs false b true growth s r = refl
work_runs false b false growth s r = r

open_runs : (work : Work) (closing : Bool) (growth : ℕ) (s : State) → runs s.stage ≡ true
    → runs (open_begun work closing growth s).stage ≡ true
open_runs Idle closing growth s r =
    work_runs (nat_lt s.stored s.accepted) (nat_lt s.grown s.accepted)
    (closing && cond (nat_lt s.synced s.accepted) false (nat_lt s.accepted s.grown)) growth s r
open_runs (Cutting to) closing growth s r = r
open_runs (Growing to) closing growth s r = r
open_runs (Storing to) closing growth s r = r

store_runs : (stage : Stage) (closing : Bool) (growth : ℕ) (s : State) → runs stage ≡ true → runs s.stage ≡ true
    → runs (storing_begun_at stage closing growth s).stage ≡ true
store_runs Open closing growth s e r = open_runs s.work closing growth s r
store_runs Lost closing growth s e r = r
store_runs stage closing growth s e r = absurd (clash e)

grow_runs : (work : Work) (wanted : Bool) (to : ℕ) (s : State) → runs s.stage ≡ true
    → runs (grow_begun work wanted to s).stage ≡ true
grow_runs Idle true to s r = refl
grow_runs Idle false to s r = r
grow_runs (Cutting at) wanted to s r = r
grow_runs (Growing at) wanted to s r = r
grow_runs (Storing at) wanted to s r = r

growth_runs : (stage : Stage) (to : ℕ) (s : State) → runs stage ≡ true → runs s.stage ≡ true
    → runs (growth_begun_at stage to s).stage ≡ true
growth_runs Open to s e r = grow_runs s.work _ to s r
growth_runs Lost to s e r = r
growth_runs stage to s e r = absurd (clash e)

work_ends : (work : Work) (done : Bool) (s : State) → runs s.stage ≡ true → runs (work_ended work done s).stage ≡ true
work_ends Idle done s r = r
work_ends (Cutting to) true s r = r
work_ends (Cutting to) false s r = r
work_ends (Growing to) true s r = r
work_ends (Growing to) false s r = r
work_ends (Storing to) true s r = r
work_ends (Storing to) false s r = r

store_ends_so : (stage : Stage) (done : Bool) (s : State) → runs stage ≡ true → runs s.stage ≡ true
    → runs (storing_ended_at stage done s).stage ≡ true
store_ends_so Open done s e r = work_ends s.work done s r
store_ends_so Lost done s e r = work_ends s.work done s r
store_ends_so stage done s e r = absurd (clash e)

open_sync_runs : (o : Option ℕ) (b : Bool) (s : State) → runs s.stage ≡ true → runs (open_sync_begun o b s).stage ≡ true
open_sync_runs None true s r = refl
open_sync_runs None false s r = r
open_sync_runs (Some to) b s r = r

sync_runs : (stage : Stage) (s : State) → runs stage ≡ true → runs s.stage ≡ true → runs (syncing_begun_at stage s).stage ≡ true
sync_runs Open s e r = open_sync_runs s.syncing (nat_lt s.synced s.stored) s r
sync_runs Lost s e r = r
sync_runs stage s e r = absurd (clash e)

open_sync_ends : (o : Option ℕ) (done : Bool) (s : State) → runs s.stage ≡ true → runs (open_sync_ended o done s).stage ≡ true
open_sync_ends None done s r = r
open_sync_ends (Some to) true s r = refl
open_sync_ends (Some to) false s r = refl

sync_ends_so : (stage : Stage) (done : Bool) (s : State) → runs stage ≡ true → runs s.stage ≡ true
    → runs (syncing_ended_at stage done s).stage ≡ true
sync_ends_so Open done s e r = open_sync_ends s.syncing done s r
sync_ends_so Lost done s e r = r
sync_ends_so stage done s e r = absurd (clash e)

open_text : (o : Option ℕ) (done : Bool) (s : State) (text : List ℕ) → text_over (sync_of o) done s text ≡ text
open_text None done s text = refl
open_text (Some to) done s text = refl

text_stays : (stage : Stage) (done : Bool) (s t : State) (text : List ℕ) → runs stage ≡ true
    → text_over (syncing_at stage s) done t text ≡ text
text_stays Open done s t text e = open_text s.syncing done t text
text_stays Lost done s t text e = refl
text_stays stage done s t text e = absurd (clash e)

-- the text goes on, if at all
pub record Grows (w v : World) : Type 0 where
  pub running : runs v.store.stage ≡ true
  pub more : List ℕ
  pub text : v.text ≡ w.text ++ more

still : (w v : World) → runs v.store.stage ≡ true → v.text ≡ w.text → Grows w v
still w v r e = record { running = r; more = []; text = e ∙ sym (append-nil w.text) }

accepts_more : (b : Bool) (piece : List ℕ) (w : World) → runs w.store.stage ≡ true → Grows w (accepts_at b piece w)
accepts_more true piece w r = record { running = r; more = piece; text = refl }
accepts_more false piece w r = still w w r refl

pub grows : (whole front : List ℕ → Bool) (limit growth : ℕ) (w : World) (event : Event) → runs w.store.stage ≡ true
    → is_crash event ≡ false → Grows w (after whole front limit growth w event)
grows whole front limit growth w (Accepts piece) r e = accepts_more (is_open w.store.stage) piece w r
grows whole front limit growth w (BeginsStore closing) r e =
    still w (after whole front limit growth w (BeginsStore closing)) (store_runs w.store.stage closing growth w.store r r) refl
grows whole front limit growth w (BeginsGrowth to) r e =
    still w (after whole front limit growth w (BeginsGrowth to)) (growth_runs w.store.stage to w.store r r) refl
grows whole front limit growth w (EndsStore done seen next) r e =
    still w (after whole front limit growth w (EndsStore done seen next)) (store_ends_so w.store.stage done w.store r r) refl
grows whole front limit growth w BeginsSync r e =
    still w (after whole front limit growth w BeginsSync) (sync_runs w.store.stage w.store r r) refl
grows whole front limit growth w (EndsSync done seen next) r e =
    still w (after whole front limit growth w (EndsSync done seen next)) (sync_ends_so w.store.stage done w.store r r)
    (text_stays w.store.stage done w.store w.store w.text r)
grows whole front limit growth w (Forgets seen next) r e = still w (after whole front limit growth w (Forgets seen next)) r refl
grows whole front limit growth w (IsKilled c next) r e = absurd (clash (sym e))
grows whole front limit growth w (LosesPower c) r e = absurd (clash (sym e))
