-- The marks of an exchange never fall.
use Rattle.std.proofs.Common.{◌≡◌, ℕ, ◌+◌, ◌-◌, ◌^◌, ◌≤◌, min, Bool, true, false, List, [], ◌++◌, length, take, drop, refl, sym, ◌∙◌, ap, arith, append_assoc, length-append, length-drop}
use Rattle.std.proofs.lemmas.List.{drop-take, take-append-le, drop-append-le}
use Rattle.std.proofs.Math.Nat.{min-le_left, min-le_right, le-min}
use Rattle.std.proofs.Math.Seq.{take-append-add, drop-append_seam}
use Rattle.cml_store.specs.declared.exchange.Way.{Way}
use Rattle.cml_store.specs.declared.exchange.Way.TheVariants.{Beside, Renaming, Renamed, Naming, Over, Left, Lost}
use Rattle.cml_store.specs.declared.step.Step.{Step}
use Rattle.cml_store.specs.declared.step.Step.TheVariants.{SyncFolder}
use Rattle.cml_store.specs.Exchange.{Holder, Old, Either, New, holder, counted_at, begun_at, ended_at, cancelled_at}
use Rattle.cml_store.specs.Pair.{is_crash, found_by, opened_at, opened_by, crossing, text_at}
use Rattle.cml_store.specs.World.{World, Event, EndsSync, IsKilled, LosesPower}
use Rattle.cml_store.proofs.Holds.{clash}
use Rattle.cml_store.proofs.Keeping.{take_take}
use Rattle.cml_store.proofs.Names.{HasHolder}
use Rattle.cml_store.proofs.Pairs.{Covered, AtHolder}
use Rattle.cml_store.proofs.Runs.{Stays}

less : (m n : ℕ) (x y : List ℕ) → m ≤ n → take n y ≡ take n x → take m y ≡ take m x
less m n x y le e = sym (take_take m n y le) ∙ ap (take m) e ∙ take_take m n x le

module _ (long short : List ℕ) where
  abbrev at : ℕ → ℕ
  at mark = min (length long + (mark - length short)) (2 ^ 64 - 1)

  at_most : (a b : ℕ) → a ≤ b → at a ≤ at b
  at_most a b le =
      le-min (omega (arith, le, min-le_left (length long + (a - length short)) (2 ^ 64 - 1)))
      (min-le_right (length long + (a - length short)) (2 ^ 64 - 1))

  both_most : (a b c d : ℕ) → a ≤ c → b ≤ d → min a (at b) ≤ min c (at d)
  both_most a b c d le also =
      le-min (omega (arith, le, min-le_left a (at b))) (omega (arith, at_most b d also, min-le_right a (at b)))

  -- behind the long text is what is behind the short one
  same_behind : (mark : ℕ) (x y : List ℕ) → length short ≤ mark → take mark y ≡ take mark x
      → take (length long + (mark - length short)) (long ++ drop (length short) y)
      ≡ take (length long + (mark - length short)) (long ++ drop (length short) x)
  same_behind mark x y low e =
      let k = mark - length short in
      let sum : length short + k ≡ mark = omega (arith, low) in
      let part : (t : List ℕ) → drop (length short) (take mark t) ≡ take k (drop (length short) t) = λ t.
      ap (λ n. drop (length short) (take n t)) (sym sum) ∙ drop-take (length short) k t in
      take-append-add long (drop (length short) y) k
      ∙ ap (λ t. long ++ t) (sym (part y) ∙ ap (drop (length short)) e ∙ part x)
      ∙ sym (take-append-add long (drop (length short) x) k)

  -- the name may go from one file to the other
  abbrev pub MayGo : Holder → Holder → (old new : ℕ) → Type 0
  MayGo Old Old a b = Unit {0}
  MayGo Old Either a b = a ≤ at b
  MayGo Old New a b = ⊥
  MayGo Either k a b = Unit {0}
  MayGo New New a b = Unit {0}
  MayGo New k a b = ⊥

  -- what the new file has of what both have
  abbrev pub IsShared : Holder → ℕ → (x y : List ℕ) → Type 0
  IsShared Old b x y = Unit {0}
  IsShared Either b x y =
      (length short ≤ b) × ((m : ℕ) → m ≤ length long + (b - length short) → take m (long ++ drop (length short) y) ≡ take m x)
  IsShared New b x y = length short ≤ b

  pub goes : (h k : Holder) (v w : Way) (a b c d : ℕ) (x y z u : List ℕ) → MayGo h k a b → IsShared h b x y → Stays a c x z
      → Stays b d y u
      → Stays (counted_at h (crossing long short v) a b) (counted_at k (crossing long short w) c d) (text_at long short h x y)
      (text_at long short k z u)
  goes Old Old v w a b c d x y z u may s old new = old
  goes Old Either v w a b c d x y z u may s old new =
      record { later = le-min old.later (omega (arith, may, at_most b d new.later)); same = old.same }
  goes Old New v w a b c d x y z u may s old new = absurd may
  goes Either Old v w a b c d x y z u may s old new = record {
    later = omega (arith, old.later, min-le_left a (at b));
    same = less (min a (at b)) a x z (min-le_left a (at b)) old.same;
  }
  goes Either Either v w a b c d x y z u may s old new = record {
    later = both_most a b c d old.later new.later;
    same = less (min a (at b)) a x z (min-le_left a (at b)) old.same;
  }
  goes Either New v w a b c d x y z u may s old new =
      let n = length long + (b - length short) in
      let low : min a (at b) ≤ n = omega (arith, min-le_right a (at b), min-le_left n (2 ^ 64 - 1)) in
      record {
        later = omega (arith, at_most b d new.later, min-le_right a (at b));
        same = less (min a (at b)) n (long ++ drop (length short) y) (long ++ drop (length short) u) low
            (same_behind b y u s.0 new.same) ∙ s.1 (min a (at b)) low;
      }
  goes New Old v w a b c d x y z u may s old new = absurd may
  goes New Either v w a b c d x y z u may s old new = absurd may
  goes New New v w a b c d x y z u may s old new =
      let n = length long + (b - length short) in
      record {
        later = at_most b d new.later;
        same = less (at b) n (long ++ drop (length short) y) (long ++ drop (length short) u) (min-le_left n (2 ^ 64 - 1))
            (same_behind b y u s new.same);
      }

  pub same_way : (h : Holder) (a b : ℕ) → MayGo h h a b
  same_way Old a b = tt
  same_way Either a b = tt
  same_way New a b = tt

  opens_way : (step : Step) (event : Event) (a b : ℕ) → MayGo Either (holder (opened_at step event)) a b
  opens_way SyncFolder (EndsSync true seen next) a b = tt
  opens_way step event a b = tt

  pub new_way : (way : Way) (step : Step) (event : Event) (a b : ℕ) → MayGo (holder way) (holder (opened_by way step event)) a b
  new_way Lost step event a b = opens_way step event a b
  new_way Beside step event a b = tt
  new_way Renaming step event a b = tt
  new_way Renamed step event a b = tt
  new_way Naming step event a b = tt
  new_way Over step event a b = tt
  new_way Left step event a b = tt

  pub begun_way : (way : Way) (b : Bool) (old new : ℕ) → (b ≡ true → old ≤ at new) → MayGo (holder way) (holder (begun_at way b)) old new
  begun_way Beside true old new le = le refl
  begun_way Beside false old new le = tt
  begun_way Renaming b old new le = tt
  begun_way Renamed b old new le = tt
  begun_way Naming b old new le = tt
  begun_way Over b old new le = tt
  begun_way Left b old new le = tt
  begun_way Lost b old new le = tt

  pub ended_way : (way : Way) (done : Bool) (a b : ℕ) → MayGo (holder way) (holder (ended_at way done)) a b
  ended_way Beside done a b = tt
  ended_way Renaming true a b = tt
  ended_way Renaming false a b = tt
  ended_way Renamed done a b = tt
  ended_way Naming true a b = tt
  ended_way Naming false a b = tt
  ended_way Over done a b = tt
  ended_way Left done a b = tt
  ended_way Lost done a b = tt

  pub given_way : (way : Way) (a b : ℕ) → MayGo (holder way) (holder (cancelled_at way)) a b
  given_way Beside a b = tt
  given_way Renaming a b = tt
  given_way Renamed a b = tt
  given_way Naming a b = tt
  given_way Over a b = tt
  given_way Left a b = tt
  given_way Lost a b = tt

  pub found_old : (h : Holder) (a b : ℕ) → HasHolder h false → MayGo h Old a b
  found_old Old a b has = tt
  found_old Either a b has = tt
  found_old New a b has = absurd has

  pub found_new : (h : Holder) (event : Event) (a b : ℕ) → is_crash event ≡ true → HasHolder h true
      → MayGo h (holder (found_by event h)) a b
  found_new Old event a b e has = absurd has
  found_new Either event a b e has = tt
  found_new New (IsKilled c next) a b e has = tt
  found_new New (LosesPower c) a b e has = tt
  found_new New event a b e has = absurd (clash e)

module _ (whole front : List ℕ → Bool) (limit growth : ℕ) (long short : List ℕ) (none : whole [] ≡ true) where
  -- where both have the text, it is the same
  shared : (old new : World) → Covered whole front limit growth long short none old new → length short ≤ length new.text
      → (m mark : ℕ) → mark ≤ length new.text → m ≤ length long + (mark - length short)
      → take m (long ++ drop (length short) new.text) ≡ take m old.text
  shared old new c low m mark within le =
      let j = c.joined in
      let tail = j.goes.0 in
      let s = length short in
      let rest : j.rest ≡ drop s new.text ++ tail =
      sym (drop-append_seam short j.rest) ∙ ap (drop s) j.goes.1 ∙ drop-append-le s new.text tail low in
      let all : old.text ≡ (long ++ drop s new.text) ++ tail =
      j.begins ∙ ap (λ t. long ++ t) rest ∙ sym (append_assoc long (drop s new.text) tail) in
      sym (take-append-le m (long ++ drop s new.text) tail
      (omega (arith, le, within, length-append long (drop s new.text), length-drop s new.text)))
      ∙ ap (take m) (sym all)

  pub shares : (h : Holder) (old new : World) (mark : ℕ) → AtHolder whole front limit growth long short none h old new → new.synced ≤ mark → mark ≤ length new.text
      → IsShared long short h mark old.text new.text
  shares Old old new mark at le within = tt
  shares Either old new mark at le within =
      let low : length short ≤ mark = omega (arith, at.high, le) in
      (low, λ m below. shared old new at (omega (arith, low, within)) m mark within below)
  shares New old new mark at le within = omega (arith, at.high, le)
