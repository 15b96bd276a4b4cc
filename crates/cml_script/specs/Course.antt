-- The inside of `work`: how far a thread has come, and what one step does.
use Rattle.std.specs.Prelude.{ℕ, ◌≡◌, ◌+◌, ◌<◌, ◌^◌, if◌then◌else◌, Bool, true, List, [], ◌∷◌, ◌++◌, length, take, Option, None, IfSome, ⊤}
use Rattle.std.specs.Option.{option_map}
use Rattle.cml_board.specs.{Refusal, entries_in}
use Rattle.cml_threads.specs.{suits}
use Rattle.cml_grammar.specs.{Lines}
use Rattle.cml_script.specs.declared.worker.Course.{Course}
use Rattle.cml_script.specs.declared.worker.Turn.{Turn}
use Rattle.cml_report.specs.Counting.{how_many}
use Rattle.cml_report.specs.Schedule.{History, declared_count, is_seated, earlier}
use Rattle.cml_script.specs.Apart.{Apart, AreNextApart, earlier_apart}
use Rattle.cml_report.specs.Bindings.{AreBindings}
use Rattle.cml_script.specs.Working.{Made, with_closed, with_refused, IsOpening, IsTurn, AreBySeat, AreNextSteps}
use Rattle.cml_report.specs.Plan.{IsKnown}

-- all its lanes are closed, if any are to be
abbrev pub closed_if : Bool → Option Made → Option Made
closed_if closes made = if closes then option_map with_closed made else made

-- it was refused so, and at most its lanes were closed before
abbrev pub IsRefusedSo : Refusal → Option Made → Option Made → Type 0
IsRefusedSo refusal before after = (closes : Bool) × (after ≡ option_map (with_refused refusal) (closed_if closes before))

-- each reply is one that its call may have
abbrev pub AreSuiting : History → Type 0
AreSuiting [] = ⊤
AreSuiting (entry ∷ before) = (suits entry.call entry.reply ≡ true) × AreSuiting before

-- what a thread with this seat keeps is so of what it made, which is what its steps before this place of the text ask for,
-- whatever made the declared objects
pub record IsUnderWay (script : Lines) (seat place : ℕ) (course : Course) (made : Option Made) : Type 0 where
  pub entries : History
  pub apart : List Apart
  pub told : IfSome made (λ tells.
      tells ≡ record { seat = seat; entries = entries; opened = []; apart = apart; is_sending = course.is_sending; refused = None })
  pub by : AreBySeat seat entries
  pub count : course.made ≡ declared_count script + entries_in entries
  pub called : entries_in entries ≡ earlier script seat place
  pub gone : length apart ≡ earlier_apart script seat place
  pub suiting : AreSuiting entries
  pub steps : (first : History) → IsOpening script first → AreNextSteps script first entries
  pub does : AreNextApart script seat apart
  pub bound : (first : History) → IsOpening script first → AreBindings script (entries ++ first) course.bindings.items

-- as many steps of the thread are before this place as were taken, and it is under way there
pub record HasTaken (script : Lines) (seat taken : ℕ) (course : Course) (made : Option Made) : Type 0 where
  pub place : ℕ
  pub behind : how_many (is_seated script seat) (take place script.steps) ≡ taken
  pub way : IsUnderWay script seat place course made

-- the turn's step is one of its thread, which is under way there, and has room for one entry more
pub record IsAt (turn : Turn) (course : Course) (made : Option Made) : Type 0 where
  pub known : IsKnown turn.plan.now
  pub own : IsTurn turn.plan.now (turn.thread + 1) turn.step
  pub room : course.made < 2 ^ 63
  pub way : IsUnderWay turn.plan.now (turn.thread + 1) turn.step course made

-- its thread is under way after that step
abbrev pub IsAfter : Turn → Course → Option Made → Type 0
IsAfter turn course made = IsUnderWay turn.plan.now (turn.thread + 1) (turn.step + 1) course made
