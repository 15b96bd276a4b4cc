-- Whether a journal is one of a script, whatever order its threads, lanes and feeds went in.
use Rattle.std.specs.Prelude.{ℕ, ◌≡◌, ◌==◌, Bool, true, false, List, [], ◌∷◌, reverse, slice_get, nat_lt, Option, Some, None, MatchBool, ⊤}
use Rattle.std.specs.Option.{option_map_or}
use Rattle.std.specs.List.{list_any}
use Rattle.cml_board.specs.{Call, Who, Entry, entries_in, Lawful, before, IsFirstUnlawful}
use Rattle.cml_board.specs.declared.call.Call.TheVariants as call
use Rattle.cml_board.specs.declared.entry.Who.TheVariants.{Seat, Lane, Feed}
use Rattle.cml_grammar.specs.{SourceLine, Lines, names_of, lane_of}
use Rattle.cml_report.specs.declared.verdict.Verdict.{Verdict}
use Rattle.cml_report.specs.declared.verdict.Verdict.TheVariants as verdict
use Rattle.cml_report.specs.Schedule.{History, declared_count, number_of, maker, next_position, step_call, IsDeclaration}

-- the entry is the next step of its thread
pub record IsNextOfThread (script : Lines) (before : History) (entry : Entry (List ℕ)) : Type 0 where
  pub step : ℕ
  pub next : next_position script before entry.who ≡ Some step
  pub calls : step_call script before step ≡ Some entry.call

-- the object that a send or a multicast goes to
abbrev pub sent_to : Call (List ℕ) → Option ℕ
sent_to (call.Send name message) = Some name.0
sent_to (call.Cast name message) = Some name.0
sent_to _ = None

-- the lane line leads to this object
abbrev pub leads_to : Lines → ℕ → SourceLine → Bool
leads_to script object line = option_map_or (λ laid. number_of script laid.0.1 == object) (lane_of (names_of script) line.words) false

-- the call is one that a lane makes: a send or a multicast to an object that some lane line names
pub record IsOfLane (script : Lines) (asked : Call (List ℕ)) : Type 0 where
  pub object : ℕ
  pub sends : sent_to asked ≡ Some object
  pub laid : list_any (leads_to script object) script.lanes ≡ true

-- the call is one that this feed makes: a receive from the port that it made
pub record IsOfFeed (script : Lines) (feed : ℕ) (asked : Call (List ℕ)) : Type 0 where
  pub object : ℕ
  pub made : maker script object ≡ Feed feed
  pub receives : asked ≡ call.Recv (record { 0 = object })

-- the entry is one that its caller may have after the declared objects
abbrev pub IsOfCaller : Lines → History → Entry (List ℕ) → Who → Type 0
IsOfCaller script before entry (Seat seat) = IsNextOfThread script before entry
IsOfCaller script before entry (Lane lane) = IsOfLane script entry.call
IsOfCaller script before entry (Feed feed) = IsOfFeed script feed entry.call

-- the entry is the script's: the declared objects come first, and then the steps of its threads, each thread's in order, and
-- what lanes and feeds move
abbrev pub IsOwn : Lines → History → Entry (List ℕ) → Type 0
IsOwn script before entry =
    MatchBool (nat_lt (entries_in before) (declared_count script)) (IsDeclaration script before entry)
    (IsOfCaller script before entry entry.who)

-- each entry is
abbrev pub IsOfScript : Lines → History → Type 0
IsOfScript script [] = ⊤
IsOfScript script (entry ∷ before) = IsOwn script before entry × IsOfScript script before

-- the least position whose entry isn't
pub record IsFirstForeign (script : Lines) (journal : List (Entry (List ℕ))) (k : ℕ) : Type 0 where
  pub entry : Entry (List ℕ)
  pub stands : slice_get journal k ≡ Some entry
  pub own : IsOfScript script (before journal k)
  pub foreign : IsOwn script (before journal k) entry → ⊥

-- what the verdict on a journal says
abbrev pub Judges : Lines → List (Entry (List ℕ)) → Verdict → Type 0
Judges script journal verdict.Lawful = Lawful (reverse journal) × IsOfScript script (reverse journal)
Judges script journal (verdict.Unlawful k) = IsFirstUnlawful journal k
Judges script journal (verdict.Foreign k) = Lawful (reverse journal) × IsFirstForeign script journal k
