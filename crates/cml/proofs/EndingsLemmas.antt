-- What an ending says of what was read and checked.
use Rattle.std.proofs.Common.{◌≡◌, ◌≢◌, inl, inr, ℕ, ◌+◌, ◌<◌, ◌≤◌, take, drop, length, add-one, Bool, true, false, List, [], ◌++◌}
use Rattle.std.proofs.Common.{reverse, Option, Some, None, Ok, refl, sym, ap, ◌∙◌, subst, append_assoc}
use Rattle.std.proofs.lemmas.List.{append-nil, take_all, take_at, take-append-drop}
use Rattle.std.proofs.KnownBytes.{Consumes-nil, Consumes-trans}
use Rattle.std.specs.Io.KnownBytes.{Appends, Consumes, IsAtEnd}
use Rattle.cml_journal.specs.{Stop, line_of, State, Read, last_sum, Progress, IsSoFar, Goes, StopsIn, ShowsUnlawful}
use Rattle.cml_journal.specs.{ShowsFault, What, shown_line}
use Rattle.cml_journal.specs.{IsLawfulJournal, IsRestored}
use Rattle.cml_journal.specs.{number_of, bytes_text, message_of_word}
use Rattle.cml_journal.specs.declared.stop.Stop.TheVariants as stop
use Rattle.cml_board.specs.{Entry, Expected, expected_of, RestoredShown}
use Rattle.std.specs.Fmt.{decimal}
use Rattle.std.specs.Global.{Global}
use Rattle.std.specs.Prelude.{String, string_bytes}
use Rattle.cml.specs.declared.check.ending.Ending.{Ending}
use Rattle.cml.specs.declared.check.ending.Ending.TheVariants.{Lawful as lawful, Unlawful, Fault, Unended, BehindCut, ReadFault}
use Rattle.cml.specs.declared.check.ending.Ending.TheVariants.{WriteFault, NoMemory, Compacted, TooLong}
use Rattle.cml.specs.declared.check.wanted.Wanted.{Wanted}
use Rattle.cml.specs.declared.check.wanted.Wanted.TheVariants as wanted
use Rattle.cml.specs.{Writes, answer_text, expected_text, lines_for, object_line, object_lines, state_lines, told_state, told_sum}
use Rattle.cml.specs.{IsSilent, IsRead, IsFront}
use Rattle.cml.specs.{GivesCut, EndsInFront, is_behind_cut, IsVerdict, TellsAs, ConcludesAs, ConcludesBy, is_of_bytes, Tells, EndsAs}
use Rattle.cml.specs.{EndsIn, IsEarly, IsHeardOut, IsStateOf, IsToldFaulty, IsToldLawful, IsToldUnlawful, Concludes}

-- a front that is all
short_front : (front : List ℕ) → length front ≤ 15 → front ≡ take 15 (front ++ [])
short_front front few = sym (ap (take 15) (append-nil front) ∙ take_all 15 front few)

module _ {M : Type 0} (version : ℕ) (meaning : List ℕ → Option M) (text : M → List ℕ) where
  -- ---- a stop
  told_unlawful : (bytes : List ℕ) (at position : ℕ) (line entry answer : String Global) (new : Progress M)
      → (shows : ShowsUnlawful version meaning bytes at new) → string_bytes line ≡ line_of text shows.entry
      → (position ≡ at) × (entry ≡ line)
      × ((expected : Expected M) → expected_of new.checker ≡ Some expected → string_bytes answer ≡ answer_text text expected)
      → IsToldUnlawful version meaning text bytes position (string_bytes entry) (string_bytes answer)
  told_unlawful bytes at position line entry answer new shows is ends =
      subst (λ (k : ℕ). IsToldUnlawful version meaning text bytes k (string_bytes entry) (string_bytes answer)) (sym ends.0) (record {
        entry = shows.entry;
        expected = shows.expected;
        is = shows.is;
        told = ap (λ (s : String Global). string_bytes s) ends.1 ∙ is;
        answered = ends.2 shows.expected (ap expected_of shows.shown);
      })

  told_faulty : (bytes : List ℕ) (line number : ℕ) (what fault : What) (due found : String Global) (new : Progress M)
      → ShowsFault version meaning bytes line what new.state new.checker
      → (number ≡ line) × (fault ≡ what) × (string_bytes due ≡ expected_text version new.state what)
      × (string_bytes found ≡ shown_line new.state.line)
      → IsToldFaulty version meaning text bytes number fault (string_bytes due) (string_bytes found)
  told_faulty bytes line number what fault due found new shows ends =
      subst (λ (k : ℕ). IsToldFaulty version meaning text bytes k fault (string_bytes due) (string_bytes found)) (sym ends.0)
      (subst (λ (w : What). IsToldFaulty version meaning text bytes line w (string_bytes due) (string_bytes found)) (sym ends.1) (record {
        is = shows.is;
        expected = ends.2 ∙ ap (λ (s : State). expected_text version s what) shows.state;
        shown = ends.3 ∙ ap (λ (s : State). shown_line s.line) shows.state;
      }))

  pub ends_as_stopped : (old new : Progress M) (bytes : List ℕ) (told : Stop) (ending : Ending) → EndsAs version text new told ending
      → StopsIn version meaning text old bytes new told → EndsIn version meaning text old bytes ending
  ends_as_stopped old new bytes (stop.Unlawful at line) (Unlawful position entry answer) ends stops = (
    tt,
    λ asked before so. let tells = stops before so in
        told_unlawful (before ++ bytes) at position line entry answer new tells.0 tells.1 ends,
  )
  ends_as_stopped old new bytes (stop.Unlawful at line) NoMemory ends stops = (tt, λ asked before so. tt)
  ends_as_stopped old new bytes (stop.Unlawful at line) (lawful count state) ends stops = absurd ends
  ends_as_stopped old new bytes (stop.Unlawful at line) (Fault number what due found) ends stops = absurd ends
  ends_as_stopped old new bytes (stop.Unlawful at line) (Unended how) ends stops = absurd ends
  ends_as_stopped old new bytes (stop.Unlawful at line) BehindCut ends stops = absurd ends
  ends_as_stopped old new bytes (stop.Unlawful at line) (Compacted written) ends stops = absurd ends
  ends_as_stopped old new bytes (stop.Unlawful at line) (TooLong place) ends stops = absurd ends
  ends_as_stopped old new bytes (stop.Unlawful at line) ReadFault ends stops = absurd ends
  ends_as_stopped old new bytes (stop.Unlawful at line) WriteFault ends stops = absurd ends
  ends_as_stopped old new bytes (stop.Fault line what) (Fault number fault due found) ends stops = (
    tt,
    λ asked before so. told_faulty (before ++ bytes) line number what fault due found new (stops before so) ends,
  )
  ends_as_stopped old new bytes (stop.Fault line what) NoMemory ends stops = (tt, λ asked before so. tt)
  ends_as_stopped old new bytes (stop.Fault line what) (lawful count state) ends stops = absurd ends
  ends_as_stopped old new bytes (stop.Fault line what) (Unlawful position entry answer) ends stops = absurd ends
  ends_as_stopped old new bytes (stop.Fault line what) (Unended how) ends stops = absurd ends
  ends_as_stopped old new bytes (stop.Fault line what) BehindCut ends stops = absurd ends
  ends_as_stopped old new bytes (stop.Fault line what) (Compacted written) ends stops = absurd ends
  ends_as_stopped old new bytes (stop.Fault line what) (TooLong place) ends stops = absurd ends
  ends_as_stopped old new bytes (stop.Fault line what) ReadFault ends stops = absurd ends
  ends_as_stopped old new bytes (stop.Fault line what) WriteFault ends stops = absurd ends
  ends_as_stopped old new bytes stop.NoMemory ending ends stops =
      subst (λ (e : Ending). EndsIn version meaning text old bytes e) (sym ends) (tt, λ asked before so. tt)

  -- ---- the end
  -- a journal that was read so far ends in the state of the check
  pub same_state : (bytes : List ℕ) (progress : Progress M) (count : ℕ) → IsSoFar version meaning bytes progress
      → (is : IsLawfulJournal version meaning bytes count) → progress.state ≡ is.state
  same_state bytes progress count so is = both so.read is.read
    where
      both : {a b : State} {xs ys : List (Entry M)} {read : Read M} → read ≡ Ok (a, xs) → read ≡ Ok (b, ys) → a ≡ b
      both {a} {b} {xs} {ys} one other = let same : (a, xs) ≡ (b, ys) = cc in ap (λ (p : State × List (Entry M)). p.0) same

  pub told_lawful : (asked : Wanted) (bytes : List ℕ) (progress : Progress M) (count : ℕ) (state : String Global) (objects : List ℕ)
      → asked ≢ wanted.Compacted → IsLawfulJournal version meaning bytes count
      → string_bytes state ≡ told_sum (last_sum progress.state) ++ objects
      → IsStateOf version meaning text asked bytes progress objects → IsSoFar version meaning bytes progress
      → IsToldLawful version meaning text asked bytes count (string_bytes state)
  told_lawful asked bytes progress count state objects verdict is lines told so = record {
    verdict = verdict;
    is = is;
    told = lines ∙ ap (λ (s : State). told_sum (last_sum s) ++ objects) (same_state bytes progress count so is)
        ∙ ap (λ (o : List ℕ). told_sum (last_sum is.state) ++ o)
        (told so ∙ ap (λ (es : List (Entry M)). told_state text asked (reverse es)) (same_entries (so.read) is.read));
  }
    where
      same_entries : {a b : State} {xs ys : List (Entry M)} {read : Read M} → read ≡ Ok (a, xs) → read ≡ Ok (b, ys) → xs ≡ ys
      same_entries {a} {b} {xs} {ys} one other = let both : (a, xs) ≡ (b, ys) = cc in ap (λ (p : State × List (Entry M)). p.1) both

  -- the lines of a board that has made what was read so far
  pub state_restored : (bytes : List ℕ) (progress : Progress M) (restored : RestoredShown M) (lines : List ℕ)
      → (IsSoFar version meaning bytes progress → IsRestored version meaning bytes 1 restored)
      → lines ≡ state_lines text restored.board.history
      → IsStateOf version meaning text wanted.State bytes progress lines
  state_restored bytes progress restored lines restores is so =
      let of = restores so in
      is ∙ ap (state_lines text) of.made.history
      ∙ ap (λ (es : List (Entry M)). state_lines text (reverse es)) (same_entries of.read so.read)
    where
      same_entries : {a b : State} {xs ys : List (Entry M)} {read : Read M} → read ≡ Ok (a, xs) → read ≡ Ok (b, ys) → xs ≡ ys
      same_entries {a} {b} {xs} {ys} one other = let both : (a, xs) ≡ (b, ys) = cc in ap (λ (p : State × List (Entry M)). p.1) both

  -- ---- a reader
  heard_early : (ending : Ending) (new : Option (List ℕ)) → IsEarly ending → IsHeardOut ending new
  heard_early (lawful count state) new is = absurd is
  heard_early (Unended how) new is = absurd is
  heard_early (Compacted written) new is = absurd is
  heard_early (TooLong place) new is = absurd is
  heard_early (Unlawful at line answer) new is = tt
  heard_early (Fault line what due found) new is = tt
  heard_early NoMemory new is = tt
  heard_early BehindCut new is = tt
  heard_early ReadFault new is = tt
  heard_early WriteFault new is = tt

  heard_at_end : (ending : Ending) (new : Option (List ℕ)) → IsAtEnd new → IsHeardOut ending new
  heard_at_end (lawful count state) new end = end
  heard_at_end (Unended how) new end = end
  heard_at_end (Compacted written) new end = end
  heard_at_end (TooLong place) new end = end
  heard_at_end (Unlawful at line answer) new end = tt
  heard_at_end (Fault line what due found) new end = tt
  heard_at_end NoMemory new end = tt
  heard_at_end BehindCut new end = tt
  heard_at_end ReadFault new end = tt
  heard_at_end WriteFault new end = tt

  -- it was not asked yet
  pub concludes_in_front : (asked : Wanted) (check : Progress M) (front : List ℕ) (old : Option (List ℕ)) (ending : Ending)
      → IsFront front old → IsSoFar version meaning [] check
      → EndsIn version meaning text check front ending → Concludes version meaning text asked front old old ending
  concludes_in_front asked check front old ending long so ends = record {
    bytes = [];
    long = short_front front long.most;
    given = Consumes-nil old;
    heard = heard_early ending old ends.0;
    told = subst (λ (b : List ℕ). Tells version meaning text asked b ending) (sym (append-nil front)) (ends.1 asked [] so);
  }

  -- there was no memory for a check
  pub concludes_without : (asked : Wanted) (front : List ℕ) (old : Option (List ℕ)) → IsFront front old
      → Concludes version meaning text asked front old old NoMemory
  concludes_without asked front old long = record {
    bytes = [];
    long = short_front front long.most;
    given = Consumes-nil old;
    heard = tt;
    told = tt;
  }

  -- it was at its end
  pub concludes_short : (asked : Wanted) (check later : Progress M) (front : List ℕ) (old : Option (List ℕ)) (ending : Ending)
      → IsFront front old → length front < 15
      → IsSoFar version meaning [] check → Goes version meaning check front later
      → ((all : List ℕ) → IsSoFar version meaning all later → Tells version meaning text asked all ending)
      → Concludes version meaning text asked front old old ending
  concludes_short asked check later front old ending long few so goes tells = record {
    bytes = [];
    long = short_front front long.most;
    given = Consumes-nil old;
    heard = heard_at_end ending old (long.ended few);
    told = tells (front ++ []) (subst (λ (b : List ℕ). IsSoFar version meaning b later) (sym (append-nil front)) (goes [] so));
  }

  pub concludes_early : (asked : Wanted) (check : Progress M) (front bytes more : List ℕ) (old mid new : Option (List ℕ)) (ending : Ending)
      → length front ≡ 15 → Consumes old mid bytes → Consumes mid new more
      → IsSoFar version meaning (front ++ bytes) check → EndsIn version meaning text check more ending
      → Concludes version meaning text asked front old new ending
  concludes_early asked check front bytes more old mid new ending long first second so ends = record {
    bytes = bytes ++ more;
    long = sym (take_at front (bytes ++ more) 15 long);
    given = Consumes-trans old mid new bytes more first second;
    heard = heard_early ending new ends.0;
    told = subst (λ (b : List ℕ). Tells version meaning text asked b ending) (append_assoc front bytes more)
        (ends.1 asked (front ++ bytes) so);
  }

  pub so_on : (check later : Progress M) (front bytes more : List ℕ) → IsSoFar version meaning (front ++ bytes) check
      → Goes version meaning check more later
      → IsSoFar version meaning (front ++ (bytes ++ more)) later
  so_on check later front bytes more so goes =
      subst (λ (b : List ℕ). IsSoFar version meaning b later) (append_assoc front bytes more) (goes (front ++ bytes) so)

  pub concludes_at_end : (asked : Wanted) (check later : Progress M) (front bytes more : List ℕ) (old mid new : Option (List ℕ))
      (ending : Ending) → length front ≡ 15 → Consumes old mid bytes → Consumes mid new more
      → IsSoFar version meaning (front ++ bytes) check → Goes version meaning check more later → IsAtEnd new
      → ((all : List ℕ) → IsSoFar version meaning all later → Tells version meaning text asked all ending)
      → Concludes version meaning text asked front old new ending
  concludes_at_end asked check later front bytes more old mid new ending long first second so goes end tells = record {
    bytes = bytes ++ more;
    long = sym (take_at front (bytes ++ more) 15 long);
    given = Consumes-trans old mid new bytes more first second;
    heard = heard_at_end ending new end;
    told = tells (front ++ (bytes ++ more)) (so_on check later front bytes more so goes);
  }

-- ---- a front
pub verdict_behind : (asked : Wanted) (old mid new : Option (List ℕ)) (front : List ℕ) (ending : Ending)
    → Consumes old mid front → is_behind_cut front ≡ false
    → ConcludesBy asked front mid new ending → IsVerdict asked old new ending
verdict_behind asked old mid new front ending first uncut concluded = by (is_of_bytes front) refl concluded
  where
    never : is_behind_cut front ≡ true → ⊥
    never cut = cc

    whole : {M : Type 0} {version : ℕ} {meaning : List ℕ → Option M} {text : M → List ℕ}
        → (ends : Concludes version meaning text asked front mid new ending)
        → TellsAs (is_of_bytes front) asked (front ++ ends.bytes) ending → IsVerdict asked old new ending
    whole ends told = record {
      front = front;
      rest = ends.bytes;
      long = ends.long;
      given = Consumes-trans old mid new front ends.bytes first ends.given;
      heard = ends.heard;
      cut = λ cut. absurd (never cut);
      told = told;
    }

    by : (b : Bool) → is_of_bytes front ≡ b → ConcludesAs b asked front mid new ending → IsVerdict asked old new ending
    by true is ends = whole ends (subst (λ (b : Bool). TellsAs b asked (front ++ ends.bytes) ending) (sym is) ends.told)
    by false is ends = whole ends (subst (λ (b : Bool). TellsAs b asked (front ++ ends.bytes) ending) (sym is) ends.told)

silent_heard : (ending : Ending) (new : Option (List ℕ)) → IsSilent ending → IsHeardOut ending new
silent_heard ReadFault new silent = tt
silent_heard WriteFault new silent = tt
silent_heard NoMemory new silent = tt
silent_heard BehindCut new silent = tt
silent_heard (lawful count state) new silent = absurd silent
silent_heard (Unlawful at line answer) new silent = absurd silent
silent_heard (Fault line what due found) new silent = absurd silent
silent_heard (Unended how) new silent = absurd silent
silent_heard (Compacted written) new silent = absurd silent
silent_heard (TooLong place) new silent = absurd silent

silent_tells : {M : Type 0} (version : ℕ) (meaning : List ℕ → Option M) (text : M → List ℕ) (asked : Wanted) (bytes : List ℕ)
    (ending : Ending) → IsSilent ending
    → Tells version meaning text asked bytes ending
silent_tells version meaning text asked bytes ReadFault silent = tt
silent_tells version meaning text asked bytes WriteFault silent = tt
silent_tells version meaning text asked bytes NoMemory silent = tt
silent_tells version meaning text asked bytes BehindCut silent = absurd silent
silent_tells version meaning text asked bytes (lawful count state) silent = absurd silent
silent_tells version meaning text asked bytes (Unlawful at line answer) silent = absurd silent
silent_tells version meaning text asked bytes (Fault line what due found) silent = absurd silent
silent_tells version meaning text asked bytes (Unended how) silent = absurd silent
silent_tells version meaning text asked bytes (Compacted written) silent = absurd silent
silent_tells version meaning text asked bytes (TooLong place) silent = absurd silent

silent_told : (of_bytes : Bool) (asked : Wanted) (bytes : List ℕ) (ending : Ending) → IsSilent ending → TellsAs of_bytes asked bytes ending
silent_told true asked bytes ending silent = silent_tells 2 message_of_word bytes_text asked bytes ending silent
silent_told false asked bytes ending silent = silent_tells 1 number_of decimal asked bytes ending silent

pub verdict_silent : (asked : Wanted) (old new : Option (List ℕ)) (ending : Ending) → IsSilent ending
    → IsRead old new → IsVerdict asked old new ending
verdict_silent asked old new ending silent read =
    let bytes = read.0 in
    let all : take 15 bytes ++ drop 15 bytes ≡ bytes = take-append-drop 15 bytes in record {
      front = take 15 bytes;
      rest = drop 15 bytes;
      long = ap (take 15) (sym all);
      given = subst (Consumes old new) (sym all) read.1;
      heard = silent_heard ending new silent;
      cut = λ cut. inr silent;
      told = silent_told (is_of_bytes (take 15 bytes)) asked (take 15 bytes ++ drop 15 bytes) ending silent;
    }

cut_told : (of_bytes : Bool) (asked : Wanted) (bytes : List ℕ) → is_behind_cut bytes ≡ true → TellsAs of_bytes asked bytes BehindCut
cut_told true asked bytes cut = cut
cut_told false asked bytes cut = cut

verdict_cut : (asked : Wanted) (old new : Option (List ℕ)) → GivesCut old new → IsVerdict asked old new BehindCut
verdict_cut asked old new gives =
    let all = sym (append-nil gives.front) in record {
      front = gives.front;
      rest = [];
      long = short_front gives.front gives.most;
      given = subst (Consumes old new) all gives.given;
      heard = tt;
      cut = λ cut. inl refl;
      told = cut_told (is_of_bytes gives.front) asked (gives.front ++ []) (subst (λ (b : List ℕ). is_behind_cut b ≡ true) all gives.cut);
    }

-- a check that ends in the front
pub verdict_in_front : (asked : Wanted) (old new : Option (List ℕ)) (ending : Ending)
    → EndsInFront old new ending → IsVerdict asked old new ending
verdict_in_front asked old new BehindCut ends = verdict_cut asked old new ends
verdict_in_front asked old new ReadFault ends = verdict_silent asked old new ReadFault ends.0 ends.1
verdict_in_front asked old new WriteFault ends = verdict_silent asked old new WriteFault ends.0 ends.1
verdict_in_front asked old new NoMemory ends = verdict_silent asked old new NoMemory ends.0 ends.1
verdict_in_front asked old new (lawful count state) ends = absurd ends.0
verdict_in_front asked old new (Unlawful at line answer) ends = absurd ends.0
verdict_in_front asked old new (Fault line what due found) ends = absurd ends.0
verdict_in_front asked old new (Unended how) ends = absurd ends.0
verdict_in_front asked old new (Compacted written) ends = absurd ends.0
verdict_in_front asked old new (TooLong place) ends = absurd ends.0

pub silent_in_front : (old new : Option (List ℕ)) (ending : Ending) → IsSilent ending → IsRead old new → EndsInFront old new ending
silent_in_front old new ReadFault silent read = (silent, read)
silent_in_front old new WriteFault silent read = (silent, read)
silent_in_front old new NoMemory silent read = (silent, read)
silent_in_front old new BehindCut silent read = absurd silent
silent_in_front old new (lawful count state) silent read = absurd silent
silent_in_front old new (Unlawful at line answer) silent read = absurd silent
silent_in_front old new (Fault line what due found) silent read = absurd silent
silent_in_front old new (Unended how) silent read = absurd silent
silent_in_front old new (Compacted written) silent read = absurd silent
silent_in_front old new (TooLong place) silent read = absurd silent

-- the front is after a cut
pub cut_in_front : (old new : Option (List ℕ)) (front : List ℕ) (ending : Ending) → Consumes old new front → length front ≤ 15
    → (ending ≡ BehindCut) × (is_behind_cut front ≡ true)
    → EndsInFront old new ending
cut_in_front old new front ending given most cut =
    subst (λ (e : Ending). EndsInFront old new e) (sym cut.0) (record { front = front; given = given; most = most; cut = cut.1 })

pub read_on_from : (old mid new : Option (List ℕ)) (front : List ℕ) → Consumes old mid front → IsRead mid new → IsRead old new
read_on_from old mid new front first second = (front ++ second.0, Consumes-trans old mid new front second.0 first second.1)

pub verdict_unwritten : (asked : Wanted) (old new : Option (List ℕ)) (ending why : Ending) → IsVerdict asked old new ending
    → IsSilent why → IsVerdict asked old new why
verdict_unwritten asked old new ending why verdict silent =
    verdict_silent asked old new why silent (verdict.front ++ verdict.rest, verdict.given)

-- ---- what is written
pub writes_line : (old new : Option (List ℕ)) (ending : Ending) (line : List ℕ) → line ≡ lines_for ending
    → Appends old new line → Writes ending old new
writes_line old new ending line is appends = by ending (subst (Appends old new) is appends)
  where
    by : (e : Ending) → Appends old new (lines_for e) → Writes e old new
    by (lawful count state) h = h
    by (Unlawful at entry answer) h = h
    by (Fault number what due found) h = h
    by (Unended how) h = h
    by BehindCut h = h
    by ReadFault h = h
    by WriteFault h = tt
    by NoMemory h = h
    by (Compacted written) h = h
    by (TooLong place) h = h

pub writes_nothing : (old : Option (List ℕ)) → Appends old old []
writes_nothing None = tt
writes_nothing (Some xs) = sym (append-nil xs)

-- one more object
pub lines_more : {M : Type 0} (text : M → List ℕ) (history : List (Entry M)) (number : ℕ)
    → object_lines text history number ++ object_line text history number ≡ object_lines text history (number + 1)
lines_more text history number = rw add-one refl
