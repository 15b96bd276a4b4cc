-- What was read and checked so far, and what a halt says of it.
use Rattle.std.proofs.Common.{◌≡◌, ◌⊎◌, inl, inr, ℕ, not, ◌+◌, ◌%◌, ◌^◌, ◌≤◌, zero, suc}
use Rattle.std.proofs.Common.{List, [], ◌∷◌, ◌++◌, length, reverse, take, slice_get, Option, Some, None, Ok, Err, refl, sym}
use Rattle.std.proofs.Common.{ap, subst, ◌∙◌, arith, append_assoc, length-append}
use Rattle.std.specs.Option.{option_to_list}
use Rattle.std.proofs.lemmas.List.{append-nil, reverse-append, length-reverse}
use Rattle.std.proofs.lemmas.Option.{none-some, same_Some}
use Rattle.cml_board.specs.{Entry, Expected, Lawful, no_entries, RestoredShown, before, Expects, Found, RestoresWith, IsExpected}
use Rattle.cml_board.specs.{IsFirstUnlawful, IsLawfulNext, Pauses, StopsAt, Feeds, followed_by}
use Rattle.cml_journal.specs.{What, Unread, Halt, Stop, line_of, HasFault, HasFront, Meets, State, waiting_at, behind, reading, Progress}
use Rattle.cml_journal.specs.{IsSoFar, Goes, HaltsIn, StopsIn, MayHaltAt, HaltTells, IsTold, IsRestored, IsUnlawfulJournal}
use Rattle.cml_journal.specs.{ShowsUnlawful, ShowsFault, ShowsFront, halt_of, line_of_last}
use Rattle.cml_journal.specs.declared.fault.Unread.TheVariants as unread
use Rattle.cml_journal.specs.declared.stop.Halt.TheVariants as halt
use Rattle.cml_journal.specs.declared.stop.Stop.TheVariants as stop
use Rattle.std.specs.Prelude.{string_bytes}
use Rattle.cml_journal.proofs.FeedLemmas.{on, placed, reading-append}
use Rattle.cml_journal.proofs.PositionLemmas.{entries_are_counted}

pub lists_found : {M : Type 0} (state : State) {found other : Option (Entry M)} → found ≡ other
    → placed state (option_to_list found) ≡ placed state (option_to_list other)
lists_found {M} state same = ap (λ (f : Option (Entry M)). placed state (option_to_list f)) same

module _ {M : Type 0} (version : ℕ) (meaning : List ℕ → Option M) where
  pub nothing_so_far : (progress : Progress M) → progress.state ≡ waiting_at 0 → progress.checker ≡ Ok [] → progress.halt ≡ None
      → IsSoFar version meaning [] progress
  unfolding reading
  nothing_so_far progress state checker running = record {
    entries = [];
    read = ap (λ s. Ok (s, [])) (sym state);
    checked = checker;
    lawful = tt;
    running = running;
  }

  -- ---- one step after another
  pub goes_nowhere : (old : Progress M) → Goes version meaning old [] old
  goes_nowhere old bytes so = subst (λ (b : List ℕ). IsSoFar version meaning b old) (sym (append-nil bytes)) so

  pub goes_on : (old mid new : Progress M) (front rest : List ℕ) → Goes version meaning old front mid → Goes version meaning mid rest new
      → Goes version meaning old (front ++ rest) new
  goes_on old mid new front rest first second bytes so =
      subst (λ (b : List ℕ). IsSoFar version meaning b new) (append_assoc bytes front rest) (second (bytes ++ front) (first bytes so))

  pub halts_later : (old mid new : Progress M) (all front rest : List ℕ) (halted : Halt) → all ≡ front ++ rest
      → Goes version meaning old front mid
      → HaltsIn version meaning mid rest new halted → HaltsIn version meaning old all new halted
  halts_later old mid new all front rest halted cut first second bytes so =
      subst (λ (b : List ℕ). HaltTells version meaning b new halted)
      (append_assoc bytes front rest ∙ ap (λ (b : List ℕ). bytes ++ b) (sym cut)) (second (bytes ++ front) (first bytes so))

  -- ---- a line
  -- what is read after the bytes so far
  read_on : (bytes taken : List ℕ) (old : Progress M) (next : State) (found : List (Entry M)) (so : IsSoFar version meaning bytes old)
      → reading version meaning old.state taken ≡ Ok (next, found)
      → reading version meaning (waiting_at 0) (bytes ++ taken) ≡ Ok (next, so.entries ++ found)
  read_on bytes taken old next found so read =
      reading-append version meaning (waiting_at 0) bytes taken ∙ ap (on version meaning taken) so.read ∙ ap (behind so.entries) read

  pub goes_past_line : (old new : Progress M) (taken : List ℕ)
      → reading version meaning old.state taken ≡ Ok (new.state, []) → new.checker ≡ old.checker
      → new.halt ≡ old.halt → Goes version meaning old taken new
  goes_past_line old new taken read same halt bytes so = record {
    entries = so.entries;
    read = read_on bytes taken old new.state [] so read ∙ ap (λ (es : List (Entry M)). Ok (new.state, es)) (append-nil so.entries);
    checked = same ∙ so.checked;
    lawful = so.lawful;
    running = halt ∙ so.running;
  }

  one_more : (entries : List (Entry M)) (entry : Entry M) → reverse (entries ++ entry ∷ []) ≡ entry ∷ reverse entries
  one_more entries entry = reverse-append entries (entry ∷ [])

  goes_past_entry : (old new : Progress M) (taken : List ℕ) (entry : Entry M)
      → reading version meaning old.state taken ≡ Ok (new.state, entry ∷ [])
      → Feeds old.checker (entry ∷ []) new.checker (Ok tt) → new.halt ≡ old.halt → Goes version meaning old taken new
  goes_past_entry old new taken entry read feeds halt bytes so =
      let fed = subst (λ (c : Found M). Feeds c (entry ∷ []) new.checker (Ok tt)) so.checked feeds in
      let more = sym (one_more so.entries entry) in record {
        entries = so.entries ++ entry ∷ [];
        read = read_on bytes taken old new.state (entry ∷ []) so read;
        checked = fed.0 ∙ ap (λ (h : List (Entry M)). Ok h) more;
        lawful = subst Lawful more fed.1;
        running = halt ∙ so.running;
      }

  pub goes_past_entry_to : (old : Progress M) (next : State) (new : Progress M) (taken : List ℕ) (entry : Entry M)
      → reading version meaning old.state taken ≡ Ok (next, entry ∷ [])
      → new.state ≡ next → Feeds old.checker (entry ∷ []) new.checker (Ok tt) → new.halt ≡ old.halt → Goes version meaning old taken new
  goes_past_entry_to old next new taken entry read same feeds halt =
      goes_past_entry old new taken entry (read ∙ ap (λ (s : State). Ok (s, entry ∷ [])) (sym same)) feeds halt

  -- a front of a line was read, and all before it is as it was
  shows_so_far : (old new : Progress M) (front bytes : List ℕ) → HasFront version meaning old.state bytes new.state
      → new.checker ≡ old.checker → IsSoFar version meaning front old
      → ShowsFront version meaning (front ++ bytes) new.state new.checker
  shows_so_far old new front bytes has checker so = record {
    front = front ++ has.front;
    rest = has.rest;
    whole = ap (λ (b : List ℕ). front ++ b) has.whole ∙ sym (append_assoc front has.front has.rest);
    state = new.state;
    done = so.entries;
    left = [];
    few = omega arith;
    read = read_on front has.front old new.state [] so has.read;
    lawful = so.lawful;
    same = refl;
    checked = checker ∙ so.checked;
  }

  shows_fault : (old new : Progress M) (front bytes : List ℕ) (line : ℕ) (what : What) (has : HasFault version meaning old.state bytes what)
      → new.state ≡ has.next
      → new.checker ≡ old.checker → line ≡ (new.state.lines + 1) % 2 ^ 64 → IsSoFar version meaning front old
      → ShowsFault version meaning (front ++ bytes) line what new.state new.checker
  shows_fault old new front bytes line what has same checker next so = record {
    is = record {
      front = front ++ has.front;
      byte = has.byte;
      rest = has.rest;
      whole = ap (λ (b : List ℕ). front ++ b) has.whole ∙ sym (append_assoc front has.front (has.byte ∷ has.rest));
      state = has.next;
      entries = so.entries;
      read = read_on front has.front old has.next [] so has.read ∙ ap (placed has.next) (append-nil so.entries);
      lawful = so.lawful;
      fault = ap (reading version meaning (waiting_at 0)) (append_assoc front has.front (has.byte ∷ []))
          ∙ reading-append version meaning (waiting_at 0) front (has.front ++ has.byte ∷ [])
          ∙ ap (on version meaning (has.front ++ has.byte ∷ [])) so.read
          ∙ ap (behind so.entries) has.fault;
      next_line = next ∙ ap (λ (s : State). (s.lines + 1) % 2 ^ 64) same;
    };
    state = same;
    checked = checker ∙ so.checked;
  }

  halts_by_unread : (old new : Progress M) (bytes : List ℕ) (line : ℕ) (e : Unread)
      → Meets version meaning old.state bytes new.state e
      → new.checker ≡ old.checker → line ≡ (new.state.lines + 1) % 2 ^ 64 → HaltsIn version meaning old bytes new (halt_of e line)
  halts_by_unread old new bytes line unread.Memory meets checker next front so = shows_so_far old new front bytes meets checker so
  halts_by_unread old new bytes line (unread.Fault what) meets checker next front so =
      shows_fault old new front bytes line what meets.0 meets.1 checker next so

  pub halts_at_fault : (line : ℕ) (old new : Progress M) (bytes : List ℕ) (e : Unread) (halted : Halt) → halted ≡ halt_of e line
      → Meets version meaning old.state bytes new.state e → new.checker ≡ old.checker
      → line ≡ (new.state.lines + 1) % 2 ^ 64
      → HaltsIn version meaning old bytes new halted
  halts_at_fault line old new bytes e halted is meets checker next =
      subst (λ (x : Halt). HaltsIn version meaning old bytes new x) (sym is) (halts_by_unread old new bytes line e meets checker next)

  -- ---- an entry that is unlawful
  take_front : (xs ys : List (Entry M)) → take (length xs) (xs ++ ys) ≡ xs
  take_front [] [] = refl
  take_front [] (y ∷ ys) = refl
  take_front (x ∷ xs) ys = ap (λ (zs : List (Entry M)). x ∷ zs) (take_front xs ys)

  get_behind : (xs : List (Entry M)) (y : Entry M) → slice_get (xs ++ y ∷ []) (length xs) ≡ Some y
  get_behind [] y = refl
  get_behind (x ∷ xs) y = get_behind xs y

  before_last : (entries : List (Entry M)) (entry : Entry M) → before (entries ++ entry ∷ []) (length entries) ≡ reverse entries
  before_last entries entry = ap reverse (take_front entries (entry ∷ []))

  first_at_last : (entries : List (Entry M)) (entry : Entry M) → Lawful (reverse entries) → (IsLawfulNext (reverse entries) entry → ⊥)
      → IsFirstUnlawful (entries ++ entry ∷ []) (length entries)
  first_at_last entries entry fine unlawful =
      let same = before_last entries entry in record {
        entry = entry;
        stands = get_behind entries entry;
        lawful = subst Lawful (sym same) fine;
        unlawful = λ at. unlawful (subst (λ (h : List (Entry M)). IsLawfulNext h entry) same (at.fits, at.answered));
      }

  -- the piece's first entry is the only one
  only : (entry other : Entry M) (k : ℕ) → slice_get (entry ∷ []) k ≡ Some other → (k ≡ 0) × (entry ≡ other)
  only entry other zero stands = (refl, same_Some entry other stands)
  only entry other (suc k) stands = absurd (none-some other stands)

  last_position : (entries : List (Entry M)) (at k : ℕ) → at ≡ length (reverse entries) + k → k ≡ 0 → length entries ≡ at
  last_position entries at k position zeroth = omega (arith, position, zeroth, length-reverse entries)

  first_of_stop : (entries : List (Entry M)) (entry : Entry M) (at : ℕ) → StopsAt (reverse entries) (entry ∷ []) at
      → IsFirstUnlawful (entries ++ entry ∷ []) (length entries)
  first_of_stop entries entry at stops =
      let one = only entry stops.entry stops.k stops.stands in
      let at_start : followed_by (reverse entries) (entry ∷ []) stops.k ≡ reverse entries =
      ap (followed_by (reverse entries) (entry ∷ [])) one.0 in
      first_at_last entries entry (subst Lawful at_start stops.lawful)
      (subst (λ (e : Entry M). IsLawfulNext (reverse entries) e → ⊥) (sym one.1)
      (subst (λ (h : List (Entry M)). IsLawfulNext h stops.entry → ⊥) at_start stops.unlawful))

  expects_last : (entries : List (Entry M)) (entry : Entry M) (at : ℕ) (expected : Expected M)
      → IsExpected (reverse entries) (entry ∷ []) at expected
      → Expects (before (entries ++ entry ∷ []) (length entries)) entry expected
  expects_last entries entry at expected is =
      let one = only entry is.entry is.k is.stands in
      subst (λ (h : List (Entry M)). Expects h entry expected) (sym (before_last entries entry))
      (subst (λ (e : Entry M). Expects (reverse entries) e expected) (sym one.1)
      (subst (λ (h : List (Entry M)). Expects h is.entry expected) (ap (followed_by (reverse entries) (entry ∷ [])) one.0) is.expects))

  stops_at_last : (entries : List (Entry M)) (entry : Entry M) (at : ℕ) → StopsAt (reverse entries) (entry ∷ []) at → length entries ≡ at
  stops_at_last entries entry at stops = last_position entries at stops.k stops.position (only entry stops.entry stops.k stops.stands).0

  is_unlawful : (old : Progress M) (next : State) (bytes taken rest : List ℕ) (entry : Entry M) (so : IsSoFar version meaning bytes old)
      → reading version meaning old.state taken ≡ Ok (next, entry ∷ []) → next.line ≡ [] → (at : ℕ) (expected : Expected M)
      → StopsAt (reverse so.entries) (entry ∷ []) at
      → IsExpected (reverse so.entries) (entry ∷ []) at expected
      → IsUnlawfulJournal version meaning (bytes ++ (taken ++ rest)) at entry expected
  is_unlawful old next bytes taken rest entry so read ended at expected stops is =
      let entries = so.entries ++ entry ∷ [] in
      let here = stops_at_last so.entries entry at stops in record {
        front = bytes ++ taken;
        rest = rest;
        whole = sym (append_assoc bytes taken rest);
        state = next;
        entries = entries;
        read = read_on bytes taken old next (entry ∷ []) so read;
        last = omega (arith, here, length-append so.entries (entry ∷ []));
        ended = ended;
        first = subst (IsFirstUnlawful entries) here (first_of_stop so.entries entry at stops);
        stands = subst (λ (k : ℕ). slice_get entries k ≡ Some entry) here (get_behind so.entries entry);
        expects = subst (λ (k : ℕ). Expects (before entries k) entry expected) here (expects_last so.entries entry at expected is);
      }

  -- an entry that is read can be counted
  counts_one_more : (bytes : List ℕ) (next : State) (entries : List (Entry M)) (entry : Entry M)
      → reading version meaning (waiting_at 0) bytes ≡ Ok (next, entries ++ entry ∷ [])
      → 2 ^ 64 ≤ suc (length (reverse entries)) → ⊥
  counts_one_more bytes next entries entry read most =
      absurd (omega (
        arith,
        entries_are_counted version meaning bytes next (entries ++ entry ∷ []) read,
        length-append entries (entry ∷ []),
        length-reverse entries,
        most,
      ))

  nothing_taken : (k : ℕ) → take {A = Entry M} k [] ≡ []
  nothing_taken zero = refl
  nothing_taken (suc k) = refl

  -- a check had no memory at an entry, before or after its checker
  shows_at_entry : (old new : Progress M) (next : State) (bytes taken rest : List ℕ) (entry : Entry M)
      (so : IsSoFar version meaning bytes old)
      → reading version meaning old.state taken ≡ Ok (next, entry ∷ []) → new.state ≡ next
      → (new.checker ≡ Ok (reverse so.entries)) ⊎ Pauses (Ok (reverse so.entries)) (entry ∷ []) new.checker
      → ShowsFront version meaning (bytes ++ (taken ++ rest)) new.state new.checker
  shows_at_entry old new next bytes taken rest entry so read state = by
    where
      waits : new.checker ≡ Ok (reverse so.entries) → ShowsFront version meaning (bytes ++ (taken ++ rest)) new.state new.checker
      waits checked = record {
        front = bytes ++ taken;
        rest = rest;
        whole = sym (append_assoc bytes taken rest);
        state = next;
        done = so.entries;
        left = entry ∷ [];
        few = omega arith;
        read = read_on bytes taken old next (entry ∷ []) so read;
        lawful = so.lawful;
        same = state;
        checked = checked;
      }

      passed : new.checker ≡ Ok (entry ∷ reverse so.entries) → Lawful (entry ∷ reverse so.entries)
          → ShowsFront version meaning (bytes ++ (taken ++ rest)) new.state new.checker
      passed checked lawful =
          let more = sym (one_more so.entries entry) in record {
            front = bytes ++ taken;
            rest = rest;
            whole = sym (append_assoc bytes taken rest);
            state = next;
            done = so.entries ++ entry ∷ [];
            left = [];
            few = omega arith;
            read = read_on bytes taken old next (entry ∷ []) so read ∙ ap (placed next) (sym (append-nil (so.entries ++ entry ∷ [])));
            lawful = subst Lawful more lawful;
            same = state;
            checked = checked ∙ ap (λ (h : List (Entry M)). Ok h) more;
          }

      counted : (k : ℕ) → new.checker ≡ Ok (followed_by (reverse so.entries) (entry ∷ []) k)
          → Lawful (followed_by (reverse so.entries) (entry ∷ []) k)
          → ShowsFront version meaning (bytes ++ (taken ++ rest)) new.state new.checker
      counted zero checked lawful = waits checked
      counted (suc k) checked lawful =
          passed (checked ∙ ap (λ (l : List (Entry M)). Ok (reverse (entry ∷ l) ++ reverse so.entries)) (nothing_taken k))
          (subst (λ (l : List (Entry M)). Lawful (reverse (entry ∷ l) ++ reverse so.entries)) (nothing_taken k) lawful)

      by : (new.checker ≡ Ok (reverse so.entries)) ⊎ Pauses (Ok (reverse so.entries)) (entry ∷ []) new.checker
          → ShowsFront version meaning (bytes ++ (taken ++ rest)) new.state new.checker
      by (inl checked) = waits checked
      by (inr paused) = counted paused.0 paused.1 paused.2

  tells_at_entry : (old new : Progress M) (next : State) (bytes taken rest : List ℕ) (entry : Entry M)
      → reading version meaning old.state taken ≡ Ok (next, entry ∷ []) → next.line ≡ [] → new.state ≡ next
      → (so : IsSoFar version meaning bytes old) → (halted : Halt)
      → MayHaltAt (Ok (reverse so.entries)) entry new halted → HaltTells version meaning (bytes ++ (taken ++ rest)) new halted
  unfolding is_unlawful
  tells_at_entry old new next bytes taken rest entry read ended state so (halt.Unlawful at) may = record {
    entry = entry;
    expected = may.0.0.0;
    is = is_unlawful old next bytes taken rest entry so read ended at may.0.0.0 may.0.1 may.0.0.2;
    state = state;
    last = may.1;
    shown = may.0.0.1;
  }
  tells_at_entry old new next bytes taken rest entry read ended state so halt.NoMemory may =
      shows_at_entry old new next bytes taken rest entry so read state may
  tells_at_entry old new next bytes taken rest entry read ended state so (halt.Fault line what) may =
      absurd (counts_one_more (bytes ++ taken) next so.entries entry (read_on bytes taken old next (entry ∷ []) so read) may)

  pub halts_at_entry : (old new : Progress M) (next : State) (bytes taken rest : List ℕ) (entry : Entry M) (halted : Halt)
      → bytes ≡ taken ++ rest → reading version meaning old.state taken ≡ Ok (next, entry ∷ []) → next.line ≡ [] → new.state ≡ next
      → MayHaltAt old.checker entry new halted
      → HaltsIn version meaning old bytes new halted
  halts_at_entry old new next all taken rest entry halted cut read ended state may bytes so =
      subst (λ (b : List ℕ). HaltTells version meaning (bytes ++ b) new halted) (sym cut)
      (tells_at_entry old new next bytes taken rest entry read ended state so halted
      (subst (λ (c : Found M). MayHaltAt c entry new halted) so.checked may))

  -- ---- what is said of a halt
  pub stops_as_told : (text : M → List ℕ) (old new : Progress M) (bytes : List ℕ) (halted : Halt) (told : Stop)
      → IsTold text new.last halted told
      → HaltsIn version meaning old bytes new halted → StopsIn version meaning text old bytes new told
  stops_as_told text old new bytes (halt.Unlawful at) (stop.Unlawful position line) same halts front so =
      let shows = halts front so in
      let is : string_bytes line ≡ line_of text shows.entry = same.1 ∙ ap (line_of_last text) (shows.last) in
      subst (λ (k : ℕ). (s : ShowsUnlawful version meaning (front ++ bytes) k new) × (string_bytes line ≡ line_of text s.entry))
      (sym same.0) (shows, is)
  stops_as_told text old new bytes (halt.Unlawful at) stop.NoMemory same halts front so = inr (at, halts front so)
  stops_as_told text old new bytes (halt.Unlawful at) (stop.Fault number what) same halts front so = absurd same
  stops_as_told text old new bytes (halt.Fault line what) (stop.Fault number fault) same halts front so =
      subst (λ (n : ℕ). ShowsFault version meaning (front ++ bytes) n fault new.state new.checker) (sym same.0)
      (subst (λ (w : What). ShowsFault version meaning (front ++ bytes) line w new.state new.checker) (sym same.1) (halts front so))
  stops_as_told text old new bytes (halt.Fault line what) stop.NoMemory same halts front so = absurd same
  stops_as_told text old new bytes (halt.Fault line what) (stop.Unlawful position words) same halts front so = absurd same
  stops_as_told text old new bytes halt.NoMemory stop.NoMemory same halts front so = inl (halts front so)
  stops_as_told text old new bytes halt.NoMemory (stop.Unlawful position words) same halts front so = absurd same
  stops_as_told text old new bytes halt.NoMemory (stop.Fault number what) same halts front so = absurd same

  -- what a check that halted shows stays so once the halt is kept
  pub halts_on : (old new : Progress M) (kept : Option Halt) (bytes : List ℕ) (halted : Halt) → HaltsIn version meaning old bytes new halted
      → HaltsIn version meaning old bytes (record new { halt = kept }) halted
  halts_on old new kept bytes (halt.Unlawful at) halts front so =
      let shows = halts front so in record {
        entry = shows.entry;
        expected = shows.expected;
        is = shows.is;
        state = shows.state;
        last = shows.last;
        shown = shows.shown;
      }
  halts_on old new kept bytes (halt.Fault line what) halts front so = halts front so
  halts_on old new kept bytes halt.NoMemory halts front so = halts front so

  -- a check that has stopped was never at some bytes
  pub stops_no_more : (text : M → List ℕ) (old new : Progress M) (bytes : List ℕ) (halted : Halt) (told : Stop) → old.halt ≡ Some halted
      → StopsIn version meaning text old bytes new told
  stops_no_more text old new bytes halted told stopped front so = absurd (none-some halted (sym so.running ∙ stopped))

  -- ---- a board from it
  pub restored_as_read : (progress : Progress M) (bytes : List ℕ) (limit : ℕ) (after : Found M) (restored : RestoredShown M)
      → RestoresWith progress.checker limit after (Some restored) → IsSoFar version meaning bytes progress
      → IsRestored version meaning bytes limit restored
  restored_as_read progress bytes limit after restored restores so =
      let is = subst (λ (c : Found M). RestoresWith c limit after (Some restored)) so.checked restores in record {
        state = progress.state;
        entries = so.entries;
        read = so.read;
        lawful = so.lawful;
        made = is.0;
        makers = is.1;
      }

  -- a checker that gave a board is as a new one
  pub anew : (checker after : Found M) (limit : ℕ) (restored : RestoredShown M)
      → RestoresWith checker limit after (Some restored) → after ≡ Ok no_entries
  anew (Ok history) after limit restored is = is.2
  anew (Err unlawful) after limit restored is = absurd is

  -- a check that has not stopped gives a board
  pub gives_board : (progress : Progress M) (bytes : List ℕ) (limit : ℕ) (after : Found M) → RestoresWith progress.checker limit after None
      → IsSoFar version meaning bytes progress → ⊥
  gives_board progress bytes limit after restores so = subst (λ (c : Found M). RestoresWith c limit after None) so.checked restores

  pub kept : (checker after : Found M) (limit : ℕ) → RestoresWith checker limit after None → after ≡ checker
  kept (Ok history) after limit is = absurd is
  kept (Err unlawful) after limit is = is
