-- How the declared objects are made one after the other.
use Rattle.std.proofs.Common.{◌≡◌, ℕ, ◌+◌, ◌<◌, ◌≤◌, Bool, true, false, cond, List, [], ◌∷◌, length, map, take, filter, get_or, slice_get}
use Rattle.std.proofs.Common.{Option, Some, None, Ok, Err, Result, MatchBool, IfSome, IsSome, refl, sym, ap, ap₂, subst, ◌∙◌, arith}
use Rattle.std.specs.Prelude.{All}
use Rattle.std.specs.Option.{option_map, option_map_or, option_and_then}
use Rattle.std.specs.Result.{IsErrAnd}
use Rattle.std.proofs.lemmas.Option.{IfSome_then, same_Some, none-some}
use Rattle.std.proofs.lemmas.List.{length-map, take_all}
use Rattle.std.proofs.lemmas.Bool.{lt-ltb}
use Rattle.cml_board.specs.{Name, Call, Who, Reply, Entry, Refusal}
use Rattle.cml_board.specs.declared.call.Call.TheVariants as call
use Rattle.cml_board.specs.declared.entry.Who.TheVariants.{Seat, Feed}
use Rattle.cml_board.specs.declared.entry.Reply.TheVariants as reply
use Rattle.cml_grammar.specs.{Makes, FeedMaking, Declaration, Given, makes_feed, SourceLine, Lines, names_of, makes_of, source_of}
use Rattle.cml_grammar.specs.{GivesNames, ReadsDeclaration, IsMadeWell}
use Rattle.cml_grammar.specs.declared.forms.Makes.TheVariants as makes
use Rattle.cml_report.specs.{one_if, how_many, History, declared_count, objects_of, number_of, maker, is_object, is_feed, makes_object}
use Rattle.cml_report.specs.{IsDeclaration, IsOfCaller, IsOfScript, IsKnown}
use Rattle.cml_replay.specs.{Executed, IsNext, IsNextObject, IsNextPort}
use Rattle.cml_script.specs.{Made, with_call, with_feed, is_of_feed, with_refused, BeginsAt, capacity_made, feed_capacity, AreOpened}
use Rattle.cml_script.specs.{Declares, HasCapacity, HasMade, making}
use Rattle.cml_report.proofs.ListLemmas.{count_taken, filter_at, read_at, taken_all, told_more}
use Rattle.cml_report.proofs.LineLemmas.{declaration_object, declaration_feed, declaration_read}
use Rattle.cml_replay.proofs.MakingLemmas.{next_object}
use Rattle.cml_report.proofs.KeptLemmas.{declared_is}
use Rattle.cml_report.proofs.ObjectLemmas.{feeds_before}

-- what is kept is so of what was made
pub record IsDeclaring (script : Lines) (i : ℕ) (made : Option Made) : Type 0 where
  pub entries : History
  pub opened : List ℕ
  pub told : IfSome made
      (λ tells. tells ≡ record { seat = 0; entries = entries; opened = opened; apart = []; is_sending = false; refused = None })
  pub count : length entries ≡ how_many (is_object script) (take i script.declarations)
  pub fed : how_many is_of_feed entries ≡ how_many (is_feed script) (take i script.declarations)
  pub each : length opened ≡ how_many is_of_feed entries
  pub so : AreOpened script opened
  pub own : IsOfScript script entries

pub nothing_declared : (script : Lines) (made : Option Made) → BeginsAt 0 made → IsDeclaring script 0 made
nothing_declared script made none =
    record { entries = []; opened = []; told = none; count = refl; fed = refl; each = refl; so = tt; own = tt }

next_port : (executed : Executed) (channel : ℕ) → IsNextPort executed channel
    → IsNextObject executed (call.NewPort (record { 0 = number_of executed.script channel }))
next_port executed channel (is_channel, within, o, object, next) =
    let there =
    declared_is executed.script executed.history channel (number_of executed.script channel) refl (subst IsSome (sym object) refl) in
    let same : o ≡ number_of executed.script channel = same_Some _ _ (sym object ∙ there) in
    subst (IsNextObject executed) (ap (λ n. call.NewPort (record { 0 = n })) same) next

-- the call that makes this makes the next object
next_making : (executed : Executed) (m : Makes) (asked : Call (List ℕ)) → making executed.script m ≡ Some asked
    → IsNext executed m → IsNextObject executed asked
next_making executed makes.Thread asked e next = absurd (none-some asked e)
next_making executed (makes.Port channel) asked e next = subst (IsNextObject executed) (same_Some _ _ e) (next_port executed channel next)
next_making executed (makes.Feed feed) asked e next = subst (IsNextObject executed) (same_Some _ _ e) (next_port executed feed.channel next)
next_making executed m asked e next = subst (IsNextObject executed) (same_Some _ _ e) next

-- what it makes is an object, unless it is a thread
made_one : (script : Lines) (m : Makes) (asked : Call (List ℕ)) → making script m ≡ Some asked → makes_object m ≡ true
made_one script makes.Thread asked e = absurd (none-some asked e)
made_one script m asked e = refl

-- who makes it, where this many feeds were declared before
by_feed : Bool → ℕ → Who
by_feed feed feeds = cond feed (Feed feeds) (Seat 0)

module _ (script : Lines) (known : IsKnown script) {i : ℕ} {made : Option Made} (so_far : IsDeclaring script i made) (d : Declaration)
    (line : slice_get script.declarations i ≡ Some (source_of d.line)) (reads : ReadsDeclaration (names_of script) d) where
  counted : how_many (is_object script) (take (i + 1) script.declarations) ≡ how_many (is_object script)
      (take i script.declarations) + one_if (makes_object d.makes)
  counted = count_taken (is_object script) script.declarations i (source_of d.line) line
      ∙ ap (λ t. how_many (is_object script) (take i script.declarations) + one_if t) (declaration_object script d reads)

  fed : how_many (is_feed script) (take (i + 1) script.declarations) ≡ how_many (is_feed script)
      (take i script.declarations) + one_if (makes_feed d.makes)
  fed = count_taken (is_feed script) script.declarations i (source_of d.line) line
      ∙ ap (λ t. how_many (is_feed script) (take i script.declarations) + one_if t) (declaration_feed script d reads)

  -- who makes it
  maker_is : makes_object d.makes ≡ true
      → by_feed (makes_feed d.makes) (how_many is_of_feed so_far.entries) ≡ maker script (length so_far.entries)
  unfolding by_feed
  maker_is object =
      let k = how_many (is_object script) (take i script.declarations) in
      let there : slice_get (objects_of script) k ≡ Some (source_of d.line) =
      filter_at (is_object script) script.declarations i (source_of d.line) line (declaration_object script d reads ∙ object) in
      let feeds : how_many (is_feed script) (take k (objects_of script)) ≡ how_many (is_feed script) (take i script.declarations) =
      feeds_before script i in
      sym (ap (maker script) so_far.count
      ∙ ap₂ (λ t n. cond t (Feed n) (Seat 0)) (ap (λ o. option_map_or (is_feed script) o false) there ∙ declaration_feed script d reads)
      (feeds ∙ sym so_far.fed))

  pub none_more : (later : Option Made) → d.makes ≡ makes.Thread → later ≡ made → IsDeclaring script (i + 1) later
  none_more later thread same = record {
    entries = so_far.entries;
    opened = so_far.opened;
    told = subst (λ (o : Option Made). IfSome o (λ tells.
        tells ≡ record { seat = 0; entries = so_far.entries; opened = so_far.opened; apart = []; is_sending = false; refused = None }))
        (sym same) so_far.told;
    count = let no : one_if (makes_object d.makes) ≡ 0 = ap (λ m. one_if (makes_object m)) thread in
        omega (arith, so_far.count, counted, no);
    fed = let no : one_if (makes_feed d.makes) ≡ 0 = ap (λ m. one_if (makes_feed m)) thread in omega (arith, so_far.fed, fed, no);
    each = so_far.each;
    so = so_far.so;
    own = so_far.own;
  }

  -- the next feed has the capacity of its line
  capacity_is : (feed : FeedMaking) → d.makes ≡ makes.Feed feed → feed_capacity script (length so_far.opened) ≡ Some feed.capacity
  capacity_is feed e =
      let there : slice_get (filter (is_feed script) script.declarations) (how_many (is_feed script) (take i script.declarations))
      ≡ Some (source_of d.line) =
      filter_at (is_feed script) script.declarations i (source_of d.line) line (declaration_feed script d reads ∙ ap makes_feed e) in
      let at : slice_get (filter (is_feed script) script.declarations) (length so_far.opened) ≡ Some (source_of d.line) =
      ap (slice_get (filter (is_feed script) script.declarations)) (so_far.each ∙ so_far.fed) ∙ there in
      ap (option_and_then (λ (l : SourceLine). option_and_then capacity_made (makes_of (names_of script) l.words))) at
      ∙ ap (option_and_then capacity_made) reads.makes ∙ ap capacity_made e

  -- an entry more, by who makes the next object
  one_more : (asked : Call (List ℕ)) (entry : Entry (List ℕ)) (opened : List ℕ) (later : Option Made) → AreOpened script opened
      → length opened ≡ one_if (is_of_feed entry) + length so_far.opened → IsMadeWell (names_of script) i d.makes → making script d.makes
      ≡ Some asked → entry.call ≡ asked → entry.who ≡ by_feed (makes_feed d.makes) (how_many is_of_feed so_far.entries)
      → one_if (is_of_feed entry) ≡ one_if (makes_feed d.makes) → IfSome later (λ tells.
      tells ≡ record { seat = 0; entries = entry ∷ so_far.entries; opened = opened; apart = []; is_sending = false; refused = None })
      → IsDeclaring script (i + 1) later
  one_more asked entry opened later so each well is called by feeds told = record {
    entries = entry ∷ so_far.entries;
    opened = opened;
    each = omega (arith, each, so_far.each);
    so = so;
    told = told;
    count = let yes : one_if (makes_object d.makes) ≡ 1 = ap one_if object in omega (arith, so_far.count, counted, yes);
    fed = omega (arith, so_far.fed, fed, feeds);
    own = (
      subst (λ t. MatchBool t (IsDeclaration script so_far.entries entry) (IsOfCaller script so_far.entries entry entry.who))
          (sym (lt-ltb (length so_far.entries) (declared_count script) next.left))
          (record { by = by ∙ maker_is object; makes = next.makes ∙ ap Some (sym called) }),
      so_far.own,
    );
  }
    where
      object : makes_object d.makes ≡ true
      object = made_one script d.makes asked is

      executed : Executed
      executed = record { script = script; history = so_far.entries; limit = 0 }

      next : IsNextObject executed asked
      next = next_making executed d.makes asked is (next_object executed known.named i d so_far.count line reads well)

  -- what a caller made later has it besides
  pub made_more : (later : Option Made) → IsMadeWell (names_of script) i d.makes → HasMade script d.makes made later
      → IsDeclaring script (i + 1) later
  unfolding by_feed
  made_more later well has = by_makes d.makes refl has
    where
      told : Made
      told = record { seat = 0; entries = so_far.entries; opened = so_far.opened; apart = []; is_sending = false; refused = None }

      called : (m : Makes) → d.makes ≡ m → makes_feed m ≡ false → (asked : Call (List ℕ)) × (answered : Reply (List ℕ))
          × (making script m ≡ Some asked) × (later ≡ option_map (with_call asked answered) made) → IsDeclaring script (i + 1) later
      called m e unfed (asked, answered, is, more) =
          let plain : makes_feed d.makes ≡ false = ap makes_feed e ∙ unfed in
          let entry : Entry (List ℕ) = record { who = Seat 0; call = asked; reply = answered } in
          one_more asked entry so_far.opened later so_far.so (omega arith) well (ap (making script) e ∙ is) refl
          (sym (ap (λ t. by_feed t (how_many is_of_feed so_far.entries)) plain)) (sym (ap one_if plain))
          (told_more told (with_call asked answered) made later so_far.told more)

      by_makes : (m : Makes) → d.makes ≡ m → HasMade script m made later → IsDeclaring script (i + 1) later
      by_makes makes.Thread e has = none_more later e has
      by_makes (makes.Feed feed) e (port, more) =
          let is_feed_one : makes_feed d.makes ≡ true = ap makes_feed e in
          let channel : Name = record { 0 = number_of script feed.channel } in
          let asked : Call (List ℕ) = call.NewPort channel in
          let entry : Entry (List ℕ) = record { who = Feed (how_many is_of_feed so_far.entries); call = asked; reply = reply.Made port } in
          one_more asked entry (feed.capacity ∷ so_far.opened) later (capacity_is feed e, so_far.so)
          (omega arith) well (ap (making script) e) refl
          (sym (ap (λ t. by_feed t (how_many is_of_feed so_far.entries)) is_feed_one)) (sym (ap one_if is_feed_one))
          (told_more told (with_feed channel feed.capacity port) made later so_far.told more)
      by_makes m e has = called m e refl has

module _ (script : Lines) {i : ℕ} {made : Option Made} (so_far : IsDeclaring script i made) where
  few : length so_far.entries ≤ declared_count script
  few = omega (arith, so_far.count, taken_all (is_object script) script.declarations i)

  -- all were made
  pub declares : length script.declarations ≤ i → IfSome made (λ m. Declares script m (Ok tt))
  declares all = IfSome_then made so_far.told (λ tells is. subst (λ (m : Made). Declares script m (Ok tt)) (sym is) (record {
    own = so_far.own;
    opened = so_far.so;
    fed = so_far.each;
    within = few;
    all = so_far.count ∙ ap (how_many (is_object script)) (take_all i script.declarations all);
    refused = refl;
  }))

  -- or one was refused
  pub refuses : (ended : Result (Unit {0}) Refusal) (refusal : Refusal) (later : Option Made) → IsErrAnd ended (λ e. e ≡ refusal)
      → later ≡ option_map (with_refused refusal) made → IfSome later (λ m. Declares script m ended)
  refuses (Ok done) refusal later is same = absurd is
  refuses (Err e) refusal later is same = IfSome_then later (told_more _ (with_refused refusal) made later so_far.told same) (λ tells told.
      subst (λ (m : Made). Declares script m (Err e)) (sym told)
      (record { own = so_far.own; opened = so_far.so; fed = so_far.each; within = few; all = tt; refused = ap Some (sym is) }))

-- a declaration that a loop over a plan's declarations is at
pub record IsReadAt (script : Lines) (i : ℕ) (d : Declaration) : Type 0 where
  pub within : i < length script.declarations
  pub line : slice_get script.declarations i ≡ Some (source_of d.line)
  pub reads : ReadsDeclaration (names_of script) d
  pub well : IsMadeWell (names_of script) i d.makes

pub read_of_plan : (script shown : Lines) (items : List Declaration) (i : ℕ) (d : Declaration) → shown ≡ script
    → map (λ x. source_of x.line) items ≡ shown.declarations → All (ReadsDeclaration (names_of shown)) items
    → GivesNames (names_of shown) items → i < length items → d ≡ get_or items i d → IsReadAt script i d
read_of_plan script shown items i d same lines reads gives within is =
    let read = declaration_read shown items i d lines reads within is in
    let told : IsReadAt shown i d = record {
      within = omega (arith, within, ap length lines, length-map items (λ (x : Declaration). source_of x.line));
      line = read.0;
      reads = read.1;
      well = gives.made i d (read_at items i d within is);
    } in
    subst (λ (s : Lines). IsReadAt s i d) same told

-- a feed that is made well has room
pub well_fitted : (names : List Given) (i : ℕ) (m : Makes) → IsMadeWell names i m → HasCapacity m
well_fitted names i (makes.Feed feed) well = well.3
well_fitted names i m well = tt
