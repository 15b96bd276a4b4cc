-- What the lines of a script were read as.
use Rattle.std.proofs.Common.{◌≡◌, ℕ, zero, suc, ◌+◌, ◌<◌, ◌≤◌, Bool, true, false, ◌&&◌, eqb, [], ◌∷◌, ◌++◌, arith, List, length}
use Rattle.std.proofs.Common.{map, take, get_or, slice_get, Option, Some, None, cond, refl, sym, ap, subst, ◌∙◌}
use Rattle.std.specs.Prelude.{All, not}
use Rattle.std.specs.Option.{option_and_then, option_map_or}
use Rattle.std.specs.Bool.{then_some}
use Rattle.std.proofs.lemmas.List.{length-map, length_push}
use Rattle.std.proofs.lemmas.Bool.{and_parts, and_right, eqb-true, false≢true}
use Rattle.cml_grammar.specs.{Makes, Named, names_of, makes_of, action_of, seat_of_step, Declaration, Step, Given, kind_named, thread_count}
use Rattle.cml_grammar.specs.{SourceLine, Lines, is_giving, makes_feed, source_of, ReadsDeclaration, ReadsStep, Gives, GivesAt, GivesNames}
use Rattle.cml_grammar.specs.{gives_name, Action}
use Rattle.cml_grammar.specs.declared.forms.Makes.TheVariants as makes
use Rattle.cml_grammar.specs.declared.names.Named.TheVariants as called
use Rattle.cml_grammar.specs.declared.names.Users.TheVariants as users
use Rattle.cml_calls.specs.{Kind}
use Rattle.cml_calls.specs.declared.table.Ask.TheVariants as ask
use Rattle.cml_report.specs.{NamesObjects, HasSeats, AsksForPorts, IsObjectAt, kind_made, how_many, one_if, Route, makes_object, is_object}
use Rattle.cml_report.specs.{is_feed, is_seated, is_called, is_apart, is_by_ring, route_of, route_of_line}
use Rattle.std.proofs.lemmas.List.Elements.{All-get_or}
use Rattle.std.proofs.lemmas.Option.{slice_get_within, get_or_from_slice_get, same_Some, some_pair_parts}
use mir.Val.{bool_byte}
use Rattle.cml_report.specs.declared.route.Route.TheVariants as route
use Rattle.cml_grammar.specs.declared.forms.Action.TheVariants as action
use Rattle.cml_report.proofs.ListLemmas.{count_taken, each_pushed, mapped_at, read_at}

pub all_at : {X : Type 0} (P : X → Type 0) (xs : List X) (i : ℕ) (x : X) → All P xs → slice_get xs i ≡ Some x → P x
all_at P xs i x all found =
    subst P (get_or_from_slice_get xs i x x found) (All-get_or P xs i x (slice_get_within xs i x found) all)

-- a declaration or a step that a loop is at: its line, and what it is read as
pub declaration_read : (script : Lines) (items : List Declaration) (i : ℕ) (d : Declaration) → map (λ x. source_of x.line) items
    ≡ script.declarations → All (ReadsDeclaration (names_of script)) items → i < length items → d ≡ get_or items i d
    → (slice_get script.declarations i ≡ Some (source_of d.line)) × ReadsDeclaration (names_of script) d
declaration_read script items i d lines reads within is =
    let here = read_at items i d within is in (
      mapped_at (λ x. source_of x.line) items script.declarations i d lines here,
      all_at (ReadsDeclaration (names_of script)) items i d reads here,
    )

pub step_read : (script : Lines) (items : List Step) (i : ℕ) (s : Step) → map (λ x. source_of x.line) items ≡ script.steps
    → All (ReadsStep (names_of script)) items → i < length items → s ≡ get_or items i s
    → (slice_get script.steps i ≡ Some (source_of s.line)) × ReadsStep (names_of script) s
step_read script items i s lines reads within is =
    let here = read_at items i s within is in
    (mapped_at (λ x. source_of x.line) items script.steps i s lines here, all_at (ReadsStep (names_of script)) items i s reads here)

pub and_true : (t : Bool) → (t && true) ≡ t
and_true true = refl
and_true false = refl

pub declaration_feed : (script : Lines) (d : Declaration) → ReadsDeclaration (names_of script) d
    → is_feed script (source_of d.line) ≡ makes_feed d.makes
declaration_feed script d reads = ap (λ o. option_map_or makes_feed o false) reads.makes

-- a feed's port is an object
pub feed_object : (script : Lines) (line : SourceLine) → is_feed script line ≡ true → is_object script line ≡ true
feed_object script line = by_makes (makes_of (names_of script) line.words)
  where
    by_makes : (m : Option Makes) → option_map_or makes_feed m false ≡ true → option_map_or makes_object m false ≡ true
    by_makes (Some (makes.Feed feed)) e = refl
    by_makes m e = cc

pub declaration_object : (script : Lines) (d : Declaration) → ReadsDeclaration (names_of script) d
    → is_object script (source_of d.line) ≡ makes_object d.makes
declaration_object script d reads = ap (λ o. option_map_or makes_object o false) reads.makes

-- the thread of a step
pub step_seated : (script : Lines) (s : Step) (seat : ℕ) → ReadsStep (names_of script) s
    → is_seated script seat (source_of s.line) ≡ eqb s.seat seat
step_seated script s seat reads = ap (λ o. option_map_or (λ t. eqb t seat) o false) reads.seat

-- and how it goes
pub step_route : (script : Lines) (s : Step) → ReadsStep (names_of script) s
    → route_of_line script (source_of s.line) ≡ route_of script (Some s.seat) s.action
step_route script s reads =
    ap (λ o. option_map_or (route_of script o) (action_of (names_of script) (source_of s.line).words) route.Seat) reads.seat
    ∙ ap (λ o. option_map_or (route_of script (Some s.seat)) o route.Seat) reads.action

pub step_called : (script : Lines) (s : Step) (seat : ℕ) → ReadsStep (names_of script) s
    → is_by_ring (route_of script (Some s.seat) s.action) ≡ false → is_called script seat (source_of s.line) ≡ eqb s.seat seat
step_called script s seat reads apart =
    ap (λ t. is_seated script seat (source_of s.line) && not t) (ap is_by_ring (step_route script s reads) ∙ apart)
    ∙ and_true (is_seated script seat (source_of s.line)) ∙ step_seated script s seat reads

pub step_apart : (script : Lines) (s : Step) (seat : ℕ) → ReadsStep (names_of script) s
    → is_by_ring (route_of script (Some s.seat) s.action) ≡ true → is_called script seat (source_of s.line) ≡ false
step_apart script s seat reads apart =
    ap (λ t. is_seated script seat (source_of s.line) && not t) (ap is_by_ring (step_route script s reads) ∙ apart)
    ∙ and_right (is_seated script seat (source_of s.line)) false refl

-- a step that a seat performs is that seat's
pub called_seated : (script : Lines) (seat : ℕ) (line : SourceLine) → is_called script seat line ≡ true → is_seated script seat line ≡ true
called_seated script seat line called = (and_parts (is_seated script seat line) (not (is_apart script line)) called).0

-- a step that gives a name is performed by its thread's seat
pub giving_called : (script : Lines) (i seat : ℕ) (line : SourceLine) → AsksForPorts script → slice_get script.steps i ≡ Some line
    → is_giving line ≡ true → is_seated script seat line ≡ true → is_called script seat line ≡ true
giving_called script i seat line asks found gives seated =
    ap (λ t. t && not (is_apart script line)) seated ∙ ap not (by_action (action_of (names_of script) line.words) refl)
  where
    seat_of : Option ℕ
    seat_of = seat_of_step (names_of script) line.words

    not_apart : (a : Action) → gives_name a ≡ true → is_by_ring (route_of script seat_of a) ≡ false
    not_apart (action.Give give at message) e = absurd (false≢true e)
    not_apart (action.Ask ask.Poll at) e = absurd (false≢true e)
    not_apart (action.Ask ask at) e = refl

    by_action : (o : Option Action) → action_of (names_of script) line.words ≡ o → is_apart script line ≡ false
    by_action None e = ap (λ o. is_by_ring (option_map_or (route_of script seat_of) o route.Seat)) e
    by_action (Some a) e = ap (λ o. is_by_ring (option_map_or (route_of script seat_of) o route.Seat)) e
        ∙ not_apart a (asks i line a found e ∙ gives)

-- there is an element at each place of a list
pub stands : {X : Type 0} (xs : List X) (i : ℕ) → i < length xs → (x : X) × (slice_get xs i ≡ Some x)
stands [] i lt = absurd (omega arith)
stands (x ∷ xs) zero lt = (x, refl)
stands (x ∷ xs) (suc i) lt = stands xs i (omega arith)

-- and none past them
pub none_within : {X : Type 0} (xs : List X) (i : ℕ) → slice_get xs i ≡ None → length xs ≤ i
none_within [] i none = omega arith
none_within (x ∷ xs) zero none = cc
none_within (x ∷ xs) (suc i) none = let ih = none_within xs i none in omega (arith, ih)

-- an object's name is given by the declaration of such an object
gives_kind : (names : List Given) (at : ℕ) (k : Kind) (d : Declaration) → IsObjectAt names at k
    → Gives names at d → kind_made d.makes ≡ Some k
gives_kind names at k d (word, n, found, kinded) gives = by_makes d.makes gives.2
  where
    same : (m : Named) → slice_get names at ≡ Some (gives.0, m) → kind_named m ≡ Some k
    same m there = ap kind_named (sym (some_pair_parts word gives.0 n m (sym found ∙ there)).1) ∙ kinded

    by_makes : (m : Makes) → GivesAt names at gives.0 m → kind_made m ≡ Some k
    by_makes makes.Mailbox g = same called.Mailbox g
    by_makes makes.Channel g = same called.Channel g
    by_makes (makes.Port source) g = same (called.Port users.Every) g
    by_makes makes.IVar g = same called.IVar g
    by_makes makes.MVar g = same called.MVar g
    by_makes (makes.MVarInit message) g = same called.MVar g
    by_makes makes.Thread g = same (called.Thread g.0) g.1
    by_makes (makes.Feed f) g = same (called.Feed f.seat) g

pub names_objects : (script : Lines) (items : List Declaration) → map (λ d. source_of d.line) items ≡ script.declarations
    → GivesNames (names_of script) items → All (ReadsDeclaration (names_of script)) items → NamesObjects script
names_objects script items lines gives reads = λ at k declared object.
    let within : at < length items = omega (arith, declared, ap length lines, length-map items (λ (d : Declaration). source_of d.line)) in
    let there = stands items at within in
    let d = there.0 in (
      source_of d.line,
      mapped_at (λ x. source_of x.line) items script.declarations at d lines there.1,
      ap (option_and_then kind_made) (all_at (ReadsDeclaration (names_of script)) items at d reads there.1).makes
          ∙ gives_kind (names_of script) at k d object (gives.each at d there.1),
    )

-- just the steps that ask for a port give a name
pub step_gives : (script : Lines) (s : Step) → ReadsStep (names_of script) s → gives_name s.action ≡ is_giving (source_of s.line)
step_gives script s reads = reads.gives

pub asks_for_ports : (script : Lines) (items : List Step) → map (λ s. source_of s.line) items ≡ script.steps
    → All (ReadsStep (names_of script)) items → AsksForPorts script
asks_for_ports script items lines reads = λ i line asked found asks.
    let within : i < length items =
    omega (arith, slice_get_within script.steps i line found, ap length lines, length-map items (λ (s : Step). source_of s.line)) in
    let there = stands items i within in
    let s = there.0 in
    let same : source_of s.line ≡ line =
    same_Some _ _ (sym (mapped_at (λ x. source_of x.line) items script.steps i s lines there.1) ∙ found) in
    let read = all_at (ReadsStep (names_of script)) items i s reads there.1 in
    let one : s.action ≡ asked =
    same_Some _ _ (sym read.action ∙ ap (λ (l : SourceLine). action_of (names_of script) l.words) same ∙ asks) in
    ap gives_name (sym one) ∙ step_gives script s read ∙ ap is_giving same

pub has_seats : (script : Lines) (items : List Step) → map (λ s. source_of s.line) items ≡ script.steps
    → All (ReadsStep (names_of script)) items → thread_count (names_of script) ≤ 64 → HasSeats script
has_seats script items lines reads few = λ i line seat found seated.
    let within : i < length items =
    omega (arith, slice_get_within script.steps i line found, ap length lines, length-map items (λ s. source_of s.line)) in
    let there = stands items i within in
    let s = there.0 in
    let same : source_of s.line ≡ line =
    same_Some _ _ (sym (mapped_at (λ x. source_of x.line) items script.steps i s lines there.1) ∙ found) in
    let read = all_at (ReadsStep (names_of script)) items i s reads there.1 in
    let here : s.seat ≡ seat = eqb-true s.seat seat (sym (step_seated script s seat read) ∙ ap (is_seated script seat) same ∙ seated) in
    let bounds = read.seated in
    (omega (arith, here, bounds.0), omega (arith, here, bounds.1, few))

pub byte_one : (t : Bool) → bool_byte t ≡ one_if t
byte_one true = refl
byte_one false = refl

pub one_le : (t : Bool) → one_if t ≤ 1
one_le true = omega arith
one_le false = omega arith

-- a count goes on by the byte of a test
pub byte_more : (n all byte k : ℕ) (t b : Bool) → all ≡ n + one_if b → byte ≡ bool_byte t → t ≡ b → n ≤ k
    → (n + byte ≡ all) × (n + byte ≤ k + 1)
byte_more n all byte k t b more is same few =
    let one : byte ≡ one_if b = is ∙ ap bool_byte same ∙ byte_one b in
    (omega (arith, more, one), omega (arith, one, one_le b, few))

-- this many of the first of these pass a test
pub record AreCounted {X : Type 0} (p : X → Bool) (xs : List X) (i n : ℕ) : Type 0 where
  pub count : n ≡ how_many p (take i xs)
  pub few : n ≤ i

pub counted_more : {X : Type 0} (p : X → Bool) (xs : List X) (i n byte : ℕ) (x : X) (t : Bool) → slice_get xs i ≡ Some x
    → AreCounted p xs i n → byte ≡ bool_byte t → t ≡ p x → AreCounted p xs (i + 1) (n + byte)
counted_more p xs i n byte x t found so_far is same =
    let all : how_many p (take (i + 1) xs) ≡ n + one_if (p x) = omega (arith, count_taken p xs i x found, so_far.count) in
    let on = byte_more n (how_many p (take (i + 1) xs)) byte i t (p x) all is same so_far.few in
    record { count = on.0; few = on.1 }

-- the same of declarations that make such a thing, and of steps that go so
pub declaration_counted : (script : Lines) (p : SourceLine → Bool) (such : Makes → Bool)
    → ((d : Declaration) → ReadsDeclaration (names_of script) d → p (source_of d.line) ≡ such d.makes)
    → (items : List Declaration) (i n byte : ℕ) (d : Declaration) (t : Bool) → map (λ x. source_of x.line) items ≡ script.declarations
    → All (ReadsDeclaration (names_of script)) items → i < length items → d ≡ get_or items i d
    → AreCounted p script.declarations i n → byte ≡ bool_byte t → t ≡ such d.makes → AreCounted p script.declarations (i + 1) (n + byte)
declaration_counted script p such same items i n byte d t lines reads within is so_far one test =
    let read = declaration_read script items i d lines reads within is in
    counted_more p script.declarations i n byte (source_of d.line) t read.0 so_far one (test ∙ sym (same d read.1))

pub step_counted : (script : Lines) (p : SourceLine → Bool) (goes : Route → Bool)
    → ((line : SourceLine) → p line ≡ goes (route_of_line script line))
    → (items : List Step) (i n byte : ℕ) (s : Step) (t : Bool) (w : Route) → map (λ x. source_of x.line) items ≡ script.steps
    → All (ReadsStep (names_of script)) items → i < length items → s ≡ get_or items i s → AreCounted p script.steps i n
    → byte ≡ bool_byte t → t ≡ goes w → w ≡ route_of script (Some s.seat) s.action → AreCounted p script.steps (i + 1) (n + byte)
step_counted script p goes same items i n byte s t w lines reads within is so_far one test routed =
    let read = step_read script items i s lines reads within is in
    let goes_so = test ∙ ap goes (routed ∙ sym (step_route script s read.1)) ∙ sym (same (source_of s.line)) in
    counted_more p script.steps i n byte (source_of s.line) t read.0 so_far one goes_so

-- by element, how many before it pass a test
pub record AreNumbered {X : Type 0} (p : X → Bool) (xs : List X) (i n : ℕ) (numbers : List ℕ) : Type 0 where
  pub short : length numbers ≡ i
  pub count : n ≡ how_many p (take i xs)
  pub few : n ≤ i
  pub each : (k : ℕ) → k < length numbers → slice_get numbers k ≡ Some (how_many p (take k xs))

pub numbered_more : {X : Type 0} (p : X → Bool) (xs : List X) (i n m : ℕ) (numbers later : List ℕ) → AreNumbered p xs i n numbers
    → AreCounted p xs (i + 1) m → later ≡ numbers ++ n ∷ [] → AreNumbered p xs (i + 1) m later
numbered_more p xs i n m numbers later so_far counted pushed =
    let last = so_far.count ∙ ap (λ k. how_many p (take k xs)) (sym so_far.short) in
    subst (AreNumbered p xs (i + 1) m) (sym pushed) (record {
      short = omega (arith, length_push numbers n, so_far.short);
      count = counted.count;
      few = counted.few;
      each = each_pushed (λ k. how_many p (take k xs)) numbers n so_far.each last;
    })

pub then_is : (t : Bool) (n : ℕ) → then_some t n ≡ cond t (Some n) None
then_is true n = refl
then_is false n = refl
