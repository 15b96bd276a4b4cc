-- What holds of the lines so far holds with one more declaration, and with one more step.
use Rattle.std.proofs.Common.{◌≡◌, ℕ, ◌+◌, ◌≤◌, ◌==◌, Bool, true, false, not, ◌&&◌, ◌||◌, List, [], ◌∷◌, ◌++◌, length}
use Rattle.std.proofs.Common.{map, slice_get, nat_le, Option, Some, None, String, string_bytes, All, refl, sym, ap, ◌∙◌}
use Rattle.std.proofs.Common.{subst, arith, ◌<◌, count_by, cond, is_some}
use Rattle.std.specs.Prelude.{⊤}
use Rattle.std.specs.Global.{Global}
use Rattle.std.specs.Map.{keys_of}
use Rattle.std.specs.Option.{option_map_or, option_and_then, option_map}
use Rattle.std.specs.Str.Parse.{digits_value}
use Rattle.std.proofs.Math.Bool.{or-false}
use Rattle.std.proofs.lemmas.Bool.{or_right, or_parts, leb-false, ne_eqb, not-false, eqb-true}
use Rattle.std.proofs.lemmas.List.{append-nil, length-append, length-map, map-append}
use Rattle.std.proofs.lemmas.List.Sums.{sum_by_push}
use Rattle.std.proofs.lemmas.List.Elements.{All-nil, All-push, All-weaker}
use Rattle.std.proofs.lemmas.Option.{none-some, same_Some, slice_get_within, option_and_then_some}
use Rattle.cml_calls.specs.{Takers, asked}
use Rattle.cml_grammar.specs.{Named, Users, Declares, Verb, Action, Makes, Declaration, FeedMaking, Lane, Step, words_of, Given}
use Rattle.cml_grammar.specs.{thread_count, seat_in, seat_of, named, position_of, declaration, step, declared_places, fresh_word, owner_of}
use Rattle.cml_grammar.specs.{named_by, is_poll, step_places, is_used, is_others, Scope, Ends, fault_in_words, after_words, gives, given_as}
use Rattle.cml_grammar.specs.{is_step, declares_thread, any_word, is_not_yours, SourceLine, scope_of, names_of, feed_by, makes_by, makes_of}
use Rattle.cml_grammar.specs.{action_by, action_of, seat_of_step, source_of, view_of, texts_of, IsSeatedWithin, IsSeat, GivesAt, Gives}
use Rattle.cml_grammar.specs.{GivesNames, IsMadeWell, ReadsDeclaration, ReadsLane, ReadsStep, UsesWell, UsesEarlier, MayUse, IsYours}
use Rattle.cml_grammar.specs.{used_by, IsReadSoFar, threads_by, with_words, declared_word, asked_word, is_giving, names_before}
use Rattle.cml_grammar.specs.{NamesAreGiven}
use Rattle.cml_grammar.specs.declared.names.Named.TheVariants as called
use Rattle.cml_grammar.specs.declared.names.Users.TheVariants as users
use Rattle.cml_grammar.specs.declared.forms.Declares.TheVariants as declares
use Rattle.cml_grammar.specs.declared.forms.Verb.TheVariants as verb
use Rattle.cml_grammar.specs.declared.forms.Action.TheVariants as action
use Rattle.cml_grammar.specs.declared.forms.Place.TheVariants.{Object, Polled}
use Rattle.cml_grammar.specs.declared.forms.Makes.TheVariants as makes
use Rattle.cml_grammar.proofs.ListLemmas.{mapped_some, slice_get-push, each-push}
use Rattle.cml_grammar.proofs.GrowingLemmas.{GivesAt-append, IsMadeWell-append, ReadsDeclaration-append, GivesNames-append}
use Rattle.cml_grammar.proofs.GrowingLemmas.{ReadsStep-append, Asks, step_asks, ReadsLane-append, ends_kept, ends_same}
use Rattle.cml_grammar.proofs.FormLemmas.{IsLine, line_by}
use Rattle.cml_grammar.proofs.SeatLemmas.{seated_from}
use Rattle.cml_grammar.proofs.GivingLemmas.{given-declaration, before_same, before_last, given-step}
use Rattle.cml_grammar.proofs.TableLemmas.{Passes}
use Rattle.cml_grammar.proofs.ReadingLemmas.{empty_list, no_steps, scope_of-with_words, view-declaration, view-step, ReadFrom, read_passes}

-- ---- names with one more
thread_count-push : (names : List Given) (word : List ℕ) (what : Declares) (threads owner : ℕ)
    → thread_count (names ++ (word, named_by what threads owner) ∷ []) ≡ thread_count names + threads_by what
thread_count-push names word what threads owner = sum_by_push _ names (word, named_by what threads owner)
    ∙ ap (λ n. thread_count names + n) (by what)
  where
    by : (w : Declares) → cond (is_some (seat_in (named_by w threads owner))) 1 0 ≡ threads_by w
    by declares.Thread = refl
    by _ = refl

seated_more : (m n : ℕ) → m ≤ n → (k : Named) → IsSeatedWithin m k → IsSeatedWithin n k
seated_more m n le (called.Thread seat) h = (h.0, omega (arith, h.1))
seated_more m n le (called.Feed owner) h = (h.0, omega (arith, h.1))
seated_more m n le _ h = tt

-- the owner of a feed is one of the threads
IsOwned : Declares → ℕ → ℕ → Type 0
IsOwned declares.Feed n owner = (1 ≤ owner) × (owner ≤ n)
IsOwned _ n owner = ⊤

seated_new : (what : Declares) (threads owner : ℕ) → IsOwned what threads owner
    → IsSeatedWithin (threads + threads_by what) (named_by what threads owner)
unfolding IsOwned
seated_new declares.Thread threads owner h = (omega arith, omega arith)
seated_new declares.Feed threads owner h = (h.0, omega (arith, h.1))
seated_new _ threads owner h = tt

seats_push : (names : List Given) (word : List ℕ) (what : Declares) (owner : ℕ) → IsOwned what (thread_count names) owner
    → All (λ g. IsSeatedWithin (thread_count names) g.1) names
    → All (λ g. IsSeatedWithin (thread_count (names ++ (word, named_by what (thread_count names) owner) ∷ [])) g.1)
    (names ++ (word, named_by what (thread_count names) owner) ∷ [])
seats_push names word what owner owned seats =
    let count = thread_count names in
    let grown : count + threads_by what ≡ thread_count (names ++ (word, named_by what count owner) ∷ []) =
    sym (thread_count-push names word what count owner) in
    subst (λ n. All (λ (g : Given). IsSeatedWithin n g.1) (names ++ (word, named_by what count owner) ∷ [])) grown
    (All-push (λ (g : Given). IsSeatedWithin (count + threads_by what) g.1) names (word, named_by what count owner)
    (All-weaker (λ (g : Given). IsSeatedWithin count g.1) (λ (g : Given). IsSeatedWithin (count + threads_by what) g.1)
    (λ g h. seated_more count (count + threads_by what) (omega arith) g.1 h) names seats)
    (seated_new what count owner owned))

-- a feed's line names the seat that its making has
owner_found : (names : List Given) (rest : List (List ℕ)) (f : FeedMaking) → feed_by names rest ≡ Some f → owner_of names rest ≡ f.seat
owner_found names (thread ∷ name ∷ channel ∷ capacity ∷ []) f h =
    option_and_then_some (λ seat. option_map (λ at. record { seat = seat; channel = at; capacity = digits_value 10 capacity })
    (position_of names channel)) (seat_of names thread) f h (λ seat found is.
    ap (λ (o : Option ℕ). option_map_or (λ s. s) o 0) found
    ∙ ap (λ (m : FeedMaking). m.seat) (mapped_some _ (position_of names channel) f is).2)
owner_found names _ f h = absurd (none-some f h)

-- so it is owned where it is made well
owned_from : (names : List Given) (what : Declares) (rest : List (List ℕ)) (made : Makes) (i : ℕ) → makes_by names what rest ≡ Some made
    → IsMadeWell names i made → IsOwned what (thread_count names) (owner_of names rest)
unfolding IsOwned
owned_from names declares.Feed rest made i h well =
    let found = mapped_some makes.Feed (feed_by names rest) made h in
    let there = subst (IsMadeWell names i) (sym found.2) well in
    subst (λ (seat : ℕ). IsSeat names seat) (sym (owner_found names rest found.0 found.1)) there.2
owned_from names _ rest made i h well = tt

-- what is made is named so
GivesAt-new : (names : List Given) (at : ℕ) (word : List ℕ) (what : Declares) (threads owner : ℕ) (made : Makes) (given : List Given)
    (rest : List (List ℕ)) → owner ≡ owner_of given rest → makes_by given what rest ≡ Some made
    → slice_get names at ≡ Some (word, named_by what threads owner) → GivesAt names at word made
GivesAt-new names at word declares.Port threads owner made given [] own h there = absurd (none-some made h)
GivesAt-new names at word declares.Port threads owner made given (channel ∷ rest) own h there =
    subst (GivesAt names at word) (mapped_some makes.Port (position_of given channel) made h).2 there
GivesAt-new names at word declares.Thread threads owner made given rest own h there =
    subst (GivesAt names at word) (same_Some _ _ h) (threads + 1, there)
GivesAt-new names at word declares.Feed threads owner made given rest own h there =
    let found = mapped_some makes.Feed (feed_by given rest) made h in
    subst (GivesAt names at word) found.2 (there
    ∙ ap (λ (seat : ℕ). Some (word, called.Feed seat)) (own ∙ owner_found given rest found.0 found.1))
GivesAt-new names at word declares.MVar threads owner made given (name ∷ message ∷ []) own h there =
    subst (GivesAt names at word) (same_Some _ _ h) there
GivesAt-new names at word declares.MVar threads owner made given _ own h there = subst (GivesAt names at word) (same_Some _ _ h) there
GivesAt-new names at word _ threads owner made given rest own h there = subst (GivesAt names at word) (same_Some _ _ h) there

GivesNames-push : (names : List Given) (ds : List Declaration) (word : List ℕ) (what : Declares) (threads owner : ℕ)
    (d : Declaration) (rest : List (List ℕ))
    → owner ≡ owner_of names rest → length names ≡ length ds → GivesNames names ds → declared_word (words_of (string_bytes d.line.text))
    ≡ Some word → makes_by names what rest ≡ Some d.makes → IsMadeWell names (length names) d.makes
    → GivesNames (names ++ (word, named_by what threads owner) ∷ []) (ds ++ d ∷ [])
GivesNames-push names ds word what threads owner d rest own same h there makes well =
    let more : List Given = (word, named_by what threads owner) ∷ [] in
    record {
      each = each-push (Gives (names ++ more)) ds d (λ i x found. let g = h.each i x found in
          (g.0, g.1, GivesAt-append names more i g.0 x.makes g.2))
          (subst (λ (n : ℕ). Gives (names ++ more) n d) same (
            word,
            there,
            GivesAt-new (names ++ more) (length names) word what threads owner d.makes names rest own makes
                (slice_get-push names (word, named_by what threads owner)),
          ));
      made = each-push (λ i (x : Declaration). IsMadeWell (names ++ more) i x.makes) ds d
          (λ i x found. IsMadeWell-append names more i x.makes (h.made i x found))
          (subst (λ (n : ℕ). IsMadeWell (names ++ more) n d.makes) same (IsMadeWell-append names more (length names) d.makes well));
    }

-- ---- the scope after the lines so far, and after one more
module _ (v : ℕ) (es : List (String Global × Named)) (ds : List Declaration) (ls : List Lane)
    (cs : List (Ends × ℕ)) (ss : List Step) (threads : ℕ)
    (so_far : IsReadSoFar (view_of v ds ls ss) es ds ls cs ss threads) where
  sources_started : (scope_of (view_of v ds ls ss)).started ≡ not (length (view_of v ds ls ss).steps == 0)
  sources_started = so_far.started ∙ ap (λ n. not (n == 0)) (sym (length-map ss _))

  pub next_scope : (k : ℕ) (line : List ℕ) → fault_in_words (scope_of (view_of v ds ls ss)) (words_of line) ≡ None
      → scope_of (with_words (view_of v ds ls ss) k line) ≡ after_words (scope_of (view_of v ds ls ss)) (words_of line)
  next_scope k line none = scope_of-with_words (view_of v ds ls ss) k line sources_started
      (λ more. ends_same (names_of (view_of v ds ls ss)) more ls so_far.lanes) none

-- ---- the lines so far, with one more declaration
module _ (v : ℕ) (es : List (String Global × Named)) (ds : List Declaration) (ls : List Lane)
    (cs : List (Ends × ℕ)) (ss : List Step) (threads : ℕ)
    (d : Declaration) (what : Declares) (rest : List (List ℕ)) (name : List ℕ)
    (so_far : IsReadSoFar (view_of v ds ls ss) es ds ls cs ss threads)
    (read : ReadFrom (view_of v ds ls ss) d.line (declaration what rest))
    (there : fresh_word (declared_places what rest) rest ≡ Some name)
    (makes : makes_by (names_of (view_of v ds ls ss)) what rest ≡ Some d.makes)
    (well : IsMadeWell (names_of (view_of v ds ls ss)) (length (names_of (view_of v ds ls ss))) d.makes) where
  declared_passes : Passes (scope_of (view_of v ds ls ss)) (declaration what rest)
  declared_passes = read_passes (view_of v ds ls ss) d.line (declaration what rest) read

  no_step_seen : ss ≡ []
  no_step_seen = empty_list ss (sym (length-map ss _) ∙ ap length
      (no_steps (view_of v ds ls ss) (declaration what rest) (sources_started v es ds ls cs ss threads so_far) declared_passes refl))

  pub declared_scope : scope_of (view_of v (ds ++ d ∷ []) ls ss) ≡ after_words (scope_of (view_of v ds ls ss))
      (words_of (string_bytes d.line.text))
  declared_scope =
      ap scope_of (view-declaration v ds ls ss d rest what read.is)
      ∙ next_scope v es ds ls cs ss threads so_far d.line.number (string_bytes d.line.text) read.fits

  abbrev owner : ℕ
  owner = owner_of (names_of (view_of v ds ls ss)) rest

  declared_names : names_of (view_of v (ds ++ d ∷ []) ls ss)
      ≡ names_of (view_of v ds ls ss) ++ (name, named_by what (thread_count (names_of (view_of v ds ls ss))) owner) ∷ []
  declared_names =
      ap (λ (s : Scope). s.names) declared_scope
      ∙ ap (λ f. names_of (view_of v ds ls ss) ++ gives (names_of (view_of v ds ls ss)) f) read.is
      ∙ ap (λ w. names_of (view_of v ds ls ss) ++ given_as (named_by what (thread_count (names_of (view_of v ds ls ss))) owner) w) there

  room : threads + threads_by what ≤ 64
  room = by what declared_passes.room
    where
      by : (w : Declares) → (declares_thread (declaration w rest) && nat_le 64 (thread_count (names_of (view_of v ds ls ss)))) ≡ false
          → threads + threads_by w ≤ 64
      by declares.Thread h = omega (arith, so_far.count, leb-false 64 (thread_count (names_of (view_of v ds ls ss))) h)
      by _ h = omega (arith, so_far.limit)

  line : IsLine (names_of (view_of v ds ls ss)) (words_of (string_bytes d.line.text)) (declaration what rest)
  line = line_by (names_of (view_of v ds ls ss)) (words_of (string_bytes d.line.text)) (declaration what rest) read.is

  reads : ReadsDeclaration (names_of (view_of v ds ls ss)) d
  reads = record {
    makes = ap (makes_of (names_of (view_of v ds ls ss))) line.1
        ∙ ap (option_and_then (λ w. makes_by (names_of (view_of v ds ls ss)) w rest)) line.2 ∙ makes;
  }

  declared_there : declared_word (words_of (string_bytes d.line.text)) ≡ Some name
  declared_there = ap declared_word line.1 ∙ ap (option_and_then (λ w. fresh_word (declared_places w rest) rest)) line.2 ∙ there

  -- the lines of the declarations and of the steps
  abbrev declared_lines : List SourceLine
  declared_lines = map (λ (x : Declaration). source_of x.line) ds

  same_length : length (names_of (view_of v ds ls ss)) ≡ length ds
  same_length =
      let total : length (names_of (view_of v ds ls ss)) ≡ length declared_lines + 0 = so_far.given.total
      ∙ ap (λ (xs : List Step). length declared_lines + count_by is_giving (map (λ (x : Step). source_of x.line) xs)) no_step_seen in
      omega (arith, total, length-map ds (λ (x : Declaration). source_of x.line))

  grown_lanes : All (ReadsLane (names_of (view_of v (ds ++ d ∷ []) ls ss))) ls
  grown_lanes =
      subst (λ gs. All (ReadsLane gs) ls) (sym declared_names)
      (All-weaker (ReadsLane (names_of (view_of v ds ls ss))) (ReadsLane (names_of (view_of v ds ls ss) ++ _))
      (λ x h. ReadsLane-append (names_of (view_of v ds ls ss)) _ x h) ls so_far.lanes)

  pub declared_so_far : (es' : List (String Global × Named)) → texts_of es' ≡ texts_of es ++ (name, named_by what threads owner) ∷ []
      → IsReadSoFar (view_of v (ds ++ d ∷ []) ls ss) es' (ds ++ d ∷ []) ls cs ss (threads + threads_by what)
  declared_so_far es' entries = record {
    names = entries ∙ ap (λ gs. gs ++ (name, named_by what threads owner) ∷ []) so_far.names
        ∙ ap (λ n. names_of (view_of v ds ls ss) ++ (name, named_by what n owner) ∷ []) so_far.count ∙ sym declared_names;
    gives = subst (λ gs. GivesNames gs (ds ++ d ∷ [])) (sym declared_names)
        (GivesNames-push (names_of (view_of v ds ls ss)) ds name what
        (thread_count (names_of (view_of v ds ls ss))) owner d rest refl same_length so_far.gives declared_there makes well);
    given =
        let more : List Given = (name, named_by what (thread_count (names_of (view_of v ds ls ss))) owner) ∷ [] in
        subst (λ (gs : List Given). NamesAreGiven gs (map (λ (x : Declaration). source_of x.line) (ds ++ d ∷ []))
        (map (λ (x : Step). source_of x.line) ss)) (sym declared_names)
        (subst (λ (lines : List SourceLine). NamesAreGiven (names_of (view_of v ds ls ss) ++ more) lines
        (map (λ (x : Step). source_of x.line) ss)) (sym (map-append (λ (x : Declaration). source_of x.line) ds (d ∷ [])))
        (subst (λ (xs : List Step). NamesAreGiven (names_of (view_of v ds ls ss) ++ more) (declared_lines ++ source_of d.line ∷ [])
        (map (λ (x : Step). source_of x.line) xs)) (sym no_step_seen)
        (given-declaration (names_of (view_of v ds ls ss)) declared_lines (source_of d.line) name
        (named_by what (thread_count (names_of (view_of v ds ls ss))) owner)
        (subst (λ (xs : List Step). NamesAreGiven (names_of (view_of v ds ls ss)) declared_lines (map (λ (x : Step). source_of x.line) xs))
        no_step_seen so_far.given) declared_there)));
    declarations = subst (λ gs. All (ReadsDeclaration gs) (ds ++ d ∷ [])) (sym declared_names)
        (All-weaker (ReadsDeclaration (names_of (view_of v ds ls ss))) (ReadsDeclaration (names_of (view_of v ds ls ss) ++ _))
        (λ x h. ReadsDeclaration-append (names_of (view_of v ds ls ss)) _ x h) (ds ++ d ∷ [])
        (All-push (ReadsDeclaration (names_of (view_of v ds ls ss))) ds d so_far.declarations reads));
    lanes = grown_lanes;
    capacities_are = so_far.capacities_are;
    steps = subst (All (ReadsStep (names_of (view_of v (ds ++ d ∷ []) ls ss)))) (sym no_step_seen)
        (All-nil (ReadsStep (names_of (view_of v (ds ++ d ∷ []) ls ss))));
    earlier = subst (UsesEarlier (view_of v (ds ++ d ∷ []) ls ss)) (sym no_step_seen) (λ k s found. absurd (none-some s found));
    count = ap (λ n. n + threads_by what) so_far.count
        ∙ sym (thread_count-push (names_of (view_of v ds ls ss)) name what (thread_count (names_of (view_of v ds ls ss))) owner)
        ∙ ap thread_count (sym declared_names);
    limit = room;
    seats = subst (λ gs. All (λ (g : Given). IsSeatedWithin (thread_count gs) g.1) gs) (sym declared_names)
        (seats_push (names_of (view_of v ds ls ss)) name what owner
        (owned_from (names_of (view_of v ds ls ss)) what rest d.makes (length (names_of (view_of v ds ls ss))) makes well) so_far.seats);
    started =
        ap (λ (s : Scope). s.started) declared_scope
        ∙ ap (λ f. (scope_of (view_of v ds ls ss)).started || is_step f) read.is
        ∙ or-false (scope_of (view_of v ds ls ss)).started
        ∙ so_far.started;
    ends = ends_kept (names_of (view_of v (ds ++ d ∷ []) ls ss)) ls grown_lanes ∙ ap keys_of (sym so_far.capacities_are);
  }

-- ---- and with one more step
-- a step is by the seat that may use what it uses
may_use : (seat : ℕ) (n : Named) → is_others seat n ≡ false → MayUse seat n
may_use seat (called.Port (users.One owner)) h = eqb-true owner seat (not-false _ h)
may_use seat (called.Feed owner) h = eqb-true owner seat (not-false _ h)
may_use seat _ h = tt

-- a place for an object is of a name that is used
used_place : (poll : Bool) (takers : Takers) (t : Bool) → (is_used (cond poll Polled (Object takers)) && t) ≡ false → t ≡ false
used_place true takers t h = h
used_place false takers t h = h

not_others : (names : List Given) (seat : ℕ) (v : Verb) (object : List ℕ) (more : List (List ℕ))
    → any_word (is_not_yours names seat) (step seat v (object ∷ more)) ≡ false
    → option_map_or (is_others seat) (named names object) false ≡ false
not_others names seat (verb.Give call) object more h = (or_parts _ _ h).0
not_others names seat (verb.Ask call) object more h = used_place (is_poll call) (asked call).takers _ (or_parts _ _ h).0

used_stands : (names : List Given) (a : Action) → UsesWell names a → (g : Given) × (slice_get names (used_by a) ≡ Some g)
used_stands names (action.Give call at message) h = (_, h.0.2)
used_stands names (action.Ask call at) h = (_, h.2)

is_yours : (names : List Given) (seat : ℕ) (v : Verb) (rest : List (List ℕ)) (a : Action)
    → any_word (is_not_yours names seat) (step seat v rest) ≡ false → Asks names v rest a
    → UsesWell names a → IsYours names seat (used_by a)
is_yours names seat v rest a passes asks uses =
    let there = used_stands names a uses in
    let fits = not_others names seat v asks.object asks.more
    (subst (λ (ws : List (List ℕ)). any_word (is_not_yours names seat) (step seat v ws) ≡ false) asks.is passes) in
    let meant : named names asks.object ≡ Some there.0.1 = ap (option_and_then (λ i. option_map (λ g. g.1) (slice_get names i))) asks.stands
    ∙ ap (option_map (λ (g : Given). g.1)) there.1 in
    (there.0, there.1, may_use seat there.0.1 (sym (ap (λ (n : Option Named). option_map_or (is_others seat) n false) meant) ∙ fits))

-- the names that a step gives are no threads
thread_count-given : (names : List Given) (whose : Users) (o : Option (List ℕ))
    → thread_count names ≡ thread_count (names ++ given_as (called.Port whose) o)
thread_count-given names whose None = ap thread_count (sym (append-nil names))
thread_count-given names whose (Some word) =
    let e = sum_by_push (λ (g : Given). cond (is_some (seat_in g.1)) 1 0) names (word, called.Port whose) in omega (arith, e)

seats-given : (names : List Given) (n : ℕ) (whose : Users) (o : Option (List ℕ)) → All (λ g. IsSeatedWithin n g.1) names
    → All (λ g. IsSeatedWithin n g.1) (names ++ given_as (called.Port whose) o)
seats-given names n whose None h = subst (All (λ (g : Given). IsSeatedWithin n g.1)) (sym (append-nil names)) h
seats-given names n whose (Some word) h = All-push (λ (g : Given). IsSeatedWithin n g.1) names (word, called.Port whose) h tt

module _ (v : ℕ) (es : List (String Global × Named)) (ds : List Declaration) (ls : List Lane)
    (cs : List (Ends × ℕ)) (ss : List Step) (threads : ℕ)
    (s : Step) (verb : Verb) (rest : List (List ℕ))
    (so_far : IsReadSoFar (view_of v ds ls ss) es ds ls cs ss threads)
    (read : ReadFrom (view_of v ds ls ss) s.line (step s.seat verb rest))
    (action : action_by (names_of (view_of v ds ls ss)) verb rest ≡ Some s.action)
    (uses : UsesWell (names_of (view_of v ds ls ss)) s.action) where
  pub asked_scope : scope_of (view_of v ds ls (ss ++ s ∷ [])) ≡ after_words (scope_of (view_of v ds ls ss))
      (words_of (string_bytes s.line.text))
  asked_scope =
      ap scope_of (view-step v ds ls ss s s.seat verb rest read.is)
      ∙ next_scope v es ds ls cs ss threads so_far s.line.number (string_bytes s.line.text) read.fits

  abbrev pub given_more : List Given
  given_more = given_as (called.Port (users.One s.seat)) (fresh_word (step_places verb) rest)

  asked_names : names_of (view_of v ds ls (ss ++ s ∷ [])) ≡ names_of (view_of v ds ls ss) ++ given_more
  asked_names =
      ap (λ (x : Scope). x.names) asked_scope
      ∙ ap (λ f. names_of (view_of v ds ls ss) ++ gives (names_of (view_of v ds ls ss)) f) read.is

  asked_line : IsLine (names_of (view_of v ds ls ss)) (words_of (string_bytes s.line.text)) (step s.seat verb rest)
  asked_line = line_by (names_of (view_of v ds ls ss)) (words_of (string_bytes s.line.text)) (step s.seat verb rest) read.is

  asks : Asks (names_of (view_of v ds ls ss)) verb rest s.action
  asks = step_asks (names_of (view_of v ds ls ss)) verb rest s.action action

  asked_there : asked_word (words_of (string_bytes s.line.text)) ≡ fresh_word (step_places verb) rest
  asked_there = ap asked_word asked_line.2 ∙ ap (option_and_then (λ w. fresh_word (step_places w) rest)) asked_line.4

  asked_seat : seat_of_step (names_of (view_of v ds ls ss)) (words_of (string_bytes s.line.text)) ≡ Some s.seat
  asked_seat = ap (seat_of_step (names_of (view_of v ds ls ss))) asked_line.2 ∙ asked_line.3

  reads_step : ReadsStep (names_of (view_of v ds ls ss)) s
  reads_step = record {
    seat = asked_seat;
    seated = seated_from (names_of (view_of v ds ls ss))
        (thread_count (names_of (view_of v ds ls ss))) asked_line.0 s.seat so_far.seats asked_line.3;
    action = ap (action_of (names_of (view_of v ds ls ss))) asked_line.2
        ∙ ap (option_and_then (λ w. action_by (names_of (view_of v ds ls ss)) w rest)) asked_line.4 ∙ action;
    uses = uses;
    yours = is_yours (names_of (view_of v ds ls ss)) s.seat verb rest s.action
        (read_passes (view_of v ds ls ss) s.line (step s.seat verb rest) read).yours asks uses;
    gives = asks.gives ∙ ap is_some (sym asked_there);
  }

  asked_lines : (view_of v ds ls (ss ++ s ∷ [])).steps ≡ (view_of v ds ls ss).steps ++ source_of s.line ∷ []
  asked_lines = map-append (λ (x : Step). source_of x.line) ss (s ∷ [])

  -- before which names an earlier step and this one are
  before_same_step : (k : ℕ) → k ≤ length ss → names_before (view_of v ds ls ss).declarations (view_of v ds ls (ss ++ s ∷ [])).steps k
      ≡ names_before (view_of v ds ls ss).declarations (view_of v ds ls ss).steps k
  before_same_step k le =
      ap (λ lines. names_before (view_of v ds ls ss).declarations lines k) asked_lines
      ∙ before_same (names_of (view_of v ds ls ss)) [] (view_of v ds ls ss).declarations (view_of v ds ls ss).steps
      (source_of s.line) so_far.given k (omega (arith, le, length-map ss (λ (x : Step). source_of x.line)))

  before_this_step : names_before (view_of v ds ls ss).declarations (view_of v ds ls (ss ++ s ∷ [])).steps (length ss)
      ≡ length (names_of (view_of v ds ls ss))
  before_this_step =
      ap (λ lines. names_before (view_of v ds ls ss).declarations lines (length ss)) asked_lines
      ∙ ap (names_before (view_of v ds ls ss).declarations ((view_of v ds ls ss).steps ++ source_of s.line ∷ []))
      (sym (length-map ss (λ (x : Step). source_of x.line)))
      ∙ before_last (names_of (view_of v ds ls ss)) [] (view_of v ds ls ss).declarations
      (view_of v ds ls ss).steps (source_of s.line) so_far.given

  same_count : thread_count (names_of (view_of v ds ls ss)) ≡ thread_count (names_of (view_of v ds ls ss) ++ given_more)
  same_count = thread_count-given (names_of (view_of v ds ls ss)) (users.One s.seat) (fresh_word (step_places verb) rest)

  asked_lanes : All (ReadsLane (names_of (view_of v ds ls (ss ++ s ∷ [])))) ls
  asked_lanes =
      subst (λ gs. All (ReadsLane gs) ls) (sym asked_names)
      (All-weaker (ReadsLane (names_of (view_of v ds ls ss))) (ReadsLane (names_of (view_of v ds ls ss) ++ given_more))
      (λ x h. ReadsLane-append (names_of (view_of v ds ls ss)) given_more x h) ls so_far.lanes)

  pub asked_so_far : (es' : List (String Global × Named)) → texts_of es' ≡ texts_of es ++ given_more
      → IsReadSoFar (view_of v ds ls (ss ++ s ∷ [])) es' ds ls cs (ss ++ s ∷ []) threads
  asked_so_far es' entries = record {
    names = entries ∙ ap (λ gs. gs ++ given_more) so_far.names ∙ sym asked_names;
    gives = subst (λ gs. GivesNames gs ds) (sym asked_names) (GivesNames-append (names_of (view_of v ds ls ss)) given_more ds so_far.gives);
    given = subst (λ gs. NamesAreGiven gs (view_of v ds ls ss).declarations (view_of v ds ls (ss ++ s ∷ [])).steps) (sym asked_names)
        (subst (NamesAreGiven (names_of (view_of v ds ls ss) ++ given_more) (view_of v ds ls ss).declarations) (sym asked_lines)
        (given-step (names_of (view_of v ds ls ss)) (view_of v ds ls ss).declarations (view_of v ds ls ss).steps (source_of s.line) s.seat
        (fresh_word (step_places verb) rest) so_far.given asked_there asked_seat));
    declarations = subst (λ gs. All (ReadsDeclaration gs) ds) (sym asked_names)
        (All-weaker (ReadsDeclaration (names_of (view_of v ds ls ss))) (ReadsDeclaration (names_of (view_of v ds ls ss) ++ given_more))
        (λ x h. ReadsDeclaration-append (names_of (view_of v ds ls ss)) given_more x h) ds so_far.declarations);
    lanes = asked_lanes;
    capacities_are = so_far.capacities_are;
    steps = subst (λ gs. All (ReadsStep gs) (ss ++ s ∷ [])) (sym asked_names)
        (All-weaker (ReadsStep (names_of (view_of v ds ls ss))) (ReadsStep (names_of (view_of v ds ls ss) ++ given_more))
        (λ x h. ReadsStep-append (names_of (view_of v ds ls ss)) given_more x same_count h) (ss ++ s ∷ [])
        (All-push (ReadsStep (names_of (view_of v ds ls ss))) ss s so_far.steps reads_step));
    earlier =
        each-push
        (λ k (x : Step). used_by x.action < names_before (view_of v ds ls ss).declarations (view_of v ds ls (ss ++ s ∷ [])).steps k) ss s
        (λ k x found. subst (λ (n : ℕ). used_by x.action < n)
        (sym (before_same_step k (omega (arith, slice_get_within ss k x found)))) (so_far.earlier k x found))
        (subst (λ (n : ℕ). used_by s.action < n) (sym before_this_step) (let there = used_stands (names_of (view_of v ds ls ss))
        s.action uses in slice_get_within (names_of (view_of v ds ls ss)) (used_by s.action) there.0 there.1));
    count = so_far.count ∙ same_count ∙ ap thread_count (sym asked_names);
    limit = so_far.limit;
    seats = subst (λ gs. All (λ (g : Given). IsSeatedWithin (thread_count gs) g.1) gs) (sym asked_names)
        (subst (λ (n : ℕ). All (λ (g : Given). IsSeatedWithin n g.1) (names_of (view_of v ds ls ss) ++ given_more)) same_count
        (seats-given (names_of (view_of v ds ls ss)) (thread_count (names_of (view_of v ds ls ss))) (users.One s.seat)
        (fresh_word (step_places verb) rest) so_far.seats));
    started =
        ap (λ (x : Scope). x.started) asked_scope
        ∙ ap (λ f. (scope_of (view_of v ds ls ss)).started || is_step f) read.is
        ∙ or_right (scope_of (view_of v ds ls ss)).started true refl
        ∙ ap not (sym (ne_eqb (length (ss ++ s ∷ [])) 0 (λ e. omega (arith, length-append ss (s ∷ [])))));
    ends = ends_kept (names_of (view_of v ds ls (ss ++ s ∷ []))) ls asked_lanes ∙ ap keys_of (sym so_far.capacities_are);
  }
