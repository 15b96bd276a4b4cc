-- Words that suit their places mean something, and what they mean uses names well.
use Rattle.std.proofs.Common.{◌≡◌, ℕ, Bool, true, false, cond, if◌then◌else◌, Option, List, [], ◌∷◌, length, Some, refl}
use Rattle.std.proofs.Common.{sym, ap, ◌∙◌, subst, arith, All}
use Rattle.std.specs.Option.{option_map}
use Rattle.std.specs.Str.Parse.{digits_value}
use Rattle.std.proofs.lemmas.Bool.{ne_eqb, and_parts, leb-true}
use Rattle.std.proofs.lemmas.Option.{same_Some, slice_get_within}
use Rattle.cml_calls.specs.{Takers, Ask, given, asked, names_one}
use Rattle.cml_calls.specs.declared.shape.Takers.TheVariants.{Channels}
use Rattle.cml_grammar.specs.{Declares, Makes, FeedMaking, Verb, Place, Action, Given, is_capacity, position_of, seat_of, thread_count}
use Rattle.cml_grammar.specs.{Ends, declared_places, lane_places, is_poll, step_places, fresh_word, makes_by, asked_by, action_by, Laid}
use Rattle.cml_grammar.specs.{lane_by, IsTargetAt, UsesWell, IsSeat, IsCapacity, IsMadeWell, IsSeatedWithin, IsUsed, Suits, AllSuit}
use Rattle.cml_grammar.specs.declared.forms.Declares.TheVariants as declares
use Rattle.cml_grammar.specs.declared.forms.Makes.TheVariants as makes
use Rattle.cml_grammar.specs.declared.forms.Verb.TheVariants as verb
use Rattle.cml_grammar.specs.declared.forms.Place.TheVariants.{Fresh, Object, Polled, Message}
use Rattle.cml_grammar.specs.declared.forms.Action.TheVariants as action
use Rattle.cml_grammar.proofs.MeaningLemmas.{channel_at, target_at}
use Rattle.cml_grammar.proofs.GrowingLemmas.{both_same}
use Rattle.cml_grammar.proofs.SeatLemmas.{used_seat, seated_from}

-- a capacity is from 1 to 1,024
capacity_fits : (word : List ℕ) → is_capacity word ≡ true → IsCapacity (digits_value 10 word)
capacity_fits word h =
    let whole = and_parts _ _ h in
    (leb-true 1 (digits_value 10 word) (and_parts _ _ whole.0).1, leb-true (digits_value 10 word) 1024 whole.1)

-- the words of one place, and of two
one_word : (names : List Given) (place : Place) (rest : List (List ℕ)) → AllSuit names (place ∷ []) rest
    → (w : List ℕ) × (rest ≡ w ∷ []) × Suits names place w
one_word names place [] h = absurd h
one_word names place (w ∷ []) h = (w, refl, h.0)
one_word names place (v ∷ w ∷ ws) h = absurd h.1

two_words : (names : List Given) (first second : Place) (rest : List (List ℕ)) → AllSuit names (first ∷ second ∷ []) rest
    → (v : List ℕ) × (w : List ℕ) × (rest ≡ v ∷ w ∷ []) × Suits names first v × Suits names second w
two_words names first second [] h = absurd h
two_words names first second (v ∷ []) h = absurd h.1
two_words names first second (v ∷ w ∷ []) h = (v, w, refl, h.0, h.1.0)
two_words names first second (v ∷ w ∷ x ∷ xs) h = absurd h.1.1

-- what a declaration makes, and the name that it gives
pub record MakesThis (names : List Given) (what : Declares) (rest : List (List ℕ)) : Type 0 where
  pub made : Makes
  pub name : List ℕ
  pub makes : makes_by names what rest ≡ Some made
  pub well : IsMadeWell names (length names) made
  pub gives : fresh_word (declared_places what rest) rest ≡ Some name

makes_alone : (names : List Given) (what : Declares) (made : Makes) → ((w : List ℕ) → makes_by names what (w ∷ []) ≡ Some made)
    → IsMadeWell names (length names) made
    → ((w : List ℕ) → declared_places what (w ∷ []) ≡ Fresh ∷ []) → (rest : List (List ℕ))
    → AllSuit names (Fresh ∷ []) rest → MakesThis names what rest
makes_alone names what made makes well places rest h =
    let w = one_word names Fresh rest h in
    subst (MakesThis names what) (sym w.1) (record {
      made = made;
      name = w.0;
      makes = makes w.0;
      well = well;
      gives = ap (λ (ps : List Place). fresh_word ps (w.0 ∷ [])) (places w.0);
    })

pub makes_this : (names : List Given) (what : Declares) (rest : List (List ℕ)) → All (λ g. IsSeatedWithin (thread_count names) g.1) names
    → AllSuit names (declared_places what rest) rest → MakesThis names what rest
makes_this names declares.Port rest seats h =
    let w = two_words names (Object Channels) Fresh rest h in
    let at : ℕ = w.3.0 in
    let is = channel_at names at w.3.2 in
    subst (MakesThis names declares.Port) (sym w.2) (record {
      made = makes.Port at;
      name = w.1;
      makes = ap (option_map makes.Port) w.3.1;
      well = (is, slice_get_within names at _ is.1);
      gives = refl;
    })
makes_this names declares.MVar (w ∷ message ∷ []) seats h = record {
  made = makes.MVarInit message;
  name = w;
  makes = refl;
  well = h.1.0;
  gives = refl;
}
makes_this names declares.MVar (w ∷ v ∷ x ∷ ws) seats h =
    let words : List (List ℕ) = w ∷ v ∷ x ∷ ws in
    let alone : AllSuit names (Fresh ∷ []) words =
    subst (λ t. AllSuit names (if t then Fresh ∷ Message ∷ [] else Fresh ∷ []) words) (ne_eqb (length words) 2 (λ e. omega (arith, e))) h in
    absurd alone.1
makes_this names declares.Feed [] seats h = absurd h
makes_this names declares.Feed (thread ∷ []) seats h = absurd h.1
makes_this names declares.Feed (thread ∷ name ∷ []) seats h = absurd h.1.1
makes_this names declares.Feed (thread ∷ name ∷ channel ∷ []) seats h = absurd h.1.1.1
makes_this names declares.Feed (thread ∷ name ∷ channel ∷ capacity ∷ word ∷ words) seats h = absurd h.1.1.1.1
makes_this names declares.Feed (thread ∷ name ∷ channel ∷ capacity ∷ []) seats h =
    let seat = used_seat names thread h.0 in
    let leads = h.1.1.0 in
    let is = channel_at names leads.0 leads.2 in
    let said : ℕ → ℕ → FeedMaking = (λ s at. record { seat = s; channel = at; capacity = digits_value 10 capacity }) in
    record {
      made = makes.Feed (said seat.0 leads.0);
      name = name;
      makes = ap (option_map makes.Feed) (both_same said (seat_of names thread) (position_of names channel) seat.0 leads.0 seat.1 leads.1);
      well = (
        is,
        slice_get_within names leads.0 _ is.1,
        seated_from names (thread_count names) thread seat.0 seats seat.1,
        capacity_fits capacity h.1.1.1.0,
      );
      gives = refl;
    }
makes_this names what rest seats h = makes_alone names what _ (λ w. refl) tt (λ w. refl) rest h

-- what a declaration makes is made well
pub made_well : (names : List Given) (what : Declares) (rest : List (List ℕ)) (made : Makes)
    → All (λ g. IsSeatedWithin (thread_count names) g.1) names → AllSuit names (declared_places what rest) rest
    → makes_by names what rest ≡ Some made → IsMadeWell names (length names) made
made_well names what rest made seats h e = let this = makes_this names what rest seats h in
    subst (IsMadeWell names (length names)) (same_Some _ _ (sym this.makes ∙ e)) this.well

-- what a lane line says
pub record LaysThis (names : List Given) (rest : List (List ℕ)) : Type 0 where
  pub seat : ℕ
  pub target : ℕ
  pub capacity : ℕ
  pub says : lane_by names rest ≡ Some ((seat, target), capacity)
  pub seated : IsSeat names seat
  pub leads : IsTargetAt names target
  pub fits : IsCapacity capacity

pub lays_this : (names : List Given) (rest : List (List ℕ)) → All (λ g. IsSeatedWithin (thread_count names) g.1) names
    → AllSuit names lane_places rest → LaysThis names rest
lays_this names [] seats h = absurd h
lays_this names (thread ∷ []) seats h = absurd h.1
lays_this names (thread ∷ target ∷ []) seats h = absurd h.1.1
lays_this names (thread ∷ target ∷ capacity ∷ word ∷ words) seats h = absurd h.1.1.1
lays_this names (thread ∷ target ∷ capacity ∷ []) seats h =
    let seat = used_seat names thread h.0 in
    let leads = h.1.0 in
    record {
      seat = seat.0;
      target = leads.0;
      capacity = digits_value 10 capacity;
      says = ap (option_map (λ (ends : Ends). (ends, digits_value 10 capacity)))
          (both_same (λ (s at : ℕ). (s, at)) (seat_of names thread) (position_of names target) seat.0 leads.0 seat.1 leads.1);
      seated = seated_from names (thread_count names) thread seat.0 seats seat.1;
      leads = target_at names leads.0 leads.2;
      fits = capacity_fits capacity h.1.1.0;
    }

-- a lane line says the seat of a thread, an object that a lane can lead to, and a capacity
pub said_well : (names : List Given) (rest : List (List ℕ)) (l : Laid) → All (λ g. IsSeatedWithin (thread_count names) g.1) names
    → AllSuit names lane_places rest → lane_by names rest ≡ Some l → IsSeat names l.0.0 × IsTargetAt names l.0.1 × IsCapacity l.1
said_well names rest l seats h e =
    let this = lays_this names rest seats h in
    subst (λ (x : Laid). IsSeat names x.0.0 × IsTargetAt names x.0.1 × IsCapacity x.1) (same_Some _ _ (sym this.says ∙ e))
    (this.seated, this.leads, this.fits)

-- what a step asks for
pub record AsksThis (names : List Given) (v : Verb) (rest : List (List ℕ)) : Type 0 where
  pub action : Action
  pub asks : action_by names v rest ≡ Some action
  pub uses : UsesWell names action

-- a place for an object is of a name that is used
used_as : (names : List Given) (poll : Bool) (takers : Takers) (word : List ℕ) → Suits names (cond poll Polled (Object takers)) word
    → IsUsed names (cond poll Polled (Object takers)) word
used_as names true takers word h = h
used_as names false takers word h = h

-- after it are as many words as the call needs
behind : (names : List Given) (gives : Bool) (at : ℕ) (call : Ask) (rest : List (List ℕ)) → AllSuit names (cond gives (Fresh ∷ []) []) rest
    → asked_by gives (Some at) call rest ≡ Some (action.Ask call at)
behind names true at call (name ∷ []) h = refl
behind names true at call [] h = absurd h
behind names true at call (name ∷ word ∷ words) h = absurd h.1
behind names false at call [] h = refl
behind names false at call (name ∷ words) h = absurd h

pub asks_this : (names : List Given) (v : Verb) (rest : List (List ℕ)) → AllSuit names (step_places v) rest → AsksThis names v rest
asks_this names (verb.Give call) rest h =
    let w = two_words names (Object (given call).takers) Message rest h in
    subst (AsksThis names (verb.Give call)) (sym w.2) (record {
      action = action.Give call w.3.0 w.1;
      asks = ap (option_map (λ at. action.Give call at w.1)) w.3.1;
      uses = (w.3.2, w.4);
    })
asks_this names (verb.Ask call) [] h = absurd h
asks_this names (verb.Ask call) (object ∷ rest) h =
    let used = used_as names (is_poll call) (asked call).takers object h.0 in
    record {
      action = action.Ask call used.0;
      asks = ap (λ (at : Option ℕ). asked_by (names_one (asked call)) at call rest) used.1
          ∙ behind names (names_one (asked call)) used.0 call rest h.1;
      uses = used.2;
    }

-- what a step asks for uses names well
pub asked_well : (names : List Given) (v : Verb) (rest : List (List ℕ)) (asked : Action) → AllSuit names (step_places v) rest
    → action_by names v rest ≡ Some asked → UsesWell names asked
asked_well names v rest asked h e = let this = asks_this names v rest h in
    subst (UsesWell names) (same_Some _ _ (sym this.asks ∙ e)) this.uses
