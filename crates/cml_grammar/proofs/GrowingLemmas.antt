-- What is said of names stays true where more names are given.
use Rattle.std.proofs.Common.{◌≡◌, ℕ, ◌+◌, ◌≤◌, Bool, true, false, cond, List, [], ◌∷◌, ◌++◌, map, All, Option, Some, None}
use Rattle.std.proofs.Common.{is_some, string_bytes, refl, sym, ap, ◌∙◌, subst, inl, inr, arith}
use Rattle.std.specs.Map.{keys_of, lookup}
use Rattle.std.specs.Option.{option_map, option_map_or, option_and_then, option_to_list}
use Rattle.std.specs.Str.Parse.{digits_value}
use Rattle.std.proofs.lemmas.List.Elements.{All-head, All-tail, All-weaker}
use Rattle.std.proofs.lemmas.List.Sums.{sum_by-append}
use Rattle.std.proofs.lemmas.Option.{none-some}
use Rattle.cml_calls.specs.{Takers, Ask, given, asked, names_one}
use Rattle.cml_grammar.specs.{Declares, Makes, Verb, Action, Place, Declaration, Lane, Step, words_of, Given, is_called, position_of, named}
use Rattle.cml_grammar.specs.{seat_in, seat_of, thread_count, declares_of, verb_of, is_poll, asked_place, step_places, fresh_word}
use Rattle.cml_grammar.specs.{IsSuitedAt, Ends, ends_by, are_same, SourceLine, ends_of, all_ends, feed_by, makes_by, makes_of, asked_by}
use Rattle.cml_grammar.specs.{action_by, action_of, seat_of_step, Laid, lane_by, lane_of, capacity_of, source_of, IsMailboxAt, IsChannelAt}
use Rattle.cml_grammar.specs.{IsTargetAt, IsSeat, GivesAt, GivesNames, IsMadeWell, ReadsDeclaration, ReadsLane, ReadsStep, UsesWell}
use Rattle.cml_grammar.specs.{capacities_of, used_by, gives_name}
use Rattle.cml_grammar.specs.declared.forms.Declares.TheVariants as declares
use Rattle.cml_grammar.specs.declared.forms.Makes.TheVariants as makes
use Rattle.cml_grammar.specs.declared.forms.Verb.TheVariants as verb
use Rattle.cml_grammar.specs.declared.forms.Action.TheVariants as action
use Rattle.cml_grammar.specs.declared.forms.Place.TheVariants.{Fresh, Object, Polled}
use Rattle.cml_grammar.proofs.ListLemmas.{position-append, mapped_some, slice_get-append}

-- what is found once is found again
abbrev Kept : {X : Type 0} → Option X → Option X → Type 0
Kept {X} one other = (x : X) → one ≡ Some x → other ≡ Some x

kept_map : {X Y : Type 0} (f : X → Y) (one other : Option X) → Kept one other → Kept (option_map f one) (option_map f other)
kept_map f None other kept y h = absurd (none-some y h)
kept_map f (Some x) other kept y h = ap (option_map f) (kept x refl) ∙ h

kept_then : {X Y : Type 0} (f g : X → Option Y) (one other : Option X) → Kept one other → ((x : X) → Kept (f x) (g x))
    → Kept (option_and_then f one) (option_and_then g other)
kept_then f g None other kept later y h = absurd (none-some y h)
kept_then f g (Some x) other kept later y h = ap (option_and_then g) (kept x refl) ∙ later x y h

-- a name keeps its position
position_of-append : (names more : List Given) (word : List ℕ) → Kept (position_of names word) (position_of (names ++ more) word)
position_of-append names more word = position-append (is_called word) names more

named-append : (names more : List Given) (word : List ℕ) → Kept (named names word) (named (names ++ more) word)
named-append names more word =
    kept_then _ _ _ _ (position_of-append names more word) (λ i. kept_map (λ g. g.1) _ _ (slice_get-append names more i))

seat_of-append : (names more : List Given) (word : List ℕ) → Kept (seat_of names word) (seat_of (names ++ more) word)
seat_of-append names more word = kept_then seat_in seat_in _ _ (named-append names more word) (λ n seat h. h)

pub seat_of_step-append : (names more : List Given) (words : List (List ℕ))
    → Kept (seat_of_step names words) (seat_of_step (names ++ more) words)
seat_of_step-append names more [] seat h = absurd (none-some seat h)
seat_of_step-append names more (thread ∷ rest) seat h = seat_of-append names more thread seat h

pub IsSeat-append : (names more : List Given) (seat : ℕ) → IsSeat names seat → IsSeat (names ++ more) seat
IsSeat-append names more seat h =
    let counted : thread_count (names ++ more) ≡ thread_count names + thread_count more = sum_by-append _ names more in
    (h.0, omega (arith, h.1, counted))

pub IsMailboxAt-append : (names more : List Given) (at : ℕ) → IsMailboxAt names at → IsMailboxAt (names ++ more) at
IsMailboxAt-append names more at h = (h.0, slice_get-append names more at _ h.1)

pub IsChannelAt-append : (names more : List Given) (at : ℕ) → IsChannelAt names at → IsChannelAt (names ++ more) at
IsChannelAt-append names more at h = (h.0, slice_get-append names more at _ h.1)

IsTargetAt-append : (names more : List Given) (at : ℕ) → IsTargetAt names at → IsTargetAt (names ++ more) at
IsTargetAt-append names more at h =
    elim h [ inl a ↦ inl (IsMailboxAt-append names more at a) | inr b ↦ inr (IsChannelAt-append names more at b) ]

pub GivesAt-append : (names more : List Given) (at : ℕ) (word : List ℕ) (made : Makes) → GivesAt names at word made
    → GivesAt (names ++ more) at word made
GivesAt-append names more at word makes.Thread h = (h.0, slice_get-append names more at _ h.1)
GivesAt-append names more at word _ h = slice_get-append names more at _ h

pub IsMadeWell-append : (names more : List Given) (i : ℕ) (made : Makes) → IsMadeWell names i made → IsMadeWell (names ++ more) i made
IsMadeWell-append names more i (makes.Port channel) h = (IsChannelAt-append names more channel h.0, h.1)
IsMadeWell-append names more i (makes.MVarInit message) h = h
IsMadeWell-append names more i (makes.Feed f) h =
    (IsChannelAt-append names more f.channel h.0, h.1, IsSeat-append names more f.seat h.2, h.3)
IsMadeWell-append names more i _ h = tt

-- what a pair of look-ups finds
pub both_same : {X Y Z : Type 0} (f : X → Y → Z) (first : Option X) (second : Option Y) (x : X) (y : Y) → first ≡ Some x → second ≡ Some y
    → option_and_then (λ x. option_map (f x) second) first ≡ Some (f x y)
both_same f first second x y e g = ap (option_and_then (λ x. option_map (f x) second)) e ∙ ap (option_map (f x)) g

feed_by-append : (names more : List Given) (rest : List (List ℕ)) → Kept (feed_by names rest) (feed_by (names ++ more) rest)
feed_by-append names more (thread ∷ name ∷ channel ∷ capacity ∷ []) f h =
    kept_then _ _ _ _ (seat_of-append names more thread) (λ seat. kept_map _ _ _ (position_of-append names more channel)) f h
feed_by-append names more _ f h = absurd (none-some f h)

makes_by-append : (names more : List Given) (what : Declares) (rest : List (List ℕ))
    → Kept (makes_by names what rest) (makes_by (names ++ more) what rest)
makes_by-append names more declares.Port [] made h = absurd (none-some made h)
makes_by-append names more declares.Port (channel ∷ rest) made h = kept_map makes.Port _ _ (position_of-append names more channel) made h
makes_by-append names more declares.MVar (name ∷ message ∷ []) made h = h
makes_by-append names more declares.MVar _ made h = h
makes_by-append names more declares.Feed rest made h = kept_map makes.Feed _ _ (feed_by-append names more rest) made h
makes_by-append names more _ rest made h = h

makes_of-append : (names more : List Given) (words : List (List ℕ)) → Kept (makes_of names words) (makes_of (names ++ more) words)
makes_of-append names more [] made h = absurd (none-some made h)
makes_of-append names more (word ∷ rest) made h =
    kept_then _ _ (declares_of word) _ (λ d e. e) (λ d. makes_by-append names more d rest) made h

pub ReadsDeclaration-append : (names more : List Given) (d : Declaration) → ReadsDeclaration names d → ReadsDeclaration (names ++ more) d
ReadsDeclaration-append names more d h = record { makes = makes_of-append names more (words_of (string_bytes d.line.text)) d.makes h.makes }

pub GivesNames-append : (names more : List Given) (ds : List Declaration) → GivesNames names ds → GivesNames (names ++ more) ds
GivesNames-append names more ds h = record {
  each = λ i x found. let g = h.each i x found in (g.0, g.1, GivesAt-append names more i g.0 x.makes g.2);
  made = λ i x found. IsMadeWell-append names more i x.makes (h.made i x found);
}

-- ---- what a step asks for
pub record Asks (names : List Given) (verb : Verb) (rest : List (List ℕ)) (a : Action) : Type 0 where
  pub object : List ℕ
  pub more : List (List ℕ)
  pub is : rest ≡ object ∷ more
  pub stands : position_of names object ≡ Some (used_by a)
  pub means : (others : List Given) → position_of others object ≡ Some (used_by a) → action_by others verb rest ≡ Some a
  pub gives : gives_name a ≡ is_some (fresh_word (step_places verb) rest)

asks_from : (names : List Given) (verb : Verb) (object : List ℕ) (more : List (List ℕ)) (a : Action) (make : ℕ → Action)
    → ((i : ℕ) → used_by (make i) ≡ i) → ((i : ℕ) → gives_name (make i) ≡ is_some (fresh_word (step_places verb) (object ∷ more)))
    → ((others : List Given) → action_by others verb (object ∷ more) ≡ option_map make (position_of others object))
    → option_map make (position_of names object) ≡ Some a → Asks names verb (object ∷ more) a
asks_from names verb object more a make uses gives asks h =
    let found = mapped_some make (position_of names object) a h in
    let at : found.0 ≡ used_by a = sym (uses found.0) ∙ ap used_by found.2 in
    record {
      object = object;
      more = more;
      is = refl;
      stands = found.1 ∙ ap Some at;
      means = λ others e. asks others ∙ ap (option_map make) (e ∙ ap Some (sym at)) ∙ ap Some found.2;
      gives = ap gives_name (sym found.2) ∙ gives found.0;
    }

-- a place for an object gives no name
object_first : (poll : Bool) (takers : Takers) (places : List Place) (object : List ℕ) (more : List (List ℕ))
    → fresh_word (cond poll Polled (Object takers) ∷ places) (object ∷ more) ≡ fresh_word places more
object_first true takers places object more = refl
object_first false takers places object more = refl

-- the words after the object decide alone whether a call asks for something, and whether it gives a name
asked_as : (names : Bool) (at : Option ℕ) (call : Ask) (more : List (List ℕ)) (a : Action) → asked_by names at call more ≡ Some a
    → ((other : Option ℕ) → asked_by names other call more ≡ option_map (action.Ask call) other)
    × (names ≡ is_some (fresh_word (cond names (Fresh ∷ []) []) more))
asked_as true at call (name ∷ []) a h = (λ other. refl, refl)
asked_as false at call [] a h = (λ other. refl, refl)
asked_as true at call [] a h = absurd (none-some a h)
asked_as true at call (name ∷ word ∷ words) a h = absurd (none-some a h)
asked_as false at call (name ∷ words) a h = absurd (none-some a h)

pub step_asks : (names : List Given) (verb : Verb) (rest : List (List ℕ)) (a : Action)
    → action_by names verb rest ≡ Some a → Asks names verb rest a
step_asks names (verb.Give call) (object ∷ message ∷ []) a h =
    asks_from names (verb.Give call) object (message ∷ []) a (λ at. action.Give call at message) (λ i. refl) (λ i. refl) (λ others. refl) h
step_asks names (verb.Ask call) (object ∷ more) a h =
    let same = asked_as (names_one (asked call)) (position_of names object) call more a h in
    let gives = same.1
    ∙ ap is_some (sym (object_first (is_poll call) (asked call).takers (cond (names_one (asked call)) (Fresh ∷ []) []) object more)) in
    asks_from names (verb.Ask call) object more a (action.Ask call) (λ i. refl) (λ i. gives) (λ others. same.0 (position_of others object))
    (sym (same.0 (position_of names object)) ∙ h)
step_asks names _ _ a h = absurd (none-some a h)

action_of-append : (names more : List Given) (words : List (List ℕ)) → Kept (action_of names words) (action_of (names ++ more) words)
action_of-append names more [] a h = absurd (none-some a h)
action_of-append names more (thread ∷ []) a h = absurd (none-some a h)
action_of-append names more (thread ∷ word ∷ rest) a h =
    kept_then _ _ (verb_of word) _ (λ v e. e) (λ v b is.
    let asks = step_asks names v rest b is in
    asks.means (names ++ more) (position_of-append names more asks.object (used_by b) asks.stands)) a h

IsSuitedAt-append : (names more : List Given) (place : Place) (at : ℕ) → IsSuitedAt names place at → IsSuitedAt (names ++ more) place at
IsSuitedAt-append names more place at h = (h.0, h.1, slice_get-append names more at (h.0, h.1) h.2, h.3)

UsesWell-append : (names more : List Given) (a : Action) → UsesWell names a → UsesWell (names ++ more) a
UsesWell-append names more (action.Give call at message) h = (IsSuitedAt-append names more (Object (given call).takers) at h.0, h.1)
UsesWell-append names more (action.Ask call at) h = IsSuitedAt-append names more (asked_place call) at h

pub ReadsStep-append : (names more : List Given) (s : Step) → thread_count names ≡ thread_count (names ++ more)
    → ReadsStep names s → ReadsStep (names ++ more) s
ReadsStep-append names more s same h = record {
  seat = seat_of_step-append names more (words_of (string_bytes s.line.text)) s.seat h.seat;
  seated = subst (λ (n : ℕ). (1 ≤ s.seat) × (s.seat ≤ n)) same h.seated;
  action = action_of-append names more (words_of (string_bytes s.line.text)) s.action h.action;
  uses = UsesWell-append names more s.action h.uses;
  yours = (h.yours.0, slice_get-append names more (used_by s.action) h.yours.0 h.yours.1, h.yours.2);
  gives = h.gives;
}

-- ---- what a lane line says
ends_by-append : (names more : List Given) (rest : List (List ℕ)) → Kept (ends_by names rest) (ends_by (names ++ more) rest)
ends_by-append names more [] ends h = absurd (none-some ends h)
ends_by-append names more (thread ∷ []) ends h = absurd (none-some ends h)
ends_by-append names more (thread ∷ target ∷ rest) ends h =
    kept_then _ _ _ _ (seat_of-append names more thread) (λ seat. kept_map _ _ _ (position_of-append names more target)) ends h

lane_by-append : (names more : List Given) (rest : List (List ℕ)) → Kept (lane_by names rest) (lane_by (names ++ more) rest)
lane_by-append names more (thread ∷ target ∷ capacity ∷ []) l h = kept_map _ _ _ (ends_by-append names more (thread ∷ target ∷ [])) l h
lane_by-append names more _ l h = absurd (none-some l h)

lane_of-append : (names more : List Given) (words : List (List ℕ)) → Kept (lane_of names words) (lane_of (names ++ more) words)
lane_of-append names more [] l h = absurd (none-some l h)
lane_of-append names more (word ∷ rest) l h = lane_by-append names more rest l h

pub ReadsLane-append : (names more : List Given) (l : Lane) → ReadsLane names l → ReadsLane (names ++ more) l
ReadsLane-append names more l h = record {
  says = lane_of-append names more (words_of (string_bytes l.line.text)) ((l.seat, l.target), l.capacity) h.says;
  seated = IsSeat-append names more l.seat h.seated;
  target = IsTargetAt-append names more l.target h.target;
  capacity = h.capacity;
}

-- the words after `lane` say its ends, and so does the whole line
pub ends_said : (names : List Given) (rest : List (List ℕ)) (l : Laid) → lane_by names rest ≡ Some l → ends_by names rest ≡ Some l.0
ends_said names (thread ∷ target ∷ capacity ∷ []) l h =
    let said : Ends → Laid = (λ ends. (ends, digits_value 10 capacity)) in
    let found = mapped_some said (ends_by names (thread ∷ target ∷ [])) l h in
    found.1 ∙ ap Some (ap (λ (x : Laid). x.0) found.2)
ends_said names _ l h = absurd (none-some l h)

ends_from_lane : (names : List Given) (words : List (List ℕ)) (l : Laid) → lane_of names words ≡ Some l → ends_of names words ≡ Some l.0
ends_from_lane names [] l h = absurd (none-some l h)
ends_from_lane names (word ∷ rest) l h = ends_said names rest l h

abbrev lines_of_lanes : List Lane → List SourceLine
lines_of_lanes ls = map (λ (l : Lane). source_of l.line) ls

-- the lanes' ends, as their lines say them and as they are kept
pub ends_kept : (names : List Given) (ls : List Lane) → All (ReadsLane names) ls
    → all_ends names (lines_of_lanes ls) ≡ keys_of (capacities_of ls)
ends_kept names [] h = refl
ends_kept names (l ∷ ls) h =
    ap (λ o. option_to_list o ++ all_ends names (lines_of_lanes ls))
    (ends_from_lane names (words_of (string_bytes l.line.text)) ((l.seat, l.target), l.capacity) (All-head (ReadsLane names) l ls h).says)
    ∙ ap (λ ends. (l.seat, l.target) ∷ ends) (ends_kept names ls (All-tail (ReadsLane names) l ls h))

-- and they stay the same where more names are given
pub ends_same : (names more : List Given) (ls : List Lane) → All (ReadsLane names) ls
    → all_ends (names ++ more) (lines_of_lanes ls) ≡ all_ends names (lines_of_lanes ls)
ends_same names more ls h =
    ends_kept (names ++ more) ls (All-weaker (ReadsLane names) (ReadsLane (names ++ more)) (λ l r. ReadsLane-append names more l r) ls h)
    ∙ sym (ends_kept names ls h)

-- the capacity that is kept for some ends is the one that a line says
pub capacity_kept : (names : List Given) (ls : List Lane) (ends : Ends) → All (ReadsLane names) ls
    → lookup (are_same ends) (capacities_of ls) ≡ capacity_of names (lines_of_lanes ls) ends
capacity_kept names [] ends h = refl
capacity_kept names (l ∷ ls) ends h =
    let same = capacity_kept names ls ends (All-tail (ReadsLane names) l ls h) in
    let later = capacity_of names (lines_of_lanes ls) ends in
    ap (λ o. cond (are_same ends (l.seat, l.target)) (Some l.capacity) o) same
    ∙ ap (λ o. option_map_or (λ (laid : Laid). cond (are_same ends laid.0) (Some laid.1) later) o later)
    (sym (All-head (ReadsLane names) l ls h).says)
