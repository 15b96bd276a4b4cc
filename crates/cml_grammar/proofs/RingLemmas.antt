-- The words of a lane line and of a feed's, and what is looked up of lanes and feeds.
use Rattle.std.proofs.Common.{◌≡◌, ℕ, ◌+◌, Bool, true, false, cond, List, [], ◌∷◌, length, map, slice_index_or, Option, Some}
use Rattle.std.proofs.Common.{None, is_some, string_bytes, All, Bor, refl, sym, ap, ◌∙◌}
use Rattle.std.specs.Map.{lookup}
use Rattle.std.specs.List.{find}
use Rattle.std.specs.Option.{option_map, option_map_or, IfSome}
use Rattle.std.proofs.lemmas.List.Elements.{All-head, All-tail}
use Rattle.std.proofs.lemmas.Option.{none-some, same_Some, option_and_then_some}
use Rattle.cml_grammar.specs.{Declares, Makes, Declaration, Lane, words_of, Given, is_capacity, position_of, seat_of, is_given, declares_of}
use Rattle.cml_grammar.specs.{declared_places, lane_places, Ends, are_same, SourceLine, feed_by, makes_by, makes_of, is_feed, declares_feed}
use Rattle.cml_grammar.specs.{makes_feed, source_of, IsCapacity, ReadsDeclaration, ReadsLane, capacities_of, AllSuit}
use Rattle.cml_grammar.specs.declared.forms.Declares.TheVariants as declares
use Rattle.cml_grammar.specs.declared.forms.Makes.TheVariants as makes
use Rattle.cml_grammar.proofs.ListLemmas.{mapped_some}
use Rattle.cml_grammar.proofs.MeaningLemmas.{Words, bytes}
use Rattle.cml_grammar.proofs.SeatLemmas.{used_seat}

abbrev pub at : Words → ℕ → List ℕ
at words i = (slice_index_or words i (record { ref_ptr = (0, 0); now = [] })).now

-- ---- words that suit their places
-- the first is a thread's, and from the i-th on they are an object's and a capacity
pub record RingWords (names : List Given) (words : Words) (i : ℕ) : Type 0 where
  pub long : length words ≡ i + 2
  pub thread : is_some (seat_of names (at words 0)) ≡ true
  pub object : is_given names (at words i) ≡ true
  pub capacity : is_capacity (at words (i + 1)) ≡ true

pub feed_said : (names : List Given) (words : Words) → AllSuit names (declared_places declares.Feed (bytes words)) (bytes words)
    → RingWords names words 2 × (bytes words ≡ at words 0 ∷ at words 1 ∷ at words 2 ∷ at words 3 ∷ [])
feed_said names [] h = absurd h
feed_said names (a ∷ []) h = absurd h.1
feed_said names (a ∷ b ∷ []) h = absurd h.1.1
feed_said names (a ∷ b ∷ x ∷ []) h = absurd h.1.1.1
feed_said names (a ∷ b ∷ x ∷ d ∷ []) h =
    (record { long = refl; thread = ap is_some (used_seat names a.now h.0).1; object = ap is_some h.1.1.0.1; capacity = h.1.1.1.0 }, refl)
feed_said names (a ∷ b ∷ x ∷ d ∷ e ∷ words) h = absurd h.1.1.1.1

pub feed_words : (names : List Given) (words : Words)
    → AllSuit names (declared_places declares.Feed (bytes words)) (bytes words) → RingWords names words 2
feed_words names words h = (feed_said names words h).0

pub lane_words : (names : List Given) (words : Words) → AllSuit names lane_places (bytes words) → RingWords names words 1
lane_words names [] h = absurd h
lane_words names (a ∷ []) h = absurd h.1
lane_words names (a ∷ b ∷ []) h = absurd h.1.1
lane_words names (a ∷ b ∷ x ∷ []) h =
    record { long = refl; thread = ap is_some (used_seat names a.now h.0).1; object = ap is_some h.1.0.1; capacity = h.1.1.0 }
lane_words names (a ∷ b ∷ x ∷ d ∷ words) h = absurd h.1.1.1

-- ---- lanes by their ends
pub kept_fits : (names : List Given) (ls : List Lane) (ends : Ends) → All (ReadsLane names) ls
    → IfSome (lookup (are_same ends) (capacities_of ls)) IsCapacity
kept_fits names [] ends h = tt
kept_fits names (l ∷ ls) ends h = by (are_same ends (l.seat, l.target)) (kept_fits names ls ends (All-tail (ReadsLane names) l ls h))
  where
    by : (b : Bool) → IfSome (lookup (are_same ends) (capacities_of ls)) IsCapacity
        → IfSome (cond b (Some l.capacity) (lookup (are_same ends) (capacities_of ls))) IsCapacity
    by true later = (All-head (ReadsLane names) l ls h).capacity
    by false later = later

-- ---- the first feed
feed_made : (names : List Given) (what : Declares) (rest : List (List ℕ)) (made : Makes)
    → makes_by names what rest ≡ Some made → makes_feed made ≡ is_feed what
feed_made names declares.Port [] made h = absurd (none-some made h)
feed_made names declares.Port (channel ∷ rest) made h = ap makes_feed (sym (mapped_some makes.Port (position_of names channel) made h).2)
feed_made names declares.Feed rest made h = ap makes_feed (sym (mapped_some makes.Feed (feed_by names rest) made h).2)
feed_made names declares.MVar (name ∷ message ∷ []) made h = ap makes_feed (sym (same_Some _ _ h))
feed_made names declares.MVar _ made h = ap makes_feed (sym (same_Some _ _ h))
feed_made names _ rest made h = ap makes_feed (sym (same_Some _ _ h))

feed_line : (names : List Given) (words : List (List ℕ)) (made : Makes) → makes_of names words ≡ Some made
    → makes_feed made ≡ declares_feed words
feed_line names [] made h = absurd (none-some made h)
feed_line names (word ∷ rest) made h =
    option_and_then_some (λ d. makes_by names d rest) (declares_of word) made h (λ d found is.
    feed_made names d rest made is ∙ sym (ap (λ (o : Option Declares). option_map_or is_feed o false) found))

-- a line's number, looked up behind a reference
pub behind : (o : Option (Bor Declaration))
    → option_map (λ d. d.now.line.number) o ≡ option_map (λ (d : Declaration). d.line.number) (option_map (λ d. d.now) o)
behind None = refl
behind (Some d) = refl

-- the number of the first declaration that makes a feed is that of the first line that declares one
pub feed_number : (names : List Given) (ds : List Declaration) → All (ReadsDeclaration names) ds
    → option_map (λ (d : Declaration). d.line.number) (find (λ (d : Declaration). makes_feed d.makes) ds)
    ≡ option_map (λ (line : SourceLine). line.number)
    (find (λ (line : SourceLine). declares_feed line.words) (map (λ (d : Declaration). source_of d.line) ds))
feed_number names [] h = refl
feed_number names (d ∷ ds) h =
    ap (λ t. option_map (λ (x : Declaration). x.line.number) (cond t (Some d) (find (λ (x : Declaration). makes_feed x.makes) ds)))
    (feed_line names (words_of (string_bytes d.line.text)) d.makes (All-head (ReadsDeclaration names) d ds h).makes)
    ∙ by (declares_feed (words_of (string_bytes d.line.text))) (feed_number names ds (All-tail (ReadsDeclaration names) d ds h))
  where
    by : (t : Bool)
        → option_map (λ (x : Declaration). x.line.number) (find (λ (x : Declaration). makes_feed x.makes) ds)
        ≡ option_map (λ (line : SourceLine). line.number)
        (find (λ (line : SourceLine). declares_feed line.words) (map (λ (x : Declaration). source_of x.line) ds))
        → option_map (λ (x : Declaration). x.line.number) (cond t (Some d) (find (λ (x : Declaration). makes_feed x.makes) ds))
        ≡ option_map (λ (line : SourceLine). line.number) (cond t (Some (source_of d.line))
        (find (λ (line : SourceLine). declares_feed line.words) (map (λ (x : Declaration). source_of x.line) ds)))
    by true later = refl
    by false later = later
