-- What the words of a line mean where each suits its place.
use Rattle.std.proofs.Common.{◌≡◌, ℕ, ◌==◌, true, false, if◌then◌else◌, List, [], ◌∷◌, map, length, slice_get, Option, Some}
use Rattle.std.proofs.Common.{refl, sym, ap, ◌∙◌, subst, Bor, inl, inr, true≢false, arith}
use Rattle.cml_calls.specs.{is_text}
use Rattle.std.specs.Option.{option_map}
use Rattle.std.specs.List.{find, zip}
use Rattle.std.proofs.lemmas.Bool.{ne_eqb}
use Rattle.cml_calls.specs.declared.shape.Takers.TheVariants.{Channels}
use Rattle.cml_grammar.specs.{Named, Verb, Place, Given, declared_places, step_places, suits, is_fresh, fresh_word, makes_by, IsChannelAt}
use Rattle.cml_grammar.specs.{IsTargetAt, IsSuitedAt, AllSuit}
use Rattle.cml_grammar.specs.declared.names.Named.TheVariants as called
use Rattle.cml_grammar.specs.declared.forms.Declares.TheVariants as declares
use Rattle.cml_grammar.specs.declared.forms.Makes.TheVariants as makes
use Rattle.cml_grammar.specs.declared.forms.Place.TheVariants.{Fresh, Object, Target, Message}

abbrev pub Words : Type 0
Words = List (Bor (List ℕ))

abbrev pub bytes : Words → List (List ℕ)
bytes words = map (λ w. w.now) words

-- a name that suits a channel's place is a channel's
pub channel_at : (names : List Given) (at : ℕ) → IsSuitedAt names (Object Channels) at → IsChannelAt names at
channel_at names at h = by h.1 h.2 h.3
  where
    by : (n : Named) → slice_get names at ≡ Some (h.0, n) → suits (Object Channels) n ≡ true → IsChannelAt names at
    by called.Channel e t = (h.0, e)
    by _ e t = absurd (true≢false (sym t))

-- and what a lane may lead to is a mailbox or a channel
pub target_at : (names : List Given) (at : ℕ) → IsSuitedAt names Target at → IsTargetAt names at
target_at names at h = by h.1 h.2 h.3
  where
    by : (n : Named) → slice_get names at ≡ Some (h.0, n) → suits Target n ≡ true → IsTargetAt names at
    by called.Mailbox e t = inl (h.0, e)
    by called.Channel e t = inr (h.0, e)
    by _ e t = absurd (true≢false (sym t))

-- ---- a step's message
message_alone : (names : List Given) (words : Words) → AllSuit names (Message ∷ []) (bytes words)
    → map (λ w. is_text w.now) words ≡ true ∷ []
message_alone names [] h = absurd h
message_alone names (w ∷ []) h = ap (λ t. t ∷ []) h.0
message_alone names (v ∷ w ∷ ws) h = absurd h.1

-- the words after the object of a step that takes a message
pub step_message : (names : List Given) (v : Verb) (place : Place) (words : Words) (object : Bor (List ℕ)) (more : Words)
    → AllSuit names (step_places v) (bytes words) → step_places v ≡ place ∷ Message ∷ [] → words ≡ object ∷ more
    → map (λ w. is_text w.now) more ≡ true ∷ []
step_message names v place words object more h places parts =
    let suit : AllSuit names (place ∷ Message ∷ []) (bytes (object ∷ more)) =
    subst (λ (ws : Words). AllSuit names (place ∷ Message ∷ []) (bytes ws)) parts
    (subst (λ (ps : List Place). AllSuit names ps (bytes words)) places h) in
    message_alone names more suit.1

-- and the one that an m-variable is made with
pub first_message : (names : List Given) (name : Bor (List ℕ)) (words : Words) → (length words == 0) ≡ false
    → AllSuit names (declared_places declares.MVar (bytes (name ∷ words))) (bytes (name ∷ words))
    → map (λ w. is_text w.now) words ≡ true ∷ []
first_message names name [] some h = absurd (true≢false some)
first_message names name (w ∷ []) some h = ap (λ t. t ∷ []) h.1.0
first_message names name (v ∷ w ∷ ws) some h =
    let words : List (List ℕ) = bytes (name ∷ v ∷ w ∷ ws) in
    let alone : AllSuit names (Fresh ∷ []) words =
    subst (λ t. AllSuit names (if t then Fresh ∷ Message ∷ [] else Fresh ∷ []) words) (ne_eqb (length words) 2 (λ e. omega (arith, e))) h in
    absurd alone.1

pub made_with : (names : List Given) (name : Bor (List ℕ)) (words : Words) (message : List ℕ) → map (λ w. w.now) words ≡ message ∷ []
    → makes_by names declares.MVar (bytes (name ∷ words)) ≡ Some (makes.MVarInit message)
made_with names name [] message e = absurd (let f = ap length e in omega (arith, f))
made_with names name (w ∷ []) message e = let same : w.now ≡ message = cc in ap (λ m. Some (makes.MVarInit m)) same
made_with names name (v ∷ w ∷ ws) message e = absurd (let f = ap length e in omega (arith, f))

-- ---- the word in the place where a name is given
fresh_word-bytes : (places : List Place) (words : Words)
    → option_map (λ p. p.1.now) (find (λ p. is_fresh p.0) (zip places words)) ≡ fresh_word places (bytes words)
fresh_word-bytes [] words = refl
fresh_word-bytes (place ∷ places) [] = refl
fresh_word-bytes (Fresh ∷ places) (w ∷ words) = refl
fresh_word-bytes (place ∷ places) (w ∷ words) = fresh_word-bytes places words

pub fresh_found : (places : List Place) (words : Words) (found : Option (Place × Bor (List ℕ)))
    → found ≡ find (λ p. is_fresh p.0) (zip places words) → option_map (λ p. p.1.now) found ≡ fresh_word places (bytes words)
fresh_found places words found e = ap (option_map (λ p. p.1.now)) e ∙ fresh_word-bytes places words
