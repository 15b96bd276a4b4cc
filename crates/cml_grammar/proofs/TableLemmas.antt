-- What it means that a line fails each test of the table.
use Rattle.std.proofs.Common.{◌≡◌, ℕ, zero, suc, ◌==◌, Bool, true, false, ◌&&◌, List, [], ◌∷◌, length, slice_get, Option, Some}
use Rattle.std.proofs.Common.{None, if◌then◌else◌, nat_le, refl, sym, ap, ◌∙◌, subst, arith}
use Rattle.std.specs.List.{list_any, zip}
use Rattle.std.specs.Option.{option_map, option_map_or}
use Rattle.std.proofs.lemmas.Bool.{or_parts, not-false, true≢false, eqb-true}
use Rattle.std.proofs.lemmas.Option.{none-some, same_Some, option_and_then_some}
use Rattle.cml_grammar.specs.{What, Named, Place, Given, thread_count, named, position_of, has_empty_word, form_of, places_of, rest_of}
use Rattle.cml_grammar.specs.{suits, fresh_word, seat_of_form, Scope, first_of, tests_of_form, fault_in_words, any_word, is_unknown}
use Rattle.cml_grammar.specs.{is_late, is_no_step, is_bad_name, is_taken, is_unknown_name, is_wrong_kind, is_not_yours, is_bad_number}
use Rattle.cml_grammar.specs.{is_bad_text, is_lane_taken, declares_thread, IsUsed, Suits, AllSuit}
use Rattle.cml_grammar.specs.declared.forms.Place.TheVariants.{Fresh, Message, Capacity}
use Rattle.cml_grammar.specs.Forms.{Form}
use Rattle.cml_grammar.proofs.ListLemmas.{mapped_some}
use Rattle.cml_grammar.proofs.NameLemmas.{message_word_is_text}

-- each test of the table fails
pub record Passes (scope : Scope) (form : Form) : Type 0 where
  pub known : is_unknown form ≡ false
  pub in_time : is_late scope.started form ≡ false
  pub does_something : is_no_step form ≡ false
  pub count : length (rest_of form) ≡ length (places_of form)
  pub names : any_word is_bad_name form ≡ false
  pub fresh : any_word (is_taken scope.names) form ≡ false
  pub given : any_word (is_unknown_name scope.names) form ≡ false
  pub suited : any_word (is_wrong_kind scope.names) form ≡ false
  pub yours : any_word (is_not_yours scope.names (seat_of_form form)) form ≡ false
  pub numbers : any_word (is_bad_number scope.version) form ≡ false
  pub texts : any_word (is_bad_text scope.version) form ≡ false
  pub unlaid : is_lane_taken scope.names scope.lanes form ≡ false
  pub room : (declares_thread form && nat_le 64 (thread_count scope.names)) ≡ false

pub not_first : (test : Bool) (what : What) (later : Option What)
    → (if test then Some what else later) ≡ None → (test ≡ false) × (later ≡ None)
not_first true what later h = absurd (none-some what (sym h))
not_first false what later h = (refl, h)

each_fails : (tests : List (Bool × What)) → first_of tests ≡ None → (i : ℕ) (test : Bool × What)
    → slice_get tests i ≡ Some test → test.0 ≡ false
each_fails [] h i test at = absurd (none-some test at)
each_fails (first ∷ tests) h zero test at = ap (λ (t : Bool × What). t.0) (sym (same_Some first test at)) ∙ (not_first _ _ _ h).0
each_fails (first ∷ tests) h (suc i) test at = each_fails tests (not_first _ _ _ h).1 i test at

passes : (scope : Scope) (form : Form) → first_of (tests_of_form scope form) ≡ None → Passes scope form
passes scope form h =
    let fails = each_fails (tests_of_form scope form) h in
    record {
      known = fails 0 _ refl;
      in_time = fails 1 _ refl;
      does_something = fails 2 _ refl;
      count = eqb-true _ _ (not-false _ (fails 3 _ refl));
      names = fails 4 _ refl;
      fresh = fails 5 _ refl;
      given = fails 6 _ refl;
      suited = fails 7 _ refl;
      yours = fails 8 _ refl;
      numbers = fails 9 _ refl;
      texts = fails 10 _ refl;
      unlaid = fails 11 _ refl;
      room = fails 12 _ refl;
    }

-- a line of words without fault passes each test, and no word is empty
pub words_pass : (scope : Scope) (words : List (List ℕ)) → fault_in_words scope words ≡ None
    → (has_empty_word words ≡ false) × Passes scope (form_of scope.names words)
words_pass scope words h =
    let whole = not_first _ _ _ h in
    (whole.0, passes scope (form_of scope.names words) whole.1)

used_suits : (names : List Given) (place : Place) (word : List ℕ)
    → option_map_or (suits place) (named names word) false ≡ true → IsUsed names place word
used_suits names place word h = by (named names word) refl h
  where
    by : (o : Option Named) → named names word ≡ o → option_map_or (suits place) o false ≡ true → IsUsed names place word
    by None found t = absurd (true≢false (sym t))
    by (Some n) found t =
        option_and_then_some (λ i. option_map (λ g. g.1) (slice_get names i)) (position_of names word) n found (λ i at meant.
        let g = mapped_some (λ (x : Given). x.1) (slice_get names i) n meant in (i, at, (g.0.0, n, g.1 ∙ ap (λ k. Some (g.0.0, k)) g.2, t)))

all_suit : (version : ℕ) (names : List Given) (places : List Place) (words : List (List ℕ)) → length words ≡ length places
    → list_any (λ p. is_bad_name p.0 p.1) (zip places words) ≡ false
    → list_any (λ p. is_taken names p.0 p.1) (zip places words) ≡ false
    → list_any (λ p. is_wrong_kind names p.0 p.1) (zip places words) ≡ false
    → list_any (λ p. is_bad_number version p.0 p.1) (zip places words) ≡ false
    → list_any (λ p. is_bad_text version p.0 p.1) (zip places words) ≡ false
    → AllSuit names places words
all_suit version names [] [] count named fresh suited numbers texts = tt
all_suit version names [] (w ∷ words) count named fresh suited numbers texts = absurd (omega arith)
all_suit version names (place ∷ places) [] count named fresh suited numbers texts = absurd (omega arith)
all_suit version names (place ∷ places) (word ∷ words) count named fresh suited numbers texts =
    let a = or_parts _ _ named in
    let b = or_parts _ _ fresh in
    let d = or_parts _ _ suited in
    let e = or_parts _ _ numbers in
    let f = or_parts _ _ texts in
    (one place a.0 b.0 d.0 e.0 f.0, all_suit version names places words (omega arith) a.1 b.1 d.1 e.1 f.1)
  where
    one : (p : Place) → is_bad_name p word ≡ false → is_taken names p word ≡ false → is_wrong_kind names p word ≡ false
        → is_bad_number version p word ≡ false → is_bad_text version p word ≡ false → Suits names p word
    one Fresh n f s k t = (not-false _ n, f)
    one Message n f s k t = message_word_is_text (version == 2) word k t
    one Capacity n f s k t = not-false _ k
    one p n f s k t = used_suits names p word (not-false _ s)

-- and each word suits its place
pub all_suit-passes : (scope : Scope) (form : Form) → Passes scope form → AllSuit scope.names (places_of form) (rest_of form)
all_suit-passes scope form p =
    all_suit scope.version scope.names (places_of form) (rest_of form) p.count p.names p.fresh p.suited p.numbers p.texts

-- a name that is given is a name, and was not given before
pub fresh_suits : (names : List Given) (places : List Place) (words : List (List ℕ)) (word : List ℕ) → AllSuit names places words
    → fresh_word places words ≡ Some word → Suits names Fresh word
fresh_suits names [] words word h e = absurd (none-some word e)
fresh_suits names (place ∷ places) [] word h e = absurd h
fresh_suits names (Fresh ∷ places) (w ∷ words) word h e = subst (Suits names Fresh) (same_Some w word e) h.0
fresh_suits names (place ∷ places) (w ∷ words) word h e = fresh_suits names places words word h.1 e
