-- A script of version 1 is one of version 2 too: its messages are numbers, and those are texts.
use Rattle.std.proofs.Common.{◌≡◌, ℕ, suc, ◌<◌, Bool, true, false, not, List, [], ◌∷◌, length, Option, None, Some}
use Rattle.std.proofs.Common.{if◌then◌else◌, refl, sym, ap, ◌∙◌, subst, arith}
use Rattle.std.specs.Prelude.{codes}
use Rattle.std.specs.List.{list_any, zip}
use Rattle.std.proofs.lemmas.Bool.{or_parts, eq-eqb, not-false}
use Rattle.cml_grammar.specs.{What, Place, parts_of, words_of, is_bad_byte, form_of, places_of, rest_of, Scope, start, says, is_bad_header}
use Rattle.cml_grammar.specs.{fault_in_words, fault_in, after, after_words, is_bad_number, is_bad_text, SourceLine, Says, NumbersAreTexts}
use Rattle.cml_grammar.specs.declared.forms.Place.TheVariants.{Message, Capacity}
use Rattle.cml_grammar.specs.declared.fault.What.TheVariants.{BadBytes, BadHeader}
use Rattle.cml_grammar.proofs.NameLemmas.{number_word_is_text}
use Rattle.cml_grammar.proofs.LinesLemmas.{parts-some}
use Rattle.cml_grammar.proofs.TableLemmas.{not_first, words_pass}

-- the same scope in another version
abbrev in_version : ℕ → Scope → Scope
in_version version scope = record { version = version; names = scope.names; started = scope.started; lanes = scope.lanes }

-- a test that holds of no word that another doesn't hold of
any_less : (p q : Place → List ℕ → Bool) → ((place : Place) (word : List ℕ) → p place word ≡ false → q place word ≡ false)
    → (places : List Place) (words : List (List ℕ)) → list_any (λ w. p w.0 w.1) (zip places words) ≡ false
    → list_any (λ w. q w.0 w.1) (zip places words) ≡ false
any_less p q less [] words h = refl
any_less p q less (place ∷ places) [] h = refl
any_less p q less (place ∷ places) (word ∷ words) h =
    let parts = or_parts _ _ h in
    rw (less place word parts.0) (any_less p q less places words parts.1)

number_less : (place : Place) (word : List ℕ) → is_bad_number 1 place word ≡ false → is_bad_number 2 place word ≡ false
number_less Capacity word h = h
number_less _ word h = refl

text_less : (place : Place) (word : List ℕ) → is_bad_number 1 place word ≡ false → is_bad_text 2 place word ≡ false
text_less Message word h = ap not (number_word_is_text word (not-false _ h))
text_less _ word h = refl

first_fails : (test : Bool) (what : What) (later : Option What) → test ≡ false → later ≡ None → (if test then Some what else later) ≡ None
first_fails test what later h none = ap (λ t. if t then Some what else later) h ∙ none

-- a line of words without fault in version 1 is without fault in version 2
words_two : (scope : Scope) (words : List (List ℕ)) → fault_in_words (in_version 1 scope) words ≡ None
    → fault_in_words (in_version 2 scope) words ≡ None
words_two scope words h =
    let form = form_of scope.names words in
    let pass = words_pass (in_version 1 scope) words h in
    let p = pass.1 in
    let numbers = any_less (is_bad_number 1) (is_bad_number 2) number_less (places_of form) (rest_of form) p.numbers in
    let texts = any_less (is_bad_number 1) (is_bad_text 2) text_less (places_of form) (rest_of form) p.numbers in
    first_fails _ _ _ pass.0
    (first_fails _ _ _ p.known
    (first_fails _ _ _ p.in_time
    (first_fails _ _ _ p.does_something
    (first_fails _ _ _ (ap not (eq-eqb _ _ p.count))
    (first_fails _ _ _ p.names
    (first_fails _ _ _ p.fresh
    (first_fails _ _ _ p.given
    (first_fails _ _ _ p.suited
    (first_fails _ _ _ p.yours
    (first_fails _ _ _ numbers
    (first_fails _ _ _ texts
    (first_fails _ _ _ p.unlaid
    (first_fails _ _ _ p.room refl)))))))))))))

line_two : (scope : Scope) (k : ℕ) (line : List ℕ) → fault_in (in_version 1 scope) k line ≡ None
    → fault_in (in_version 2 scope) k line ≡ None
line_two scope k line h =
    let bytes = not_first (list_any is_bad_byte line) BadBytes _ h in
    let header = not_first (is_bad_header k line) BadHeader _ bytes.1 in
    first_fails _ _ _ bytes.0 (first_fails _ _ _ header.0 (by (says k line) header.1))
  where
    by : (t : Bool) → (if t then fault_in_words (in_version 1 scope) (words_of line) else None) ≡ None
        → (if t then fault_in_words (in_version 2 scope) (words_of line) else None) ≡ None
    by false none = refl
    by true none = words_two scope (words_of line) none

after_version : (version : ℕ) (scope : Scope) (k : ℕ) (line : List ℕ)
    → after (in_version version scope) k line ≡ in_version version (after scope k line)
after_version version scope k line = by (says k line)
  where
    by : (t : Bool) → (if t then after_words (in_version version scope) (words_of line) else in_version version scope)
        ≡ in_version version (if t then after_words scope (words_of line) else scope)
    by false = refl
    by true = refl

says_two : (scope : Scope) (k : ℕ) (parts : List (List ℕ)) (declared laid asked : List SourceLine)
    → Says (in_version 1 scope) k parts declared laid asked → Says (in_version 2 scope) k parts declared laid asked
says_two scope k [] declared laid asked h = absurd h
says_two scope k (part ∷ []) declared laid asked h = h
says_two scope k (line ∷ next ∷ more) declared laid asked h =
    let there : Scope = after scope k line in
    let later = subst (λ (s : Scope). Says s (suc k) (next ∷ more) h.1 h.2 h.3) (after_version 1 scope k line) h.7 in
    let two = subst (λ (s : Scope). Says s (suc k) (next ∷ more) h.1 h.2 h.3) (sym (after_version 2 scope k line))
    (says_two there (suc k) (next ∷ more) h.1 h.2 h.3 later) in
    (line_two scope k line h.0, h.1, h.2, h.3, h.4, h.5, h.6, two)

-- what follows the first line is the same
header_two : (parts : List (List ℕ)) (declared laid asked : List SourceLine) → 0 < length parts
    → Says (start 1) 1 (codes "cml 1" ∷ parts) declared laid asked → Says (start 2) 1 (codes "cml 2" ∷ parts) declared laid asked
header_two [] declared laid asked some h = absurd (omega arith)
header_two (next ∷ more) declared laid asked some h =
    (refl, h.1, h.2, h.3, h.4, h.5, h.6, says_two (start 1) 2 (next ∷ more) h.1 h.2 h.3 h.7)

pub numbers_are_texts : NumbersAreTexts
numbers_are_texts body script is = record {
  short = is.short;
  version = refl;
  says = header_two (parts_of body) script.declarations script.lanes script.steps (parts-some body) is.says;
}
