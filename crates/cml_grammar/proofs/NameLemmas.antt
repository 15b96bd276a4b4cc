-- Names and numbers: what the look-ups of a map of texts give, and which words are numbers.
use Rattle.std.proofs.Common.{◌≡◌, ◌≢◌, ℕ, suc, ◌^◌, ◌<◌, ◌≤◌, Bool, true, false, not, cond, ◌&&◌, ◌||◌, ◌==◌, nat_lt, List, []}
use Rattle.std.proofs.Common.{◌∷◌, ◌++◌, length, slice_get, position, Option, Some, None, is_some, Result, Ok, Err, refl, sym, ap}
use Rattle.std.proofs.Common.{◌∙◌, arith, get_or, eq-eqb, if◌then◌else◌, String, string_bytes, true≢false}
use Rattle.std.proofs.Common.{◌⊎◌, inl, inr, subst}
use Rattle.cml_calls.specs.{is_text}
use Rattle.cml_calls.proofs.TextLemmas.{number_is_text}
use Rattle.std.specs.Fmt.{decimal}
use Rattle.std.proofs.lemmas.Fmt.{decimal-digits_value, digits_decimal, digits_value-decimal, decimal_nonempty}
use Rattle.std.proofs.lemmas.Fmt.{first_decimal, decimal_digit}
use Rattle.std.proofs.lemmas.Bool.{or_cases, cases_lt}
use Rattle.std.proofs.Math.Bool.{and-true}
use Rattle.std.specs.Global.{Global}
use Rattle.std.specs.List.{list_all}
use Rattle.std.specs.Option.{option_map, option_and_then}
use Rattle.std.specs.Result.{result_ok, OkIff}
use Rattle.std.specs.Str.{bytes_eq, all_ascii_digits}
use Rattle.std.specs.Str.Parse.{digits_value, ParsesUnsigned}
use Rattle.std.specs.Map.{lookup, keys_of}
use Rattle.std.proofs.lemmas.Bool.{not-false, lt-ltb, le-leb, ltb-true, and_parts, and_from, eqb-true, false_from_ne_true, ne_eqb}
use Rattle.std.proofs.lemmas.Str.Parse.{parse_plain, numerals_by_value, tells_all_ascii_digits}
use Rattle.std.specs.String.{string_eq}
use Rattle.std.specs.declared.hash.FoldHasher.{FoldHasher}
use Rattle.std.specs.declared.hash.BuildHasherDefault.{BuildHasherDefault}
use Rattle.std.proofs.lemmas.List.{map-append}
use Rattle.indexmap.specs.IndexMap.{IndexMap, insert_entry}
use Rattle.indexmap.proofs.CallerLemmas.{insert_entry-new}
use Rattle.indexmap.proofs.MapLemmas.{some_index}
use Rattle.cml_grammar.specs.{Named, Given, is_letter, is_name_byte, is_reserved, is_name, is_number, is_called, position_of, named}
use Rattle.cml_grammar.specs.{is_given, texts_of}
use Rattle.cml_grammar.proofs.ListLemmas.{position-cons}

-- the entries of a map of names, and the map
abbrev pub Entries : Type 0
Entries = List (String Global × Named)

abbrev pub Names : Type 0
Names = IndexMap (String Global) Named (BuildHasherDefault FoldHasher)

pub position-texts : (es : Entries) (word : List ℕ)
    → position (λ k. bytes_eq word (string_bytes k)) (keys_of es) ≡ position_of (texts_of es) word
position-texts [] word = refl
position-texts (e ∷ es) word =
    position-cons (λ k. bytes_eq word (string_bytes k)) e.0 (keys_of es)
    ∙ ap (λ r. cond (bytes_eq word (string_bytes e.0)) (Some 0) (option_map suc r)) (position-texts es word)
    ∙ sym (position-cons (is_called word) (string_bytes e.0, e.1) (texts_of es))

named-cons : (g : Given) (gs : List Given) (word : List ℕ) → named (g ∷ gs) word ≡ cond (bytes_eq word g.0) (Some g.1) (named gs word)
named-cons g gs word =
    ap (option_and_then (λ i. option_map (λ g. g.1) (slice_get (g ∷ gs) i))) (position-cons (is_called word) g gs) ∙ by (bytes_eq word g.0)
  where
    later : (r : Option ℕ) → option_and_then (λ i. option_map (λ g. g.1) (slice_get (g ∷ gs) i)) (option_map suc r)
        ≡ option_and_then (λ i. option_map (λ g. g.1) (slice_get gs i)) r
    later None = refl
    later (Some i) = refl

    by : (b : Bool) → option_and_then (λ i. option_map (λ g. g.1) (slice_get (g ∷ gs) i))
        (cond b (Some 0) (option_map suc (position (is_called word) gs))) ≡ cond b (Some g.1) (named gs word)
    by true = refl
    by false = later (position (is_called word) gs)

pub lookup-texts : (es : Entries) (word : List ℕ) → lookup (λ k. bytes_eq word (string_bytes k)) es ≡ named (texts_of es) word
lookup-texts [] word = refl
lookup-texts (e ∷ es) word =
    ap (cond (bytes_eq word (string_bytes e.0)) (Some e.1)) (lookup-texts es word)
    ∙ sym (named-cons (string_bytes e.0, e.1) (texts_of es) word)

-- and whether there is one
pub is_some-lookup : (es : Entries) (word : List ℕ)
    → is_some (lookup (λ k. bytes_eq word (string_bytes k)) es) ≡ is_given (texts_of es) word
is_some-lookup es word = sym (some_index (λ k. bytes_eq word (string_bytes k)) es) ∙ ap is_some (position-texts es word)

pub absent : {X : Type 0} (r : Option X) → is_some r ≡ false → r ≡ None
absent None h = refl
absent (Some x) h = absurd (true≢false h)

-- the texts with one more that was not given
pub inserted_texts : (m : Names) (key : String Global) (n : Named) (word : List ℕ) → string_bytes key ≡ word
    → is_given (texts_of m.entries) word ≡ false → texts_of (insert_entry string_eq m.entries key n) ≡ texts_of m.entries ++ (word, n) ∷ []
inserted_texts m key n word same free =
    ap texts_of (insert_entry-new string_eq m key n (absent (lookup (string_eq key) m.entries)
    (is_some-lookup m.entries (string_bytes key) ∙ ap (is_given (texts_of m.entries)) same ∙ free)))
    ∙ map-append (λ (e : String Global × Named). (string_bytes e.0, e.1)) m.entries ((key, n) ∷ [])
    ∙ ap (λ w. texts_of m.entries ++ (w, n) ∷ []) same

-- a name is tested from its first byte on
pub is_name_rest : (word : List ℕ) (b : ℕ) (bs : List ℕ) → word ≡ b ∷ bs → is_letter b ≡ true → length bs ≤ 31 → is_reserved word ≡ false
    → is_name word ≡ list_all is_name_byte bs
is_name_rest word b bs e letter short free =
    ap is_name e
    ∙ (λ j. letter j && list_all is_name_byte bs && le-leb (length bs) 31 short j && not ((sym (ap is_reserved e) ∙ free) j))
    ∙ and-true _ ∙ and-true _

-- the number of a word, if it is one
abbrev pub number_in : List ℕ → Option ℕ
number_in word = if is_number word then Some (digits_value 10 word) else None

-- what `parse` says of a word that begins with neither
pub number_from_parse : {E : Type 0} (word : List ℕ) (r : Result ℕ E) → ParsesUnsigned 64 10 word r → 0 < length word → get_or word 0 0 ≢ 48
    → get_or word 0 0 ≢ 43 → result_ok r ≡ number_in word
number_from_parse [] r parses some zeroth plus = absurd (omega arith)
number_from_parse {E} (b ∷ bs) r parses some zeroth plus =
    by r (parse_plain (numerals_by_value _ tells_all_ascii_digits) 64 (b ∷ bs) r parses plus)
  where
    word : List ℕ
    word = b ∷ bs

    begins : (not (b == 48) || length bs == 0) ≡ true
    begins = ap (λ t. not t || length bs == 0) (ne_eqb b 48 zeroth)

    is_it : is_number word ≡ (all_ascii_digits word && nat_lt (digits_value 10 word) (2 ^ 64))
    is_it = ap (λ t. all_ascii_digits word && t && nat_lt (digits_value 10 word) (2 ^ 64)) begins
        ∙ ap (λ t. t && nat_lt (digits_value 10 word) (2 ^ 64)) (and-true (all_ascii_digits word))

    by : (q : Result ℕ E) → OkIff q ((all_ascii_digits word ≡ true) × (0 < length word) × (digits_value 10 word < 2 ^ 64))
        (digits_value 10 word) → result_ok q ≡ number_in word
    by (Ok x) h =
        ap Some h.1 ∙ sym (ap (λ t. if t then Some (digits_value 10 word) else None) (is_it ∙ and_from _ _ h.0.0 (lt-ltb _ _ h.0.2)))
    by (Err e) h = sym (ap (λ t. if t then Some (digits_value 10 word) else None) (is_it ∙ false_from_ne_true _ (λ t.
        let parts = and_parts _ _ t in h (parts.0, some, ltb-true _ _ parts.1))))

-- ---- a number's word, and what a number prints as
number_from_digits : (ds : List ℕ) → all_ascii_digits ds ≡ true → 0 < length ds → (get_or ds 0 0 ≡ 48 → length ds ≡ 1)
    → digits_value 10 ds < 2 ^ 64 → is_number ds ≡ true
number_from_digits [] digits some lone small = absurd (omega arith)
number_from_digits (b ∷ bs) digits some lone small = and_from _ _ (and_from _ _ digits (begins (b == 48) refl)) (lt-ltb _ _ small)
  where
    begins : (t : Bool) → (b == 48) ≡ t → (not t || length bs == 0) ≡ true
    begins false e = refl
    begins true e = eq-eqb (length bs) 0 (omega (arith, lone (eqb-true b 48 e)))

pub printed_number : (word : List ℕ) → is_number word ≡ true → word ≡ decimal (digits_value 10 word)
printed_number [] h = absurd (true≢false (sym h))
printed_number (b ∷ bs) h =
    let whole = and_parts _ _ h in
    let front = and_parts _ _ whole.0 in
    sym (decimal-digits_value (numerals_by_value _ tells_all_ascii_digits) (b ∷ bs) front.0 (omega arith)
    (λ e. lone e (or_cases _ _ front.1)) (ltb-true _ _ whole.1))
  where
    lone : b ≡ 48 → (not (b == 48) ≡ true) ⊎ ((length bs == 0) ≡ true) → length (b ∷ bs) ≡ 1
    lone e (inl n) = absurd (true≢false (sym n ∙ ap not (eq-eqb b 48 e)))
    lone e (inr z) = omega (arith, eqb-true (length bs) 0 z)

-- a number is below 2 ^ 64
number_small : (word : List ℕ) → is_number word ≡ true → digits_value 10 word < 2 ^ 64
number_small [] h = absurd (true≢false (sym h))
number_small (b ∷ bs) h = ltb-true _ _ (and_parts _ _ h).1

-- and its word is a text
pub number_word_is_text : (word : List ℕ) → is_number word ≡ true → is_text word ≡ true
number_word_is_text word h = ap is_text (printed_number word h) ∙ number_is_text (digits_value 10 word) (number_small word h)

-- the word in a message's place of a line without fault is a text, in either version
pub message_word_is_text : (texts : Bool) (word : List ℕ) → (not texts && not (is_number word)) ≡ false
    → (texts && not (is_text word)) ≡ false → is_text word ≡ true
message_word_is_text true word number text = not-false _ text
message_word_is_text false word number text = number_word_is_text word (not-false _ number)

pub read_number : (n : ℕ) → n < 2 ^ 64 → is_number (decimal n) ≡ true
read_number n small =
    let own = numerals_by_value _ tells_all_ascii_digits in
    number_from_digits (decimal n) (digits_decimal own n small) (decimal_nonempty n small) (λ e. lone e (cases_lt 0 n))
    (subst (λ (m : ℕ). m < 2 ^ 64) (sym (digits_value-decimal own n small)) small)
  where
    lone : get_or (decimal n) 0 0 ≡ 48 → (0 < n) ⊎ (n ≤ 0) → length (decimal n) ≡ 1
    lone e (inl above) = absurd (omega (arith, first_decimal n above small, e))
    lone e (inr zeroth) = ap length (decimal_digit n (omega (arith, zeroth)))
