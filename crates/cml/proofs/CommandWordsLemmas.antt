-- Words as `clap` reads them, and which of them a level understands whose options are a flag and perhaps a limit.
use Rattle.std.proofs.Common.{◌≡◌, ◌⊎◌, refl, inl, inr, Bool, true, false, ℕ, List, [], ◌∷◌, Option, Some, None, codes, ◌∙◌, ◌++◌, ◌+◌, suc}
use Rattle.std.proofs.Common.{ap, ap₂, subst, sym, arith, eqb-true, fold, find, slice_get, ◌==◌, option_and_then, bytes_eq, chars}
use Rattle.std.proofs.lemmas.Bool.{cases_Bool, true_from_ne_false}
use Rattle.std.proofs.lemmas.List.{append-nil}
use Rattle.std.proofs.lemmas.Slice.Eq.{bytes_eq-Decides}
use Rattle.clap.specs.Walk.{Held, Names, Row, Rule, Text, Waiting, Walk, arg_by_index, arg_by_long, arg_by_short, bundle_met, idle}
use Rattle.clap.specs.Walk.{long_or_other, nothing_held, option, plain_word, subcommand_met, walked, arg_by_id, settled_rows, used}
use Rattle.clap.specs.Simple.{Shape, filled, help_rule}
use Rattle.clap.specs.Kinds.{Kinds, or_else, value_kinds}
use Rattle.clap.specs.Lexer.{long_of, short_of, long_of_rest, name_and_value, strip_byte}
use Rattle.clap.specs.Faults.{flag_word_fault, flags_fault, level_fault, long_fault, settle_fault, short_fault, stray_fault}
use Rattle.clap.specs.Faults.{turn_fault, walk_fault, use_fault}
use Rattle.clap.specs.declared.error.kind.ErrorKind.{ErrorKind}
use Rattle.std.proofs.lemmas.Option.{cond_some, option_and_then_some}
use native.Mathlib.Numerals.{unary_clauses}
use Rattle.clap.specs.ValueTests.{accepts}
use Rattle.clap.specs.declared.builder.value_parser.ValueParser.{ValueParser}
use Rattle.clap.specs.declared.builder.value_parser.ValueParser.TheVariants as parser
use Rattle.clap.proofs.ValueTestLemmas.{accepts-Accepts}
use Rattle.cml.specs.{AreOfUse, AreUses, Flag, IsLimitOption, Limit, Use, flag_rule, given_by, limit_rule, state_by}
use Rattle.cml_report.specs.{Form}

pub some_kind : (k : ErrorKind) (ks : Kinds) → k ∷ ks ≡ [] → ⊥
some_kind k ks none = cc

pub none_of_both : (a b : Kinds) → or_else a b ≡ [] → (a ≡ []) × (b ≡ [])
none_of_both [] b none = (refl, none)
none_of_both (k ∷ ks) b none = cc

abbrev pub IsOrOther : Text → Text → Type 0
IsOrOther a b = (a ≡ b) ⊎ (bytes_eq a b ≡ false)

pub same_or_other : (a b : Text) → IsOrOther a b
same_or_other a b = elim (cases_Bool (bytes_eq a b)) [ inl same ↦ inl ((bytes_eq-Decides a b).0 same) | inr other ↦ inr other ]

-- ---- the flag help is refused

abbrev pub holding : List Row → Option (Text × List Text) → Held
holding rows pending = record { rows = rows; pending = pending; skip = 0 }

abbrev pub standing : Waiting → Bool → Held → Walk
standing waiting is_trailing held =
    record { held = held; waiting = waiting; position = 1; is_trailing = is_trailing; stopped = None }

-- the flag help, as a level has it, or none: after a level's options there is help alone
abbrev pub help : Rule
help = filled help_rule

abbrev pub IsHelpAlone : Option Rule → Type 0
IsHelpAlone rule = (rule ≡ None) ⊎ (rule ≡ Some help)

pub help_alone : (p : Rule → Bool) → IsHelpAlone (find p (help ∷ []))
help_alone p = elim (cases_Bool (p help)) [ inl t ↦ inr (rw t refl) | inr t ↦ inl (rw t refl) ]

pub long_help : (c : List Rule) (rule : Option Rule) (value : Option Text) (h : Held) → IsHelpAlone rule
    → long_fault c false rule value h ≡ [] → ⊥
long_help c rule value h (inl e) none = some_kind _ _ (rw e at none)
long_help c rule None h (inr e) none = some_kind _ _ (none_of_both (settle_fault c false h) _ (rw e at none)).1
long_help c rule (Some text) h (inr e) none = some_kind _ _ (rw e at none)

short_help : (c : List Rule) (rule : Option Rule) (rest : Text) (h : Held) (next : Held → Kinds) → IsHelpAlone rule
    → short_fault c false rule rest h next ≡ [] → ⊥
short_help c rule rest h next (inl e) none = some_kind _ _ (rw e at none)
short_help c rule rest h next (inr e) none = some_kind _ _ (none_of_both (settle_fault c false h) _ (none_of_both _ _ (rw e at none)).0).1

-- ---- a level whose one flag besides its options is help, and which takes no other words

pub record IsBare (s : Shape) : Type 0 where
  pub once : s.args_override_self ≡ false
  pub short : (x : ℕ) → IsHelpAlone (arg_by_short s.rules x)
  pub others : arg_by_index s.rules 1 ≡ None

-- a word without fault: `--`, a flag, or a word for what waits
pub data Turn (s : Shape) (waiting : Waiting) (h : Held) (word : Text) : Type 0 where
  dashes : word ≡ codes "--" → Turn s waiting h word
  a_flag : (name : Text) (value : Option Text) → long_of word ≡ Some (name, value) → bytes_eq word (codes "--") ≡ false
      → long_fault s.rules false (arg_by_long s.rules name) value h ≡ [] → Turn s waiting h word
  a_value : bytes_eq word (codes "--") ≡ false → long_or_other s.rules waiting word (long_of word) h ≡ plain_word s.rules waiting word h
      → (waiting ≡ idle → ⊥) → Turn s waiting h word

module _ (s : Shape) (bare : IsBare s) where
  no_stray : stray_fault s ≡ [] → ⊥
  no_stray none = elim (cases_Bool s.is_leaf) [ inl t ↦ some_kind _ _ (rw t at none) | inr t ↦ some_kind _ _ (rw t at none) ]

  pub turn_of : (names : Names) (waiting : Waiting) (rows : List Row) (pending : Option (Text × List Text)) (word : Text)
      → subcommand_met names waiting word ≡ None
      → turn_fault s names (standing waiting false (holding rows pending)) word ≡ [] → Turn s waiting (holding rows pending) word
  unfolding flags_fault bundle_met
  turn_of names waiting rows pending word met none =
      elim (same_or_other word (codes "--")) [ inl d ↦ dashes d | inr d ↦ by d (long_of word) (short_of word) _ refl refl refl ]
    where
      value : bytes_eq word (codes "--") ≡ false → long_or_other s.rules waiting word (long_of word) (holding rows pending)
          ≡ plain_word s.rules waiting word (holding rows pending)
          → Turn s waiting (holding rows pending) word
      value d plain = a_value d plain
          (λ is. no_stray (none_of_both (flag_word_fault s.rules s.args_override_self (long_of word) word (holding rows pending)) _
          (rw (met, d, plain, is, bare.others) at none)).1)

      by : bytes_eq word (codes "--") ≡ false → (long : Option (Text × Option Text)) (short : Option Text) (first : Option ℕ)
          → long_of word ≡ long → short_of word ≡ short
          → option_and_then (λ flags. slice_get (chars flags) 0) short ≡ first → Turn s waiting (holding rows pending) word
      by d (Some p) short first e g is = a_flag p.0 p.1 e d (none_of_both _ _ (rw (met, d, e, bare.once) at none)).0
      by d None (Some (f ∷ fs)) (Some x) e g is =
          absurd (short_help _ _ _ _ _ (bare.short x) (none_of_both _ _ (rw (met, d, e, g, is, bare.once) at none)).0)
      by d None short first e g is = value d (simp (e, g, is))

  -- the words to come, and the end, have no fault
  abbrev pub IsFine : Walk → List Text → Type 0
  IsFine w words = (walk_fault s [] w words ≡ []) × (settle_fault s.rules s.args_override_self (fold (walked s.rules []) w words).held ≡ [])

  pub first_turn : (w : Walk) (word : Text) (rest : List Text) → IsFine w (word ∷ rest)
      → (turn_fault s [] w word ≡ []) × IsFine (walked s.rules [] w word) rest
  unfolding walk_fault
  first_turn w word rest fine = let words = none_of_both _ _ fine.0 in (words.0, (words.1, fine.1))

  -- after `--` there is no word
  pub trailing_end : (waiting : Waiting) (h : Held) (rest : List Text) → IsFine (standing waiting true h) rest
      → (rest ≡ []) × (settle_fault s.rules false h ≡ [])
  trailing_end waiting h [] fine = (refl, rw bare.once at fine.1)
  trailing_end waiting h (word ∷ more) fine = absurd (no_stray (rw bare.others at (first_turn (standing waiting true h) word more fine).0))

  -- a level without options takes no words but the `--` that ends them
  pub bare_words : ((name : Text) → IsHelpAlone (arg_by_long s.rules name)) → (words : List Text)
      → level_fault s [] nothing_held words false [] ≡ [] → AreUses [] [] [] words
  unfolding walked
  bare_words alone [] none = inl refl
  bare_words alone (word ∷ rest) none =
      let parts = none_of_both _ _ none in
      let turn = first_turn (standing idle false (holding [] None)) word rest (parts.0, (none_of_both _ _ parts.1).0) in
      elim (turn_of [] idle [] None word refl turn.0) [
        | dashes is ↦ inr (ap₂ (λ w ws. w ∷ ws) is (trailing_end idle (holding [] None) rest (rw is at turn.1)).0)
        | a_value d is stray ↦ absurd (stray refl)
        | a_flag name value e d fine ↦ absurd (long_help _ _ _ _ (alone name) fine)
      ]

-- ---- words that begin with two hyphens

stripped : (c : ℕ) (text rest : Text) → strip_byte c text ≡ Some rest → text ≡ c ∷ rest
stripped c [] rest h = cc
stripped c (x ∷ xs) rest h =
    let is = cond_some (x == c) xs rest h in ap₂ (λ y ys. y ∷ ys) (eqb-true x c is.0) is.1

-- the value of a flag, with the `=` before it
abbrev pub with_equals : Option Text → Text
with_equals None = []
with_equals (Some value) = 61 ∷ value

rejoined : (text : Text) → text ≡ (name_and_value text).0 ++ with_equals (name_and_value text).1
rejoined [] = refl
rejoined (x ∷ xs) = elim (cases_Bool (x == 61)) [
  | inl t ↦ rw t (ap (λ y. y ∷ xs) (eqb-true x 61 t))
  | inr t ↦
      let up : (n : ℕ) → 1 + n ≡ suc n = λ n. omega arith in
      let more = ap (λ ys. x ∷ ys) (rejoined xs) in
      rw (t, up) (simp unary_clauses (simp unary_clauses at more))
]

pub long_word_is : (word name : Text) (value : Option Text) → long_of word ≡ Some (name, value)
    → word ≡ 45 ∷ 45 ∷ (name ++ with_equals value)
long_word_is word name value h =
    option_and_then_some long_of_rest (option_and_then (strip_byte 45) (strip_byte 45 word)) (name, value) h (λ rest there named.
    option_and_then_some (strip_byte 45) (strip_byte 45 word) rest there (λ more first second.
    stripped 45 word more first ∙ ap (λ t. 45 ∷ t) (stripped 45 more rest second ∙ ap (λ t. 45 ∷ t) (whole rest named))))
  where
    whole : (rest : Text) → long_of_rest rest ≡ Some (name, value) → rest ≡ name ++ with_equals value
    whole [] e = cc
    whole (x ∷ xs) e =
        let same : name_and_value (x ∷ xs) ≡ (name, value) = cc in
        rejoined (x ∷ xs) ∙ ap (λ (p : Text × Option Text). p.0 ++ with_equals p.1) same

-- ---- a level whose options are one flag and perhaps the limit

abbrev pub limit_parser : ValueParser
limit_parser = parser.Unsigned 1 4294967296

-- the names of a level's limit and of its flag, and the limit's default
pub record Options : Type 0 where
  pub limit : Text
  pub default : Text
  pub flag : Text

-- the limit and a flag, as a level has them
abbrev pub the_limit : Options → Rule
the_limit o = filled (limit_rule o.limit o.default)

abbrev pub the_flag : Options → Rule
the_flag o = filled (flag_rule o.flag)

-- between two words: these options were used, and perhaps this text is the limit's
abbrev past : List Row → Option (Text × List Text) → Walk
past rows pending = standing idle false (holding rows pending)

-- the limit's text is to come
abbrev waits : Options → List Row → Walk
waits o rows = standing (option o.limit) false (holding rows (Some (o.limit, [])))

abbrev pub HasLimit : Shape → Options → Type 0
HasLimit s o = arg_by_id s.rules o.limit ≡ Some (the_limit o)

-- what a level has under a flag's name: the limit, its own flag, or no option
pub data Found (s : Shape) (o : Options) (name : Text) : Type 0 where
  limited : name ≡ o.limit → arg_by_long s.rules name ≡ Some (the_limit o) → HasLimit s o → Found s o name
  flagged : name ++ [] ≡ o.flag → arg_by_long s.rules name ≡ Some (the_flag o) → Found s o name
  neither : IsHelpAlone (arg_by_long s.rules name) → Found s o name

-- the words are options and their end, where these rows are of those before them
data Path (s : Shape) (o : Options) : List Row → List Text → Type 0 where
  ends : {rows : List Row} {words : List Text} → AreUses o.limit (45 ∷ 45 ∷ o.flag) [] words → Path s o rows words
  limits : {rows : List Row} {words : List Text} → (first rest : List Text) (text : Text) → HasLimit s o
      → words ≡ first ++ rest → IsLimitOption o.limit first text
      → use_fault false (the_limit o) (text ∷ []) rows ≡ [] → Path s o (used (the_limit o) (text ∷ []) rows) rest → Path s o rows words
  flags : {rows : List Row} {words : List Text} → (rest : List Text) → words ≡ (45 ∷ 45 ∷ o.flag) ∷ rest
      → use_fault false (the_flag o) [] rows ≡ [] → Path s o (used (the_flag o) [] rows) rest → Path s o rows words

-- these words are options of the level, each at most once, which give a limit and a form, whatever the limit's default is
abbrev pub Uses : Shape → Options → List Text → Type 0
Uses s o words = (uses : List Use) × AreUses o.limit (45 ∷ 45 ∷ o.flag) uses words
    × ((default : ℕ) → (both : ℕ × Form) × (given_by default uses ≡ Some both))
    × ((HasLimit s o → ⊥) → (state : Bool) × (state_by uses ≡ Some state))

module _ (s : Shape) (o : Options) (bare : IsBare s) (found : (name : Text) → Found s o name)
    (same : bytes_eq o.flag o.flag ≡ true) (twice : bytes_eq o.limit o.limit ≡ true) (apart : bytes_eq o.limit o.flag ≡ false)
    (too : bytes_eq o.flag o.limit ≡ false) where
  unread : (rows : List Row) → HasLimit s o → settle_fault s.rules false (holding rows (Some (o.limit, []))) ≡ [] → ⊥
  unread rows has none = some_kind _ _ (rw has at none)

  -- words without fault between options are options and their end
  abbrev Between : List Text → Type 0
  Between words = (rows : List Row) (pending : Option (Text × List Text)) → IsFine s bare (past rows pending) words
      → (settle_fault s.rules false (holding rows pending) ≡ []) × Path s o (settled_rows s.rules pending rows) words

  -- and so they are after the limit's name, whose text comes first
  abbrev TextFirst : List Text → Type 0
  TextFirst words = (rows : List Row) → HasLimit s o → IsFine s bare (waits o rows) words → Path s o rows ((45 ∷ 45 ∷ o.limit) ∷ words)

  next_word : (word : Text) (rest : List Text) → Between rest × TextFirst rest → Between (word ∷ rest) × TextFirst (word ∷ rest)
  unfolding walked
  next_word word rest ahead = (between, text_first)
    where
      by_flag : (rows : List Row) (pending : Option (Text × List Text)) (name : Text) (value : Option Text)
          → long_of word ≡ Some (name, value) → bytes_eq word (codes "--") ≡ false
          → long_fault s.rules false (arg_by_long s.rules name) value (holding rows pending) ≡ [] → Found s o name
          → (settle_fault s.rules false (holding rows pending) ≡ [])
          × (IsFine s bare (walked s.rules [] (past rows pending) word) rest → Path s o (settled_rows s.rules pending rows) (word ∷ rest))
      by_flag rows pending name None e d none (limited is rule has) =
          let alone =
          long_word_is word name None e ∙ ap (λ n. 45 ∷ 45 ∷ (n ++ [])) is ∙ ap (λ n. 45 ∷ 45 ∷ n) (append-nil o.limit) in (
            rw rule at none,
            λ left. subst (λ w. Path s o (settled_rows s.rules pending rows) (w ∷ rest)) (sym alone)
                (ahead.1 _ has (rw (d, e, rule) at left)),
          )
      by_flag rows pending name (Some text) e d none (limited is rule has) =
          let both = none_of_both _ _ (rw rule at none) in
          let with_text = ap (λ w. w ∷ []) (long_word_is word name (Some text) e ∙ ap (λ n. 45 ∷ 45 ∷ (n ++ 61 ∷ text)) is) in
          (both.0, λ left. limits (word ∷ []) rest text has refl (inr with_text) both.1 (ahead.0 _ None (rw (d, e, rule) at left)).1)
      by_flag rows pending name None e d none (flagged is rule) =
          let both = none_of_both _ _ (rw rule at none) in (
            both.0,
            λ left. flags rest (ap (λ w. w ∷ rest) (long_word_is word name None e ∙ ap (λ n. 45 ∷ 45 ∷ n) is)) both.1
                (ahead.0 _ None (rw (d, e, rule) at left)).1,
          )
      by_flag rows pending name (Some text) e d none (flagged is rule) = absurd (some_kind _ _ (rw rule at none))
      by_flag rows pending name value e d none (neither alone) = absurd (long_help _ _ _ _ alone none)

      between : Between (word ∷ rest)
      between rows pending fine =
          let turn = first_turn s bare (past rows pending) word rest fine in
          elim (turn_of s bare [] idle rows pending word refl turn.0) [
            | dashes is ↦
                let last = trailing_end s bare idle (holding rows pending) rest (rw is at turn.1) in
                (last.1, ends (inr (ap₂ (λ w ws. w ∷ ws) is last.0)))
            | a_value d is stray ↦ absurd (stray refl)
            | a_flag name value e d none ↦ let by = by_flag rows pending name value e d none (found name) in (by.0, by.1 turn.1)
          ]

      text_first : TextFirst (word ∷ rest)
      text_first rows has fine =
          let turn = first_turn s bare (waits o rows) word rest fine in
          elim (turn_of s bare [] (option o.limit) rows (Some (o.limit, [])) word refl turn.0) [
            | dashes is ↦ absurd (unread rows has
                (trailing_end s bare (option o.limit) (holding rows (Some (o.limit, []))) rest (rw is at turn.1)).1)
            | a_flag name value e d none ↦
                absurd (unread rows has (by_flag rows (Some (o.limit, [])) name value e d none (found name)).0)
            | a_value d is stray ↦
                let next = ahead.0 rows (Some (o.limit, word ∷ [])) (rw (d, is, has, twice) at turn.1) in
                limits ((45 ∷ 45 ∷ o.limit) ∷ word ∷ []) rest word has refl (inl refl) (rw has at next.0) (rw has at next.1)
          ]

  ahead : (words : List Text) → Between words × TextFirst words
  ahead [] =
      (λ rows pending fine. (rw bare.once at fine.1, ends (inl refl)), λ rows has fine. absurd (unread rows has (rw bare.once at fine.1)))
  ahead (word ∷ rest) = next_word word rest (ahead rest)

  limit_used : (words : List Text) (text : Text) → IsLimitOption o.limit words text → or_else (value_kinds false limit_parser text) [] ≡ []
      → (limit : ℕ) × AreOfUse o.limit (45 ∷ 45 ∷ o.flag) (Limit limit) words
  limit_used words text is none =
      let number =
      accepts-Accepts false limit_parser text (true_from_ne_false (accepts false limit_parser text) (λ t. some_kind _ _ (rw t at none))) in
      (_, (text, is, (number.0, refl), number.2, number.3))

  uses_in : {words : List Text} → Path s o [] words → Uses s o words
  uses_in (ends end) = ([], end, λ default. (_, refl), λ no. (_, refl))
  uses_in (limits first rest text has is how fine (ends end)) =
      (Limit _ ∷ [], (first, rest, is, (limit_used first text how fine).1, end), λ default. (_, refl), λ no. absurd (no has))
  uses_in (flags rest is fine (ends end)) = (Flag ∷ [], (_ ∷ [], rest, is, refl, end), λ default. (_, refl), λ no. (_, refl))
  uses_in (limits first rest text has is how fine (flags more also once (ends end))) = (
    Limit _ ∷ Flag ∷ [],
    (first, rest, is, (limit_used first text how fine).1, (_ ∷ [], more, also, refl, end)),
    λ default. (_, refl),
    λ no. absurd (no has),
  )
  uses_in (flags rest is fine (limits first more text has also how once (ends end))) = (
    Flag ∷ Limit _ ∷ [],
    (_ ∷ [], rest, is, refl, (first, more, also, (limit_used first text how (none_of_both _ _ once).1).1, end)),
    λ default. (_, refl),
    λ no. absurd (no has),
  )
  uses_in (limits _ _ _ _ _ _ _ (limits _ _ _ _ _ _ again _)) = absurd (some_kind _ _ (rw twice at again))
  uses_in (flags _ _ _ (flags _ _ again _)) = absurd (some_kind _ _ (rw same at again))
  uses_in (limits _ _ _ _ _ _ _ (flags _ _ _ (limits _ _ _ _ _ _ again _))) = absurd (some_kind _ _ (simp (apart, twice) at again))
  uses_in (limits _ _ _ _ _ _ _ (flags _ _ _ (flags _ _ again _))) = absurd (some_kind _ _ (simp (apart, same) at again))
  uses_in (flags _ _ _ (limits _ _ _ _ _ _ _ (limits _ _ _ _ _ _ again _))) = absurd (some_kind _ _ (simp (too, twice) at again))
  uses_in (flags _ _ _ (limits _ _ _ _ _ _ _ (flags _ _ again _))) = absurd (some_kind _ _ (simp (too, same) at again))

  -- the level finds no fault only in such words
  pub uses_of : (words : List Text) → level_fault s [] nothing_held words false [] ≡ [] → Uses s o words
  uses_of words none = let parts = none_of_both _ _ none in uses_in ((ahead words).0 [] None (parts.0, (none_of_both _ _ parts.1).0)).1
