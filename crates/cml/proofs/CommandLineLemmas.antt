-- Which words the program understands, and what is read of them.
use Rattle.std.proofs.Common.{◌≡◌, ◌⊎◌, ◌∙◌, ◌&&◌, ap, subst, sym, refl, inl, inr, false, not, is_some, List, [], ◌∷◌, Some}
use Rattle.std.proofs.Common.{None, Result, Ok, Err, IfOk, IsErrAnd, MatchResult, codes, IfSome, ◌≤◌, ◌^◌, find, fold, bytes_eq}
use Rattle.std.proofs.Common.{◌++◌, arith, ℕ, Bool, true, slice_index_or, ne_eqb, ◌==◌}
use Rattle.clap.specs.Walk.{Names, Text, Walk, answers_to, has_long, has_short, nothing_held, rows_after, subcommand_met}
use Rattle.clap.specs.Walk.{idle, walk, walk_from, walked, one_of}
use Rattle.clap.specs.Words.{kind_of, subcommand_of}
use Rattle.clap.specs.Simple.{Shape, built, entered, label_of, names_of}
use Rattle.clap.specs.Kinds.{IsAmong, Kinds, or_else, value_kinds}
use Rattle.clap.specs.Faults.{built_fault, defaults_fault, level_fault, walk_fault}
use Rattle.clap.specs.declared.error.kind.ErrorKind.{ErrorKind}
use Rattle.clap.specs.declared.error.kind.ErrorKind.TheVariants as kind
use Rattle.clap.specs.declared.error.Error.{Error}
use Rattle.clap.proofs.FaultLemmas.{stopped_fault}
use Rattle.clap.proofs.OnLiterals.{clap_on_literals}
use Rattle.clap.proofs.WalkLemmas.{walk_stopped}
use Rattle.cml_grammar.specs.{error_status}
use Rattle.cml.specs.{AsksFor, AsksHelp, HasOrder, Reads, asked_of, faults_of, limit_of, usage, AreUses, FindsBoth, FindsFlag, Flag}
use Rattle.cml.specs.{form_if, IsLimitOption, Limit, ReadsAs, Use, given_by, state_by, Order}
use Rattle.cml.specs.declared.asked.Order.TheVariants.{Replay, Run, Explore, Check, Compact}
use Rattle.cml.proofs.CommandWordsLemmas.{bare_words, Found, IsBare, IsOrOther, Options, Uses, a_flag, a_value, dashes, flagged, help}
use Rattle.cml.proofs.CommandWordsLemmas.{help_alone}
use Rattle.cml.proofs.CommandWordsLemmas.{holding, limit_parser, limited, long_help, neither, none_of_both, same_or_other}
use Rattle.cml.proofs.CommandWordsLemmas.{some_kind, turn_of, uses_of}
use Rattle.clap.specs.Lexer.{long_of, short_of}
use Rattle.cml_report.specs.{Form}
use Rattle.cml_report.specs.declared.form.Form.TheVariants.{Report, Journal}
use Rattle.clap.proofs.KindLemmas.{value_kinds-ok}

-- the program's own level of words
abbrev top : Shape
top = (built usage).top

abbrev names : Names
names = names_of (built usage)

-- what the program's level and its subcommand's make of the words
abbrev fault_at : List Text → Kinds
fault_at asked = built_fault (built usage) nothing_held asked

-- ---- the four levels

-- the level of words below the subcommand of this name, which performs a script
abbrev below : Text → Shape
below name = record (slice_index_or (built usage).subs 0 (built usage).top) { name = name }

abbrev performing_options : Options
performing_options = record { limit = codes "limit"; default = codes "65536"; flag = codes "journal" }

-- the level of words below `explore`
abbrev below_explore : Shape
below_explore = slice_index_or (built usage).subs 2 (built usage).top

abbrev exploring_options : Options
exploring_options = record { limit = codes "states"; default = codes "500000"; flag = codes "journal" }

-- the level of words below `check`
abbrev below_check : Shape
below_check = slice_index_or (built usage).subs 3 (built usage).top

abbrev checking_options : Options
checking_options = record { limit = []; default = []; flag = codes "state" }

-- the level of words below `compact`
abbrev below_compact : Shape
below_compact = slice_index_or (built usage).subs 4 (built usage).top

uses_below : (name : Text) (words : List Text) → level_fault (below name) [] nothing_held words false [] ≡ []
    → Uses (below name) performing_options words
uses_below name =
    uses_of (below name) performing_options
    (record { once = refl; short = λ x. help_alone (λ a. not (is_some a.index) && has_short a x); others = refl })
    (λ word. found word (same_or_other _ word) (same_or_other _ word)) refl refl refl refl
  where
    found : (word : Text) → IsOrOther (codes "limit") word → IsOrOther (codes "journal") word → Found (below name) performing_options word
    found word (inl is) own = limited (sym is) (rw (← is) refl) refl
    found word (inr l) (inl is) = flagged (rw (← is) refl) (rw (← is) refl)
    found word (inr l) (inr j) = neither (rw (l, j) (help_alone (λ a. not (is_some a.index) && has_long a word)))

uses_explore : (words : List Text) → level_fault below_explore [] nothing_held words false [] ≡ []
    → Uses below_explore exploring_options words
uses_explore =
    uses_of below_explore exploring_options
    (record { once = refl; short = λ x. help_alone (λ a. not (is_some a.index) && has_short a x); others = refl })
    (λ word. found word (same_or_other _ word) (same_or_other _ word)) refl refl refl refl
  where
    found : (word : Text) → IsOrOther (codes "states") word → IsOrOther (codes "journal") word → Found below_explore exploring_options word
    found word (inl is) own = limited (sym is) (rw (← is) refl) refl
    found word (inr l) (inl is) = flagged (rw (← is) refl) (rw (← is) refl)
    found word (inr l) (inr j) = neither (rw (l, j) (help_alone (λ a. not (is_some a.index) && has_long a word)))

uses_check : (words : List Text) → level_fault below_check [] nothing_held words false [] ≡ [] → Uses below_check checking_options words
uses_check =
    uses_of below_check checking_options
    (record { once = refl; short = λ x. help_alone (λ a. not (is_some a.index) && has_short a x); others = refl })
    (λ word. found word (same_or_other _ word)) refl refl refl refl
  where
    found : (word : Text) → IsOrOther (codes "state") word → Found below_check checking_options word
    found word (inl is) = flagged (rw (← is) refl) (rw (← is) refl)
    found word (inr other) = neither (rw other (help_alone (λ a. not (is_some a.index) && has_long a word)))

uses_compact : (words : List Text) → level_fault below_compact [] nothing_held words false [] ≡ [] → AreUses [] [] [] words
uses_compact =
    bare_words below_compact
    (record { once = refl; short = λ x. help_alone (λ a. not (is_some a.index) && has_short a x); others = refl })
    (λ word. help_alone (λ a. not (is_some a.index) && has_long a word))

-- ---- the words after a subcommand's name are left to its level

module _ (name : Text) (level : Shape) (met : subcommand_met names idle name ≡ Some name) (other : bytes_eq name (codes "help") ≡ false)
    (found : find (λ sub. answers_to name (label_of sub)) (built usage).subs ≡ Some level) where
  stops : (rest : List Text)
      → (record (walk_from nothing_held) { stopped = Some (name, rest) } ≡ walk top.rules names nothing_held (name ∷ rest))
      × (walk_fault top names (walk_from nothing_held) (name ∷ rest) ≡ [])
  unfolding walk_fault walked
  stops rest = (
    walk_stopped top.rules names (walk_from nothing_held) name [] rest ∙ ap (λ w. fold (walked top.rules names) w rest) (rw met refl),
    rw (met, other) (stopped_fault top names (walk_from nothing_held) (name, []) rest),
  )

  -- the words are at fault as the subcommand's level says
  fault_below : (rest : List Text) → fault_at (name ∷ rest) ≡ or_else (level_fault level [] nothing_held rest false []) []
  unfolding defaults_fault
  fault_below rest = rw (← (stops rest).0, (stops rest).1, found) refl

  -- so words without fault leave none to the level
  left : (words : List Text) (word : Text) (rest : List Text) → faults_of words ≡ [] → asked_of words ≡ word ∷ rest → name ≡ word
      → (asked_of words ≡ name ∷ rest) × (level_fault level [] nothing_held rest false [] ≡ [])
  left words word rest fine are is =
      let named = are ∙ ap (λ w. w ∷ rest) (sym is) in
      (named, (none_of_both _ _ (sym (fault_below rest) ∙ ap fault_at (sym named) ∙ fine)).0)

  -- and what is found is found there
  has_order : (words rest : List Text) (order : Order) → asked_of words ≡ name ∷ rest → level_fault level [] nothing_held rest false [] ≡ []
      → HasOrder (Some (level.name, rows_after level.rules [] rest)) order
      → (faults_of words ≡ []) × HasOrder (subcommand_of usage words) order
  has_order words rest order are none has =
      let order_at : Walk → Type 0 = λ w. HasOrder (entered (built usage) w.stopped) order in
      (ap fault_at are ∙ fault_below rest ∙ ap (λ kinds. or_else kinds []) none, rw are (subst order_at (stops rest).0 (rw found has)))

-- ---- words without fault ask for an order

-- no words at all, `help`, and `--` with what follows it are refused
odd_words : (words rest : List Text) → words ≡ [] ⊎ (words ≡ codes "help" ∷ rest ⊎ words ≡ codes "--" ∷ rest) → fault_at words ≡ [] → ⊥
unfolding clap_on_literals
odd_words words rest (inl is) = rw is (some_kind _ _)
odd_words words rest (inr (inl is)) = rw is (some_kind _ _)
odd_words words [] (inr (inr is)) = rw is (some_kind _ _)
odd_words words (word ∷ more) (inr (inr is)) = rw is (some_kind _ _)

other_first : (word : Text) (rest : List Text) → subcommand_met names idle word ≡ None → fault_at (word ∷ rest) ≡ [] → ⊥
unfolding walk_fault
other_first word rest met none =
    let bare : IsBare top = record { once = refl; short = λ x. help_alone (λ a. not (is_some a.index) && has_short a x); others = refl } in
    let first = (none_of_both _ _ (none_of_both _ _ none).0).0 in
    elim (turn_of top bare names idle [] None word met first) [
      | dashes is ↦ odd_words (word ∷ rest) rest (inr (inr (ap (λ w. w ∷ rest) is))) none
      | a_flag name value e d fine ↦
          long_help top.rules _ value (holding [] None) (help_alone (λ a. not (is_some a.index) && has_long a name)) fine
      | a_value d is stray ↦ stray refl
    ]

pub understood : (words : List Text) → faults_of words ≡ [] → (order : Order) × AsksFor words order
understood words fine = by_words (asked_of words) refl
  where
    by_first : (word : Text) (rest : List Text) → asked_of words ≡ word ∷ rest → IsOrOther (codes "replay") word
        → IsOrOther (codes "run") word → IsOrOther (codes "explore") word → IsOrOther (codes "check") word
        → IsOrOther (codes "compact") word → IsOrOther (codes "help") word → (order : Order) × AsksFor words order
    by_first word rest are (inl is) run_or explore_or check_or compact_or help_or =
        let here = left (codes "replay") (below (codes "replay")) refl refl refl words word rest fine are is in
        let by = uses_below (codes "replay") rest here.1 in
        let given = by.2 65536 in
        (Replay given.0.0 given.0.1, record { uses = by.0; rest = rest; gives = given.1; reads = by.1; are = here.0 })
    by_first word rest are (inr r) (inl is) explore_or check_or compact_or help_or =
        let here = left (codes "run") (below (codes "run")) refl refl refl words word rest fine are is in
        let by = uses_below (codes "run") rest here.1 in
        let given = by.2 65536 in
        (Run given.0.0 given.0.1, record { uses = by.0; rest = rest; gives = given.1; reads = by.1; are = here.0 })
    by_first word rest are (inr r) (inr u) (inl is) check_or compact_or help_or =
        let here = left (codes "explore") below_explore refl refl refl words word rest fine are is in
        let by = uses_explore rest here.1 in
        let given = by.2 500000 in
        (Explore given.0.0 given.0.1, record { uses = by.0; rest = rest; gives = given.1; reads = by.1; are = here.0 })
    by_first word rest are (inr r) (inr u) (inr x) (inl is) compact_or help_or =
        let here = left (codes "check") below_check refl refl refl words word rest fine are is in
        let by = uses_check rest here.1 in
        let state = by.3 (λ has. cc) in
        (Check state.0, record { uses = by.0; rest = rest; gives = state.1; reads = by.1; are = here.0 })
    by_first word rest are (inr r) (inr u) (inr x) (inr k) (inl is) help_or =
        let here = left (codes "compact") below_compact refl refl refl words word rest fine are is in
        (Compact, (rest, here.0, uses_compact rest here.1))
    by_first word rest are (inr r) (inr u) (inr x) (inr k) (inr c) (inl is) =
        absurd (odd_words (asked_of words) rest (inr (inl (are ∙ ap (λ w. w ∷ rest) (sym is)))) fine)
    by_first word rest are (inr r) (inr u) (inr x) (inr k) (inr c) (inr h) =
        absurd (other_first word rest (rw (r, u, x, k, c, h) refl) (ap fault_at (sym are) ∙ fine))

    by_words : (asked : List Text) → asked_of words ≡ asked → (order : Order) × AsksFor words order
    by_words [] are = absurd (odd_words (asked_of words) [] (inl are) fine)
    by_words (word ∷ rest) are =
        by_first word rest are (same_or_other _ word) (same_or_other _ word) (same_or_other _ word) (same_or_other _ word)
        (same_or_other _ word) (same_or_other _ word)

-- ---- the levels take the words of an order

-- a text that may be a limit is no flag, and passes
abbrev pub Fits : Text → Type 0
Fits text = (bytes_eq text (codes "--") ≡ false) × (long_of text ≡ None) × (short_of text ≡ None)
    × (value_kinds false limit_parser text ≡ [])

pub number_fits : (text : Text) (limit : ℕ) → ReadsAs text limit → 1 ≤ limit → limit ≤ 2 ^ 32 → Fits text
number_fits [] limit reads least most = let bad = reads.0.0 in absurd (omega arith)
number_fits (x ∷ xs) limit reads least most =
    let is = reads.1 in
    let h : (x == 45) ≡ false = ne_eqb x 45 (λ e. let bad = subst (λ y. ReadsAs (y ∷ xs) limit) e reads in omega (arith, bad.0.1.0)) in
    (rw h refl, rw h refl, rw h refl, value_kinds-ok false limit_parser (x ∷ xs) (reads.0, omega arith, omega arith, omega arith))

-- the words of a limit's option, or none where the text is the default
abbrev IsGiven : Options → List Text → Text → Type 0
IsGiven o words text = ((words ≡ []) × (text ≡ o.default)) ⊎ IsLimitOption o.limit words text

module _ (level : Shape) (o : Options) where
  -- the level finds no fault in the words, and this limit's text and flag
  abbrev Takes : List Text → Text → Bool → Type 0
  Takes words text set = (level_fault level [] nothing_held words false [] ≡ [])
      × (one_of o.limit (rows_after level.rules [] words) ≡ Some text)
      × FindsFlag (λ id. one_of id (rows_after level.rules [] words)) (codes "journal") set

  -- so it does of a limit's words, alone, and before and after the flag
  abbrev TakesEach : List Text → List Text → Text → Type 0
  TakesEach given end text = Takes (given ++ end) text false × Takes (given ++ codes "--journal" ∷ end) text true
      × Takes (codes "--journal" ∷ (given ++ end)) text true

takes_below : (name : Text) (text : Text) (given end : List Text) → Fits text → IsGiven performing_options given text
    → AreUses (codes "limit") (codes "--journal") [] end → TakesEach (below name) performing_options given end text
unfolding clap_on_literals
takes_below name text given end fits (inl none) (inl e) = rw (none.0, none.1, e) ((refl, refl, refl), (refl, refl, refl), (refl, refl, refl))
takes_below name text given end fits (inl none) (inr e) = rw (none.0, none.1, e) ((refl, refl, refl), (refl, refl, refl), (refl, refl, refl))
takes_below name text given end (d, l, s, p) (inr (inl two)) (inl e) =
    rw (two, e) (
      (rw (d, l, s, p) refl, rw (d, l, s) refl, rw (d, l, s) refl),
      (rw (d, l, s, p) refl, rw (d, l, s) refl, rw (d, l, s) refl),
      (rw (d, l, s, p) refl, rw (d, l, s) refl, rw (d, l, s) refl),
    )
takes_below name text given end (d, l, s, p) (inr (inl two)) (inr e) =
    rw (two, e) (
      (rw (d, l, s, p) refl, rw (d, l, s) refl, rw (d, l, s) refl),
      (rw (d, l, s, p) refl, rw (d, l, s) refl, rw (d, l, s) refl),
      (rw (d, l, s, p) refl, rw (d, l, s) refl, rw (d, l, s) refl),
    )
takes_below name text given end (d, l, s, p) (inr (inr one)) (inl e) =
    rw (one, e) ((rw p refl, refl, refl), (rw p refl, refl, refl), (rw p refl, refl, refl))
takes_below name text given end (d, l, s, p) (inr (inr one)) (inr e) =
    rw (one, e) ((rw p refl, refl, refl), (rw p refl, refl, refl), (rw p refl, refl, refl))

takes_explore : (text : Text) (given end : List Text) → Fits text → IsGiven exploring_options given text
    → AreUses (codes "states") (codes "--journal") [] end → TakesEach below_explore exploring_options given end text
unfolding clap_on_literals
takes_explore text given end fits (inl none) (inl e) = rw (none.0, none.1, e) ((refl, refl, refl), (refl, refl, refl), (refl, refl, refl))
takes_explore text given end fits (inl none) (inr e) = rw (none.0, none.1, e) ((refl, refl, refl), (refl, refl, refl), (refl, refl, refl))
takes_explore text given end (d, l, s, p) (inr (inl two)) (inl e) =
    rw (two, e) (
      (rw (d, l, s, p) refl, rw (d, l, s) refl, rw (d, l, s) refl),
      (rw (d, l, s, p) refl, rw (d, l, s) refl, rw (d, l, s) refl),
      (rw (d, l, s, p) refl, rw (d, l, s) refl, rw (d, l, s) refl),
    )
takes_explore text given end (d, l, s, p) (inr (inl two)) (inr e) =
    rw (two, e) (
      (rw (d, l, s, p) refl, rw (d, l, s) refl, rw (d, l, s) refl),
      (rw (d, l, s, p) refl, rw (d, l, s) refl, rw (d, l, s) refl),
      (rw (d, l, s, p) refl, rw (d, l, s) refl, rw (d, l, s) refl),
    )
takes_explore text given end (d, l, s, p) (inr (inr one)) (inl e) =
    rw (one, e) ((rw p refl, refl, refl), (rw p refl, refl, refl), (rw p refl, refl, refl))
takes_explore text given end (d, l, s, p) (inr (inr one)) (inr e) =
    rw (one, e) ((rw p refl, refl, refl), (rw p refl, refl, refl), (rw p refl, refl, refl))

module _ (level : Shape) (o : Options) where
  -- the level takes these words as this limit and this form
  abbrev IsTakenAs : List Text → ℕ × Form → Type 0
  IsTakenAs words both = (level_fault level [] nothing_held words false [] ≡ [])
      × FindsBoth (λ id. one_of id (rows_after level.rules [] words)) o.limit both

  -- the words of a limit's option, or none, give this number
  abbrev IsLimit : List Text → ℕ → Type 0
  IsLimit given limit = (text : Text) × IsGiven o given text × ReadsAs text limit × (1 ≤ limit) × (limit ≤ 2 ^ 32)

module _ (level : Shape) (o : Options)
    (each : (text : Text) (given end : List Text) → Fits text → IsGiven o given text → AreUses o.limit (codes "--journal") [] end
    → TakesEach level o given end text)
    (default : ℕ) (usual : IsLimit level o [] default) where
  taken_with : (given end : List Text) (limit : ℕ) → IsLimit level o given limit → AreUses o.limit (codes "--journal") [] end
      → IsTakenAs level o (given ++ end) (limit, Report) × IsTakenAs level o (given ++ codes "--journal" ∷ end) (limit, Journal)
      × IsTakenAs level o (codes "--journal" ∷ (given ++ end)) (limit, Journal)
  taken_with given end limit (text, how, reads, least, most) stop =
      let by = each text given end (number_fits text limit reads least most) how stop in
      let found : (words : List Text) (set : Bool) → Takes level o words text set → IsTakenAs level o words (limit, form_if set) =
      λ words set by. (by.0, ((text, reads, least, most, by.1), set, by.2, refl)) in
      (found _ false by.0, found _ true by.1, found _ true by.2)

  taken_by : (uses : List Use) (words : List Text) → AreUses o.limit (codes "--journal") uses words
      → IfSome (given_by default uses) (IsTakenAs level o words)
  taken_by [] words end = (taken_with [] words default usual end).0
  taken_by (Flag ∷ []) words (first, rest, is, flag, end) = rw (is, flag) (taken_with [] rest default usual end).1
  taken_by (Limit n ∷ []) words (first, rest, is, one, end) =
      rw is (taken_with first rest n (one.0, inr one.1, one.2, one.3, one.4) end).0
  taken_by (Limit n ∷ Flag ∷ []) words (first, rest, is, one, (second, last, also, flag, end)) =
      rw (is, also, flag) (taken_with first last n (one.0, inr one.1, one.2, one.3, one.4) end).1
  taken_by (Flag ∷ Limit n ∷ []) words (first, rest, is, flag, (second, last, also, one, end)) =
      rw (is, flag, also) (taken_with second last n (one.0, inr one.1, one.2, one.3, one.4) end).2
  taken_by _ words reads = tt

taken_below : (name : Text) (uses : List Use) (words : List Text) → AreUses (codes "limit") (codes "--journal") uses words
    → IfSome (given_by 65536 uses) (IsTakenAs (below name) performing_options words)
taken_below name = taken_by (below name) performing_options (takes_below name) 65536 (
  codes "65536",
  inl (refl, refl),
  ((omega arith, (omega arith, (omega arith, (omega arith, (omega arith, (omega arith, tt)))))), refl),
  omega arith,
  omega arith,
)

taken_explore : (uses : List Use) (words : List Text) → AreUses (codes "states") (codes "--journal") uses words
    → IfSome (given_by 500000 uses) (IsTakenAs below_explore exploring_options words)
taken_explore = taken_by below_explore exploring_options takes_explore 500000 (
  codes "500000",
  inl (refl, refl),
  ((omega arith, (omega arith, (omega arith, (omega arith, (omega arith, (omega arith, (omega arith, tt))))))), refl),
  omega arith,
  omega arith,
)

-- the level takes the option, and finds it
taken_check : (uses : List Use) (words : List Text) → AreUses [] (codes "--state") uses words
    → IfSome (state_by uses) (λ state. (level_fault below_check [] nothing_held words false [] ≡ [])
    × FindsFlag (λ id. one_of id (rows_after below_check.rules [] words)) (codes "state") state)
unfolding clap_on_literals
taken_check [] words (inl e) = rw e (refl, refl)
taken_check [] words (inr e) = rw e (refl, refl)
taken_check (Flag ∷ []) words (first, rest, is, flag, inl e) = rw (is, flag, e) (refl, refl)
taken_check (Flag ∷ []) words (first, rest, is, flag, inr e) = rw (is, flag, e) (refl, refl)
taken_check _ words reads = tt

-- the level takes no words but the `--` that ends them
taken_compact : (words : List Text) → AreUses [] [] [] words → level_fault below_compact [] nothing_held words false [] ≡ []
unfolding clap_on_literals
taken_compact words (inl e) = rw e refl
taken_compact words (inr e) = rw e refl

-- ---- words that ask for an order are without fault, and a parse finds the order

abbrev pub IsTaken : List Text → Order → Type 0
IsTaken words order = ((faults_of words ≡ []) × HasOrder (subcommand_of usage words) order)
    × IfSome (limit_of order) (λ limit. (1 ≤ limit) × (limit ≤ 2 ^ 32))

pub taken : (words : List Text) (order : Order) → AsksFor words order → IsTaken words order
taken words (Replay limit form) asks =
    let by = rw asks.gives at (taken_below (codes "replay") asks.uses asks.rest asks.reads) in
    let has =
    has_order (codes "replay") (below (codes "replay")) refl refl refl words asks.rest (Replay limit form) asks.are by.0 (refl, by.1) in
    (has, (by.1.0.2, by.1.0.3))
taken words (Run limit form) asks =
    let by = rw asks.gives at (taken_below (codes "run") asks.uses asks.rest asks.reads) in
    let has = has_order (codes "run") (below (codes "run")) refl refl refl words asks.rest (Run limit form) asks.are by.0 (refl, by.1) in
    (has, (by.1.0.2, by.1.0.3))
taken words (Explore states form) asks =
    let by = rw asks.gives at (taken_explore asks.uses asks.rest asks.reads) in
    let has = has_order (codes "explore") below_explore refl refl refl words asks.rest (Explore states form) asks.are by.0 (refl, by.1) in
    (has, (by.1.0.2, by.1.0.3))
taken words (Check state) asks =
    let by = rw asks.gives at (taken_check asks.uses asks.rest asks.reads) in
    (has_order (codes "check") below_check refl refl refl words asks.rest (Check state) asks.are by.0 (refl, by.1), tt)
taken words Compact (rest, are, uses) =
    (has_order (codes "compact") below_compact refl refl refl words rest Compact are (taken_compact rest uses) refl, tt)

-- ---- what is read of the words, by what a parse found

pub told : (words : List Text) (read : Result Order Error) → Reads words read → IfOk read (λ order. AsksFor words order)
told words (Err error) reads = tt
told words (Ok order) reads =
    let asks = understood words reads.0 in
    subst (AsksFor words) (sym (reads.1 asks.0 (taken words asks.0 asks.1).0.1)) asks.1

pub told_asked : (words : List Text) (read : Result Order Error) → Reads words read → (asked : Order) → AsksFor words asked
    → MatchResult read (λ order. order ≡ asked) (λ error. kind_of error ≡ kind.OutOfMemory)
told_asked words (Ok order) reads asked asks = reads.1 asked (taken words asked asks).0.1
told_asked words (Err error) (inl memory, done) asked asks = memory
told_asked words (Err error) (inr among, done) asked asks = absurd (subst (IsAmong (kind_of error)) (taken words asked asks).0.0 among)

pub told_range : (words : List Text) (read : Result Order Error) → Reads words read
    → IfOk read (λ order. IfSome (limit_of order) (λ limit. (1 ≤ limit) × (limit ≤ 2 ^ 32)))
told_range words (Err error) reads = tt
told_range words (Ok order) reads = (taken words order (told words (Ok order) reads)).1

-- ---- help

help_is_shown : (words : List Text) → AsksHelp words → faults_of words ≡ kind.DisplayHelp ∷ []
unfolding clap_on_literals
help_is_shown words (help, is, inl h) = elim is [ inl e ↦ rw (h, e) refl | inr e ↦ rw (h, e) refl ]
help_is_shown words (help, is, inr (inl h)) = elim is [ inl e ↦ rw (h, e) refl | inr e ↦ rw (h, e) refl ]
help_is_shown words (help, is, inr (inr (inl h))) = elim is [ inl e ↦ rw (h, e) refl | inr e ↦ rw (h, e) refl ]
help_is_shown words (help, is, inr (inr (inr (inl h)))) = elim is [ inl e ↦ rw (h, e) refl | inr e ↦ rw (h, e) refl ]
help_is_shown words (help, is, inr (inr (inr (inr (inl h))))) = elim is [ inl e ↦ rw (h, e) refl | inr e ↦ rw (h, e) refl ]
help_is_shown words (help, is, inr (inr (inr (inr (inr h))))) = elim is [ inl e ↦ rw (h, e) refl | inr e ↦ rw (h, e) refl ]

pub told_help : (words : List Text) (read : Result Order Error) → Reads words read → AsksHelp words
    → IsErrAnd read (λ error. (kind_of error ≡ kind.DisplayHelp) ⊎ (kind_of error ≡ kind.OutOfMemory))
told_help words (Ok order) reads asks = some_kind _ _ (sym (help_is_shown words asks) ∙ reads.0)
told_help words (Err error) (inl memory, done) asks = inr memory
told_help words (Err error) (inr among, done) asks =
    elim (subst (IsAmong (kind_of error)) (help_is_shown words asks) among) [ inl h ↦ inl h | inr h ↦ absurd h ]

-- each error is a usage fault, asks for help, or is want of memory
usage_or_help : (k : ErrorKind) → (error_status k ≡ 3) ⊎ ((k ≡ kind.DisplayHelp) ⊎ (k ≡ kind.OutOfMemory))
usage_or_help kind.DisplayHelp = inr (inl refl)
usage_or_help kind.OutOfMemory = inr (inr refl)
usage_or_help _ = inl refl

pub told_others : (words : List Text) (read : Result Order Error) → Reads words read → ((order : Order) → AsksFor words order → ⊥)
    → IsErrAnd read (λ error. (error_status (kind_of error) ≡ 3)
    ⊎ ((kind_of error ≡ kind.DisplayHelp) ⊎ (kind_of error ≡ kind.OutOfMemory)))
told_others words (Ok order) reads none = none order (told words (Ok order) reads)
told_others words (Err error) reads none = usage_or_help (kind_of error)
