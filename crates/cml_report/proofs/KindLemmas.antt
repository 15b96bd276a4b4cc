-- The declared objects are the first that are made, each of its kind.
use Rattle.std.proofs.Common.{◌≡◌, ℕ, ◌+◌, ◌<◌, ◌≤◌, ◌⊎◌, Bool, true, false, cond, ltb, List, [], ◌∷◌, ◌++◌, length, take, filter}
use Rattle.std.proofs.Common.{slice_get, Option, Some, None, MatchBool, refl, sym, ap, subst, ◌∙◌, arith, inl, inr}
use Rattle.std.specs.Option.{option_map, option_map_or, option_and_then}
use Rattle.std.proofs.lemmas.Option.{same_Some, none-some, slice_get_within}
use Rattle.std.proofs.lemmas.List.{length_push, length-append}
use Rattle.std.proofs.lemmas.Bool.{lt-ltb, cases_lt}
use Rattle.cml_board.specs.{Call, Entry, Origin, mailbox, channel, port, ivar, mvar, kind_by, Lawful, made, begun_by, if_made, new_name}
use Rattle.cml_board.specs.{kind_of, answer, sent}
use Rattle.cml_board.specs.declared.call.Call.TheVariants as call
use Rattle.cml_calls.specs.{Kind}
use Rattle.cml_calls.specs.declared.kind.Kind.TheVariants as kind
use Rattle.cml_board.proofs.ReceivedLemmas.{slice_get-append_within}
use Rattle.cml_grammar.specs.{Makes, SourceLine, Lines, names_of, makes_of, IsMadeWell}
use Rattle.cml_grammar.specs.declared.forms.Makes.TheVariants as makes
use Rattle.cml_report.specs.{kind_made, kind_declared, one_if, how_many, IsOfScript, IsOfCaller, History, IsDeclaration, declared_count}
use Rattle.cml_report.specs.{objects_of, call_in, making_call, makes_object, is_object, declared_object, IsMadeOfDeclared}
use Rattle.cml_report.proofs.ListLemmas.{slice_get_pushed, filter_at, counted_mono, taken_all}

-- what is made after a list of objects, by a call that makes one
pub record MakesOne (before : History) (entry : Entry (List ℕ)) (k : Option Kind) : Type 0 where
  pub origin : Origin
  pub made : if_made entry.reply (begun_by (made before) before entry.call) ≡ origin ∷ []
  pub kind : Some (kind_by origin) ≡ k

makes_begun : (before : History) (entry : Entry (List ℕ)) (c : Call (List ℕ)) (origin : Origin) → Some c ≡ Some entry.call
    → begun_by (made before) before c ≡ origin ∷ [] → answer before c ≡ Some (new_name before) → answer before entry.call ≡ Some entry.reply
    → MakesOne before entry (Some (kind_by origin))
makes_begun before entry c origin is begun new answers =
    let same = same_Some _ _ is in
    let reply : new_name before ≡ entry.reply = same_Some _ _ (sym new ∙ ap (answer before) same ∙ answers) in
    record {
      origin = origin;
      made = ap (λ r. if_made r (begun_by (made before) before entry.call)) (sym reply)
          ∙ ap (begun_by (made before) before) (sym same) ∙ begun;
      kind = refl;
    }

makes_port : (before : History) (entry : Entry (List ℕ)) (source : Option ℕ) → option_map (λ n. call.NewPort (record { 0 = n })) source
    ≡ Some entry.call → answer before entry.call ≡ Some entry.reply → MakesOne before entry (Some kind.Port)
makes_port before entry None none answers = absurd (none-some entry.call none)
makes_port before entry (Some n) some answers =
    makes_begun before entry (call.NewPort (record { 0 = n })) (port n (length (sent before n))) some refl refl answers

-- a declared object is of its kind
makes_one : (before : History) (entry : Entry (List ℕ)) (object : ℕ → Option ℕ) (m : Makes) → making_call object m ≡ Some entry.call
    → answer before entry.call ≡ Some entry.reply → MakesOne before entry (kind_made m)
makes_one before entry object makes.Thread e answers = absurd (none-some entry.call e)
makes_one before entry object makes.Mailbox e answers = makes_begun before entry call.NewMailbox mailbox e refl refl answers
makes_one before entry object makes.Channel e answers = makes_begun before entry call.NewChannel channel e refl refl answers
makes_one before entry object makes.IVar e answers = makes_begun before entry call.NewIVar ivar e refl refl answers
makes_one before entry object makes.MVar e answers = makes_begun before entry call.NewMVar mvar e refl refl answers
makes_one before entry object (makes.MVarInit message) e answers = makes_begun before entry (call.MVarInit message) mvar e refl refl answers
makes_one before entry object (makes.Port source) e answers = makes_port before entry (object source) e answers
makes_one before entry object (makes.Feed feed) e answers = makes_port before entry (object feed.channel) e answers

declared_one : (script : Lines) (before : History) (entry : Entry (List ℕ)) (line : Option SourceLine)
    → option_and_then (call_in script before) line ≡ Some entry.call → answer before entry.call ≡ Some entry.reply
    → MakesOne before entry (option_and_then (kind_declared script) line)
declared_one script before entry None e answers = absurd (none-some entry.call e)
declared_one script before entry (Some line) e answers = by_makes (makes_of (names_of script) line.words) e
  where
    by_makes : (m : Option Makes) → option_and_then (making_call (declared_object script before)) m ≡ Some entry.call
        → MakesOne before entry (option_and_then kind_made m)
    by_makes None none = absurd (none-some entry.call none)
    by_makes (Some m) some = makes_one before entry (declared_object script before) m some answers

-- the kind of the k-th declared object
abbrev pub kind_at : Lines → ℕ → Option Kind
kind_at script k = option_and_then (kind_declared script) (slice_get (objects_of script) k)

pub record MakesDeclared (script : Lines) (history : History) : Type 0 where
  pub short : length history ≤ declared_count script → length (made history) ≡ length history
  pub each : (k : ℕ) → k < length history → k < declared_count script → kind_of history k ≡ kind_at script k

-- an object that was made stays of its kind
kind_kept : (before : History) (entry : Entry (List ℕ)) (k : ℕ) → k < length (made before) → kind_of (entry ∷ before) k ≡ kind_of before k
kind_kept before entry k lt =
    ap (option_map kind_by) (slice_get-append_within (made before) (if_made entry.reply (begun_by (made before) before entry.call)) k lt)

declared_next : (script : Lines) (before : History) (entry : Entry (List ℕ)) → length before < declared_count script
    → IsDeclaration script before entry → answer before entry.call ≡ Some entry.reply → MakesDeclared script before
    → MakesDeclared script (entry ∷ before)
declared_next script before entry within declares answers m =
    let one = declared_one script before entry (slice_get (objects_of script) (length before)) declares.makes answers in
    let all : length (made before) ≡ length before = m.short (omega arith) in
    let last : slice_get (made (entry ∷ before)) (length before) ≡ Some one.origin =
    ap (λ os. slice_get (made before ++ os) (length before)) one.made
    ∙ slice_get_pushed (made before) one.origin (length before) (omega (arith, all)) in
    record {
      short = λ _. ap (λ os. length (made before ++ os)) one.made ∙ length_push (made before) one.origin ∙ omega (arith, all);
      each = λ k lt low. elim (cases_lt k (length before)) [
        | inl older ↦ kind_kept before entry k (omega (arith, all)) ∙ m.each k older low
        | inr ge ↦
            let here : length before ≡ k = omega (arith, ge, lt) in
            ap (kind_of (entry ∷ before)) (sym here) ∙ ap (option_map kind_by) last ∙ one.kind ∙ ap (kind_at script) here
      ];
    }

kept_next : (script : Lines) (before : History) (entry : Entry (List ℕ)) → declared_count script ≤ length before
    → declared_count script ≤ length (made before) → MakesDeclared script before → MakesDeclared script (entry ∷ before)
kept_next script before entry declared many m = record {
  short = λ le. absurd (omega (arith, le));
  each = λ k lt low. kind_kept before entry k (omega arith) ∙ m.each k (omega arith) low;
}

-- as many are made as are declared, at least
many_made : (script : Lines) (history : History) → IsOfScript script history → Lawful history
    → length history ≤ length (made history) ⊎ declared_count script ≤ length (made history)
many_made script [] own lawful = inl (omega arith)
many_made script (entry ∷ before) own lawful = elim (many_made script before own.1 lawful.2) [
  | inr many ↦ inr (omega (arith, many, length-append (made before) (if_made entry.reply (begun_by (made before) before entry.call))))
  | inl few ↦ elim (cases_lt (length before) (declared_count script)) [
    | inr ge ↦ inr (omega (arith, few, ge, length-append (made before) (if_made entry.reply (begun_by (made before) before entry.call))))
    | inl lt ↦
        let test : ltb (length before) (declared_count script) ≡ true = lt-ltb (length before) (declared_count script) lt in
        let declares = subst (λ t. MatchBool t (IsDeclaration script before entry) (IsOfCaller script before entry entry.who)) test own.0 in
        let one = declared_one script before entry (slice_get (objects_of script) (length before)) declares.makes lawful.1 in
        inl (omega (
          arith,
          few,
          length-append (made before) (if_made entry.reply (begun_by (made before) before entry.call)),
          ap length one.made,
        ))
  ]
]

pub makes_declared : (script : Lines) (history : History) → IsOfScript script history → Lawful history → MakesDeclared script history
makes_declared script [] own lawful = record { short = λ _. refl; each = λ k lt. absurd (omega (arith, lt)) }
makes_declared script (entry ∷ before) own lawful =
    let earlier = makes_declared script before own.1 lawful.2 in
    elim (cases_lt (length before) (declared_count script)) [
      | inl lt ↦
          let test : ltb (length before) (declared_count script) ≡ true = lt-ltb (length before) (declared_count script) lt in
          declared_next script before entry lt
          (subst (λ t. MatchBool t (IsDeclaration script before entry) (IsOfCaller script before entry entry.who)) test own.0) lawful.1
          earlier
      | inr ge ↦ kept_next script before entry ge
          (elim (many_made script before own.1 lawful.2) [ inl few ↦ omega (arith, few) | inr many ↦ many ]) earlier
    ]

-- fewer objects are declared before an object's declaration than in all
pub counted_below : (p : SourceLine → Bool) (xs : List SourceLine) (i : ℕ) (x : SourceLine) → slice_get xs i ≡ Some x → p x ≡ true
    → how_many p (take i xs) < how_many p xs
counted_below p xs i x found passes =
    let before = counted_mono p xs i (length xs) x (slice_get_within xs i x found) found passes in
    omega (arith, before, taken_all p xs (length xs))

pub length_filter : (p : SourceLine → Bool) (xs : List SourceLine) → length (filter p xs) ≡ how_many p xs
length_filter p [] = refl
length_filter p (x ∷ xs) =
    let ih = length_filter p xs in
    elim (p x) as (λ t. length (cond t (x ∷ filter p xs) (filter p xs)) ≡ one_if t + how_many p xs) [
      | true ↦ omega (arith, ih)
      | false ↦ omega (arith, ih)
    ]

-- what makes an object has a kind
object_kind : (m : Option Makes) (k : Kind) → option_and_then kind_made m ≡ Some k → option_map_or makes_object m false ≡ true
object_kind None k e = absurd (none-some k e)
object_kind (Some makes.Thread) k e = absurd (none-some k e)
object_kind (Some m) k e = refl

pub kind_object : (script : Lines) (line : SourceLine) (k : Kind) → kind_declared script line ≡ Some k → is_object script line ≡ true
kind_object script line k e = object_kind (makes_of (names_of script) line.words) k e

-- an object that was made is its name's object
pub object_made : (script : Lines) (history : History) (at : ℕ) → how_many (is_object script) (take at script.declarations) < length history
    → declared_object script history at ≡ Some (how_many (is_object script) (take at script.declarations))
object_made script history at lt =
    let test : ltb (how_many (is_object script) (take at script.declarations)) (length history) ≡ true = lt-ltb _ _ lt in
    rw test refl

-- once all declared objects are made, each name has its object
pub declared_made : (script : Lines) (history : History) (at : ℕ) (line : SourceLine) (k : Kind) → declared_count script ≤ length history
    → slice_get script.declarations at ≡ Some line → kind_declared script line ≡ Some k
    → how_many (is_object script) (take at script.declarations) < length history
declared_made script history at line k declared found kinded =
    omega (arith, counted_below (is_object script) script.declarations at line found (kind_object script line k kinded))

pub object_kind_is : (script : Lines) (history : History) (at : ℕ) (line : SourceLine) (k : Kind) → IsOfScript script history
    → Lawful history → how_many (is_object script) (take at script.declarations) < length history
    → slice_get script.declarations at ≡ Some line → kind_declared script line ≡ Some k
    → kind_of history (how_many (is_object script) (take at script.declarations)) ≡ Some k
object_kind_is script history at line k own lawful made found kinded =
    let object = kind_object script line k kinded in
    let low = counted_below (is_object script) script.declarations at line found object in
    (makes_declared script history own lawful).each _ made low
    ∙ ap (option_and_then (kind_declared script)) (filter_at (is_object script) script.declarations at line found object) ∙ kinded

-- what is made well is made of declared names
pub well_declared : (script : Lines) (i : ℕ) (m : Makes) → i < length script.declarations
    → IsMadeWell (names_of script) i m → IsMadeOfDeclared script m
well_declared script i (makes.Port source) lt well = omega (arith, lt, well.1)
well_declared script i (makes.Feed feed) lt well = omega (arith, lt, well.1)
well_declared script i m lt well = tt
