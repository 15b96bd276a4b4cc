-- Who makes the declared objects, where they are declared, and to which lanes lead.
use Rattle.std.proofs.Common.{◌≡◌, ℕ, zero, suc, ◌+◌, ◌<◌, ◌≤◌, ◌||◌, Bool, true, false, cond, eqb, List, [], ◌∷◌, ◌++◌}
use Rattle.std.proofs.Common.{length, map, take, filter, get_or, slice_get, slice_set, Option, Some, refl, sym, ap, subst}
use Rattle.std.proofs.Common.{◌∙◌, arith, inl, inr, one-add, zero-add}
use Rattle.std.specs.Prelude.{All}
use Rattle.std.specs.Option.{option_map_or}
use Rattle.std.specs.List.{list_any}
use Rattle.std.proofs.lemmas.Option.{same_Some}
use Rattle.std.proofs.lemmas.List.{length_push, length-set}
use Rattle.std.proofs.lemmas.Bool.{or_right, cases_lt, cases_eq, eq-eqb, ne_eqb, true≢false}
use Rattle.cml_calls.specs.{Kind}
use Rattle.cml_calls.specs.declared.kind.Kind.TheVariants as kind
use Rattle.cml_board.specs.{Who}
use Rattle.cml_board.specs.declared.entry.Who.TheVariants.{Seat, Feed}
use Rattle.cml_grammar.specs.{Lane, SourceLine, Lines, names_of, source_of, ReadsLane}
use Rattle.cml_report.specs.{one_if, how_many, is_object, is_feed, objects_of, declared_count, number_of, maker, leads_to, IsKnown}
use Rattle.cml_report.specs.{IsObjectAt}
use Rattle.cml_board.proofs.ListLemmas.{slice_get-set_other}
use Rattle.cml_report.proofs.ListLemmas.{taken_more, count_taken, filter_at, each_pushed, mapped_at, read_at, set_at}
use Rattle.cml_report.proofs.LineLemmas.{all_at, feed_object}
use Rattle.cml_report.proofs.KindLemmas.{kind_object, counted_below}
use Rattle.cml_report.proofs.FitLemmas.{mailbox_at, channel_at}
use Rattle.cml_report.proofs.UseLemmas.{given_port}

-- Lists.

taken_filter : (p : SourceLine → Bool) (xs : List SourceLine) (i : ℕ) → take (how_many p (take i xs)) (filter p xs) ≡ filter p (take i xs)
taken_filter p [] zero = refl
taken_filter p [] (suc i) = refl
taken_filter p (x ∷ xs) zero = refl
taken_filter p (x ∷ xs) (suc i) =
    let ih = taken_filter p xs i in
    elim (p x) as (λ t. take (one_if t + how_many p (take i xs)) (cond t (x ∷ filter p xs) (filter p xs))
    ≡ cond t (x ∷ filter p (take i xs)) (filter p (take i xs))) [
      | true ↦ rw (one-add (how_many p (take i xs))) (ap (λ l. x ∷ l) ih)
      | false ↦ rw (zero-add (how_many p (take i xs))) ih
    ]

pub counted_filter : (p q : SourceLine → Bool) → ((x : SourceLine) → q x ≡ true → p x ≡ true) → (xs : List SourceLine)
    → how_many q (filter p xs) ≡ how_many q xs
counted_filter p q all [] = refl
counted_filter p q all (x ∷ xs) = by_test (p x) (q x) refl refl (counted_filter p q all xs)
  where
    by_test : (t u : Bool) → p x ≡ t → q x ≡ u → how_many q (filter p xs) ≡ how_many q xs
        → how_many q (cond t (x ∷ filter p xs) (filter p xs)) ≡ one_if (q x) + how_many q xs
    by_test true u e f ih = omega (arith, ih)
    by_test false false e f ih = omega (arith, ih, ap one_if f)
    by_test false true e f ih = absurd (true≢false (sym (all x f) ∙ e))

pub any_pushed : (p : SourceLine → Bool) (xs : List SourceLine) (x : SourceLine) → list_any p (xs ++ x ∷ []) ≡ (list_any p xs || p x)
any_pushed p [] x = elim (p x) as (λ t. (t || false) ≡ (false || t)) [ true ↦ refl | false ↦ refl ]
any_pushed p (y ∷ ys) x =
    let ih = any_pushed p ys x in
    elim (p y) as (λ t. (t || list_any p (ys ++ x ∷ [])) ≡ ((t || list_any p ys) || p x)) [ true ↦ refl | false ↦ ih ]

or_false : (t : Bool) → (t || false) ≡ t
or_false true = refl
or_false false = refl

module _ (script : Lines) where
  -- Who makes what.

  -- as many feeds are declared before an object as feeds' ports are made before it
  pub feeds_before : (i : ℕ)
      → how_many (is_feed script) (take (number_of script i) (objects_of script)) ≡ how_many (is_feed script) (take i script.declarations)
  feeds_before i = ap (how_many (is_feed script)) (taken_filter (is_object script) script.declarations i)
      ∙ counted_filter (is_object script) (is_feed script) (feed_object script) (take i script.declarations)

  pub maker_is : (i : ℕ) (line : SourceLine) → slice_get script.declarations i ≡ Some line → is_object script line ≡ true
      → maker script (number_of script i)
      ≡ cond (is_feed script line) (Feed (how_many (is_feed script) (take i script.declarations))) (Seat 0)
  maker_is i line found object =
      ap (λ o. cond (option_map_or (is_feed script) o false)
      (Feed (how_many (is_feed script) (take (number_of script i) (objects_of script)))) (Seat 0))
      (filter_at (is_object script) script.declarations i line found object)
      ∙ ap (λ n. cond (is_feed script line) (Feed n) (Seat 0)) (feeds_before i)

  -- who makes the objects of the first declarations, and how many of those are feeds
  pub record AreListed (i : ℕ) (makers : List Who) (feeds : ℕ) : Type 0 where
    pub long : length makers ≡ number_of script i
    pub fed : feeds ≡ how_many (is_feed script) (take i script.declarations)
    pub few : feeds ≤ i
    pub each : (k : ℕ) → k < length makers → slice_get makers k ≡ Some (maker script k)

  module _ {i : ℕ} {makers : List Who} {feeds : ℕ} (so_far : AreListed i makers feeds) (line : SourceLine)
      (found : slice_get script.declarations i ≡ Some line) where
    added : (w : Who) → is_object script line ≡ true → w ≡ cond (is_feed script line) (Feed feeds) (Seat 0) → (k : ℕ)
        → k < length (makers ++ w ∷ []) → slice_get (makers ++ w ∷ []) k ≡ Some (maker script k)
    added w object is = each_pushed (maker script) makers w so_far.each
        (is ∙ ap (λ n. cond (is_feed script line) (Feed n) (Seat 0)) so_far.fed ∙ sym (maker_is i line found object)
        ∙ ap (maker script) (sym so_far.long))

    objects : (t : Bool) → is_object script line ≡ t → number_of script (i + 1) ≡ number_of script i + one_if t
    objects t e = count_taken (is_object script) script.declarations i line found ∙ ap (λ b. number_of script i + one_if b) e

    fed_more : (t : Bool) → is_feed script line ≡ t
        → how_many (is_feed script) (take (i + 1) script.declarations) ≡ how_many (is_feed script) (take i script.declarations) + one_if t
    fed_more t e = count_taken (is_feed script) script.declarations i line found
        ∙ ap (λ b. how_many (is_feed script) (take i script.declarations) + one_if b) e

    pub feed_listed : is_feed script line ≡ true → AreListed (i + 1) (makers ++ Feed feeds ∷ []) (feeds + 1)
    feed_listed feed =
        let object = feed_object script line feed in
        record {
          long = omega (arith, length_push makers (Feed feeds), so_far.long, objects true object);
          fed = omega (arith, so_far.fed, fed_more true feed);
          few = omega (arith, so_far.few);
          each = added (Feed feeds) object (ap (λ t. cond t (Feed feeds) (Seat 0)) (sym feed));
        }

    pub object_listed : is_feed script line ≡ false → is_object script line ≡ true → AreListed (i + 1) (makers ++ Seat 0 ∷ []) feeds
    object_listed other object = record {
      long = omega (arith, length_push makers (Seat 0), so_far.long, objects true object);
      fed = omega (arith, so_far.fed, fed_more false other);
      few = omega (arith, so_far.few);
      each = added (Seat 0) object (ap (λ t. cond t (Feed feeds) (Seat 0)) (sym other));
    }

    pub none_listed : is_feed script line ≡ false → is_object script line ≡ false → AreListed (i + 1) makers feeds
    none_listed other none = record {
      long = omega (arith, so_far.long, objects false none);
      fed = omega (arith, so_far.fed, fed_more false other);
      few = omega (arith, so_far.few);
      each = so_far.each;
    }

  -- Where lanes lead.

  -- a lane that a loop over a plan's lanes is at: its line, and what it is read as
  pub lane_read : (shown : Lines) (items : List Lane) (i : ℕ) (lane : Lane) → shown ≡ script
      → map (λ l. source_of l.line) items ≡ shown.lanes
      → All (ReadsLane (names_of shown)) items → i < length items → lane ≡ get_or items i lane
      → (slice_get script.lanes i ≡ Some (source_of lane.line)) × ReadsLane (names_of script) lane
  lane_read shown items i lane same lines said within is =
      let here = read_at items i lane within is in
      let line = mapped_at (λ l. source_of l.line) items shown.lanes i lane lines here in
      let reads = all_at (ReadsLane (names_of shown)) items i lane said here in
      subst (λ (s : Lines). (slice_get s.lanes i ≡ Some (source_of lane.line)) × ReadsLane (names_of s) lane) same (line, reads)

  -- a lane leads to a declared object
  pub target_declared : (lane : Lane) → IsKnown script → ReadsLane (names_of script) lane
      → (lane.target < length script.declarations) × (number_of script lane.target < declared_count script)
  target_declared lane known reads = elim reads.target [
    | inl mailbox ↦ by_kind kind.Mailbox (mailbox_at (names_of script) lane.target mailbox)
        (λ e. let clash : kind.Port ≡ kind.Mailbox = same_Some _ _ e in cc)
    | inr channel ↦ by_kind kind.Channel (channel_at (names_of script) lane.target channel)
        (λ e. let clash : kind.Port ≡ kind.Channel = same_Some _ _ e in cc)
  ]
    where
      by_kind : (k : Kind) → IsObjectAt (names_of script) lane.target k → (Some kind.Port ≡ Some k → ⊥)
          → (lane.target < length script.declarations) × (number_of script lane.target < declared_count script)
      by_kind k is other = elim (cases_lt lane.target (length script.declarations)) [
        | inr ge ↦ absurd (other (given_port script [] known lane.target k ge is))
        | inl lt ↦
            let there = known.named lane.target k lt is in
            (lt, counted_below (is_object script) script.declarations lane.target there.0 there.1 (kind_object script there.0 k there.2))
      ]

  -- a lane that a loop over a plan's lanes is at leads to a declaration
  pub lane_within : (shown : Lines) (items : List Lane) (i : ℕ) (lane : Lane) → shown ≡ script
      → map (λ l. source_of l.line) items ≡ shown.lanes
      → All (ReadsLane (names_of shown)) items → i < length items → lane ≡ get_or items i lane → IsKnown script
      → lane.target < length script.declarations
  lane_within shown items i lane same lines said within is known =
      (target_declared lane known (lane_read shown items i lane same lines said within is).1).0

  -- by object, whether one of the first lane lines leads to it
  pub record AreLaidSoFar (i : ℕ) (laid : List Bool) : Type 0 where
    pub all : length laid ≡ declared_count script
    pub each : (k : ℕ) → option_map_or (λ t. t) (slice_get laid k) false ≡ list_any (leads_to script k) (take i script.lanes)

  pub laid_more : (i : ℕ) (laid : List Bool) (line : SourceLine) (object : ℕ) → slice_get script.lanes i ≡ Some line
      → object < declared_count script → ((k : ℕ) → leads_to script k line ≡ eqb object k) → AreLaidSoFar i laid
      → AreLaidSoFar (i + 1) (slice_set laid object true)
  laid_more i laid line object found lt leads so_far = record {
    all = length-set laid object true ∙ so_far.all;
    each = λ k. elim (cases_eq k object) [
      | inl same ↦
          let there : slice_get (slice_set laid object true) k ≡ Some true = ap (slice_get (slice_set laid object true)) same
          ∙ set_at laid object true (omega (arith, lt, so_far.all)) in
          ap (λ (o : Option Bool). option_map_or (λ t. t) o false) there
          ∙ sym (more k ∙ ap (λ t. list_any (leads_to script k) (take i script.lanes) || t) (leads k ∙ eq-eqb object k (sym same))
          ∙ or_right (list_any (leads_to script k) (take i script.lanes)) true refl)
      | inr other ↦
          ap (λ (o : Option Bool). option_map_or (λ t. t) o false) (slice_get-set_other laid object k true other) ∙ so_far.each k
          ∙ sym (more k ∙ ap (λ t. list_any (leads_to script k) (take i script.lanes) || t) (leads k ∙ ne_eqb object k (λ e. other (sym e)))
          ∙ or_false (list_any (leads_to script k) (take i script.lanes)))
    ];
  }
    where
      more : (k : ℕ) → list_any (leads_to script k) (take (i + 1) script.lanes)
          ≡ (list_any (leads_to script k) (take i script.lanes) || leads_to script k line)
      more k = ap (list_any (leads_to script k)) (taken_more script.lanes i line found)
          ∙ any_pushed (leads_to script k) (take i script.lanes) line

  -- the object that a lane line leads to
  pub lane_leads : (lane : Lane) (k : ℕ) → ReadsLane (names_of script) lane
      → leads_to script k (source_of lane.line) ≡ eqb (number_of script lane.target) k
  lane_leads lane k reads = ap (λ o. option_map_or (λ (laid : (ℕ × ℕ) × ℕ). eqb (number_of script laid.0.1) k) o false) reads.says
