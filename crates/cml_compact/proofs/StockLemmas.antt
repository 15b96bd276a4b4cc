-- What is sent again is a stream's end, and what each open port is owed is an end of it.
use Rattle.std.proofs.Common.{◌≡◌, ◌≢◌, ℕ, zero, suc, ◌+◌, ◌-◌, ◌<◌, ◌≤◌, inl, inr, Bool, true, false, ◌&&◌, cond, eqb, ltb, List, [], ◌∷◌}
use Rattle.std.proofs.Common.{length, drop, slice_get, slice_set, Option, Some, None, refl, sym, ap, ◌∙◌, arith}
use Rattle.std.specs.Option.{option_map, option_map_or}
use Rattle.std.proofs.lemmas.Bool.{cases_lt, cases_eq, cases_Bool, cond-true, cond-false, eq-eqb, eqb-true, and_from, false≢true}
use Rattle.std.proofs.lemmas.Bool.{le-ltb, lt-ltb}
use Rattle.std.proofs.lemmas.List.{drop-drop, drop_all, length-drop, length-set}
use Rattle.std.proofs.lemmas.Option.{none-some, same_Some, slice_get_within}
use Rattle.cml_calls.specs.{is_receiver, is_mailbox, is_channel}
use Rattle.cml_calls.specs.declared.kind.Kind.TheVariants as kind
use Rattle.cml_board.specs.{Entry, Name, Lawful, Origin, mailbox, channel, port, ivar, mvar, kind_by, source_by, start_by, made, origin_of}
use Rattle.cml_board.specs.{kind_of, is_open, sent, got, owed, reads, reads_by, is_a, channel_of, owed_to}
use Rattle.cml_board.specs.Counts.{channel_in}
use Rattle.cml_board.proofs.ListLemmas.{slice_get-set_same, slice_get-set_other}
use Rattle.cml_board.proofs.ClosingLemmas.{mailbox_open}
use Rattle.cml_compact.specs.Stages.{longer, owed_of, longest_of, stock, begins_at}
use Rattle.cml_compact.specs.Slowest.{AreSlowest}
use Rattle.cml_compact.proofs.BeginningsLemmas.{begins_step}
use Rattle.cml_compact.proofs.ChannelsLemmas.{port_after}

-- a shorter end of a list is an end of a longer one
end_of_end : {X : Type 0} (xs : List X) (a b : ℕ) → length (drop b xs) ≤ length (drop a xs)
    → drop (length (drop a xs) - length (drop b xs)) (drop a xs) ≡ drop b xs
end_of_end xs a b shorter = elim (cases_lt b (length xs)) [
  | inl inside ↦
      let both : length (drop a xs) - length (drop b xs) + a ≡ b = omega (arith, shorter, inside, length-drop a xs, length-drop b xs) in
      drop-drop (length (drop a xs) - length (drop b xs)) a xs ∙ ap (λ n. drop n xs) (omega (arith, both))
  | inr past ↦
      let all : length (drop a xs) ≤ length (drop a xs) - length (drop b xs) = omega (arith, past, length-drop b xs) in
      drop_all (length (drop a xs) - length (drop b xs)) (drop a xs) all ∙ sym (drop_all b xs past)
]

-- an item within a list is there
pub get_within : {X : Type 0} (xs : List X) (i : ℕ) → i < length xs → slice_get xs i ≢ None
get_within [] i within = absurd (omega arith)
get_within (x ∷ xs) zero within = λ none. none-some x (sym none)
get_within (x ∷ xs) (suc i) within = get_within xs i (omega arith)

pub some_at : {X : Type 0} (o : Option X) → o ≢ None → (x : X) × (o ≡ Some x)
some_at None some = absurd (some refl)
some_at (Some x) some = (x, refl)

module _ {M : Type 0} where
  longer_then : (xs ys : List M) → length xs < length ys → longer xs ys ≡ ys
  longer_then xs ys less = cond-true (ltb (length xs) (length ys)) ys xs (lt-ltb (length xs) (length ys) less)

  longer_else : (xs ys : List M) → length ys ≤ length xs → longer xs ys ≡ xs
  longer_else xs ys more = cond-false (ltb (length xs) (length ys)) ys xs (le-ltb (length xs) (length ys) more)

  longer_either : (P : List M → Type 0) (xs ys : List M) → P xs → P ys → P (longer xs ys)
  longer_either P xs ys one two = by_test (ltb (length xs) (length ys))
    where
      by_test : (t : Bool) → P (cond t ys xs)
      by_test true = two
      by_test false = one

  longer_both : (xs ys : List M) → (length xs ≤ length (longer xs ys)) × (length ys ≤ length (longer xs ys))
  longer_both xs ys = elim (cases_lt (length xs) (length ys)) [
    | inl less ↦ let e = ap length (longer_then xs ys less) in (omega (arith, e, less), omega (arith, e))
    | inr more ↦ let e = ap length (longer_else xs ys more) in (omega (arith, e), omega (arith, e, more))
  ]

  -- who reads a source has it for its own
  reads_source : (h : List (Entry M)) (source o : ℕ) → reads h source o ≡ true → source_by o (origin_of h o) ≡ source
  reads_source h source o is = by_origin (origin_of h o) (is_open h o) is
    where
      by_origin : (x : Option Origin) (opened : Bool) → reads_by o x opened source ≡ true → source_by o x ≡ source
      by_origin (Some mailbox) opened e = eqb-true o source e
      by_origin (Some (port from start)) true e = eqb-true from source e
      by_origin (Some (port from start)) false e = absurd (false≢true e)
      by_origin x opened e = absurd (false≢true e)

  -- what is owed of a stream is one of its ends, and so is the longest of all
  owed_end : (h : List (Entry M)) (source o : ℕ) → (a : ℕ) × (owed_of h source o ≡ drop a (sent h source))
  owed_end h source o = elim (cases_Bool (reads h source o)) [
    | inl is ↦
        let own = reads_source h source o is in
        let start = start_by (origin_of h o) in (
          start + length (got h o),
          cond-true (reads h source o) (owed h o) [] is ∙ drop-drop (length (got h o)) start (sent h (source_by o (origin_of h o)))
              ∙ ap (λ s. drop (start + length (got h o)) (sent h s)) own,
        )
    | inr isnt ↦ (
      length (sent h source),
      cond-false (reads h source o) (owed h o) [] isnt ∙ sym (drop_all (length (sent h source)) (sent h source) (omega arith)),
    )
  ]

  longest_end : (h : List (Entry M)) (source n : ℕ) → (a : ℕ) × (longest_of h source n ≡ drop a (sent h source))
  longest_end h source zero = (length (sent h source), sym (drop_all (length (sent h source)) (sent h source) (omega arith)))
  longest_end h source (suc n) =
      longer_either (λ xs. (a : ℕ) × (xs ≡ drop a (sent h source))) (longest_of h source n) (owed_of h source n)
      (longest_end h source n) (owed_end h source n)

  pub longest_least : (h : List (Entry M)) (source n o : ℕ) → o < n → length (owed_of h source o) ≤ length (longest_of h source n)
  longest_least h source zero o within = absurd (omega arith)
  longest_least h source (suc n) o within =
      let both = longer_both (longest_of h source n) (owed_of h source n) in
      elim (cases_lt o n) [
        | inl before ↦ omega (arith, longest_least h source n o before, both.0)
        | inr later ↦
            let last : o ≡ n = omega arith in
            omega (arith, both.1, ap (λ k. length (owed_of h source k)) last)
      ]

  -- the stock of a mailbox, of a channel and of anything else
  pub stock_mailbox : (h : List (Entry M)) (name : ℕ) → kind_of h name ≡ Some kind.Mailbox → stock h name ≡ owed h name
  stock_mailbox h name is =
      cond-true (is_a is_mailbox h name) (owed h name) (cond (is_a is_channel h name) (longest_of h name (length (made h))) [])
      (ap (λ k. option_map_or is_mailbox k false) is)

  pub stock_channel : (h : List (Entry M)) (name : ℕ) → kind_of h name ≡ Some kind.Channel
      → stock h name ≡ longest_of h name (length (made h))
  stock_channel h name is =
      cond-false (is_a is_mailbox h name) (owed h name) (cond (is_a is_channel h name) (longest_of h name (length (made h))) [])
      (ap (λ k. option_map_or is_mailbox k false) is)
      ∙ cond-true (is_a is_channel h name) (longest_of h name (length (made h))) [] (ap (λ k. option_map_or is_channel k false) is)

  -- of a mailbox, what it is owed is sent again
  pub mailbox_stock : (h : List (Entry M)) (name : ℕ) → Lawful h → kind_of h name ≡ Some kind.Mailbox → owed_to h name ≡ stock h name
  mailbox_stock h name lawful is =
      cond-true (is_a is_receiver h name && is_open h name) (owed h name) [] (and_from (is_a is_receiver h name) (is_open h name)
      (ap (λ k. option_map_or is_receiver k false) is) (mailbox_open h name lawful is))
      ∙ sym (stock_mailbox h name is)

  -- an open port reads its channel
  port_reads : (h : List (Entry M)) (o source start : ℕ) → origin_of h o ≡ Some (port source start) → is_open h o ≡ true
      → reads h source o ≡ true
  port_reads h o source start is opened =
      ap (λ x. reads_by o x (is_open h o) source) is
      ∙ and_from (is_open h o) (eqb source source) opened (eq-eqb source source refl)

  -- what it is owed is the end of what is sent again
  pub port_stock : (h : List (Entry M)) (o source start : ℕ) → Lawful h → origin_of h o ≡ Some (port source start) → is_open h o ≡ true
      → (length (owed h o) ≤ length (stock h source)) × (drop (length (stock h source) - length (owed h o)) (stock h source) ≡ owed h o)
  port_stock h o source start lawful is opened =
      let own = port_after h o source start lawful is in
      let n = length (made h) in
      let within : o < n = slice_get_within (made h) o (port source start) is in
      let all = stock_channel h source own.1 in
      let one : owed_of h source o ≡ owed h o = cond-true (reads h source o) (owed h o) [] (port_reads h o source start is opened) in
      let end = longest_end h source n in
      let other = owed_end h source o in
      let shorter : length (owed h o) ≤ length (stock h source) =
      omega (arith, longest_least h source n o within, ap length one, ap length all) in
      let sizes : length (drop other.0 (sent h source)) ≤ length (drop end.0 (sent h source)) =
      omega (arith, longest_least h source n o within, ap length end.1, ap length other.1) in
      let long : stock h source ≡ drop end.0 (sent h source) = all ∙ end.1 in
      let short : owed h o ≡ drop other.0 (sent h source) = sym one ∙ other.1 in (
        shorter,
        ap (λ xs. drop (length xs - length (owed h o)) xs) long
            ∙ ap (λ ys. drop (length (drop end.0 (sent h source)) - length ys) (drop end.0 (sent h source))) short
            ∙ end_of_end (sent h source) end.0 other.0 sizes ∙ sym short,
      )

  -- it begins no later than it reads
  pub open_begins : (h : List (Entry M)) (o source start : ℕ) → Lawful h → origin_of h o ≡ Some (port source start) → is_open h o ≡ true
      → o < length (made h) → begins_at h source o ≤ length (stock h source) - length (owed h o)
  open_begins h o source start lawful is opened within =
      let one : owed_of h source o ≡ owed h o = cond-true (reads h source o) (owed h o) [] (port_reads h o source start is opened) in
      omega (arith, begins_step h source o within, ap length one)

  -- an object that is no port is owed nothing of a channel
  pub owed_outside : (h : List (Entry M)) (source o : ℕ) → kind_of h source ≡ Some kind.Channel
      → ((start : ℕ) → origin_of h o ≢ Some (port source start)) → owed_of h source o ≡ []
  owed_outside h source o is outside = elim (cases_Bool (reads h source o)) [
    | inr isnt ↦ cond-false (reads h source o) (owed h o) [] isnt
    | inl reading ↦ absurd (by_origin (origin_of h o) refl reading)
  ]
    where
      by_origin : (x : Option Origin) → origin_of h o ≡ x → reads_by o x (is_open h o) source ≡ true → ⊥
      by_origin (Some mailbox) e reading =
          let same : o ≡ source = eqb-true o source reading in
          let twice : Some kind.Mailbox ≡ Some kind.Channel = sym (ap (option_map kind_by) e) ∙ ap (kind_of h) same ∙ is in cc
      by_origin (Some (port from start)) e reading = by_open (is_open h o) reading
        where
          by_open : (t : Bool) → (t && eqb from source) ≡ true → ⊥
          by_open true both = outside start (e ∙ ap (λ s. Some (port s start)) (eqb-true from source both))
          by_open false both = absurd (false≢true both)
      by_origin x e reading = absurd (false≢true reading)

  -- what a port is owed of its channel is what it is owed, closed or not
  pub owed_inside : (h : List (Entry M)) (o source start : ℕ) → origin_of h o ≡ Some (port source start) → owed_of h source o ≡ owed_to h o
  owed_inside h o source start is = elim (cases_Bool (is_open h o)) [
    | inl opened ↦
        cond-true (reads h source o) (owed h o) [] (port_reads h o source start is opened)
        ∙ sym (cond-true (is_a is_receiver h o && is_open h o) (owed h o) [] (and_from (is_a is_receiver h o) (is_open h o)
        (ap (λ x. option_map_or is_receiver (option_map kind_by x) false) is) opened))
    | inr closed ↦
        cond-false (reads h source o) (owed h o) []
        (ap (λ x. reads_by o x (is_open h o) source) is ∙ ap (λ t. t && eqb source source) closed)
        ∙ sym (cond-false (is_a is_receiver h o && is_open h o) (owed h o) []
        (ap (λ t. is_a is_receiver h o && t) closed ∙ and_none (is_a is_receiver h o)))
  ]
    where
      and_none : (t : Bool) → (t && false) ≡ false
      and_none true = refl
      and_none false = refl

  longest_stays : (h : List (Entry M)) (source n : ℕ) → length (owed_of h source n) ≤ length (longest_of h source n)
      → longest_of h source (n + 1) ≡ longest_of h source n
  longest_stays h source n less =
      let next : n + 1 ≡ suc n = omega arith in
      ap (longest_of h source) next ∙ longer_else (longest_of h source n) (owed_of h source n) less

  pub port_of : (h : List (Entry M)) (n : ℕ) (from : Name) → channel_of h n ≡ Some from
      → (start : ℕ) × (origin_of h n ≡ Some (port from.0 start))
  port_of h n from is = by_origin (origin_of h n) refl
    where
      by_origin : (x : Option Origin) → origin_of h n ≡ x → (start : ℕ) × (origin_of h n ≡ Some (port from.0 start))
      by_origin (Some (port source start)) e =
          let same : record { 0 = source } ≡ from = same_Some (record { 0 = source }) from (sym (ap channel_in e) ∙ is) in
          (start, e ∙ ap (λ (k : Name). Some (port k.0 start)) same)
      by_origin (Some mailbox) e = absurd (none-some from (sym (ap channel_in e) ∙ is))
      by_origin (Some channel) e = absurd (none-some from (sym (ap channel_in e) ∙ is))
      by_origin (Some ivar) e = absurd (none-some from (sym (ap channel_in e) ∙ is))
      by_origin (Some mvar) e = absurd (none-some from (sym (ap channel_in e) ∙ is))
      by_origin None e = absurd (none-some from (sym (ap channel_in e) ∙ is))

  -- the channel of a port has its place in the list
  pub channel_within : (h : List (Entry M)) (n m : ℕ) (from : Name) (found : List Name) → Lawful h → n < length (made h)
      → AreSlowest h m found → channel_of h n ≡ Some from → from.0 < length found
  channel_within h n m from found lawful within before is =
      let own = port_of h n from is in
      omega (arith, within, before.all, (port_after h n from.0 own.0 lawful own.1).0)

  -- a port that is owed no more than the one that was found changes nothing
  pub slowest_stays : (h : List (Entry M)) (n : ℕ) (from was : Name) (found : List Name) → AreSlowest h n found
      → channel_of h n ≡ Some from → slice_get found from.0 ≡ Some was → length (owed_to h n) ≤ length (owed_to h was.0)
      → AreSlowest h (n + 1) found
  slowest_stays h n from was found before is at less =
      let own = port_of h n from is in
      record {
        all = before.all;
        each = λ source name channel_is here. elim (cases_eq source from.0) [
          | inl same ↦
              let it : owed_to h was.0 ≡ longest_of h source n =
              before.each source was channel_is (ap (slice_get found) same ∙ at) in
              let ends : owed_of h source n ≡ owed_to h n =
              ap (λ s. owed_of h s n) same ∙ owed_inside h n from.0 own.0 own.1 in
              before.each source name channel_is here
              ∙ sym (longest_stays h source n (omega (arith, less, ap length it, ap length ends)))
          | inr differs ↦
              let nothing =
              owed_outside h source n channel_is (λ start e. differs (port_channel source start from.0 own.0 (sym e ∙ own.1))) in
              before.each source name channel_is here ∙ sym (longest_stays h source n (omega (arith, ap length nothing)))
        ];
      }
    where
      port_channel : (a s b t : ℕ) → Some (port a s) ≡ Some (port b t) → a ≡ b
      port_channel a s b t same = ap (λ x. source_by 0 x) same

  -- one that is owed more takes its place
  pub slowest_set : (h : List (Entry M)) (n : ℕ) (from was : Name) (found : List Name) → AreSlowest h n found
      → channel_of h n ≡ Some from → slice_get found from.0 ≡ Some was → length (owed_to h was.0) < length (owed_to h n)
      → AreSlowest h (n + 1) (slice_set found from.0 (record { 0 = n }))
  slowest_set h n from was found before is at more =
      let own = port_of h n from is in
      record {
        all = length-set found from.0 (record { 0 = n }) ∙ before.all;
        each = λ source name channel_is here. elim (cases_eq source from.0) [
          | inl same ↦
              let it : owed_to h was.0 ≡ longest_of h source n =
              before.each source was channel_is (ap (slice_get found) same ∙ at) in
              let ends : owed_of h source n ≡ owed_to h n =
              ap (λ s. owed_of h s n) same ∙ owed_inside h n from.0 own.0 own.1 in
              let next : n + 1 ≡ suc n = omega arith in
              let new : record { 0 = n } ≡ name =
              same_Some (record { 0 = n }) name (sym (slice_get-set_same found from.0 was (record { 0 = n }) at)
              ∙ ap (slice_get (slice_set found from.0 (record { 0 = n }))) (sym same) ∙ here) in
              ap (λ (k : Name). owed_to h k.0) (sym new) ∙ sym ends
              ∙ sym (ap (longest_of h source) next
              ∙ longer_then (longest_of h source n) (owed_of h source n) (omega (arith, more, ap length it, ap length ends)))
          | inr differs ↦
              let nothing =
              owed_outside h source n channel_is (λ start e. differs (port_channel source start from.0 own.0 (sym e ∙ own.1))) in
              before.each source name channel_is (sym (slice_get-set_other found from.0 source (record { 0 = n }) differs) ∙ here)
              ∙ sym (longest_stays h source n (omega (arith, ap length nothing)))
        ];
      }
    where
      port_channel : (a s b t : ℕ) → Some (port a s) ≡ Some (port b t) → a ≡ b
      port_channel a s b t same = ap (λ x. source_by 0 x) same
