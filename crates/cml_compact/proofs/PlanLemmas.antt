-- What a plan says of each channel, and what is sent by it.
use Rattle.std.proofs.Common.{◌≡◌, ◌≢◌, ℕ, zero, suc, ◌+◌, ◌-◌, ◌<◌, ◌≤◌, inl, inr, false, min, List, [], ◌∷◌, ◌++◌, length, take}
use Rattle.std.proofs.Common.{cond, unwrap_or, drop, slice_get, slice_set, Some, None, sym, ap, ◌∙◌, arith, length-append}
use Rattle.std.specs.Option.{option_map, option_map_or}
use Rattle.std.proofs.lemmas.Bool.{cases_lt, cases_eq, cond-true, cond-false}
use Rattle.std.proofs.lemmas.List.{append_assoc, append-nil, drop-append-le, length-drop, length-set, length-take, take-append-le}
use Rattle.std.proofs.lemmas.Option.{none-some, same_Some, slice_get_within}
use Rattle.std.proofs.Math.Seq.{drop-append-add, take-add}
use Rattle.cml_calls.specs.{is_channel, is_source}
use Rattle.cml_calls.specs.declared.kind.Kind.TheVariants as kind
use Rattle.cml_board.specs.{Entry, Name, Lawful, port, kind_by, source_by, made, origin_of, kind_of}
use Rattle.cml_board.specs.{channel_of, facts_of, is_a, owed_to, sent, sent_count}
use Rattle.cml_board.specs.Counts.{channel_in}
use Rattle.cml_board.specs.Facts.{Facts}
use Rattle.cml_board.specs.Shown.{Shown}
use Rattle.cml_board.proofs.ListLemmas.{slice_get-set_same, slice_get-set_other, take_whole, slice_get_pushed}
use Rattle.cml_board.proofs.LogsLemmas.{slice_get_pushed_other}
use Rattle.cml_compact.specs.{begun_anew, begun_before, stock, stocked}
use Rattle.cml_compact.specs.Planning.{AreBeginnings, AreFewest, AreFronts, IsPlan, stream, streams}
use Rattle.cml_compact.specs.Slowest.{AreSlowest}
use Rattle.cml_compact.specs.Stages.{weight, passed_of, fewest_passed, begins_at, sent_before}
use Rattle.cml_compact.specs.Stepping.{Reaches, Changes, sent_until}
use Rattle.cml_compact.proofs.ChannelsLemmas.{port_after, kind_within}
use Rattle.cml_compact.proofs.StockLemmas.{owed_inside, owed_outside, longest_least, port_of, get_within, some_at, stock_channel}
use Rattle.cml_compact.proofs.BeginningsLemmas.{begins_step, fewest_most, sent_least, sent_most, begun_with, begun_same, begun_next, length_begun}
use Rattle.cml_compact.proofs.BeginningsLemmas.{begun_empty, kind_placed, other_port}
use Rattle.cml_compact.proofs.AnewLemmas.{one_weight, changes_as}
use Rattle.cml_compact.proofs.MeasuringLemmas.{slowest_stock}

same_source : (a b s t : ℕ) → Some (port a s) ≡ Some (port b t) → a ≡ b
same_source a b s t same = ap (λ x. source_by 0 x) same

module _ {M : Type 0} where
  -- before any port was looked at
  pub fewest_start : (h : List (Entry M)) (source : ℕ) → fewest_passed h source (length (made h)) (length (made h) - length (made h))
      ≡ length (stock h source)
  fewest_start h source =
      let none : length (made h) - length (made h) ≡ 0 = omega arith in ap (fewest_passed h source (length (made h))) none

  -- what is no port of a channel has passed all of its stream
  passed_outside : (h : List (Entry M)) (source o : ℕ) → kind_of h source ≡ Some kind.Channel
      → ((start : ℕ) → origin_of h o ≢ Some (port source start)) → passed_of h source o ≡ length (stock h source)
  passed_outside h source o is outside =
      let none = ap length (owed_outside h source o is outside) in omega (arith, none)

  pub begins_outside : (h : List (Entry M)) (source n : ℕ) → n < length (made h) → kind_of h source ≡ Some kind.Channel
      → ((start : ℕ) → origin_of h n ≢ Some (port source start)) → begins_at h source n ≡ begins_at h source (suc n)
  begins_outside h source n within is outside =
      omega (
        arith,
        begins_step h source n within,
        passed_outside h source n is outside,
        fewest_most h source (suc n) (length (made h) - suc n),
      )

  pub passed_inside : (h : List (Entry M)) (o source start : ℕ) → origin_of h o ≡ Some (port source start)
      → passed_of h source o ≡ length (stock h source) - length (owed_to h o)
  passed_inside h o source start is = ap (λ xs. length (stock h source) - length xs) (owed_inside h o source start is)

  not_port : (h : List (Entry M)) (n : ℕ) → channel_of h n ≡ None → (source start : ℕ) → origin_of h n ≢ Some (port source start)
  not_port h n none source start is = none-some (record { 0 = source }) (sym none ∙ ap channel_in is)

  -- an object that is no port changes nothing
  pub fewest_stays : (h : List (Entry M)) (n : ℕ) (found : List ℕ) → n < length (made h) → channel_of h n ≡ None
      → AreFewest h (n + 1) found → AreFewest h n found
  fewest_stays h n found within none after =
      let next : n + 1 ≡ suc n = omega arith in
      record {
        all = after.all;
        channels = λ source is.
            after.channels source is ∙ ap (λ m. Some (begins_at h source m)) next
            ∙ ap Some (sym (begins_outside h source n within is (not_port h n none source)));
        ports = λ name source start order is. elim (cases_eq name n) [
          | inl same ↦ absurd (not_port h n none source start (ap (origin_of h) (sym same) ∙ is))
          | inr differs ↦ after.ports name source start (omega (arith, order, differs)) is
        ];
      }

  -- of a port it finds where it begins
  pub fewest_set : (h : List (Entry M)) (n : ℕ) (from : Name) (found : List ℕ) (was fewest : ℕ) → Lawful h → n < length (made h)
      → channel_of h n ≡ Some from → slice_get found from.0 ≡ Some was → fewest ≡ min (passed_of h from.0 n) was
      → AreFewest h (n + 1) found → AreFewest h n (slice_set (slice_set found from.0 fewest) n fewest)
  fewest_set h n from found was fewest lawful within is at less after =
      let own = port_of h n from is in
      let made_before = port_after h n from.0 own.0 lawful own.1 in
      let next : n + 1 ≡ suc n = omega arith in
      let one = slice_set found from.0 fewest in
      let known : was ≡ begins_at h from.0 (suc n) =
      same_Some was _ (sym at ∙ after.channels from.0 made_before.1) ∙ ap (begins_at h from.0) next in
      let begins : fewest ≡ begins_at h from.0 n = omega (arith, less, known, begins_step h from.0 n within) in
      let inside : n < length one = omega (arith, within, after.all, length-set found from.0 fewest) in
      let some = some_at (slice_get one n) (get_within one n inside) in
      record {
        all = length-set one n fewest ∙ length-set found from.0 fewest ∙ after.all;
        channels = λ source channel_is. elim (cases_eq source from.0) [
          | inl same ↦
              slice_get-set_other one n source fewest (λ e. absurd (omega (arith, e, same, made_before.0)))
              ∙ ap (slice_get one) same ∙ slice_get-set_same found from.0 was fewest at ∙ ap Some begins
              ∙ ap (λ s. Some (begins_at h s n)) (sym same)
          | inr differs ↦
              slice_get-set_other one n source fewest (λ e. no_channel source channel_is e own.0 own.1)
              ∙ slice_get-set_other found from.0 source fewest differs ∙ after.channels source channel_is
              ∙ ap (λ m. Some (begins_at h source m)) next
              ∙ ap Some (sym (begins_outside h source n within channel_is
              (λ start e. differs (sym (same_source from.0 source own.0 start (sym own.1 ∙ e))))))
        ];
        ports = λ name source start order port_is. elim (cases_eq name n) [
          | inl same ↦
              let source_is : source ≡ from.0 =
              same_source source from.0 start own.0 (sym port_is ∙ ap (origin_of h) same ∙ own.1) in
              ap (slice_get (slice_set one n fewest)) same ∙ slice_get-set_same one n some.0 fewest some.1 ∙ ap Some begins
              ∙ ap (λ k. Some (begins_at h from.0 k)) (sym same) ∙ ap (λ s. Some (begins_at h s name)) (sym source_is)
          | inr differs ↦
              slice_get-set_other one n name fewest differs
              ∙ slice_get-set_other found from.0 name fewest (λ e. absurd (omega (arith, e, order, made_before.0)))
              ∙ after.ports name source start (omega (arith, order, differs)) port_is
        ];
      }
    where
      no_channel : (source : ℕ) → kind_of h source ≡ Some kind.Channel → source ≡ n → (start : ℕ)
          → origin_of h n ≡ Some (port from.0 start) → ⊥
      no_channel source channel_is same start e =
          let twice : Some kind.Channel ≡ Some kind.Port = sym channel_is ∙ ap (kind_of h) same ∙ ap (option_map kind_by) e in cc

  -- what is multicast again on a channel, and on what is none
  pub stream_channel : (h : List (Entry M)) (name : ℕ) → kind_of h name ≡ Some kind.Channel → stream h name ≡ stock h name
  stream_channel h name is = cond-true (is_a is_channel h name) (stock h name) [] (ap (λ k. option_map_or is_channel k false) is)

  pub stream_none : (h : List (Entry M)) (name : ℕ) → is_a is_channel h name ≡ false → stream h name ≡ []
  stream_none h name isnt = cond-false (is_a is_channel h name) (stock h name) [] isnt

  pub fronts_pushed : (h : List (Entry M)) (n front : ℕ) (fronts : List ℕ) → AreFronts h n fronts → front ≡ length (streams h n)
      → AreFronts h (n + 1) (fronts ++ front ∷ [])
  fronts_pushed h n front fronts was is = record {
    all = omega (arith, length-append fronts (front ∷ []), was.all);
    each = λ name within. elim (cases_lt name n) [
      | inl before ↦
          slice_get_pushed_other fronts front name (λ e. absurd (omega (arith, e, before, was.all))) ∙ was.each name before
      | inr later ↦
          let last : name ≡ n = omega (arith, within, later) in
          let there : name ≡ length fronts = omega (arith, last, was.all) in
          ap (slice_get (fronts ++ front ∷ [])) there ∙ slice_get_pushed fronts front ∙ ap Some is
          ∙ ap (λ k. Some (length (streams h k))) (sym last)
    ];
  }

  pub streams_next : (h : List (Entry M)) (n : ℕ) (messages more : List M) → messages ≡ streams h n → more ≡ messages ++ stream h n
      → more ≡ streams h (n + 1)
  streams_next h n messages more was is =
      let next : suc n ≡ n + 1 = omega arith in is ∙ ap (λ xs. xs ++ stream h n) was ∙ ap (streams h) next

  streams_split : (h : List (Entry M)) (n m : ℕ) → n ≤ m → (rest : List M) × (streams h m ≡ streams h n ++ rest)
  streams_split h n zero order =
      let none : zero ≡ n = omega (arith, order) in ([], ap (streams h) none ∙ sym (append-nil (streams h n)))
  streams_split h n (suc m) order = elim (cases_lt n (suc m)) [
    | inl before ↦
        let split = streams_split h n m (omega (arith, before)) in (
          split.0 ++ stream h m,
          ap (λ xs. xs ++ stream h m) split.1 ∙ append_assoc (streams h n) split.0 (stream h m),
        )
    | inr last ↦
        let same : suc m ≡ n = omega (arith, order, last) in ([], ap (streams h) same ∙ sym (append-nil (streams h n)))
  ]

  -- the messages of a channel lie together
  pub plan_part : (h : List (Entry M)) (begins fronts : List ℕ) (messages : List M) (source front from to : ℕ)
      → IsPlan h begins fronts messages → kind_of h source ≡ Some kind.Channel → slice_get fronts source ≡ Some front
      → from ≤ to → to ≤ length (stock h source)
      → (front + to ≤ length messages) × (take (to - from) (drop (front + from) messages) ≡ take (to - from) (drop from (stock h source)))
  plan_part h begins fronts messages source front from to plan is at order within =
      let made_there = kind_within h source kind.Channel is in
      let before = streams h source in
      let own = stock h source in
      let split = streams_split h (suc source) (length (made h)) (omega (arith, made_there)) in
      let first : front ≡ length before = same_Some front (length before) (sym at ∙ plan.places.each source made_there) in
      let whole : messages ≡ before ++ (own ++ split.0) =
      plan.whole ∙ split.1 ∙ ap (λ xs. (before ++ xs) ++ split.0) (stream_channel h source is) ∙ append_assoc before own split.0 in
      let rest : drop (front + from) messages ≡ drop from own ++ split.0 =
      ap (λ k. drop (k + from) messages) first ∙ ap (drop (length before + from)) whole
      ∙ drop-append-add before (own ++ split.0) from ∙ drop-append-le from own split.0 (omega (arith, order, within)) in (
        omega (arith, first, ap length whole, length-append before (own ++ split.0), length-append own split.0, within),
        ap (take (to - from)) rest
            ∙ take-append-le (to - from) (drop from own) split.0 (omega (arith, order, within, length-drop from own)),
      )

  -- where a channel's messages begin in a plan
  pub plan_front : (h : List (Entry M)) (begins fronts : List ℕ) (messages : List M) (source : ℕ) → IsPlan h begins fronts messages
      → kind_of h source ≡ Some kind.Channel → (front : ℕ) × (slice_get fronts source ≡ Some front)
  plan_front h begins fronts messages source plan is =
      (length (streams h source), plan.places.each source (kind_within h source kind.Channel is))

  -- a channel that had the first k messages of its stream has the first
  pub sent_told : (facts : Facts M) (own messages : List M) (k to front : ℕ) → facts.sent ≡ take k own → k ≤ to → to ≤ length own
      → take (to - k) (drop (front + k) messages) ≡ take (to - k) (drop k own)
      → sent_until facts front to messages ≡ record facts { sent = take to own }
  sent_told facts own messages k to front is order within part =
      let count : length (take k own) ≡ k = omega (arith, length-take k own, order, within) in
      let all : k + (to - k) ≡ to = omega (arith, order) in
      let sends : (facts.sent ++ take (to - length facts.sent) (drop (front + length facts.sent) messages)) ≡ take to own =
      ap (λ (xs : List M). xs ++ take (to - length xs) (drop (front + length xs) messages)) is
      ∙ ap (λ n. take k own ++ take (to - n) (drop (front + n) messages)) count
      ∙ ap (λ (xs : List M). take k own ++ xs) part ∙ sym (take-add k (to - k) own) ∙ ap (λ n. take n own) all in
      ap {A = List M} (λ xs. record facts { sent = xs }) sends

  -- what is sent before a port is made
  pub sends_before : (most : ℕ) (old : List (Entry M)) (was now : Shown M) (n source start front to : ℕ) (begins fronts : List ℕ)
      (messages : List M) → Lawful old → n < length (made old) → origin_of old n ≡ Some (port source start)
      → IsPlan old begins fronts messages → slice_get fronts source ≡ Some front → to ≡ begins_at old source n
      → Reaches most was n (begun_before old n)
      → Changes was now source (sent_until (facts_of was.history source) front to messages)
      → Reaches most now n (begun_before old (n + 1))
  sends_before most old was now n source start front to begins fronts messages lawful within is plan at first reaches changes =
      let own = port_after old n source start lawful is in
      let here = reaches.each source own.0 in
      let k = sent_before old source n in
      let least = sent_least old source n (omega (arith, within)) in
      let end : to ≤ length (stock old source) = omega (arith, first, fewest_most old source n (length (made old) - n)) in
      let order : k ≤ to = omega (arith, first, least) in
      let part = plan_part old begins fronts messages source front k to plan own.1 at order end in
      let next : suc n ≡ n + 1 = omega arith in
      let facts : facts_of now.history source ≡ begun_before old (suc n) source =
      changes.here ∙ sent_told (facts_of was.history source) (stock old source) messages k to front (ap (λ f. f.sent) here) order end part.1
      ∙ ap {A = Facts M} (λ f. record f { sent = take to (stock old source) }) here
      ∙ ap (λ m. begun_with old source (take m (stock old source))) first ∙ sym (begun_next old n source start is) in
      record {
        begins = changes.past ∙ reaches.begins;
        limit = changes.limit ∙ reaches.limit;
        lawful = changes.lawful;
        count = changes.count ∙ reaches.count;
        entries = omega (
          arith,
          reaches.entries,
          changes.entries,
          ap weight changes.here,
          one_weight (facts_of was.history) (facts_of now.history) n source own.0 changes.others,
        );
        each = λ j below. elim (cases_eq j source) [
          | inl same ↦ ap (facts_of now.history) same ∙ facts ∙ ap (λ m. begun_before old m source) next ∙ ap (begun_before old (n + 1)) (sym same)
          | inr differs ↦
              changes.others j differs ∙ reaches.each j below
              ∙ sym (begun_same old n j (other_port (origin_of old n) j
              (λ s e. differs (same_source j source s start (sym e ∙ is)))))
              ∙ ap (λ m. begun_before old m j) next
        ];
      }

  -- before what is no port nothing is sent
  pub sends_none : (most : ℕ) (old : List (Entry M)) (board : Shown M) (n : ℕ) → channel_of old n ≡ None
      → Reaches most board n (begun_before old n) → Reaches most board n (begun_before old (n + 1))
  sends_none most old board n none reaches =
      let next : suc n ≡ n + 1 = omega arith in
      record {
        begins = reaches.begins;
        limit = reaches.limit;
        lawful = reaches.lawful;
        count = reaches.count;
        entries = reaches.entries;
        each = λ j below.
            reaches.each j below ∙ sym (begun_same old n j (other_port (origin_of old n) j (not_port old n none j)))
            ∙ ap (λ m. begun_before old m j) next;
      }

  -- the rest of a channel's stream was sent
  pub channel_stocked : (old : List (Entry M)) (was now : Shown M) (name front to : ℕ) (begins fronts : List ℕ) (messages : List M)
      → IsPlan old begins fronts messages → kind_of old name ≡ Some kind.Channel → slice_get fronts name ≡ Some front
      → to ≡ length (stock old name) → facts_of was.history name ≡ begun_anew old name
      → Changes was now name (sent_until (facts_of was.history name) front to messages) → Changes was now name (stocked old name)
  channel_stocked old was now name front to begins fronts messages plan is at end here changes =
      let k = sent_before old name (length (made old)) in
      let own = stock old name in
      let order : k ≤ to = omega (arith, end, sent_most old name (length (made old))) in
      let part = plan_part old begins fronts messages name front k to plan is at order (omega (arith, end)) in
      changes_as was now name (sent_until (facts_of was.history name) front to messages) (stocked old name) changes
      (sent_told (facts_of was.history name) own messages k to front (ap (λ f. f.sent) here) order (omega (arith, end)) part.1
      ∙ ap {A = Facts M} (λ f. record f { sent = take to own }) here
      ∙ ap {A = List M} (λ xs. record (begun_anew old name) { sent = xs }) (take_whole to own (omega (arith, end))))

  -- the slowest port of a channel is owed its stream, and so at least what each of its ports is
  pub owed_less : (h : List (Entry M)) (name : ℕ) (from slow : Name) (found : List Name) → Lawful h → AreSlowest h (length (made h)) found
      → name < length (made h) → channel_of h name ≡ Some from → slice_get found from.0 ≡ Some slow
      → (length (owed_to h name) ≤ length (owed_to h slow.0)) × (length (owed_to h slow.0) ≡ length (stock h from.0))
  owed_less h name from slow found lawful are within is at =
      let own = port_of h name from is in
      let channel_is = (port_after h name from.0 own.0 lawful own.1).1 in
      let all = ap length (slowest_stock h from.0 slow found are channel_is at) in
      let one = ap length (owed_inside h name from.0 own.0 own.1) in
      let longest = ap length (stock_channel h from.0 channel_is) in
      (omega (arith, all, one, longest, longest_least h from.0 (length (made h)) name within), all)

  -- how many messages these ports are owed, for the first n objects
  pub record AreLengths (h : List (Entry M)) (slowest : List Name) (n : ℕ) (found : List ℕ) : Type 0 where
    pub all : length found ≡ n
    pub each : (k : ℕ) (slow : Name) → k < n → slice_get slowest k ≡ Some slow → slice_get found k ≡ Some (length (owed_to h slow.0))

  pub lengths_pushed : (h : List (Entry M)) (slowest : List Name) (n many : ℕ) (from : Name) (found : List ℕ) → AreLengths h slowest n found
      → slice_get slowest n ≡ Some from → many ≡ length (owed_to h from.0) → AreLengths h slowest (n + 1) (found ++ many ∷ [])
  lengths_pushed h slowest n many from found was at is = record {
    all = omega (arith, length-append found (many ∷ []), was.all);
    each = λ k slow within there. elim (cases_lt k n) [
      | inl before ↦
          slice_get_pushed_other found many k (λ e. absurd (omega (arith, e, before, was.all))) ∙ was.each k slow before there
      | inr later ↦
          let last : k ≡ n = omega (arith, within, later) in
          let end : k ≡ length found = omega (arith, last, was.all) in
          let same : from ≡ slow = same_Some from slow (sym at ∙ ap (slice_get slowest) (sym last) ∙ there) in
          ap (slice_get (found ++ many ∷ [])) end ∙ slice_get_pushed found many ∙ ap Some is
          ∙ ap (λ (s : Name). Some (length (owed_to h s.0))) same
    ];
  }

  -- before any port was looked at, the fewest are all
  pub lengths_start : (h : List (Entry M)) (slowest : List Name) (n : ℕ) (found : List ℕ) → AreSlowest h (length (made h)) slowest
      → n ≡ length (made h) → AreLengths h slowest n found → AreFewest h (length (made h)) found
  lengths_start h slowest n found are all was = record {
    all = was.all ∙ all;
    channels = λ source is.
        let within = kind_within h source kind.Channel is in
        let slow = some_at (slice_get slowest source) (get_within slowest source (omega (arith, within, are.all))) in
        was.each source slow.0 (omega (arith, within, all)) slow.1
        ∙ ap (λ (xs : List M). Some (length xs)) (slowest_stock h source slow.0 slowest are is slow.1) ∙ ap Some (sym (fewest_start h source));
    ports = λ name source start order is. absurd (omega (arith, order, slice_get_within (made h) name (port source start) is));
  }

  pub fewest_end : (h : List (Entry M)) (n : ℕ) (found : List ℕ) → n ≡ 0 → AreFewest h n found → AreBeginnings h found
  fewest_end h n found none are =
      record { all = are.all; each = λ name source start is. are.ports name source start (omega (arith, none)) is }

  -- how many messages a channel had
  pub channel_counts : (h : List (Entry M)) (source many : ℕ) → kind_of h source ≡ Some kind.Channel
      → many ≡ unwrap_or (sent_count h source) 0 → many ≡ length (sent h source)
  channel_counts h source many is counts =
      counts ∙ ap (λ t. unwrap_or (cond t (Some (length (sent h source))) None) 0) (ap (λ k. option_map_or is_source k false) is)

  -- so many messages lie together
  pub part_size : (messages part : List M) (front from to : ℕ) → front + to ≤ length messages → from ≤ to
      → part ≡ take (to - from) (drop (front + from) messages) → length part ≡ to - from
  part_size messages part front from to enough order is =
      omega (
        arith,
        ap length is,
        enough,
        order,
        length-take (to - from) (drop (front + from) messages),
        length-drop (front + from) messages,
      )

  -- a port's channel was made again before the port
  pub kind_ready : (most : ℕ) (old : List (Entry M)) (board : Shown M) (n m source start : ℕ) → Lawful old
      → Reaches most board n (begun_before old m) → origin_of old n ≡ Some (port source start)
      → kind_of board.history source ≡ Some kind.Channel
  kind_ready most old board n m source start lawful reaches is =
      let own = port_after old n source start lawful is in
      ap (λ f. option_map kind_by f.origin) (reaches.each source own.0) ∙ kind_placed old source (origin_of old source) ∙ own.1

  -- it had no more messages than before the port are due
  pub sent_ready : (most : ℕ) (old : List (Entry M)) (board : Shown M) (n source start : ℕ) → Lawful old → n < length (made old)
      → Reaches most board n (begun_before old n) → origin_of old n ≡ Some (port source start)
      → length (sent board.history source) ≤ begins_at old source n
  sent_ready most old board n source start lawful within reaches is =
      let own = port_after old n source start lawful is in
      omega (
        arith,
        ap (λ f. length f.sent) (reaches.each source own.0),
        length_begun old n source,
        sent_least old source n (omega (arith, within)),
      )

  pub begin_told : (h : List (Entry M)) (begins fronts : List ℕ) (messages : List M) (n source start found : ℕ)
      → IsPlan h begins fronts messages → origin_of h n ≡ Some (port source start) → slice_get begins n ≡ Some found
      → found ≡ begins_at h source n
  begin_told h begins fronts messages n source start found plan is at =
      same_Some found (begins_at h source n) (sym at ∙ plan.ports.each n source start is)

  -- what is sent again was not sent to what is no channel
  pub mailbox_empty : (h : List (Entry M)) (name : ℕ) → Lawful h → kind_of h name ≡ Some kind.Mailbox → (begun_anew h name).sent ≡ []
  mailbox_empty h name lawful is = ap (λ f. f.sent) (begun_empty h (length (made h)) name lawful (λ other. no_channel (sym is ∙ other)))
    where
      no_channel : Some kind.Mailbox ≡ Some kind.Channel → ⊥
      no_channel e = cc
