-- What the calls of a compaction do to the facts of the objects.
use Rattle.std.proofs.Common.{◌≡◌, ◌≢◌, ℕ, zero, suc, ◌+◌, ◌-◌, ◌<◌, ◌≤◌, inl, inr, true, List, [], ◌∷◌, ◌++◌}
use Rattle.std.proofs.Common.{length, take, slice_get, Option, Some, None, IsTrue, IsSome, IfSome, refl, sym, ap, subst}
use Rattle.std.proofs.Common.{◌∙◌, arith}
use Rattle.std.specs.Option.{option_map}
use Rattle.std.proofs.lemmas.Bool.{cases_lt}
use Rattle.std.proofs.lemmas.List.{length_push, length-take}
use Rattle.std.proofs.lemmas.Option.{same_Some}
use Rattle.cml_calls.specs.declared.kind.Kind.TheVariants as kind
use Rattle.cml_calls.specs.Kinds.{is_channel}
use Rattle.cml_board.specs.declared.call.Name.{Name}
use Rattle.cml_board.specs.declared.call.Call.{Call}
use Rattle.cml_board.specs.declared.call.Call.TheVariants.{NewMailbox, NewChannel, NewPort, NewIVar, NewMVar, ClosePort, Recv}
use Rattle.cml_board.specs.declared.call.Call.TheVariants as call
use Rattle.cml_calls.specs.{Give}
use Rattle.cml_calls.specs.declared.table.Ask.TheVariants as ask
use Rattle.cml_board.specs.{given_call, adds}
use Rattle.cml_board.specs.declared.entry.Who.{Who}
use Rattle.cml_board.specs.declared.entry.Reply.{Reply}
use Rattle.cml_board.specs.declared.entry.Reply.TheVariants.{Done, Made, Got}
use Rattle.cml_board.specs.declared.entry.Entry.{Entry}
use Rattle.cml_board.specs.declared.object.Form.TheVariants.{Once, Mutable}
use Rattle.cml_board.specs.Origins.{Origin, mailbox, channel, port, ivar, mvar, kind_by}
use Rattle.cml_board.specs.Held.{held}
use Rattle.cml_board.specs.History.{Lawful, Fits, answer, new_name, entries_in, made, origin_of, kind_of, is_open, sent}
use Rattle.cml_board.specs.History.{owed}
use Rattle.cml_board.specs.Facts.{Facts, facts_of, new_facts}
use Rattle.cml_board.specs.Shown.{Shown}
use Rattle.cml_compact.specs.Stages.{fillings, weight, weights, begun_before, begins_at, placed, stock}
use Rattle.cml_compact.specs.Stepping.{maker_of, maker_in, Reaches, Halfway, Changes}
use Rattle.cml_board.specs.{Refusal}
use Rattle.cml_board.specs.declared.outcome.Refusal.TheVariants as refusal
use Rattle.cml_compact.specs.{Stops}
use Rattle.cml_compact.specs.Stepping.{Tells}
use Rattle.cml_board.proofs.TellingLemmas.{noted, Makes, makes_here, makes_other, makes_more, put_here, put_other, put_made, taken_here}
use Rattle.cml_board.proofs.TellingLemmas.{taken_other, taken_made}
use Rattle.cml_board.proofs.BeginningLemmas.{mailbox_makes, channel_makes, port_makes, variable_makes}
use Rattle.cml_board.proofs.LeavingLemmas.{set_here, set_other, spared_made, filled_sets}
use Rattle.cml_board.proofs.AnsweringLemmas.{answer_put, answer_taken}
use Rattle.cml_board.proofs.HoldingLemmas.{answer_filled}
use Rattle.cml_compact.proofs.ChannelsLemmas.{port_after}
use Rattle.cml_compact.proofs.BeginningsLemmas.{kind_placed, fewest_most, sent_port, begun_fresh}

pub none_past : (xs : List Origin) (k : ℕ) → slice_get xs k ≡ None → length xs ≤ k
none_past [] k none = omega arith
none_past (x ∷ xs) zero none = let e : Some x ≡ None = none in cc
none_past (x ∷ xs) (suc k) none = omega (arith, none_past xs k none)

module _ {M : Type 0} where
  -- sums of the same are the same
  pub same_weights : (f g : ℕ → Facts M) (n : ℕ) → ((k : ℕ) → k < n → f k ≡ g k) → weights f n ≡ weights g n
  same_weights f g zero same = refl
  same_weights f g (suc n) same =
      let before : weights f n ≡ weights g n = same_weights f g n (λ k within. same k (omega arith)) in
      let here : weight (f n) ≡ weight (g n) = ap weight (same n (omega arith)) in
      omega arith

  -- where only one object changed, so did the sum
  pub one_weight : (f g : ℕ → Facts M) (n name : ℕ) → name < n → ((k : ℕ) → k ≢ name → g k ≡ f k)
      → weights g n + weight (f name) ≡ weights f n + weight (g name)
  one_weight f g zero name within others = absurd (omega arith)
  one_weight f g (suc n) name within others = elim (cases_lt name n) [
    | inl before ↦
        let rest : weights g n + weight (f name) ≡ weights f n + weight (g name) = one_weight f g n name before others in
        let here : weight (g n) ≡ weight (f n) = ap weight (others n (λ same. absurd (omega arith))) in
        omega arith
    | inr later ↦
        let last : name ≡ n = omega arith in
        let rest : weights g n ≡ weights f n = same_weights g f n (λ k below. others k (λ same. absurd (omega arith))) in
        let one : weight (f name) ≡ weight (f n) = ap (λ k. weight (f k)) last in
        let two : weight (g name) ≡ weight (g n) = ap (λ k. weight (g k)) last in
        omega arith
  ]

  -- an answered call adds its entry
  told : (was now : Shown M) (who : Who) (asked : Call M) (reply : Reply M) → Tells was now who asked
      → answer was.history asked ≡ Some reply
      → now.history ≡ noted who asked reply ∷ was.history
  told was now who asked reply tells answered =
      tells.history ∙ ap (λ r. noted who asked r ∷ was.history) (same_Some tells.reply reply (sym tells.answered ∙ answered))

  weighs_filled : (f : Facts M) (message : M) → f.held ≡ None → weight (record f { held = Some message }) ≡ weight f + 1
  weighs_filled f message empty =
      let none : fillings f.held ≡ 0 = ap fillings empty in
      omega arith

  -- nothing was done yet
  pub changes_none : (board : Shown M) (name : ℕ) → Lawful board.history → Changes board board name (facts_of board.history name)
  changes_none board name lawful =
      record { past = refl; limit = refl; lawful = lawful; count = refl; entries = refl; here = refl; others = λ k other. refl }

  pub changes_as : (old new : Shown M) (name : ℕ) (f g : Facts M) → Changes old new name f → f ≡ g → Changes old new name g
  changes_as old new name f g changes same = record {
    past = changes.past;
    limit = changes.limit;
    lawful = changes.lawful;
    count = changes.count;
    entries = changes.entries ∙ ap (λ x. entries_in old.history + weight x) same;
    here = changes.here ∙ same;
    others = changes.others;
  }

  -- one call more
  changes_more : (old was now : Shown M) (who : Who) (asked : Call M) (reply : Reply M) (name : ℕ) (f g : Facts M)
      → Changes old was name f → Tells was now who asked → answer was.history asked ≡ Some reply
      → length (made (noted who asked reply ∷ was.history)) ≡ length (made was.history) → weight g ≡ weight f + 1
      → (facts_of was.history name ≡ f → facts_of (noted who asked reply ∷ was.history) name ≡ g)
      → ((k : ℕ) → k ≢ name → facts_of (noted who asked reply ∷ was.history) k ≡ facts_of was.history k)
      → Changes old now name g
  changes_more old was now who asked reply name f g changes tells answered count weighs here others =
      let next = told was now who asked reply tells answered in
      record {
        past = tells.past ∙ changes.past;
        limit = tells.limit ∙ changes.limit;
        lawful = tells.lawful;
        count = ap (λ h. length (made h)) next ∙ count ∙ changes.count;
        entries = omega (arith, ap entries_in next, changes.entries, weighs);
        here = ap (λ h. facts_of h name) next ∙ here changes.here;
        others = λ k other. ap (λ h. facts_of h k) next ∙ others k other ∙ changes.others k other;
      }

  pub changes_put : (old was now : Shown M) (who : Who) (gives : Give) (name : Name) (message : M) (f : Facts M) → adds gives ≡ true
      → Changes old was name.0 f → Tells was now who (given_call gives name message)
      → Changes old now name.0 (record f { sent = f.sent ++ message ∷ [] })
  changes_put old was now who gives name message f is changes tells =
      changes_more old was now who (given_call gives name message) Done name.0 f (record f { sent = f.sent ++ message ∷ [] }) changes tells
      (answer_put was.history gives name message is) (put_made was.history who gives name message)
      (omega (arith, length_push f.sent message))
      (λ same. put_here was.history who gives name message is ∙ ap {A = Facts M} (λ x. record x { sent = x.sent ++ message ∷ [] }) same)
      (λ k other. put_other was.history who gives name message k is other)

  pub changes_taken : (old was now : Shown M) (who : Who) (name : Name) (message : M) (f : Facts M)
      → Changes old was name.0 f → is_open was.history name.0 ≡ true → slice_get (owed was.history name.0) 0 ≡ Some message → Tells was
      now who (Recv name)
      → Changes old now name.0 (record f { got = f.got ++ message ∷ [] })
  changes_taken old was now who name message f changes opened first tells =
      changes_more old was now who (Recv name) (Got message) name.0 f (record f { got = f.got ++ message ∷ [] }) changes tells
      (answer_taken was.history ask.Recv name message refl opened first) (taken_made was.history who ask.Recv name message)
      (omega (arith, length_push f.got message))
      (λ same. taken_here was.history who ask.Recv name message refl
      ∙ ap {A = Facts M} (λ x. record x { got = x.got ++ message ∷ [] }) same)
      (λ k other. taken_other was.history who ask.Recv name message k refl other)

  pub changes_filled : (old was now : Shown M) (who : Who) (name : Name) (message : M) (f : Facts M)
      → Changes old was name.0 f → held was.history name.0 ≡ None → Tells was now who (call.Put name message)
      → Changes old now name.0 (record f { held = Some message })
  changes_filled old was now who name message f changes empty tells =
      let sets = filled_sets name message in
      changes_more old was now who (call.Put name message) Done name.0 f (record f { held = Some message }) changes tells
      (answer_filled was.history name message empty) (spared_made was.history who (call.Put name message) Done sets.spares)
      (weighs_filled f message (ap (λ x. x.held) (sym changes.here) ∙ empty))
      (λ same. set_here was.history who (call.Put name message) Done name (Some message) sets
      ∙ ap {A = Facts M} (λ x. record x { held = Some message }) same)
      (λ k other. set_other was.history who (call.Put name message) Done name (Some message) k sets other)

  -- the same messages sent
  pub changes_sent : (old new : Shown M) (name : ℕ) (f g : Facts M) (some all : List M) → Changes old new name (record f { sent = some })
      → f ≡ g → some ≡ all → Changes old new name (record g { sent = all })
  changes_sent old new name f g some all changes same sends =
      changes_as old new name (record f { sent = some }) (record g { sent = all }) changes
      (ap {A = Facts M} (λ x. record x { sent = some }) same ∙ ap {A = List M} (λ xs. record g { sent = xs }) sends)

  pub halfway_next : (most : ℕ) (old new : Shown M) (all n : ℕ) (from to : ℕ → Facts M) → Halfway most old all n from to → n < all
      → Changes old new n (to n) → Halfway most new all (n + 1) from to
  halfway_next most old new all n from to half more changes = record {
    begins = changes.past ∙ half.begins;
    limit = changes.limit ∙ half.limit;
    lawful = changes.lawful;
    count = changes.count ∙ half.count;
    entries = omega (
      arith,
      half.entries,
      changes.entries,
      ap weight changes.here,
      one_weight (facts_of old.history) (facts_of new.history) all n more changes.others,
    );
    done = λ k below. elim (cases_lt k n) [
      | inl before ↦ changes.others k (λ same. absurd (omega arith)) ∙ half.done k before
      | inr later ↦ let same : k ≡ n = omega arith in ap (facts_of new.history) same ∙ changes.here ∙ ap to (sym same)
    ];
    rest = λ k later within. changes.others k (λ same. absurd (omega arith)) ∙ half.rest k (omega arith) within;
  }

  -- what the call that makes an object is answered, and makes
  pub record Remakes (old h : List (Entry M)) (n : ℕ) (origin : Origin) : Type 0 where
    pub fits : Fits h (maker_of origin)
    pub answered : answer h (maker_of origin) ≡ Some (new_name h)
    pub makes : Makes h (maker_of origin) (record { 0 = n }) (placed old n origin) None

  remakes : (most : ℕ) (old : List (Entry M)) (board : Shown M) (n : ℕ) (origin : Origin) → Lawful old
      → Reaches most board n (begun_before old (suc n)) → origin_of old n ≡ Some origin
      → Remakes old board.history n origin
  remakes most old board n mailbox lawful reaches is =
      record { fits = (tt, tt); answered = refl; makes = mailbox_makes board.history (record { 0 = n }) }
  remakes most old board n channel lawful reaches is =
      record { fits = (tt, tt); answered = refl; makes = channel_makes board.history (record { 0 = n }) }
  remakes most old board n ivar lawful reaches is =
      record { fits = (tt, tt); answered = refl; makes = variable_makes board.history Once (record { 0 = n }) }
  remakes most old board n mvar lawful reaches is =
      record { fits = (tt, tt); answered = refl; makes = variable_makes board.history Mutable (record { 0 = n }) }
  remakes most old board n (port source start) lawful reaches is =
      let h = board.history in
      let own = port_after old n source start lawful is in
      let facts = reaches.each source own.0 in
      let begins = begins_at old source n in
      let first : length (take begins (stock old source)) ≡ begins =
      omega (arith, length-take begins (stock old source), fewest_most old source n (length (made old) - n)) in
      let sends : length (sent h source) ≡ begins =
      ap (λ f. length f.sent) facts ∙ ap (λ m. length (take m (stock old source))) (sent_port old n source start is) ∙ first in
      let same : kind_of h source ≡ Some kind.Channel =
      ap (λ f. option_map kind_by f.origin) facts ∙ kind_placed old source (origin_of old source) ∙ own.1 in
      record {
        fits = (subst (λ k. IsSome k) (sym same) refl, subst (λ k. IfSome k (λ kind. IsTrue (is_channel kind))) (sym same) refl);
        answered = refl;
        makes =
            subst (λ at. Makes h (NewPort (record { 0 = source })) (record { 0 = n }) (port source at) None) sends
            (port_makes h (record { 0 = source }) (record { 0 = n }));
      }

  makes_next : (most : ℕ) (old : List (Entry M)) (was now : Shown M) (who : Who) (n : ℕ) (origin : Origin) → Lawful old
      → Reaches most was n (begun_before old (suc n))
      → origin_of old n ≡ Some origin → Tells was now who (maker_of origin) → Reaches most now (n + 1) (begun_before old (n + 1))
  makes_next most old was now who n origin lawful reaches is tells =
      let h = was.history in
      let name : Name = record { 0 = n } in
      let again = remakes most old was n origin lawful reaches is in
      let answered : answer h (maker_of origin) ≡ Some (Made name) =
      again.answered ∙ ap (λ k. Some (Made (record { 0 = k }))) reaches.count in
      let next = told was now who (maker_of origin) (Made name) tells answered in
      let after = noted who (maker_of origin) (Made name) ∷ h in
      let fresh : facts_of after (length (made h)) ≡ new_facts (placed old n origin) None =
      makes_here h who (maker_of origin) name (placed old n origin) None reaches.lawful again.makes in
      let light : weight (facts_of now.history n) ≡ 0 =
      ap (λ h. weight (facts_of h n)) next ∙ ap (λ k. weight (facts_of after k)) (sym reaches.count) ∙ ap weight fresh in
      let others : weights (facts_of now.history) n ≡ weights (facts_of h) n =
      same_weights (facts_of now.history) (facts_of h) n (λ k before.
      ap (λ h. facts_of h k) next
      ∙ makes_other h who (maker_of origin) name (placed old n origin) None k again.makes
      (λ same. absurd (omega (arith, same, reaches.count, before)))) in
      let next_is : suc n ≡ n + 1 = omega arith in
      let made_entries : entries_in now.history ≡ weights (facts_of now.history) (suc n) =
      omega (arith, ap entries_in next, light, others, reaches.entries) in
      record {
        begins = tells.past ∙ reaches.begins;
        limit = tells.limit ∙ reaches.limit;
        lawful = tells.lawful;
        count =
            ap (λ h. length (made h)) next ∙ makes_more h who (maker_of origin) name (placed old n origin) None again.makes
            ∙ ap (λ k. k + 1) reaches.count;
        entries = made_entries ∙ ap (weights (facts_of now.history)) next_is;
        each = λ k within. elim (cases_lt k n) [
          | inl before ↦
              ap (λ h. facts_of h k) next
              ∙ makes_other h who (maker_of origin) name (placed old n origin) None k again.makes
              (λ same. absurd (omega (arith, same, reaches.count, before)))
              ∙ reaches.each k before ∙ ap (λ m. begun_before old m k) next_is
          | inr later ↦
              let same : k ≡ length (made h) = omega (arith, within, later, reaches.count) in
              let here : k ≡ n = omega (arith, within, later) in
              ap (λ h. facts_of h k) next ∙ ap (facts_of (noted who (maker_of origin) (Made name) ∷ h)) same
              ∙ makes_here h who (maker_of origin) name (placed old n origin) None reaches.lawful again.makes
              ∙ ap (λ o. record { origin = option_map (placed old n) o; opened = true; sent = []; got = []; held = None }) (sym is)
              ∙ sym (begun_fresh old n lawful) ∙ ap (λ m. begun_before old m n) next_is ∙ ap (begun_before old (n + 1)) (sym here)
        ];
      }

  -- the origin of an object that was made
  some_origin : (old : List (Entry M)) (n : ℕ) → n < length (made old) → (origin : Origin) × (origin_of old n ≡ Some origin)
  some_origin old n within = by_origin (origin_of old n) refl
    where
      by_origin : (x : Option Origin) → origin_of old n ≡ x → (origin : Origin) × (origin_of old n ≡ Some origin)
      by_origin (Some origin) e = (origin, e)
      by_origin None e = absurd (omega (arith, within, none_past (made old) n e))

  -- what is sent before it was sent
  ready : (most : ℕ) (old : List (Entry M)) (board : Shown M) (n : ℕ) → Reaches most board n (begun_before old (n + 1))
      → Reaches most board n (begun_before old (suc n))
  ready most old board n reaches =
      let next_is : n + 1 ≡ suc n = omega arith in subst (λ m. Reaches most board n (begun_before old m)) next_is reaches

  pub maker_fits : (most : ℕ) (old : List (Entry M)) (board : Shown M) (n : ℕ) → Lawful old → Reaches most board n (begun_before old (n + 1))
      → n < length (made old)
      → Fits board.history (maker_in (origin_of old n))
  maker_fits most old board n lawful reaches within =
      let some = some_origin old n within in
      subst (λ x. Fits board.history (maker_in x)) (sym some.1)
      (remakes most old board n some.0 lawful (ready most old board n reaches) some.1).fits

  pub maker_next : (most : ℕ) (old : List (Entry M)) (was now : Shown M) (who : Who) (n : ℕ) → Lawful old
      → Reaches most was n (begun_before old (n + 1)) → n < length (made old)
      → Tells was now who (maker_in (origin_of old n)) → Reaches most now (n + 1) (begun_before old (n + 1))
  maker_next most old was now who n lawful reaches within tells =
      let some = some_origin old n within in
      makes_next most old was now who n some.0 lawful (ready most old was n reaches) some.1
      (subst (λ x. Tells was now who (maker_in x)) some.1 tells)

  -- more objects need more calls
  pub weights_grow : (f : ℕ → Facts M) (n m : ℕ) → n ≤ m → weights f n ≤ weights f m
  weights_grow f n zero order =
      let none : n ≡ 0 = omega arith in
      omega (arith, ap (weights f) none)
  weights_grow f n (suc m) order = elim (cases_lt n (suc m)) [
    | inl before ↦ omega (arith, weights_grow f n m (omega arith))
    | inr last ↦
        let same : n ≡ suc m = omega arith in
        omega (arith, ap (weights f) same)
  ]

-- what stops for want of room at a size stops so at a greater one
pub stops_more : (was limit a b : ℕ) (refusal : Refusal) → was ≡ limit → a ≤ b → Stops was a refusal → Stops limit b refusal
stops_more was limit a b refusal.JournalFull same order less = omega (arith, same, order, less)
stops_more was limit a b refusal.NoMemory same order less = tt
stops_more was limit a b other same order less = absurd less
