use Rattle.std.proofs.Common.{rules, ◌≡◌, inl, inr, true, Some, refl, sym, ap, ◌∙◌}
use Rattle.std.proofs.lemmas.Option.{same_Some}
use Rattle.cml_calls.specs.declared.kind.Kind.TheVariants as kind
use Rattle.cml_board.specs.{Want, kind_of}
use Rattle.cml_board.specs.declared.want.Want.TheVariants.{Get, Take, Swap}
use Rattle.cml_room.specs.declared.news.News.TheVariants.{Value}
use Rattle.cml_room.specs.{Waiter, helps, AreRoused}
use Rattle.cml_room.proofs.HearingLemmas.{ports_are_of_channels, value_told, values_told}
use Rattle.cml_room.proofs.NewsLemmas.{value_helps, want_helps}
use Rattle.cml_room.proofs.RisingLemmas.{roused_where, twice_each}
use Rattle.cml_room.proofs.RousingLemmas.{roused_so, roused_twice, at_kept}
use Rattle.cml_room.proofs.waking.tell_value.Goals as goal

pub returns-then-eq-clause-roused : goal.returns-then-eq-clause-roused
returns-then-eq-clause-roused g c =
    let history = c.args.board.now.history in
    let is : kind_of history c.args.name.0 ≡ Some kind.IVar = search rules in
    roused_where _ _ c.args.seats.now.places c.rouse_each.new.seats.places
    (λ k waiter found reached.
    value_helps history c.args.name waiter (ports_are_of_channels history c.requires.lawful) kind.IVar is refl
    (c.requires.placed k waiter found) reached)
    c.rouse_each.ensures.roused

pub returns-then-eq-clause-one : goal.returns-then-eq-clause-one
returns-then-eq-clause-one g c = λ single.
    let is : kind_of c.args.board.now.history c.args.name.0 ≡ Some kind.IVar = search rules in
    absurd (let clash : kind.IVar ≡ kind.MVar = same_Some _ _ (sym is ∙ single) in cc)

pub returns-then-eq-clause-told : goal.returns-then-eq-clause-told
returns-then-eq-clause-told g c =
    value_told c.args.board.now.history c.args.name c.rouse_each.new.seats.places c.requires.of
    (at_kept _ c.args.board.now.history c.args.seats.now.places c.rouse_each.new.seats.places c.rouse_each.ensures.roused c.requires.placed)
    c.rouse_each.ensures.each

pub returns-clause-roused : goal.returns-clause-roused
returns-clause-roused g c =
    let history = c.args.board.now.history in
    let name = c.args.name in
    let Helped : Waiter → Type 0 = λ waiter. helps history (Value name) waiter.want ≡ true in
    let olds = c.args.seats.now.places in
    let one = c.rouse_first.new.seats.places in
    let two = c.rouse_first-2.new.seats.places in
    let three = c.rouse_first-3.new.seats.places in
    let same : (w w' : Waiter) → w.want ≡ w'.want → w.source ≡ w'.source → Helped w → Helped w' =
    λ w w' want source so. ap (helps history (Value name)) (sym want) ∙ so in
    roused_twice Helped olds two three same
    (roused_twice Helped olds one two same
    (roused_so _ Helped olds one (λ waiter so. want_helps history name waiter.want (inl so)) c.rouse_first.ensures.roused)
    (roused_so _ Helped one two (λ waiter so. want_helps history name waiter.want (inr (inl so))) c.rouse_first-2.ensures.roused))
    (roused_so _ Helped two three (λ waiter so. want_helps history name waiter.want (inr (inr so))) c.rouse_first-3.ensures.roused)

pub returns-clause-one : goal.returns-clause-one
returns-clause-one g c = λ single.
    let name = c.args.name in
    let Wanted : Want → Waiter → Type 0 = λ on waiter. waiter.want ≡ on in
    let Either : Waiter → Type 0 = λ waiter. ¬ (waiter.want ≡ Swap name) in
    let olds = c.args.seats.now.places in
    let one = c.rouse_first.new.seats.places in
    let two = c.rouse_first-2.new.seats.places in
    let three = c.rouse_first-3.new.seats.places in
    let same : (w w' : Waiter) → w.want ≡ w'.want → w.source ≡ w'.source → Either w → Either w' =
    λ w w' want source so is. so (want ∙ is) in
    let first : AreRoused Either olds one =
    roused_so _ Either olds one (λ waiter so is. (let clash : Get name ≡ Swap name = sym so ∙ is in cc)) c.rouse_first.ensures.roused in
    let second : AreRoused Either one two =
    roused_so _ Either one two (λ waiter so is. (let clash : Take name ≡ Swap name = sym so ∙ is in cc)) c.rouse_first-2.ensures.roused in
    twice_each Either (Wanted (Swap name)) olds two three
    (roused_twice Either olds one two same first second) c.rouse_first-3.ensures.roused
    (λ w w' so so' want. so (want ∙ so'))
    (twice_each (Wanted (Get name)) (Wanted (Take name)) olds one two c.rouse_first.ensures.roused c.rouse_first-2.ensures.roused
    (λ w w' so so' want. (let clash : Get name ≡ Take name = sym so ∙ (want ∙ so') in cc))
    c.rouse_first.ensures.one c.rouse_first-2.ensures.one)
    c.rouse_first-3.ensures.one

pub returns-clause-told : goal.returns-clause-told
returns-clause-told g c =
    let history = c.args.board.now.history in
    let one = c.rouse_first.new.seats.places in
    let two = c.rouse_first-2.new.seats.places in
    let three = c.rouse_first-3.new.seats.places in
    values_told _ _ history c.args.name one two three c.requires.of
    (at_kept _ history two three c.rouse_first-3.ensures.roused (at_kept _ history one two c.rouse_first-2.ensures.roused
    (at_kept _ history c.args.seats.now.places one c.rouse_first.ensures.roused c.requires.placed)))
    c.rouse_first-2.ensures.roused c.rouse_first-3.ensures.roused c.rouse_first.ensures.first
    c.rouse_first-2.ensures.first c.rouse_first-3.ensures.first
