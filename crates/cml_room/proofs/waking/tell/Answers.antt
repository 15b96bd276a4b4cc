use Rattle.std.proofs.Common.{◌≡◌, ℕ, true, List, slice_get, Option, Some, subst, sym, ap, ◌∙◌}
use Rattle.cml_board.specs.{Entry}
use Rattle.cml_room.specs.declared.news.News.{News}
use Rattle.cml_room.specs.{Place, Waiter, helps, Helps, IsOf, AreRoused}
use Rattle.cml_room.specs.declared.news.News.TheVariants.{Multicast, Value, Closed}
use Rattle.cml_room.specs.declared.place.Place.TheVariants.{Waiting}
use Rattle.cml_room.proofs.HearingLemmas.{AreTold, message_told, multicast_told, closed_told, told_news, news_of, ports_are_of_channels}
use Rattle.cml_room.proofs.NewsLemmas.{message_helps, multicast_helps, closed_helps}
use Rattle.cml_room.proofs.RisingLemmas.{roused_where, for_one}
use Rattle.cml_room.proofs.RousingLemmas.{at_kept}
use Rattle.cml_room.proofs.waking.tell.Goals as goal

-- who was roused for such news has them
roused_by : {M : Type 0} (history : List (Entry M)) (told : Option News) (news is : News) (So : Waiter → Type 0)
    (olds lates : List Place) → told ≡ Some news
    → news ≡ is → ((k : ℕ) (waiter : Waiter) → slice_get olds k ≡ Some (Waiting waiter) → So waiter → helps history is waiter.want ≡ true)
    → AreRoused So olds lates → AreRoused (λ waiter. Helps history told waiter.want) olds lates
roused_by history told news is So olds lates some same so =
    roused_where So _ olds lates
    (λ k waiter found reached. (news, some, ap (λ (n : News). helps history n waiter.want) same ∙ so k waiter found reached))

pub tell_value-requires-clause-lawful : goal.tell_value-requires-clause-lawful
tell_value-requires-clause-lawful g c = c.facts.ensures.sound.lawful

pub returns-in-Message-clause-roused : goal.returns-in-Message-clause-roused
returns-in-Message-clause-roused g c =
    let history = c.args.board.now.history in
    let of = subst (IsOf history) c.in-Message.is (news_of history c.args.news c.in-Some.news c.in-Some.is c.requires.of) in
    roused_by history c.args.news c.in-Some.news _ _ c.args.seats.now.places c.rouse_first.new.seats.places c.in-Some.is c.in-Message.is
    (λ k waiter found wants. message_helps history c.in-Message.name waiter.want of wants) c.rouse_first.ensures.roused

pub returns-in-Message-clause-told : goal.returns-in-Message-clause-told
returns-in-Message-clause-told g c =
    let of = news_of c.args.board.now.history c.args.news c.in-Some.news c.in-Some.is c.requires.of in
    let new = c.rouse_first.new.seats.places in
    told_news c.args.board.now.history c.args.news c.in-Some.news new c.in-Some.is
    (subst (λ (n : News). AreTold c.args.board.now.history n new) (sym c.in-Message.is)
    (message_told c.args.board.now.history c.in-Message.name new c.facts.ensures.sound.lawful
    (subst (IsOf c.args.board.now.history) c.in-Message.is of)
    (at_kept _ c.args.board.now.history c.args.seats.now.places new c.rouse_first.ensures.roused c.requires.placed)
    c.rouse_first.ensures.first))

pub returns-in-Multicast-clause-told : goal.returns-in-Multicast-clause-told
returns-in-Multicast-clause-told g c =
    let new = c.rouse_each.new.seats.places in
    told_news c.args.board.now.history c.args.news c.in-Some.news new c.in-Some.is
    (subst (λ (n : News). AreTold c.args.board.now.history n new) (sym c.in-Multicast.is)
    (multicast_told c.args.board.now.history c.in-Multicast.name new
    (at_kept _ c.args.board.now.history c.args.seats.now.places new c.rouse_each.ensures.roused c.requires.placed)
    c.rouse_each.ensures.each))

pub returns-in-Closed-clause-told : goal.returns-in-Closed-clause-told
returns-in-Closed-clause-told g c =
    let new = c.rouse_each-in-Closed.new.seats.places in
    told_news c.args.board.now.history c.args.news c.in-Some.news new c.in-Some.is
    (subst (λ (n : News). AreTold c.args.board.now.history n new) (sym c.in-Closed.is)
    (closed_told c.args.board.now.history c.in-Closed.name c.source_of.result new c.source_of.ensures
    (at_kept _ c.args.board.now.history c.args.seats.now.places new c.rouse_each-in-Closed.ensures.roused c.requires.placed)
    c.rouse_each-in-Closed.ensures.each))

pub returns-in-Multicast-clause-roused : goal.returns-in-Multicast-clause-roused
returns-in-Multicast-clause-roused g c =
    let history = c.args.board.now.history in
    let of = subst (IsOf history) c.in-Multicast.is (news_of history c.args.news c.in-Some.news c.in-Some.is c.requires.of) in
    roused_by history c.args.news c.in-Some.news _ _ c.args.seats.now.places c.rouse_each.new.seats.places c.in-Some.is c.in-Multicast.is
    (λ k waiter found. multicast_helps history c.in-Multicast.name waiter of (c.requires.placed k waiter found)) c.rouse_each.ensures.roused

pub returns-in-Multicast-clause-one : goal.returns-in-Multicast-clause-one
returns-in-Multicast-clause-one g c = λ single.
    elim (for_one c.args.board.now.history c.args.news c.in-Some.news
    (Multicast c.in-Multicast.name) c.in-Some.is c.in-Multicast.is single) [ ]

pub returns-in-Closed-clause-roused : goal.returns-in-Closed-clause-roused
returns-in-Closed-clause-roused g c =
    let history = c.args.board.now.history in
    let of = subst (IsOf history) c.in-Closed.is (news_of history c.args.news c.in-Some.news c.in-Some.is c.requires.of) in
    roused_by history c.args.news c.in-Some.news _ _ c.args.seats.now.places
    c.rouse_each-in-Closed.new.seats.places c.in-Some.is c.in-Closed.is
    (λ k waiter found.
    closed_helps history c.in-Closed.name c.source_of.result waiter
    (ports_are_of_channels history c.facts.ensures.sound.lawful) c.source_of.ensures of
    (c.requires.placed k waiter found))
    c.rouse_each-in-Closed.ensures.roused

pub returns-in-Closed-clause-one : goal.returns-in-Closed-clause-one
returns-in-Closed-clause-one g c = λ single.
    elim (for_one c.args.board.now.history c.args.news c.in-Some.news (Closed c.in-Closed.name) c.in-Some.is c.in-Closed.is single) [ ]

pub returns-in-Value-clause-one : goal.returns-in-Value-clause-one
returns-in-Value-clause-one g c = λ single.
    c.tell_value.ensures.one (for_one c.args.board.now.history c.args.news c.in-Some.news
    (Value c.in-Value.name) c.in-Some.is c.in-Value.is single)
