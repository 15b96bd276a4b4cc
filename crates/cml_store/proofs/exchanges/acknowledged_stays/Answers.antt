use Rattle.std.proofs.Common.{ap, ◌∙◌}
use Rattle.cml_store.specs.Exchange.{counted}
use Rattle.cml_store.specs.Pair.{crossing}
use Rattle.cml_store.proofs.Apart.{synced_on, stored_on}
use Rattle.cml_store.proofs.Crossings.{reached}
use Rattle.cml_store.proofs.Reaching.{told}
use Rattle.cml_store.proofs.exchanges.acknowledged_stays.Goals as goal

pub returns-clause-told : goal.returns-clause-told
returns-clause-told c whole front limit growth long short p none is is_open is_open_too =
    let h = reached whole front limit growth long short none p is in
    let e = crossing long short p.way in
    let old = told limit whole p.old.store.stage p.old h.old is_open in
    let new = told limit whole p.new.store.stage p.new h.new is_open_too in (
      ap (λ n. counted e n p.new.synced) old.0 ∙ ap (counted e p.old.store.synced) new.0,
      λ f g. ap (λ n. counted e n p.new.stored) (old.1 f) ∙ ap (counted e p.old.store.stored) (new.1 g),
    )

pub returns-clause-synced : goal.returns-clause-synced
returns-clause-synced c whole front limit growth long short p later none is may =
    let s = synced_on whole front limit growth long short none p later (reached whole front limit growth long short none p is) may in
    (s.later, s.same)

pub returns-clause-stored : goal.returns-clause-stored
returns-clause-stored c whole front limit growth long short p later none is may old new keep =
    let s = stored_on whole front limit growth long short none p later (reached whole front limit growth long short none p is)
    (record { old = old; new = new }) may keep in
    (s.later, s.same)
