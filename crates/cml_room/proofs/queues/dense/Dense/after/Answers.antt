use Rattle.std.proofs.Common.{◌≡◌, ◌<◌, ◌≤◌, ℕ, refl, length, slice_get, Some, sym, ap, subst, ◌∙◌, arith, IfSome}
use Rattle.std.proofs.lemmas.Option.{slice_get_within, slice_get_read}
use Rattle.cml_room.specs.Links.{next_in}
use Rattle.cml_room.proofs.ShownLemmas.{link_of_member, head_is, bound_is}
use Rattle.cml_room.proofs.queues.dense.Dense.after.Goals as goal

pub returns-in_err-get-clause-next : goal.returns-in_err-get-clause-next
returns-in_err-get-clause-next c row xs ys parts =
    let within : c.args.number < length c.self.inside.links.items =
    slice_get_within _ _ _ (link_of_member _ _ _ c.self.view_is c.self.invariant row c.args.number xs ys parts) in
    let past : length c.deref.result.now ≤ c.args.number = c.in_err-get.ensures.lookup.3 in
    let same : length c.deref.result.now ≡ length c.self.inside.links.items = ap length c.deref.ensures.value in
    absurd (omega arith)

pub returns-clause-next : goal.returns-clause-next
returns-clause-next c row xs ys parts =
    let link = link_of_member _ _ _ c.self.view_is c.self.invariant row c.args.number xs ys parts in
    let below : c.args.number < length c.self.inside.links.items = slice_get_within _ _ _ link in
    let same : length c.deref.result.now ≡ length c.self.inside.links.items = ap length c.deref.ensures.value in
    let within : c.args.number < length c.deref.result.now = omega arith in
    let read : slice_get c.deref.result.now c.args.number ≡ Some c.in_ok-get.field-0.now =
    slice_get_read _ _ _ _ refl within c.in_ok-get.ensures.lookup.1 in
    ap next_in (sym read ∙ ap (λ l. slice_get l c.args.number) c.deref.ensures.value ∙ link) ∙ head_is ys

pub returns-clause-within : goal.returns-clause-within
returns-clause-within c =
    let within : c.args.number < length c.deref.result.now = c.in_ok-get.ensures.lookup.3.0 in
    let read : slice_get c.deref.result.now c.args.number ≡ Some c.in_ok-get.field-0.now =
    slice_get_read _ _ _ _ refl within c.in_ok-get.ensures.lookup.1 in
    let leads = c.self.invariant.within c.args.number c.in_ok-get.field-0.now
    (ap (λ l. slice_get l c.args.number) (sym c.deref.ensures.value) ∙ read) in
    let P : ℕ → Type 0 = λ n. IfSome c.in_ok-get.field-0.now.next (λ next. next < n) in
    subst P (sym (bound_is _ _ _ c.self.view_is c.self.invariant)) leads
