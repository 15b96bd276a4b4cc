use Rattle.std.proofs.Common.{◌≡◌, ◌+◌, ◌-◌, ◌*◌, ◌/◌, ◌%◌, OnOk, drop, ◌<◌, ◌≤◌, [], ◌∷◌, ◌++◌, length, sym, ap, subst, ◌∙◌, arith}
use Rattle.std.specs.VecDeque.{deque_len, deque_capacity}
use Rattle.cml_log.specs.Log.{Log}
use Rattle.cml_log.specs.{next_of, trimmed, with_item, chunk_of, IsSound}
use Rattle.cml_log.proofs.PlainLogLemmas.{kept_before_end, taken_room, some_from_test, none_from_test, IsSound-with_item}
use Rattle.cml_log.proofs.PlainLogLemmas.{IsSound-pushed_open, pushed_open, pushed_closed}
use Rattle.cml_log.proofs.plain_log.PlainLogMessageLog.push.Goals.{After-push_back_reserved, After-trim}
use Rattle.cml_log.proofs.plain_log.PlainLogMessageLog.push.Goals as goal

-- what the fields showed before the call
abbrev was : (g : _) (c : After-push_back_reserved g) → Log g.row.T.Denot
was g c = record { first = c.self.inside.first; kept = c.self.inside.items.items; places = c.self.inside.places.slots }

-- the items are those before, and the new one
added : (g : _) (c : After-push_back_reserved g) → c.push_back_reserved.new.self.items ≡ c.self.inside.items.items ++ c.args.item ∷ []
added g c = c.push_back_reserved.ensures.items ∙ ap (λ ks. ks ++ c.args.item ∷ []) c.make_room.ensures.items

below : (g : _) (c : After-push_back_reserved g) → next_of (was g c) < 18446744073709551614
below g c = subst (λ m. next_of m < 18446744073709551614) (sym c.self.view_is) c.requires

grows : (g : _) (c : After-push_back_reserved g) → deque_capacity c.self.inside.items ≤ deque_capacity c.push_back_reserved.new.self
grows g c = omega (arith, c.make_room.ensures.capacity, c.push_back_reserved.ensures.capacity)

-- where a chunk is full, there is room for another
room : (g : _) (c : After-push_back_reserved g) → next_of (was g c) % (chunk_of g.row.N) ≡ (chunk_of g.row.N) - 1
    → length c.self.inside.items.items + ((chunk_of g.row.N) + 1) ≤ deque_capacity c.push_back_reserved.new.self
room g c full =
    let promised = subst (λ n. OnOk c.make_room.result ((c.self.inside.first + c.len.result) % n ≡ n - 1
    → deque_len c.make_room.new.items + (n + 1) ≤ deque_capacity c.make_room.new.items)) c.CHUNK-chunk.ensures c.make_room.ensures.room in
    let taken = taken_room c.make_room.result (chunk_of g.row.N) c.self.inside.first c.len.result (length c.self.inside.items.items)
    (deque_len c.make_room.new.items) (deque_capacity c.make_room.new.items) (sym c.is_err.ensures.value ∙ c.if-is_err.false) promised
    (c.len.ensures ∙ c.self.inside.items.ok.0) (c.make_room.ensures.len ∙ c.self.inside.items.ok.0) full in
    omega (arith, taken, c.push_back_reserved.ensures.capacity)

-- where no cursor is open, the log is trimmed
shown : (g : _) (c : After-trim g) → record { first = c.trim.new.first; kept = c.trim.new.items.items; places = c.self.inside.places.slots }
    ≡ trimmed (chunk_of g.row.N)
    (with_item (record { first = c.self.inside.first; kept = c.self.inside.items.items; places = c.self.inside.places.slots }) c.args.item)
shown g c =
    let added = c.push_back_reserved.ensures.items ∙ ap (λ ks. ks ++ c.args.item ∷ []) c.make_room.ensures.items in
    let counted : c.len.result ≡ length c.self.inside.items.items = c.len.ensures ∙ c.self.inside.items.ok.0 in
    let none = none_from_test _ c.is_empty.result c.if-not-is_empty.false c.is_empty.ensures in
    let first =
    subst (λ n. c.trim.new.first ≡ n * ((c.self.inside.first + c.len.result + 1) / n)) c.CHUNK-chunk.ensures c.trim.ensures.first in
    let items = subst (λ n. c.trim.new.items.items ≡ drop (n * ((c.self.inside.first + c.len.result + 1) / n) - c.self.inside.first)
    c.push_back_reserved.new.self.items) c.CHUNK-chunk.ensures c.trim.ensures.items in
    pushed_closed (chunk_of g.row.N) _ c.args.item c.trim.new.first (c.self.inside.first + c.len.result + 1)
    c.push_back_reserved.new.self.items c.trim.new.items.items none (ap (λ n. c.self.inside.first + n + 1) counted) first added items

pub trim-requires-clause-kept : goal.trim-requires-clause-kept
trim-requires-clause-kept g c =
    let l : Log g.row.T.Denot =
    record { first = c.self.inside.first; kept = c.self.inside.items.items; places = c.self.inside.places.slots } in
    subst (λ n. l.first ≤ n * ((c.self.inside.first + c.len.result + 1) / n)) (sym c.CHUNK-chunk.ensures)
    (kept_before_end (chunk_of g.row.N) l _ c.self.invariant.tidy (omega (arith, c.self.inside.items.ok.0)))

pub invariant_of-self-then-not-is_empty : goal.invariant_of-self-then-not-is_empty
invariant_of-self-then-not-is_empty g c =
    let a = (goal.at.invariant_of-self-then-not-is_empty g c).After-push_back_reserved in
    let some = some_from_test _ c.is_empty.result c.if-not-is_empty.true c.is_empty.ensures in
    IsSound-pushed_open (chunk_of g.row.N) (was g a) c.args.item _ _ _ c.self.invariant (below g a) (grows g a) (room g a) some (added g a)

pub returns-then-not-is_empty-clause-ok : goal.returns-then-not-is_empty-clause-ok
returns-then-not-is_empty-clause-ok g c =
    let a = (goal.at.returns-then-not-is_empty-clause-ok g c).After-push_back_reserved in
    let some = some_from_test _ c.is_empty.result c.if-not-is_empty.true c.is_empty.ensures in
    pushed_open (chunk_of g.row.N) (was g a) c.args.self.now c.args.item _ c.self.invariant.tidy c.self.view_is some (added g a)

pub invariant_of-self-2 : goal.invariant_of-self-2
invariant_of-self-2 g c =
    let at = goal.at.invariant_of-self-2 g c in
    let a = at.After-push_back_reserved in
    let sound = IsSound-with_item (chunk_of g.row.N) (was g a) c.args.item _ _ c.self.invariant (below g a) (grows g a) (room g a) in
    subst (λ n. IsSound (chunk_of g.row.N)
    (record { first = c.trim.new.first; kept = c.trim.new.items.items; places = c.self.inside.places.slots }) n)
    (sym c.trim.ensures.capacity)
    (subst (λ m. IsSound (chunk_of g.row.N) m (deque_capacity c.push_back_reserved.new.self)) (sym (shown g at.After-trim)) sound)

pub returns-clause-ok : goal.returns-clause-ok
returns-clause-ok g c = shown g (goal.at.returns-clause-ok g c).After-trim
    ∙ ap (λ m. trimmed (chunk_of g.row.N) (with_item m c.args.item)) c.self.view_is
