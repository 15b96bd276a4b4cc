use Rattle.std.proofs.Common.{◌≡◌, ◌+◌, ◌-◌, ◌<◌, Some, set, map, refl, sym, ap, subst, ◌∙◌, arith}
use Rattle.std.proofs.lemmas.List.{map-set}
use Rattle.cml_log.specs.{Address, Chunks, with_place, place_in, LiesAt, count_at, end_of, with_count, IsAhead, IsWhole, log_of}
use Rattle.cml_log.proofs.AheadLemmas.{IsAhead-whole, IsAhead-stepped}
use Rattle.cml_log.proofs.CursorsLemmas.{entered, lies-recounted}
use Rattle.cml_log.proofs.ChunkLogLemmas.{TrimsTo, StandsIn, room_next, moved_trims, stands_in}
use Rattle.cml_log.proofs.LendingLemmas.{before_end}
use Rattle.cml_log.proofs.chunk_log.step.Goals.{After-move_to, After-enter}
use Rattle.cml_log.proofs.chunk_log.step.Goals as goal

-- the chunks, once the link was followed and the cursor is counted in the next
abbrev counted : {T : Type 0} → Chunks T → Address → Address → Chunks T
counted {T} c at next =
    let left : Chunks T = with_count (record c { followed = c.followed + 1 }) at.number at.at (count_at c.cells at.number - 1) in
    with_count left next.number next.at (count_at left.cells next.number + 1)

-- the cursor moves within its chunk
moves : (g : _) (c : After-move_to g) → TrimsTo g.row.N c.args.chain.now c.move_to.new.self
    (with_place (log_of g.row.N c.args.chain.now c.args.cursors.now) c.args.key (Some (c.args.cursor.place + 1)))
moves g c =
    moved_trims g.row.N c.args.chain.now c.args.cursors.now c.requires.trim c.args.key c.args.cursor c.requires.found
    c.requires.below c.move_to.new.self c.if-place-ne0.true c.move_to.ensures

-- or comes into the next
steps : (g : _) (c : After-enter g) → c.enter.new.self ≡ counted c.args.chain.now c.args.cursor.at c.follow-next.result
steps g c =
    c.enter.ensures
    ∙ ap (λ m. with_count m c.follow-next.result.number c.follow-next.result.at (count_at m.cells c.follow-next.result.number + 1))
    (c.leave.ensures ∙ ap (λ m. with_count m c.args.cursor.at.number c.args.cursor.at.at
    (count_at m.cells c.args.cursor.at.number - 1)) c.follow-next.ensures.followed)

comes : (g : _) (c : After-enter g) → StandsIn g.row.N c.follow-next.result c.enter.new.self c.move_to-2.new.self
    (with_place (log_of g.row.N c.args.chain.now c.args.cursors.now) c.args.key (Some (c.args.cursor.place + 1)))
comes g c =
    stands_in g.row.N c.args.chain.now c.args.cursors.now c.requires.trim c.args.key c.args.cursor c.requires.found
    c.requires.below c.follow-next.result c.move_to-2.new.self c.enter.new.self c.if-place-ne0.false c.follow-next.ensures.number
    c.follow-next.ensures.lies c.move_to-2.ensures (steps g c)

-- its place is the same
places : (g : _) (c : After-enter g) → map place_in c.move_to-2.new.self
    ≡ map place_in (set c.args.cursors.now c.args.key (Some (record { at = c.args.cursor.at; place = c.args.cursor.place + 1 })))
places g c =
    ap (map place_in) c.move_to-2.ensures
    ∙ map-set place_in c.args.cursors.now c.args.key (Some (record { at = c.follow-next.result; place = c.args.cursor.place + 1 }))
    ∙ sym (map-set place_in c.args.cursors.now c.args.key (Some (record { at = c.args.cursor.at; place = c.args.cursor.place + 1 })))

pub returns-then-place-ne0-clause-whole : goal.returns-then-place-ne0-clause-whole
returns-then-place-ne0-clause-whole g c =
    let at = goal.at.returns-then-place-ne0-clause-whole g c in
    record {
      is_trim = (moves g at.After-move_to).trim;
      is_ahead = subst (IsAhead g.row.N c.args.chain.now) (sym c.move_to.ensures) c.requires.ahead;
    }

pub returns-then-place-ne0-clause-log : goal.returns-then-place-ne0-clause-log
returns-then-place-ne0-clause-log g c = (moves g (goal.at.returns-then-place-ne0-clause-log g c).After-move_to).log

pub follow-next-requires : goal.follow-next-requires
follow-next-requires g c =
    let held = c.requires.trim.is_held.held c.args.key c.args.cursor c.requires.found in (
      omega arith,
      (
        held.lies,
        before_end g.row.N c.args.chain.now c.args.cursor c.requires.trim.is_held.holds_one held c.requires.below c.if-place-ne0.false,
      ),
    )

pub leave-requires : goal.leave-requires
leave-requires g c =
    let held = c.requires.trim.is_held.held c.args.key c.args.cursor c.requires.found in
    let some = entered g.row.N c.args.chain.now c.args.cursors.now c.requires.trim.is_held c.args.key
    c.args.cursor c.requires.found in (
      omega arith,
      (
        subst (λ m. LiesAt m.cells c.args.cursor.at.number c.args.cursor.at.at) (sym c.follow-next.ensures.followed) held.lies,
        subst (λ m. 0 < count_at m.cells c.args.cursor.at.number) (sym c.follow-next.ensures.followed) some,
      ),
    )

pub enter-requires : goal.enter-requires
enter-requires g c =
    let held = c.requires.trim.is_held.held c.args.key c.args.cursor c.requires.found in
    let left = c.leave.ensures ∙ ap (λ m. with_count m c.args.cursor.at.number c.args.cursor.at.at
    (count_at m.cells c.args.cursor.at.number - 1)) c.follow-next.ensures.followed in
    let lies = lies-recounted c.args.chain.now.cells c.args.cursor.at.number c.args.cursor.at.at
    (count_at c.args.chain.now.cells c.args.cursor.at.number - 1) held.lies c.follow-next.result.number
    c.follow-next.result.at c.follow-next.ensures.lies in
    let room = room_next g.row.N c.args.chain.now c.args.cursors.now c.requires.trim c.args.key c.args.cursor
    c.requires.found c.requires.below c.follow-next.result.number c.follow-next.ensures.number in
    let same = ap (λ m. count_at m.cells c.follow-next.result.number) left in (
      omega arith,
      (
        subst (λ m. LiesAt m.cells c.follow-next.result.number c.follow-next.result.at) (sym left) lies,
        omega (arith, room, same, c.len.ensures),
      ),
    )

pub pass_head_to-requires : goal.pass_head_to-requires
pass_head_to-requires g c =
    let at = goal.at.pass_head_to-requires g c in
    let head = (comes g at.After-enter).head (sym c.is_idle.ensures ∙ c.if-is_idle.true) in
    (omega arith, (head.0, (head.1, head.2)))

pub returns-then-is_idle-clause-whole : goal.returns-then-is_idle-clause-whole
returns-then-is_idle-clause-whole g c =
    let at = goal.at.returns-then-is_idle-clause-whole g c in
    let trim = ((comes g at.After-enter).gone (sym c.is_idle.ensures ∙ c.if-is_idle.true)).trim in
    subst (λ m. IsWhole g.row.N m c.move_to-2.new.self) (sym c.pass_head_to.ensures)
    (record { is_trim = trim; is_ahead = IsAhead-whole g.row.N _ c.move_to-2.new.self trim.is_held refl })

pub returns-else-is_idle-clause-whole : goal.returns-else-is_idle-clause-whole
returns-else-is_idle-clause-whole g c =
    let at = goal.at.returns-else-is_idle-clause-whole g c in
    let same = steps g at.After-enter in
    record {
      is_trim = ((comes g at.After-enter).busy (sym c.is_idle.ensures ∙ c.if-is_idle.false)).trim;
      is_ahead = IsAhead-stepped g.row.N c.args.chain.now c.enter.new.self
          (set c.args.cursors.now c.args.key (Some (record { at = c.args.cursor.at; place = c.args.cursor.place + 1 })))
          c.move_to-2.new.self c.requires.ahead (ap (λ m. m.given) same) (ap (λ m. m.taken) same)
          (ap (end_of g.row.N) same) (places g at.After-enter);
    }

pub returns-then-is_idle-clause-log : goal.returns-then-is_idle-clause-log
returns-then-is_idle-clause-log g c =
    let at = goal.at.returns-then-is_idle-clause-log g c in
    ap (λ m. log_of g.row.N m c.move_to-2.new.self) c.pass_head_to.ensures
    ∙ ((comes g at.After-enter).gone (sym c.is_idle.ensures ∙ c.if-is_idle.true)).log

pub returns-else-is_idle-clause-log : goal.returns-else-is_idle-clause-log
returns-else-is_idle-clause-log g c =
    let at = goal.at.returns-else-is_idle-clause-log g c in
    ((comes g at.After-enter).busy (sym c.is_idle.ensures ∙ c.if-is_idle.false)).log
