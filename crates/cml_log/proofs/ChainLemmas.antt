-- Lemmas on a chain of chunks, and on what the log sees of it.
use Rattle.std.proofs.Common.{◌≡◌, ℕ, zero, suc, ◌+◌, ◌-◌, ◌*◌, ◌/◌, ◌%◌, ◌<◌, ◌≤◌, List, [], ◌∷◌, ◌++◌, length, set, map, take, drop}
use Rattle.std.proofs.Common.{Option, Some, None, unwrap_or, refl, sym, ap, subst, ◌∙◌, inl, inr, arith}
use Rattle.std.specs.List.{slice_get}
use Rattle.std.proofs.Math.Nat.{zero-div, mul-add, mul-one, mul-zero, mul-div-le, mod-lt}
use Rattle.std.proofs.Math.Seq.{drop-nil, map-set_same, get_or-append_seam}
use Rattle.std.proofs.lemmas.Bool.{cases_eq, cases_lt}
use Rattle.std.proofs.lemmas.Nat.{div-mul-add, div-add-mod'}
use Rattle.std.proofs.lemmas.List.{get_or_past, get_or_append_left, length-set, length-append, length-drop, take_all, set-append_left}
use Rattle.std.proofs.lemmas.List.{length-take-le, map-set, map-append}
use denote.RawPtr.{Ptr}
use Rattle.cml_log.specs.{Address, Chunk, block_at, IsKept, row_of, cell_of, row_at, link_at, items_of, Rewrites, with_row, with_link}
use Rattle.cml_log.specs.{taken_of, taken_at, with_taken, unwritten}
use Rattle.cml_log.specs.{with_cursors, Chunks, cell_at, count_of, count_at, LiesAt, end_of, passed, with_count, Pushed, IsLinked, IsChain}
use Rattle.cml_log.proofs.BlockLemmas.{kept_where_lies, lies_where_kept, block_at-here, block_at-other, same_everywhere, taken_at-more, items_of-same}
use Rattle.cml_log.proofs.LinkedLemmas.{product-next, IsLinked-recounted, items_of-written, IsLinked-written, items_of-joined}
use Rattle.cml_log.proofs.LinkedLemmas.{IsLinked-joined, items_of-without, IsLinked-without}

-- the first items, looked up among all
slice_get-take : {X : Type 0} (n : ℕ) (xs : List X) (i : ℕ) → i < n → slice_get (take n xs) i ≡ slice_get xs i
slice_get-take n [] i below = ap (λ ys. slice_get ys i) (take_all n [] (omega arith))
slice_get-take zero (x ∷ xs) i below = absurd (omega (arith, below))
slice_get-take (suc n) (x ∷ xs) zero below = refl
slice_get-take (suc n) (x ∷ xs) (suc i) below = slice_get-take n xs i (omega (arith, below))

module _ {T : Type 0} {N : ℕ} where
  -- what the log sees of a chain
  abbrev pub shown : List (Option (Ptr × Chunk T N)) → ℕ → ℕ → ℕ → Chunks T
  shown kept made given followed =
      record {
        given = given;
        items = items_of kept;
        cells = map cell_of kept;
        made = made;
        followed = followed;
        taken = taken_at kept given;
      }

  -- the counts are the same, wherever they are
  pub shown-at : (kept : List (Option (Ptr × Chunk T N))) (made given followed made' given' followed' : ℕ)
      → made' ≡ made → given' ≡ given → followed' ≡ followed → shown kept made' given' followed' ≡ shown kept made given followed
  shown-at kept made given followed made' given' followed' same_made same_given same_followed =
      ap (λ n. shown kept n given' followed') same_made ∙ ap (λ n. shown kept made n followed') same_given
      ∙ ap (shown kept made given) same_followed

  pub IsChain-at : (kept : List (Option (Ptr × Chunk T N))) (head tail : Address) (next made given made' given' : ℕ)
      → IsChain kept head tail next made given → made' ≡ made → given' ≡ given → IsChain kept head tail next made' given'
  IsChain-at kept head tail next made given made' given' chain same_made same_given =
      record {
        holds_one = chain.holds_one;
        small = chain.small;
        linked = chain.linked;
        ends = chain.ends;
        in_tail = chain.in_tail;
        bounded = chain.bounded;
        made_is = same_made ∙ chain.made_is;
        given_is = same_given ∙ chain.given_is;
        whole = chain.whole;
      }

  -- one chunk alone, in which nothing is
  abbrev bare : Chunk T N
  bare = record { row = unwritten; link = None; cursors = 0 }

  pub taken-one : (kept : List (Option (Ptr × Chunk T N))) (head : Address) (number : ℕ) → kept ≡ Some (head.at, bare) ∷ []
      → taken_at kept number ≡ 0
  taken-one kept head number alone = ap (λ k. taken_at k number) alone ∙ none number
    where
      none : (number : ℕ) → taken_at (Some (head.at, bare) ∷ []) number ≡ 0
      none zero = refl
      none (suc number) = refl

  pub IsChain-one : (kept : List (Option (Ptr × Chunk T N))) (head : Address) (made given : ℕ) → kept ≡ Some (head.at, bare) ∷ []
      → 0 < N → N ≤ 1024 → head.number ≡ 0 → made ≡ 1 → given ≡ 0 → IsChain kept head head 0 made given
  IsChain-one kept head made given alone one small first counted none =
      let there : block_at (Some (head.at, bare) ∷ []) head.number ≡ Some (head.at, bare) =
      ap (block_at (Some (head.at, bare) ∷ [])) first in
      subst (λ k. IsChain k head head 0 made given) (sym alone)
      record {
        holds_one = one;
        small = small;
        linked = record {
          order = omega arith;
          last = omega (arith, first);
          starts = (bare, there);
          finishes = (bare, there);
          gone = λ number before. absurd (omega (arith, before, first));
          links = λ number low high. absurd (omega (arith, low, high));
          rows = λ number low. row_one number ∙ sym (ap (take N) (drop-nil (N * (number - head.number))) ∙ take_all N [] (omega arith));
        };
        ends = omega (arith, ap (λ n. N * n) first, mul-zero N);
        in_tail = zero-div N ∙ sym first;
        bounded = omega arith;
        made_is = counted;
        given_is = none ∙ sym first;
        whole = λ number later. taken-one _ head number refl;
      }
    where
      row_one : (number : ℕ) → row_at (Some (head.at, bare) ∷ []) number ≡ []
      row_one zero = refl
      row_one (suc number) = refl

  module _ (kept : List (Option (Ptr × Chunk T N))) (head tail : Address) (next made given : ℕ)
      (chain : IsChain kept head tail next made given) where
    pub end_shown : (followed : ℕ) → end_of N (shown kept made given followed) ≡ next
    end_shown followed = ap (λ n. N * n + length (items_of kept)) chain.given_is ∙ sym chain.ends

    -- the tail's part of the items
    from_head : N * tail.number ≡ N * head.number + N * (tail.number - head.number)
    from_head = ap (λ n. N * n) (split chain.linked.order) ∙ mul-add N head.number (tail.number - head.number)
      where
        split : head.number ≤ tail.number → tail.number ≡ head.number + (tail.number - head.number)
        split low = omega (arith, low)

    parted : tail.number * N + next % N ≡ next
    parted = ap (λ n. n * N + next % N) (sym chain.in_tail) ∙ div-add-mod' next N

    begins_low : N * tail.number ≤ next
    begins_low = subst (λ n. N * n ≤ next) chain.in_tail (mul-div-le next N)

    turned : (a b : ℕ) → a * b ≡ b * a
    turned a b = omega arith

    pub begins : N * (tail.number - head.number) ≤ length (items_of kept)
    begins = omega (arith, from_head, begins_low, chain.ends)

    pub within : next % N < N
    within = mod-lt next chain.holds_one

    pub written_in_tail : length (items_of kept) ≡ N * (tail.number - head.number) + next % N
    written_in_tail = omega (arith, from_head, parted, turned tail.number N, chain.ends)

    pub ends : length (items_of kept) < N * (tail.number - head.number + 1)
    ends = omega (arith, written_in_tail, within, mul-add N (tail.number - head.number) 1, mul-one N)

    pub slot_is : next % N ≡ length (row_at kept tail.number)
    slot_is =
        let part = length-drop (N * (tail.number - head.number)) (items_of kept) in
        let size : length (drop (N * (tail.number - head.number)) (items_of kept)) ≡ next % N = omega (arith, part, written_in_tail) in
        sym (ap length (chain.linked.rows tail.number chain.linked.order
        ∙ take_all N (drop (N * (tail.number - head.number)) (items_of kept)) (omega (arith, size, within))) ∙ size)

    -- an item more in the tail
    module _ (after : List (Option (Ptr × Chunk T N))) (item : T)
        (writes : Rewrites kept after tail.number tail.at (with_row (row_at kept tail.number ++ item ∷ []))) where
      row_more : row_at kept tail.number ++ item ∷ [] ≡ writes.chunk.row.items ++ item ∷ []
      row_more = ap (λ b. row_of b ++ item ∷ []) writes.found

      pub linked-pushed : IsLinked after head tail
      linked-pushed =
          subst (λ k. IsLinked k head tail) (sym writes.kept)
          (IsLinked-written kept head tail writes.chunk
          (with_row (row_at kept tail.number ++ item ∷ []) writes.chunk) item chain.linked writes.found row_more refl begins ends)

      pub items-pushed : items_of after ≡ items_of kept ++ item ∷ []
      items-pushed =
          ap items_of writes.kept
          ∙ items_of-written kept head tail writes.chunk
          (with_row (row_at kept tail.number ++ item ∷ []) writes.chunk) item chain.linked writes.found row_more refl

      pub cells-pushed : map cell_of after ≡ map cell_of kept
      cells-pushed =
          ap (map cell_of) writes.kept
          ∙ map-set_same cell_of kept tail.number (Some (tail.at, with_row (row_at kept tail.number ++ item ∷ []) writes.chunk)) None
          (sym (ap cell_of writes.found))

      pub taken-pushed : (number : ℕ) → taken_at after number ≡ taken_at kept number
      taken-pushed number =
          ap (λ k. taken_at k number) writes.kept
          ∙ same_everywhere taken_of kept tail.number number (tail.at, writes.chunk)
          (Some (tail.at, with_row (row_at kept tail.number ++ item ∷ []) writes.chunk)) writes.found refl

      size-pushed : length (items_of after) ≡ length (items_of kept) + 1
      size-pushed = ap length items-pushed ∙ length-append (items_of kept) (item ∷ [])

      pub IsChain-pushed : next % N + 1 < N → next < 18446744073709551614 → IsChain after head tail (next + 1) made given
      IsChain-pushed room below =
          record {
            holds_one = chain.holds_one;
            small = chain.small;
            linked = linked-pushed;
            ends = omega (arith, chain.ends, size-pushed);
            in_tail = ap (λ n. n / N) (sym (omega_next parted)) ∙ div-mul-add tail.number N (next % N + 1) room;
            bounded = omega (arith, below);
            made_is = chain.made_is ∙ sym (ap length writes.kept
                ∙ length-set kept tail.number (Some (tail.at, with_row (row_at kept tail.number ++ item ∷ []) writes.chunk)));
            given_is = chain.given_is;
            whole = λ number later. taken-pushed number ∙ chain.whole number later;
          }
        where
          omega_next : tail.number * N + next % N ≡ next → tail.number * N + (next % N + 1) ≡ next + 1
          omega_next same = omega (arith, same)

      pub Pushed-within : (followed : ℕ) → Pushed N (shown kept made given followed) (shown after made given followed) item
      Pushed-within followed =
          record {
            given = refl;
            items = items-pushed;
            followed = refl;
            taken = taken-pushed given;
            lies = λ number count at there. ap (λ cells. cell_at cells number) cells-pushed ∙ there;
            counts = λ number. ap (λ cells. count_at cells number) cells-pushed;
          }

      -- the tail lies where it lay while one more is put after it
      pub tail_put : (tailed : List (Option (Ptr × Chunk T N))) (slot : Option (Ptr × Chunk T N)) → tailed ≡ after ++ slot ∷ []
          → IsKept tailed tail.number tail.at
      tail_put tailed slot puts = (
        linked-pushed.finishes.0,
        ap (λ k. block_at k tail.number) puts
            ∙ get_or_append_left after (slot ∷ []) None tail.number (omega (arith, linked-pushed.last))
            ∙ linked-pushed.finishes.1,
      )

      -- and a chunk more after it
      module _ (tailed joined : List (Option (Ptr × Chunk T N))) (more : Address) (fresh : Chunk T N)
          (puts : tailed ≡ after ++ Some (more.at, fresh) ∷ []) (numbered : more.number ≡ tail.number + 1)
          (empty : fresh ≡ record { row = unwritten; link = None; cursors = 0 })
          (links : Rewrites tailed joined tail.number tail.at (with_link (Some more))) (last : next % N + 1 ≡ N) where
        tail_found : block_at after tail.number ≡ Some (tail.at, links.chunk)
        tail_found =
            sym (get_or_append_left after (Some (more.at, fresh) ∷ []) None tail.number (omega (arith, linked-pushed.last)))
            ∙ ap (λ k. block_at k tail.number) (sym puts) ∙ links.found

        full : length (items_of after) ≡ N * (tail.number - head.number + 1)
        full = omega (arith, size-pushed, written_in_tail, last, mul-add N (tail.number - head.number) 1, mul-one N)

        joined_is : joined ≡ set (after ++ Some (more.at, fresh) ∷ []) tail.number (Some (tail.at, record links.chunk { link = Some more }))
        joined_is = links.kept ∙ ap (λ k. set k tail.number (Some (tail.at, with_link (Some more) links.chunk))) puts

        items-joined : items_of joined ≡ items_of after
        items-joined =
            ap items_of joined_is
            ∙ items_of-joined after head tail links.chunk fresh more linked-pushed tail_found numbered (ap (λ c. c.row.items) empty) full

        taken-joined : (number : ℕ) → taken_at joined number ≡ taken_at kept number
        taken-joined number =
            ap (λ k. taken_at k number) links.kept
            ∙ same_everywhere taken_of tailed tail.number number (tail.at, links.chunk)
            (Some (tail.at, with_link (Some more) links.chunk)) links.found refl
            ∙ ap (λ k. taken_at k number) puts
            ∙ taken_at-more after (Some (more.at, fresh)) number (ap (λ c. c.row.taken) empty)
            ∙ taken-pushed number

        cells-joined : map cell_of joined ≡ map cell_of kept ++ Some (more.at, 0) ∷ []
        cells-joined =
            ap (map cell_of) links.kept
            ∙ map-set_same cell_of tailed tail.number (Some (tail.at, with_link (Some more) links.chunk)) None
            (sym (ap cell_of links.found))
            ∙ ap (map cell_of) puts
            ∙ map-append cell_of after (Some (more.at, fresh) ∷ [])
            ∙ ap (λ cells. cells ++ Some (more.at, fresh.cursors) ∷ []) cells-pushed
            ∙ ap (λ c. map cell_of kept ++ Some (more.at, c.cursors) ∷ []) empty

        pub IsChain-joined : (made' : ℕ) → made' ≡ made + 1 → next < 18446744073709551614 → IsChain joined head more (next + 1) made' given
        IsChain-joined made' counted below =
            let linked = subst (λ k. IsLinked k head more) (sym joined_is)
            (IsLinked-joined after head tail links.chunk fresh more linked-pushed tail_found numbered (ap (λ c. c.row.items) empty) full) in
            record {
              holds_one = chain.holds_one;
              small = chain.small;
              linked = linked;
              ends = omega (arith, chain.ends, ap length items-joined, size-pushed);
              in_tail = ap (λ n. n / N) (sym (whole parted (mul-suc' tail.number)))
                  ∙ div-mul-add (tail.number + 1) N 0 chain.holds_one ∙ sym numbered;
              bounded = omega (arith, below);
              made_is = omega (arith, counted, chain.made_is, chain.linked.last, linked.last, numbered);
              given_is = chain.given_is;
              whole = λ number later. taken-joined number ∙ chain.whole number later;
            }
          where
            mul-suc' : (n : ℕ) → (n + 1) * N ≡ n * N + N
            mul-suc' n = omega arith

            whole : tail.number * N + next % N ≡ next → (tail.number + 1) * N ≡ tail.number * N + N → (tail.number + 1) * N + 0 ≡ next + 1
            whole same product = omega (arith, same, product, last)

        pub Pushed-joined : (made' followed : ℕ) → Pushed N (shown kept made given followed) (shown joined made' given followed) item
        Pushed-joined made' followed =
            record {
              given = refl;
              items = items-joined ∙ items-pushed;
              followed = refl;
              taken = taken-joined given;
              lies = λ number count at there.
                  ap (λ cells. cell_at cells number) cells-joined
                  ∙ get_or_append_left (map cell_of kept) (Some (more.at, 0) ∷ []) None number (cell_within number count at there) ∙ there;
              counts = λ number. ap (λ cells. count_at cells number) cells-joined ∙ counted number;
            }
          where
            cell_within : (number count : ℕ) (at : Ptr) → cell_at (map cell_of kept) number ≡ Some (at, count)
                → number < length (map cell_of kept)
            cell_within number count at there = elim (cases_lt number (length (map cell_of kept))) [
              | inl before ↦ before
              | inr past ↦ absurd (let none = get_or_past (map cell_of kept) number None past in cc)
            ]

            counted : (number : ℕ) → count_at (map cell_of kept ++ Some (more.at, 0) ∷ []) number ≡ count_at (map cell_of kept) number
            counted number = elim (cases_lt number (length (map cell_of kept))) [
              | inl before ↦ ap count_of (get_or_append_left (map cell_of kept) (Some (more.at, 0) ∷ []) None number before)
              | inr past ↦ elim (cases_eq number (length (map cell_of kept))) [
                | inl equal ↦
                    ap (count_at (map cell_of kept ++ Some (more.at, 0) ∷ [])) equal
                    ∙ ap count_of (get_or-append_seam (map cell_of kept) (Some (more.at, 0)) [] None)
                    ∙ sym (ap count_of (get_or_past (map cell_of kept) number None past))
                | inr differs ↦
                    ap count_of (get_or_past (map cell_of kept ++ Some (more.at, 0) ∷ []) number None
                    (omega (arith, length-append (map cell_of kept) (Some (more.at, 0) ∷ []), past, differs)))
                    ∙ sym (ap count_of (get_or_past (map cell_of kept) number None past))
              ]
            ]

    -- a chunk is put after, and then the tail is written and linked to it
    module _ (grown written joined : List (Option (Ptr × Chunk T N))) (more : Address) (fresh : Chunk T N) (item : T)
        (puts : grown ≡ kept ++ Some (more.at, fresh) ∷ []) where
      tail_before : block_at grown tail.number ≡ block_at kept tail.number
      tail_before =
          ap (λ k. block_at k tail.number) puts
          ∙ get_or_append_left kept (Some (more.at, fresh) ∷ []) None tail.number (omega (arith, chain.linked.last))

      pub tail_grown : IsKept grown tail.number tail.at
      tail_grown = (chain.linked.finishes.0, tail_before ∙ chain.linked.finishes.1)

      pub slot_grown : next % N ≡ length (row_at grown tail.number)
      slot_grown = slot_is ∙ ap (λ b. length (row_of b)) (sym tail_before)

      module _ (writes : Rewrites grown written tail.number tail.at (with_row (row_at grown tail.number ++ item ∷ []))) where
        abbrev after : List (Option (Ptr × Chunk T N))
        after = set kept tail.number (Some (tail.at, with_row (row_at kept tail.number ++ item ∷ []) writes.chunk))

        after_writes : Rewrites kept after tail.number tail.at (with_row (row_at kept tail.number ++ item ∷ []))
        after_writes = record { chunk = writes.chunk; found = sym tail_before ∙ writes.found; kept = refl }

        written_is : written ≡ after ++ Some (more.at, fresh) ∷ []
        written_is =
            writes.kept
            ∙ ap (λ k. set k tail.number (Some (tail.at, with_row (row_at grown tail.number ++ item ∷ []) writes.chunk))) puts
            ∙ ap (λ b. set (kept ++ Some (more.at, fresh) ∷ []) tail.number (Some (tail.at, with_row (row_of b ++ item ∷ []) writes.chunk)))
            tail_before
            ∙ set-append_left kept (Some (more.at, fresh) ∷ []) tail.number
            (Some (tail.at, with_row (row_at kept tail.number ++ item ∷ []) writes.chunk)) (omega (arith, chain.linked.last))

        pub tail_written : IsKept written tail.number tail.at
        tail_written = tail_put after item after_writes written (Some (more.at, fresh)) written_is

        module _ (numbered : more.number ≡ tail.number + 1) (empty : fresh ≡ record { row = unwritten; link = None; cursors = 0 })
            (links : Rewrites written joined tail.number tail.at (with_link (Some more))) (last : next % N + 1 ≡ N) where
          pub IsChain-grown : (made' : ℕ) → made' ≡ made + 1 → next < 18446744073709551614 → IsChain joined head more (next + 1) made' given
          IsChain-grown = IsChain-joined after item after_writes written joined more fresh written_is numbered empty links last

          pub Pushed-grown : (made' followed : ℕ) → Pushed N (shown kept made given followed) (shown joined made' given followed) item
          Pushed-grown = Pushed-joined after item after_writes written joined more fresh written_is numbered empty links last

    -- another number of cursors in a chunk
    module _ (after : List (Option (Ptr × Chunk T N))) (number : ℕ) (at : Ptr) (count : ℕ)
        (counts : Rewrites kept after number at (with_cursors count)) where
      items-recounted : items_of after ≡ items_of kept
      items-recounted = ap items_of counts.kept
          ∙ items_of-same kept number (at, counts.chunk) (Some (at, with_cursors count counts.chunk)) counts.found refl

      taken-recounted : (other : ℕ) → taken_at after other ≡ taken_at kept other
      taken-recounted other =
          ap (λ k. taken_at k other) counts.kept
          ∙ same_everywhere taken_of kept number other (at, counts.chunk) (Some (at, with_cursors count counts.chunk)) counts.found refl

      pub IsChain-recounted : IsChain after head tail next made given
      IsChain-recounted =
          record {
            holds_one = chain.holds_one;
            small = chain.small;
            linked = subst (λ k. IsLinked k head tail) (sym counts.kept) (IsLinked-recounted kept head tail number at counts.chunk
                (with_cursors count counts.chunk) chain.linked counts.found refl refl);
            ends = omega (arith, chain.ends, ap length items-recounted);
            in_tail = chain.in_tail;
            bounded = chain.bounded;
            made_is = chain.made_is ∙ sym (ap length counts.kept ∙ length-set kept number (Some (at, with_cursors count counts.chunk)));
            given_is = chain.given_is;
            whole = λ other later. taken-recounted other ∙ chain.whole other later;
          }

      pub shown-recounted : (followed : ℕ) → shown after made given followed ≡ with_count (shown kept made given followed) number at count
      shown-recounted followed =
          ap (λ items. changed items (map cell_of after) (taken_at after given)) items-recounted
          ∙ ap (λ cells. changed (items_of kept) cells (taken_at after given))
          (ap (map cell_of) counts.kept ∙ map-set cell_of kept number (Some (at, with_cursors count counts.chunk)))
          ∙ ap (changed (items_of kept) (set (map cell_of kept) number (Some (at, count)))) (taken-recounted given)
        where
          changed : List T → List (Option (Ptr × ℕ)) → ℕ → Chunks T
          changed items cells taken =
              record { given = given; items = items; cells = cells; made = made; followed = followed; taken = taken }

    -- an item moved out of the head
    module _ (after : List (Option (Ptr × Chunk T N))) (at : Ptr) (taken : ℕ)
        (takes : Rewrites kept after head.number at (with_taken taken)) where
      items-taken : items_of after ≡ items_of kept
      items-taken = ap items_of takes.kept
          ∙ items_of-same kept head.number (at, takes.chunk) (Some (at, with_taken taken takes.chunk)) takes.found refl

      pub IsChain-taken : IsChain after head tail next made given
      IsChain-taken =
          record {
            holds_one = chain.holds_one;
            small = chain.small;
            linked = subst (λ k. IsLinked k head tail) (sym takes.kept) (IsLinked-recounted kept head tail head.number at takes.chunk
                (with_taken taken takes.chunk) chain.linked takes.found refl refl);
            ends = omega (arith, chain.ends, ap length items-taken);
            in_tail = chain.in_tail;
            bounded = chain.bounded;
            made_is = chain.made_is ∙ sym (ap length takes.kept ∙ length-set kept head.number (Some (at, with_taken taken takes.chunk)));
            given_is = chain.given_is;
            whole = λ other later.
                ap (λ k. taken_at k other) takes.kept
                ∙ ap taken_of (block_at-other kept head.number other (Some (at, with_taken taken takes.chunk))
                (λ equal. omega (arith, equal, later)))
                ∙ chain.whole other later;
          }

      pub shown-taken : (followed : ℕ) → shown after made given followed ≡ record (shown kept made given followed) { taken = taken }
      shown-taken followed =
          ap (λ items. changed items (map cell_of after) (taken_at after given)) items-taken
          ∙ ap (λ cells. changed (items_of kept) cells (taken_at after given))
          (ap (map cell_of) takes.kept
          ∙ map-set_same cell_of kept head.number (Some (at, with_taken taken takes.chunk)) None (sym (ap cell_of takes.found)))
          ∙ ap (changed (items_of kept) (map cell_of kept))
          (ap (taken_at after) chain.given_is ∙ ap (λ k. taken_at k head.number) takes.kept
          ∙ ap taken_of (block_at-here kept head.number (at, takes.chunk) (Some (at, with_taken taken takes.chunk)) takes.found))
        where
          changed : List T → List (Option (Ptr × ℕ)) → ℕ → Chunks T
          changed items cells taken =
              record { given = given; items = items; cells = cells; made = made; followed = followed; taken = taken }

    -- without the head
    module _ (further : Address) (before : head.number < tail.number) (numbered : further.number ≡ head.number + 1)
        (lies : IsKept kept further.number further.at) where
      whole_head : N ≤ length (items_of kept)
      whole_head = omega (arith, begins, product_one (tail.number - head.number) (omega (arith, before)))
        where
          product_one : (k : ℕ) → 1 ≤ k → N ≤ N * k
          product_one k low = omega (arith, product-next N 0 k low, mul-zero N)

      pub without_head : (now : List (Option (Ptr × Chunk T N))) (made' given' followed followed' : ℕ) → now ≡ set kept head.number None
          → made' ≡ made → given' ≡ given + 1 → followed' ≡ followed → IsChain now further tail next made' given'
          × (shown now made' given' followed' ≡ passed N (shown kept made given followed))
      without_head now made' given' followed followed' is same_made counted same =
          let less = items_of-without kept head tail further chain.linked before numbered lies whole_head in
          let chained : IsChain (set kept head.number None) further tail next made' given' = record {
            holds_one = chain.holds_one;
            small = chain.small;
            linked = IsLinked-without kept head tail further chain.linked before numbered lies whole_head;
            ends = omega (
              arith,
              chain.ends,
              ap length less,
              length-drop N (items_of kept),
              whole_head,
              ap (λ n. N * n) numbered,
              mul-add N head.number 1,
              mul-one N,
            );
            in_tail = chain.in_tail;
            bounded = chain.bounded;
            made_is = same_made ∙ chain.made_is ∙ sym (length-set kept head.number None);
            given_is = counted ∙ ap (λ n. n + 1) chain.given_is ∙ sym numbered;
            whole = λ number later. whole_after number (omega (arith, later, numbered));
          } in (
            subst (λ k. IsChain k further tail next made' given') (sym is) chained,
            ap (λ k. shown k made' given' followed') is
                ∙ shown-at (set kept head.number None) made (given + 1) followed made' given' followed' same_made counted same
                ∙ ap (λ items. changed items (map cell_of (set kept head.number None)) (taken_at (set kept head.number None) (given + 1)))
                less
                ∙ ap (λ cells. changed (drop N (items_of kept)) cells (taken_at (set kept head.number None) (given + 1)))
                (map-set cell_of kept head.number None ∙ ap (λ n. set (map cell_of kept) n None) (sym chain.given_is))
                ∙ ap (changed (drop N (items_of kept)) (set (map cell_of kept) given None))
                (whole_after (given + 1) (omega (arith, chain.given_is))),
          )
        where
          changed : List T → List (Option (Ptr × ℕ)) → ℕ → Chunks T
          changed items cells taken =
              record { given = given + 1; items = items; cells = cells; made = made; followed = followed; taken = taken }

          whole_after : (number : ℕ) → head.number < number → taken_at (set kept head.number None) number ≡ 0
          whole_after number later =
              ap taken_of (block_at-other kept head.number number None (λ equal. omega (arith, equal, later))) ∙ chain.whole number later

    -- a kept chunk isn't before the head
    pub head_before : (number : ℕ) (at : Ptr) → IsKept kept number at → head.number ≤ number
    head_before number at there = elim (cases_lt number head.number) [
      | inl before ↦ absurd (let none = chain.linked.gone number before in let found = there.1 in cc)
      | inr past ↦ past
    ]

    -- what a chunk holds at a slot
    pub item_shown : (number : ℕ) (at : Ptr) (slot : ℕ) → slot < N → IsKept kept number at
        → slice_get (row_at kept number) slot ≡ slice_get (drop (N * (number - given)) (items_of kept)) slot
    item_shown number at slot inside there =
        ap (λ row. slice_get row slot) (chain.linked.rows number (head_before number at there))
        ∙ slice_get-take N (drop (N * (number - head.number)) (items_of kept)) slot inside
        ∙ ap (λ n. slice_get (drop (N * (number - n)) (items_of kept)) slot) (sym chain.given_is)

    -- no item was moved out of a chunk after a place that is after all that were
    pub left_there : (number : ℕ) (at : Ptr) (slot : ℕ) → IsKept kept number at
        → N * given + taken_at kept given ≤ N * number + slot → taken_at kept number ≤ slot
    left_there number at slot there low = elim (cases_eq number head.number) [
      | inl equal ↦
          let same : number ≡ given = equal ∙ sym chain.given_is in
          omega (arith, ap (taken_at kept) same, ap (λ n. N * n) same, low)
      | inr differs ↦ omega (arith, chain.whole number (omega (arith, head_before number at there, differs)))
    ]

    -- the head has each item of its places
    pub head_written : (slot : ℕ) → slot < N → slot < length (items_of kept) → slot < length (row_at kept head.number)
    head_written slot within inside = elim (cases_lt N (length (items_of kept))) [
      | inl more ↦ omega (arith, within, size (length-take-le N (items_of kept) (omega (arith, more))))
      | inr few ↦ omega (arith, inside, size (ap length (take_all N (items_of kept) few)))
    ]
      where
        nothing : (n : ℕ) → N * (n - n) ≡ 0
        nothing n = omega (arith, mul-zero N, ap (λ m. N * m) (self n))
          where
            self : (n : ℕ) → n - n ≡ 0
            self n = omega arith

        size : {n : ℕ} → length (take N (items_of kept)) ≡ n → length (row_at kept head.number) ≡ n
        size long =
            ap length (chain.linked.rows head.number (omega arith))
            ∙ ap (λ n. length (take N (drop n (items_of kept)))) (nothing head.number) ∙ long

    -- where the head is the tail, nothing is kept without it
    pub gone_with_head : tail.number ≤ head.number → (number : ℕ) → block_at (set kept head.number None) number ≡ None
    gone_with_head last number = elim (cases_eq number head.number) [
      | inl equal ↦ ap (block_at (set kept head.number None)) equal
          ∙ block_at-here kept head.number (head.at, chain.linked.starts.0) None chain.linked.starts.1
      | inr differs ↦ block_at-other kept head.number number None differs ∙ elim (cases_lt number head.number) [
        | inl before ↦ chain.linked.gone number before
        | inr past ↦ get_or_past kept number None (omega (arith, past, differs, last, chain.linked.last))
      ]
    ]

    -- where a chunk's link leads, and that the next one lies there
    pub link_leads : (number : ℕ) (at : Ptr) → IsKept kept number at → number < next / N
        → (to : Address) × (link_at kept number ≡ Some to) × (to.number ≡ number + 1) × LiesAt (map cell_of kept) to.number to.at
    link_leads number at there before =
        let after = chain.linked.links number (head_before number at there) (omega (arith, before, chain.in_tail)) in
        (after.0, after.2, after.3, lies_where_kept kept after.0.number after.0.at (after.1, after.4))

    -- so does what is read of it, as the log sees it
    pub leads_on : (c : Chunks T) (followed : ℕ) (at to : Address) → shown kept made given followed ≡ c
        → LiesAt c.cells at.number at.at → at.number < end_of N c / N → to ≡ unwrap_or (link_at kept at.number) at
        → (to.number ≡ at.number + 1) × LiesAt c.cells to.number to.at
    leads_on c followed at to seen lies before read =
        let there = kept_where_lies kept at.number at.at (subst (λ m. LiesAt m.cells at.number at.at) (sym seen) lies) in
        let end = ap (end_of N) (sym seen) ∙ end_shown followed in
        let leads = link_leads at.number at.at there (subst (λ n. at.number < n / N) end before) in
        subst (λ (a : Address). (a.number ≡ at.number + 1) × LiesAt c.cells a.number a.at)
        (sym (read ∙ ap (λ link. unwrap_or link at) leads.1))
        (leads.2, subst (λ m. LiesAt m.cells leads.0.number leads.0.at) seen leads.3)
