-- Lemmas on linked chunks, and each change that a call makes to them.
use Rattle.std.proofs.Common.{◌≡◌, ◌≢◌, ◌⊎◌, ℕ, ◌+◌, ◌-◌, ◌*◌, ◌<◌, ◌≤◌, List, [], ◌∷◌, ◌++◌, length, set, take, drop, Option}
use Rattle.std.proofs.Common.{Some, None, refl, sym, ap, ◌∙◌, inl, inr, arith}
use Rattle.std.proofs.lemmas.Bool.{cases_eq, cases_lt}
use Rattle.std.proofs.lemmas.List.{get_or_past, length-set, length-append, length-drop, length-take-le, take_all, drop_all}
use Rattle.std.proofs.lemmas.List.{drop-drop, drop-append-le, take-append-le, get_or_append_left}
use Rattle.std.proofs.Math.Nat.{mul-add, mul-one, mul-zero, mul-le-mul_left}
use Rattle.std.proofs.Math.Seq.{get_or-append_seam}
use denote.RawPtr.{Ptr}
use Rattle.cml_log.specs.{Address, Chunk, block_at, IsKept, row_of, link_of, row_at, link_at, items_of, IsLinked}
use Rattle.cml_log.proofs.BlockLemmas.{within_found, block_at-here, block_at-other, same_everywhere, items_of-same}
use Rattle.cml_log.proofs.BlockLemmas.{items_of-last, items_of-more, items_of-passed}

-- a number of wholes, and one more, is at most a greater number of them
pub product-next : (n i k : ℕ) → i < k → n * i + n ≤ n * k
product-next n i k less =
    let next : i + 1 ≤ k = omega (arith, less) in
    omega (arith, mul-le-mul_left n next, mul-add n i 1, mul-one n)

module _ {T : Type 0} {N : ℕ} where
  -- a chunk stays where it lies while only its content changes
  pub still_lies : (kept : List (Option (Ptr × Chunk T N))) (number other : ℕ) (at there : Ptr) (chunk changed : Chunk T N)
      → block_at kept number ≡ Some (at, chunk) → IsKept kept other there → IsKept (set kept number (Some (at, changed))) other there
  still_lies kept number other at there chunk changed found lies = elim (cases_eq other number) [
    | inl equal ↦
        let same : Some (at, chunk) ≡ Some (there, lies.0) = sym found ∙ ap (block_at kept) (sym equal) ∙ lies.1 in
        let pointer : at ≡ there = ap (pointer_or at) same in (
          changed,
          ap (block_at (set kept number (Some (at, changed)))) equal ∙ block_at-here kept number (at, chunk) (Some (at, changed)) found
              ∙ ap (λ p. Some (p, changed)) pointer,
        )
    | inr differs ↦ (lies.0, block_at-other kept number other (Some (at, changed)) differs ∙ lies.1)
  ]
    where
      pointer_or : Ptr → Option (Ptr × Chunk T N) → Ptr
      pointer_or default None = default
      pointer_or default (Some block) = block.0

  -- a chunk that was freed stays so
  pub still_gone : (kept : List (Option (Ptr × Chunk T N))) (number other : ℕ) (block : Ptr × Chunk T N) (slot : Option (Ptr × Chunk T N))
      → block_at kept number ≡ Some block → block_at kept other ≡ None → block_at (set kept number slot) other ≡ None
  still_gone kept number other block slot found gone = elim (cases_eq other number) [
    | inl equal ↦ absurd (let here : Some block ≡ None = sym found ∙ ap (block_at kept) (sym equal) ∙ gone in cc)
    | inr differs ↦ block_at-other kept number other slot differs ∙ gone
  ]

  -- a chunk's cursors change nothing of its chain
  pub IsLinked-recounted : (kept : List (Option (Ptr × Chunk T N))) (head tail : Address) (number : ℕ) (at : Ptr)
      (chunk changed : Chunk T N) → IsLinked kept head tail → block_at kept number ≡ Some (at, chunk) → changed.row.items ≡ chunk.row.items
      → changed.link ≡ chunk.link → IsLinked (set kept number (Some (at, changed))) head tail
  IsLinked-recounted kept head tail number at chunk changed linked found same_row same_link =
      let after : List (Option (Ptr × Chunk T N)) = set kept number (Some (at, changed)) in
      let items : items_of after ≡ items_of kept = items_of-same kept number (at, chunk) (Some (at, changed)) found same_row in
      record {
        order = linked.order;
        last = length-set kept number (Some (at, changed)) ∙ linked.last;
        starts = still_lies kept number head.number at head.at chunk changed found linked.starts;
        finishes = still_lies kept number tail.number at tail.at chunk changed found linked.finishes;
        gone = λ other low. still_gone kept number other (at, chunk) (Some (at, changed)) found (linked.gone other low);
        links = λ other low high.
            let next = linked.links other low high in
            let lies = still_lies kept number next.0.number at next.0.at chunk changed found (next.1, next.4) in (
              next.0,
              lies.0,
              same_everywhere link_of kept number other (at, chunk) (Some (at, changed)) found same_link ∙ next.2,
              next.3,
              lies.1,
            );
        rows = λ other low.
            same_everywhere row_of kept number other (at, chunk) (Some (at, changed)) found same_row
            ∙ linked.rows other low
            ∙ ap (λ all. take N (drop (N * (other - head.number)) all)) (sym items);
      }

  -- an item more at the tail
  module _ (kept : List (Option (Ptr × Chunk T N))) (head tail : Address) (chunk changed : Chunk T N) (item : T)
      (linked : IsLinked kept head tail) (found : block_at kept tail.number ≡ Some (tail.at, chunk))
      (row : changed.row.items ≡ chunk.row.items ++ item ∷ []) (link : changed.link ≡ chunk.link) where
    abbrev written : List (Option (Ptr × Chunk T N))
    written = set kept tail.number (Some (tail.at, changed))

    pub items_of-written : items_of written ≡ items_of kept ++ item ∷ []
    items_of-written = items_of-last kept tail.number (tail.at, chunk) (Some (tail.at, changed)) item found linked.last row

    pub IsLinked-written : N * (tail.number - head.number) ≤ length (items_of kept)
        → length (items_of kept) < N * (tail.number - head.number + 1) → IsLinked written head tail
    IsLinked-written begins ends =
        record {
          order = linked.order;
          last = length-set kept tail.number (Some (tail.at, changed)) ∙ linked.last;
          starts = still_lies kept tail.number head.number tail.at head.at chunk changed found linked.starts;
          finishes = still_lies kept tail.number tail.number tail.at tail.at chunk changed found linked.finishes;
          gone = λ other low. still_gone kept tail.number other (tail.at, chunk) (Some (tail.at, changed)) found (linked.gone other low);
          links = λ other low high.
              let next = linked.links other low high in
              let lies = still_lies kept tail.number next.0.number tail.at next.0.at chunk changed found (next.1, next.4) in (
                next.0,
                lies.0,
                same_everywhere link_of kept tail.number other (tail.at, chunk) (Some (tail.at, changed)) found link ∙ next.2,
                next.3,
                lies.1,
              );
          rows = λ other low. windows other low (cases_lt other tail.number);
        }
      where
        all : List T
        all = items_of kept

        more : ℕ → List T
        more other = take N (drop (N * (other - head.number)) (items_of written))

        joined : (other : ℕ) → N * (other - head.number) ≤ length all
            → more other ≡ take N (drop (N * (other - head.number)) all ++ item ∷ [])
        joined other within =
            ap (λ xs. take N (drop (N * (other - head.number)) xs)) items_of-written
            ∙ ap (take N) (drop-append-le (N * (other - head.number)) all (item ∷ []) within)

        windows : (other : ℕ) → head.number ≤ other → (other < tail.number) ⊎ (tail.number ≤ other) → row_at written other ≡ more other
        windows other low (inl before) =
            let differs : other ≢ tail.number = λ equal. omega (arith, equal, before) in
            let whole : N * (other - head.number) + N ≤ length all =
            omega (arith, begins, product-next N (other - head.number) (tail.number - head.number) (omega (arith, low, before))) in
            ap row_of (block_at-other kept tail.number other (Some (tail.at, changed)) differs)
            ∙ linked.rows other low
            ∙ sym (take-append-le N (drop (N * (other - head.number)) all) (item ∷ [])
            (omega (arith, length-drop (N * (other - head.number)) all, whole)))
            ∙ sym (joined other (omega (arith, whole)))
        windows other low (inr past) = elim (cases_eq other tail.number) [
          | inl equal ↦
              let last = product-next N (tail.number - head.number) (tail.number - head.number + 1) (omega arith) in
              let exact = mul-add N (tail.number - head.number) 1 in
              let one = mul-one N in
              let room : length all < N * (tail.number - head.number) + N = omega (arith, ends, exact, one) in
              let here : row_at written tail.number ≡ chunk.row.items ++ item ∷ [] =
              ap row_of (block_at-here kept tail.number (tail.at, chunk) (Some (tail.at, changed)) found) ∙ row in
              let part : chunk.row.items ≡ drop (N * (tail.number - head.number)) all = sym (ap row_of found)
              ∙ linked.rows tail.number linked.order ∙ take_all N (drop (N * (tail.number - head.number)) all)
              (omega (arith, length-drop (N * (tail.number - head.number)) all, room)) in
              ap (row_at written) equal ∙ here ∙ ap (λ xs. xs ++ item ∷ []) part
              ∙ sym (take_all N (drop (N * (tail.number - head.number)) all ++ item ∷ []) (omega (
                arith,
                length-append (drop (N * (tail.number - head.number)) all) (item ∷ []),
                length-drop (N * (tail.number - head.number)) all,
                room,
              )))
              ∙ sym (joined tail.number begins) ∙ ap more (sym equal)
          | inr differs ↦
              let far =
              product-next N (tail.number - head.number) (other - head.number) (omega (arith, low, past, linked.order, differs)) in
              let exact = mul-add N (tail.number - head.number) 1 in
              let one = mul-one N in
              let beyond : length all + 1 ≤ N * (other - head.number) = omega (arith, ends, far, exact, one) in
              let nothing : drop (N * (other - head.number)) (items_of written) ≡ [] = drop_all (N * (other - head.number))
              (items_of written) (omega (arith, ap length items_of-written, length-append all (item ∷ []), beyond)) in
              ap row_of (block_at-other kept tail.number other (Some (tail.at, changed)) differs)
              ∙ linked.rows other low
              ∙ ap (take N) (drop_all (N * (other - head.number)) all (omega (arith, beyond)))
              ∙ ap (take N) (sym nothing)
        ]

  -- one more chunk, to which the full tail is linked
  module _ (kept : List (Option (Ptr × Chunk T N))) (head tail : Address) (chunk fresh : Chunk T N) (next : Address)
      (linked : IsLinked kept head tail) (found : block_at kept tail.number ≡ Some (tail.at, chunk))
      (number : next.number ≡ tail.number + 1) (empty : fresh.row.items ≡ [])
      (full : length (items_of kept) ≡ N * (tail.number - head.number + 1)) where
    abbrev tailed : List (Option (Ptr × Chunk T N))
    tailed = kept ++ Some (next.at, fresh) ∷ []

    abbrev joined_up : List (Option (Ptr × Chunk T N))
    joined_up = set tailed tail.number (Some (tail.at, record chunk { link = Some next }))

    pub tail_stays : block_at tailed tail.number ≡ Some (tail.at, chunk)
    tail_stays = get_or_append_left kept (Some (next.at, fresh) ∷ []) None tail.number (omega (arith, linked.last)) ∙ found

    lies_there : (other : ℕ) (at : Ptr) → IsKept kept other at → IsKept joined_up other at
    lies_there other at lies =
        let before = within_found kept other (at, lies.0) lies.1 in
        still_lies tailed tail.number other tail.at at chunk (record chunk { link = Some next }) tail_stays
        (lies.0, get_or_append_left kept (Some (next.at, fresh) ∷ []) None other before ∙ lies.1)

    next_lies : IsKept joined_up next.number next.at
    next_lies =
        let here : next.number ≡ length kept = number ∙ sym linked.last in
        let there : block_at tailed next.number ≡ Some (next.at, fresh) = ap (block_at tailed) here
        ∙ get_or-append_seam kept (Some (next.at, fresh)) [] None in
        still_lies tailed tail.number next.number tail.at next.at chunk (record chunk { link = Some next }) tail_stays (fresh, there)

    pub items_of-joined : items_of joined_up ≡ items_of kept
    items_of-joined =
        items_of-same tailed tail.number (tail.at, chunk) (Some (tail.at, record chunk { link = Some next })) tail_stays refl
        ∙ items_of-more kept (Some (next.at, fresh)) empty

    pub IsLinked-joined : IsLinked joined_up head next
    IsLinked-joined =
        record {
          order = omega (arith, linked.order, number);
          last = length-set tailed tail.number (Some (tail.at, record chunk { link = Some next }))
              ∙ length-append kept (Some (next.at, fresh) ∷ []) ∙ omega (arith, linked.last, number);
          starts = lies_there head.number head.at linked.starts;
          finishes = next_lies;
          gone = λ other low.
              still_gone tailed tail.number other (tail.at, chunk) (Some (tail.at, record chunk { link = Some next })) tail_stays
              (get_or_append_left kept (Some (next.at, fresh) ∷ []) None other (omega (arith, low, linked.order, linked.last))
              ∙ linked.gone other low);
          links = λ other low high. elim (cases_eq other tail.number) [
            | inl equal ↦ (
              next,
              next_lies.0,
              ap (link_at joined_up) equal ∙ ap link_of
                  (block_at-here tailed tail.number (tail.at, chunk) (Some (tail.at, record chunk { link = Some next })) tail_stays),
              number ∙ ap (λ n. n + 1) (sym equal),
              next_lies.1,
            )
            | inr differs ↦
                let after = linked.links other low (omega (arith, high, number, differs)) in
                let lies = lies_there after.0.number after.0.at (after.1, after.4) in
                let still : block_at joined_up other ≡ block_at kept other =
                block_at-other tailed tail.number other (Some (tail.at, record chunk { link = Some next })) differs
                ∙ get_or_append_left kept (Some (next.at, fresh) ∷ []) None other (omega (arith, high, number, linked.last)) in
                (after.0, lies.0, ap link_of still ∙ after.2, after.3, lies.1)
          ];
          rows = λ other low. row_stays other ∙ linked.rows other low
              ∙ ap (λ all. take N (drop (N * (other - head.number)) all)) (sym items_of-joined);
        }
      where
        row_tailed : (other : ℕ) → row_at tailed other ≡ row_at kept other
        row_tailed other = elim (cases_lt other (length kept)) [
          | inl before ↦ ap row_of (get_or_append_left kept (Some (next.at, fresh) ∷ []) None other before)
          | inr past ↦ elim (cases_eq other (length kept)) [
            | inl equal ↦
                ap (row_at tailed) equal ∙ ap row_of (get_or-append_seam kept (Some (next.at, fresh)) [] None) ∙ empty
                ∙ sym (ap row_of (get_or_past kept other None past))
            | inr differs ↦
                ap row_of (get_or_past tailed other None (omega (arith, length-append kept (Some (next.at, fresh) ∷ []), past, differs)))
                ∙ sym (ap row_of (get_or_past kept other None past))
          ]
        ]

        row_stays : (other : ℕ) → row_at joined_up other ≡ row_at kept other
        row_stays other =
            same_everywhere row_of tailed tail.number other (tail.at, chunk)
            (Some (tail.at, record chunk { link = Some next })) tail_stays refl ∙ row_tailed other

  -- without the head, where it isn't the tail
  module _ (kept : List (Option (Ptr × Chunk T N))) (head tail next : Address) (linked : IsLinked kept head tail)
      (before : head.number < tail.number) (number : next.number ≡ head.number + 1) (lies : IsKept kept next.number next.at)
      (whole : N ≤ length (items_of kept)) where
    abbrev without : List (Option (Ptr × Chunk T N))
    without = set kept head.number None

    pub items_of-without : items_of without ≡ drop N (items_of kept)
    items_of-without =
        let size : length linked.starts.0.row.items ≡ N =
        ap length (sym (ap row_of linked.starts.1) ∙ linked.rows head.number (omega arith)
        ∙ ap (λ n. take N (drop n (items_of kept))) (nothing_before head.number))
        ∙ length-take-le N (items_of kept) whole in
        items_of-passed kept head.number (head.at, linked.starts.0) linked.gone linked.starts.1 ∙ ap (λ n. drop n (items_of kept)) size
      where
        nothing_before : (n : ℕ) → N * (n - n) ≡ 0
        nothing_before n = ap (λ m. N * m) (sub_self n) ∙ mul-zero N
          where
            sub_self : (n : ℕ) → n - n ≡ 0
            sub_self n = omega arith

    still_kept : (other : ℕ) → head.number < other → block_at without other ≡ block_at kept other
    still_kept other later = block_at-other kept head.number other None (λ equal. omega (arith, equal, later))

    pub IsLinked-without : IsLinked without next tail
    IsLinked-without =
        record {
          order = omega (arith, before, number);
          last = length-set kept head.number None ∙ linked.last;
          starts = (lies.0, still_kept next.number (omega (arith, number)) ∙ lies.1);
          finishes = (linked.finishes.0, still_kept tail.number before ∙ linked.finishes.1);
          gone = λ other low. elim (cases_eq other head.number) [
            | inl equal ↦ ap (block_at without) equal ∙ block_at-here kept head.number (head.at, linked.starts.0) None linked.starts.1
            | inr differs ↦ block_at-other kept head.number other None differs ∙ linked.gone other (omega (arith, low, number, differs))
          ];
          links = λ other low high.
              let after = linked.links other (omega (arith, low, number)) high in (
                after.0,
                after.1,
                ap link_of (still_kept other (omega (arith, low, number))) ∙ after.2,
                after.3,
                still_kept after.0.number (omega (arith, low, number, after.3)) ∙ after.4,
              );
          rows = λ other low.
              ap row_of (still_kept other (omega (arith, low, number)))
              ∙ linked.rows other (omega (arith, low, number))
              ∙ ap (λ n. take N (drop n (items_of kept))) (shifted other low)
              ∙ ap (take N) (sym (drop-drop (N * (other - next.number)) N (items_of kept)))
              ∙ ap (λ all. take N (drop (N * (other - next.number)) all)) (sym items_of-without);
        }
      where
        shifted : (other : ℕ) → next.number ≤ other → N * (other - head.number) ≡ N + N * (other - next.number)
        shifted other low =
            ap (λ n. N * n) (one_less other low) ∙ mul-add N 1 (other - next.number) ∙ ap (λ n. n + N * (other - next.number)) (mul-one N)
          where
            one_less : (other : ℕ) → next.number ≤ other → other - head.number ≡ 1 + (other - next.number)
            one_less other low = omega (arith, low, number)
