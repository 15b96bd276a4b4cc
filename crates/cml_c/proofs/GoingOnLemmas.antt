-- A room that goes on from a journal which was read back.
use Rattle.std.proofs.Common.{◌≡◌, ℕ, List, Option, Some, None, refl, sym, ap, subst, ◌∙◌, inl, inr}
use Rattle.std.specs.Prelude.{Box}
use Rattle.std.specs.declared.alloc.Global.{Global}
use Rattle.std_alloc.specs.Box.{with_value}
use Rattle.cml_board.specs.{RestoredShown}
use Rattle.cml_journal.specs.{Halt, Progress, IsSoFar, IsRestored}
use Rattle.cml_c.specs.declared.code.Code.TheVariants.{Unlawful}
use Rattle.cml_c.specs.{Slot, Owned, Resource, RoomWithSpare, number, IsLimit, Writes, IsRoomOn, OpensOn, RestoresBy, left_stopped, told_stopped}
use Rattle.cml_c.specs.declared.owned.Resource.TheVariants.{Room, JournalCheck, Spent}

-- a handle to a room on this board is written
pub opens_on : {M : Type 0} (wrap : Resource M → Owned) (restored : RestoredShown M) (from to : Slot) (told : ℕ)
    (owned : Owned) (room : Box (RoomWithSpare M) Global)
    → IsRoomOn restored room.value.room → owned ≡ wrap (Room room) → Writes owned told from to → OpensOn wrap restored from to told
opens_on wrap restored from to told owned room on is (inl written) = inl (record {
  done = written.0;
  opened = room;
  such = on;
  written = written.1 ∙ ap (λ (k : Owned). Some k) is;
})
opens_on wrap restored from to told owned room on is (inr none) = inr none

module _ {M : Type 0} (version : ℕ) (meaning : List ℕ → Option M) (wrap : Resource M → Owned) (limit : ℕ) (from : Slot)
    (reading : Box (Progress M) Global) where
  -- a reading gave a board, and so it goes
  pub goes_on : (now : Progress M) (restored : RestoredShown M) (to : Slot) (told : ℕ) → IsLimit limit → now ≡ reading.value
      → ((bytes : List ℕ) → IsSoFar version meaning bytes now → IsRestored version meaning bytes limit restored)
      → OpensOn wrap restored from to told → RestoresBy version meaning wrap limit from to reading Spent told
  goes_on now restored to told limited same read (inl opened) =
      inr (
        limited,
        inl (record {
          opened = record {
            done = opened.done;
            opened = opened.opened;
            such = record {
              restored = restored;
              read = subst (λ (p : Progress M). (bytes : List ℕ) → IsSoFar version meaning bytes p
                  → IsRestored version meaning bytes limit restored) same read;
              on = opened.such;
            };
            written = opened.written;
          };
          spent = refl;
        }),
      )
  goes_on now restored to told limited same read (inr none) =
      inr (limited, inr (inr (record { code = none.0; kept = refl; slot = none.1 })))

  -- it gave none, and is as it was
  pub gives_none : (now new : Progress M) (told : ℕ) → IsLimit limit → now ≡ reading.value → reading.value.halt ≡ None
      → (new ≡ now) × ((bytes : List ℕ) → IsSoFar version meaning bytes now → ⊥) → told ≡ number Unlawful
      → RestoresBy version meaning wrap limit from from reading (JournalCheck (with_value reading new)) told
  gives_none now new told limited same running stopped code =
      inr (
        limited,
        inr (inl (record {
          never = subst (λ (p : Progress M). (bytes : List ℕ) → IsSoFar version meaning bytes p → ⊥) same stopped.1;
          none = record {
            code = code ∙ ap (λ (h : Option Halt). number (told_stopped h)) (sym running);
            kept = ap (λ (p : Progress M). JournalCheck (with_value reading p)) (stopped.0 ∙ same)
                ∙ ap (λ (h : Option Halt). left_stopped reading h) (sym running);
            slot = refl;
          };
        })),
      )
