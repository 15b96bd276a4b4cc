-- How the links of the numbers make queues.
use Rattle.std.specs.Prelude.{◌≡◌, ℕ, zero, suc, ◌<◌, true, false, List, [], ◌∷◌, length, map, unwrap_or, slice_get}
use Rattle.std.specs.Prelude.{slice_set, Option, Some, None, IfSome}
use Rattle.cml_room.specs.declared.queues.links.Link.{Link}
use Rattle.cml_room.specs.declared.queues.links.Ends.{Ends}
use Rattle.cml_room.specs.Queues.{QueuesShown, has}

-- what the link leads to, if there is one
abbrev pub next_in : Option Link → Option ℕ
next_in None = None
next_in (Some link) = link.next

-- what the link comes after, if there is one
abbrev pub previous_in : Option Link → Option ℕ
previous_in None = None
previous_in (Some link) = link.previous

-- the numbers that a walk along the links passes in this many steps
abbrev pub walk : ℕ → List Link → Option ℕ → List ℕ
walk zero links at = []
walk (suc steps) links None = []
walk (suc steps) links (Some k) = k ∷ walk steps links (next_in (slice_get links k))

-- the queue that begins at the first of these ends
abbrev pub queue_from : List Link → Ends → List ℕ
queue_from links ends = walk (length links) links ends.first

-- what the links and the ends show, of numbers from 0 on
abbrev pub shown_by : List Link → List Ends → QueuesShown
shown_by links ends = record { queues = map (queue_from links) ends; first = 0; bound = length links }

-- the first of the list, or what comes after it
abbrev pub head_or : List ℕ → Option ℕ → Option ℕ
head_or [] rest = rest
head_or (k ∷ ks) rest = Some k

-- the last of the list, or what comes before it
abbrev pub last_or : Option ℕ → List ℕ → Option ℕ
last_or before [] = before
last_or before (k ∷ ks) = last_or (Some k) ks

abbrev pub link_of : Option ℕ → Option ℕ → Link
link_of previous next = record { previous = previous; next = next }

-- each number of the list links the one before it with the one after it
abbrev pub IsChain : List Link → Option ℕ → List ℕ → Option ℕ → Type 0
IsChain links before [] rest = Unit {0}
IsChain links before (k ∷ ks) rest = (slice_get links k ≡ Some (link_of before (head_or ks rest))) × IsChain links (Some k) ks rest

-- no number occurs twice in the list
abbrev pub IsApart : List ℕ → Type 0
IsApart [] = Unit {0}
IsApart (k ∷ ks) = (has ks k ≡ false) × IsApart ks

-- the list is the queue between these ends
pub record IsQueue (links : List Link) (ends : Ends) (ks : List ℕ) : Type 0 where
  pub first : ends.first ≡ head_or ks None
  pub last : ends.last ≡ last_or None ks
  pub chain : IsChain links None ks None
  pub apart : IsApart ks

-- the members of the list with this number; there are none where there is no such list
abbrev pub row_of : List (List ℕ) → ℕ → List ℕ
row_of lists row = unwrap_or (slice_get lists row) []

-- the lists are the queues between the ends, no number is a member of two, and no link leads past the last number
pub record AreQueues (links : List Link) (ends : List Ends) (lists : List (List ℕ)) : Type 0 where
  pub rows : length lists ≡ length ends
  pub each : (row : ℕ) (between : Ends) → slice_get ends row ≡ Some between → IsQueue links between (row_of lists row)
  pub once : (one other number : ℕ) → has (row_of lists one) number ≡ true → has (row_of lists other) number ≡ true → one ≡ other
  pub within : (number : ℕ) (link : Link) → slice_get links number ≡ Some link → IfSome link.next (λ next. next < length links)

-- the walks along the links are such queues
abbrev pub AreLinked : List Link → List Ends → Type 0
AreLinked links ends = AreQueues links ends (map (queue_from links) ends)

-- the links, where the number at `at` leads to `next`
abbrev pub next_set : List Link → Option ℕ → Option ℕ → List Link
next_set links None next = links
next_set links (Some k) next = slice_set links k (link_of (previous_in (slice_get links k)) next)

-- the links, where the number at `at` comes after `previous`
abbrev pub previous_set : List Link → Option ℕ → Option ℕ → List Link
previous_set links None previous = links
previous_set links (Some k) previous = slice_set links k (link_of previous (next_in (slice_get links k)))

-- the end of a queue, where this one is set if no number is
abbrev pub end_set : Option ℕ → Option ℕ → Option ℕ → Option ℕ
end_set ends None set = set
end_set ends (Some k) set = ends

abbrev pub ends_of : Option ℕ → Option ℕ → Ends
ends_of first last = record { first = first; last = last }

-- the links, after a number went to the end of a queue
abbrev pub appended : List Link → Ends → ℕ → List Link
appended links ends number = next_set (slice_set links number (link_of ends.last None)) ends.last (Some number)

-- the ends of a queue, after a number went to its end
abbrev pub ends_appended : Ends → ℕ → Ends
ends_appended ends number = ends_of (end_set ends.first ends.last (Some number)) (Some number)

-- the links, where those before and after a number with this link lead to each other
abbrev pub joined : List Link → Option Link → List Link
joined links link = previous_set (next_set links (previous_in link) (next_in link)) (next_in link) (previous_in link)

-- the ends of a queue, after a number with this link left it
abbrev pub ends_joined : Ends → Option Link → Ends
ends_joined ends link = ends_of (end_set ends.first (previous_in link) (next_in link)) (end_set ends.last (next_in link) (previous_in link))
