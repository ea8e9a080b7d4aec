-- A worker's tickets: a list in time, which three kinds of atomic step change.
use Rattle.std.specs.Prelude.{◌≡◌, ◌≢◌, ℕ, ◌==◌, ◌+◌, ◌≤◌, ◌<◌, ◌⊎◌, true, false, List, [], ◌∷◌, ◌++◌, Bool, length}
use Rattle.std.specs.Prelude.{sum_by, if◌then◌else◌}
use mathlib.Core.Option.{some}
use lib.ListN.{get_elem?}
use Rattle.shared_run.specs.schedule_core.declared.ready.Ticket.{Ticket}
use Rattle.deque_pool_tickets.specs.declared.ticket_list.Move.{Move}
use Rattle.deque_pool_tickets.specs.declared.ticket_list.Move.TheVariants.{Offer, Newest, Oldest}
use Rattle.deque_pool_tickets.specs.declared.ticket_list.View.{View}

-- a step: the seat that made it, and what it was. The seat 0 is the owner's
abbrev pub Turn : Type 0
Turn = ℕ × Move

-- the steps, the latest first, lead from the empty list to these tickets, the oldest first
abbrev pub Leads : List Turn → List Ticket → Type 0
Leads [] tickets = tickets ≡ []
Leads ((seat, Offer t) ∷ log) tickets = (seat ≡ 0) × ((before : List Ticket) × (tickets ≡ before ++ t ∷ []) ×
    Leads log before)
Leads ((seat, Newest t) ∷ log) tickets = (seat ≡ 0) × Leads log (tickets ++ t ∷ [])
Leads ((seat, Oldest t) ∷ log) tickets = (seat ≢ 0) × Leads log (t ∷ tickets)

-- the steps of one seat, the latest first
abbrev pub moves_of : ℕ → List Turn → List Move
moves_of seat [] = []
moves_of seat ((at, m) ∷ log) = if at == seat then m ∷ moves_of seat log else moves_of seat log

-- the history was this once
abbrev pub GoesOnFrom : List Turn → List Turn → Type 0
GoesOnFrom log seen = (newer : List Turn) × (log ≡ newer ++ seen)

-- what a seat knows is its own steps, whether it is the owner's, and what the history was once
abbrev pub FitsSeat : List Turn → ℕ → View → Type 0
FitsSeat log seat v = (v.lives ≡ true → moves_of seat log ≡ v.moves) × (v.owns ≡ (seat == 0)) × GoesOnFrom log v.seen ×
    GoesOnFrom log v.told

-- the rule: the list has one history, of all seats' steps, and at each moment the tickets are what it leads to
abbrev pub IsPlayed : List Ticket → List View → Type 0
IsPlayed tickets views =
    (log : List Turn)
    × Leads log tickets
    × ((seat : ℕ) (v : View) → get_elem? views seat ≡ some v → FitsSeat log seat v)
    × ((seat : ℕ) → length views ≤ seat → moves_of seat log ≡ [])
    × (0 < length views)

-- a seat that had made and seen this makes a step more: what it sees then goes on from that by steps of others and this
-- one, has no other steps of the seat, and leads to some tickets
pub record Goes (moves : List Move) (seen : List Turn) (m : Move) (now : List Turn) : Type 0 where
  pub seat : ℕ
  pub others : List Turn
  pub last : now ≡ (seat, m) ∷ (others ++ seen)
  pub own : moves_of seat now ≡ m ∷ moves
  pub tickets : List Ticket
  pub leads : Leads now tickets

-- steps of others, after what a seat has seen, lead to so many tickets at most. Others may take all that is there, so
-- this does not say that they did
pub record MayHaveFew (most : ℕ) (moves : List Move) (seen : List Turn) : Type 0 where
  pub seat : ℕ
  pub others : List Turn
  pub own : moves_of seat (others ++ seen) ≡ moves
  pub tickets : List Ticket
  pub leads : Leads (others ++ seen) tickets
  pub few : length tickets ≤ most

-- ---- what a step adds to what its seat knows

abbrev pub view_of : Bool → List Move → List Turn → View
view_of owns moves seen = record { lives = true; owns = owns; moves = moves; seen = seen; told = [] }

-- with what another seat had seen
abbrev pub both : View → View → View
both v w = record { lives = v.lives; owns = v.owns; moves = v.moves; seen = v.seen; told = w.seen }

-- a seat that was taken in
abbrev pub spent : View
spent = record { lives = false; owns = false; moves = []; seen = []; told = [] }

-- one of them goes on from the other
abbrev pub AreOfOne : List Turn → List Turn → Type 0
AreOfOne seen told = GoesOnFrom seen told ⊎ GoesOnFrom told seen

abbrev pub Makes : View → Move → View → Type 0
Makes v m w = (w.lives ≡ true) × (w.owns ≡ v.owns) × (w.moves ≡ m ∷ v.moves) × Goes v.moves v.seen m w.seen

abbrev pub WithOffers : View → List Ticket → View → Type 0
WithOffers v [] w = w ≡ v
WithOffers v (t ∷ ts) w = Makes v (Offer t) w

abbrev pub WithNewest : View → List Ticket → View → Type 0
WithNewest v [] w = w ≡ v
WithNewest v (t ∷ ts) w = Makes v (Newest t) w

abbrev pub WithOldest : View → List Ticket → View → Type 0
WithOldest v [] w = w ≡ v
WithOldest v (t ∷ ts) w = Makes v (Oldest t) w

-- ---- an end of a list, as contracts see it

-- which list it is, the steps of this end's seat, and the list's history up to the last of them, each the latest first
pub record End : Type 0 where
  pub list : ℕ × ℕ
  pub moves : List Move
  pub seen : List Turn

abbrev pub fresh : ℕ × ℕ → End
fresh list = record { list = list; moves = []; seen = [] }

-- with a step more
pub record Moved (old new : End) (m : Move) : Type 0 where
  pub list : new.list ≡ old.list
  pub moves : new.moves ≡ m ∷ old.moves
  pub goes : Goes old.moves old.seen m new.seen

-- ---- what was offered, and what was taken

abbrev pub offered_in : List Turn → List Ticket
offered_in [] = []
offered_in ((seat, Offer t) ∷ log) = t ∷ offered_in log
offered_in ((seat, Newest t) ∷ log) = offered_in log
offered_in ((seat, Oldest t) ∷ log) = offered_in log

abbrev pub taken_in : List Turn → List Ticket
taken_in [] = []
taken_in ((seat, Offer t) ∷ log) = taken_in log
taken_in ((seat, Newest t) ∷ log) = t ∷ taken_in log
taken_in ((seat, Oldest t) ∷ log) = t ∷ taken_in log

-- what was taken and what is left weigh what was offered, however tickets are weighed: so each is there as often
abbrev pub EachAsOften : Type 0
EachAsOften = (log : List Turn) (tickets : List Ticket) (weight : Ticket → ℕ) → Leads log tickets
    → sum_by weight (offered_in log) ≡ sum_by weight (taken_in log) + sum_by weight tickets
