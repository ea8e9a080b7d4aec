-- When events could have come at the earliest.
use Rattle.std.specs.Prelude.{◌+◌, ◌-◌, ◌^◌, ℕ, List, Option, Some, None, min, slice_set}
use Rattle.frame.specs.declared.event.Event.{Event}
use Rattle.frame.specs.declared.event.Event.TheVariants.{Step, Steal}
use Rattle.views.specs.declared.moment.Outcome.{Outcome}
use Rattle.views.specs.declared.moment.Outcome.TheVariants.{NotEnabled}
use Rattle.views.specs.declared.rounds.Instant.{Instant}

-- the worker of an event
abbrev pub worker_of : Event → ℕ
worker_of (Step worker) = worker
worker_of (Steal worker _) = worker

-- the round behind another one; counting stops at 2^64 - 1
abbrev pub next_round : ℕ → ℕ
next_round round = min (round + 1) (2 ^ 64 - 1)

-- the round of the last of so many events, of which each waits for the one before alone
abbrev pub round_behind : ℕ → ℕ → ℕ
round_behind round count = min (round + count) (2 ^ 64 - 1)

-- the round of an event whose worker's last event had the round `own`, and that another one had to make possible, where
-- that came later
abbrev pub round_after : ℕ → Option Instant → ℕ
round_after own None = next_round own
round_after own (Some cause) = next_round cause.round

-- the rounds of the workers' last events, after an event of this worker that came to this in its round: one that was
-- not enabled counts for nothing
abbrev pub lasts_after : Outcome → List ℕ → ℕ → ℕ → List ℕ
lasts_after (NotEnabled _) lasts worker round = lasts
lasts_after _ lasts worker round = slice_set lasts worker round
