-- How events are spelled.
use Rattle.std.specs.Prelude.{ℕ, Bool, false, ◌==◌, List, ◌∷◌, ◌++◌, flat_map, codes, decimal}
use Rattle.std.specs.List.{prefix_len}
use Rattle.frame.specs.declared.event.Event.{Event}
use Rattle.frame.specs.declared.event.Event.TheVariants.{Step, Steal}

abbrev pub child_text : ℕ → List ℕ
child_text k = 46 ∷ decimal k

abbrev pub steps_text : ℕ → ℕ → List ℕ
steps_text worker count = codes "step " ++ decimal worker ++ codes " " ++ decimal count ++ codes "\n"

abbrev pub steal_text : ℕ → List ℕ → List ℕ
steal_text worker numbers = codes "steal " ++ decimal worker ++ codes " root" ++ flat_map child_text numbers ++
    codes "\n"

abbrev pub is_step_of : ℕ → Event → Bool
is_step_of worker (Step stepping) = stepping == worker
is_step_of worker (Steal thief task) = false

-- all the steps in front that are of one worker
abbrev pub first_count : Event → List Event → ℕ
first_count (Step worker) events = prefix_len (is_step_of worker) events
first_count (Steal worker task) events = 1

-- the line that begins with the first event
abbrev pub first_text : Event → List Event → List ℕ
first_text (Step worker) events = steps_text worker (prefix_len (is_step_of worker) events)
first_text (Steal worker task) events = steal_text worker task.numbers
