-- What becomes of a run whose workers have left before it ended, by why each of them left.
use Rattle.std.specs.Prelude.{Bool, true, false, List, if◌then◌else◌}
use Rattle.std.specs.List.{list_any}
use Rattle.deque_pool.specs.declared.outlook.Quit.{Quit}
use Rattle.deque_pool.specs.declared.outlook.Quit.TheVariants.{Over, Starved, Stopped as LeftStopped}
use Rattle.deque_pool.specs.declared.outlook.Outlook.{Outlook}
use Rattle.deque_pool.specs.declared.outlook.Outlook.TheVariants as outlook

abbrev pub is_starved : Quit → Bool
is_starved Starved = true
is_starved LeftStopped = false
is_starved Over = false

abbrev pub is_stopped : Quit → Bool
is_stopped LeftStopped = true
is_stopped Starved = false
is_stopped Over = false

-- memory was refused where it was refused to one of them; else the gate stopped the run where it stopped one of them;
-- else they go on
abbrev pub outlook_of : List Quit → Outlook
outlook_of left =
    if list_any is_starved left then outlook.OutOfMemory
    else (if list_any is_stopped left then outlook.Stopped else outlook.Again)
