-- What the rows of the table say.
use Rattle.std.proofs.Common.{◌≡◌, ◌∙◌, ℕ, zero, suc, ◌+◌, ◌-◌, ◌^◌, ◌<◌, max, List, [], ◌∷◌, ◌++◌, length, map, Option, Some, None, sym, ap, ⊎_elim, arith, add-one}
use Rattle.std.specs.Prelude.{slice_get}
use Rattle.std.proofs.lemmas.List.{map-append}
use Rattle.std.proofs.lemmas.Option.{slice_get_cases, slice_get_within}
use Rattle.program.specs.declared.annotation.Budget.{Budget}
use Rattle.program.specs.declared.function.Block.{Block}
use Rattle.program.specs.declared.function.Function.{Function}
use Rattle.program.specs.declared.function.Program.{Program}
use Rattle.ranges.specs.region_match.declared.task.Task.{Task}
use Rattle.ranges.specs.region_match.declared.tables.Regions.{Regions}
use Rattle.ranges.proofs.Tabling.{Tabled}
use Rattle.cost_table.specs.declared.entry.FunctionCost.{FunctionCost}
use Rattle.cost_table.specs.declared.table.Table.{Table}
use Rattle.cost_table.specs.Cost.{cost_below}
use Rattle.cost_table.specs.Depth.{flat_depth, self_calls_depth, depth_from, first_depths, tasks_of, whole_depth_of, depth}
use Rattle.cost_table.specs.Tables.{as_u64, above_self_call, climbed, bounded, within, IsEntry, IsEntryOver, IsTable, cost_in, cost_at, depth_in, depth_at}
use Rattle.cost_table.proofs.Capped.{capped_max, capped_above}
use Rattle.cost_table.proofs.Deeper.{self_calls_lifted, flat_cut}

-- a row's depth is that of the function
pub climbed_depth : (before : List ℕ) (self : ℕ) (tasks : List Task) (blocks : List Block) (entry : FunctionCost) → entry.flat ≡ as_u64 (flat_depth before self tasks blocks) → entry.rise ≡ as_u64 (self_calls_depth self tasks blocks 0) →
    (m : ℕ) → climbed entry m ≡ as_u64 (depth_from before self tasks blocks m)
climbed_depth before self tasks blocks entry flat rise zero = flat
climbed_depth before self tasks blocks entry flat rise (suc m) =
    let below : ℕ = depth_from before self tasks blocks m in
    let above : ℕ = self_calls_depth self tasks blocks 0 in
    ap (λ (n : ℕ). max n (as_u64 (above_self_call entry.rise (climbed entry m)))) flat
    ∙ ap (λ (n : ℕ). max (as_u64 (flat_depth before self tasks blocks)) (as_u64 (above_self_call n (climbed entry m)))) rise
    ∙ ap (λ (n : ℕ). max (as_u64 (flat_depth before self tasks blocks)) (as_u64 (above_self_call (as_u64 above) n))) (climbed_depth before self tasks blocks entry flat rise m)
    ∙ ap (max (as_u64 (flat_depth before self tasks blocks))) (capped_above above below (2 ^ 64 - 1) (omega arith))
    ∙ capped_max (flat_depth before self tasks blocks) (above_self_call above below) (2 ^ 64 - 1)
    ∙ ap (λ (n : ℕ). as_u64 (max (flat_depth before self tasks blocks) n)) (sym (self_calls_lifted self tasks blocks below))

-- a row over the depths that the table has before it
pub over_depths : (program : Program) (regions : Regions) (f : ℕ) (function : Function) (entry : FunctionCost) (before : List ℕ) → before ≡ map as_u64 (first_depths program regions f) → IsEntryOver before f (tasks_of regions f) function entry → IsEntry program regions f function entry
over_depths program regions f function entry before is over = record {
  bound = over.bound;
  budget = over.budget;
  flat = over.flat ∙ ap (λ (ds : List ℕ). as_u64 (flat_depth ds f (tasks_of regions f) function.blocks)) is ∙ flat_cut (first_depths program regions f) f (tasks_of regions f) function.blocks;
  rise = over.rise;
}

-- the row's whole depth is the function's
pub entry_depth : (program : Program) (regions : Regions) (f : ℕ) (function : Function) (entry : FunctionCost) → IsEntry program regions f function entry → (m : ℕ) → climbed entry m ≡ as_u64 (depth program regions f function m)
entry_depth program regions f function entry is m = climbed_depth (first_depths program regions f) f (tasks_of regions f) function.blocks entry is.flat is.rise m

pub depths_next : (program : Program) (regions : Regions) (i : ℕ) (function : Function) (entry : FunctionCost) (depths depths' : List ℕ) → slice_get program.functions i ≡ Some function → depths ≡ map as_u64 (first_depths program regions i) →
    IsEntry program regions i function entry → depths' ≡ depths ++ climbed entry entry.bound ∷ [] → depths' ≡ map as_u64 (first_depths program regions (i + 1))
depths_next program regions i function entry depths depths' here before is pushed =
    let last : climbed entry entry.bound ≡ as_u64 (whole_depth_of (first_depths program regions i) i (tasks_of regions i) (slice_get program.functions i)) =
    entry_depth program regions i function entry is entry.bound
    ∙ ap (λ (n : ℕ). as_u64 (depth program regions i function n)) is.bound
    ∙ ap (λ (o : Option Function). as_u64 (whole_depth_of (first_depths program regions i) i (tasks_of regions i) o)) (sym here) in
    pushed ∙ ap (λ (ds : List ℕ). ds ++ climbed entry entry.bound ∷ []) before ∙ ap (λ (n : ℕ). map as_u64 (first_depths program regions i) ++ n ∷ []) last
    ∙ sym (map-append as_u64 (first_depths program regions i) (whole_depth_of (first_depths program regions i) i (tasks_of regions i) (slice_get program.functions i) ∷ []))
    ∙ ap (λ (n : ℕ). map as_u64 (first_depths program regions n)) (sym (add-one i))

-- ---- rows looked up

pub row_function : (program : Program) (regions : Regions) (table : Table) (f : ℕ) (entry : FunctionCost) → IsTable program regions table → slice_get table.functions f ≡ Some entry → (function : Function) × (slice_get program.functions f ≡ Some function) × IsEntry program regions f function entry
row_function program regions table f entry is row =
    let inside : f < length program.functions = (let w = slice_get_within table.functions f entry row in omega (arith, w, is.functions)) in
    ⊎_elim
    (λ found. (found.0, found.2, is.each f found.0 entry found.2 row))
    (λ past. absurd (omega (arith, past.0, inside)))
    (slice_get_cases program.functions f).1

pub row_none : (program : Program) (regions : Regions) (table : Table) (f : ℕ) → IsTable program regions table → slice_get table.functions f ≡ None → slice_get program.functions f ≡ None
row_none program regions table f is none =
    ⊎_elim
    (λ found. absurd (let w = slice_get_within program.functions f found.0 found.2 in ⊎_elim
    (λ row. let e : Some row.0 ≡ None = sym row.2 ∙ none in cc)
    (λ past. omega (arith, past.0, w, is.functions))
    (slice_get_cases table.functions f).1))
    (λ past. past.1)
    (slice_get_cases program.functions f).1

pub row_cost : (program : Program) (regions : Regions) (table : Table) (f : ℕ) (entry : FunctionCost) (m : ℕ) → IsTable program regions table → slice_get table.functions f ≡ Some entry → within entry.bound m (cost_below entry.budget (suc m)) ≡ cost_at program f m
row_cost program regions table f entry m is row =
    let found = row_function program regions table f entry is row in
    ap (λ (n : ℕ). within n m (cost_below entry.budget (suc m))) found.2.bound
    ∙ ap (λ (b : Budget). within found.0.measure.bound m (cost_below b (suc m))) found.2.budget
    ∙ ap (λ (o : Option Function). cost_in o m) (sym found.1)

pub row_depth : (program : Program) (regions : Regions) (table : Table) (f : ℕ) (entry : FunctionCost) (m : ℕ) → IsTable program regions table → slice_get table.functions f ≡ Some entry → bounded entry.bound m (climbed entry m) ≡ depth_at program regions f m
row_depth program regions table f entry m is row =
    let found = row_function program regions table f entry is row in
    ap (λ (n : ℕ). bounded n m (climbed entry m)) found.2.bound
    ∙ ap (bounded found.0.measure.bound m) (entry_depth program regions f found.0 entry found.2 m)
    ∙ ap (λ (o : Option Function). depth_in program regions f o m) (sym found.1)

pub whole_table : (program : Program) (regions : Regions) (functions : List Function) (i : ℕ) (entries : List FunctionCost) → functions ≡ program.functions → i ≡ length functions → Tabled (IsEntry program regions) functions i entries → IsTable program regions (record { functions = entries })
whole_table program regions functions i entries same end rows = record {
  functions = rows.size ∙ end ∙ ap length same;
  each = λ f function entry here row. rows.each f function entry (ap (λ (fs : List Function). slice_get fs f) same ∙ here) row;
}
