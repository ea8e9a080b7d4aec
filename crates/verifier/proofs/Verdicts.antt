-- The answers of the phases put together.
use Rattle.std.proofs.Common.{◌≡◌, ℕ, List, Option, Result, Ok, Err, IfErr, inl, inr, sym, subst}
use Rattle.std.specs.Prelude.{IsErrAnd}
use Rattle.refusal.specs.declared.refused.Refused.{Refused}
use Rattle.refusal.specs.declared.refused.Refused.TheVariants.{Fault, Memory}
use Rattle.refusal.specs.declared.broken.Broken.{Broken}
use Rattle.refusal.specs.Earliest.{IsFirst}
use Rattle.refusal.specs.Named.{NamesEarliest}
use Rattle.refusal.specs.Refusals.{IfBroken}
use Rattle.footprints.specs.ranges.declared.unverified.Unverified.{Unverified}
use Rattle.footprints.specs.ranges.declared.unverified.Unverified.TheVariants as unverified
use Rattle.footprints.specs.ranges.Judged.{JudgesEarliest}
use Rattle.syntax.specs.declared.module.Module.{Module}
use Rattle.ir_reader.specs.Reading.{Answers, IsFaultOfText}
use Rattle.types.specs.declared.typed.Typed.{Typed}
use Rattle.types.specs.Meaning.{Means}
use Rattle.types.specs.Typed.{Judges}
use Rattle.cfg.specs.declared.structure.FunctionGraph.{FunctionGraph}
use Rattle.cfg.specs.Edges.{graphs_of}
use Rattle.cfg.specs.Rules.{IsGraphRight}
use Rattle.program.specs.declared.function.Program.{Program}
use Rattle.region_match.specs.declared.tables.Regions.{Regions}
use Rattle.region_match.specs.Tasks.{AreAllTasks}
use Rattle.region_match.specs.Matched.{AreRegionsRight}
use Rattle.footprints.specs.ranges.Rules.{AreRangesRight}
use Rattle.cost_table.specs.Rules.{AreCostsRight}
use Rattle.verifier.specs.Accepted.{IsDefined, AreTasksOf, AreZonesRight, IsProgramOf, IsFaulty, IsRefused, IsUnverified}
use Rattle.verifier.specs.Limits.{IsWithinLimits}
use Rattle.verifier.proofs.Limits.{within_limits}

pub refused_by_text : (text : List ℕ) (refused : Refused) → IsFaultOfText text refused → IfBroken (IsRefused text) refused
refused_by_text text (Fault number line) h = inl h
refused_by_text text Memory h = tt

pub refused_by_types : (text : List ℕ) (whole : Module) (refused : Refused) → Answers text (Ok whole) → Judges (λ (typed : Typed). typed.program) whole (Err refused) → IfBroken (IsRefused text) refused
refused_by_types text whole (Fault number line) a h = inr (whole, a, inl h)
refused_by_types text whole Memory a h = tt

-- a phase after the types
pub refused_after : (text : List ℕ) (whole : Module) (program kept : Program) (IsBroken : Broken → Type 0) (refused : Refused) → kept ≡ program → Answers text (Ok whole) → Means whole (Ok program) →
    ((broken : Broken) → IsFirst IsBroken broken → IsFaulty kept broken) → NamesEarliest IsBroken refused → IfBroken (IsRefused text) refused
refused_after text whole program kept IsBroken (Fault number line) same a j phase named =
    let h = phase (record { line = line; number = number }) named in
    inr (whole, a, inr (program, j, rw same at h))
refused_after text whole program kept IsBroken Memory same a j phase named = tt

-- a phase within some effort
pub unverified_by : (text : List ℕ) (effort : Option ℕ) (IsBroken : Broken → Type 0) (u : Unverified) → JudgesEarliest effort IsBroken u → ((refused : Refused) → NamesEarliest IsBroken refused → IfBroken (IsRefused text) refused) → IsUnverified text effort u
unverified_by text effort IsBroken (unverified.Refused refused) h by = by refused h
unverified_by text effort IsBroken (unverified.OutOfEffort granted) h by = h

-- a table of the graph's tasks is one of the program's
pub by_tasks : (program : Program) (graphs : List FunctionGraph) (regions : Regions) → graphs ≡ graphs_of program → AreAllTasks graphs regions.functions → AreTasksOf program regions
by_tasks program graphs regions e h = subst (λ (gs : List FunctionGraph). AreAllTasks gs regions.functions) e h

pub program_of : (text : List ℕ) (whole : Module) (program kept : Program) → kept ≡ program → Answers text (Ok whole) → Means whole (Ok program) → IsGraphRight program → AreRegionsRight kept → IsDefined kept → AreRangesRight kept → AreZonesRight kept → AreCostsRight kept → IsProgramOf text kept
program_of text whole program kept same a j right regions defined ranges zones costs = (whole, a, subst (λ (p : Program). Means whole (Ok p)) (sym same) j, record { graph = rw same right; regions = regions; definedness = defined; ranges = ranges; zones = zones; costs = costs })

pub limits_of : (text : List ℕ) (whole : Module) (program kept : Program) → kept ≡ program → Answers text (Ok whole) → Means whole (Ok program) → IsWithinLimits kept
limits_of text whole program kept same a j = subst IsWithinLimits (sym same) (within_limits text whole a program j)

-- an error that a call hands on
pub err_from : {T E : Type 0} (Q : E → Type 0) (r : Result T E) (e : E) → IsErrAnd r (λ y. y ≡ e) → Q e → IfErr r Q
err_from Q (Ok v) e h q = tt
err_from Q (Err x) e h q = rw h q
