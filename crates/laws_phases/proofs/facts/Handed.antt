-- Facts at places and on edges, from the start on.
use Rattle.std.proofs.Common.{◌≡◌, ◌∙◌, ℕ, List, [], length, Option, Some, None, refl, sym, ap, subst, slice_get}
use Rattle.std.specs.List.{All, Contains}
use Rattle.std.proofs.lemmas.List.Elements.{All-nil, All-append}
use Rattle.semantics.specs.Frames.{Registers, Frame, Ends, item_at, and_then}
use Rattle.semantics.specs.Effect.{Effect}
use Rattle.semantics.specs.State.{root_frame}
use Rattle.linear.specs.Forms.{Holds}
use Rattle.linear_shown.specs.Shown.{AllHold}
use Rattle.linear.specs.declared.form.Fact.{Fact}
use Rattle.program.specs.declared.function.Block.{Block}
use Rattle.program.specs.declared.function.Function.{Function}
use Rattle.program.specs.declared.function.Program.{Program}
use Rattle.program.specs.declared.instruction.Step.{Step}
use Rattle.program.specs.declared.instruction.Terminator.{Terminator}
use Rattle.program.specs.declared.instruction.Terminator.TheVariants as terminator
use Rattle.ranges.specs.declared.edge.EdgeSums.{EdgeSums}
use Rattle.ranges.specs.Sums.{facts_of}
use Rattle.ranges.specs.Edges.{edges_out}
use Rattle.ranges.specs.Places.{with_shows, step_shows}
use Rattle.ranges.proofs.Truth.{facts_true}
use Rattle.laws_conditions.specs.rules.Costs.{numbers}
use Rattle.laws_conditions.specs.rules.InProofs.{Moves, is_next, is_along}
use Rattle.laws_conditions.specs.rules.Moves.{JumpsTo, SyncsTo}
use Rattle.laws_conditions.specs.rules.ShownCosts.{Out}
use Rattle.laws_conditions.proofs.rules.Moves.{moves, sync_here, forks_here}
use Rattle.laws_phases.specs.facts.Known.{known_at_place, known_in, known_in_block, IsMet, KnownHold}
use Rattle.ranges.specs.Rules.{AreRangesRight}
use Rattle.laws_phases.specs.facts.Handed.{out_of, outs_along, outs_behind, outs_in, outs_at, FactsHandedOn, FactsAtStart, FactsTabled}
use Rattle.laws_phases.proofs.facts.Sums.{stated_true}
use Rattle.cfg.proofs.Searching.{Contains_map}
use Rattle.laws_phases.proofs.facts.Places.{BlockOf, EndAt, end_at, before, known_step, known_end, arrives}
use Rattle.laws_phases.proofs.facts.Edges.{IsTaken, taken, sync_taken, tests_here}
use Rattle.laws_phases.proofs.facts.Kept.{at_start, same_action, child_facts, continued_facts}

-- ---- edges

-- the outs of a block at its end
pub outs_are : (prog : Program) (f b index : ℕ) (t : Terminator) (place : EndAt prog f b index t) → outs_at prog f b ≡ outs_along (known_at_place prog f b (length place.of.block.steps)) place.of.block.steps t
outs_are prog f b index t place =
    ap (λ o. outs_in (known_at_place prog f b) (and_then o (λ (g : Function). slice_get g.blocks b))) place.of.at_function ∙ ap (outs_in (known_at_place prog f b)) place.of.at_block
    ∙ ap (outs_behind (known_at_place prog f b (length place.of.block.steps)) place.of.block.steps) place.at_ending
    ∙ ap (outs_along (known_at_place prog f b (length place.of.block.steps)) place.of.block.steps) place.is

jump_out : (known : List Fact) (steps : List Step) (t : Terminator) (b : ℕ) (e : EdgeSums) → JumpsTo t b → Contains (edges_out steps t) e → Contains (outs_along known steps t) (out_of known e)
jump_out known steps (terminator.Jump target) b e to c = Contains_map (out_of known) (edges_out steps (terminator.Jump target)) e c
jump_out known steps (terminator.Branch r x y) b e to c = Contains_map (out_of known) (edges_out steps (terminator.Branch r x y)) e c
jump_out known steps (terminator.Switch w a default cases) b e to c = Contains_map (out_of known) (edges_out steps (terminator.Switch w a default cases)) e c
jump_out known steps (terminator.Return value) b e to c = absurd to
jump_out known steps (terminator.Detach region body continuation) b e to c = absurd to
jump_out known steps (terminator.Reattach region continuation) b e to c = absurd to
jump_out known steps (terminator.Sync region target) b e to c = absurd to

sync_out : (known : List Fact) (steps : List Step) (t : Terminator) (r b : ℕ) (e : EdgeSums) → SyncsTo t r b → Contains (edges_out steps t) e → Contains (outs_along known steps t) (out_of known e)
sync_out known steps (terminator.Jump target) r b e to c = absurd to
sync_out known steps (terminator.Branch q x y) r b e to c = absurd to
sync_out known steps (terminator.Switch w a default cases) r b e to c = absurd to
sync_out known steps (terminator.Return value) r b e to c = absurd to
sync_out known steps (terminator.Detach region body continuation) r b e to c = absurd to
sync_out known steps (terminator.Reattach region continuation) r b e to c = absurd to
sync_out known steps (terminator.Sync region target) r b e to c = Contains_map (out_of known) (edges_out steps (terminator.Sync region target)) e c

-- an edge that is taken, with facts that are true
record IsOut (prog : Program) (f : Frame) (target : ℕ) : Type 0 where
  out : Out
  among : Contains (outs_at prog f.function f.block) out
  to : out.target ≡ target
  facts : AllHold (numbers f.registers) out.facts

out_taken : (prog : Program) (f : Frame) (t : Terminator) (target : ℕ) → KnownHold prog f → (place : EndAt prog f.function f.block f.index t) → (way : IsTaken place.of.block.steps t (numbers f.registers) target) →
    Contains (outs_along (known_at_place prog f.function f.block (length place.of.block.steps)) place.of.block.steps t) (out_of (known_at_place prog f.function f.block (length place.of.block.steps)) way.edge) → IsOut prog f target
out_taken prog f t target good place way c =
    let known : List Fact = known_at_place prog f.function f.block (length place.of.block.steps) in
    let hold : AllHold (numbers f.registers) known = subst (λ n. AllHold (numbers f.registers) (known_at_place prog f.function f.block n)) place.index_is good.facts in
    record {
      out = out_of known way.edge;
      among = subst (λ outs. Contains outs (out_of known way.edge)) (sym (outs_are prog f.function f.block f.index t place)) c;
      to = way.to;
      facts = All-append (λ (g : Fact). Holds (numbers f.registers) g.form) known (facts_of way.edge.sums) hold (facts_true way.edge.sums (numbers f.registers) way.sums);
    }

-- where the frame stands at the terminator, the effect is along an edge of it
jumps_to : (prog : Program) (f : Frame) (e : Effect) (t : Terminator) → item_at prog f.function f.block f.index ≡ Some (Ends t) → Moves prog f e → JumpsTo t e.block
jumps_to prog f e t at (is_next i here on) = absurd (let same = sym at ∙ here in cc)
jumps_to prog f e t at (is_along u here to on) = let same : u ≡ t = (let both = sym here ∙ at in cc) in subst (λ x. JumpsTo x e.block) same to

pub facts_handed_on : FactsHandedOn
facts_handed_on prog right typed stable = record {
  here = λ f good. good.facts;
  edge = λ p f m e t good at act fine.
      let place : EndAt prog f.function f.block f.index t = end_at prog f.function f.block f.index t at in
      let to = jumps_to prog f e t at (moves prog p f m e act fine) in
      let way : IsTaken place.of.block.steps t (numbers f.registers) e.block =
      taken prog f place.of.block.steps (tests_here prog right f t place good) p t e to (same_action prog right typed stable p f m (Ends t) e act at) fine in
      let o = out_taken prog f t e.block good place way (jump_out (known_at_place prog f.function f.block (length place.of.block.steps)) place.of.block.steps t e.block way.edge to way.among) in
      (o.out, o.among, o.to, o.facts);
  sync = λ p f m region block s good act.
      let (t, at, to) = sync_here prog p f m region block s act in
      let place : EndAt prog f.function f.block f.index t = end_at prog f.function f.block f.index t at in
      let way : IsTaken place.of.block.steps t (numbers f.registers) block = sync_taken prog f place.of.block.steps (tests_here prog right f t place good) t region block to in
      let o = out_taken prog f t block good place way (sync_out (known_at_place prog f.function f.block (length place.of.block.steps)) place.of.block.steps t region block way.edge to way.among) in
      (o.out, o.among, o.to, o.facts);
  fork = λ p f m region body continuation good act.
      let c = forks_here prog p f m region body continuation act in
      (child_facts prog right typed stable f region body continuation good c, continued_facts prog right typed stable f region body continuation good c);
}

-- ---- the start

entry_facts : (prog : Program) → AreRangesRight prog → (fn : ℕ) (r : Registers) → ((function : Function) → slice_get prog.functions fn ≡ Some function → All (IsMet (numbers r)) function.requirements) → AllHold (numbers r) (known_at_place prog fn 0 0)
entry_facts prog right fn r met = from (slice_get prog.functions fn) refl
  where
    nothing_known : known_at_place prog fn 0 0 ≡ [] → AllHold (numbers r) (known_at_place prog fn 0 0)
    nothing_known e = subst (AllHold (numbers r)) (sym e) (All-nil (λ (g : Fact). Holds (numbers r) g.form))

    in_function : (function : Function) → slice_get prog.functions fn ≡ Some function → (o : Option Block) → slice_get function.blocks 0 ≡ o → AllHold (numbers r) (known_at_place prog fn 0 0)
    in_function function at None is = nothing_known (ap (λ x. known_in prog.functions x 0 0) at ∙ ap (λ x. known_in_block prog.functions function 0 x 0) is)
    in_function function at (Some block) is =
        let o : BlockOf prog fn 0 = record { function = function; block = block; at_function = at; at_block = is } in
        arrives prog right fn 0 o (numbers r) 0 (stated_true (numbers r) function.requirements (met function at))

    from : (o : Option Function) → slice_get prog.functions fn ≡ o → AllHold (numbers r) (known_at_place prog fn 0 0)
    from None is = nothing_known (ap (λ x. known_in prog.functions x 0 0) is)
    from (Some function) is = in_function function is (slice_get function.blocks 0) refl

pub facts_at_start : FactsAtStart
facts_at_start prog right arguments met = at_start prog (root_frame prog arguments) refl (entry_facts prog right prog.main.0 (root_frame prog arguments).registers met)

-- ---- the table

pub facts_tabled : FactsTabled
facts_tabled prog f b function block at is =
    let o : BlockOf prog f b = record { function = function; block = block; at_function = at; at_block = is } in
    record {
      at_step = λ i step h. known_step prog f b o i step h ∙ ap (λ x. with_shows (before prog f b o i) (step_shows x)) (sym h);
      at_end = known_end prog f b o;
    }
