use Rattle.std.proofs.Common.{◌≡◌, ◌≢◌, ◌∙◌, ◌++◌, ◌∷◌, [], ap, sym, subst, ℤ, List, Option, Some, None, length, rules, w64}
use Rattle.std.specs.Prelude.{FitsSigned, vec_capacity}
use Rattle.std.proofs.lemmas.Int.{to_z-of_z}
use Rattle.std.proofs.Math.Logic.{∥∥₁_elim, ∥∥₁_map}
use Rattle.std.proofs.Props.{props}
use Rattle.frame_strand.specs.Along.{IsGoing, IsFrameStrandKept}
use Rattle.frame_strand.specs.Buffers.{held_in}
use Rattle.frame_strand.specs.declared.cells.Read.{Read}
use Rattle.frame_strand.specs.declared.standing.Course.{Course}
use Rattle.frame_strand.specs.declared.standing.FrameStrandPause.{FrameStrandPause}
use Rattle.frame_strand.specs.declared.standing.FrameStrandPause.TheVariants.{Blank, Need}
use Rattle.frame_strand.proofs.Filling.{few_reads, filled_at, needed_going, same_need, unheld}
use Rattle.frame_strand.proofs.Keeping.{room_on}
use Rattle.frame_strand.proofs.outside.FrameStrand.fill.Goals as goal

paused : (c : goal.After-value-1) → c.args.self.now.pause ≡ Some (Need c.in-Some-Need.at)
paused c =
    let named : c.in-Some-Need.field-0 ≡ Need c.in-Some-Need.at = rw c.in-Some-Need.is at c.in-Some-Need.field-0-is in
    c.in-Some-Need.is ∙ ap (λ (p : FrameStrandPause). Some p) named

pub fill-requires-clause-new : goal.fill-requires-clause-new
fill-requires-clause-new c =
    let fit : FitsSigned w64 c.in-Some-Need.at = search rules in
    ap (λ (z : ℤ). held_in c.args.self.now.course.cells z) (to_z-of_z w64 c.in-Some-Need.at fit) ∙
    ∥∥₁_elim c.args.self.now.kept (hlevel props) (λ kept. unheld c.args.self.now.program.now c.args.self.now.places.now c.args.self.now.course c.in-Some-Need.at (needed_going _ _ _ _ _ (paused c) kept))

pub fill-requires-clause-room : goal.fill-requires-clause-room
fill-requires-clause-room c =
    ∥∥₁_elim c.args.self.now.kept (hlevel props) (λ kept. few_reads c.args.self.now.program.now c.args.self.now.places.now c.args.self.now.course c.in-Some-Need.at (needed_going _ _ _ _ _ (paused c) kept))

pub invariant_of-self : goal.invariant_of-self
invariant_of-self c =
    let fit : FitsSigned w64 c.in-Some-Need.at = search rules in
    let named : c.in-Some-Need.field-0 ≡ Need c.in-Some-Need.at = rw c.in-Some-Need.is at c.in-Some-Need.field-0-is in
    record {
      kept = ∥∥₁_map c.args.self.now.kept (λ kept. record {
        room = room_on c.args.self.now.program.now c.args.self.now.places.now c.args.self.now.course c.fill.new.self (ap (λ (x : Course). length x.moves.items) c.fill.ensures.only)
            (ap (λ (x : Course). vec_capacity x.loaded.registers) c.fill.ensures.only) (ap (λ (x : Course). vec_capacity x.present.registers) c.fill.ensures.only) kept.room;
        going = λ other.
            filled_at c.args.self.now.program.now c.args.self.now.places.now c.args.self.now.course c.fill.new.self c.in-Some-Need.at _ c.fill.ensures.only
            (λ l ps s x shown apart here is. c.fill.ensures.filled l ps s x shown apart here (to_z-of_z w64 c.in-Some-Need.at fit ∙ is))
            (needed_going _ _ _ _ _ (c.in-Some-Need.is ∙ ap (λ (p : FrameStrandPause). Some p) named) kept);
      });
    }

pub returns-clause-reads : goal.returns-clause-reads
returns-clause-reads c = λ at is.
    let fit : FitsSigned w64 c.in-Some-Need.at = search rules in
    let fits : FitsSigned w64 c.args.value = search rules in
    let named : c.in-Some-Need.field-0 ≡ Need c.in-Some-Need.at = rw c.in-Some-Need.is at c.in-Some-Need.field-0-is in
    let same : c.in-Some-Need.at ≡ at = same_need c.in-Some-Need.at at (sym (c.in-Some-Need.is ∙ ap (λ (p : FrameStrandPause). Some p) named) ∙ is) in
    c.fill.ensures.reads ∙ (λ i. c.args.self.now.course.cells.reads ++ record { at = (to_z-of_z w64 c.in-Some-Need.at fit ∙ same) i; value = to_z-of_z w64 c.args.value fits i } ∷ [])

pub returns-clause-going : goal.returns-clause-going
returns-clause-going c =
    let fit : FitsSigned w64 c.in-Some-Need.at = search rules in
    let named : c.in-Some-Need.field-0 ≡ Need c.in-Some-Need.at = rw c.in-Some-Need.is at c.in-Some-Need.field-0-is in
    ∥∥₁_map c.args.self.now.kept (λ kept.
    filled_at c.args.self.now.program.now c.args.self.now.places.now c.args.self.now.course c.fill.new.self c.in-Some-Need.at _ c.fill.ensures.only
    (λ l ps s x shown apart here is. c.fill.ensures.filled l ps s x shown apart here (to_z-of_z w64 c.in-Some-Need.at fit ∙ is))
    (needed_going _ _ _ _ _ (c.in-Some-Need.is ∙ ap (λ (p : FrameStrandPause). Some p) named) kept))
