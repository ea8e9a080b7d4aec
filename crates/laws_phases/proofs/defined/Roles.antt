-- Where the rules on regions hold, a reattach stands in a child of its region, and a return in a body's own task.
use Rattle.std.proofs.Common.{◌≡◌, ℕ, ◌<◌, inl, inr, List, [], ◌∷◌, length, Option, Some, refl, sym, ap, subst, ◌∙◌, slice_get, get_or}
use Rattle.std.proofs.lemmas.Bool.Decides.{eqb_tells}
use Rattle.std.proofs.lemmas.Option.{slice_get_within, get_or_from_slice_get}
use Rattle.semantics.specs.Frames.{Role, Child, Body, Frame, Ends, item_at}
use Rattle.semantics.proofs.Confluence.{one_result}
use Rattle.linear.specs.declared.form.RegisterId.{RegisterId}
use Rattle.program.specs.declared.identifier.BlockId.{BlockId}
use Rattle.program.specs.declared.function.Block.{Block}
use Rattle.program.specs.declared.function.Function.{Function}
use Rattle.program.specs.declared.function.Program.{Program}
use Rattle.program.specs.declared.instruction.Ending.{Ending}
use Rattle.program.specs.declared.instruction.Operand.{Operand}
use Rattle.program.specs.declared.instruction.Terminator.{Terminator}
use Rattle.program.specs.declared.instruction.Terminator.TheVariants as terminator
use Rattle.refusal.specs.declared.broken.Broken.{Broken}
use Rattle.cfg.specs.Edges.{graph_of}
use Rattle.region_match.specs.Rules.{ending_at, IsDetach, IsEndingWrong}
use Rattle.region_match.specs.Tasks.{HasTask}
use Rattle.region_match.specs.Matched.{IsFunctionBroken, AreRegionsRight}
use Rattle.laws_phases.specs.defined.Leads.{IsBlock}
use Rattle.laws_phases.specs.defined.Placed.{Suits, IsPlaced, RolesFitTasks}
use Rattle.laws_phases.proofs.defined.Placed.{ends_block}

-- a function of the program
pub any_function : {P : Function → Type 0} (functions : List Function) (f : ℕ) (function : Function) → slice_get functions f ≡ Some function → P function → (k : ℕ) × (d : Function) × (k < length functions) × (get_or functions k d ≡ d) × P d
any_function functions f function at p = (f, function, slice_get_within functions f function at, get_or_from_slice_get functions f function function at, p)

-- no rule is broken at a terminator
ending_right : (prog : Program) → AreRegionsRight prog → (f b number : ℕ) (function : Function) (block : Block) (ending : Ending) → IsBlock prog f b function block → block.ending ≡ Some ending → IsEndingWrong function.blocks (graph_of function).blocks b ending.terminator number → ⊥
ending_right prog right f b number function block ending is has wrong =
    let broken : Broken = record { line = ending.line; number = number } in
    right.unbroken broken (any_function {P = λ (x : Function). IsFunctionBroken x broken} prog.functions f function is.at_function (inr (b, block, is.at_block, inl (rw has (refl, wrong)))))

module _ (prog : Program) (right : AreRegionsRight prog) (f : Frame) (placed : IsPlaced prog f) where
  pub at_end : (t : Terminator) (number : ℕ) → item_at prog f.function f.block f.index ≡ Some (Ends t) → IsEndingWrong placed.function.blocks (graph_of placed.function).blocks f.block t number → ⊥
  at_end t number at wrong =
      let e = ends_block prog f.function f.block f.index t at in
      let one : e.function ≡ placed.function = one_result (slice_get prog.functions f.function) e.function placed.function e.is.at_function placed.is.at_function in
      let is : IsBlock prog f.function f.block placed.function e.block = subst (λ (x : Function). IsBlock prog f.function f.block x e.block) one e.is in
      ending_right prog right f.function f.block number placed.function e.block e.ending is e.has (subst (λ (x : Terminator). IsEndingWrong placed.function.blocks (graph_of placed.function).blocks f.block x number) (sym e.ends) wrong)

  return_body : (v : Option Operand) → item_at prog f.function f.block f.index ≡ Some (Ends (terminator.Return v)) → f.role ≡ Body
  return_body v at = by f.role placed.task refl placed.has_task placed.suits
    where
      by : (role : Role) (ds : List ℕ) → f.role ≡ role → HasTask (graph_of placed.function).blocks f.block ds → Suits placed.function.blocks f.role ds → f.role ≡ Body
      by Body ds is has s = is
      by (Child r k) [] is has s = absurd (rw is at s)
      by (Child r k) (d ∷ ds) is has s = absurd (at_end (terminator.Return v) 305 at (refl, (d, ds, has)))

  reattach_child : (region : RegisterId) (continuation : BlockId) → item_at prog f.function f.block f.index ≡ Some (Ends (terminator.Reattach region continuation)) → f.role ≡ Child region.0 continuation.0
  reattach_child region continuation at = by f.role placed.task refl placed.has_task placed.suits
    where
      detach_is : (d : ℕ) (x y : RegisterId) (a b : BlockId) → IsDetach (ending_at placed.function.blocks d) x a → IsDetach (ending_at placed.function.blocks d) y b → (x ≡ y) × (a ≡ b)
      detach_is d x y a b h k = let same : Some (terminator.Detach x h.0 a) ≡ Some (terminator.Detach y k.0 b) = sym h.1 ∙ k.1 in (cc, cc)

      by : (role : Role) (ds : List ℕ) → f.role ≡ role → HasTask (graph_of placed.function).blocks f.block ds → Suits placed.function.blocks f.role ds → f.role ≡ Child region.0 continuation.0
      by Body [] is has s = absurd (at_end (terminator.Reattach region continuation) 301 at (inl (refl, inl has)))
      by Body (d ∷ ds) is has s = absurd (rw is at s)
      by (Child r k) [] is has s = absurd (rw is at s)
      by (Child r k) (d ∷ ds) is has s =
          let h : Suits placed.function.blocks (Child r k) (d ∷ ds) = subst (λ (x : Role). Suits placed.function.blocks x (d ∷ ds)) is s in
          let same_region : r ≡ region.0 = elim (eqb_tells r region.0) [
            | inl e ↦ e.1
            | inr e ↦ absurd (at_end (terminator.Reattach region continuation) 301 at (inl (refl, inr (d, ds, has, λ c other. e.1 (sym h.3 ∙ ap (λ (x : RegisterId). x.0) (detach_is d h.0 region h.1 c h.2 other).0)))))
          ] in
          let same_continuation : k ≡ continuation.0 = elim (eqb_tells k continuation.0) [
            | inl e ↦ e.1
            | inr e ↦ absurd (at_end (terminator.Reattach region continuation) 302 at (inr (refl, (d, ds, has, λ x other. e.1 (sym h.4 ∙ ap (λ (y : BlockId). y.0) (detach_is d h.0 x h.1 continuation h.2 other).1)))))
          ] in
          is ∙ (rw (same_region, same_continuation) refl)

pub roles_fit : RolesFitTasks
roles_fit prog right f placed = record { returns = return_body prog right f placed; reattaches = reattach_child prog right f placed }
