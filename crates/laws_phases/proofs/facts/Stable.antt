-- What the law on facts asks of definedness, from the rules.
use Rattle.std.proofs.Common.{◌≡◌, ◌≢◌, ℕ, zero, suc, ◌≤◌, inl, inr, List, [], ◌∷◌, ◌++◌, length, Option, Some, None, refl, sym, ap, subst, ◌∙◌, arith, slice_get}
use Rattle.std.specs.List.{All, Contains}
use Rattle.std.proofs.lemmas.List.Elements.{All-nil, All-cons, All-weaker, All-contains_itself, Contains-append_left, Contains-append_right}
use Rattle.semantics.specs.Frames.{Does, item_of, item_at, phis_at}
use Rattle.semantics.proofs.Confluence.{one_result}
use Rattle.linear.specs.declared.form.RegisterId.{RegisterId}
use Rattle.linear.specs.declared.form.Term.{Term}
use Rattle.linear.specs.declared.form.Fact.{Fact}
use Rattle.program.specs.declared.function.Alloca.{Alloca as AllocaOf}
use Rattle.program.specs.declared.function.Block.{Block}
use Rattle.program.specs.declared.function.Function.{Function}
use Rattle.program.specs.declared.function.Program.{Program}
use Rattle.program.specs.declared.identifier.FunctionId.{FunctionId}
use Rattle.program.specs.declared.instruction.Argument.{Argument}
use Rattle.program.specs.declared.instruction.Argument.TheVariants as argument
use Rattle.program.specs.declared.instruction.Ending.{Ending}
use Rattle.program.specs.declared.instruction.Instruction.{Instruction}
use Rattle.program.specs.declared.instruction.Instruction.TheVariants as instruction
use Rattle.program.specs.declared.instruction.Operand.{Operand}
use Rattle.program.specs.declared.instruction.Operand.TheVariants.{Number, Register}
use Rattle.program.specs.declared.instruction.Phi.{Phi}
use Rattle.program.specs.declared.instruction.Step.{Step}
use Rattle.definedness.specs.declared.act.Act.{Act}
use Rattle.definedness.specs.declared.act.Act.TheVariants.{Needs}
use Rattle.definedness.specs.RegisterActs.{register_needs, operand_needs, object_needs, address_needs, argument_needs, instruction_needs}
use Rattle.ranges.specs.Places.{step_shows, facts_at_step}
use Rattle.laws_conditions.specs.rules.Moves.{dest_of}
use Rattle.laws_conditions.specs.rules.Costs.{parameters_of, Lacks}
use Rattle.laws_phases.specs.facts.Known.{shows_at, known_at_place}
use Rattle.laws_phases.specs.defined.Names.{NamesOnly}
use Rattle.laws_phases.specs.facts.Owing.{IsGiven, IsTyped, IsOther, IsOtherArgument, Avoids, LeavesKnown, AreApart, AreFactsStable}
use Rattle.laws_phases.specs.defined.Leads.{IsBlock}
use Rattle.laws_phases.specs.defined.Names.{StepDefines, IsNamed}
use Rattle.laws_phases.specs.defined.Stable.{Names, IsStable}
use Rattle.laws_phases.specs.defined.Known.{IsPut, NamesParameters}
use Rattle.laws_phases.proofs.defined.Lists.{first_within, flat_within}
use Rattle.laws_phases.proofs.defined.Items.{stands, step_there}
use Rattle.laws_phases.proofs.defined.Values.{defines_here}
use Rattle.laws_phases.proofs.defined.Stable.{stable_by_rules}
use Rattle.laws_phases.proofs.defined.Known.{known_is_stable}
use Rattle.laws_phases.specs.facts.Stable.{ArePhisApart, FactsAreStable}

-- ---- what the rules on types say of forms

module _ (prog : Program) (typed : IsTyped prog) where
  given_put : (f b i : ℕ) (d : Option RegisterId) (g : FunctionId) (arguments : List Argument) (callee : Function) → item_at prog f b i ≡ Some (Does (instruction.Call d g arguments)) → slice_get prog.functions g.0 ≡ Some callee → (r : ℕ) → IsGiven prog g.0 callee r → IsPut callee arguments d r
  given_put f b i d g arguments callee at is r (inl less) =
      let many = typed.arguments f b i d g arguments at in
      let n : parameters_of prog g.0 ≡ length callee.parameters = rw is refl in
      inl (omega (arith, less, many, n))
  given_put f b i d g arguments callee at is r (inr h) = inr (h.0, sym (typed.results f b i d g arguments at) ∙ h.1)

  names_parameters : NamesParameters prog
  names_parameters = record {
    requirements = λ f function at. typed.requirements f function at;
    guarantees = λ f b i d g arguments callee at is. All-weaker (NamesOnly (IsGiven prog g.0 callee)) (NamesOnly (IsPut callee arguments d))
        (λ q over. record {
          low = All-weaker (λ (t : Term). IsGiven prog g.0 callee t.register.0) (λ (t : Term). IsPut callee arguments d t.register.0) (λ t h. given_put f b i d g arguments callee at is t.register.0 h) q.low.terms over.low;
          high = All-weaker (λ (t : Term). IsGiven prog g.0 callee t.register.0) (λ (t : Term). IsPut callee arguments d t.register.0) (λ t h. given_put f b i d g arguments callee at is t.register.0 h) q.high.terms over.high;
        })
        callee.guarantees (typed.guarantees g.0 callee is);
  }

-- ---- operands

module _ (d : ℕ) (allocas : List AllocaOf) (line : ℕ) where
  operand_other : (x : Operand) → (Names (operand_needs line x) d → ⊥) → IsOther d x
  operand_other (Number z) lacks = tt
  operand_other (Register r) lacks = λ same. lacks (line, subst (λ n. Contains (register_needs line r) (Needs n line)) same (first_within (Needs r.0 line) []))

  left_other : (xs ys : List Act) (x : Operand) → xs ≡ operand_needs line x → (Names (xs ++ ys) d → ⊥) → IsOther d x
  left_other xs ys x is lacks = operand_other x (λ n. lacks (n.0, Contains-append_left xs ys (Needs d n.0) (subst (λ zs. Contains zs (Needs d n.0)) (sym is) n.1)))

  right_other : (xs ys : List Act) (x : Operand) → ys ≡ operand_needs line x → (Names (xs ++ ys) d → ⊥) → IsOther d x
  right_other xs ys x is lacks = operand_other x (λ n. lacks (n.0, Contains-append_right xs ys (Needs d n.0) (subst (λ zs. Contains zs (Needs d n.0)) (sym is) n.1)))

  argument_other : (a : Argument) → (Names (argument_needs allocas line a) d → ⊥) → IsOtherArgument d a
  argument_other (argument.Number x) lacks = operand_other x lacks
  argument_other (argument.Object name) lacks = tt

  pub avoids : (what : Instruction) → (Names (instruction_needs allocas line what) d → ⊥) → Avoids d what
  avoids (instruction.Binary r op w x y) lacks = (left_other (operand_needs line x) (operand_needs line y) x refl lacks, right_other (operand_needs line x) (operand_needs line y) y refl lacks)
  avoids (instruction.Compare r test w x y) lacks = (left_other (operand_needs line x) (operand_needs line y) x refl lacks, right_other (operand_needs line x) (operand_needs line y) y refl lacks)
  avoids (instruction.Convert r test x) lacks = operand_other x lacks
  avoids (instruction.Alloca r a) lacks = tt
  avoids (instruction.ElementPointer r name x) lacks = right_other (object_needs allocas line name) (operand_needs line x) x refl lacks
  avoids (instruction.Load r a) lacks = tt
  avoids (instruction.Store x a) lacks = left_other (operand_needs line x) (address_needs allocas line a) x refl lacks
  avoids (instruction.StoreZeros n name) lacks = tt
  avoids (instruction.AtomicAdd a x) lacks = right_other (address_needs allocas line a) (operand_needs line x) x refl lacks
  avoids (instruction.Call r g arguments) lacks = All-weaker (Contains arguments) (IsOtherArgument d)
      (λ a within. argument_other a (λ n. lacks (n.0, flat_within (argument_needs allocas line) arguments a (Needs d n.0) within n.1))) arguments (All-contains_itself arguments)
  avoids (instruction.StartRegion r) lacks = tt

-- ---- places

shows_there : (steps : List Step) (ending : Option Ending) (i : ℕ) (what : Instruction) → item_of steps ending i ≡ Some (Does what) → shows_at steps ending i ≡ step_shows (slice_get steps i)
shows_there [] None i what e = absurd (cc)
shows_there [] (Some ending) zero what e = absurd (cc)
shows_there [] (Some ending) (suc i) what e = absurd (cc)
shows_there (s ∷ steps) ending zero what e = refl
shows_there (s ∷ steps) ending (suc i) what e = shows_there steps ending i what e

known_there : (prog : Program) (f b i : ℕ) (function : Function) (block : Block) (what : Instruction) → IsBlock prog f b function block → item_of block.steps block.ending i ≡ Some (Does what) → known_at_place prog f b i ≡ facts_at_step prog.functions function b block i
known_there prog f b i function block what is item = rw (is.at_function, is.at_block, shows_there block.steps block.ending i what item) refl

-- ---- phis

phis_above : (P : Phi → Type 0) (phis : List Phi) → ((n : ℕ) (phi : Phi) → slice_get phis n ≡ Some phi → P phi) → All P phis
phis_above P [] h = All-nil P
phis_above P (phi ∷ phis) h = All-cons P phi phis (h 0 phi refl) (phis_above P phis (λ n x at. h (suc n) x at))

phis_apart : (phis : List Phi) → ((m n : ℕ) (x y : Phi) → slice_get phis m ≡ Some x → slice_get phis n ≡ Some y → x.register.0 ≡ y.register.0 → m ≡ n) → AreApart phis
phis_apart [] h = tt
phis_apart (phi ∷ phis) h = (
  phis_above (λ (other : Phi). other.register.0 ≢ phi.register.0) phis (λ n y at same. let e : suc n ≡ 0 = h (suc n) 0 y phi at refl same in omega (arith, e)),
  phis_apart phis (λ m n x y a b same. let e : suc m ≡ suc n = h (suc m) (suc n) x y a b same in omega (arith, e)),
)

module _ (prog : Program) (named : IsNamed prog) (apart : ArePhisApart prog) (typed : IsTyped prog) (stable : IsStable prog) where
  steps_owed : (f b i : ℕ) (what : Instruction) (d : ℕ) → item_at prog f b i ≡ Some (Does what) → dest_of what ≡ Some d → LeavesKnown prog f b i what d
  steps_owed f b i what d at dest =
      let s = stands prog f b i (Does what) at in
      let step = step_there s.block.steps s.block.ending i what s.item in
      let mine : StepDefines s.function b i d = defines_here prog f b i d s.function what s.is.at_function at dest in
      let steady = stable.steps f b i d s.function s.block s.is mine in
      record {
        parameter = let n : parameters_of prog f ≡ length s.function.parameters = rw s.is.at_function refl in let high = steady.parameter in omega (arith, n, high);
        known = subst (λ facts. All (λ (fact : Fact). Lacks fact.form d) facts) (sym (known_there prog f b i s.function s.block what s.is s.item)) (known_is_stable prog stable (names_parameters prog typed) f b i d s.function s.block s.is mine);
        operands = subst (λ (x : Instruction). Avoids d x) step.2 (avoids d s.function.allocas step.0.line step.0.instruction (steady.uses i step.0 (omega arith) step.1));
        earlier = λ k other less there.
            let z = stands prog f b k (Does other) there in
            let one : z.function ≡ s.function = one_result (slice_get prog.functions f) z.function s.function z.is.at_function s.is.at_function in
            let two : z.block ≡ s.block = one_result (slice_get s.function.blocks b) z.block s.block (subst (λ (y : Function). slice_get y.blocks b ≡ Some z.block) one z.is.at_block) s.is.at_block in
            let x = step_there z.block.steps z.block.ending k other z.item in
            let here : slice_get s.block.steps k ≡ Some x.0 = subst (λ (y : Block). slice_get y.steps k ≡ Some x.0) two x.1 in
            record {
              defines = λ e. steady.earlier k x.0 less here (ap dest_of x.2 ∙ e);
              reads = subst (λ (y : Instruction). Avoids d y) x.2 (avoids d s.function.allocas x.0.line x.0.instruction (steady.uses k x.0 (omega (arith, less)) here));
            };
      }

  -- a block that is not there has no phis
  phis_there : (P : List Phi → Type 0) → P [] → (f b : ℕ) → ((function : Function) (block : Block) → IsBlock prog f b function block → P block.phis) → P (phis_at prog f b)
  phis_there P none f b h = by_function (slice_get prog.functions f) refl
    where
      by_block : (function : Function) → slice_get prog.functions f ≡ Some function → (o : Option Block) → slice_get function.blocks b ≡ o → P (phis_at prog f b)
      by_block function at None is = rw (at, is) none
      by_block function at (Some block) is = rw (at, is) (h function block (record { at_function = at; at_block = is }))

      by_function : (o : Option Function) → slice_get prog.functions f ≡ o → P (phis_at prog f b)
      by_function None at = rw at none
      by_function (Some function) at = by_block function at (slice_get function.blocks b) refl

  pub owed : AreFactsStable prog
  owed = record {
    steps = λ f b i what d at dest. steps_owed f b i what d at dest;
    phis = λ f b. phis_there (λ phis. All (λ (phi : Phi). parameters_of prog f ≤ phi.register.0) phis) (All-nil (λ (phi : Phi). parameters_of prog f ≤ phi.register.0)) f b
        (λ function block is. phis_above (λ (phi : Phi). parameters_of prog f ≤ phi.register.0) block.phis
        (λ n phi at. let high = (named.once f function is.at_function).phis_above b phi.register.0 (record { block = block; number = n; phi = phi; at_block = is.at_block; at_phi = at; defines = refl }) in let n : parameters_of prog f ≡ length function.parameters = rw is.at_function refl in omega (arith, n, high)));
    apart = λ f b. phis_there (λ phis. AreApart phis) tt f b (λ function block is. phis_apart block.phis (λ m n x y a c same. apart f b m n function block x y is a c same));
  }

pub facts_are_stable : FactsAreStable
facts_are_stable prog named apart typed graph right rule = owed prog named apart typed (stable_by_rules prog named graph right rule)
