-- Registers that are set are registers of their function, and a block's phis are no more than these.
use Rattle.std.proofs.Common.{◌≡◌, ◌≢◌, ℕ, suc, ◌≤◌, ◌<◌, List, [], ◌∷◌, length, Option, Some, None, Bool, true, false, eqb, ◌||◌, refl, sym, subst, slice_get}
use Rattle.std.specs.Prelude.{map, All}
use Rattle.std.specs.List.{IsDistinct, AllByRecursion, list_any}
use Rattle.std.proofs.lemmas.Bool.{ne_eqb, eqb-true}
use Rattle.std.proofs.lemmas.List.{length-map}
use Rattle.std.proofs.lemmas.List.Elements.{All-head, All-tail}
use Rattle.std.proofs.lemmas.Map.Steps.{length-le_from_distinct_below}
use Rattle.std.proofs.lemmas.Option.{slice_get_within}
use Rattle.semantics.specs.Frames.{and_then, block_phis, phis_at}
use Rattle.linear.specs.declared.form.RegisterId.{RegisterId}
use Rattle.program.specs.declared.function.Block.{Block}
use Rattle.program.specs.declared.function.Function.{Function}
use Rattle.program.specs.declared.function.Program.{Program}
use Rattle.program.specs.declared.function.RegisterKind.{RegisterKind}
use Rattle.program.specs.declared.instruction.Instruction.{Instruction}
use Rattle.program.specs.declared.instruction.Instruction.TheVariants as instruction
use Rattle.program.specs.declared.instruction.Phi.{Phi}
use Rattle.laws_conditions.specs.rules.Moves.{dest_of, number_of}
use Rattle.laws_phases.specs.facts.Owing.{AreApart}
use Rattle.laws_schedule.specs.typing.Kinds.{IsOfKind, IsResult, IsKinded, HasKinds}

-- ---- the register that an instruction defines

kind_below : (kinds : List RegisterKind) (r d : ℕ) (k : RegisterKind) → IsOfKind kinds r k → Some r ≡ Some d → d < length kinds
kind_below kinds r d k is e = let same : r ≡ d = cc in subst (λ n. n < length kinds) same (slice_get_within kinds r k is)

result_below : (kinds : List RegisterKind) (o : Option RegisterId) (d : ℕ) → IsResult kinds o → number_of o ≡ Some d → d < length kinds
result_below kinds None d is e = absurd (cc)
result_below kinds (Some r) d is e = kind_below kinds r.0 d _ is e

pub dest_below : (kinds : List RegisterKind) (i : Instruction) (d : ℕ) → IsKinded kinds i → dest_of i ≡ Some d → d < length kinds
dest_below kinds (instruction.Binary r op w a b) d is e = kind_below kinds r.0 d _ is.0 e
dest_below kinds (instruction.Compare r by w a b) d is e = kind_below kinds r.0 d _ is.0 e
dest_below kinds (instruction.Convert r by a) d is e = kind_below kinds r.0 d _ is.0 e
dest_below kinds (instruction.Alloca r a) d is e = kind_below kinds r.0 d _ is e
dest_below kinds (instruction.ElementPointer r name i) d is e = kind_below kinds r.0 d _ is.0 e
dest_below kinds (instruction.Load r address) d is e = kind_below kinds r.0 d _ is e
dest_below kinds (instruction.Store a address) d is e = absurd (cc)
dest_below kinds (instruction.StoreZeros cells name) d is e = absurd (cc)
dest_below kinds (instruction.AtomicAdd address a) d is e = absurd (cc)
dest_below kinds (instruction.Call r callee arguments) d is e = result_below kinds r d is.0 e
dest_below kinds (instruction.StartRegion r) d is e = kind_below kinds r.0 d _ is e

-- ---- as many numbers as phis

abbrev numbers_of : List Phi → List ℕ
numbers_of phis = map (λ (phi : Phi). phi.register.0) phis

others_differ : (r : ℕ) (phis : List Phi) → All (λ (other : Phi). other.register.0 ≢ r) phis → AllByRecursion (λ y. eqb r y ≡ false) (numbers_of phis)
others_differ r [] all = tt
others_differ r (phi ∷ phis) all = (ne_eqb r phi.register.0 (λ e. All-head (λ (other : Phi). other.register.0 ≢ r) phi phis all (sym e)), others_differ r phis (All-tail (λ (other : Phi). other.register.0 ≢ r) phi phis all))

distinct : (phis : List Phi) → AreApart phis → IsDistinct eqb (numbers_of phis)
unfolding IsDistinct
distinct [] apart = tt
distinct (phi ∷ phis) apart = (others_differ phi.register.0 phis apart.0, distinct phis apart.1)

-- each phi's register is below n
abbrev pub AreBelow : ℕ → List Phi → Type 0
AreBelow n phis = (k : ℕ) (phi : Phi) → slice_get phis k ≡ Some phi → phi.register.0 < n

found_below : (n : ℕ) (phis : List Phi) → AreBelow n phis → (q : ℕ) → list_any (eqb q) (numbers_of phis) ≡ true → q < n
found_below n [] below q e = absurd (cc)
found_below n (phi ∷ phis) below q e = by (eqb q phi.register.0) refl e (λ h. found_below n phis (λ k x at. below (suc k) x at) q h)
  where
    by : (b : Bool) → eqb q phi.register.0 ≡ b → (b || list_any (eqb q) (numbers_of phis)) ≡ true → (list_any (eqb q) (numbers_of phis) ≡ true → q < n) → q < n
    by true is h rest = subst (λ x. x < n) (sym (eqb-true q phi.register.0 is)) (below 0 phi refl)
    by false is h rest = rest h

pub no_more : (n : ℕ) (phis : List Phi) → AreApart phis → AreBelow n phis → length phis ≤ n
no_more n phis apart below = subst (λ k. k ≤ n) (length-map phis (λ (phi : Phi). phi.register.0)) (length-le_from_distinct_below (numbers_of phis) n (distinct phis apart) (found_below n phis below))

-- ---- of a block

pub phis_below : (prog : Program) → HasKinds prog → (g b : ℕ) (function : Function) → slice_get prog.functions g ≡ Some function → AreBelow (length function.registers) (phis_at prog g b)
phis_below prog kinds g b function is k phi at = by_block (slice_get function.blocks b) refl (subst (λ (o : Option Function). slice_get (block_phis (and_then o (λ (f : Function). slice_get f.blocks b))) k ≡ Some phi) is at)
  where
    by_block : (o : Option Block) → slice_get function.blocks b ≡ o → slice_get (block_phis o) k ≡ Some phi → phi.register.0 < length function.registers
    by_block None there h = absurd (cc)
    by_block (Some block) there h = slice_get_within function.registers phi.register.0 _ (kinds.phis g b k function block phi is there h).register
