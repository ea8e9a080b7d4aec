-- A zone has the same cells where no register that it names changes.
use Rattle.std.proofs.Common.{◌≡◌, ◌∙◌, ℕ, ◌<◌, ◌≤◌, pos, ◌+ℤ◌, ◌≤ℤ◌, List, [], ◌++◌, Some, refl, sym, ap, subst, arith}
use Rattle.std.specs.List.{All, Contains}
use Rattle.std.proofs.lemmas.List.Elements.{All-weaker, All-contains_itself, Contains-append_left, Contains-append_right}
use Rattle.linear.specs.declared.form.RegisterId.{RegisterId}
use Rattle.linear.specs.declared.form.Term.{Term}
use Rattle.linear.specs.Forms.{value}
use Rattle.linear.specs.Terms.{Combination}
use Rattle.linear.proofs.Values.{value_same}
use Rattle.semantics.specs.Cells.{Cell}
use Rattle.semantics.specs.Written.{or_zero}
use Rattle.semantics.specs.Frames.{Frame, and_then, cell_of, word_of, object_at}
use Rattle.program.specs.declared.annotation.Zone.{Zone}
use Rattle.program.specs.declared.function.Alloca.{Alloca as AllocaOf}
use Rattle.program.specs.declared.identifier.ObjectName.{ObjectName}
use Rattle.program.specs.declared.identifier.ObjectName.TheVariants.{Global, Alloca, Parameter}
use Rattle.program.specs.declared.instruction.Operand.{Operand}
use Rattle.program.specs.declared.instruction.Operand.TheVariants.{Number, Register}
use Rattle.laws_phases.specs.definedness.declared.act.Act.{Act}
use Rattle.laws_phases.specs.definedness.declared.act.Act.TheVariants.{Needs}
use Rattle.laws_phases.specs.definedness.RegisterActs.{register_needs, form_needs, object_needs, operand_needs, zone_needs}
use Rattle.laws_phases.specs.ranges.Truth.{operand_value}
use Rattle.laws_conditions.specs.rules.Costs.{numbers}
use Rattle.laws_phases.specs.defined.Stable.{Names}
use Rattle.laws_phases.proofs.defined.Lists.{first_within, flat_within}
use Rattle.laws_phases.specs.zones.Uses.{HoldsCell}
use Rattle.laws_phases.specs.zones.Callees.{IsOverParameters}

-- the registers outside the changed ones, and the frame's home, are the same
pub record IsOutside (changed : ℕ → Type 0) (f g : Frame) : Type 0 where
  pub home : g.home ≡ f.home
  pub registers : (x : ℕ) → (changed x → ⊥) → g.registers x ≡ f.registers x

-- no changed register is named
abbrev pub IsNameOff : (ℕ → Type 0) → ObjectName → Type 0
IsNameOff changed name = (r : RegisterId) → name ≡ Parameter r → changed r.0 → ⊥

abbrev pub IsFormOff : (ℕ → Type 0) → Combination → Type 0
IsFormOff changed e = All (λ t. changed t.register.0 → ⊥) e.terms

abbrev pub IsOperandOff : (ℕ → Type 0) → Operand → Type 0
IsOperandOff changed (Number z) = Unit {0}
IsOperandOff changed (Register r) = changed r.0 → ⊥

pub record IsOff (changed : ℕ → Type 0) (z : Zone) : Type 0 where
  pub low : IsFormOff changed z.low
  pub high : IsFormOff changed z.high
  pub object : IsNameOff changed z.object

module _ (changed : ℕ → Type 0) (f g : Frame) (outside : IsOutside changed f g) where
  pub object_stays : (name : ObjectName) → IsNameOff changed name → object_at g name ≡ object_at f name
  object_stays (Global x) off = refl
  object_stays (Alloca a) off = ap (λ h. object_at (record f { home = h }) (Alloca a)) outside.home
  object_stays (Parameter r) off = ap (λ v. and_then (cell_of v) (λ (c : Cell). Some c.object)) (outside.registers r.0 (off r refl))

  pub operand_stays : (x : Operand) → IsOperandOff changed x → operand_value (numbers g.registers) x ≡ operand_value (numbers f.registers) x
  operand_stays (Number z) off = refl
  operand_stays (Register r) off = ap (λ o. or_zero (word_of o)) (outside.registers r.0 off)

  form_stays : (e : Combination) → IsFormOff changed e → value (numbers g.registers) e ≡ value (numbers f.registers) e
  form_stays e off = value_same (numbers g.registers) (numbers f.registers) e
      (All-weaker (λ (t : Term). changed t.register.0 → ⊥) (λ (t : Term). numbers g.registers t.register.0 ≡ numbers f.registers t.register.0) (λ t h. ap (λ o. or_zero (word_of o)) (outside.registers t.register.0 h)) e.terms off)

  pub zone_stays : (z : Zone) → IsOff changed z → (c : Cell) → HoldsCell f z c → HoldsCell g z c
  zone_stays z off c h = record {
    object = object_stays z.object off.object ∙ h.object;
    from_low = subst (λ x. x ≤ℤ pos c.index) (sym (form_stays z.low off.low)) h.from_low;
    before_high = subst (λ x. (pos c.index +ℤ pos 1) ≤ℤ x) (sym (form_stays z.high off.high)) h.before_high;
  }

  pub zone_back : (z : Zone) → IsOff changed z → (c : Cell) → HoldsCell g z c → HoldsCell f z c
  zone_back z off c h = record {
    object = sym (object_stays z.object off.object) ∙ h.object;
    from_low = subst (λ x. x ≤ℤ pos c.index) (form_stays z.low off.low) h.from_low;
    before_high = subst (λ x. (pos c.index +ℤ pos 1) ≤ℤ x) (form_stays z.high off.high) h.before_high;
  }

-- ---- zones over parameters, where no parameter changes

form_over : (changed : ℕ → Type 0) (n : ℕ) (e : Combination) → ((x : ℕ) → changed x → n ≤ x) → All (λ t. t.register.0 < n) e.terms → IsFormOff changed e
form_over changed n e above over = All-weaker (λ (t : Term). t.register.0 < n) (λ (t : Term). changed t.register.0 → ⊥) (λ t l c. let h = above t.register.0 c in omega (arith, h, l)) e.terms over

pub over_off : (changed : ℕ → Type 0) (n : ℕ) (z : Zone) → ((x : ℕ) → changed x → n ≤ x) → IsOverParameters n z → ((r : RegisterId) → z.object ≡ Parameter r → r.0 < n) → IsOff changed z
over_off changed n z above over own = record {
  low = form_over changed n z.low above over.low;
  high = form_over changed n z.high above over.high;
  object = λ r e c. let h = above r.0 c in let l = own r e in omega (arith, h, l);
}

-- ---- zones by what they need

module _ (changed : ℕ → Type 0) (line : ℕ) where
  form_needed : (e : Combination) → ((x : ℕ) → changed x → Contains (form_needs line e) (Needs x line) → ⊥) → IsFormOff changed e
  form_needed e apart = All-weaker (Contains e.terms) (λ (t : Term). changed t.register.0 → ⊥)
      (λ t within c. apart t.register.0 c (flat_within (λ (u : Term). register_needs line u.register) e.terms t (Needs t.register.0 line) within (first_within (Needs t.register.0 line) []))) e.terms (All-contains_itself e.terms)

  pub name_needed : (allocas : List AllocaOf) (name : ObjectName) → ((x : ℕ) → changed x → Contains (object_needs allocas line name) (Needs x line) → ⊥) → IsNameOff changed name
  name_needed allocas name apart r e c =
      apart r.0 c (subst (λ (n : ObjectName). Contains (object_needs allocas line n) (Needs r.0 line)) (sym e) (first_within (Needs r.0 line) []))

  pub operand_needed : (x : Operand) → ((y : ℕ) → changed y → Contains (operand_needs line x) (Needs y line) → ⊥) → IsOperandOff changed x
  operand_needed (Number z) apart = tt
  operand_needed (Register r) apart = λ c. apart r.0 c (first_within (Needs r.0 line) [])

pub needs_off : (changed : ℕ → Type 0) (allocas : List AllocaOf) (z : Zone) → ((x : ℕ) → changed x → Names (zone_needs allocas z) x → ⊥) → IsOff changed z
needs_off changed allocas z apart =
    let object : List Act = object_needs allocas z.line z.object in
    let low : List Act = form_needs z.line z.low in
    let high : List Act = form_needs z.line z.high in
    record {
      low = form_needed changed z.line z.low (λ x c h. apart x c (z.line, Contains-append_right object (low ++ high) (Needs x z.line) (Contains-append_left low high (Needs x z.line) h)));
      high = form_needed changed z.line z.high (λ x c h. apart x c (z.line, Contains-append_right object (low ++ high) (Needs x z.line) (Contains-append_right low high (Needs x z.line) h)));
      object = name_needed changed z.line allocas z.object (λ x c h. apart x c (z.line, Contains-append_left object (low ++ high) (Needs x z.line) h));
    }
