-- A zone has the same cells behind a step that writes no register that it names.
use Rattle.std.proofs.Common.{◌≡◌, ◌∙◌, ℕ, pos, ◌+ℤ◌, ◌*ℤ◌, ◌≤ℤ◌, List, [], ◌∷◌, Option, Some, refl, sym, ap, subst}
use Rattle.std.specs.Prelude.{All}
use Rattle.std.proofs.lemmas.List.Elements.{All-head, All-tail}
use Rattle.linear.specs.declared.form.Term.{Term}
use Rattle.linear.specs.Forms.{value_of, value}
use Rattle.linear.specs.Terms.{Combination}
use Rattle.semantics.specs.Cells.{Cell}
use Rattle.semantics.specs.Written.{or_zero}
use Rattle.semantics.specs.Frames.{Value, Registers, Frame, and_then, cell_of, word_of, object_at}
use Rattle.semantics.specs.Effect.{Effect}
use Rattle.semantics.specs.State.{went}
use Rattle.program.specs.declared.annotation.Zone.{Zone}
use Rattle.program.specs.declared.identifier.ObjectName.{ObjectName}
use Rattle.program.specs.declared.identifier.ObjectName.TheVariants.{Global, Alloca, Parameter}
use Rattle.laws_conditions.specs.rules.Moves.{GoesOn}
use Rattle.laws_conditions.specs.rules.Costs.{numbers, Lacks}
use Rattle.laws_phases.specs.zones.Uses.{HoldsCell}
use Rattle.laws_phases.specs.zones.Stays.{IsUnnamed, ZonesStay}

terms_same : (r s : Registers) (ts : List Term) → All (λ t. s t.register.0 ≡ r t.register.0) ts → value_of (numbers s) ts ≡ value_of (numbers r) ts
terms_same r s [] all = refl
terms_same r s (t ∷ ts) all =
    ap (λ (v : Option Value). (t.coefficient *ℤ or_zero (word_of v)) +ℤ value_of (numbers s) ts) (All-head (λ (u : Term). s u.register.0 ≡ r u.register.0) t ts all)
    ∙ ap (λ x. (t.coefficient *ℤ numbers r t.register.0) +ℤ x) (terms_same r s ts (All-tail (λ (u : Term). s u.register.0 ≡ r u.register.0) t ts all))

module _ (f : Frame) (dest : Option ℕ) (e : Effect) (goes : GoesOn f dest e) (z : Zone) (unnamed : (d : ℕ) → dest ≡ Some d → IsUnnamed d z) where
  lacking : (form : Combination) → ((d : ℕ) → dest ≡ Some d → Lacks form d) → All (λ t. e.registers t.register.0 ≡ f.registers t.register.0) form.terms
  lacking form lacks k t lt = goes.others _ (λ is. lacks _ is k t lt refl)

  ends_same : (form : Combination) → ((d : ℕ) → dest ≡ Some d → Lacks form d) → value (numbers e.registers) form ≡ value (numbers f.registers) form
  ends_same form lacks = ap (λ x. x +ℤ form.constant) (terms_same f.registers e.registers form.terms (lacking form lacks))

  names_same : (name : ObjectName) → z.object ≡ name → object_at (went f e) name ≡ object_at f name
  names_same (Global g) is = refl
  names_same (Alloca a) is = refl
  names_same (Parameter r) is = ap (λ (v : Option Value). and_then (cell_of v) (λ (c : Cell). Some c.object)) (goes.others r.0 (λ at. (unnamed r.0 at).object is))

  low_same : value (numbers e.registers) z.low ≡ value (numbers f.registers) z.low
  low_same = ends_same z.low (λ d at. (unnamed d at).low)

  high_same : value (numbers e.registers) z.high ≡ value (numbers f.registers) z.high
  high_same = ends_same z.high (λ d at. (unnamed d at).high)

  on : (c : Cell) → HoldsCell f z c → HoldsCell (went f e) z c
  on c h = record {
    object = names_same z.object refl ∙ h.object;
    from_low = subst (λ x. x ≤ℤ pos c.index) (sym low_same) h.from_low;
    before_high = subst (λ x. (pos c.index +ℤ pos 1) ≤ℤ x) (sym high_same) h.before_high;
  }

  back : (c : Cell) → HoldsCell (went f e) z c → HoldsCell f z c
  back c h = record {
    object = sym (names_same z.object refl) ∙ h.object;
    from_low = subst (λ x. x ≤ℤ pos c.index) low_same h.from_low;
    before_high = subst (λ x. (pos c.index +ℤ pos 1) ≤ℤ x) high_same h.before_high;
  }

pub zones_stay : ZonesStay
zones_stay f dest e goes z unnamed c = (on f dest e goes z unnamed c, back f dest e goes z unnamed c)
