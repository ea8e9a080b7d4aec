-- Where a terminator leads, and what a `ret` gives.
use Rattle.std.proofs.Common.{◌≡◌, ℕ, ◌<◌, inl, inr, List, length, Option, Some, None, true, false, is_some, refl, ap, ◌∙◌, subst, arith, Result, Ok, Err}
use Rattle.std.specs.Prelude.{slice_get}
use Rattle.semantics.specs.Frames.{Ends, block_at, item_at}
use Rattle.program.specs.declared.identifier.BlockId.{BlockId}
use Rattle.program.specs.declared.function.Function.{Function}
use Rattle.program.specs.declared.function.Program.{Program}
use Rattle.program.specs.declared.instruction.Case.{Case}
use Rattle.program.specs.declared.instruction.Operand.{Operand}
use Rattle.program.specs.declared.instruction.Terminator.{Terminator}
use Rattle.program.specs.declared.instruction.Terminator.TheVariants as terminator
use Rattle.syntax.specs.declared.instruction.Operand.{Operand as OperandText}
use Rattle.syntax.specs.declared.module.Function.{Function as FunctionText}
use Rattle.syntax.specs.declared.module.Module.{Module}
use Rattle.syntax.specs.declared.module.ResultType.{ResultType}
use Rattle.syntax.specs.declared.module.ResultType.TheVariants.{Number, Void}
use Rattle.syntax.specs.declared.operator.Width.{Width}
use Rattle.syntax.specs.declared.operator.Width.TheVariants.{Bits64}
use Rattle.syntax.specs.declared.terminator.Case.{Case as CaseText}
use Rattle.syntax.specs.declared.terminator.Terminator.{Terminator as TerminatorText}
use Rattle.syntax.specs.declared.terminator.Terminator.TheVariants as text
use Rattle.laws_phases.specs.cfg.declared.structure.Way.{Way}
use Rattle.laws_phases.specs.cfg.declared.structure.Way.TheVariants as way
use Rattle.refusal.specs.declared.broken.Broken.{Broken as TypeFault}
use Rattle.types.specs.names.Fault.{breaks}
use Rattle.types.specs.declared.names.scope.Named.{Named}
use Rattle.types.specs.declared.names.scope.Named.TheVariants as named
use Rattle.types.specs.names.Layout.{layout_of}
use Rattle.types.specs.names.Operand.{as_label, label_of, operand_of}
use Rattle.types.specs.names.Scope.{Scope}
use Rattle.types.specs.names.Table.{look_up}
use Rattle.types.proofs.names.Inversion.{made_ok, then_ok, both_ok, same_ok, err_not_ok, all_at}
use Rattle.types.specs.Meaning.{Means}
use Rattle.types.specs.Terminator.{case_of, cases_of, return_of, terminator_of}
use Rattle.laws_conditions.specs.rules.Registers.{is_number, returns_number}
use Rattle.laws_phases.specs.defined.Leads.{LeadsTo}
use Rattle.laws_phases.proofs.defined.Items.{stands, end_there}
use Rattle.laws_phases.proofs.defined.Lists.{within_at}
use Rattle.laws_schedule.proofs.typing.Lists.{there}
use Rattle.laws_schedule.proofs.typing.Parts.{function_from, block_from, ending_from}
use Rattle.verifier.proofs.Lists.{all_count}
use Rattle.laws_schedule.proofs.typing.Scoping.{IsNamedRight, layout_right, named_found}

label_found : (scope : Scope) (line : ℕ) (name : List ℕ) (block : BlockId) → label_of scope line name ≡ Ok block → look_up scope name ≡ Some (named.Label block)
label_found scope line name block e = from (look_up scope name) refl e
  where
    from : (o : Option Named) → look_up scope name ≡ o → as_label line o ≡ Ok block → look_up scope name ≡ Some (named.Label block)
    from None is k = absurd (err_not_ok _ block k)
    from (Some (named.Label other)) is k = is ∙ ap (λ (b : BlockId). Some (named.Label b)) (same_ok other block k)
    from (Some (named.Register register)) is k = absurd (err_not_ok _ block k)

-- the targets are among the first n blocks
abbrev Targets : ℕ → Terminator → Type 0
Targets n (terminator.Jump target) = target.0 < n
Targets n (terminator.Branch condition x y) = (x.0 < n) × (y.0 < n)
Targets n (terminator.Switch width value default cases) = (default.0 < n) × ((i : ℕ) (c : Case) → slice_get cases i ≡ Some c → c.target.0 < n)
Targets n (terminator.Return value) = Unit {0}
Targets n (terminator.Detach region body continuation) = (body.0 < n) × (continuation.0 < n)
Targets n (terminator.Reattach region continuation) = continuation.0 < n
Targets n (terminator.Sync region target) = target.0 < n

same_below : (n x to : ℕ) → x ≡ to → x < n → to < n
same_below n x to e l = omega arith

leads_below : (n : ℕ) (t : Terminator) (w : Way) (to : ℕ) → Targets n t → LeadsTo t w to → to < n
leads_below n (terminator.Jump x) way.Branch to h e = same_below n x.0 to e h
leads_below n (terminator.Branch c x y) way.Branch to h (inl e) = same_below n x.0 to e h.0
leads_below n (terminator.Branch c x y) way.Branch to h (inr e) = same_below n y.0 to e h.1
leads_below n (terminator.Switch w a x cases) way.Branch to h (inl e) = same_below n x.0 to e h.0
leads_below n (terminator.Switch w a x cases) way.Branch to h (inr e) = let at = within_at cases e.0 e.1 in same_below n e.0.target.0 to e.2 (h.1 at.0 e.0 at.1)
leads_below n (terminator.Return v) way.Branch to h e = absurd e
leads_below n (terminator.Detach r x y) way.Branch to h e = absurd e
leads_below n (terminator.Reattach r x) way.Branch to h e = absurd e
leads_below n (terminator.Sync r x) way.Branch to h e = absurd e
leads_below n (terminator.Jump x) way.Detached to h e = absurd e
leads_below n (terminator.Branch c x y) way.Detached to h e = absurd e
leads_below n (terminator.Switch w a x cases) way.Detached to h e = absurd e
leads_below n (terminator.Return v) way.Detached to h e = absurd e
leads_below n (terminator.Detach r x y) way.Detached to h e = same_below n x.0 to e h.0
leads_below n (terminator.Reattach r x) way.Detached to h e = absurd e
leads_below n (terminator.Sync r x) way.Detached to h e = absurd e
leads_below n (terminator.Jump x) way.Continued to h e = absurd e
leads_below n (terminator.Branch c x y) way.Continued to h e = absurd e
leads_below n (terminator.Switch w a x cases) way.Continued to h e = absurd e
leads_below n (terminator.Return v) way.Continued to h e = absurd e
leads_below n (terminator.Detach r x y) way.Continued to h e = same_below n y.0 to e h.1
leads_below n (terminator.Reattach r x) way.Continued to h e = absurd e
leads_below n (terminator.Sync r x) way.Continued to h e = absurd e
leads_below n (terminator.Jump x) (way.Synced region) to h e = absurd e
leads_below n (terminator.Branch c x y) (way.Synced region) to h e = absurd e
leads_below n (terminator.Switch w a x cases) (way.Synced region) to h e = absurd e
leads_below n (terminator.Return v) (way.Synced region) to h e = absurd e
leads_below n (terminator.Detach r x y) (way.Synced region) to h e = absurd e
leads_below n (terminator.Reattach r x) (way.Synced region) to h e = absurd e
leads_below n (terminator.Sync r x) (way.Synced region) to h e = same_below n x.0 to e.1 h

-- a `ret` with no value ends a function that gives none
abbrev GivesValue : ResultType → Option Operand → Type 0
GivesValue Number None = ⊥
GivesValue Number (Some value) = Unit {0}
GivesValue Void value = Unit {0}

abbrev Gives : ResultType → Terminator → Type 0
Gives result (terminator.Jump target) = Unit {0}
Gives result (terminator.Branch condition x y) = Unit {0}
Gives result (terminator.Switch width value default cases) = Unit {0}
Gives result (terminator.Return value) = GivesValue result value
Gives result (terminator.Detach region body continuation) = Unit {0}
Gives result (terminator.Reattach region continuation) = Unit {0}
Gives result (terminator.Sync region target) = Unit {0}

void_gives : (result : ResultType) → GivesValue result None → is_number result ≡ false
void_gives Number h = absurd h
void_gives Void h = refl

module _ (function : FunctionText) where
  abbrev scope : Scope
  scope = (layout_of function).scope

  abbrev Fits : Terminator → Type 0
  Fits t = Targets (length function.blocks) t × Gives function.result_type t

  label_below : (line : ℕ) (name : List ℕ) (block : BlockId) → label_of scope line name ≡ Ok block → block.0 < length function.blocks
  label_below line name block e =
      named_found (IsNamedRight function (length (layout_of function).registers) (layout_of function).allocas) scope name (named.Label block) (layout_right function).entries (label_found scope line name block e)

  case_below : (line : ℕ) (width : Width) (written : CaseText) (one : Case) → case_of scope line width written ≡ Ok one → one.target.0 < length function.blocks
  case_below line width written one e =
      let made = made_ok _ _ one e in
      let P : Case → Type 0 = λ x. x.target.0 < length function.blocks in
      subst P made.2 (label_below line written.target made.0.0 (both_ok _ _ made.0 made.1).0)

  cases_below : (line : ℕ) (width : Width) (texts : List CaseText) (cases : List Case) → cases_of scope line width texts ≡ Ok cases → (i : ℕ) (c : Case) → slice_get cases i ≡ Some c → c.target.0 < length function.blocks
  cases_below line width texts cases e i c at =
      let found = all_at (λ _. case_of scope line width) texts cases i c e at in
      case_below line width found.0 c found.2

  return_fits : (line : ℕ) (result : ResultType) (value : Option OperandText) (t : Terminator) → return_of scope line result value ≡ Ok t → Targets (length function.blocks) t × Gives result t
  return_fits line Void None t e = let P : Terminator → Type 0 = λ x. Targets (length function.blocks) x × Gives Void x in subst P (same_ok (terminator.Return None) t e) (tt, tt)
  return_fits line Number None t e = absurd (err_not_ok _ t e)
  return_fits line Number (Some value) t e =
      let P : Terminator → Type 0 = λ x. Targets (length function.blocks) x × Gives Number x in
      let made = made_ok (λ (v : Operand). terminator.Return (Some v)) (operand_of scope line Bits64 value) t e in
      subst P made.2 (tt, tt)
  return_fits line Void (Some value) t e =
      let bad : Operand → Result Terminator TypeFault = λ v. Err (breaks 202 line) in
      absurd (err_not_ok _ t (then_ok bad (operand_of scope line Bits64 value) t e).2)

  terminator_fits : (line : ℕ) (written : TerminatorText) (t : Terminator) → terminator_of scope line function.result_type written ≡ Ok t → Fits t
  terminator_fits line (text.Jump target) t e =
      let made = made_ok _ _ t e in
      let P : Terminator → Type 0 = λ x. Fits x in
      subst P made.2 (label_below line target made.0 made.1, tt)
  terminator_fits line (text.Branch condition x y) t e =
      let made = made_ok _ _ t e in
      let labels = both_ok _ _ made.0.1 (both_ok _ _ made.0 made.1).1 in
      let P : Terminator → Type 0 = λ x. Fits x in
      subst P made.2 ((label_below line x made.0.1.0 labels.0, label_below line y made.0.1.1 labels.1), tt)
  terminator_fits line (text.Switch width value default cases) t e =
      let made = made_ok _ _ t e in
      let rest = both_ok _ _ made.0.1 (both_ok _ _ made.0 made.1).1 in
      let P : Terminator → Type 0 = λ x. Fits x in
      subst P made.2 ((label_below line default made.0.1.0 rest.0, cases_below line width cases made.0.1.1 rest.1), tt)
  terminator_fits line (text.Return value) t e = return_fits line function.result_type value t e
  terminator_fits line (text.Detach region body continuation) t e =
      let made = made_ok _ _ t e in
      let labels = both_ok _ _ made.0.1 (both_ok _ _ made.0 made.1).1 in
      let P : Terminator → Type 0 = λ x. Fits x in
      subst P made.2 ((label_below line body made.0.1.0 labels.0, label_below line continuation made.0.1.1 labels.1), tt)
  terminator_fits line (text.Reattach region continuation) t e =
      let made = made_ok _ _ t e in
      let P : Terminator → Type 0 = λ x. Fits x in
      subst P made.2 (label_below line continuation made.0.1 (both_ok _ _ made.0 made.1).1, tt)
  terminator_fits line (text.Sync region target) t e =
      let made = made_ok _ _ t e in
      let P : Terminator → Type 0 = λ x. Fits x in
      subst P made.2 (label_below line target made.0.1 (both_ok _ _ made.0 made.1).1, tt)

module _ (whole : Module) (program : Program) (m : Means whole (Ok program)) where
  pub record EndAt (f : ℕ) (t : Terminator) : Type 0 where
    pub function : Function
    pub at_function : slice_get program.functions f ≡ Some function
    pub leads : (w : Way) (to : ℕ) → LeadsTo t w to → to < length function.blocks
    pub gives : Gives function.result_type t

  pub end_at : (f b i : ℕ) (t : Terminator) → item_at program f b i ≡ Some (Ends t) → EndAt f t
  end_at f b i t e =
      let s = stands program f b i (Ends t) e in
      let last = end_there s.block.steps s.block.ending i t s.item in
      let of = function_from whole program m f s.function s.is.at_function in
      let from = block_from whole m.0 f b s.function s.block of s.is.at_block in
      let ending = ending_from whole m.0 f b s.function s.block of from last.0 last.1 in
      let outer = of.text in
      let P : Terminator → Type 0 = λ x. Targets (length outer.blocks) x × Gives outer.result_type x in
      let fits : Targets (length outer.blocks) t × Gives outer.result_type t = subst P last.2 (terminator_fits outer ending.text.line ending.text.terminator last.0.terminator ending.is) in
      let count : length s.function.blocks ≡ length outer.blocks = all_count _ outer.blocks s.function.blocks of.is.blocks_are in
      let same : outer.result_type ≡ s.function.result_type = of.is.result_is in
      let Q : ResultType → Type 0 = λ r. Gives r t in
      record {
        function = s.function;
        at_function = s.is.at_function;
        leads = λ w to l. (let below : to < length outer.blocks = leads_below (length outer.blocks) t w to fits.0 l in omega arith);
        gives = subst Q same fits.1;
      }

  pub targets : (f b i to : ℕ) (t : Terminator) (w : Way) → item_at program f b i ≡ Some (Ends t) → LeadsTo t w to → is_some (block_at program f to) ≡ true
  targets f b i to t w e leads =
      let end = end_at f b i t e in
      rw end.at_function (there end.function.blocks to (end.leads w to leads))

  pub returns : (f b i : ℕ) → item_at program f b i ≡ Some (Ends (terminator.Return None)) → returns_number program f ≡ false
  returns f b i e =
      let end = end_at f b i (terminator.Return None) e in
      rw end.at_function (void_gives end.function.result_type end.gives)
