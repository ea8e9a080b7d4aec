-- In a program that the verifier takes the objects that an instruction names are there, and so is the alloca of an `alloca`.
use Rattle.std.proofs.Common.{◌≡◌, ◌∙◌, ℕ, ◌<◌, List, length, map, Option, Some, None, refl, sym, ap, subst, arith, true, nat_eq, Ok, Result}
use Rattle.std.specs.Prelude.{⊤, slice_get, nat_lt, ◌==◌}
use Rattle.std.proofs.lemmas.Bool.{and_parts}
use Rattle.std.proofs.lemmas.Bool.Decides.{nat_tests}
use Rattle.std.proofs.lemmas.List.Elements.{All-contains}
use Rattle.std.specs.Option.{option_map}
use Rattle.std.proofs.lemmas.Option.{slice_get_within, slice_get-map}
use Rattle.linear.specs.declared.form.RegisterId.{RegisterId}
use Rattle.semantics.specs.Frames.{Does, item_at, global_cells, alloca_cells, parameter_cells, cells_in, cells_of}
use Rattle.program.specs.declared.function.Alloca.{Alloca}
use Rattle.program.specs.declared.function.Function.{Function}
use Rattle.program.specs.declared.function.Global.{Global}
use Rattle.program.specs.declared.function.Parameter.{Parameter}
use Rattle.program.specs.declared.function.Program.{Program}
use Rattle.program.specs.declared.identifier.AllocaId.{AllocaId}
use Rattle.program.specs.declared.identifier.ObjectName.{ObjectName}
use Rattle.program.specs.declared.identifier.ObjectName.TheVariants as object
use Rattle.program.specs.declared.instruction.Instruction.{Instruction}
use Rattle.program.specs.declared.instruction.Instruction.TheVariants as instruction
use Rattle.syntax.specs.declared.instruction.Instruction.{Instruction as InstructionText}
use Rattle.syntax.specs.declared.instruction.Instruction.TheVariants as text
use Rattle.syntax.specs.declared.module.Function.{Function as FunctionText}
use Rattle.syntax.specs.declared.module.Global.{Global as GlobalText}
use Rattle.syntax.specs.declared.module.Module.{Module}
use Rattle.laws_schedule.specs.ir_reader.Kept.{IsGlobalWritten, IsKeptModule}
use Rattle.laws_schedule.proofs.ir_reader.Keeping.{answers_kept}
use Rattle.laws_schedule.specs.refusal.declared.broken.Broken.{Broken as TypeFault}
use Rattle.laws_schedule.specs.types.declared.names.scope.Holding.{Holding}
use Rattle.laws_schedule.specs.types.declared.names.scope.Holding.TheVariants as holding
use Rattle.laws_schedule.specs.types.declared.names.scope.Named.TheVariants as named_as
use Rattle.laws_schedule.specs.types.declared.names.scope.Register.{Register}
use Rattle.laws_schedule.specs.types.declared.names.address.WholeObject.{WholeObject}
use Rattle.laws_schedule.specs.types.names.Address.{object_of}
use Rattle.laws_schedule.specs.types.names.Fault.{both_of, breaks, made_of, unless_of}
use Rattle.laws_schedule.specs.types.names.Item.{items_of}
use Rattle.laws_schedule.specs.types.names.Layout.{layout_of}
use Rattle.laws_schedule.specs.types.names.Operand.{register_of}
use Rattle.laws_schedule.specs.types.names.Scope.{Scope}
use Rattle.laws_schedule.proofs.types.names.Inversion.{made_ok, then_ok, both_ok, same_ok, err_not_ok}
use Rattle.laws_schedule.specs.types.Apart.{InstructionNames}
use Rattle.laws_schedule.specs.types.Call.{Named}
use Rattle.laws_schedule.specs.types.Instruction.{defined_of, as_alloca, alloca_id_of, instruction_of}
use Rattle.laws_schedule.specs.types.Meaning.{Means, global_of}
use Rattle.laws_schedule.proofs.types.Scopes.{register_found}
use Rattle.laws_schedule.proofs.laws_phases.defined.Items.{stands, step_there}
use Rattle.laws_schedule.proofs.laws_phases.defined.Lists.{at_within}
use Rattle.laws_schedule.proofs.typing.Calls.{instruction_at}
use Rattle.laws_schedule.proofs.typing.Objects.{cells_are}
use Rattle.laws_schedule.proofs.typing.Parts.{function_from, block_from, step_from}
use Rattle.laws_schedule.proofs.typing.Positive.{object_positive}
use Rattle.laws_schedule.proofs.typing.Registers.{kept_function}
use Rattle.laws_schedule.proofs.typing.Scoping.{IsNamedRight, HoldsRight, IsOwnObject, named_found, layout_right}
use Rattle.laws_schedule.proofs.typing.Sized.{named_sized}
use Rattle.store.specs.verifier.Accepted.{IsProgramOf}

-- ---- what has cells is there

global_there : (globals : List Global) (g : ℕ) → 0 < global_cells (slice_get globals g) → g < length globals
global_there globals g some = by (slice_get globals g) refl some
  where
    by : (o : Option Global) → slice_get globals g ≡ o → 0 < global_cells o → g < length globals
    by None is h = absurd (omega (arith, h))
    by (Some x) is h = slice_get_within globals g x is

own_alloca_there : (allocas : List Alloca) (a : ℕ) → 0 < alloca_cells (slice_get allocas a) → a < length allocas
own_alloca_there allocas a some = by (slice_get allocas a) refl some
  where
    by : (o : Option Alloca) → slice_get allocas a ≡ o → 0 < alloca_cells o → a < length allocas
    by None is h = absurd (omega (arith, h))
    by (Some x) is h = slice_get_within allocas a x is

own_parameter_there : (parameters : List Parameter) (r : ℕ) → 0 < parameter_cells (slice_get parameters r) → r < length parameters
own_parameter_there parameters r some = by (slice_get parameters r) refl some
  where
    by : (o : Option Parameter) → slice_get parameters r ≡ o → 0 < parameter_cells o → r < length parameters
    by None is h = absurd (omega (arith, h))
    by (Some x) is h = slice_get_within parameters r x is

-- the object is one of the program's, or of the function's
abbrev pub IsThere : Program → Function → ObjectName → Type 0
IsThere program function (object.Global g) = g.0 < length program.globals
IsThere program function (object.Alloca a) = a.0 < length function.allocas
IsThere program function (object.Parameter r) = r.0 < length function.parameters

there_by_cells : (program : Program) (f : ℕ) (function : Function) → slice_get program.functions f ≡ Some function → (name : ObjectName) → 0 < cells_of program f name → IsThere program function name
there_by_cells program f function at (object.Global g) some = global_there program.globals g.0 some
there_by_cells program f function at (object.Alloca a) some = own_alloca_there function.allocas a.0 (subst (λ (o : Option Function). 0 < cells_in program o (object.Alloca a)) at some)
there_by_cells program f function at (object.Parameter r) some = own_parameter_there function.parameters r.0 (subst (λ (o : Option Function). 0 < cells_in program o (object.Parameter r)) at some)

-- ---- the alloca of an `alloca`

abbrev AllocaThere : List Alloca → Instruction → Type 0
AllocaThere allocas (instruction.Alloca d a) = a.0 < length allocas
AllocaThere allocas other = ⊤

module _ (function : FunctionText) where
  abbrev own : List Alloca
  own = (layout_of function).allocas

  abbrev scope : Scope
  scope = (layout_of function).scope

  object_is_own : (name : ObjectName) (cells : ℕ) (line : ℕ) (id : AllocaId) → IsOwnObject function.parameters own name cells → as_alloca line (holding.Object name cells) ≡ Ok id → id.0 < length own
  object_is_own (object.Global g) cells line id h e = absurd h
  object_is_own (object.Parameter r) cells line id h e = absurd (err_not_ok _ id e)
  object_is_own (object.Alloca a) cells line id h e = subst (λ (x : AllocaId). x.0 < length own) (same_ok a id e) (slice_get_within own a.0 h.0 h.1)

  held_alloca : (line : ℕ) (name : List ℕ) (register : Register) (held : Holding) (id : AllocaId) → HoldsRight function own name register.origin held → as_alloca line held ≡ Ok id → id.0 < length own
  held_alloca line name register (holding.Object o cells) id h e = object_is_own o cells line id h e
  held_alloca line name register holding.Element id h e = absurd (err_not_ok _ id e)
  held_alloca line name register (holding.Number width) id h e = absurd (err_not_ok _ id e)
  held_alloca line name register holding.Truth id h e = absurd (err_not_ok _ id e)
  held_alloca line name register holding.Region id h e = absurd (err_not_ok _ id e)

  alloca_there : (line : ℕ) (name : List ℕ) (id : AllocaId) → alloca_id_of scope line name ≡ Ok id → id.0 < length own
  alloca_there line name id e =
      let part = then_ok (λ (r : Register). as_alloca line r.holding) (register_of scope line name) id e in
      let right = named_found (IsNamedRight function (length (layout_of function).registers) own) scope name (named_as.Register part.0) (layout_right function).entries (register_found scope line name part.0 part.1) in
      held_alloca line name part.0 part.0.holding id right.holds part.2

  module _ (whole : Module) (named : Named) (f b line : ℕ) where
    abbrev P : Instruction → Type 0
    P x = AllocaThere own x

    meant_alloca : (written : InstructionText) (meant : Instruction) → instruction_of (items_of whole) whole.functions named scope (record { function = f; block = b; line = line }) written ≡ Ok meant → P meant
    meant_alloca (text.Binary register operator width left right) meant e = let made = made_ok _ _ meant e in subst P made.2 tt
    meant_alloca (text.Compare register predicate width left right) meant e = let made = made_ok _ _ meant e in subst P made.2 tt
    meant_alloca (text.Convert register conversion value) meant e = let made = made_ok _ _ meant e in subst P made.2 tt
    meant_alloca (text.Alloca register size) meant e =
        let entry : Result (Unit {0}) TypeFault = unless_of (nat_eq b 0) (breaks 204 line) in
        let part = then_ok (λ (p : RegisterId × AllocaId). made_of (λ (u : Unit {0}). instruction.Alloca p.0 p.1) entry)
        (both_of (defined_of scope line register) (alloca_id_of scope line register)) meant e in
        subst P (made_ok (λ (u : Unit {0}). instruction.Alloca part.0.0 part.0.1) entry meant part.2).2 (alloca_there line register part.0.1 (both_ok _ _ part.0 part.1).1)
    meant_alloca (text.ElementPointer register base index) meant e = let made = made_ok _ _ meant e in subst P made.2 tt
    meant_alloca (text.Load register at) meant e = let made = made_ok _ _ meant e in subst P made.2 tt
    meant_alloca (text.Store value at) meant e = let made = made_ok _ _ meant e in subst P made.2 tt
    meant_alloca (text.StoreZeros cells at) meant e =
        let part = then_ok (λ (found : WholeObject). made_of (λ (u : Unit {0}). instruction.StoreZeros cells found.name) (unless_of (nat_eq found.cells cells) (breaks 204 line)))
        (object_of (items_of whole) scope line at) meant e in
        subst P (made_ok (λ (u : Unit {0}). instruction.StoreZeros cells part.0.name) (unless_of (nat_eq part.0.cells cells) (breaks 204 line)) meant part.2).2 tt
    meant_alloca (text.AtomicAdd at value) meant e = let made = made_ok _ _ meant e in subst P made.2 tt
    meant_alloca (text.Call register callee arguments) meant e = let made = made_ok _ _ meant e in subst P made.2 tt
    meant_alloca (text.StartRegion register) meant e = let made = made_ok _ _ meant e in subst P made.2 tt

-- ---- of a program

module _ (whole : Module) (kept : IsKeptModule whole) (program : Program) (m : Means whole (Ok program)) where
  named_there : (f b i : ℕ) (what : Instruction) (function : Function) (name : ObjectName) → item_at program f b i ≡ Some (Does what) → slice_get program.functions f ≡ Some function → InstructionNames what name →
      IsThere program function name
  named_there f b i what function name e at names =
      let here = instruction_at whole program m f b i what e in
      let found = named_sized whole here.outer.text m.0 f b what name here.meant.uses names in
      let l : 0 < found.0 = object_positive whole kept here.outer.text (kept_function whole kept f here.outer.text here.outer.at_text) name found.0 found.1 in
      let same : cells_of program f name ≡ found.0 = cells_are whole program m f here.function here.is.at_function here.outer name found.0 found.1 in
      there_by_cells program f function at name (omega (arith, l, same))

  own_there : (f b i : ℕ) (d : RegisterId) (a : AllocaId) (function : Function) → item_at program f b i ≡ Some (Does (instruction.Alloca d a)) → slice_get program.functions f ≡ Some function → a.0 < length function.allocas
  own_there f b i d a function e at =
      let s = stands program f b i (Does (instruction.Alloca d a)) e in
      let one = step_there s.block.steps s.block.ending i (instruction.Alloca d a) s.item in
      let outer = function_from whole program m f s.function s.is.at_function in
      let from = block_from whole m.0 f b s.function s.block outer s.is.at_block in
      let step = step_from whole m.0 f b s.function s.block outer from i one.0 one.1 in
      let P : Instruction → Type 0 = λ x. AllocaThere (layout_of outer.text).allocas x in
      let l : a.0 < length (layout_of outer.text).allocas = subst P one.2 (meant_alloca outer.text whole m.0 f b step.text.line step.text.instruction one.0.instruction step.is) in
      let same : s.function ≡ function = (let both : Some s.function ≡ Some function = sym s.is.at_function ∙ at in cc) in
      subst (λ (x : List Alloca). a.0 < length x) (outer.is.allocas_are ∙ ap (λ (x : Function). x.allocas) same) l

  globals_are : program.globals ≡ map global_of whole.globals
  globals_are = let made = made_ok _ _ program m.2 in sym (ap (λ (p : Program). p.globals) made.2)

  text_at : (o : Option GlobalText) (global : Global) → option_map global_of o ≡ Some global → (one : GlobalText) × (o ≡ Some one) × (global_of one ≡ global)
  text_at None global e = absurd (cc)
  text_at (Some one) global e = (one, refl, cc)

-- a program that the verifier takes, by the text that means it
module _ (text : List ℕ) (program : Program) (accepted : IsProgramOf text program) where
  abbrev whole : Module
  whole = accepted.0

  kept : IsKeptModule whole
  kept = answers_kept text accepted.0 accepted.1

  meaning : Means whole (Ok program)
  meaning = accepted.2

  pub object_named : (f b i : ℕ) (what : Instruction) (function : Function) (name : ObjectName) → item_at program f b i ≡ Some (Does what) → slice_get program.functions f ≡ Some function → InstructionNames what name →
      IsThere program function name
  object_named f b i what function name e at names = named_there whole kept program meaning f b i what function name e at names

  pub alloca_named : (f b i : ℕ) (d : RegisterId) (a : AllocaId) (function : Function) → item_at program f b i ≡ Some (Does (instruction.Alloca d a)) → slice_get program.functions f ≡ Some function → a.0 < length function.allocas
  alloca_named f b i d a function e at = own_there whole kept program meaning f b i d a function e at

  -- a global has a cell
  pub global_positive : (g : ℕ) (global : Global) → slice_get program.globals g ≡ Some global → 0 < global.cells
  global_positive g global at =
      let read : option_map global_of (slice_get whole.globals g) ≡ Some global =
      sym (slice_get-map global_of whole.globals g) ∙ ap (λ (l : List Global). slice_get l g) (sym (globals_are whole kept program meaning)) ∙ at in
      let one = text_at whole kept program meaning (slice_get whole.globals g) global read in
      let l : 0 < one.0.cells = text_positive g one.0 one.1 in
      subst (λ (x : Global). 0 < x.cells) one.2 l
    where
      lt_from : (a b : ℕ) → nat_lt a b ≡ true → a < b
      lt_from a b h = grind (arith, nat_tests)

      text_positive : (g : ℕ) (one : GlobalText) → slice_get whole.globals g ≡ Some one → 0 < one.cells
      text_positive g one at =
          let fits : IsGlobalWritten one = All-contains IsGlobalWritten whole.globals one kept.globals (at_within whole.globals g one at) in
          lt_from 0 one.cells (and_parts (0 == 0) (nat_lt 0 one.cells) fits.fits).1
