-- What the text of a program names is there: so the inner loop finds it.
use Rattle.std.proofs.Common.{◌≡◌, ◌∙◌, ℕ, zero, suc, ◌+◌, ◌%◌, ◌<◌, ◌≤◌, List, [], ◌∷◌, length, map, Option, Some, None, true, is_some, inl, inr, refl, sym, ap, subst, arith}
use Rattle.std.specs.Prelude.{IsSome, slice_get}
use Rattle.std.specs.Option.{option_map}
use Rattle.std.proofs.lemmas.List.{length-map}
use Rattle.std.proofs.lemmas.List.Elements.{All-contains}
use Rattle.std.proofs.lemmas.Option.{slice_get_within, slice_get-map}
use Rattle.linear.specs.declared.form.RegisterId.{RegisterId}
use Rattle.semantics.specs.Frames.{Does, Ends, and_then, item_of, item_at, phis_at, block_phis}
use Rattle.program.specs.Phis.{entry_for}
use Rattle.syntax.specs.declared.operator.Width.{Width}
use Rattle.syntax.specs.declared.operator.Width.TheVariants.{Bits64}
use Rattle.program.specs.declared.function.Alloca.{Alloca}
use Rattle.program.specs.declared.function.Block.{Block}
use Rattle.program.specs.declared.function.Function.{Function}
use Rattle.program.specs.declared.function.Program.{Program}
use Rattle.program.specs.declared.function.RegisterKind.{RegisterKind}
use Rattle.program.specs.declared.identifier.FunctionId.{FunctionId}
use Rattle.program.specs.declared.identifier.ObjectName.{ObjectName}
use Rattle.program.specs.declared.identifier.ObjectName.TheVariants as object
use Rattle.program.specs.declared.instruction.Address.{Address}
use Rattle.program.specs.declared.instruction.Address.TheVariants as address
use Rattle.program.specs.declared.instruction.Argument.{Argument}
use Rattle.program.specs.declared.instruction.Argument.TheVariants as argument
use Rattle.program.specs.declared.instruction.Ending.{Ending}
use Rattle.program.specs.declared.instruction.Instruction.{Instruction}
use Rattle.program.specs.declared.instruction.Instruction.TheVariants as instruction
use Rattle.program.specs.declared.instruction.Operand.{Operand}
use Rattle.program.specs.declared.instruction.Operand.TheVariants as operand
use Rattle.program.specs.declared.instruction.Phi.{Phi}
use Rattle.program.specs.declared.instruction.Step.{Step}
use Rattle.program.specs.declared.instruction.Terminator.{Terminator}
use Rattle.program.specs.declared.instruction.Terminator.TheVariants as terminator
use Rattle.laws_schedule.specs.types.Apart.{InstructionNames}
use Rattle.program.specs.Heads.{parameters_in}
use Rattle.laws_schedule.specs.laws_phases.cfg.Rules.{IsFunctionRight}
use Rattle.laws_schedule.specs.laws_phases.cfg.declared.structure.Way.{Way}
use Rattle.laws_schedule.specs.laws_phases.cfg.declared.structure.Way.TheVariants as way
use Rattle.laws_schedule.specs.laws_phases.defined.Leads.{IsBlock, LeadsTo}
use Rattle.laws_schedule.proofs.laws_phases.defined.Items.{block_is, is_block, function_there, item_there, edge_behind}
use Rattle.laws_schedule.proofs.laws_phases.defined.Lists.{at_within}
use Rattle.laws_schedule.specs.kinds.Uses.{HasKindedUses, address_in}
use Rattle.laws_schedule.proofs.kinds.Needed.{entry_there}
use Rattle.laws_schedule.proofs.kinds.Registers.{entry_kinded}
use Rattle.laws_schedule.proofs.kinds.Uses.{uses_are_kinded}
use Rattle.laws_schedule.proofs.safe.Bounds.{registers_bound}
use Rattle.laws_schedule.proofs.safe.Registers.{first_named}
use Rattle.laws_schedule.specs.typing.Kinds.{HasKinds, IsKinded, IsKindedEnd, IsNumber, IsNumberIfAny, IsOfKind, IsResult}
use Rattle.laws_schedule.proofs.typing.Lists.{there}
use Rattle.laws_schedule.proofs.Accepted.{IsTaken, is_taken}
use Rattle.store.specs.verifier.Accepted.{IsProgramOf}
use Rattle.frame_engine.specs.declared.activation.Places.{Places}
use Rattle.frame_engine.specs.Activation.{allocas_of, or_none}
use Rattle.frame_engine.specs.Fits.{BlockFits, EdgeFits, EndingFits, HasEnding, HasEntry, HasPhi, HasReturned, HasMoves}
use Rattle.frame_engine.specs.Names.{Sizes, sizes, HasAddress, HasArgument, HasNames, HasObject, HasOperand, HasResult}
use Rattle.frame_engine.specs.Starts.{alloca_starts, starts_from}
use Rattle.serial_stack.specs.StackShown.{TextFits}
use Rattle.serial_machine.specs.Safe.{TextsFit}
use Rattle.serial_machine.proofs.text.Named.{IsThere, alloca_named, object_named}
use Rattle.frame_engine.proofs.Turns.{item_end}

-- ---- registers

operand_there : (kinds : List RegisterKind) (n : Sizes) (w : Width) (a : Operand) → n.registers ≡ length kinds → IsNumber kinds w a → HasOperand n a
operand_there kinds n w (operand.Number z) e is = tt
operand_there kinds n w (operand.Register x) e is = subst (λ (k : ℕ). x.0 < k) (sym e) (slice_get_within kinds x.0 _ is)

result_there : (kinds : List RegisterKind) (n : ℕ) (d : Option RegisterId) → n ≡ length kinds → IsResult kinds d → HasResult n d
result_there kinds n None e is = tt
result_there kinds n (Some d) e is = subst (λ (k : ℕ). d.0 < k) (sym e) (slice_get_within kinds d.0 _ is)

returned_there : (kinds : List RegisterKind) (n : Sizes) (a : Option Operand) → n.registers ≡ length kinds → IsNumberIfAny kinds a → HasReturned n a
returned_there kinds n None e is = tt
returned_there kinds n (Some a) e is = operand_there kinds n Bits64 a e is

kind_there : (kinds : List RegisterKind) (n r : ℕ) (k : RegisterKind) → n ≡ length kinds → IsOfKind kinds r k → r < n
kind_there kinds n r k e is = subst (λ (x : ℕ). r < x) (sym e) (slice_get_within kinds r k is)

-- ---- lists

pub starts_long : (at : ℕ) (cells : List ℕ) → length (starts_from at cells) ≡ length cells
starts_long at [] = refl
starts_long at (c ∷ cs) = ap suc (starts_long ((at + c) % 18446744073709551616) cs)

pub some_at : {A : Type 0} (o : Option A) → is_some o ≡ true → (a : A) × (o ≡ Some a)
some_at None h = absurd (cc)
some_at (Some a) h = (a, refl)

-- where each element's place is below a number the list is no longer
pub below_all : {A : Type 0} (xs : List A) (n : ℕ) → ((i : ℕ) (x : A) → slice_get xs i ≡ Some x → i < n) → length xs ≤ n
below_all xs n below = by (length xs) refl
  where
    by : (k : ℕ) → length xs ≡ k → length xs ≤ n
    by zero e = omega (arith, e)
    by (suc k) e =
        let one = some_at (slice_get xs k) (there xs k (omega (arith, e))) in
        let low : k < n = below k one.0 one.1 in
        omega (arith, e, low)

pub parameters_first : (program : Program) → HasKinds program → (f : ℕ) (function : Function) → slice_get program.functions f ≡ Some function → length function.parameters ≤ length function.registers
parameters_first program kinds f function at =
    below_all function.parameters (length function.registers) (λ i one is. slice_get_within function.registers i _ (kinds.parameters f i function one at is))

module _ (text : List ℕ) (program : Program) (accepted : IsProgramOf text program) (places : Places) (moves : ℕ) (enough : length program.globals ≤ length places.globals)
    (all : places.allocas ≡ map (λ (f : Function). alloca_starts f.allocas) program.functions) (room : HasMoves program moves)
  where
    taken : IsTaken program
    taken = is_taken text program accepted

    kinds : HasKinds program
    kinds = taken.names.kinds

    uses : HasKindedUses program
    uses = uses_are_kinded text program accepted

    module _ (f : ℕ) (function : Function) (at : slice_get program.functions f ≡ Some function) where
      abbrev n : Sizes
      n = sizes (length function.registers) (length places.globals) (length (allocas_of places f))

      allocas_long : length (allocas_of places f) ≡ length function.allocas
      allocas_long =
          let read : allocas_of places f ≡ alloca_starts function.allocas =
          ap or_none (ap (λ xs. slice_get xs f) all ∙ slice_get-map (λ (x : Function). alloca_starts x.allocas) program.functions f ∙ ap (option_map (λ (x : Function). alloca_starts x.allocas)) at) in
          ap length read ∙ starts_long 0 (map (λ (a : Alloca). a.cells) function.allocas) ∙ length-map function.allocas (λ (a : Alloca). a.cells)

      parameters_low : length function.parameters ≤ length function.registers
      parameters_low = parameters_first program kinds f function at

      object_there : (name : ObjectName) → IsThere program function name → HasObject n name
      object_there (object.Global g) h = omega (arith, h, enough)
      object_there (object.Alloca a) h = let l = allocas_long in omega (arith, h, l)
      object_there (object.Parameter r) h = let l = parameters_low in omega (arith, h, l)

      module _ (b : ℕ) (block : Block) (at_block : slice_get function.blocks b ≡ Some block) where
        is : IsBlock program f b function block
        is = record { at_function = at; at_block = at_block }

        module _ (i : ℕ) (what : Instruction) (here : item_at program f b i ≡ Some (Does what)) where
          named_there : (name : ObjectName) → InstructionNames what name → HasObject n name
          named_there name names = object_there name (object_named text program accepted f b i what function name here at names)

          address_there : (a : Address) → address_in what ≡ Some a → ((name : ObjectName) → a ≡ address.First name → InstructionNames what name) → HasAddress n a
          address_there (address.First name) e names = named_there name (names name refl)
          address_there (address.Element x) e names = slice_get_within function.registers x.0 _ (uses.elements f b i what x function here at e)

          kinded : IsKinded function.registers what
          kinded = kinds.steps f b i what function here at

        argument_there : (i : ℕ) (d : Option RegisterId) (g : FunctionId) (arguments : List Argument) → item_at program f b i ≡ Some (Does (instruction.Call d g arguments)) → (k : ℕ) (a : Argument) → slice_get arguments k ≡ Some a → HasArgument n a
        argument_there i d g arguments here k (argument.Number a) e = operand_there function.registers n Bits64 a refl ((kinded i (instruction.Call d g arguments) here).1 k (argument.Number a) e)
        argument_there i d g arguments here k (argument.Object name) e = named_there i (instruction.Call d g arguments) here name (k, e)

        names_there : (i : ℕ) (what : Instruction) → item_at program f b i ≡ Some (Does what) → HasNames n what
        names_there i (instruction.Binary d op w x y) here =
            let k = kinded i (instruction.Binary d op w x y) here in
            (kind_there function.registers _ d.0 _ refl k.0, operand_there function.registers n w x refl k.1, operand_there function.registers n w y refl k.2)
        names_there i (instruction.Compare d by w x y) here =
            let k = kinded i (instruction.Compare d by w x y) here in
            (kind_there function.registers _ d.0 _ refl k.0, operand_there function.registers n w x refl k.1, operand_there function.registers n w y refl k.2)
        names_there i (instruction.Convert d by x) here =
            let k = kinded i (instruction.Convert d by x) here in
            (kind_there function.registers _ d.0 _ refl k.0, operand_there function.registers n _ x refl k.1)
        names_there i (instruction.Alloca d a) here =
            let k = kinded i (instruction.Alloca d a) here in
            let own = alloca_named text program accepted f b i d a function here at in
            let l = allocas_long in
            (kind_there function.registers _ d.0 _ refl k, omega (arith, own, l))
        names_there i (instruction.ElementPointer d name x) here =
            let k = kinded i (instruction.ElementPointer d name x) here in
            (kind_there function.registers _ d.0 _ refl k.0, named_there i (instruction.ElementPointer d name x) here name refl, operand_there function.registers n Bits64 x refl k.1)
        names_there i (instruction.Load d a) here =
            let k = kinded i (instruction.Load d a) here in
            (kind_there function.registers _ d.0 _ refl k, address_there i (instruction.Load d a) here a refl (first_named a))
        names_there i (instruction.Store x a) here =
            (operand_there function.registers n Bits64 x refl (kinded i (instruction.Store x a) here), address_there i (instruction.Store x a) here a refl (first_named a))
        names_there i (instruction.StoreZeros cells name) here = named_there i (instruction.StoreZeros cells name) here name refl
        names_there i (instruction.AtomicAdd a x) here =
            (address_there i (instruction.AtomicAdd a x) here a refl (first_named a), operand_there function.registers n Bits64 x refl (kinded i (instruction.AtomicAdd a x) here))
        names_there i (instruction.Call d g arguments) here =
            (result_there function.registers _ d refl (kinded i (instruction.Call d g arguments) here).0, argument_there i d g arguments here)
        names_there i (instruction.StartRegion d) here = tt

        -- ---- the end of the block

        module _ (e : Ending) (ends : block.ending ≡ Some e) where
          abbrev t : Terminator
          t = e.terminator

          last : item_at program f b (length block.steps) ≡ Some (Ends e.terminator)
          last =
              ap (λ (o : Option Block). and_then o (λ (x : Block). item_of x.steps x.ending (length block.steps))) (block_is program f b function block is)
              ∙ ap (λ (o : Option Ending). item_of block.steps o (length block.steps)) ends ∙ item_end block.steps e

          target_there : (w : Way) (to : ℕ) → LeadsTo e.terminator w to → to < length function.blocks
          target_there w to leads =
              let found = is_block program f to function at (taken.names.named.targets f b (length block.steps) to e.terminator w last leads) in
              slice_get_within function.blocks to found.0 found.1.at_block

          phis_low : (to : ℕ) (target : Block) → slice_get function.blocks to ≡ Some target → length target.phis ≤ moves
          phis_low to target is_target =
              let bound = (registers_bound program kinds taken.names.stable f function at).moves to in
              let same : phis_at program f to ≡ target.phis = ap block_phis (block_is program f to function target (record { at_function = at; at_block = is_target })) in
              let few : length target.phis ≤ length function.registers = subst (λ (xs : List Phi). length xs ≤ length function.registers) same bound in
              let low = room f function at in
              omega (arith, few, low)

          entry_fits : (to k : ℕ) (target : Block) (phi : Phi) → slice_get function.blocks to ≡ Some target → slice_get target.phis k ≡ Some phi → (o : Option Operand) → entry_for b phi.entries ≡ o → is_some o ≡ true → HasEntry n o
          entry_fits to k target phi is_target at_phi None same some = absurd (cc)
          entry_fits to k target phi is_target at_phi (Some a) same some =
              let kinded_phi = kinds.phis f to k function target phi at is_target at_phi in
              operand_there function.registers n phi.width a refl (entry_kinded function.registers phi.width b phi.entries a kinded_phi.entries same)

          phi_there : (w : Way) (to : ℕ) → LeadsTo e.terminator w to → (target : Block) → slice_get function.blocks to ≡ Some target → (k : ℕ) (phi : Phi) → slice_get target.phis k ≡ Some phi → HasPhi n b phi
          phi_there w to leads target is_target k phi at_phi =
              let edge = edge_behind program f b to function block target e w is ends is_target leads in
              let some = entry_there program taken.right.graph f b to k function target w phi at is_target edge at_phi in
              record {
                register = slice_get_within function.registers phi.register.0 _ (kinds.phis f to k function target phi at is_target at_phi).register;
                entry = entry_fits to k target phi is_target at_phi (entry_for b phi.entries) refl some;
              }

          edge_there : (w : Way) (to : ℕ) → LeadsTo e.terminator w to → EdgeFits n moves b function.blocks to
          edge_there w to leads = record { there = target_there w to leads; room = phis_low to; phis = phi_there w to leads }

          kinded_end : IsKindedEnd function.registers e.terminator
          kinded_end = kinds.ends f b (length block.steps) e.terminator function last at

          by_terminator : (x : Terminator) → e.terminator ≡ x → IsKindedEnd function.registers x → ((w : Way) (to : ℕ) → LeadsTo x w to → EdgeFits n moves b function.blocks to) → ((w : Way) (to : ℕ) → LeadsTo x w to → to < length function.blocks) →
              EndingFits n moves b function.blocks x
          by_terminator (terminator.Jump target) same k edge to_there = edge way.Branch target.0 refl
          by_terminator (terminator.Branch test one other) same k edge to_there =
              (slice_get_within function.registers test.0 _ k, edge way.Branch one.0 (inl refl), edge way.Branch other.0 (inr refl))
          by_terminator (terminator.Switch w a default cases) same k edge to_there =
              (operand_there function.registers n w a refl k, edge way.Branch default.0 (inl refl), λ j c at_case. edge way.Branch c.target.0 (inr (c, at_within cases j c at_case, refl)))
          by_terminator (terminator.Return a) same k edge to_there = returned_there function.registers n a refl k
          by_terminator (terminator.Detach r x y) same k edge to_there = (to_there way.Detached x.0 refl, to_there way.Continued y.0 refl)
          by_terminator (terminator.Reattach r c) same k edge to_there = tt
          by_terminator (terminator.Sync r target) same k edge to_there = edge (way.Synced r) target.0 (refl, refl)

          pub ending_fits : EndingFits n moves b function.blocks e.terminator
          ending_fits = by_terminator e.terminator refl kinded_end edge_there target_there

        ended : IsSome block.ending
        ended = (All-contains IsFunctionRight program.functions function taken.right.graph (at_within program.functions f function at) b block at_block).2

        has_ending : (o : Option Ending) → block.ending ≡ o → IsSome o → HasEnding n moves b function.blocks o
        has_ending None e some = absurd (cc)
        has_ending (Some x) e some = ending_fits x e

        step_here : (k : ℕ) (s : Step) → slice_get block.steps k ≡ Some s → item_at program f b k ≡ Some (Does s.instruction)
        step_here k s e =
            ap (λ (o : Option Block). and_then o (λ (x : Block). item_of x.steps x.ending k)) (block_is program f b function block is) ∙ item_there block.steps block.ending k s e

        pub block_fits : BlockFits n moves b function.blocks block
        block_fits = record { steps = λ k s e. names_there k s.instruction (step_here k s e); ending = has_ending block.ending refl ended }

    callee_fits : (k b i : ℕ) (d : Option RegisterId) (callee : FunctionId) (arguments : List Argument) → item_at program k b i ≡ Some (Does (instruction.Call d callee arguments)) →
        (f : Function) × (slice_get program.functions callee.0 ≡ Some f) × (length arguments ≤ length f.registers)
    callee_fits k b i d callee arguments here =
        let found = function_there program callee.0 (taken.names.named.callees k b i d callee arguments here) in
        let at : slice_get program.functions callee.0 ≡ Some found.0 = found.2.at_function in
        let count : length arguments ≡ length found.0.parameters = taken.names.named.arguments k b i d callee arguments here ∙ ap parameters_in at in
        let low = parameters_low callee.0 found.0 at in
        (found.0, at, omega (arith, count, low))

    pub text_fits : TextFits program places moves
    text_fits = record {
      fits = record {
        allocas = ap length all ∙ length-map program.functions (λ (f : Function). alloca_starts f.allocas);
        blocks = λ k g at from b at_block. block_fits k g at from b at_block;
      };
      allocas = all;
      entries = λ k f at. let one = some_at (slice_get f.blocks 0) (taken.measured.entry k f at) in slice_get_within f.blocks 0 one.0 one.1;
      calls = callee_fits;
    }

pub texts_fit : TextsFit
texts_fit text program accepted places moves enough all room = text_fits text program accepted places moves enough all room
