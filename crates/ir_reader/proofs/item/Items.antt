-- An item's spelling is read as the item.
use Rattle.std.proofs.Common.{◌≡◌, ℕ, List, [], ◌∷◌, Bool, true, cond, eqb, Option, Some, None, refl, sym, ap, ◌∙◌}
use Rattle.std.specs.Prelude.{codes, option_map, nat_lt}
use Rattle.std.specs.Str.{bytes_eq}
use Rattle.std.proofs.lemmas.Bool.{eqb-true, not-true, and_parts}
use Rattle.syntax.specs.declared.instruction.AllocaSize.TheVariants.{One, Array}
use Rattle.syntax.specs.declared.instruction.Operand.{Operand}
use Rattle.syntax.specs.declared.instruction.Instruction.{Instruction}
use Rattle.syntax.specs.declared.instruction.Instruction.TheVariants as instruction
use Rattle.syntax.specs.declared.operator.BinaryOperator.{BinaryOperator}
use Rattle.syntax.specs.declared.operator.BinaryOperator.TheVariants.{Add, Subtract, Multiply, AddNoWrap, SubtractNoWrap, MultiplyNoWrap, SignedDivide, UnsignedDivide, SignedRemainder, UnsignedRemainder, ShiftLeft, LogicalShiftRight, ArithmeticShiftRight, And, Or, ExclusiveOr}
use Rattle.syntax.specs.declared.operator.Conversion.TheVariants.{Truncate, SignExtend, ZeroExtend}
use Rattle.syntax.specs.declared.operator.Width.{Width}
use Rattle.syntax.specs.declared.operator.Width.TheVariants.{Bits64, Bits32}
use Rattle.syntax.specs.declared.terminator.Case.{Case}
use Rattle.syntax.specs.declared.terminator.Terminator.{Terminator}
use Rattle.syntax.specs.declared.terminator.Terminator.TheVariants as terminator
use Rattle.ir_reader.specs.declared.item.item.Item.{Item}
use Rattle.ir_reader.specs.declared.item.item.Item.TheVariants as item
use Rattle.ir_instruction.specs.declared.symbol.Symbol.TheVariants.{Word}
use Rattle.ir_instruction.specs.Outcome.{◌>>=◌}
use Rattle.ir_instruction.specs.Operators.{operator_of, without_wrap}
use Rattle.ir_instruction.specs.Cases.{are_cases_of, cases_from}
use Rattle.ir_instruction.specs.Shape.{Gaps, gaps_of}
use Rattle.ir_instruction.specs.Grammar.{binary_shape, binary_from, compare_shape, compare_from, truncate_shape, truncate_from, extend_shape, extend_from, alloca_shape, alloca_from, alloca_array_shape, alloca_array_from, element_pointer_shape, element_pointer_from, load_shape, load_from, start_region_shape, start_region_from, call_shape, call_from, phi_shape, phi_from, store_shape, store_from, store_zeros_shape, store_zeros_from, atomic_shape, atomic_from, call_void_shape, call_void_from, jump_shape, jump_from, branch_shape, branch_from, switch_shape, switch_from, return_void_shape, return_void_from, return_shape, return_from, detach_shape, detach_from, region_shape, reattach_from, sync_from, global_shape, define_shape, binary, fixed, terminator_in}
use Rattle.ir_reader.specs.item.Grammar.{global_from, define_from, definition, worded, item_in}
use Rattle.ir_instruction.specs.Spelling.{symbols_in, atoms_of, instruction_atoms, terminator_atoms, spelled_cases}
use Rattle.ir_reader.specs.item.Items.{item_atoms}
use Rattle.ir_instruction.specs.Fits.{instruction_fits, terminator_fits, is_some_list}
use Rattle.ir_reader.specs.item.Items.{item_fits}
use Rattle.ir_instruction.proofs.Again.{gaps_again}

-- binary operations

plain_again : (d : List ℕ) (op : BinaryOperator) (w : Width) (a b : Operand) → binary d op (symbols_in (atoms_of binary_shape (w, (a, (b, tt))))) ≡ Some (instruction.Binary d op w a b)
plain_again d op Bits64 a b = ap (option_map (binary_from d op)) (gaps_again binary_shape (Bits64, (a, (b, tt))) refl)
plain_again d op Bits32 a b = ap (option_map (binary_from d op)) (gaps_again binary_shape (Bits32, (a, (b, tt))) refl)

no_wrap_again : (d : List ℕ) (op other : BinaryOperator) (w : Width) (a b : Operand) → without_wrap op ≡ Some other
    → binary d op (Word (codes "nsw") ∷ symbols_in (atoms_of binary_shape (w, (a, (b, tt))))) ≡ Some (instruction.Binary d other w a b)
no_wrap_again d op other w a b h =
    ap (λ (o : Option BinaryOperator). o >>= λ operator. option_map (binary_from d operator) (gaps_of binary_shape (symbols_in (atoms_of binary_shape (w, (a, (b, tt))))))) h
    ∙ ap (option_map (binary_from d other)) (gaps_again binary_shape (w, (a, (b, tt))) refl)

binary_again : (at : ℕ) (d : List ℕ) (op : BinaryOperator) (w : Width) (a b : Operand) → item_in at (symbols_in (instruction_atoms (instruction.Binary d op w a b))) ≡ Some (item.Instruction (instruction.Binary d op w a b))
unfolding item_in definition fixed operator_of
binary_again at d Add w a b = ap (option_map item.Instruction) (plain_again d Add w a b)
binary_again at d Subtract w a b = ap (option_map item.Instruction) (plain_again d Subtract w a b)
binary_again at d Multiply w a b = ap (option_map item.Instruction) (plain_again d Multiply w a b)
binary_again at d AddNoWrap w a b = ap (option_map item.Instruction) (no_wrap_again d Add AddNoWrap w a b refl)
binary_again at d SubtractNoWrap w a b = ap (option_map item.Instruction) (no_wrap_again d Subtract SubtractNoWrap w a b refl)
binary_again at d MultiplyNoWrap w a b = ap (option_map item.Instruction) (no_wrap_again d Multiply MultiplyNoWrap w a b refl)
binary_again at d SignedDivide w a b = ap (option_map item.Instruction) (plain_again d SignedDivide w a b)
binary_again at d UnsignedDivide w a b = ap (option_map item.Instruction) (plain_again d UnsignedDivide w a b)
binary_again at d SignedRemainder w a b = ap (option_map item.Instruction) (plain_again d SignedRemainder w a b)
binary_again at d UnsignedRemainder w a b = ap (option_map item.Instruction) (plain_again d UnsignedRemainder w a b)
binary_again at d ShiftLeft w a b = ap (option_map item.Instruction) (plain_again d ShiftLeft w a b)
binary_again at d LogicalShiftRight w a b = ap (option_map item.Instruction) (plain_again d LogicalShiftRight w a b)
binary_again at d ArithmeticShiftRight w a b = ap (option_map item.Instruction) (plain_again d ArithmeticShiftRight w a b)
binary_again at d And w a b = ap (option_map item.Instruction) (plain_again d And w a b)
binary_again at d Or w a b = ap (option_map item.Instruction) (plain_again d Or w a b)
binary_again at d ExclusiveOr w a b = ap (option_map item.Instruction) (plain_again d ExclusiveOr w a b)

-- the other instructions

instruction_again : (at : ℕ) (i : Instruction) → instruction_fits i ≡ true → item_in at (symbols_in (instruction_atoms i)) ≡ Some (item.Instruction i)
unfolding item_in definition fixed worded
instruction_again at (instruction.Binary d op w a b) h = binary_again at d op w a b
instruction_again at (instruction.Compare d p w a b) h = ap (λ (r : Option (Gaps compare_shape)). option_map item.Instruction (option_map (compare_from d) r)) (gaps_again compare_shape (p, (w, (a, (b, tt)))) refl)
instruction_again at (instruction.Convert d Truncate v) h = ap (λ (r : Option (Gaps truncate_shape)). option_map item.Instruction (option_map (truncate_from d) r)) (gaps_again truncate_shape (v, tt) refl)
instruction_again at (instruction.Convert d SignExtend v) h = ap (λ (r : Option (Gaps extend_shape)). option_map item.Instruction (option_map (extend_from d SignExtend) r)) (gaps_again extend_shape (v, tt) refl)
instruction_again at (instruction.Convert d ZeroExtend v) h = ap (λ (r : Option (Gaps extend_shape)). option_map item.Instruction (option_map (extend_from d ZeroExtend) r)) (gaps_again extend_shape (v, tt) refl)
instruction_again at (instruction.Alloca d One) h = ap (λ (r : Option (Gaps alloca_shape)). option_map item.Instruction (option_map (alloca_from d) r)) (gaps_again alloca_shape tt refl)
instruction_again at (instruction.Alloca d (Array n)) h = ap (λ (r : Option (Gaps alloca_array_shape)). option_map item.Instruction (option_map (alloca_array_from d) r)) (gaps_again alloca_array_shape (n, tt) (rw h refl))
instruction_again at (instruction.ElementPointer d p v) h = ap (λ (r : Option (Gaps element_pointer_shape)). option_map item.Instruction (option_map (element_pointer_from d) r)) (gaps_again element_pointer_shape (p, (v, tt)) refl)
instruction_again at (instruction.Load d p) h = ap (λ (r : Option (Gaps load_shape)). option_map item.Instruction (option_map (load_from d) r)) (gaps_again load_shape (p, tt) refl)
instruction_again at (instruction.Store v p) h = ap (λ (r : Option (Gaps store_shape)). option_map item.Instruction (option_map store_from r)) (gaps_again store_shape (v, (p, tt)) refl)
instruction_again at (instruction.StoreZeros n p) h = ap (λ (r : Option (Gaps store_zeros_shape)). option_map item.Instruction (option_map store_zeros_from r)) (gaps_again store_zeros_shape (n, (p, tt)) (rw h refl))
instruction_again at (instruction.AtomicAdd p v) h = ap (λ (r : Option (Gaps atomic_shape)). option_map (λ g. item.Instruction (atomic_from g)) r) (gaps_again atomic_shape (p, (v, tt)) refl)
instruction_again at (instruction.Call (Some d) f xs) h = ap (λ (r : Option (Gaps call_shape)). option_map item.Instruction (option_map (call_from d) r)) (gaps_again call_shape (f, (xs, tt)) refl)
instruction_again at (instruction.Call None f xs) h = ap (λ (r : Option (Gaps call_void_shape)). option_map (λ g. item.Instruction (call_void_from g)) r) (gaps_again call_void_shape (f, (xs, tt)) refl)
instruction_again at (instruction.StartRegion d) h = ap (λ (r : Option (Gaps start_region_shape)). option_map item.Instruction (option_map (start_region_from d) r)) (gaps_again start_region_shape tt refl)

-- terminators

spelled_back : (w : Width) (cs : List Case) → cases_from (spelled_cases w cs) ≡ cs
spelled_back w [] = refl
spelled_back w (c ∷ cs) = ap (λ (others : List Case). c ∷ others) (spelled_back w cs)

terminator_again : (at : ℕ) (t : Terminator) → terminator_fits t ≡ true → item_in at (symbols_in (terminator_atoms t)) ≡ Some (item.Terminator t)
unfolding item_in worded terminator_in
terminator_again at (terminator.Jump l) h = ap (λ (r : Option (Gaps jump_shape)). option_map item.Terminator (option_map jump_from r)) (gaps_again jump_shape (l, tt) refl)
terminator_again at (terminator.Branch c t f) h =
    ap (λ (r : Option (Gaps branch_shape)). option_map item.Terminator (r >>= branch_from)) (gaps_again branch_shape (c, (t, (f, tt))) refl)
    ∙ ap (λ (b : Bool). option_map item.Terminator (cond b None (Some (terminator.Branch c t f)))) (not-true (bytes_eq t f) h)
terminator_again at (terminator.Switch w v d cs) h =
    let t = and_parts (is_some_list (spelled_cases w cs)) (are_cases_of w d (spelled_cases w cs)) h in
    ap (λ (r : Option (Gaps switch_shape)). option_map item.Terminator (r >>= switch_from)) (gaps_again switch_shape (w, (v, (d, (spelled_cases w cs, tt)))) (rw t.0 refl))
    ∙ ap (λ (b : Bool). option_map item.Terminator (cond b (Some (terminator.Switch w v d (cases_from (spelled_cases w cs)))) None)) t.1
    ∙ ap (λ (cs : List Case). Some (item.Terminator (terminator.Switch w v d cs))) (spelled_back w cs)
terminator_again at (terminator.Return None) h = ap (λ (r : Option (Gaps return_void_shape)). option_map item.Terminator (option_map return_void_from r)) (gaps_again return_void_shape tt refl)
terminator_again at (terminator.Return (Some v)) h = ap (λ (r : Option (Gaps return_shape)). option_map item.Terminator (option_map return_from r)) (gaps_again return_shape (v, tt) refl)
terminator_again at (terminator.Detach s d c) h =
    ap (λ (r : Option (Gaps detach_shape)). option_map item.Terminator (r >>= detach_from)) (gaps_again detach_shape (s, (d, (c, tt))) refl)
    ∙ ap (λ (b : Bool). option_map item.Terminator (cond b None (Some (terminator.Detach s d c)))) (not-true (bytes_eq d c) h)
terminator_again at (terminator.Reattach s c) h = ap (λ (r : Option (Gaps region_shape)). option_map item.Terminator (option_map reattach_from r)) (gaps_again region_shape (s, (c, tt)) refl)
terminator_again at (terminator.Sync s n) h = ap (λ (r : Option (Gaps region_shape)). option_map item.Terminator (option_map sync_from r)) (gaps_again region_shape (s, (n, tt)) refl)

-- an item's symbols are read as the item
pub item_again : (at : ℕ) (i : Item) → item_fits at i ≡ true → item_in at (symbols_in (item_atoms i)) ≡ Some i
unfolding item_in definition worded
item_again at (item.Global g) h =
    let t = and_parts (eqb g.line at) (nat_lt 0 g.cells) h in
    let line : g.line ≡ at = eqb-true g.line at t.0 in
    ap (option_map (global_from at g.name)) (gaps_again global_shape (g.cells, tt) (rw t.1 refl))
    ∙ ap (λ (n : ℕ). Some (item.Global (record { line = n; name = g.name; cells = g.cells }))) (sym line)
item_again at (item.Define name r ps) h = ap (option_map define_from) (gaps_again define_shape (r, (name, (ps, tt))) (rw h refl))
item_again at (item.Label name) h = refl
item_again at (item.Phi phi) h =
    let t = and_parts (eqb phi.line at) (is_some_list phi.entries) h in
    let line : phi.line ≡ at = eqb-true phi.line at t.0 in
    ap (λ (r : Option (Gaps phi_shape)). option_map (λ g. item.Phi (phi_from at phi.register g)) r) (gaps_again phi_shape (phi.width, (phi.entries, tt)) (rw t.1 refl))
    ∙ ap (λ (n : ℕ). Some (item.Phi (record { line = n; register = phi.register; width = phi.width; entries = phi.entries }))) (sym line)
item_again at (item.Instruction i) h = instruction_again at i h
item_again at (item.Terminator t) h = terminator_again at t h
item_again at item.Close h = refl
item_again at (item.Annotation a) h = absurd cc
