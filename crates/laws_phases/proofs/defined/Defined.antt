-- What each path to a place defines has a value in each frame there.
use Rattle.std.proofs.Common.{◌≡◌, ℕ, zero, suc, ◌+◌, inl, inr, List, [], ◌∷◌, ◌++◌, length, take, map, Option, Some, None, Bool, true, false, eqb, refl, sym, ap, subst, ◌∙◌, arith, slice_get, append-nil}
use Rattle.std.specs.List.{Contains, flat_map}
use Rattle.std.specs.Option.{option_map}
use Rattle.std.proofs.lemmas.List.Elements.{Contains-append_cases, filter_map-append}
use Rattle.std.proofs.lemmas.Option.{slice_get-map}
use Rattle.linear.specs.declared.form.RegisterId.{RegisterId}
use Rattle.linear.specs.declared.form.Term.{Term}
use Rattle.linear.specs.Terms.{Combination}
use Rattle.program.specs.declared.annotation.Inequality.{Inequality}
use Rattle.program.specs.declared.annotation.Pending.{Pending}
use Rattle.program.specs.declared.annotation.Zone.{Zone}
use Rattle.program.specs.declared.function.Alloca.{Alloca as AllocaOf}
use Rattle.program.specs.declared.function.Block.{Block}
use Rattle.program.specs.declared.function.Function.{Function}
use Rattle.program.specs.declared.identifier.ObjectName.{ObjectName}
use Rattle.program.specs.declared.identifier.ObjectName.TheVariants as object
use Rattle.program.specs.declared.instruction.Address.{Address}
use Rattle.program.specs.declared.instruction.Address.TheVariants.{First, Element}
use Rattle.program.specs.declared.instruction.Argument.{Argument}
use Rattle.program.specs.declared.instruction.Argument.TheVariants as argument
use Rattle.program.specs.declared.instruction.Ending.{Ending}
use Rattle.program.specs.declared.instruction.Instruction.{Instruction}
use Rattle.program.specs.declared.instruction.Instruction.TheVariants as instruction
use Rattle.program.specs.declared.instruction.Operand.{Operand}
use Rattle.program.specs.declared.instruction.Operand.TheVariants.{Number, Register}
use Rattle.program.specs.declared.instruction.PhiEntry.{PhiEntry}
use Rattle.program.specs.declared.instruction.Step.{Step}
use Rattle.program.specs.declared.instruction.Terminator.{Terminator}
use Rattle.program.specs.declared.instruction.Terminator.TheVariants as terminator
use Rattle.cfg.specs.Edges.{graph_of}
use Rattle.cfg.specs.Paths.{Leg, IsPath}
use Rattle.definedness.specs.declared.act.Act.{Act}
use Rattle.definedness.specs.declared.act.Act.TheVariants.{Needs}
use Rattle.definedness.specs.declared.act.BlockActs.{BlockActs}
use Rattle.definedness.specs.Acts.{given}
use Rattle.definedness.specs.Missing.{defined_along}
use Rattle.definedness.specs.Needs.{gives, given_of, numbers_of, numbers_at}
use Rattle.definedness.specs.RegisterActs.{register_needs, operand_needs, form_needs, inequality_needs, alloca_needs, object_needs, zone_needs, pending_needs, left_needs, address_needs, argument_needs, instruction_needs, definition_of, definition_gives, step_acts, result_needs, terminator_needs, ending_needs, entry_needs, phi_needs, value_needs, phi_gives, note_needs, start_gives, body_acts, register_acts}
use Rattle.definedness.specs.Definedness.{registers_from, register_table}
use Rattle.definedness.specs.Defined.{AreRegistersDefined}
use Rattle.laws_conditions.specs.rules.Moves.{number_of, dest_of}
use Rattle.laws_phases.specs.defined.Defined.{listed, steps_define, defined_before}
use Rattle.laws_phases.proofs.defined.Lists.{none_within, within_cases}

-- ---- acts that define nothing

abbrev pub Quiet : List Act → Type 0
Quiet acts = gives acts ≡ []

pub gives_append : (xs ys : List Act) → gives (xs ++ ys) ≡ gives xs ++ gives ys
gives_append xs ys = filter_map-append given xs ys

pub both_quiet : (xs ys : List Act) → Quiet xs → Quiet ys → Quiet (xs ++ ys)
both_quiet xs ys h k = gives_append xs ys ∙ (rw (h, k) refl)

pub flat_quiet : {X : Type 0} (f : X → List Act) (xs : List X) → ((x : X) → Quiet (f x)) → Quiet (flat_map f xs)
flat_quiet f [] h = refl
flat_quiet f (x ∷ xs) h = both_quiet (f x) (flat_map f xs) (h x) (flat_quiet f xs h)

pub operand_quiet : (line : ℕ) (o : Operand) → Quiet (operand_needs line o)
operand_quiet line (Number n) = refl
operand_quiet line (Register r) = refl

form_quiet : (line : ℕ) (form : Combination) → Quiet (form_needs line form)
form_quiet line form = flat_quiet (λ (t : Term). register_needs line t.register) form.terms (λ t. refl)

inequality_quiet : (i : Inequality) → Quiet (inequality_needs i)
inequality_quiet i = both_quiet (form_needs i.line i.low) (form_needs i.line i.high) (form_quiet i.line i.low) (form_quiet i.line i.high)

module _ (allocas : List AllocaOf) where
  found_quiet : (line : ℕ) (o : Option AllocaOf) → Quiet (alloca_needs line o)
  found_quiet line None = refl
  found_quiet line (Some a) = refl

  object_quiet : (line : ℕ) (name : ObjectName) → Quiet (object_needs allocas line name)
  object_quiet line (object.Global g) = refl
  object_quiet line (object.Alloca a) = found_quiet line (slice_get allocas a.0)
  object_quiet line (object.Parameter r) = refl

  zone_quiet : (z : Zone) → Quiet (zone_needs allocas z)
  zone_quiet z = both_quiet (object_needs allocas z.line z.object) (form_needs z.line z.low ++ form_needs z.line z.high) (object_quiet z.line z.object) (both_quiet (form_needs z.line z.low) (form_needs z.line z.high) (form_quiet z.line z.low) (form_quiet z.line z.high))

  pending_quiet : (q : Pending) → Quiet (pending_needs allocas q)
  pending_quiet q = both_quiet (register_needs q.zone.line q.region) (zone_needs allocas q.zone) refl (zone_quiet q.zone)

  address_quiet : (line : ℕ) (a : Address) → Quiet (address_needs allocas line a)
  address_quiet line (First name) = object_quiet line name
  address_quiet line (Element r) = refl

  argument_quiet : (line : ℕ) (a : Argument) → Quiet (argument_needs allocas line a)
  argument_quiet line (argument.Number o) = operand_quiet line o
  argument_quiet line (argument.Object name) = object_quiet line name

  instruction_quiet : (line : ℕ) (i : Instruction) → Quiet (instruction_needs allocas line i)
  instruction_quiet line (instruction.Binary d op w a b) = both_quiet (operand_needs line a) (operand_needs line b) (operand_quiet line a) (operand_quiet line b)
  instruction_quiet line (instruction.Compare d by w a b) = both_quiet (operand_needs line a) (operand_needs line b) (operand_quiet line a) (operand_quiet line b)
  instruction_quiet line (instruction.Convert d by a) = operand_quiet line a
  instruction_quiet line (instruction.Alloca d a) = refl
  instruction_quiet line (instruction.ElementPointer d name i) = both_quiet (object_needs allocas line name) (operand_needs line i) (object_quiet line name) (operand_quiet line i)
  instruction_quiet line (instruction.Load d a) = address_quiet line a
  instruction_quiet line (instruction.Store v a) = both_quiet (operand_needs line v) (address_needs allocas line a) (operand_quiet line v) (address_quiet line a)
  instruction_quiet line (instruction.StoreZeros n name) = object_quiet line name
  instruction_quiet line (instruction.AtomicAdd a v) = both_quiet (address_needs allocas line a) (operand_needs line v) (address_quiet line a) (operand_quiet line v)
  instruction_quiet line (instruction.Call d g arguments) = flat_quiet (argument_needs allocas line) arguments (argument_quiet line)
  instruction_quiet line (instruction.StartRegion d) = refl

  notes_quiet : (block : Block) → Quiet (note_needs allocas block)
  notes_quiet block =
      both_quiet (flat_map inequality_needs block.keeps) (flat_map (pending_needs allocas) block.pending ++ (left_needs block.left ++ flat_map (zone_needs allocas) block.foot))
      (flat_quiet inequality_needs block.keeps inequality_quiet)
      (both_quiet (flat_map (pending_needs allocas) block.pending) (left_needs block.left ++ flat_map (zone_needs allocas) block.foot)
      (flat_quiet (pending_needs allocas) block.pending pending_quiet)
      (both_quiet (left_needs block.left) (flat_map (zone_needs allocas) block.foot)
      (both_quiet (form_needs block.left.line block.left.self_calls) (form_needs block.left.line block.left.instructions) (form_quiet block.left.line block.left.self_calls) (form_quiet block.left.line block.left.instructions))
      (flat_quiet (zone_needs allocas) block.foot zone_quiet)))

result_quiet : (line : ℕ) (o : Option Operand) → Quiet (result_needs line o)
result_quiet line None = refl
result_quiet line (Some v) = operand_quiet line v

terminator_quiet : (line : ℕ) (t : Terminator) → Quiet (terminator_needs line t)
terminator_quiet line (terminator.Jump x) = refl
terminator_quiet line (terminator.Branch c x y) = refl
terminator_quiet line (terminator.Switch w v d cases) = operand_quiet line v
terminator_quiet line (terminator.Return v) = result_quiet line v
terminator_quiet line (terminator.Detach r x y) = refl
terminator_quiet line (terminator.Reattach r x) = refl
terminator_quiet line (terminator.Sync r x) = refl

ending_quiet : (o : Option Ending) → Quiet (ending_needs o)
ending_quiet None = refl
ending_quiet (Some e) = both_quiet (flat_map inequality_needs e.shows) (terminator_needs e.line e.terminator) (flat_quiet inequality_needs e.shows inequality_quiet) (terminator_quiet e.line e.terminator)

entry_quiet : (from line : ℕ) (e : PhiEntry) → Quiet (entry_needs from line e)
entry_quiet from line e = by (eqb e.predecessor.0 from) refl
  where
    by : (b : Bool) → eqb e.predecessor.0 from ≡ b → Quiet (entry_needs from line e)
    by true is = rw is (operand_quiet line e.value)
    by false is = rw is refl

values_quiet : (from : ℕ) (block : Block) → Quiet (value_needs from block)
values_quiet from block = flat_quiet (phi_needs from) block.phis (λ phi. flat_quiet (entry_needs from phi.line) phi.entries (entry_quiet from phi.line))

-- ---- what a step and a block define

number_given : (o : Option RegisterId) → gives (definition_gives o) ≡ listed (number_of o)
number_given None = refl
number_given (Some r) = refl

same_dest : (i : Instruction) → number_of (definition_of i) ≡ dest_of i
same_dest (instruction.Binary d op w a b) = refl
same_dest (instruction.Compare d by w a b) = refl
same_dest (instruction.Convert d by a) = refl
same_dest (instruction.Alloca d a) = refl
same_dest (instruction.ElementPointer d name i) = refl
same_dest (instruction.Load d a) = refl
same_dest (instruction.Store v a) = refl
same_dest (instruction.StoreZeros n name) = refl
same_dest (instruction.AtomicAdd a v) = refl
same_dest (instruction.Call d g arguments) = refl
same_dest (instruction.StartRegion d) = refl

step_given : (allocas : List AllocaOf) (s : Step) → gives (step_acts allocas s) ≡ listed (dest_of s.instruction)
step_given allocas s =
    gives_append (flat_map inequality_needs s.shows) (instruction_needs allocas s.line s.instruction ++ definition_gives (definition_of s.instruction))
    ∙ ap (λ xs. xs ++ gives (instruction_needs allocas s.line s.instruction ++ definition_gives (definition_of s.instruction))) (flat_quiet inequality_needs s.shows inequality_quiet)
    ∙ gives_append (instruction_needs allocas s.line s.instruction) (definition_gives (definition_of s.instruction))
    ∙ ap (λ xs. xs ++ gives (definition_gives (definition_of s.instruction))) (instruction_quiet allocas s.line s.instruction)
    ∙ number_given (definition_of s.instruction)
    ∙ ap listed (same_dest s.instruction)

steps_given : (allocas : List AllocaOf) (steps : List Step) → gives (flat_map (step_acts allocas) steps) ≡ steps_define steps (length steps)
steps_given allocas [] = refl
steps_given allocas (s ∷ steps) = gives_append (step_acts allocas s) (flat_map (step_acts allocas) steps) ∙ (rw (step_given allocas s, steps_given allocas steps) refl)

-- all that a block defines
pub block_given : (function : Function) (b : ℕ) (block : Block) → gives (register_acts function b block) ≡ defined_before function b block (length block.steps)
block_given function b block =
    let start : List Act = start_gives b (length function.parameters) in
    let phis : List Act = flat_map phi_gives block.phis in
    let notes : List Act = note_needs function.allocas block in
    let steps : List Act = flat_map (step_acts function.allocas) block.steps in
    let end : List Act = ending_needs block.ending in
    let values : List Act = flat_map (value_needs b) function.blocks in
    let tail : gives (steps ++ end) ≡ steps_define block.steps (length block.steps) = gives_append steps end ∙ (rw (ending_quiet block.ending, steps_given function.allocas block.steps) (append-nil _)) in
    let middle : gives (notes ++ (steps ++ end)) ≡ steps_define block.steps (length block.steps) = gives_append notes (steps ++ end) ∙ (rw (notes_quiet function.allocas block, tail) refl) in
    let body : gives (phis ++ (notes ++ (steps ++ end))) ≡ gives phis ++ steps_define block.steps (length block.steps) = gives_append phis (notes ++ (steps ++ end)) ∙ (rw middle refl) in
    let rest : gives ((phis ++ (notes ++ (steps ++ end))) ++ values) ≡ gives phis ++ steps_define block.steps (length block.steps) = gives_append (phis ++ (notes ++ (steps ++ end))) values ∙ (rw (body, flat_quiet (value_needs b) function.blocks (values_quiet b)) (append-nil _)) in
    gives_append start ((phis ++ (notes ++ (steps ++ end))) ++ values) ∙ (rw rest refl)

table_read : (function : Function) (from : ℕ) (blocks : List Block) (b : ℕ) (block : Block) → slice_get blocks b ≡ Some block → slice_get (registers_from function from blocks) b ≡ Some (record { acts = register_acts function (from + b) block })
table_read function from [] b block e = absurd (cc)
table_read function from (x ∷ xs) zero block e = let same : x ≡ block = cc in let n : from ≡ from + 0 = omega arith in rw (← same, ← n) refl
table_read function from (x ∷ xs) (suc b) block e = let n : suc from + b ≡ from + suc b = omega arith in table_read function (suc from) xs b block e ∙ ap (λ k. Some (record { acts = register_acts function k block })) n

pub row_read : (function : Function) (b : ℕ) (block : Block) → slice_get function.blocks b ≡ Some block → slice_get (register_table function) b ≡ Some (record { acts = register_acts function b block })
row_read function b block at = let n : 0 + b ≡ b = omega arith in table_read function 0 function.blocks b block at ∙ ap (λ k. Some (record { acts = register_acts function k block })) n

-- what a path that leaves a block finds defined there
pub left_given : (function : Function) (b : ℕ) (block : Block) → slice_get function.blocks b ≡ Some block → numbers_at (map given_of (register_table function)) b ≡ defined_before function b block (length block.steps)
left_given function b block at =
    let row : BlockActs = record { acts = register_acts function b block } in
    let read : slice_get (map given_of (register_table function)) b ≡ Some (given_of row) = slice_get-map given_of (register_table function) b ∙ ap (λ o. option_map given_of o) (row_read function b block at) in
    ap numbers_of read ∙ block_given function b block

-- ---- acts in their places

-- the act stands in the list, where these numbers are defined before it
pub record Found (acts : List Act) (before : List ℕ) (act : Act) : Type 0 where
  pub first : List Act
  pub last : List Act
  pub parts : acts ≡ first ++ act ∷ last
  pub given_first : gives first ≡ before

pub found_left : (xs ys : List Act) (before : List ℕ) (a : Act) → Found xs before a → Found (xs ++ ys) before a
found_left xs ys before a h = record { first = h.first; last = h.last ++ ys; parts = ap (λ zs. zs ++ ys) h.parts ∙ joined h.first h.last; given_first = h.given_first }
  where
    joined : (us vs : List Act) → (us ++ a ∷ vs) ++ ys ≡ us ++ a ∷ (vs ++ ys)
    joined [] vs = refl
    joined (u ∷ us) vs = ap (λ zs. u ∷ zs) (joined us vs)

pub found_right : (xs ys : List Act) (before : List ℕ) (a : Act) → Found ys before a → Found (xs ++ ys) (gives xs ++ before) a
found_right xs ys before a h = record { first = xs ++ h.first; last = h.last; parts = ap (λ zs. xs ++ zs) h.parts ∙ sym (joined xs h.first); given_first = gives_append xs h.first ∙ ap (λ zs. gives xs ++ zs) h.given_first }
  where
    joined : (us vs : List Act) → (us ++ vs) ++ a ∷ h.last ≡ us ++ (vs ++ a ∷ h.last)
    joined [] vs = refl
    joined (u ∷ us) vs = ap (λ zs. u ∷ zs) (joined us vs)

quiet_parts : (xs ys : List Act) → Quiet (xs ++ ys) → Quiet xs × Quiet ys
quiet_parts xs ys h = let k : gives xs ++ gives ys ≡ [] = sym (gives_append xs ys) ∙ h in from (gives xs) (gives ys) refl refl k
  where
    from : (us vs : List ℕ) → gives xs ≡ us → gives ys ≡ vs → us ++ vs ≡ [] → Quiet xs × Quiet ys
    from [] [] is as_well k = (is, as_well)
    from [] (v ∷ vs) is as_well k = absurd (cc)
    from (u ∷ us) vs is as_well k = absurd (cc)

-- among acts that define nothing
pub found_quiet_act : (xs : List Act) (a : Act) → Quiet xs → Contains xs a → Found xs [] a
found_quiet_act [] a h c = absurd (none_within a c)
found_quiet_act (x ∷ xs) a h c = elim (within_cases x a xs c) [
  | inl e ↦ record { first = []; last = xs; parts = ap (λ y. y ∷ xs) e; given_first = refl }
  | inr k ↦
      let parts = quiet_parts (x ∷ []) xs h in
      let r = found_quiet_act xs a parts.1 k in
      record { first = x ∷ r.first; last = r.last; parts = ap (λ ys. x ∷ ys) r.parts; given_first = gives_append (x ∷ []) r.first ∙ (rw (parts.0, r.given_first) refl) }
]

found_step : (allocas : List AllocaOf) (steps : List Step) (i : ℕ) (s : Step) (a : Act) → slice_get steps i ≡ Some s → Found (step_acts allocas s) [] a → Found (flat_map (step_acts allocas) steps) (steps_define steps i) a
found_step allocas [] i s a at h = absurd (cc)
found_step allocas (x ∷ xs) zero s a at h = let same : x ≡ s = cc in found_left (step_acts allocas x) (flat_map (step_acts allocas) xs) [] a (subst (λ (y : Step). Found (step_acts allocas y) [] a) (sym same) h)
found_step allocas (x ∷ xs) (suc i) s a at h =
    subst (λ zs. Found (step_acts allocas x ++ flat_map (step_acts allocas) xs) zs a) (ap (λ zs. zs ++ steps_define xs i) (step_given allocas x))
    (found_right (step_acts allocas x) (flat_map (step_acts allocas) xs) (steps_define xs i) a (found_step allocas xs i s a at h))

-- ---- the rule

pub take_split : (first last : List Act) (a : Act) → (slice_get (first ++ a ∷ last) (length first) ≡ Some a) × (take (length first) (first ++ a ∷ last) ≡ first)
take_split [] last a = (refl, refl)
take_split (x ∷ xs) last a = let r = take_split xs last a in (r.0, ap (λ ys. x ∷ ys) r.1)

module _ (function : Function) (b : ℕ) (block : Block) (at : slice_get function.blocks b ≡ Some block) (rule : AreRegistersDefined function) where
  -- what an act needs is defined on each path
  pub need_defined : (before : List ℕ) (n line : ℕ) → Found (register_acts function b block) before (Needs n line) → (legs : List Leg) → IsPath (graph_of function).blocks 0 legs b → Contains (defined_along (map given_of (register_table function)) legs ++ before) n
  need_defined before n line h legs path =
      let split = take_split h.first h.last (Needs n line) in
      let stands : slice_get (register_acts function b block) (length h.first) ≡ Some (Needs n line) = ap (λ xs. slice_get xs (length h.first)) h.parts ∙ split.0 in
      let taken : take (length h.first) (register_acts function b block) ≡ h.first = ap (λ xs. take (length h.first) xs) h.parts ∙ split.1 in
      let before_is : gives (take (length h.first) (register_acts function b block)) ≡ before = ap gives taken ∙ h.given_first in
      rw (← before_is) (rule b (record { acts = register_acts function b block }) (length h.first) n line legs (row_read function b block at) stands path)

abbrev pub starting : Function → ℕ → List Act
starting function b = start_gives b (length function.parameters)

-- at the places of a block's acts
module _ (function : Function) (b : ℕ) (block : Block) where
  in_body : (before : List ℕ) (a : Act) → Found (body_acts function.allocas block) before a → Found (register_acts function b block) (gives (starting function b) ++ before) a
  in_body before a h = found_right (starting function b) (body_acts function.allocas block ++ flat_map (value_needs b) function.blocks) before a (found_left (body_acts function.allocas block) (flat_map (value_needs b) function.blocks) before a h)

  -- an annotation of the block
  pub note_found : (a : Act) → Contains (note_needs function.allocas block) a → Found (register_acts function b block) (defined_before function b block 0) a
  note_found a c =
      let h = found_left (note_needs function.allocas block) (flat_map (step_acts function.allocas) block.steps ++ ending_needs block.ending) [] a (found_quiet_act (note_needs function.allocas block) a (notes_quiet function.allocas block) c) in
      let k = found_right (flat_map phi_gives block.phis) (note_needs function.allocas block ++ (flat_map (step_acts function.allocas) block.steps ++ ending_needs block.ending)) [] a h in
      rw (none_first block.steps) (in_body (gives (flat_map phi_gives block.phis) ++ []) a k)
    where
      none_first : (steps : List Step) → steps_define steps 0 ≡ []
      none_first [] = refl
      none_first (s ∷ steps) = refl

  -- what a step uses, and the `shows` lines before it
  pub step_found : (i : ℕ) (s : Step) (a : Act) → slice_get block.steps i ≡ Some s → Contains (flat_map inequality_needs s.shows ++ instruction_needs function.allocas s.line s.instruction) a → Found (register_acts function b block) (defined_before function b block i) a
  step_found i s a at c =
      let steps : List Act = flat_map (step_acts function.allocas) block.steps in
      let h = found_left steps (ending_needs block.ending) (steps_define block.steps i) a (found_step function.allocas block.steps i s a at (in_step s a c)) in
      let n = found_right (note_needs function.allocas block) (steps ++ ending_needs block.ending) (steps_define block.steps i) a h in
      let k = found_right (flat_map phi_gives block.phis) (note_needs function.allocas block ++ (steps ++ ending_needs block.ending)) _ a n in
      rw (notes_quiet function.allocas block) at (in_body _ a k)
    where
      in_step : (s : Step) (a : Act) → Contains (flat_map inequality_needs s.shows ++ instruction_needs function.allocas s.line s.instruction) a → Found (step_acts function.allocas s) [] a
      in_step s a c = elim (Contains-append_cases (flat_map inequality_needs s.shows) (instruction_needs function.allocas s.line s.instruction) a c) [
        | inl h ↦ found_left (flat_map inequality_needs s.shows) (instruction_needs function.allocas s.line s.instruction ++ definition_gives (definition_of s.instruction)) [] a (found_quiet_act (flat_map inequality_needs s.shows) a (flat_quiet inequality_needs s.shows inequality_quiet) h)
        | inr h ↦ rw (flat_quiet inequality_needs s.shows inequality_quiet) at
            (found_right (flat_map inequality_needs s.shows) (instruction_needs function.allocas s.line s.instruction ++ definition_gives (definition_of s.instruction)) [] a
            (found_left (instruction_needs function.allocas s.line s.instruction) (definition_gives (definition_of s.instruction)) [] a (found_quiet_act (instruction_needs function.allocas s.line s.instruction) a (instruction_quiet function.allocas s.line s.instruction) h)))
      ]

  -- what the terminator uses, and the `shows` lines before it
  pub end_found : (a : Act) → Contains (ending_needs block.ending) a → Found (register_acts function b block) (defined_before function b block (length block.steps)) a
  end_found a c =
      let steps : List Act = flat_map (step_acts function.allocas) block.steps in
      let h = found_right steps (ending_needs block.ending) [] a (found_quiet_act (ending_needs block.ending) a (ending_quiet block.ending) c) in
      let n = found_right (note_needs function.allocas block) (steps ++ ending_needs block.ending) _ a h in
      let k = found_right (flat_map phi_gives block.phis) (note_needs function.allocas block ++ (steps ++ ending_needs block.ending)) _ a n in
      let all = in_body _ a k in
      rw (notes_quiet function.allocas block, append-nil (gives steps), steps_given function.allocas block.steps) at all

  -- what the phis of a block take from this one
  pub value_found : (a : Act) → Contains (flat_map (value_needs b) function.blocks) a → Found (register_acts function b block) (defined_before function b block (length block.steps)) a
  value_found a c =
      let h = found_right (body_acts function.allocas block) (flat_map (value_needs b) function.blocks) [] a (found_quiet_act (flat_map (value_needs b) function.blocks) a (flat_quiet (value_needs b) function.blocks (values_quiet b)) c) in
      let k = found_right (starting function b) (body_acts function.allocas block ++ flat_map (value_needs b) function.blocks) _ a h in
      let whole : gives (starting function b) ++ (gives (body_acts function.allocas block) ++ []) ≡ defined_before function b block (length block.steps) =
      (let e : gives (register_acts function b block) ≡ gives (starting function b) ++ (gives (body_acts function.allocas block) ++ []) = gives_append (starting function b) (body_acts function.allocas block ++ flat_map (value_needs b) function.blocks) ∙ ap (λ xs. gives (starting function b) ++ xs) (gives_append (body_acts function.allocas block) (flat_map (value_needs b) function.blocks) ∙ ap (λ xs. gives (body_acts function.allocas block) ++ xs) (flat_quiet (value_needs b) function.blocks (values_quiet b)))
      in sym e ∙ block_given function b block) in
      subst (λ xs. Found (register_acts function b block) xs a) whole k
