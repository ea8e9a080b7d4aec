-- What a text mentions grows, part by part.
use Rattle.std.proofs.Common.{◌≡◌, ℕ, zero, suc, List, [], ◌∷◌, ◌++◌, length, Option, Some, None, refl, subst, arith}
use Rattle.std.specs.Prelude.{slice_get}
use Rattle.std.specs.List.{Contains}
use Rattle.std.proofs.lemmas.List.{get_or_push, length_push}
use Rattle.std.proofs.lemmas.List.Elements.{Contains-append_left}
use Rattle.syntax.specs.declared.annotation.Pending.{Pending as PendingText}
use Rattle.syntax.specs.declared.annotation.Zone.{Zone as ZoneText}
use Rattle.syntax.specs.declared.instruction.Address.{Address as AddressText}
use Rattle.syntax.specs.declared.instruction.Address.TheVariants as address
use Rattle.syntax.specs.declared.instruction.Argument.{Argument as ArgumentText}
use Rattle.syntax.specs.declared.instruction.Argument.TheVariants as argument
use Rattle.syntax.specs.declared.instruction.Instruction.{Instruction as InstructionText}
use Rattle.syntax.specs.declared.instruction.Instruction.TheVariants as text
use Rattle.syntax.specs.declared.instruction.Step.{Step as StepText}
use Rattle.syntax.specs.declared.module.Block.{Block as BlockText}
use Rattle.syntax.specs.declared.module.Function.{Function as FunctionText}
use Rattle.types.specs.declared.names.item.Item.{Item}
use Rattle.types.specs.declared.names.item.Item.TheVariants as item
use Rattle.types.specs.declared.names.mention.Mentions.{Mentions}
use Rattle.types.specs.names.Address.{Items}
use Rattle.types.specs.names.Mention.{with_object, with_callee, with_address, with_argument, with_arguments, with_instruction, with_steps, with_zones, with_pending, with_block, with_blocks, with_notes, no_mentions, mentions_of}
use Rattle.types.specs.names.Table.{look_up}

-- b mentions all that a does
pub record Extends (a b : Mentions) : Type 0 where
  pub globals : (g : ℕ) → Contains a.globals g → Contains b.globals g
  pub callees : (g : ℕ) → Contains a.callees g → Contains b.callees g

pub extends_itself : (a : Mentions) → Extends a a
extends_itself a = record { globals = λ g h. h; callees = λ g h. h }

pub extends_on : (a b c : Mentions) → Extends a b → Extends b c → Extends a c
extends_on a b c h k = record { globals = λ g x. k.globals g (h.globals g x); callees = λ g x. k.callees g (h.callees g x) }

pub contains_pushed : (xs : List ℕ) (x : ℕ) → Contains (xs ++ x ∷ []) x
contains_pushed xs x = (length xs, omega (arith, length_push xs x), get_or_push xs x x (length xs) refl)

object_extends : (m : Mentions) (o : Option Item) → Extends m (with_object m o)
object_extends m None = extends_itself m
object_extends m (Some (item.Global id cells)) = record { globals = λ g h. Contains-append_left m.globals (id.0 ∷ []) g h; callees = λ g h. h }
object_extends m (Some (item.Function id)) = extends_itself m

callee_extends : (m : Mentions) (o : Option Item) → Extends m (with_callee m o)
callee_extends m None = extends_itself m
callee_extends m (Some (item.Global id cells)) = record { globals = λ g h. Contains-append_left m.globals (id.0 ∷ []) g h; callees = λ g h. h }
callee_extends m (Some (item.Function id)) = record { globals = λ g h. h; callees = λ g h. Contains-append_left m.callees (id.0 ∷ []) g h }

module _ (items : Items) where
  pub address_extends : (m : Mentions) (a : AddressText) → Extends m (with_address items m a)
  address_extends m (address.Global name) = object_extends m (look_up items name)
  address_extends m (address.Register name) = extends_itself m

  argument_extends : (m : Mentions) (a : ArgumentText) → Extends m (with_argument items m a)
  argument_extends m (argument.Number value) = extends_itself m
  argument_extends m (argument.Pointer at) = address_extends m at

  pub arguments_extend : (arguments : List ArgumentText) (m : Mentions) → Extends m (with_arguments items m arguments)
  arguments_extend [] m = extends_itself m
  arguments_extend (a ∷ more) m = extends_on _ _ _ (argument_extends m a) (arguments_extend more (with_argument items m a))

  pub instruction_extends : (m : Mentions) (what : InstructionText) → Extends m (with_instruction items m what)
  instruction_extends m (text.Binary register operator width left right) = extends_itself m
  instruction_extends m (text.Compare register predicate width left right) = extends_itself m
  instruction_extends m (text.Convert register conversion value) = extends_itself m
  instruction_extends m (text.Alloca register size) = extends_itself m
  instruction_extends m (text.ElementPointer register base index) = address_extends m base
  instruction_extends m (text.Load register at) = address_extends m at
  instruction_extends m (text.Store value at) = address_extends m at
  instruction_extends m (text.StoreZeros cells at) = address_extends m at
  instruction_extends m (text.AtomicAdd at value) = address_extends m at
  instruction_extends m (text.Call register callee arguments) =
      extends_on _ _ _ (callee_extends m (look_up items callee)) (arguments_extend arguments (with_callee m (look_up items callee)))
  instruction_extends m (text.StartRegion register) = extends_itself m

  steps_extend : (steps : List StepText) (m : Mentions) → Extends m (with_steps items m steps)
  steps_extend [] m = extends_itself m
  steps_extend (step ∷ steps) m = extends_on _ _ _ (instruction_extends m step.instruction) (steps_extend steps (with_instruction items m step.instruction))

  zones_extend : (zones : List ZoneText) (m : Mentions) → Extends m (with_zones items m zones)
  zones_extend [] m = extends_itself m
  zones_extend (zone ∷ zones) m = extends_on _ _ _ (address_extends m zone.object) (zones_extend zones (with_address items m zone.object))

  pending_extend : (lines : List PendingText) (m : Mentions) → Extends m (with_pending items m lines)
  pending_extend [] m = extends_itself m
  pending_extend (line ∷ lines) m = extends_on _ _ _ (address_extends m line.zone.object) (pending_extend lines (with_address items m line.zone.object))

  block_extends : (block : BlockText) (m : Mentions) → Extends m (with_block items m block)
  block_extends block m =
      let one = with_pending items m block.notes.pending in
      let two = with_zones items one block.notes.foot in
      extends_on m one _ (pending_extend block.notes.pending m) (extends_on one two _ (zones_extend block.notes.foot one) (steps_extend block.steps two))

  blocks_extend : (blocks : List BlockText) (m : Mentions) → Extends m (with_blocks items m blocks)
  blocks_extend [] m = extends_itself m
  blocks_extend (block ∷ blocks) m = extends_on _ _ _ (block_extends block m) (blocks_extend blocks (with_block items m block))

  -- ---- each part is mentioned

  -- what the part adds to some mentions is in these
  pub record Holds (add : Mentions → Mentions) (all : Mentions) : Type 0 where
    pub before : Mentions
    pub held : Extends (add before) all

  further : (add : Mentions → Mentions) (a b : Mentions) → Holds add a → Extends a b → Holds add b
  further add a b h e = record { before = h.before; held = extends_on (add h.before) a b h.held e }

  pub arguments_hold : (arguments : List ArgumentText) (i : ℕ) (a : ArgumentText) (m : Mentions) → slice_get arguments i ≡ Some a → Holds (λ k. with_argument items k a) (with_arguments items m arguments)
  arguments_hold [] i a m e = absurd (cc)
  arguments_hold (b ∷ more) zero a m e =
      let same : b ≡ a = cc in
      let P : ArgumentText → Type 0 = λ x. Holds (λ k. with_argument items k x) (with_arguments items m (b ∷ more)) in
      subst P same (record { before = m; held = arguments_extend more (with_argument items m b) })
  arguments_hold (b ∷ more) (suc i) a m e = arguments_hold more i a (with_argument items m b) e

  zones_hold : (zones : List ZoneText) (i : ℕ) (zone : ZoneText) (m : Mentions) → slice_get zones i ≡ Some zone → Holds (λ k. with_address items k zone.object) (with_zones items m zones)
  zones_hold [] i zone m e = absurd (cc)
  zones_hold (one ∷ more) zero zone m e =
      let same : one ≡ zone = cc in
      let P : ZoneText → Type 0 = λ x. Holds (λ k. with_address items k x.object) (with_zones items m (one ∷ more)) in
      subst P same (record { before = m; held = zones_extend more (with_address items m one.object) })
  zones_hold (one ∷ more) (suc i) zone m e = zones_hold more i zone (with_address items m one.object) e

  pending_hold : (lines : List PendingText) (i : ℕ) (line : PendingText) (m : Mentions) → slice_get lines i ≡ Some line → Holds (λ k. with_address items k line.zone.object) (with_pending items m lines)
  pending_hold [] i line m e = absurd (cc)
  pending_hold (one ∷ more) zero line m e =
      let same : one ≡ line = cc in
      let P : PendingText → Type 0 = λ x. Holds (λ k. with_address items k x.zone.object) (with_pending items m (one ∷ more)) in
      subst P same (record { before = m; held = pending_extend more (with_address items m one.zone.object) })
  pending_hold (one ∷ more) (suc i) line m e = pending_hold more i line (with_address items m one.zone.object) e

  steps_hold : (steps : List StepText) (i : ℕ) (step : StepText) (m : Mentions) → slice_get steps i ≡ Some step → Holds (λ k. with_instruction items k step.instruction) (with_steps items m steps)
  steps_hold [] i step m e = absurd (cc)
  steps_hold (one ∷ more) zero step m e =
      let same : one ≡ step = cc in
      let P : StepText → Type 0 = λ x. Holds (λ k. with_instruction items k x.instruction) (with_steps items m (one ∷ more)) in
      subst P same (record { before = m; held = steps_extend more (with_instruction items m one.instruction) })
  steps_hold (one ∷ more) (suc i) step m e = steps_hold more i step (with_instruction items m one.instruction) e

  blocks_hold : (blocks : List BlockText) (i : ℕ) (block : BlockText) (m : Mentions) → slice_get blocks i ≡ Some block → Holds (λ k. with_block items k block) (with_blocks items m blocks)
  blocks_hold [] i block m e = absurd (cc)
  blocks_hold (one ∷ more) zero block m e =
      let same : one ≡ block = cc in
      let P : BlockText → Type 0 = λ x. Holds (λ k. with_block items k x) (with_blocks items m (one ∷ more)) in
      subst P same (record { before = m; held = blocks_extend more (with_block items m one) })
  blocks_hold (one ∷ more) (suc i) block m e = blocks_hold more i block (with_block items m one) e

  -- of a function
  module _ (function : FunctionText) (b : ℕ) (block : BlockText) (at : slice_get function.blocks b ≡ Some block) where
    abbrev all : Mentions
    all = mentions_of items function

    of_block : Holds (λ k. with_block items k block) all
    of_block = blocks_hold function.blocks b block (with_notes items no_mentions function.notes) at

    pub of_step : (i : ℕ) (step : StepText) → slice_get block.steps i ≡ Some step → Holds (λ k. with_instruction items k step.instruction) all
    of_step i step e =
        let m = of_block.before in
        let two = with_zones items (with_pending items m block.notes.pending) block.notes.foot in
        further _ (with_steps items two block.steps) all (steps_hold block.steps i step two e) of_block.held

    pub of_foot : (i : ℕ) (zone : ZoneText) → slice_get block.notes.foot i ≡ Some zone → Holds (λ k. with_address items k zone.object) all
    of_foot i zone e =
        let one = with_pending items of_block.before block.notes.pending in
        let two = with_zones items one block.notes.foot in
        further _ two all (zones_hold block.notes.foot i zone one e) (extends_on two _ all (steps_extend block.steps two) of_block.held)

    pub of_pending : (i : ℕ) (line : PendingText) → slice_get block.notes.pending i ≡ Some line → Holds (λ k. with_address items k line.zone.object) all
    of_pending i line e =
        let m = of_block.before in
        let one = with_pending items m block.notes.pending in
        let two = with_zones items one block.notes.foot in
        further _ one all (pending_hold block.notes.pending i line m e)
        (extends_on one two all (zones_extend block.notes.foot one) (extends_on two _ all (steps_extend block.steps two) of_block.held))

  module _ (function : FunctionText) where
    abbrev noted : Mentions
    noted = with_notes items no_mentions function.notes

    after_notes : Extends noted (mentions_of items function)
    after_notes = blocks_extend function.blocks noted

    pub of_reads : (i : ℕ) (zone : ZoneText) → slice_get function.notes.reads i ≡ Some zone → Holds (λ k. with_address items k zone.object) (mentions_of items function)
    of_reads i zone e =
        let one = with_zones items no_mentions function.notes.reads in
        let two = with_zones items one function.notes.writes in
        further _ one _ (zones_hold function.notes.reads i zone no_mentions e)
        (extends_on one two _ (zones_extend function.notes.writes one) (extends_on two noted _ (zones_extend function.notes.adds two) after_notes))

    pub of_writes : (i : ℕ) (zone : ZoneText) → slice_get function.notes.writes i ≡ Some zone → Holds (λ k. with_address items k zone.object) (mentions_of items function)
    of_writes i zone e =
        let one = with_zones items no_mentions function.notes.reads in
        let two = with_zones items one function.notes.writes in
        further _ two _ (zones_hold function.notes.writes i zone one e) (extends_on two noted _ (zones_extend function.notes.adds two) after_notes)

    pub of_adds : (i : ℕ) (zone : ZoneText) → slice_get function.notes.adds i ≡ Some zone → Holds (λ k. with_address items k zone.object) (mentions_of items function)
    of_adds i zone e =
        let two = with_zones items (with_zones items no_mentions function.notes.reads) function.notes.writes in
        further _ noted _ (zones_hold function.notes.adds i zone two e) after_notes
