-- What a strand under way gives as its frames go out.
use Rattle.std.proofs.Common.{◌≡◌, ℕ, suc, ◌+◌, ◌-◌, ◌<◌, ◌≤◌, List, length, ap, sym, ◌∙◌, subst, arith, get_or, Some, None}
use Rattle.std.specs.Prelude.{slice_get}
use Rattle.std.proofs.Math.Logic.{∥∥₁_elim, ∥∥₁_map}
use Rattle.std.proofs.Props.{props}
use Rattle.std.proofs.lemmas.Option.{slice_get-get_or, slice_get_within}
use Rattle.semantics.specs.Frames.{Does, Ends, Item}
use Rattle.program.specs.declared.instruction.Instruction.TheVariants as instruction
use Rattle.program.specs.declared.instruction.Terminator.TheVariants as terminator
use Rattle.program.specs.declared.function.Program.{Program}
use Rattle.frame_engine.specs.declared.activation.Places.{Places}
use Rattle.frame_engine.specs.Shows.{Layout}
use Rattle.serial_stack.specs.StackShown.{TextFits}
use Rattle.laws_strands.specs.stacks.Strands as strands
use Rattle.laws_strands.specs.stacks.Strands.{IsStrand}
use Rattle.windows.specs.declared.places.CodePlace.{CodePlace}
use Rattle.windows.specs.declared.windows.Saved.{Saved}
use Rattle.windows.specs.CodeSlots.{places_of}
use Rattle.strand.specs.Along.{IsSettled, IsUnderWay}
use Rattle.strand.specs.Going.{GoesStill, IsGoing}
use Rattle.strand.specs.Layouts.{Segment}
use Rattle.strand.specs.Leaving.{AreOut, IsBaseAbove, IsMade, OfShown, OutTo, SettlesTop}
use Rattle.strand.specs.Boxes.{ShowsStrand}
use Rattle.strand.specs.OwnCells.{segment_of}
use Rattle.strand.specs.Spans.{ShowsSpan, slot_item}
use Rattle.strand.specs.Steps.{CanGo}
use Rattle.strand.specs.declared.going.StrandPause.{StrandPause}
use Rattle.strand.specs.declared.strand.Strand.{Strand}
use Rattle.strand.proofs.Along.{stands}
use Rattle.strand.proofs.Outside.{base_made, base_some, below_count, deep, item_made, slot_there, slot_within, small_made, top_within, window_low, window_there}

pub made_read : (xs : List Saved) (k : ℕ) (s : Saved) → k < length xs → s ≡ get_or xs k s → slice_get xs k ≡ Some s
made_read xs k s lt is = slice_get-get_or xs k s lt ∙ ap (λ (x : Saved). Some x) (sym is)

made_prop : (item : Item) (made : ℕ) → IsProp (IsMade item made)
made_prop (Does (instruction.Binary d op w a b)) made = hlevel props
made_prop (Does (instruction.Compare d by w a b)) made = hlevel props
made_prop (Does (instruction.Convert d by a)) made = hlevel props
made_prop (Does (instruction.Alloca d a)) made = hlevel props
made_prop (Does (instruction.ElementPointer d name i)) made = hlevel props
made_prop (Does (instruction.Load d address)) made = hlevel props
made_prop (Does (instruction.Store a address)) made = hlevel props
made_prop (Does (instruction.StoreZeros cells name)) made = hlevel props
made_prop (Does (instruction.AtomicAdd address a)) made = hlevel props
made_prop (Does (instruction.Call d callee arguments)) made = hlevel props
made_prop (Does (instruction.StartRegion d)) made = hlevel props
made_prop (Ends (terminator.Jump target)) made = hlevel props
made_prop (Ends (terminator.Branch test one other)) made = hlevel props
made_prop (Ends (terminator.Switch w a default cases)) made = hlevel props
made_prop (Ends (terminator.Return a)) made = hlevel props
made_prop (Ends (terminator.Detach r b c)) made = hlevel props
made_prop (Ends (terminator.Reattach r c)) made = hlevel props
made_prop (Ends (terminator.Sync r t)) made = hlevel props

module _ (prog : Program) (places : Places) (x : Strand) (way : ∥ IsUnderWay prog places x ∥₁) where
  -- ---- the frame on top

  pub top_made_small : length x.span.windows.below.items ≡ 0 → x.base.frame.made + x.span.more < 18446744073709551616
  top_made_small none = ∥∥₁_elim way (hlevel props) (λ w.
      let s = stands prog places x w in
      let many = below_count prog places x s.layout s.segment s.strand s.is s.shown in
      let e = base_made x.base.frame.made s.strand.below x.span.more (many ∙ none) in
      let made = s.shown.made in
      let small = s.can.made in
      omega (arith, e, made, small))

  pub top_code : (at : List CodePlace) → at ≡ places_of prog → x.span.place.pc < length at
  top_code at same = ∥∥₁_elim way (hlevel props) (λ w.
      let on = (stands prog places x w).shown.windows.top in
      subst (λ (ps : List CodePlace). x.span.place.pc < length ps) (sym same) (slice_get_within (places_of prog) x.span.place.pc on.stands.place on.stands.is))

  pub top_window : x.span.windows.base ≤ x.span.place.end
  top_window = ∥∥₁_elim way (hlevel props) (λ w. let end = (stands prog places x w).shown.stands.end in omega (arith, end))

  pub top_there : (moves : ℕ) → TextFits prog places moves → x.span.place.end ≤ length x.span.windows.row.items
  top_there moves fits = ∥∥₁_elim way (hlevel props) (λ w. let s = stands prog places x w in top_within prog places x s.layout s.segment s.strand s.is s.shown moves fits)

  -- ---- a frame below

  module _ (moves : ℕ) (fits : TextFits prog places moves) (number : ℕ) (lt : number < length x.span.windows.below.items) (saved : Saved) (saved_is : slice_get x.span.windows.below.items number ≡ Some saved) where
    abbrev Seen : (Type 0) → Type 0
    Seen P = (l : Layout) (s : Segment) (d : strands.Strand) → IsStrand prog d → ShowsSpan l prog places s d x → CanGo prog l s d → P

    one : (P : Type 0) → IsProp P → Seen P → P
    one P prop f = ∥∥₁_elim way prop (λ w. let s = stands prog places x w in f s.layout s.segment s.strand s.is s.shown s.can)

    pub one_slot : slot_item prog saved.at ≡ None → ⊥
    one_slot e = one ⊥ (hlevel props) (λ l s d is h can. slot_there prog places moves fits x number lt saved saved_is l s d is h e)

    pub one_made : number ≡ 0 → x.base.frame.made + saved.made < 18446744073709551616
    one_made none = one (x.base.frame.made + saved.made < 18446744073709551616) (hlevel props) (λ l s d is h can. small_made prog places moves fits x number lt saved saved_is l s d is h none)

    pub one_item : (item : Item) → slot_item prog saved.at ≡ Some item → (made : ℕ) → (number ≡ 0 → made ≡ x.base.frame.made + saved.made) → ((number ≡ 0 → ⊥) → made ≡ saved.made) → IsMade item made
    one_item item e made first other = one (IsMade item made) (made_prop item made) (λ l s d is h can. item_made prog places moves fits x number lt saved saved_is l s d is h item e made first other)

    pub one_code : (at : List CodePlace) → at ≡ places_of prog → saved.pc < length at
    one_code at same = subst (λ (ps : List CodePlace). saved.pc < length ps) (sym same) (one (saved.pc < length (places_of prog)) (hlevel props) (λ l s d is h can. slot_within prog places moves fits x number lt saved saved_is l s d is h))

    pub one_deep : x.base.frame.depth + number + 1 < 18446744073709551616
    one_deep = one (x.base.frame.depth + number + 1 < 18446744073709551616) (hlevel props) (λ l s d is h can. deep prog places moves fits x number lt saved saved_is l s d is h can)

    module _ (base : ℕ) (base_is : IsBaseAbove x.span.windows number base) where
      pub one_base : 1 ≤ base
      one_base = one (1 ≤ base) (hlevel props) (λ l s d is h can. base_some prog places moves fits x number lt saved saved_is l s d is h base base_is)

      pub one_low : saved.base ≤ base - 1
      one_low = one (saved.base ≤ base - 1) (hlevel props) (λ l s d is h can. window_low prog places moves fits x number lt saved saved_is l s d is h base base_is)

      pub one_there : base - 1 ≤ length x.span.windows.row.items
      one_there = one (base - 1 ≤ length x.span.windows.row.items) (hlevel props) (λ l s d is h can. window_there prog places moves fits x number lt saved saved_is l s d is h base base_is)

-- ---- only boxes change

module _ (prog : Program) (places : Places) (x y : Strand) (only : y ≡ record x { top = y.top; below = y.below; spare = y.spare }) where
  boxed : (l : Layout) (s : Segment) (d : strands.Strand) → ShowsSpan l prog places s d x → ShowsSpan l prog places s d (record x { top = y.top; below = y.below; spare = y.spare })
  boxed l s d h = record {
    path = h.path;
    loaded = h.loaded;
    done = h.done;
    deepest = h.deepest;
    synced = h.synced;
    own = h.own;
    allocas = h.allocas;
    windows = h.windows;
    stands = h.stands;
    makers = h.makers;
    made = h.made;
    few = h.few;
    waits = record { past = h.waits.past; first = h.waits.first; behind = h.waits.behind; on = h.waits.on };
  }

  pub with_boxes : (l : Layout) (s : Segment) (d : strands.Strand) → ShowsSpan l prog places s d x → ShowsSpan l prog places s d y
  with_boxes l s d h = subst (ShowsSpan l prog places s d) (sym only) (boxed l s d h)

  way_boxed : IsUnderWay prog places x → IsUnderWay prog places (record x { top = y.top; below = y.below; spare = y.spare })
  way_boxed way = record {
    short = way.short;
    started = record { layout = way.started.layout; frame = way.started.frame; goes = way.started.goes };
    along = λ l g goes. let a = way.along l g goes in record { strand = a.strand; is = a.is; base = a.base; shown = boxed l (segment_of x.cells) a.strand a.shown };
  }

  pub way_with_boxes : IsUnderWay prog places x → IsUnderWay prog places y
  way_with_boxes way = subst (IsUnderWay prog places) (sym only) (way_boxed way)

  still_boxed : (r : StrandPause) → IsGoing prog places x r → IsGoing prog places (record x { top = y.top; below = y.below; spare = y.spare }) r
  unfolding way_boxed
  still_boxed r g = record { way = way_boxed g.way; stops = λ l f goes. g.stops l f goes }

  pub still_with_boxes : GoesStill prog places x y
  still_with_boxes r old = ∥∥₁_map old (λ g. subst (λ (v : Strand). IsGoing prog places v r) (sym only) (still_boxed r g))

-- ---- what only wrote boxes, one after the other

abbrev pub OnlyBoxes : Strand → Strand → Type 0
OnlyBoxes x y = y ≡ record x { top = y.top; below = y.below; spare = y.spare }

pub only_again : (x y z : Strand) → OnlyBoxes x y → OnlyBoxes y z → OnlyBoxes x z
only_again x y z e f = f ∙ ap (λ (v : Strand). record v { top = z.top; below = z.below; spare = z.spare }) e

pub only_back : (x y : Strand) → OnlyBoxes x y → OnlyBoxes y x
only_back x y e = sym (ap (λ (v : Strand). record v { top = x.top; below = x.below; spare = x.spare }) e)

pub only_top : (x y : Strand) → y ≡ record x { top = y.top } → OnlyBoxes x y
only_top x y e = e ∙ (λ i. record x { top = y.top; below = sym (ap (λ (v : Strand). v.below) e) i; spare = sym (ap (λ (v : Strand). v.spare) e) i })

-- boxes that show each strand show it as settled
settled : (prog : Program) (places : Places) (x : Strand) → IsUnderWay prog places x → OfShown prog places x (λ l s d. ShowsStrand l prog places s d x) → IsSettled prog places x
settled prog places x way shows = record {
  short = way.short;
  started = record { layout = way.started.layout; frame = way.started.frame; goes = way.started.goes };
  along = λ l g goes. let a = way.along l g goes in record { strand = a.strand; is = a.is; base = a.base; shown = shows l (segment_of x.cells) a.strand a.is a.shown };
}

abbrev pub AreOutAt : Program → Places → ℕ → Strand → Type 0
AreOutAt prog places number x = OfShown prog places x (λ l s d. AreOut l prog places s d number x)

-- one more went out
pub one_more_out : (prog : Program) (places : Places) (number : ℕ) (x y : Strand) → OnlyBoxes x y → AreOutAt prog places number x → OutTo prog places number x y → AreOutAt prog places (number + 1) y
one_more_out prog places number x y only all out = λ l s d is h.
    let before = with_boxes prog places y x (only_back x y only) l s d h in
    let up : suc number ≡ number + 1 = omega arith in
    subst (λ (n : ℕ). AreOut l prog places s d n y) up (out l s d is before (all l s d is before))

-- all went out
pub all_out : (prog : Program) (places : Places) (number : ℕ) (x y z : Strand) → OnlyBoxes x y → number ≡ length x.span.windows.below.items → AreOutAt prog places number y → z ≡ record y { top = z.top } → SettlesTop prog places y z → IsUnderWay prog places x → IsSettled prog places z
all_out prog places number x y z only last all top settles way =
    let on = only_top y z top in
    settled prog places z (way_with_boxes prog places x z (only_again x y z only on) way) (λ l s d is h.
    let before = with_boxes prog places z y (only_back y z on) l s d h in
    let many = below_count prog places y l s d is before in
    let same : length y.span.windows.below.items ≡ length x.span.windows.below.items = ap (λ (v : Strand). length v.span.windows.below.items) only in
    let at : number ≡ length d.below = omega (arith, last, many, same) in
    settles l s d is before (subst (λ (n : ℕ). AreOut l prog places s d n y) at (all l s d is before)))
