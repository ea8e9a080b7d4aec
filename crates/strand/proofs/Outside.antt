-- A strand's frames go into boxes, from the base up.
use Rattle.std.proofs.Common.{◌≡◌, ℕ, zero, suc, ◌+◌, ◌-◌, ◌<◌, ◌≤◌, ◌++◌, List, [], ◌∷◌, drop, length, map, reverse, refl, ap, sym, ◌∙◌, subst, arith, Option, Some, None, ℤ, Box, Global}
use Rattle.std.specs.Prelude.{slice_get}
use Rattle.std.specs.List.{between}
use Rattle.std.proofs.lemmas.List.{drop_all, length-append, length-drop, length-map, length-reverse, map-append, reverse-append}
use Rattle.std.proofs.lemmas.Option.{same_Some, slice_get_within}
use Rattle.semantics.specs.Frames.{Does, Ends, Item}
use Rattle.program.specs.declared.function.Program.{Program}
use Rattle.program.specs.declared.instruction.Instruction.TheVariants as instruction
use Rattle.program.specs.declared.instruction.Terminator.TheVariants as terminator
use Rattle.frame.specs.Reading.{role_of, wait_of}
use Rattle.frame.specs.declared.frame.Role as machine_role
use Rattle.frame.specs.declared.frame.Wait as machine_wait
use Rattle.frame_engine.specs.declared.activation.Frame.{Frame}
use Rattle.frame_engine.specs.declared.activation.Places.{Places}
use Rattle.frame_engine.specs.Shows.{Layout}
use Rattle.serial_stack.specs.StackShown as serial
use Rattle.serial_stack.specs.StackShown.{TextFits, unboxed}
use Rattle.laws_strands.specs.stacks.Strands as strands
use Rattle.laws_strands.specs.stacks.Strands.{IsStrand, Placed}
use Rattle.laws_strands.proofs.stacks.Based.{IsBased, based}
use Rattle.laws_strands.proofs.stacks.Rising.{Rises, rises}
use Rattle.windows.specs.declared.places.CodePlace.{CodePlace}
use Rattle.windows.specs.declared.windows.Saved.{Saved}
use Rattle.windows.specs.CodeSlots.{places_of}
use Rattle.windows.specs.WindowsShown.{Text, registers_in}
use Rattle.window_runs.proofs.Slots.{same_place}
use Rattle.strand.specs.Boxes.{ShowsBelow, ShowsOn, ShowsStrand}
use Rattle.strand.specs.Layouts.{Segment, base_on}
use Rattle.strand.specs.Leaving.{AreOut, BeganAs, IsBaseAbove, IsMade, IsWritten, Waits, WaitsNow, bases_up, frame_up, frames_under}
use Rattle.strand.specs.Spans.{HasMade, ShowsSpan, made_on, slot_item, text_of}
use Rattle.strand.specs.Steps.{CanGo}
use Rattle.strand.specs.declared.strand.Strand.{Strand}
use Rattle.strand.proofs.Boxed.{boxed_on, boxed_taker}
use Rattle.strand.proofs.Frames.{FrameOut, base_of, below_long, frame_out, made_some}
use Rattle.strand.proofs.Items.{from_end}

-- ---- lists

map_reversed : {A B : Type 0} (f : A → B) (xs : List A) → reverse (map f xs) ≡ map f (reverse xs)
map_reversed f [] = refl
map_reversed f (x ∷ xs) =
    reverse-append (f x ∷ []) (map f xs) ∙ ap (λ ys. ys ++ f x ∷ []) (map_reversed f xs) ∙ sym (map-append f (reverse xs) (x ∷ [])) ∙ ap (map f) (sym (reverse-append (x ∷ []) xs))

get_first : {A : Type 0} (xs : List A) (j : ℕ) (x : A) (rest : List A) → drop j xs ≡ x ∷ rest → slice_get xs j ≡ Some x
get_first [] zero x rest e = absurd cc
get_first [] (suc j) x rest e = absurd cc
get_first (y ∷ xs) zero x rest e = ap (λ ys. slice_get ys 0) e
get_first (y ∷ xs) (suc j) x rest e = get_first xs j x rest e

drop_next : {A : Type 0} (xs : List A) (j : ℕ) (x : A) (rest : List A) → drop j xs ≡ x ∷ rest → drop (suc j) xs ≡ rest
drop_next [] zero x rest e = absurd cc
drop_next [] (suc j) x rest e = absurd cc
drop_next (y ∷ xs) zero x rest e = ap (drop 1) e
drop_next (y ∷ xs) (suc j) x rest e = drop_next xs j x rest e

pub unboxed_push : (old new : List (Box Frame Global)) (b : Box Frame Global) → new ≡ old ++ b ∷ [] → unboxed new ≡ unboxed old ++ b.value ∷ []
unboxed_push old new b e = ap unboxed e ∙ map-append (λ (x : Box Frame Global). x.value) old (b ∷ [])

-- ---- made

pub base_made : (before : ℕ) (rest : List Placed) (made : ℕ) → length rest ≡ 0 → made_on before rest made ≡ before + made
base_made before [] made none = refl
base_made before (g ∷ rest) made none = absurd (omega (arith, none))

-- what was counted of a frame that stands on so many
pub made_is : (before : ℕ) (rest : List Placed) (made number count : ℕ) → length rest ≡ number → (number ≡ 0 → count ≡ before + made) → ((number ≡ 0 → ⊥) → count ≡ made) → made_on before rest made ≡ count
made_is before [] made number count long base other = sym (base (sym long))
made_is before (g ∷ rest) made number count long base other = sym (other (λ e. absurd (omega (arith, e, long))))

made_some_by : (item : Item) (g above : Placed) (made : ℕ) → HasMade (Some item) g above → g.frame.made ≡ made → IsMade item made
made_some_by (Does (instruction.Binary d op w a b)) g above made h e = h
made_some_by (Does (instruction.Compare d by w a b)) g above made h e = h
made_some_by (Does (instruction.Convert d by a)) g above made h e = h
made_some_by (Does (instruction.Alloca d a)) g above made h e = h
made_some_by (Does (instruction.ElementPointer d name i)) g above made h e = h
made_some_by (Does (instruction.Load d address)) g above made h e = h
made_some_by (Does (instruction.Store a address)) g above made h e = h
made_some_by (Does (instruction.StoreZeros cells name)) g above made h e = h
made_some_by (Does (instruction.AtomicAdd address a)) g above made h e = h
made_some_by (Does (instruction.Call d callee arguments)) g above made h e = let new = h.0.newest in omega (arith, new, e)
made_some_by (Does (instruction.StartRegion d)) g above made h e = h
made_some_by (Ends (terminator.Jump target)) g above made h e = h
made_some_by (Ends (terminator.Branch test one other)) g above made h e = h
made_some_by (Ends (terminator.Switch w a default cases)) g above made h e = h
made_some_by (Ends (terminator.Return a)) g above made h e = h
made_some_by (Ends (terminator.Detach r b c)) g above made h e = tt
made_some_by (Ends (terminator.Reattach r c)) g above made h e = h
made_some_by (Ends (terminator.Sync r t)) g above made h e = h

-- ---- depths

tall : (b t : Placed) (below : List Placed) → Rises b t below → length t.path ≡ length b.path + length below
tall b t [] r = let e = ap (λ xs. length xs) r.0 in omega (arith, e)
tall b t (g ∷ rest) r =
    let e = ap (λ xs. length xs) r.1 in
    let lower = tall b g rest r.4 in
    omega (arith, e, lower)

tall_at : (b t : Placed) (below : List Placed) (j : ℕ) (a : Placed) → Rises b t below → slice_get (t ∷ below) j ≡ Some a → length a.path + j ≡ length t.path
tall_at b t below zero a r e = let same = ap (λ (g : Placed). length g.path) (same_Some t a e) in omega (arith, same)
tall_at b t [] (suc j) a r e = absurd cc
tall_at b t (g ∷ rest) (suc j) a r e =
    let up = ap (λ xs. length xs) r.1 in
    let lower = tall_at b g rest j a r.4 e in
    omega (arith, up, lower)

lowest_at : (b t : Placed) (below : List Placed) → IsBased b t below → (g : Placed) × (slice_get (t ∷ below) (length below) ≡ Some g) × (g.path ≡ b.path) × (g.frame.role ≡ b.frame.role)
lowest_at b t [] h = (t, refl, h.path, h.role)
lowest_at b t (g ∷ rest) h = lowest_at b g rest h

-- ---- one frame

module _ (prog : Program) (places : Places) (moves : ℕ) (fits : TextFits prog places moves) (x : Strand) (number : ℕ) (lt : number < length x.span.windows.below.items) (saved : Saved) (saved_is : slice_get x.span.windows.below.items number ≡ Some saved)
    (l : Layout) (s : Segment) (d : strands.Strand) (is : IsStrand prog d) (h : ShowsSpan l prog places s d x)
  where
    abbrev items : List Saved
    items = x.span.windows.below.items

    abbrev j : ℕ
    j = length items - suc number

    abbrev t : Text
    t = text_of prog places h.allocas

    abbrev row : List ℤ
    row = x.span.windows.row.items

    abbrev Out : Type 0
    Out = FrameOut (base_on l s.start) t row x.base.frame.made x.done d.top d.below (reverse items) x.span.windows.base j

    pub out : Out
    out = frame_out (base_on l s.start) t row x.base.frame.made x.done d.top d.below (reverse items) x.span.windows.base j h.windows.below h.stands.below h.makers (let long = length-reverse items in omega (arith, lt, long))

    as_many : length d.below ≡ length items
    as_many = below_long (base_on l s.start) t row d.below (reverse items) x.span.windows.base h.windows.below ∙ length-reverse items

    rest_long : length out.rest ≡ number
    rest_long =
        let many = as_many in
        let e : length d.below - j ≡ suc (length out.rest) = sym (length-drop j d.below) ∙ ap (λ xs. length xs) out.frame_is in
        omega (arith, lt, many, e)

    kept_is : out.kept ≡ saved
    kept_is = same_Some out.kept saved (sym out.kept_is ∙ from_end items number saved saved_is)

    -- ---- what its kept words give

    abbrev before : ℕ
    before = x.base.frame.made

    pub small_made : number ≡ 0 → before + saved.made < 18446744073709551616
    small_made none =
        let made = out.maker.made in
        let small = out.maker.small in
        let e = base_made before out.rest out.kept.made (rest_long ∙ none) in
        let same = ap (λ (k : Saved). k.made) kept_is in
        omega (arith, made, small, e, same)

    pub slot_there : slot_item prog saved.at ≡ None → ⊥
    slot_there = subst (λ (k : Saved). slot_item prog k.at ≡ None → ⊥) kept_is (made_some (slot_item prog out.kept.at) out.frame out.above out.maker.by)

    by_item : (item : Item) → slot_item prog saved.at ≡ Some item → HasMade (Some item) out.frame out.above
    by_item item e = subst (λ (o : Option Item). HasMade o out.frame out.above) e (subst (λ (k : Saved). HasMade (slot_item prog k.at) out.frame out.above) kept_is out.maker.by)

    made_now : (made : ℕ) → (number ≡ 0 → made ≡ before + saved.made) → ((number ≡ 0 → ⊥) → made ≡ saved.made) → out.frame.frame.made ≡ made
    made_now made first other =
        out.maker.made ∙ ap (λ (k : Saved). made_on before out.rest k.made) kept_is ∙ made_is before out.rest saved.made number made rest_long first other

    pub item_made : (item : Item) → slot_item prog saved.at ≡ Some item → (made : ℕ) → (number ≡ 0 → made ≡ before + saved.made) → ((number ≡ 0 → ⊥) → made ≡ saved.made) → IsMade item made
    item_made item e made first other = made_some_by item out.frame out.above made (by_item item e) (made_now made first other)

    pub slot_within : saved.pc < length (places_of prog)
    slot_within = subst (λ (k : Saved). k.pc < length (places_of prog)) kept_is (slice_get_within (places_of prog) out.kept.pc out.shown.stands.place out.shown.stands.is)

    rising : Rises d.base d.top d.below
    rising = rises prog d is

    above_long : length out.above.path ≡ x.base.frame.depth + number + 1
    above_long =
        let at = tall_at d.base d.top d.below j out.above rising out.above_is in
        let all = tall d.base d.top d.below rising in
        let many = as_many in
        let depth = h.loaded.depth in
        omega (arith, at, all, many, depth, lt)

    pub deep : CanGo prog l s d → x.base.frame.depth + number + 1 < 18446744073709551616
    deep can =
        let all = tall d.base d.top d.below rising in
        let many = as_many in
        let depth = h.loaded.depth in
        let limit = can.depth in
        omega (arith, all, many, depth, lt, limit)

    -- ---- it goes out

    frame_there : frame_up d number ≡ Some out.frame
    frame_there =
        let many = as_many in
        let e : slice_get (d.top ∷ d.below) (suc j) ≡ Some out.frame = get_first d.below j out.frame out.rest out.frame_is in
        let at : suc (length d.below) - suc (suc j) ≡ number = omega (arith, many, lt) in
        subst (λ (n : ℕ). slice_get (reverse (d.top ∷ d.below)) n ≡ Some out.frame) at (from_end (d.top ∷ d.below) (suc j) out.frame e)

    above_there : frame_up d (suc number) ≡ Some out.above
    above_there =
        let many = as_many in
        let at : suc (length d.below) - suc j ≡ suc number = omega (arith, many, lt) in
        subst (λ (n : ℕ). slice_get (reverse (d.top ∷ d.below)) n ≡ Some out.above) at (from_end (d.top ∷ d.below) j out.above out.above_is)

    under_now : frames_under d (suc number) ≡ out.frame ∷ out.rest
    under_now =
        let many = as_many in
        let at : length d.below - suc number ≡ j = omega (arith, many) in
        ap (λ (n : ℕ). drop n d.below) at ∙ out.frame_is

    under_then : frames_under d number ≡ out.rest
    under_then =
        let many = as_many in
        let at : length d.below - number ≡ suc j = omega (arith, many, lt) in
        ap (λ (n : ℕ). drop n d.below) at ∙ drop_next d.below j out.frame out.rest out.frame_is

    module _ (base : ℕ) (base_is : IsBaseAbove x.span.windows number base) where
      base_here : out.base ≡ base
      base_here =
          let w = x.span.windows in
          let turned : reverse (bases_up w) ≡ w.base ∷ map base_of (reverse items) = reverse-append (map base_of items) (w.base ∷ []) ∙ ap (λ xs. w.base ∷ xs) (map_reversed base_of items) in
          let long : length (bases_up w) ≡ length items + 1 = length-append (map base_of items) (w.base ∷ []) ∙ ap (λ n. n + 1) (length-map items base_of) in
          let at : length (bases_up w) - suc (suc number) ≡ j = omega (arith, long, lt) in
          let got : slice_get (reverse (bases_up w)) (length (bases_up w) - suc (suc number)) ≡ Some base = from_end (bases_up w) (suc number) base base_is in
          same_Some out.base base (sym out.base_is ∙ sym (λ i. slice_get (turned i) (at i)) ∙ got)

      pub base_some : 1 ≤ base
      base_some = let wide = out.wide in let e = base_here in omega (arith, wide, e)

      pub window_low : saved.base ≤ base - 1
      window_low =
          let wide = out.wide in
          let e = base_here in
          let same = ap (λ (k : Saved). k.base) kept_is in
          omega (arith, wide, e, same)

      pub window_there : base - 1 ≤ length row
      window_there =
          let low = out.low in
          let e = base_here in
          let within = h.windows.within in
          omega (arith, low, e, within)

      module _ (tables_places : List CodePlace) (places_are : tables_places ≡ places_of prog) (item : Item) (item_is : slot_item prog saved.at ≡ Some item) (made : ℕ) (first : number ≡ 0 → made ≡ before + saved.made) (other : (number ≡ 0 → ⊥) → made ≡ saved.made)
          (wait : machine_wait.Wait) (role : machine_role.Role) (waits : Waits item made wait role) (old : AreOut l prog places s d number x)
          (lent frame : Frame) (lent_is : lent ≡ x.top.value) (written : IsWritten tables_places x.span.windows saved.pc saved.base (base - 1) lent frame)
          (home : ℤ) (home_is : home ≡ saved.home) (y : Strand) (below_is : unboxed y.below.items ≡ unboxed x.below.items ++ record frame { home = home; made = made; waits = wait } ∷ []) (role_is : y.top.value.role ≡ role) (depth_is : y.top.value.depth ≡ x.base.frame.depth + number + 1)
        where
          abbrev f : Frame
          f = record frame { home = home; made = made; waits = wait }

          says : (out.frame.frame.waits ≡ wait_of wait) × (out.above.frame.role ≡ role_of role)
          says = waits out.frame out.above (by_item item item_is) (made_now made first other)

          same_next : old.next ≡ out.frame
          same_next = same_Some old.next out.frame (sym old.there ∙ frame_there)

          there : slice_get (places_of prog) out.kept.pc ≡ Some (record { function = frame.function; block = frame.place.block; index = frame.place.index })
          there = (λ i. slice_get (sym places_are i) (kept_is i).pc) ∙ written.there

          end_is : base - 1 ≡ out.kept.base + registers_in prog out.stands.function
          end_is = let width = out.stands.width in let e = base_here in omega (arith, width, e)

          words : frame.registers.items ≡ between out.kept.base (base - 1) row
          words = written.words ∙ ap (λ (k : Saved). between k.base (base - 1) row) (sym kept_is)

          role_then : out.frame.frame.role ≡ role_of frame.role
          role_then = ap (λ (g : Placed). g.frame.role) (sym same_next) ∙ old.role ∙ ap (λ (z : Frame). role_of z.role) (sym lent_is) ∙ ap (λ (z : Frame). role_of z.role) (sym written.only)

          depth_then : length out.frame.path ≡ frame.depth
          depth_then = ap (λ (g : Placed). length g.path) (sym same_next) ∙ old.depth ∙ ap (λ (z : Frame). z.depth) (sym lent_is) ∙ ap (λ (z : Frame). z.depth) (sym written.only)

          on_box : ShowsOn l prog places s.start out.frame out.rest f
          on_box =
              boxed_on l prog places s.start moves h.allocas fits out.frame out.rest row out.kept.pc out.kept.base out.kept.home out.shown out.stands.function out.stands.block out.stands.index out.stands.at (base - 1) end_is window_there
              f (record { function = frame.function; block = frame.place.block; index = frame.place.index }) there refl refl refl words (home_is ∙ ap (λ (k : Saved). k.home) (sym kept_is)) (made_now made first other) role_then depth_then says.0

          taker_box : serial.HasTaker f f.waits
          taker_box =
              boxed_taker l prog places s.start moves h.allocas fits out.frame out.rest row out.kept.pc out.kept.base out.kept.home out.shown out.stands.function out.stands.block out.stands.index out.stands.at (base - 1) end_is window_there
              f (record { function = frame.function; block = frame.place.block; index = frame.place.index }) there refl refl refl words (home_is ∙ ap (λ (k : Saved). k.home) (sym kept_is)) (made_now made first other) role_then depth_then says.0 out.kept.taker out.taker

          pub went_out : AreOut l prog places s d (suc number) y
          went_out =
              let turned : reverse (unboxed y.below.items) ≡ f ∷ reverse (unboxed x.below.items) = ap (λ (xs : List Frame). reverse xs) below_is ∙ reverse-append (unboxed x.below.items) (f ∷ []) in
              let lower = subst (λ (q : List Placed). ShowsBelow l prog places s.start q (reverse (unboxed x.below.items))) under_then old.below in
              let all : ShowsBelow l prog places s.start (out.frame ∷ out.rest) (f ∷ reverse (unboxed x.below.items)) = (on_box, taker_box, lower) in
              record {
                below = subst (ShowsBelow l prog places s.start (frames_under d (suc number))) (sym turned) (subst (λ (q : List Placed). ShowsBelow l prog places s.start q (f ∷ reverse (unboxed x.below.items))) (sym under_now) all);
                next = out.above;
                there = above_there;
                role = says.1 ∙ ap role_of (sym role_is);
                depth = above_long ∙ sym depth_is;
              }

-- ---- the first, and the last

module _ (prog : Program) (places : Places) (x : Strand) (l : Layout) (s : Segment) (d : strands.Strand) (is : IsStrand prog d) (h : ShowsSpan l prog places s d x) where
  pub began : BeganAs x → AreOut l prog places s d 0 x
  began b =
      let low = lowest_at d.base d.top d.below (based prog d is) in
      let at : suc (length d.below) - suc (length d.below) ≡ 0 = omega arith in
      let none : frames_under d 0 ≡ [] = drop_all (length d.below - 0) d.below (omega arith) in
      record {
        below = subst (λ (xs : List Frame). ShowsBelow l prog places s.start (frames_under d 0) (reverse xs)) (sym (ap unboxed b.below)) (subst (λ (q : List Placed). ShowsBelow l prog places s.start q []) (sym none) tt);
        next = low.0;
        there = subst (λ (n : ℕ). slice_get (reverse (d.top ∷ d.below)) n ≡ Some low.0) at (from_end (d.top ∷ d.below) (length d.below) low.0 low.1);
        role = low.3 ∙ h.loaded.role ∙ ap role_of (sym b.role);
        depth = ap (λ xs. length xs) low.2 ∙ h.loaded.depth ∙ sym b.depth;
      }

  pub below_count : length d.below ≡ length x.span.windows.below.items
  below_count = below_long (base_on l s.start) (text_of prog places h.allocas) x.span.windows.row.items d.below (reverse x.span.windows.below.items) x.span.windows.base h.windows.below ∙ length-reverse x.span.windows.below.items

  pub top_within : (moves : ℕ) → TextFits prog places moves → x.span.place.end ≤ length x.span.windows.row.items
  top_within moves fits =
      let end = h.stands.end in
      let within = h.windows.within in
      let same = same_place (text_of prog places h.allocas) moves (record { at_is = refl; fits = fits }) x.span.place.pc h.stands.function h.stands.block h.stands.index h.stands.at d.top.frame.function d.top.frame.block d.top.frame.index h.windows.top.stands in
      let width : registers_in prog d.top.frame.function ≡ registers_in prog h.stands.function = ap (registers_in prog) same.0 in
      omega (arith, end, within, width)

  module _ (moves : ℕ) (fits : TextFits prog places moves) (tables_places : List CodePlace) (places_are : tables_places ≡ places_of prog) (wait : machine_wait.Wait) (waits : WaitsNow prog places x wait) (made : ℕ) (first : length x.span.windows.below.items ≡ 0 → made ≡ x.base.frame.made + x.span.more) (other : (length x.span.windows.below.items ≡ 0 → ⊥) → made ≡ x.span.more)
      (old : AreOut l prog places s d (length d.below) x) (lent frame : Frame) (lent_is : lent ≡ x.top.value) (written : IsWritten tables_places x.span.windows x.span.place.pc x.span.windows.base x.span.place.end lent frame)
      (home : ℤ) (home_is : home ≡ x.span.windows.home) (y : Strand) (top_is : y.top.value ≡ record frame { home = home; made = made; waits = wait }) (only : y ≡ record x { top = y.top })
    where
      same_top : old.next ≡ d.top
      same_top =
          let at : suc (length d.below) - 1 ≡ length d.below = omega arith in
          let top_there : frame_up d (length d.below) ≡ Some d.top = subst (λ (n : ℕ). slice_get (reverse (d.top ∷ d.below)) n ≡ Some d.top) at (from_end (d.top ∷ d.below) 0 d.top refl) in
          same_Some old.next d.top (sym old.there ∙ top_there)

      top_made : d.top.frame.made ≡ made
      top_made = h.made ∙ made_is x.base.frame.made d.below x.span.more (length x.span.windows.below.items) made below_count first other

      on_top : ShowsOn l prog places s.start d.top d.below (record frame { home = home; made = made; waits = wait })
      on_top =
          boxed_on l prog places s.start moves h.allocas fits d.top d.below x.span.windows.row.items x.span.place.pc x.span.windows.base x.span.windows.home h.windows.top h.stands.function h.stands.block h.stands.index h.stands.at x.span.place.end h.stands.end (top_within moves fits)
          (record frame { home = home; made = made; waits = wait }) (record { function = frame.function; block = frame.place.block; index = frame.place.index }) (ap (λ (ps : List CodePlace). slice_get ps x.span.place.pc) (sym places_are) ∙ written.there) refl refl refl written.words home_is top_made
          (ap (λ (g : Placed). g.frame.role) (sym same_top) ∙ old.role ∙ ap (λ (z : Frame). role_of z.role) (sym lent_is) ∙ ap (λ (z : Frame). role_of z.role) (sym written.only)) (ap (λ (g : Placed). length g.path) (sym same_top) ∙ old.depth ∙ ap (λ (z : Frame). z.depth) (sym lent_is) ∙ ap (λ (z : Frame). z.depth) (sym written.only)) (waits l s d is h)

      all_below : ShowsBelow l prog places s.start d.below (reverse (unboxed x.below.items))
      all_below =
          let at : length d.below - length d.below ≡ 0 = omega arith in
          subst (λ (n : ℕ). ShowsBelow l prog places s.start (drop n d.below) (reverse (unboxed x.below.items))) at old.below

      settled_at : ShowsStrand l prog places s d (record x { top = y.top })
      settled_at = record {
        segment = h.own.segment;
        path = h.path;
        loaded = h.loaded;
        top = subst (ShowsOn l prog places s.start d.top d.below) (sym top_is) on_top;
        below = all_below;
        done = h.done;
        deepest = h.deepest;
        synced = h.synced;
        first = h.own.first;
        kept = h.own.kept;
        met = h.own.met;
        end = h.own.end_is;
        room = h.own.room;
      }

      pub settles : ShowsStrand l prog places s d y
      settles = subst (ShowsStrand l prog places s d) (sym only) settled_at
