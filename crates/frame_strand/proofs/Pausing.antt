-- Where a strand stands, by why the engine's loop stopped.
use Rattle.std.proofs.Common.{◌≡◌, ℕ, ◌<◌, ◌≤◌, ◌+◌, ◌++◌, List, [], ◌∷◌, length, refl, ap, sym, ◌∙◌, subst, arith, cond, ◌&&◌, ℤ, Bool, true, false, nat_le, is_some, is_none, Option, Some, None, inl, inr}
use Rattle.std.specs.Option.{option_map}
use Rattle.std.proofs.lemmas.Bool.Decides.{leb_tells}
use Rattle.std.proofs.lemmas.List.{length-map}
use Rattle.semantics.specs.Cells.{Cell}
use Rattle.semantics.specs.Frames.{Frame, Item, Does, Ends}
use Rattle.program.specs.declared.function.Program.{Program}
use Rattle.program.specs.declared.instruction.Instruction.{Instruction}
use Rattle.program.specs.declared.instruction.Instruction.TheVariants as instruction
use Rattle.laws_strands.specs.Footprint.{Footprint, Write, held, write_at}
use Rattle.laws_strands.specs.FrameStrands as frame_strands
use Rattle.laws_strands.specs.FrameStrands.{FrameStrand, Access, IsFrameStrand, is_advanced, is_filled, is_loaded, access_of, is_border, is_full, item_access, loaded, need, next_of, pause_at, pause_of, to_cell}
use Rattle.frame_engine.specs.Access.{Loads}
use Rattle.frame_engine.specs.Accesses.{RefusedItem}
use Rattle.frame_engine.specs.Shows.{Layout, IsIn, address}
use Rattle.frame_strand.specs.Along.{NeedsLiving, PausesAt, pause_in}
use Rattle.frame_strand.specs.Buffers.{Buffers, BuffersRefuse, LacksPlace, change_in, held_in}
use Rattle.frame_strand.specs.Gone.{named}
use Rattle.frame_strand.specs.Showing.{AreApart, ShowsFootprint, change_of}
use Rattle.frame_strand.specs.declared.cells.CellStop.{CellStop}
use Rattle.frame_strand.specs.declared.cells.CellStop.TheVariants as stop
use Rattle.frame_strand.specs.declared.standing.FrameStrandPause.{FrameStrandPause}
use Rattle.frame_strand.specs.declared.standing.FrameStrandPause.TheVariants.{Border, Full, Limit, Need}
use Rattle.frame_engine.specs.declared.turning.Pause.TheVariants as engine_pause
use Rattle.frame_strand.proofs.Advancing.{less}
use Rattle.frame_strand.proofs.Showing.{change_is, held_is}

-- ---- one pause is shown

pub stands_at : (prog : Program) (l : Layout) (t : FrameStrand) (p : frame_strands.Pause) (q : FrameStrandPause) → pause_of prog t ≡ Some p → pause_in l p ≡ q → NeedsLiving l (Some p) → PausesAt prog l t (Some q)
stands_at prog l t p q is same living = record {
  is = ap (option_map (pause_in l)) is ∙ ap (λ (x : FrameStrandPause). Some x) same;
  living = subst (NeedsLiving l) (sym is) living;
}

pub stands_free : (prog : Program) (l : Layout) (t : FrameStrand) → pause_of prog t ≡ None → PausesAt prog l t None
stands_free prog l t is = record { is = ap (option_map (pause_in l)) is; living = subst (NeedsLiving l) (sym is) tt }

-- ---- at the limit

much : (n : ℕ) → n ≡ 65536 → nat_le 65536 n ≡ true
much n e = elim (leb_tells 65536 n) [ inl q ↦ q.0 | inr q ↦ absurd (let r = q.1 in omega (arith, r, e)) ]

pub limit_border : (prog : Program) (l : Layout) (t : FrameStrand) → is_border (next_of prog t.present) ≡ true → PausesAt prog l t (Some Border)
limit_border prog l t border = stands_at prog l t frame_strands.Border Border (rw border refl) refl tt

pub limit_limit : (prog : Program) (l : Layout) (t : FrameStrand) → is_border (next_of prog t.present) ≡ false → t.done ≡ 65536 → PausesAt prog l t (Some Limit)
limit_limit prog l t border all = stands_at prog l t frame_strands.Limit Limit (let far = much t.done all in rw (border, far) refl) refl tt

-- ---- at an access

module _ (prog : Program) (l : Layout) (apart : AreApart l) (t : FrameStrand) (b : Buffers) (s : ShowsFootprint l t.footprint b) (few : t.done < 65536) where
  no_limit : nat_le 65536 t.done ≡ false
  no_limit = less t.done few

  full_pause : (o : Option Item) (a : Access) → is_border o ≡ false → item_access t.present o ≡ a → is_full t.footprint a ≡ true → pause_at t.footprint t.done o (item_access t.present o) ≡ Some frame_strands.Full
  full_pause o a border at full = let early = no_limit in let here = ap (is_full t.footprint) at ∙ full in rw (border, early, here) refl

  need_pause : (o : Option Item) (c : Cell) → is_border o ≡ false → item_access t.present o ≡ frame_strands.Loads c → held t.footprint c ≡ None → nat_le 256 (length t.footprint.reads) ≡ false →
      pause_at t.footprint t.done o (item_access t.present o) ≡ Some (frame_strands.Need c)
  need_pause o c border at unheld few =
      let early = no_limit in
      let free : is_full t.footprint (item_access t.present o) ≡ false = ap (is_full t.footprint) at ∙ (rw (unheld, few) refl) in
      let asked : need t.footprint (item_access t.present o) ≡ Some (frame_strands.Need c) = ap (need t.footprint) at ∙ (rw unheld refl) in
      rw (border, early, free) asked

  abbrev StopsAt : Option Item → CellStop → Type 0
  StopsAt o q = (p : frame_strands.Pause) × (pause_at t.footprint t.done o (item_access t.present o) ≡ Some p) × (pause_in l p ≡ named (engine_pause.Stopped q)) × NeedsLiving l (Some p)

  read_stop : (o : Option Item) (c : Cell) (q : CellStop) → is_border o ≡ false → IsIn l c → item_access t.present o ≡ frame_strands.Loads c → BuffersRefuse b (Loads (address l c)) q → StopsAt o q
  read_stop o c q border here at (unheld, is) = from (nat_le 256 (length b.reads)) refl is
    where
      unknown : held t.footprint c ≡ None
      unknown = sym (held_is l apart c here t.footprint b s) ∙ unheld

      as_many : length t.footprint.reads ≡ length b.reads
      as_many = sym (ap (λ xs. length xs) s.reads ∙ length-map t.footprint.reads _)

      from : (full : Bool) → nat_le 256 (length b.reads) ≡ full → q ≡ cond full stop.Full (stop.Need (address l c)) → StopsAt o q
      from true many e = (frame_strands.Full, full_pause o (frame_strands.Loads c) border at (let same = as_many in rw (unknown, same, many) refl), ap (λ x. named (engine_pause.Stopped x)) (sym e), tt)
      from false many e = (frame_strands.Need c, need_pause o c border at unknown (ap (nat_le 256) as_many ∙ many), ap (λ x. named (engine_pause.Stopped x)) (sym e), here)

  unmapped : (o : Option Write) → option_map change_of o ≡ None → o ≡ None
  unmapped None e = refl
  unmapped (Some u) e = absurd cc

  write_full : (c : Cell) (q : CellStop) → IsIn l c → LacksPlace b (address l c) q → is_none (write_at t.footprint c) && nat_le 256 (length t.footprint.writes) ≡ true
  write_full c q here lacks =
      let new : write_at t.footprint c ≡ None = unmapped (write_at t.footprint c) (sym (change_is l apart c here t.footprint b s) ∙ lacks.new) in
      let as_many : length b.writes ≡ length t.footprint.writes = ap (λ xs. length xs) s.writes ∙ length-map t.footprint.writes _ in
      let many : nat_le 256 (length t.footprint.writes) ≡ true = elim (leb_tells 256 (length t.footprint.writes)) [ inl z ↦ z.0 | inr z ↦ absurd (let r = z.1 in let m = lacks.full in omega (arith, r, m, as_many)) ] in
      rw (new, many) refl

  write_stop : (o : Option Item) (a : Access) (c : Cell) (q : CellStop) → is_border o ≡ false → IsIn l c → item_access t.present o ≡ a → is_full t.footprint a ≡ is_none (write_at t.footprint c) && nat_le 256 (length t.footprint.writes) → LacksPlace b (address l c) q → StopsAt o q
  write_stop o a c q border here at kind lacks = (frame_strands.Full, full_pause o a border at (kind ∙ write_full c q here lacks), ap (λ x. named (engine_pause.Stopped x)) (sym lacks.is), tt)

  refused_stop : (o : Option Item) (q : CellStop) → RefusedItem BuffersRefuse l t.present b q o → StopsAt o q
  refused_stop None q h = absurd h
  refused_stop (Some (Ends e)) q h = absurd h
  refused_stop (Some (Does (instruction.Load r a))) q (c, here, is, refuses) = read_stop (Some (Does (instruction.Load r a))) c q refl here (ap (to_cell frame_strands.Loads) is) refuses
  refused_stop (Some (Does (instruction.Store v a))) q (c, z, here, is, word, refuses) = write_stop (Some (Does (instruction.Store v a))) (frame_strands.Stores c) c q refl here (ap (to_cell frame_strands.Stores) is) refl refuses
  refused_stop (Some (Does (instruction.AtomicAdd a v))) q (c, z, here, is, word, refuses) = write_stop (Some (Does (instruction.AtomicAdd a v))) (frame_strands.Adds c) c q refl here (ap (to_cell frame_strands.Adds) is) refl refuses
  refused_stop (Some (Does (instruction.StoreZeros cells name))) q h = absurd h
  refused_stop (Some (Does (instruction.Call r callee arguments))) q h = absurd h
  refused_stop (Some (Does (instruction.Binary r op w x y))) q h = absurd h
  refused_stop (Some (Does (instruction.Compare r by w x y))) q h = absurd h
  refused_stop (Some (Does (instruction.Convert r by x))) q h = absurd h
  refused_stop (Some (Does (instruction.Alloca r a))) q h = absurd h
  refused_stop (Some (Does (instruction.ElementPointer r name i))) q h = absurd h
  refused_stop (Some (Does (instruction.StartRegion r))) q h = absurd h

  pub stopped_at : (q : CellStop) → RefusedItem BuffersRefuse l t.present b q (next_of prog t.present) → PausesAt prog l t (Some (named (engine_pause.Stopped q)))
  stopped_at q h =
      let (p, is, same, living) = refused_stop (next_of prog t.present) q h in
      stands_at prog l t p (named (engine_pause.Stopped q)) is same living

-- ---- before the first instruction

no_push : {X : Type 0} (xs : List X) (x : X) → xs ++ x ∷ [] ≡ [] → ⊥
no_push [] x e = cc
no_push (y ∷ ys) x e = cc

unstarted : (prog : Program) (t : FrameStrand) → IsFrameStrand prog t → t.footprint.reads ≡ [] → t.done ≡ 0 → t ≡ loaded t.path t.loaded
unstarted prog _ (is_loaded p f) none zero = refl
unstarted prog _ (is_filled s c v is paused) none zero = absurd (no_push s.footprint.reads (c, v) none)
unstarted prog _ (is_advanced s e is free act fine) none zero = absurd (omega (arith, zero))

-- where one instruction was done with no cell read, the strand could go on from its start
pub first_free : (prog : Program) (t : FrameStrand) → IsFrameStrand prog t → t.footprint.reads ≡ [] → t.done ≡ 1 → pause_of prog (loaded t.path t.loaded) ≡ None
first_free prog _ (is_loaded p f) none one = absurd (omega (arith, one))
first_free prog _ (is_filled s c v is paused) none one = absurd (no_push s.footprint.reads (c, v) none)
first_free prog _ (is_advanced s e is free act fine) none one = ap (pause_of prog) (sym (unstarted prog s is none (omega (arith, one)))) ∙ free

-- ---- a cell was filled

held_none : (o : Option ℤ) (p : frame_strands.Pause) → cond (is_some o) None (Some p) ≡ Some p → o ≡ None
held_none None p e = refl
held_none (Some z) p e = absurd cc
