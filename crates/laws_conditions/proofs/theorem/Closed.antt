-- No child lives where a frame ends: an instance of what is kept of zones, where each child's zone reads all cells, and what is open covers it.
use Rattle.std.proofs.Common.{◌≡◌, ◌≢◌, ℕ, zero, suc, ◌∷◌, Option, Some, None, Bool, true, false, refl, sym, subst, is_none}
use Rattle.semantics.specs.Paths.{Path}
use Rattle.semantics.specs.Cells.{Shared, Cell}
use Rattle.semantics.specs.Frames.{Halted, Frame}
use Rattle.semantics.specs.State.{State, childless}
use Rattle.semantics.specs.Tree.{Tree}
use Rattle.laws_conditions.specs.theorem.Conditions.{Zone, Covers, Clear, PassesZonesOn, ClosesRegions}
use Rattle.semantics.proofs.Diamond.{Goes}
use Rattle.laws_conditions.proofs.theorem.Feet.{Footed, covers_itself, going_child, not_waiting, alive}
use Rattle.program.specs.declared.function.Program.{Program}

-- all cells, or none
abbrev pub span : Bool → Zone
span true = record { reads = λ x. Unit {0}; adds = λ x. ⊥; gives = λ v. Unit {0} }
span false = record { reads = λ x. ⊥; adds = λ x. ⊥; gives = λ v. Unit {0} }

span_covers : (a b : Bool) → (a ≡ true → b ≡ true) → Covers (span b) (span a)
span_covers true true h = covers_itself (span true)
span_covers true false h = absurd (let e : false ≡ true = h refl in cc)
span_covers false b h = record { reads = λ x e. absurd e; adds = λ x e. absurd e }

span_clear : (a b : Bool) → Clear (span a) (span b)
span_clear true true = record { first = λ x e h. h; second = λ x e h. e }
span_clear true false = record { first = λ x e h. h; second = λ x e h. e }
span_clear false true = record { first = λ x e h. e; second = λ x e h. e }
span_clear false false = record { first = λ x e h. e; second = λ x e h. e }

some_cell : Cell
some_cell = record { object = Shared 0; index = 0 }

covering_all : (a b : Bool) → Covers (span a) (span b) → b ≡ true → a ≡ true
covering_all true b h e = refl
covering_all false b h e = absurd (let k : Covers (span false) (span true) = subst (λ x. Covers (span false) (span x)) e h in k.reads some_cell tt)

module _ (prog : Program) (holds : Path → Frame → Type 0) (opens : Path → Frame → ℕ → Bool) (closes : ClosesRegions prog holds opens) where
  abbrev pub Holds : Path → Frame → Bool → Type 0
  Holds p f z = holds p f × (z ≡ true)

  abbrev pub no_more : Frame → Bool → Type 0
  no_more f z = Unit {0}

  pub closes_passes : PassesZonesOn Bool span prog Holds opens no_more
  closes_passes = record {
    plain_ok = λ p f z m e fit go at fine. let h = closes.plain_holds p f m e fit.0 go at fine in ((h.0, fit.1), λ r. span_covers _ _ (h.1 r));
    detach_ok = λ p f z m r b n fit go at.
        let h = closes.detach_holds p f m r b n fit.0 go at in
        (true, span_covers true z (λ e. fit.1), λ q. span_clear true _, (h.0, refl), (h.1, fit.1), λ q. span_covers _ _ (h.2 q), span_covers true _ (λ e. h.3));
    sync_ok = λ p f z m r b rs fit go at. let h = closes.sync_holds p f m r b rs fit.0 go at in ((h.0, fit.1), λ q differ. span_covers _ _ (h.1 q differ));
    call_ok = λ p f z m d g vs fit go at.
        let h = closes.call_holds p f m d g vs fit.0 go at in
        (true, span_covers true z (λ e. fit.1), λ q. span_clear true _, (h.0, refl), (h.1, fit.1), λ q. span_covers _ _ (h.2 q), tt);
    return_ok = λ p f z m v fit go at. subst (λ x. (span x).gives v) (sym fit.1) tt;
    resume_ok = λ p f z y k d v fit wait so gives. let h = closes.resume_holds p f k d v fit.0 wait in ((h.0, fit.1), λ q. span_covers _ _ (h.1 q));
  }

  module _ (s : State) (tree : Tree s) (feet : Path → Bool) (footed : Footed Bool span Holds opens no_more s feet) where
    -- a living child's region is open
    child_open : (p : Path) → (go : Goes s p) → (k : ℕ) (c : Frame) → s.frames (k ∷ p) ≡ Some c → ((r : ℕ) → opens p go.frame r ≡ false) → c.waits ≢ Halted → ⊥
    child_open p go k c there none on =
        let (r, n, role) = going_child tree go c k there in
        let cover = footed.waited k r n p go.frame c go.is there role (not_waiting tree go go.frame c k r n go.is there role) (alive go go.frame go.is) in
        let own = footed.own (k ∷ p) c there on in
        let e : opens p go.frame r ≡ true = covering_all _ _ cover own.1 in
        let n : opens p go.frame r ≡ false = none r in
        cc

    -- so a frame that goes and has nothing open has no children, where none has trapped
    pub bare : (p : Path) → (go : Goes s p) → ((r : ℕ) → opens p go.frame r ≡ false) → ((x : Path) (c : Frame) → s.frames x ≡ Some c → c.waits ≢ Halted) → (made : ℕ) → childless s p made ≡ true
    bare p go none on zero = refl
    bare p go none on (suc n) = rw (not_there n) (bare p go none on n)
      where
        not_there : (k : ℕ) → is_none (s.frames (k ∷ p)) ≡ true
        not_there k = from (s.frames (k ∷ p)) refl
          where
            from : (o : Option Frame) → s.frames (k ∷ p) ≡ o → is_none (s.frames (k ∷ p)) ≡ true
            from None e = rw e
            from (Some c) e = absurd (child_open p go k c e none (on (k ∷ p) c e))
