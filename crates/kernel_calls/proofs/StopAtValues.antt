-- The machine values of a `Kernel`. Assumes `Logic`.
use Rattle.std.proofs.Common.{◌≡◌, ℕ, List, [], ◌∷◌, ◌++◌, refl, subst, sym}
use lib.Dec.{T, lit<}
use Rattle.std.specs.Prelude.{Option, Some, None, is_some}
use Rattle.std.proofs.ResultValues.{and_tt}
use seplogic.Ra.Ura.{Ura}
use mir.Syntax.{impl, ty_ptr, tnil, dnil}
use mir.Raw.{raw as bare}
use mir.Val.{Val, vptr, vnull, vstruct, of_list, has_ty, WT}
use mathlib.Core.Bool.{true, ◌&&◌}
use base.Logic.{never, fst∗}
use types.Logic.{Logic, sem}
use types.Kit.{Item, Goal, Seq, Step, step, ‵, ◌$◌, move, drop, fsplit, fjoin, fpick, fpack, rewrite, feq_i, feq_l}
use denote.RattleType.{RattleType, Valss}
use denote.Memory.{lone}
use denote.RawPtr.{Ptr, block_ptr, null_ptr, ptr_val, in_a_block}
use denote.Steps.{nothing}
use denote.Param.{layout}
use denote.Struct.Struct.{within}
use denote.Struct.Owning.{fields, shape, to}
use Rattle.std.proofs.alloc.Calls.{Al, handle_tells}
use Rattle.std.proofs.cell.Inside.{Good}
use Rattle.std.specs.Box.Ownership.{box_owns}
use Rattle.std.specs.contracts.alloc.Global.{the_row as G}
use Rattle.std.specs.declared.alloc.Global.{Global}
use Rattle.std.proofs.alloc.Global.TheLaws.{the_row_laws as G-laws}
use Rattle.std.specs.contracts.impls.GlobalAllocator.TheImpl.{ghosts}
use Rattle.kernel_calls.specs.contracts.stop.StopBlock.{the_row as V}
use Rattle.kernel_calls.proofs.LooseValues.{both}
use Rattle.kernel_calls.specs.OwnedStopBlock.{owned}
use Rattle.kernel_calls.specs.contracts.stop_at.StopAt as kernel

abbrev pub K-row : RattleType
K-row = kernel.the_row

abbrev pub al : Al
al = record { row = G; laws = G-laws; g = ghosts; d = impl [] tnil dnil; drops = impl [] tnil dnil }

-- what an `Option` that is not `None` holds
pub got : {X : Type 0} (m : Option X) → is_some m ≡ true → (x : X) × (m ≡ Some x)
got (Some x) e = (x, refl)
got None e = absurd (subst T (sym e) tt)

pub kernel_good : (p : Ptr) (h : Val) → Good (layout G) h → T (has_ty ty_ptr (ptr_val p) && (has_ty (layout G) h && true)) × WT (both (ptr_val p) h)
kernel_good (block_ptr b o) h fits = (and_tt (has_ty (layout G) h) fits.0, (tt, (fits.1, tt)))
kernel_good null_ptr h fits = (and_tt (has_ty (layout G) h) fits.0, (record { fits = lit< tt }, (fits.1, tt)))

module _ {M : Type 1} {𝓤 : Ura M} {𝓛 : Logic 𝓤} {K : Type 0} {Γ : List (Item 𝓤)} {Z : Goal 𝓤 𝓛.H} where
  -- a handle that holds a kernel
  pub kernel_out : K → (d : K-row.Denot) (x : V.Denot) → d.kept ≡ Some x → (vs : List Val)
      → ((b o : ℕ) (h : Val) → d.at ≡ block_ptr b o → vs ≡ both (vptr b o) h ∷ [] → Good (layout G) h → Seq K 𝓛 (‵ (box_owns (ghosts.dealloc_token d.alloc) V (block_ptr b o) x) ∷ ‵ (G.own_val d.alloc (h ∷ [])) ∷ Γ) Z)
      → Seq K 𝓛 (‵ (K-row.own_val d vs) ∷ Γ) Z
  kernel_out t d x held vs k =
      fsplit t $ fpick t (λ vss. fsplit t $ feq_l t (λ ev. fsplit t $ feq_l t (λ ep. fsplit t $ handle_tells al t d.alloc vss.1.0 (λ h ea fits. move t (1 ∷ []) $ drop t $ move t (1 ∷ []) $
      rewrite t 0 (λ m. ‵ (owned d.alloc d.at m)) held refl $
      in_a_block t d.at (λ p. box_owns (ghosts.dealloc_token d.alloc) V p x) (fst∗ 𝓤 (never 𝓤) (sem 𝓛 (ghosts.dealloc_token d.alloc (bare (lone V.mir)) null_ptr))) (λ b o e. k b o h e
      (subst (λ (p : Ptr). vs ≡ vstruct (of_list (ptr_val p ∷ h ∷ [])) ∷ []) e
      (subst (λ (ws : List Val). vs ≡ vstruct (of_list (ptr_val d.at ∷ (ws ++ []))) ∷ []) ea (subst (λ (ps : List Val). vs ≡ vstruct (of_list (ps ++ (vss.1.0 ++ []))) ∷ []) ep ev))) fits)))))

  pub kernel_in : K → (b o : ℕ) (h : Val) (a : Global) (x : V.Denot)
      → Step K 𝓛 (‵ (K-row.own_val (record { at = block_ptr b o; alloc = a; kept = Some x }) (both (vptr b o) h ∷ [])) ∷ Γ) Z (‵ (box_owns (ghosts.dealloc_token a) V (block_ptr b o) x) ∷ ‵ (G.own_val a (h ∷ [])) ∷ Γ) Z
  kernel_in t b o h a x = step (λ s. let v : Val = both (vptr b o) h in
      nothing t $ move t (2 ∷ 0 ∷ []) $ fjoin t $ feq_i t (List Val) (vptr b o ∷ []) (vptr b o ∷ []) refl $ fjoin t $ feq_i t (List Val) (v ∷ []) (v ∷ []) refl $ fjoin t $
      fpack t (Valss (fields kernel.the_type)) (within (shape kernel.the_type) (to kernel.the_type (record { at = block_ptr b o; alloc = a; kept = Some x })) (v ∷ [])) (vptr b o ∷ [], (h ∷ [], tt)) $ fjoin t $ s)

  -- a handle that holds nothing
  pub empty_in : K → (h : Val) (a : Global)
      → Step K 𝓛 (‵ (K-row.own_val (record { at = null_ptr; alloc = a; kept = None }) (both vnull h ∷ [])) ∷ Γ) Z (‵ (G.own_val a (h ∷ [])) ∷ Γ) Z
  empty_in t h a = step (λ s. let v : Val = both vnull h in
      nothing t $ nothing t $ move t (2 ∷ 0 ∷ []) $ fjoin t $ feq_i t (List Val) (vnull ∷ []) (vnull ∷ []) refl $ fjoin t $ feq_i t (List Val) (v ∷ []) (v ∷ []) refl $ fjoin t $
      fpack t (Valss (fields kernel.the_type)) (within (shape kernel.the_type) (to kernel.the_type (record { at = null_ptr; alloc = a; kept = None })) (v ∷ [])) (vnull ∷ [], (h ∷ [], tt)) $ fjoin t $ s)

  -- the handle's allocator, and what it owns
  pub kernel_apart : K → (d : K-row.Denot) (vs : List Val)
      → ((h : Val) → vs ≡ both (ptr_val d.at) h ∷ [] → Good (layout G) h → Seq K 𝓛 (‵ (owned d.alloc d.at d.kept) ∷ ‵ (G.own_val d.alloc (h ∷ [])) ∷ Γ) Z)
      → Seq K 𝓛 (‵ (K-row.own_val d vs) ∷ Γ) Z
  kernel_apart t d vs k =
      fsplit t $ fpick t (λ vss. fsplit t $ feq_l t (λ ev. fsplit t $ feq_l t (λ ep. fsplit t $ handle_tells al t d.alloc vss.1.0 (λ h ea fits. move t (1 ∷ []) $ drop t $ move t (1 ∷ []) $
      k h (subst (λ (ws : List Val). vs ≡ vstruct (of_list (ptr_val d.at ∷ (ws ++ []))) ∷ []) ea (subst (λ (ps : List Val). vs ≡ vstruct (of_list (ps ++ (vss.1.0 ++ []))) ∷ []) ep ev)) fits))))
