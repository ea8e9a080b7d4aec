-- What a strand's cells keep as a change or a value is put.
use Rattle.std.proofs.Common.{◌≡◌, ◌≢◌, ℕ, ◌≤◌, List, [], ◌∷◌, ◌++◌, map, refl, ap, sym, ◌∙◌, subst, cond, ℤ, Option, Some, None, inl, inr}
use Rattle.std.specs.Prelude.{slice_get, slice_set, vec_capacity}
use Rattle.semantics.specs.Arithmetic.{cell_sum}
use Rattle.frame_strand.specs.Buffers.{change_in, value_in, settled_changes, with_change}
use Rattle.frame_strand.specs.Keeping.{AreDifferent, IsKept}
use Rattle.frame_strand.specs.declared.cells.Read.{Read}
use Rattle.frame_strand.specs.declared.cells.Written.{Written}
use Rattle.frame_strand.specs.declared.cells.Change.{Change}
use Rattle.frame_strand.specs.declared.cells.Change.TheVariants.{Stored, Delta}
use Rattle.frame_strand.specs.declared.cells.FrameStrandCells.TheInside.{Inside}
use Rattle.frame_strand.proofs.CellsKept.{int_tells, different_push, keys_set, keys_push, set_changes, push_changes, change_with, change_unlisted, value_unlisted, value_push}

-- the deltas after a change
deltas_with : (ws : List Written) (rs : List Read) (a : ℤ) (u : Change) → ((b z : ℤ) → change_in ws b ≡ Some (Delta z) → value_in rs b ≡ None) → ((z : ℤ) → u ≡ Delta z → value_in rs a ≡ None) →
    (b z : ℤ) → change_in (with_change ws a u) b ≡ Some (Delta z) → value_in rs b ≡ None
deltas_with ws rs a u old new b z h = elim (int_tells b a) [
  | inl q ↦ ap (value_in rs) q.1 ∙ new z (same_change u (Delta z) (sym (ap (λ t. cond t (Some u) (change_in ws b)) q.0) ∙ (sym (change_with ws a u b) ∙ h)))
  | inr q ↦ old b z (sym (ap (λ t. cond t (Some u) (change_in ws b)) q.0) ∙ (sym (change_with ws a u b) ∙ h))
]
  where
    same_change : (x y : Change) → Some x ≡ Some y → x ≡ y
    same_change x y e = cc

pub kept_set : (x y : Inside) (i : ℕ) (w : Written) (a : ℤ) (u : Change) → IsKept x → y.read_places ≡ x.read_places → y.reads ≡ x.reads → y.write_places ≡ x.write_places → y.writes.items ≡ slice_set x.writes.items i (record { at = a; change = u }) → vec_capacity y.writes ≡ vec_capacity x.writes →
    slice_get x.writes.items i ≡ Some w → w.at ≡ a → ((z : ℤ) → u ≡ Delta z → value_in x.reads.items a ≡ None) → IsKept y × (y.writes.items ≡ with_change x.writes.items a u)
kept_set x y i w a u k rp rs wp ws cap h e unread =
    let put : slice_set x.writes.items i (record { at = a; change = u }) ≡ with_change x.writes.items a u = set_changes x.writes.items i w a u h e (subst AreDifferent k.write_places k.writes_differ) in (
      record {
        read_places = rp ∙ k.read_places ∙ ap (λ v. map (λ (r : Read). r.at) v.items) (sym rs);
        write_places = wp ∙ k.write_places ∙ sym (ap (map (λ (v : Written). v.at)) ws ∙ keys_set (λ (v : Written). v.at) x.writes.items i w (record { at = a; change = u }) h (sym e));
        reads_differ = subst AreDifferent (sym rp) k.reads_differ;
        writes_differ = subst AreDifferent (sym wp) k.writes_differ;
        deltas = λ b z g. ap (λ v. value_in v.items b) rs ∙ deltas_with x.writes.items x.reads.items a u k.deltas unread b z (sym (ap (λ l. change_in l b) (ws ∙ put)) ∙ g);
        read_room = subst (λ v. 256 ≤ vec_capacity v) (sym rs) k.read_room;
        write_room = subst (λ n. 256 ≤ n) (sym cap) k.write_room;
      },
      ws ∙ put,
    )

pub kept_new : (x y : Inside) (a : ℤ) (u : Change) → IsKept x → y.read_places ≡ x.read_places → y.reads ≡ x.reads → y.write_places ≡ x.write_places ++ a ∷ [] → y.writes.items ≡ x.writes.items ++ record { at = a; change = u } ∷ [] → vec_capacity y.writes ≡ vec_capacity x.writes →
    change_in x.writes.items a ≡ None → ((z : ℤ) → u ≡ Delta z → value_in x.reads.items a ≡ None) → IsKept y × (y.writes.items ≡ with_change x.writes.items a u)
kept_new x y a u k rp rs wp ws cap none unread =
    let put : x.writes.items ++ record { at = a; change = u } ∷ [] ≡ with_change x.writes.items a u = push_changes x.writes.items a u none in (
      record {
        read_places = rp ∙ k.read_places ∙ ap (λ v. map (λ (r : Read). r.at) v.items) (sym rs);
        write_places = wp ∙ ap (λ l. l ++ a ∷ []) k.write_places ∙ sym (ap (map (λ (v : Written). v.at)) ws ∙ keys_push (λ (v : Written). v.at) x.writes.items (record { at = a; change = u }));
        reads_differ = subst AreDifferent (sym rp) k.reads_differ;
        writes_differ = subst AreDifferent (sym wp) (different_push x.write_places a k.writes_differ (λ i g. change_unlisted x.writes.items a none i (sym (ap (λ l. slice_get l i) k.write_places) ∙ g)));
        deltas = λ b z g. ap (λ v. value_in v.items b) rs ∙ deltas_with x.writes.items x.reads.items a u k.deltas unread b z (sym (ap (λ l. change_in l b) (ws ∙ put)) ∙ g);
        read_room = subst (λ v. 256 ≤ vec_capacity v) (sym rs) k.read_room;
        write_room = subst (λ n. 256 ≤ n) (sym cap) k.write_room;
      },
      ws ∙ put,
    )

pub kept_read : (x y : Inside) (a v : ℤ) → IsKept x → y.read_places ≡ x.read_places ++ a ∷ [] → y.reads.items ≡ x.reads.items ++ record { at = a; value = v } ∷ [] → vec_capacity y.reads ≡ vec_capacity x.reads → y.write_places ≡ x.write_places → y.writes ≡ x.writes →
    value_in x.reads.items a ≡ None → ((z : ℤ) → change_in x.writes.items a ≢ Some (Delta z)) → IsKept y
kept_read x y a v k rp rs cap wp ws none settled =
    record {
      read_places = rp ∙ ap (λ l. l ++ a ∷ []) k.read_places ∙ sym (ap (map (λ (r : Read). r.at)) rs ∙ keys_push (λ (r : Read). r.at) x.reads.items (record { at = a; value = v }));
      write_places = wp ∙ k.write_places ∙ ap (λ l. map (λ (w : Written). w.at) l.items) (sym ws);
      reads_differ = subst AreDifferent (sym rp) (different_push x.read_places a k.reads_differ (λ i g. value_unlisted x.reads.items a none i (sym (ap (λ l. slice_get l i) k.read_places) ∙ g)));
      writes_differ = subst AreDifferent (sym wp) k.writes_differ;
      deltas = λ b z g.
          let was : change_in x.writes.items b ≡ Some (Delta z) = ap (λ l. change_in l.items b) (sym ws) ∙ g in
          ap (λ l. value_in l b) rs ∙ value_push x.reads.items a v b (λ e. settled z (ap (change_in x.writes.items) (sym e) ∙ was)) ∙ k.deltas b z was;
      read_room = subst (λ n. 256 ≤ n) (sym cap) k.read_room;
      write_room = subst (λ l. 256 ≤ vec_capacity l) (sym ws) k.write_room;
    }

-- after a delta was settled there is none
pub none_left : (ws : List Written) (a v y z : ℤ) → change_in (with_change ws a (Stored y)) a ≢ Some (Delta z)
none_left ws a v y z h = elim (int_tells a a) [
  | inl q ↦ let bad : Some (Stored y) ≡ Some (Delta z) = sym (ap (λ t. cond t (Some (Stored y)) (change_in ws a)) q.0) ∙ (sym (change_with ws a (Stored y) a) ∙ h) in absurd cc
  | inr q ↦ absurd (q.1 refl)
]

pub settled_away : (ws : List Written) (a v z : ℤ) → change_in (settled_changes ws a v (change_in ws a)) a ≢ Some (Delta z)
settled_away ws a v z h = from (change_in ws a) refl h
  where
    from : (o : Option Change) → change_in ws a ≡ o → change_in (settled_changes ws a v o) a ≢ Some (Delta z)
    from None is g = let bad = sym is ∙ g in cc
    from (Some (Stored y)) is g = let bad = sym is ∙ g in cc
    from (Some (Delta y)) is g = none_left ws a v (cell_sum v y) z g
