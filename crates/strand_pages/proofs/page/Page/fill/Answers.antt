use Rattle.std.proofs.Common.{◌≡◌, ◌-◌, sym, ◌∙◌, ap, refl, arith, length, drop, List, ℤ}
use Rattle.std.proofs.lemmas.List.{length-drop, length-take}
use Rattle.strand_pages.specs.Paging.{reads_by, writes_by}
use Rattle.strand_pages.proofs.Keeping.{filled_long, near_filled, near_stays, reads_filled, row_before}
use Rattle.strand_pages.proofs.page.Page.fill.Goals as goal

pub returns-then-from-end : goal.returns-then-from-end
returns-then-from-end c =
    let x = c.args.self.now in
    let values = c.args.values.now in
    let from = x.filled in
    let end = length values in
    let long = x.rows.0 in
    let some = c.if-from-end.true in
    let within = c.requires in
    let is = c.copy_from_slice.ensures.after in
    let e = ap (λ (ys : List ℤ). length ys) is in
    let t = length-take (end - from) (drop from values) in
    let d = length-drop from values in
    let few : length c.copy_from_slice.new.self ≡ end - from = omega (arith, e, t, d, some) in
    λ i. record {
      number = x.number;
      near = near_filled x.values c.copy_from_slice.new.self values from end long some within is few (drop (end - from) (drop from x.values)) refl i;
      reads = reads_filled x.values c.copy_from_slice.new.self values from end long some within is few (drop (end - from) (drop from x.values)) x.read x.read_near i;
      writes = writes_by x.stored x.delta x.changes;
    }

pub returns-else-from-end : goal.returns-else-from-end
returns-else-from-end c =
    let x = c.args.self.now in
    λ i. record {
      number = x.number;
      near = near_stays x.values c.args.values.now x.filled c.if-from-end.false i;
      reads = reads_by x.read x.values;
      writes = writes_by x.stored x.delta x.changes;
    }

pub invariant_of-self : goal.invariant_of-self
invariant_of-self c =
    let x = c.args.self.now in
    let values = c.args.values.now in
    let from = x.filled in
    let end = length values in
    let long = x.rows.0 in
    let some = c.if-from-end.true in
    let within = c.requires in
    let is = c.copy_from_slice.ensures.after in
    let e = ap (λ (ys : List ℤ). length ys) is in
    let t = length-take (end - from) (drop from values) in
    let d = length-drop from values in
    let few : length c.copy_from_slice.new.self ≡ end - from = omega (arith, e, t, d, some) in
    let rest = drop (end - from) (drop from x.values) in
    let first = length-drop from x.values in
    let second = length-drop (end - from) (drop from x.values) in
    record {
      rows = (filled_long x.values c.copy_from_slice.new.self values from end long some within is few rest (omega (arith, first, second, long, some)), x.rows.1);
      within = within;
      read_near = λ k on. let near = x.read_near k on in omega (arith, near, some);
      known_is = x.known_is;
      settled = x.settled;
      copied = λ k on off. x.copied k on off ∙ sym (row_before x.values c.copy_from_slice.new.self values from end long some within is few rest k (x.read_near k on));
    }
