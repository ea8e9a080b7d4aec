use Rattle.std.proofs.Common.{◌≡◌, ◌∙◌, ◌+◌, List, Some, ℤ, length, max, sym, ap, subst}
use Rattle.std.specs.Option.{option_copied_mut}
use Rattle.std.specs.Vec.{with_item}
use Rattle.std.proofs.lemmas.List.{with_items_is}
use Rattle.frame_engine.specs.declared.flat.Flat.{Flat}
use Rattle.strand.specs.Putting.{ArePutInto}
use Rattle.schedule_workers.specs.declared.run.Run.{Run}
use Rattle.schedule_commit.proofs.strands.committing.commit.Goals as goal

pub returns : goal.returns
returns c =
    let k = c.args.run.now in
    let x = c.args.strand.now in
    let row = c.write_into.new.row in
    let after = c.set_hand.new.self in
    let set = c.set_hand.ensures in
    let long : length row ≡ k.cells.cells.len = c.write_into.ensures.long ∙ (ap (λ (xs : List ℤ). length xs) c.as_mut_slice.ensures.value ∙ sym k.cells.cells.ok.0) in
    record {
      was = c.in-Some.base.now;
      stood = sym c.frame_mut.ensures.value ∙ ap option_copied_mut c.in-Some.is;
      base = c.write_base.new.base;
      is_base = c.write_base.ensures;
      cactus = ap (λ (r : Run). r.cactus) set ∙ c.link_up-top.ensures.linked;
      cells =
          subst (λ (cs : Flat). ArePutInto x.cells x.end k.cells.cells.items cs.cells.items) (sym (ap (λ (r : Run). r.cells) set))
          (subst (λ xs. ArePutInto x.cells x.end k.cells.cells.items xs) (sym (with_items_is k.cells.cells row long))
          (subst (λ (old : List ℤ). ArePutInto x.cells x.end old row) c.as_mut_slice.ensures.value c.write_into.ensures));
      only =
          (λ i. record {
            alloc = (set i).alloc;
            cactus = after.cactus;
            cells = after.cells;
            blocks = (set i).blocks;
            end = (set i).end;
            lent = (set i).lent;
            hands = (set i).hands;
            instructions = (set i).instructions + x.done;
            peak = c.max-run.ensures i;
            result = (set i).result;
            moves = (set i).moves;
          })
          ∙ (λ i. record k {
            cactus = after.cactus;
            cells = after.cells;
            hands = with_item k.hands c.args.worker (Some (c.link_up-top.ensures.top i));
            instructions = k.instructions + x.done;
            peak = max (set i).peak x.deepest;
          });
    }
