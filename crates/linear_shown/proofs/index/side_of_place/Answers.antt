use Rattle.linear_shown.proofs.Summed.{side_read}
use Rattle.linear_shown.proofs.index.side_of_place.Goals as goal

pub returns : goal.returns
returns c =
    let read = side_read c.args.facts.now c.args.place c.index-facts-place.result c.if-place-eq0.false c.requires in record {
      terms = rw (c.side_of.ensures.terms, read);
      constant = rw (c.side_of.ensures.constant, read);
      rising = c.side_of.ensures.rising;
      small = c.side_of.ensures.small;
      small_constant = c.side_of.ensures.small_constant;
    }
