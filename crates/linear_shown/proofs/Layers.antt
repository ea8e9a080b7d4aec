-- An index in two lists, as one.
use Rattle.std.proofs.Common.{ℕ, List, ◌++◌}
use Rattle.std.proofs.lemmas.List.Elements.{All-append}
use Rattle.linear.specs.declared.form.Fact.{Fact}
use Rattle.linear_shown.specs.declared.index.Entry.{Entry}
use Rattle.linear_shown.specs.Index.{IsEntry, IsIndex, AreLayers}

pub layers_index : (facts : List Fact) (n : ℕ) (settled recent : List Entry) → AreLayers facts n settled recent → IsIndex facts n (settled ++ recent)
layers_index facts n settled recent layers = record {
  own = All-append (IsEntry facts) settled recent layers.settled.own layers.recent.own;
  kept = layers.kept;
}
