-- Frames that are copies of others, in the same slots.
use Rattle.std.specs.Prelude.{◌≡◌}
use Rattle.std.specs.List.{AllZip}
use Rattle.slab.specs.Slab.{IsSlotClone}
use Rattle.cactus.specs.declared.node.Node.{Node}
use Rattle.cactus.specs.Frames.{Frames}

module _ {F : Type 0} (is_copy : F → F → Type 0) where
  -- the same use of a slot, with a copy of the frame
  pub record IsNodeCopy (node copy : Node F) : Type 0 where
    pub only : copy ≡ record node { frame = copy.frame }
    pub frame : is_copy node.frame copy.frame

  -- each slot has a copy of what the other's has
  pub record AreCopies (frames copies : Frames F) : Type 0 where
    pub nodes : AllZip (IsSlotClone IsNodeCopy) frames.nodes copies.nodes
    pub made : copies.made ≡ frames.made
