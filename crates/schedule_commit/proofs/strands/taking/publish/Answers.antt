use Rattle.std.proofs.Common.{◌≡◌, ◌∙◌, ap, ℕ, List, Result, sym, subst, arith, refl}
use Rattle.std.specs.Prelude.{Ok, Err, OnErr}
use Rattle.cactus.specs.declared.node.Link.{Link}
use Rattle.cactus.specs.Chain.{AddsChain, GrowsChain}
use Rattle.cactus.specs.Frames.{Frames}
use Rattle.schedule_workers.specs.Follows.{Follows}
use Rattle.schedule_workers.specs.declared.activation.Activation.{Activation}
use Rattle.schedule_workers.proofs.Uses.{follows_same}
use Rattle.schedule_commit.proofs.strands.Taken.{begins, committed_follows, counted, counts, does, ends, hand_within, lives, regions, registers, room, row, stalls, within}
use Rattle.schedule_commit.proofs.strands.taking.publish.Goals as goal

-- the frames as they stood, whose lists were taken from those that are gone
added : (old mid new : Frames Activation) (slot : ℕ) (links : List (Link Activation)) (slots : List ℕ) → mid ≡ old → AddsChain mid new slot links slots → AddsChain old new slot links slots
added old mid new slot links slots same adds = subst (λ (f : Frames Activation). AddsChain f new slot links slots) same adds

grown : (old mid new : Frames Activation) (slot : ℕ) (links : List (Link Activation)) → mid ≡ old → GrowsChain mid new slot links → GrowsChain old new slot links
grown old mid new slot links same grows = subst (λ (f : Frames Activation). GrowsChain f new slot links) same grows

on_refusal : {X E P : Type 0} (r : Result X E) → P → OnErr r P
on_refusal (Ok x) p = tt
on_refusal (Err e) p = p

pub links_of-requires : goal.links_of-requires
links_of-requires c = regions c.args.program.now c.args.places.now _ c.requires.text c.args.run.now c.args.strand.now c.args.worker c.in-Some.slot c.in-Some.ensures.fits c.requires.way c.requires.safe

pub add_chain-requires : goal.add_chain-requires
add_chain-requires c =
    let fit = room c.args.program.now c.args.places.now _ c.requires.text c.args.run.now c.args.strand.now c.args.worker c.in-Some.slot c.in-Some.ensures.fits c.requires.way c.requires.safe in
    let many = c.in_ok-links.ensures.links.many in
    let same = ap (λ (f : Frames Activation). f.made) c.links_of.ensures.same in
    omega (arith, fit, many, same)

pub commit-requires-clause-lives : goal.commit-requires-clause-lives
commit-requires-clause-lives c =
    lives c.args.program.now c.args.places.now _ c.requires.text c.args.run.now c.args.strand.now c.args.worker c.in-Some.slot c.in-Some.ensures.fits c.requires.way c.requires.safe
    c.add_chain.new.self c.in_ok-links.links.items c.in_ok-slots.slots.items (added c.args.run.now.cactus c.links_of.new.cactus c.add_chain.new.self c.in-Some.slot c.in_ok-links.links.items c.in_ok-slots.slots.items c.links_of.ensures.same c.in_ok-slots.ensures.ok)

pub commit-requires-clause-worker : goal.commit-requires-clause-worker
commit-requires-clause-worker c =
    let low = hand_within c.args.run.now.hands.items c.args.worker c.in-Some.slot c.in-Some.ensures.fits.hand in
    let long = c.args.run.now.hands.ok.0 in
    omega (arith, low, long)

pub commit-requires-clause-begins : goal.commit-requires-clause-begins
commit-requires-clause-begins c = begins c.args.program.now c.args.places.now _ c.requires.text c.args.run.now c.args.strand.now c.args.worker c.in-Some.slot c.in-Some.ensures.fits c.requires.way c.requires.safe

pub commit-requires-clause-own : goal.commit-requires-clause-own
commit-requires-clause-own c = ends c.args.program.now c.args.places.now _ c.requires.text c.args.run.now c.args.strand.now c.args.worker c.in-Some.slot c.in-Some.ensures.fits c.requires.way c.requires.safe

pub commit-requires-clause-row : goal.commit-requires-clause-row
commit-requires-clause-row c = row c.args.program.now c.args.places.now _ c.requires.text c.args.run.now c.args.strand.now c.args.worker c.in-Some.slot c.in-Some.ensures.fits c.requires.way c.requires.safe

pub commit-requires-clause-within : goal.commit-requires-clause-within
commit-requires-clause-within c = within c.args.program.now c.args.places.now _ c.requires.text c.args.run.now c.args.strand.now c.args.worker c.in-Some.slot c.in-Some.ensures.fits c.requires.way c.requires.safe

pub commit-requires-clause-registers : goal.commit-requires-clause-registers
commit-requires-clause-registers c =
    registers c.args.program.now c.args.places.now _ c.requires.text c.args.run.now c.args.strand.now c.args.worker c.in-Some.slot c.in-Some.ensures.fits c.requires.way c.requires.safe
    c.add_chain.new.self c.in_ok-links.links.items c.in_ok-slots.slots.items (added c.args.run.now.cactus c.links_of.new.cactus c.add_chain.new.self c.in-Some.slot c.in_ok-links.links.items c.in_ok-slots.slots.items c.links_of.ensures.same c.in_ok-slots.ensures.ok)

pub commit-requires-clause-counts : goal.commit-requires-clause-counts
commit-requires-clause-counts c =
    counts c.args.program.now c.args.places.now _ c.requires.text c.args.run.now c.args.strand.now c.args.worker c.in-Some.slot c.in-Some.ensures.fits c.requires.way c.requires.safe
    c.add_chain.new.self c.in_ok-links.links.items c.in_ok-slots.slots.items (added c.args.run.now.cactus c.links_of.new.cactus c.add_chain.new.self c.in-Some.slot c.in_ok-links.links.items c.in_ok-slots.slots.items c.links_of.ensures.same c.in_ok-slots.ensures.ok)

pub commit-requires-clause-counted : goal.commit-requires-clause-counted
commit-requires-clause-counted c = counted c.args.program.now c.args.places.now _ c.requires.text c.args.run.now c.args.strand.now c.args.worker c.in-Some.slot c.in-Some.ensures.fits c.requires.way c.requires.safe

pub returns-clause-does : goal.returns-clause-does
returns-clause-does c = λ is.
    does c.args.program.now c.args.places.now _ c.requires.text c.args.run.now c.args.strand.now c.args.worker c.in-Some.slot c.in-Some.ensures.fits c.requires.way c.requires.safe
    c.add_chain.new.self c.in_ok-links.links.items c.in_ok-slots.slots.items (added c.args.run.now.cactus c.links_of.new.cactus c.add_chain.new.self c.in-Some.slot c.in_ok-links.links.items c.in_ok-slots.slots.items c.links_of.ensures.same c.in_ok-slots.ensures.ok) c.commit.new.run c.as_slice.result.now c.as_slice.ensures.value c.in_ok-links.ensures.links (grown c.args.run.now.cactus c.links_of.new.cactus c.add_chain.new.self c.in-Some.slot c.in_ok-links.links.items c.links_of.ensures.same c.in_ok-slots.ensures.map) c.commit.ensures

pub returns-clause-stalls : goal.returns-clause-stalls
returns-clause-stalls c = λ is.
    stalls c.args.program.now c.args.places.now _ c.requires.text c.args.run.now c.args.strand.now c.args.worker c.in-Some.slot c.in-Some.ensures.fits c.requires.way c.requires.safe
    c.add_chain.new.self c.in_ok-links.links.items c.in_ok-slots.slots.items (added c.args.run.now.cactus c.links_of.new.cactus c.add_chain.new.self c.in-Some.slot c.in_ok-links.links.items c.in_ok-slots.slots.items c.links_of.ensures.same c.in_ok-slots.ensures.ok) c.commit.new.run c.as_slice.result.now c.as_slice.ensures.value c.in_ok-links.ensures.links (grown c.args.run.now.cactus c.links_of.new.cactus c.add_chain.new.self c.in-Some.slot c.in_ok-links.links.items c.links_of.ensures.same c.in_ok-slots.ensures.map) c.commit.ensures

pub returns-clause-follows : goal.returns-clause-follows
returns-clause-follows c =
    committed_follows c.args.run.now c.commit.new.run c.args.strand.now c.args.worker c.in-Some.slot c.add_chain.new.self c.in_ok-links.links.items c.in_ok-slots.slots.items c.as_slice.result.now (added c.args.run.now.cactus c.links_of.new.cactus c.add_chain.new.self c.in-Some.slot c.in_ok-links.links.items c.in_ok-slots.slots.items c.links_of.ensures.same c.in_ok-slots.ensures.ok) c.as_slice.ensures.value c.commit.ensures

pub returns-in_err-links-clause-follows : goal.returns-in_err-links-clause-follows
returns-in_err-links-clause-follows c = subst (λ (f : Frames Activation). Follows c.args.run.now.cactus f) (sym c.links_of.ensures.same) (follows_same c.args.run.now.cactus)

pub returns-in_err-links-clause-refused : goal.returns-in_err-links-clause-refused
returns-in_err-links-clause-refused c =
    let left : record c.args.run.now { cactus = c.links_of.new.cactus } ≡ c.args.run.now = λ i. record c.args.run.now { cactus = c.links_of.ensures.same i } in
    on_refusal c.from_residual.result left

pub returns-in_err-slots-clause-refused : goal.returns-in_err-slots-clause-refused
returns-in_err-slots-clause-refused c =
    let same = c.in_err-slots.ensures.err ∙ c.links_of.ensures.same in
    let left : record c.args.run.now { cactus = c.add_chain.new.self } ≡ c.args.run.now = λ i. record c.args.run.now { cactus = same i } in
    on_refusal c.from_residual-in_err-slots.result left

pub returns-in_err-slots-clause-follows : goal.returns-in_err-slots-clause-follows
returns-in_err-slots-clause-follows c = subst (λ (f : Frames Activation). Follows c.args.run.now.cactus f) (sym (c.in_err-slots.ensures.err ∙ c.links_of.ensures.same)) (follows_same c.args.run.now.cactus)

pub returns-clause-exactly : goal.returns-clause-exactly
returns-clause-exactly c = ((λ e. (c.in-Some.slot, c.in-Some.ensures.fits)), (λ h. refl))

pub returns-in_default-clause-exactly : goal.returns-in_default-clause-exactly
returns-in_default-clause-exactly c = ((λ e. absurd cc), (λ h. absurd (c.in_default.ensures.only h.0 h.1)))

pub returns-in_default-clause-follows : goal.returns-in_default-clause-follows
returns-in_default-clause-follows c = follows_same c.args.run.now.cactus
